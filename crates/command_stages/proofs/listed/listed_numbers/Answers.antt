use Rattle.std.proofs.Common.{◌≡◌, ◌∙◌}
use Rattle.mh_sequences.specs.Runs.{numbers_of}
use Rattle.mh_sequences.proofs.Bools.{if_ok_then}
use Rattle.msg_ranges.proofs.Selected.{numbers_where}
use Rattle.file_plans.specs.Sightings.{has_number}
use Rattle.command_stages.specs.Listed.{numbers_listed}
use Rattle.command_stages.proofs.listed.listed_numbers.Goals as goal

pub returns : goal.returns
returns c =
    if_ok_then _ _ (λ s. numbers_of s.runs ≡ numbers_listed c.args.names.now) c.into_set.result
    (λ s same valid. numbers_where s.runs (λ n. has_number n c.args.names.now) valid (λ n. same n ∙ c.in_ok-noted.ensures n)) c.into_set.ensures.numbers c.into_set.ensures.valid
