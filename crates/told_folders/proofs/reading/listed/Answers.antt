use Rattle.file_plans.specs.Sightings.{has_number}
use Rattle.opening_plans.proofs.Sets.{made_from}
use Rattle.told_folders.proofs.reading.listed.Goals as goal

pub returns : goal.returns
returns c = made_from (λ n. has_number n c.args.names.now) _ c.into_set.result (λ n. rw c.as_slice.ensures at (c.in_ok-noted.ensures n)) c.into_set.ensures.numbers c.into_set.ensures.valid
