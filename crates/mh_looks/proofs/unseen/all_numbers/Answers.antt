use Rattle.std.proofs.Common.{◌≡◌, ◌∙◌, ℕ}
use Rattle.std.proofs.lemmas.Result.{IfOk-weaker}
use Rattle.mh_sequences.specs.Runs.{has}
use Rattle.mh_sequences.specs.Sequences.{member}
use Rattle.message_lines.specs.Standings.{is_marked_in}
use Rattle.mh_looks.proofs.UnseenNumbers.{united_all, united_more, united_none}
use Rattle.mh_looks.proofs.unseen.all_numbers.Goals as goal

pub loop-name-init : goal.loop-name-init
loop-name-init c = united_none (member c.args.sequences.now.users) c.new-pile.result c.args.names.now c.new-pile.ensures

pub loop-name-preserved : goal.loop-name-preserved
loop-name-preserved c =
    united_more (is_marked_in (member c.args.sequences.now.users) c.args.names.now) (member c.args.sequences.now.users) c.loop-name.pile c.add_named.new.pile c.args.names.now c.loop-name.name-index c.name-item.result c.loop-name-test.true
    c.name-item.is c.in_ok-add_named.ensures c.loop-name.invariant

pub returns : goal.returns
returns c =
    IfOk-weaker c.into_set.result (λ s. (n : ℕ) → has s.runs n ≡ has c.loop-name.pile n)
    (λ s. (n : ℕ) → has s.runs n ≡ is_marked_in (member c.args.sequences.now.users) c.args.names.now n)
    (λ s e n. e n ∙ united_all (is_marked_in (member c.args.sequences.now.users) c.args.names.now) (member c.args.sequences.now.users) c.loop-name.pile c.args.names.now c.loop-name.name-index c.loop-name-test.false c.loop-name.invariant n)
    c.into_set.ensures.numbers
