use Rattle.std.proofs.Common.{map, subst}
use Rattle.std.specs.List.Sorted.{IsPermutation}
use Rattle.mh_sequences.specs.FieldNames.{is_name_in}
use Rattle.mh_sequences.specs.Sequences.{told}
use Rattle.mh_sequences.specs.Mentions.{IsRunAdded}
use Rattle.mh_sequences.proofs.Gathered.{all_gathered, gather_begun, mention_gathered, mention_here}
use Rattle.mh_sequences.proofs.gathering.gather.Goals as goal

pub loop-mention-init : goal.loop-mention-init
loop-mention-init c = gather_begun (is_name_in c.args.names.now) c.as_slice-mention-items.result.now c.new-users.result.items c.new-users.ensures.items

pub add_run-requires-clause-users : goal.add_run-requires-clause-users
add_run-requires-clause-users c = c.loop-mention.invariant.valid

pub add_run-requires-clause-name : goal.add_run-requires-clause-name
add_run-requires-clause-name c =
    let moved : IsPermutation c.args.mentions c.as_slice-mention-items.result.now = rw c.as_slice-mention-items.ensures.value c.in_order-ordered.ensures in
    (mention_here c.args.mentions c.as_slice-mention-items.result.now c.loop-mention.mention-index c.mention-item.result moved c.requires c.loop-mention-test.true c.mention-item.is).name

pub add_run-requires-clause-run : goal.add_run-requires-clause-run
add_run-requires-clause-run c =
    let moved : IsPermutation c.args.mentions c.as_slice-mention-items.result.now = rw c.as_slice-mention-items.ensures.value c.in_order-ordered.ensures in
    (mention_here c.args.mentions c.as_slice-mention-items.result.now c.loop-mention.mention-index c.mention-item.result moved c.requires c.loop-mention-test.true c.mention-item.is).run

pub loop-mention-preserved : goal.loop-mention-preserved
loop-mention-preserved c =
    let moved : IsPermutation c.args.mentions c.as_slice-mention-items.result.now = rw c.as_slice-mention-items.ensures.value c.in_order-ordered.ensures in
    mention_gathered (is_name_in c.args.names.now) c.as_slice-mention-items.result.now c.loop-mention.mention-index c.mention-item.result (map told c.loop-mention.users.items) (map told c.add_run.new.users.items)
    (mention_here c.args.mentions c.as_slice-mention-items.result.now c.loop-mention.mention-index c.mention-item.result moved c.requires c.loop-mention-test.true c.mention-item.is).name
    c.loop-mention-test.true c.mention-item.is
    (subst (λ p. IsRunAdded c.mention-item.result.name.now c.mention-item.result.run p (map told c.loop-mention.users.items) (map told c.add_run.new.users.items)) c.has-public.ensures c.in_ok-add_run.ensures.added)
    c.loop-mention.invariant

pub returns : goal.returns
returns c =
    let moved : IsPermutation c.args.mentions c.as_slice-mention-items.result.now = rw c.as_slice-mention-items.ensures.value c.in_order-ordered.ensures in
    all_gathered (is_name_in c.args.names.now) c.args.mentions c.as_slice-mention-items.result.now c.loop-mention.mention-index (map told c.loop-mention.users.items) moved c.loop-mention-test.false c.loop-mention.invariant
