use Rattle.std.proofs.Common.{◌≡◌, Some, map, subst}
use Rattle.std.specs.Prelude.{slice_get}
use Rattle.std.specs.Str.{encode_utf8_all}
use Rattle.std.proofs.lemmas.Result.{err_from_is_err_and}
use Rattle.mh_sequences.specs.Runs.{numbers_of}
use Rattle.msg_ranges.specs.Selecting.{IsSelection, folder_of}
use Rattle.mh_sequences.proofs.Bools.{if_ok_then}
use Rattle.msg_ranges.proofs.Selected.{refusal_is, union_value}
use Rattle.msg_ranges.proofs.Selections.{same_selection, word_at, all_taken, none_selected, select_more, refuse}
use Rattle.msg_ranges.proofs.selecting.select.Goals as goal

pub loop-index-init : goal.loop-index-init
loop-index-init c = none_selected _ (map encode_utf8_all c.args.specs.now) c.new-selected.result c.new-selected.ensures

pub returns-in_err-set-clause-refusal : goal.returns-in_err-set-clause-refusal
returns-in_err-set-clause-refusal c =
    let p = err_from_is_err_and c.from_residual.result c.from_residual.ensures.1 in
    let at : slice_get (map encode_utf8_all c.args.specs.now) c.loop-index.index ≡ Some (encode_utf8_all c.word-item.result) =
    word_at encode_utf8_all c.args.specs.now c.loop-index.index c.word-item.result (rw c.as_slice-word-items.ensures at c.loop-index-test.true) (rw c.as_slice-word-items.ensures at c.word-item.is) in
    rw (p.1, p.2) (refuse _ (map encode_utf8_all c.args.specs.now) c.loop-index.index (encode_utf8_all c.word-item.result) c.loop-index.selected c.in_err-set.field-0.0 at c.loop-index.invariant c.in_err-set.ensures)

pub loop-index-preserved : goal.loop-index-preserved
loop-index-preserved c =
    let at : slice_get (map encode_utf8_all c.args.specs.now) c.loop-index.index ≡ Some (encode_utf8_all c.word-item.result) =
    word_at encode_utf8_all c.args.specs.now c.loop-index.index c.word-item.result (rw c.as_slice-word-items.ensures at c.loop-index-test.true) (rw c.as_slice-word-items.ensures at c.word-item.is) in
    select_more _ (map encode_utf8_all c.args.specs.now) c.loop-index.index (encode_utf8_all c.word-item.result) c.loop-index.selected c.in_ok-set.set.runs c.add_set.new.self at c.loop-index.invariant c.in_ok-set.ensures c.in_ok-add_set.ensures

pub returns-clause-selection : goal.returns-clause-selection
returns-clause-selection c =
    let is : IsSelection (folder_of c.args.negation.now (numbers_of c.args.listing.now.runs) c.args.sequences.now) (map encode_utf8_all c.args.specs.now) c.loop-index.selected =
    subst (λ ws. IsSelection (folder_of c.args.negation.now (numbers_of c.args.listing.now.runs) c.args.sequences.now) ws c.loop-index.selected)
    (all_taken encode_utf8_all c.args.specs.now c.loop-index.index (rw c.as_slice-word-items.ensures at c.loop-index-test.false)) c.loop-index.invariant in
    if_ok_then _ _ (λ s. IsSelection (folder_of c.args.negation.now (numbers_of c.args.listing.now.runs) c.args.sequences.now) (map encode_utf8_all c.args.specs.now) s.runs) c.union.result
    (λ s same whole. same_selection (folder_of c.args.negation.now (numbers_of c.args.listing.now.runs) c.args.sequences.now) (map encode_utf8_all c.args.specs.now) c.loop-index.selected s.runs is same)
    c.union.ensures.set c.union.ensures.set

pub returns-in_err-set-clause-whole : goal.returns-in_err-set-clause-whole
returns-in_err-set-clause-whole c =
    let p = err_from_is_err_and c.from_residual.result c.from_residual.ensures.1 in
    let at : slice_get (map encode_utf8_all c.args.specs.now) c.loop-index.index ≡ Some (encode_utf8_all c.word-item.result) =
    word_at encode_utf8_all c.args.specs.now c.loop-index.index c.word-item.result (rw c.as_slice-word-items.ensures at c.loop-index-test.true) (rw c.as_slice-word-items.ensures at c.word-item.is) in
    rw (p.1, p.2)
    (refusal_is _ (map encode_utf8_all c.args.specs.now) c.in_err-set.field-0.0 (refuse _ (map encode_utf8_all c.args.specs.now) c.loop-index.index (encode_utf8_all c.word-item.result) c.loop-index.selected c.in_err-set.field-0.0 at c.loop-index.invariant c.in_err-set.ensures))

pub returns-clause-whole : goal.returns-clause-whole
returns-clause-whole c =
    union_value (folder_of c.args.negation.now (numbers_of c.args.listing.now.runs) c.args.sequences.now) (map encode_utf8_all c.args.specs.now) c.union.result (returns-clause-selection c) c.union.ensures.valid c.union.ensures.memory
