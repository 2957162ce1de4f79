use Rattle.std.proofs.Common.{◌++◌}
use Rattle.std.proofs.lemmas.Result.{err_from_is_err_and}
use Rattle.mh_words.proofs.TableItems.{items_of}
use Rattle.mh_words.proofs.OneOutcome.{fault_admits, fault_fails}
use Rattle.mh_words.proofs.OneReading.{reads_same, reads_fails}
use Rattle.mh_words.proofs.IsReading.{whole_is, whole_read}
use Rattle.mh_words.proofs.reading.read_words.Goals as goal

pub returns-in_err-items-clause-admits : goal.returns-in_err-items-clause-admits
returns-in_err-items-clause-admits c =
    let p = err_from_is_err_and c.from_residual.result c.from_residual.ensures.1 in
    let fault = rw (c.as_slice.ensures, c.as_slice-2.ensures) at c.in_err-items.ensures in
    rw (p.1, p.2) (λ items reads. fault_admits c.args.table.now (c.args.profile_words.now ++ c.args.words.now) c.in_err-items.field-0.0 items fault reads)

pub returns-in_err-items-clause-fails : goal.returns-in_err-items-clause-fails
returns-in_err-items-clause-fails c =
    let p = err_from_is_err_and c.from_residual.result c.from_residual.ensures.1 in
    let fault = rw (c.as_slice.ensures, c.as_slice-2.ensures) at c.in_err-items.ensures in
    rw (p.1, p.2) (λ bad why fails. fault_fails c.args.table.now (c.args.profile_words.now ++ c.args.words.now) c.in_err-items.field-0.0 bad why fault fails)

pub returns-clause-admits : goal.returns-clause-admits
returns-clause-admits c =
    let read = rw (c.as_slice.ensures, c.as_slice-2.ensures) at c.in_ok-items.ensures in
    λ items reads. reads_same c.args.table.now read reads

pub returns-clause-fails : goal.returns-clause-fails
returns-clause-fails c =
    let read = rw (c.as_slice.ensures, c.as_slice-2.ensures) at c.in_ok-items.ensures in
    λ bad why fails. reads_fails c.args.table.now read fails

pub returns-clause-known : goal.returns-clause-known
returns-clause-known c =
    let read = rw (c.as_slice.ensures, c.as_slice-2.ensures) at c.in_ok-items.ensures in
    items_of c.args.table.now read

pub returns-in_err-items-clause-whole : goal.returns-in_err-items-clause-whole
returns-in_err-items-clause-whole c =
    whole_is c.args.table.now (c.args.profile_words.now ++ c.args.words.now) _ (returns-in_err-items-clause-admits c) (returns-in_err-items-clause-fails c)

pub returns-clause-whole : goal.returns-clause-whole
returns-clause-whole c =
    let read = rw (c.as_slice.ensures, c.as_slice-2.ensures) at c.in_ok-items.ensures in
    whole_read c.args.table.now _ _ read
