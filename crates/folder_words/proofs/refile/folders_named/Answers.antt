use Rattle.std.proofs.Common.{Ok, Err, refl, subst}
use Rattle.folder_words.specs.RefileFolders.{AreNamed}
use Rattle.folder_words.proofs.RefileFolders.{named_fault, none_noted, noted_all, noted_next, noted_wrong}
use Rattle.folder_words.proofs.refile.folders_named.Goals as goal

pub loop-item-init : goal.loop-item-init
loop-item-init c = none_noted _ _ refl refl c.new.ensures

pub returns-in_err-note : goal.returns-in_err-note
returns-in_err-note c =
    named_fault c.args.items.now _ _ c.from_residual.ensures
    (subst (λ l. AreNamed l (Err c.in_err-note.field-0.0)) c.as_slice-item-items.ensures (noted_wrong _ _ _ c.loop-item-test.true c.item-item.is _ c.note.new.named _ c.in_err-note.ensures c.loop-item.invariant))

pub loop-item-preserved : goal.loop-item-preserved
loop-item-preserved c = noted_next _ _ _ c.loop-item-test.true c.item-item.is _ _ _ c.in_ok-note.ensures c.loop-item.invariant

pub returns : goal.returns
returns c = subst (λ l. AreNamed l (Ok c.loop-item.named)) c.as_slice-item-items.ensures (noted_all _ _ _ c.loop-item-test.false c.loop-item.invariant)
