use Rattle.std.proofs.Common.{subst, Ok}
use Rattle.command_words.specs.Results.{IsOneFolder}
use Rattle.command_words.specs.FolderWords.{folders, one_folder}
use Rattle.command_words.proofs.Items.{seen_more, seen_all}
use Rattle.command_words.proofs.folders.folder_word.Goals as goal

pub loop-item-preserved : goal.loop-item-preserved
loop-item-preserved c =
    seen_more c.as_slice-item-items.result.now c.loop-item.item-index c.item-item.result c.loop-item.found _ c.loop-item-test.true c.item-item.is c.in_ok-found.ensures c.loop-item.invariant

pub returns : goal.returns
returns c =
    subst (λ l. IsOneFolder (one_folder (folders l)) (Ok c.loop-item.found)) c.as_slice-item-items.ensures (seen_all c.as_slice-item-items.result.now c.loop-item.item-index c.loop-item.found c.loop-item-test.false c.loop-item.invariant)
