use Rattle.std.proofs.Common.{◌≡◌, sym, ◌∙◌, ap}
use Rattle.mh_base.specs.Folders.{without_plus}
use Rattle.mh_base.proofs.Texts.{judged}
use Rattle.mh_base.proofs.folder.FolderName.read.Goals as goal

pub returns-then-not-is_folder-clause-refused : goal.returns-then-not-is_folder-clause-refused
returns-then-not-is_folder-clause-refused c = λ e. judged c.args.word.now c.as_str.result.now c.as_bytes.result.now c.unmarked-name.result.now c.unmarked-name.utf8 c.as_str.ensures.chars c.unmarked-name.ensures c.as_bytes.ensures.value ∙ sym c.is_folder.ensures ∙ c.if-not-is_folder.true

pub invariant_of-result : goal.invariant_of-result
invariant_of-result c =
    let same : c.in-Ok.text ≡ without_plus c.args.word.now = c.in-Ok.ensures ∙ c.unmarked-name.ensures ∙ ap without_plus c.as_str.ensures.chars in
    rw same (judged c.args.word.now c.as_str.result.now c.as_bytes.result.now c.unmarked-name.result.now c.unmarked-name.utf8 c.as_str.ensures.chars c.unmarked-name.ensures c.as_bytes.ensures.value ∙ sym c.is_folder.ensures ∙ c.if-not-is_folder.false)

pub returns-in-Ok-clause-value : goal.returns-in-Ok-clause-value
returns-in-Ok-clause-value c =
    let same : c.in-Ok.text ≡ without_plus c.args.word.now = c.in-Ok.ensures ∙ c.unmarked-name.ensures ∙ ap without_plus c.as_str.ensures.chars in
    (same, rw same (judged c.args.word.now c.as_str.result.now c.as_bytes.result.now c.unmarked-name.result.now c.unmarked-name.utf8 c.as_str.ensures.chars c.unmarked-name.ensures c.as_bytes.ensures.value ∙ sym c.is_folder.ensures ∙ c.if-not-is_folder.false))
