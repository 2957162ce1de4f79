-- Words that are refused.
use Rattle.std.proofs.Common.{◌≡◌, ℕ, List, [], ◌∷◌, Option, None, Some, Result, Ok, Err, refl, sym, ◌∙◌, ap, subst}
use Rattle.format_compiler.specs.Grammar.{Format}
use Rattle.folder_files.specs.declared.place.FilePath.{FilePath}
use Rattle.folder_files.specs.declared.step.Answer.{Answer}
use Rattle.file_plans.specs.Asking.{reading_of}
use Rattle.step_plans.specs.declared.command_fault.CommandFault.{CommandFault}
use Rattle.step_plans.proofs.Refusals.{IsRefusal}
use Rattle.message_lines.specs.Finding.{format_by}
use Rattle.message_lines.specs.MessageText.{Sight, Writing}
use Rattle.message_lines.specs.declared.standing.Standing.{Standing}
use Rattle.command_words.specs.declared.ended.Ended.{Ended}
use Rattle.command_plans.specs.Command.{no_command}
use Rattle.command_plans.specs.CommandNames.{named}
use Rattle.command_plans.specs.Profile.{entries_by, path_by}
use Rattle.command_plans.specs.Looking.{InFile, Known, Telling, written_by, written_with}
use Rattle.command_ends.specs.WordCauses.{IsRefusedByWords, by_format, by_words, file_in, named_file, named_refusal, refusal_in, words_file}
use Rattle.command_plans.specs.declared.caller.Caller.{Caller}
use Rattle.command_plans.specs.declared.name.CommandName.{CommandName}
use Rattle.command_ends.proofs.BegunParts.{after_context, after_profile}
use Rattle.command_plans.proofs.LookFound.{file_refuses, look_deeds}

-- what words say is their refusal
pub refusal_of : {A : Type 0} (value : Result A Ended) (x : Ended) → value ≡ Err x → refusal_in value ≡ Some x.fault
refusal_of value x is = ap refusal_in is

-- the words of this command are refused
pub refused_by : (caller : Caller) (words : List (List ℕ)) (a : Answer) (word : List ℕ) (rest : List (List ℕ)) → words ≡ word ∷ rest → (n : Option CommandName) → named word ≡ n → (e : CommandFault)
    → named_refusal caller (entries_by a) rest n ≡ Some e → IsRefusedByWords caller words e (after_profile a)
refused_by caller words a word rest is n name e r = subst (λ ws. IsRefusedByWords caller ws e (after_profile a)) (sym is) (by_words (ap (named_refusal caller (entries_by a) rest) name ∙ r))

-- there are none
pub refused_none : (caller : Caller) (words : List (List ℕ)) (a : Answer) → words ≡ [] → IsRefusedByWords caller words (no_command None).fault (after_profile a)
refused_none caller words a is = subst (λ ws. IsRefusedByWords caller ws (no_command None).fault (after_profile a)) (sym is) (by_words refl)

-- the words of this command name the file of a format
pub file_by : (caller : Caller) (words : List (List ℕ)) (a : Answer) (word : List ℕ) (rest : List (List ℕ)) → words ≡ word ∷ rest → (n : Option CommandName) → named word ≡ n → (file : FilePath)
    → named_file caller (entries_by a) rest n ≡ Some file → words_file caller (entries_by a) words ≡ Some file
file_by caller words a word rest is n name file f = ap (words_file caller (entries_by a)) is ∙ (ap (named_file caller (entries_by a) rest) name ∙ f)

-- and it was read, and is refused
err_same : (x e : CommandFault) → ◌≡◌ {A = Result (Standing → Writing) CommandFault} (Err x) (Err e) → x ≡ e
err_same x e is = cc

unread : (sight : Sight) (value : Result Format CommandFault) (e : CommandFault) → written_with sight value ≡ Err e → value ≡ Err e
unread sight (Ok f) e is = absurd (cc (is))
unread sight (Err x) e is = ap (λ z. Err z) (err_same x e is)

pub format_shown : (caller : Caller) (words : List (List ℕ)) (a b c : Answer) (t : Telling) (e : CommandFault) → written_by t c ≡ Err e → ((file : FilePath) → file_in t ≡ Some file → words_file caller (entries_by a) words ≡ Some file)
    → IsRefusal e × IsRefusedByWords caller words e (look_deeds t c (after_context (path_by a) a b))
format_shown caller words a b c (Known spoken) e is file = absurd (cc (is))
format_shown caller words a b c (InFile path sight) e is file =
    let wrong : format_by path (reading_of c) ≡ Err e = unread sight (format_by path (reading_of c)) e is in
    (file_refuses path (reading_of c) e wrong, by_format {a = a} {b = b} {c = c} (file path refl) wrong)
