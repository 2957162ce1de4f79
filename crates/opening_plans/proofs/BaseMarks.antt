-- Once a folder is begun, its text marks only numbers of messages.
use Rattle.std.proofs.Common.{◌≡◌, ◌||◌, ℕ, true, List, ◌∙◌, ap, subst}
use Rattle.mail_headers.specs.Fields.{fields_of}
use Rattle.mh_profile.specs.Reading.{entries_in}
use Rattle.mh_sequences.specs.Names.{is_seq_name}
use Rattle.mh_sequences.specs.Printing.{text_of}
use Rattle.mh_sequences.specs.Reading.{lists_private, lists_public, suffix}
use Rattle.mh_sequences.specs.Runs.{has}
use Rattle.mh_sequences.specs.Sequences.{member}
use Rattle.mh_sequences.specs.declared.run.Run.{Run}
use Rattle.folder_files.proofs.Names.{both}
use Rattle.sequence_marks.specs.SequenceMarks.{says_public}
use Rattle.sequence_commits.specs.Reading.{sequences_in}
use Rattle.sequence_commits.specs.Telling.{same_told}
use Rattle.sequence_commits.proofs.ReadOnce.{read_is, read_valid}
use Rattle.sequence_commits.proofs.ToldAlike.{told_same}
use Rattle.opening_plans.specs.FolderPledge.{told_within}
use Rattle.opening_plans.proofs.ToldMarks.{read_cur, told_cur, told_listed, told_valid}
use Rattle.opening_plans.proofs.MarksWritten.{and_both, text_marks}

-- what a text marks is a member of what it tells
pub read_marks : (text context folder sequence : List ℕ) (n : ℕ) → says_public sequence text n ≡ true → member (sequences_in text (entries_in context) folder).users sequence n ≡ true
read_marks text context folder sequence n e =
    let parts = both (is_seq_name sequence) (lists_public (fields_of text) sequence n) e in
    (read_is text (entries_in context) folder).numbers sequence n
    ∙ and_both (is_seq_name sequence) (lists_public (fields_of text) sequence n || lists_private (entries_in context) (suffix folder) sequence n) parts.0
    (ap (λ b. b || lists_private (entries_in context) (suffix folder) sequence n) parts.1)

-- where nothing was to be committed, the sequences that were read are what is left of them
pub same_marks : (listing : List Run) (text context folder sequence : List ℕ) (n : ℕ) → same_told folder (sequences_in text (entries_in context) folder) (told_within listing text context folder) ≡ true
    → says_public sequence text n ≡ true → has listing n ≡ true
same_marks listing text context folder sequence n same e =
    told_listed listing text context folder sequence n
    (subst (λ m. member m.users sequence n ≡ true)
    (told_same folder (sequences_in text (entries_in context) folder) (told_within listing text context folder) (read_valid text (entries_in context) folder) (told_valid listing text context folder) (read_cur text context folder)
    (told_cur listing text context folder) same)
    (read_marks text context folder sequence n e))

-- else their text was committed
pub cut_marks : (listing : List Run) (text context folder sequence : List ℕ) (n : ℕ) → says_public sequence (text_of (told_within listing text context folder)) n ≡ true → has listing n ≡ true
cut_marks listing text context folder sequence n e =
    told_listed listing text context folder sequence n (text_marks (told_within listing text context folder) (told_valid listing text context folder) (told_cur listing text context folder) sequence n e)
