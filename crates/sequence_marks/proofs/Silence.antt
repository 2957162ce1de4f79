-- An empty text marks nothing, and the texts are committed ones.
use Rattle.std.proofs.Common.{◌≡◌, ℕ, ◌&&◌, Bool, true, false, List, [], refl}
use Rattle.mh_base.specs.Entries.{kind_of}
use Rattle.mail_headers.specs.Fields.{fields_of}
use Rattle.mh_profile.specs.Lines.{folded_lines}
use Rattle.mh_profile.specs.Reading.{entries_in}
use Rattle.mh_sequences.specs.Names.{is_seq_name}
use Rattle.folder_files.specs.Named.{is_committed}
use Rattle.sequence_marks.specs.SequenceMarks.{says_public, says_private, public_marks, private_marks}

none_so : (b : Bool) → (b && false) ≡ false
none_so true = refl
none_so false = refl

pub public_silent : (sequence : List ℕ) (n : ℕ) → says_public sequence [] n ≡ false
unfolding fields_of
public_silent sequence n = none_so (is_seq_name sequence)

pub private_silent : (folder sequence : List ℕ) (n : ℕ) → says_private folder sequence [] n ≡ false
unfolding entries_in folded_lines
private_silent folder sequence n = none_so (is_seq_name sequence)

pub public_committed : (mail folder sequence : List ℕ) → is_committed (public_marks mail folder sequence).place (public_marks mail folder sequence).name ≡ true
unfolding kind_of
public_committed mail folder sequence = refl

pub private_committed : (mail folder sequence : List ℕ) → is_committed (private_marks mail folder sequence).place (private_marks mail folder sequence).name ≡ true
private_committed mail folder sequence = refl
