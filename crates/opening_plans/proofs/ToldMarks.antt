-- What a folder's text and a context tell, without the numbers that are not listed.
use Rattle.std.proofs.Common.{◌≡◌, ◌<◌, ◌&&◌, ◌∷◌, [], ℕ, Bool, true, false, List, Option, refl, sym, ◌∙◌, arith, bytes_eq}
use Rattle.std.specs.Prelude.{IfSome, None, Some, codes, nat_lt, if◌then◌else◌}
use Rattle.std.specs.List.{find}
use Rattle.std.proofs.lemmas.Bool.Decides.{Decides-ltb}
use Rattle.mh_base.specs.Entries.{kind_of}
use Rattle.mh_base.specs.Numbers.{IsMsgNum, decimal_of, in_range}
use Rattle.mh_base.specs.declared.entry.Entry.TheVariants.{Number}
use Rattle.mh_profile.specs.Reading.{entries_in}
use Rattle.mail_headers.specs.Fields.{FieldText, fields_of}
use Rattle.mail_headers.specs.Unfolding.{unfolded}
use Rattle.mh_sequences.specs.Lists.{is_listed, items}
use Rattle.mh_sequences.specs.Reading.{cur_in, first_or}
use Rattle.mh_sequences.specs.Runs.{has}
use Rattle.mh_sequences.specs.Sequences.{AreSequences, member}
use Rattle.mh_sequences.specs.declared.run.Run.{Run}
use Rattle.folder_files.proofs.Names.{both}
use Rattle.sequence_commits.specs.Cutting.{cut_to}
use Rattle.sequence_commits.specs.Reading.{sequences_in}
use Rattle.sequence_commits.proofs.CutOnce.{cut_is, cut_valid}
use Rattle.sequence_commits.proofs.ReadOnce.{read_valid}
use Rattle.opening_plans.specs.FolderPledge.{told_within}
use Rattle.opening_plans.proofs.CommitMinds.{Within}

-- the current message that a text tells of is a message number
ranged : (o : Option ℕ) → IfSome (in_range o) IsMsgNum
ranged None = tt
ranged (Some n) = go (nat_lt 0 n) (nat_lt n 1000000) refl refl
  where
    go : (low high : Bool) → nat_lt 0 n ≡ low → nat_lt n 1000000 ≡ high → IfSome (if low && high then Some n else None) IsMsgNum
    go true true e f = let a : 0 < n = (Decides-ltb 0 n).0 e in let b : n < 1000000 = (Decides-ltb n 1000000).0 f in (omega (arith, a), omega (arith, b))
    go true false e f = tt
    go false high e f = tt

number_or : (o : Option (List ℕ)) (later : Option ℕ) → IfSome later IsMsgNum → IfSome (first_or o later) IsMsgNum
number_or None later f = f
number_or (Some item) later f = ranged (decimal_of item)

pub cur_valid : (fields : List FieldText) → IfSome (cur_in fields) IsMsgNum
cur_valid [] = tt
cur_valid (f ∷ fs) = go (bytes_eq f.name (codes "cur")) (cur_valid fs)
  where
    go : (b : Bool) → IfSome (cur_in fs) IsMsgNum → IfSome (if b then first_or (find is_listed (items (unfolded f.value))) (cur_in fs) else cur_in fs) IsMsgNum
    go true rest = number_or (find is_listed (items (unfolded f.value))) (cur_in fs) rest
    go false rest = rest

pub read_cur : (text context folder : List ℕ) → IfSome (sequences_in text (entries_in context) folder).cur IsMsgNum
unfolding sequences_in
read_cur text context folder = cur_valid (fields_of text)

pub told_valid : (listing : List Run) (text context folder : List ℕ) → AreSequences (told_within listing text context folder).users
told_valid listing text context folder = cut_valid listing (sequences_in text (entries_in context) folder)

pub told_cur : (listing : List Run) (text context folder : List ℕ) → IfSome (told_within listing text context folder).cur IsMsgNum
unfolding cut_to sequences_in
told_cur listing text context folder = cur_valid (fields_of text)

-- a name of a number that is listed
abbrev pub InListing : List Run → List ℕ → Type 0
InListing listing z = (n : ℕ) × (kind_of z ≡ Number n) × (has listing n ≡ true)

pub told_listed : (listing : List Run) (text context folder sequence : List ℕ) (n : ℕ) → member (told_within listing text context folder).users sequence n ≡ true → has listing n ≡ true
told_listed listing text context folder sequence n e =
    let m = sequences_in text (entries_in context) folder in
    (both (member m.users sequence n) (has listing n) (sym ((cut_is listing m (read_valid text (entries_in context) folder)).numbers sequence n) ∙ e)).1

pub told_in : (listing : List Run) (text context folder : List ℕ) → Within (InListing listing) (told_within listing text context folder)
told_in listing text context folder z n sequence kind e = (n, kind, told_listed listing text context folder sequence n e)
