-- Sequences that were read, as the marks that words see.
use Rattle.std.proofs.Common.{◌≡◌, ℕ, List}
use Rattle.std.specs.Prelude.{Result, Ok, Err, IfOk}
use Rattle.mh_profile.specs.declared.named_value.NamedValue.{NamedValue}
use Rattle.mh_sequences.specs.Reading.{IsReading}
use Rattle.mh_sequences.specs.Sequences.{Marked}
use Rattle.msg_ranges.specs.Selection.{marks_of}
use Rattle.command_stages.specs.Chosen.{marks_in}

pub marks_read : (text : List ℕ) (entries : List NamedValue) (folder : List ℕ) (read : Marked) → IsReading text entries folder read → marks_of read ≡ marks_in text entries folder
marks_read text entries folder read is = λ i. record { has = λ name n. is.numbers name n i; cur = is.cur i }

pub if_read : {E : Type 0} (text : List ℕ) (entries : List NamedValue) (folder : List ℕ) (r : Result Marked E) → IfOk r (λ s. IsReading text entries folder s) → IfOk r (λ s. marks_of s ≡ marks_in text entries folder)
if_read text entries folder (Ok s) is = marks_read text entries folder s is
if_read text entries folder (Err e) is = tt
