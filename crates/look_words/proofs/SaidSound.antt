-- What the words of a command say names a folder by a folder's name, or none; and what they refuse is a refusal.
use Rattle.std.proofs.Common.{ℕ, List, Ok}
use Rattle.mh_profile.specs.declared.named_value.NamedValue.{NamedValue}
use Rattle.look_words.specs.IncWords as inc_words
use Rattle.look_words.specs.IncWords.{inc_items, inc_said}
use Rattle.look_words.specs.ScanWords as scan_words
use Rattle.look_words.specs.ScanWords.{scan_items, scan_said}
use Rattle.look_words.specs.Tables.{inc_table, scan_table}
use Rattle.look_words.specs.declared.inc.IncWords.{IncWords}
use Rattle.look_words.specs.declared.scan.ScanWords.{ScanWords}
use Rattle.command_words.proofs.SaidFolder.{IsValid}
use Rattle.command_words.proofs.Sound.{IsSound, folder_sound, words_sound}

abbrev pub ScanValid : ScanWords → Type 0
ScanValid said = IsValid said.folder

pub scan_sound : (profile : List NamedValue) (words : List (List ℕ)) → IsSound ScanValid (scan_said profile words)
scan_sound profile words = words_sound ScanValid scan_items scan_table _ (λ items. folder_sound ScanValid (λ folder. Ok (scan_words.words_of folder items)) _ _ (λ folder valid. valid))

abbrev pub IncValid : IncWords → Type 0
IncValid said = IsValid said.folder

pub inc_sound : (profile : List NamedValue) (words : List (List ℕ)) → IsSound IncValid (inc_said profile words)
inc_sound profile words = words_sound IncValid inc_items inc_table _ (λ items. folder_sound IncValid (λ folder. Ok (inc_words.words_of folder items)) _ _ (λ folder valid. valid))
