-- Alone what a draft wants is what the mailbox has of it.
use Rattle.std.proofs.Common.{◌≡◌, ◌∷◌, ◌++◌, [], ℕ, Bool, true, false, List, Option, Some, Ok, Err, refl}
use Rattle.std.specs.Prelude.{if◌then◌else◌}
use Rattle.mh_base.specs.Folders.{is_folder_name, without_plus}
use Rattle.mh_profile.specs.declared.named_value.NamedValue.{NamedValue}
use Rattle.folder_files.specs.declared.place.FilePath.{FilePath}
use Rattle.folder_files.specs.declared.place.Place.TheVariants.{Folder}
use Rattle.folder_files.specs.declared.refusal.Refusal.TheVariants as refusal
use Rattle.file_plans.specs.Contents.{Contents, mailbox_in}
use Rattle.file_plans.specs.Giving.{Gives}
use Rattle.file_plans.specs.Plan.{Hand, Return}
use Rattle.file_plans.specs.Views.{View, by_view}
use Rattle.file_plans.proofs.Onward.{Is}
use Rattle.step_plans.specs.declared.command_fault.CommandFault.TheVariants as fault
use Rattle.mh_drafts.specs.declared.want.Want.{Want}
use Rattle.mh_drafts.specs.declared.want.Want.TheVariants as want
use Rattle.mhbuild_compose.specs.declared.given.Given.{Given}
use Rattle.mhbuild_compose.specs.declared.given.Given.TheVariants as given
use Rattle.draft_contents.specs.Files.{file_read}
use Rattle.draft_contents.specs.Forwards.{folder_named, folder_word, specs_or_current}
use Rattle.draft_contents.specs.Found.{all_found, file_found, folder_found, forward_found, want_found}
use Rattle.draft_contents.specs.Messages.{messages_given}
use Rattle.draft_contents.specs.Wants.{all_given, file_given, forward_given, want_given}
use Rattle.draft_contents.specs.declared.forwarding.Forwarding.{Forwarding}
use Rattle.draft_contents.proofs.FilesFound.{file_finds}
use Rattle.draft_contents.proofs.Finding.{Finds, IsRefusing, finds_then, finds_value, found_so}
use Rattle.draft_contents.proofs.MessagesFound.{messages_finds}

named_refuses : (word : List ℕ) → IsRefusing (folder_named word)
named_refuses word = go (is_folder_name (without_plus word))
  where
    go : (b : Bool) → IsRefusing (if b then Ok (without_plus word) else Err (fault.Refused (refusal.BadFolder word)))
    go true = tt
    go false = (refusal.BadFolder word, refl)

module _ (ns : List ℕ) (c : Contents) (h : Hand) (text path : List ℕ) (f : Forwarding) (entries : List NamedValue) (known : h.context ≡ Some entries) where
  given_finds : (z : View) (file : FilePath) → Is true ns z c → Gives (by_view true) z h text (file_given file) (Finds ns c h text (want_found path f entries (mailbox_in c) (want.File file)))
  unfolding file_given
  given_finds z file is =
      finds_then ns c h text (file_found (mailbox_in c) file) (λ bytes. Ok (given.File bytes)) z (file_read file) (λ bytes. Return (Ok (given.File bytes))) (file_finds ns c h text z is file)
      (λ y bytes e later. finds_value ns c h text (Ok (given.File bytes)) y tt later)

  forward_finds : (z : View) (word : Option (List ℕ)) (specs : List (List ℕ)) → Is true ns z c → Gives (by_view true) z h text (forward_given path f word specs) (Finds ns c h text (forward_found path f entries (mailbox_in c) word specs))
  unfolding forward_given
  forward_finds z word specs is =
      finds_then ns c h text (folder_named (folder_word f word)) _ z (Return (folder_named (folder_word f word))) _ (finds_value ns c h text (folder_named (folder_word f word)) z (named_refuses (folder_word f word)) is)
      (λ y folder e later.
      finds_then ns c h text (folder_found f folder (specs_or_current specs) entries ((mailbox_in c).folders (Folder path folder))) (λ messages. Ok (given.Messages messages)) y (messages_given path f folder (specs_or_current specs)) (λ messages. Return (Ok (given.Messages messages)))
      (messages_finds ns c h text path f entries known folder (specs_or_current specs) y later)
      (λ x messages k last. finds_value ns c h text (Ok (given.Messages messages)) x tt last))

  want_finds : (z : View) (w : Want) → Is true ns z c → Gives (by_view true) z h text (want_given path f w) (Finds ns c h text (want_found path f entries (mailbox_in c) w))
  want_finds z (want.File file) is = given_finds z file is
  want_finds z (want.Messages word specs) is = forward_finds z word specs is

  pub all_find : (before : List Given) (wants : List Want) (z : View) → Is true ns z c → Gives (by_view true) z h text (all_given path f before wants) (Finds ns c h text (all_found path f entries (mailbox_in c) before wants))
  unfolding Gives all_given all_found
  all_find before [] z is = found_so ns c h text (Ok before) z (Ok before) is refl tt
  all_find before (w ∷ wants) z is =
      finds_then ns c h text (want_found path f entries (mailbox_in c) w) (λ given. all_found path f entries (mailbox_in c) (before ++ given ∷ []) wants) z (want_given path f w) (λ given. all_given path f (before ++ given ∷ []) wants) (want_finds z w is)
      (λ y given e later. all_find (before ++ given ∷ []) wants y later)
