-- What a draft wants is read, in its order.
use Rattle.std.specs.Prelude.{ℕ, List, [], ◌∷◌, ◌++◌, Option, Ok}
use Rattle.folder_files.specs.declared.place.FilePath.{FilePath}
use Rattle.file_plans.specs.Plan.{Return, ◌>>=◌}
use Rattle.command_stages.specs.Texts.{Commanded}
use Rattle.mh_drafts.specs.declared.want.Want.{Want}
use Rattle.mh_drafts.specs.declared.want.Want.TheVariants as want
use Rattle.mhbuild_compose.specs.declared.given.Given.{Given}
use Rattle.mhbuild_compose.specs.declared.given.Given.TheVariants as given
use Rattle.draft_contents.specs.Files.{file_read}
use Rattle.draft_contents.specs.Forwards.{folder_named, folder_word, specs_or_current}
use Rattle.draft_contents.specs.Messages.{messages_given}
use Rattle.draft_contents.specs.declared.forwarding.Forwarding.{Forwarding}

-- a file's bytes
unfoldable pub file_given : FilePath → Commanded Given
file_given path = do
  bytes ← file_read path
  Return (Ok (given.File bytes))

-- the messages that these words choose, of the folder that its word names, or else of the current one
unfoldable pub forward_given : List ℕ → Forwarding → Option (List ℕ) → List (List ℕ) → Commanded Given
forward_given mail f word specs = do
  folder ← Return (folder_named (folder_word f word))
  messages ← messages_given mail f folder (specs_or_current specs)
  Return (Ok (given.Messages messages))

abbrev pub want_given : List ℕ → Forwarding → Want → Commanded Given
want_given mail f (want.File path) = file_given path
want_given mail f (want.Messages word specs) = forward_given mail f word specs

-- all that is wanted, one after another, behind what was given before
unfoldable pub all_given : List ℕ → Forwarding → List Given → List Want → Commanded (List Given)
all_given mail f before [] = Return (Ok before)
all_given mail f before (want ∷ wants) = do
  given ← want_given mail f want
  all_given mail f (before ++ given ∷ []) wants
