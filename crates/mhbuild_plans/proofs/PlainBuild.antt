-- But for hearing its input and for saying its message `mhbuild` only asks: each step of it ends it where it fails, and it neither speaks nor hears.
use Rattle.std.proofs.Common.{◌++◌, ◌∷◌, [], ℕ, List, Option}
use Rattle.mh_base.specs.Entries.{entry_text}
use Rattle.mh_base.specs.declared.entry.Entry.TheVariants.{Sequences, Number}
use Rattle.folder_files.specs.Named.{original_of}
use Rattle.folder_files.specs.declared.place.FilePath.{FilePath}
use Rattle.folder_files.specs.declared.place.Place.{Place}
use Rattle.folder_files.specs.declared.place.Place.TheVariants.{Folder, Work}
use Rattle.folder_files.specs.declared.step.Step.TheVariants as step
use Rattle.file_plans.specs.Asking.{list, read, read_file}
use Rattle.file_plans.specs.Plan.{Recall, Return}
use Rattle.file_plans.specs.declared.answers.Listing.{Listing}
use Rattle.file_plans.specs.declared.answers.Listing.TheVariants as listing
use Rattle.file_plans.specs.declared.answers.Reading.{Reading}
use Rattle.file_plans.specs.declared.answers.Reading.TheVariants as reading
use Rattle.step_plans.specs.CommandFaults.{of_stop}
use Rattle.step_plans.specs.ContextCommit.{LIMIT_BYTES}
use Rattle.command_stages.specs.Listed.{folder_listed, names_by}
use Rattle.command_stages.specs.Texts.{text_by, text_read}
use Rattle.sequence_commits.proofs.NeverFailed.{IsPlain, plain_ask, plain_lifted, plain_renamed, plain_return, plain_synced, plain_then, plain_written}
use Rattle.mh_drafts.specs.declared.want.Want.{Want}
use Rattle.mh_drafts.specs.declared.want.Want.TheVariants as want
use Rattle.mhbuild_compose.specs.declared.given.Given.{Given}
use Rattle.draft_contents.specs.Files.{file_by, file_read}
use Rattle.draft_contents.specs.Forwards.{chosen_seen, folder_named, folder_word, specs_or_current}
use Rattle.draft_contents.specs.Messages.{message_by, message_read, messages_given, messages_read}
use Rattle.draft_contents.specs.Wants.{all_given, file_given, forward_given, want_given}
use Rattle.draft_contents.specs.declared.forwarding.Forwarding.{Forwarding}
use Rattle.draft_files.specs.Drafts.{draft_by, draft_read}
use Rattle.draft_files.specs.Limits.{within_limit}
use Rattle.draft_files.specs.Replacing.{draft_replaced, of_work, set_in_place}
use Rattle.mhbuild_plans.specs.Building.{text_built}
use Rattle.mhbuild_plans.specs.Composed.{composed}
use Rattle.mhbuild_plans.specs.Parsed.{parsed}
use Rattle.mhbuild_plans.specs.declared.job.BuildJob.{BuildJob}
use Rattle.mh_profile.specs.Reading.{entries_seen}

-- a text
plain_text : (r : Reading) → IsPlain (text_by r)
plain_text (reading.Content bytes) = plain_return _
plain_text (reading.Long l) = plain_return _
plain_text reading.Gone = plain_return _

pub plain_text_read : (p : Place) (x : List ℕ) → IsPlain (text_read p x)
unfolding text_read read
plain_text_read p x = plain_then _ _ (plain_lifted of_stop _ (plain_then _ _ (plain_ask _ (step.Read p x LIMIT_BYTES)) (λ a. plain_return _))) plain_text

-- a file
plain_file : (path : FilePath) (r : Reading) → IsPlain (file_by path r)
plain_file path (reading.Content bytes) = plain_return _
plain_file path (reading.Long l) = plain_return _
plain_file path reading.Gone = plain_return _

plain_file_read : (path : FilePath) → IsPlain (file_read path)
unfolding file_read read_file
plain_file_read path = plain_then _ _ (plain_lifted of_stop _ (plain_then _ _ (plain_ask _ (step.ReadFile path LIMIT_BYTES)) (λ a. plain_return _))) (plain_file path)

plain_file_given : (path : FilePath) → IsPlain (file_given path)
unfolding file_given
plain_file_given path = plain_then _ _ (plain_file_read path) (λ bytes. plain_return _)

-- messages
plain_message : (p : Place) (n : ℕ) (r : Reading) → IsPlain (message_by p n r)
plain_message p n (reading.Content bytes) = plain_return _
plain_message p n (reading.Long l) = plain_return _
plain_message p n reading.Gone = plain_return _

plain_message_read : (p : Place) (n : ℕ) → IsPlain (message_read p n)
unfolding message_read read
plain_message_read p n = plain_then _ _ (plain_lifted of_stop _ (plain_then _ _ (plain_ask _ (step.Read p (entry_text (Number n)) LIMIT_BYTES)) (λ a. plain_return _))) (plain_message p n)

plain_messages_read : (p : Place) (before : List (List ℕ)) (ns : List ℕ) → IsPlain (messages_read p before ns)
unfolding messages_read
plain_messages_read p before [] = plain_return _
plain_messages_read p before (n ∷ ns) = plain_then _ _ (plain_message_read p n) (λ message. plain_messages_read p (before ++ message ∷ []) ns)

plain_listing : (folder : List ℕ) (l : Listing) → IsPlain (names_by folder l)
plain_listing folder (listing.Names names) = plain_return _
plain_listing folder listing.Gone = plain_return _

plain_listed : (p : Place) (folder : List ℕ) → IsPlain (folder_listed p folder)
unfolding folder_listed list
plain_listed p folder = plain_then _ _ (plain_lifted of_stop _ (plain_then _ _ (plain_ask _ (step.List p)) (λ a. plain_return _))) (plain_listing folder)

plain_numbers : (f : Forwarding) (folder : List ℕ) (specs names : List (List ℕ)) (text : List ℕ) → IsPlain (Recall (λ h. Return (chosen_seen f.negation folder specs names text (entries_seen h.context))))
unfolding IsPlain
plain_numbers f folder specs names text = λ h. tt

plain_messages_given : (mail : List ℕ) (f : Forwarding) (folder : List ℕ) (specs : List (List ℕ)) → IsPlain (messages_given mail f folder specs)
unfolding messages_given
plain_messages_given mail f folder specs =
    plain_then _ _ (plain_listed (Folder mail folder) folder) (λ names.
    plain_then _ _ (plain_text_read (Folder mail folder) (entry_text Sequences)) (λ text.
    plain_then _ _ (plain_numbers f folder specs names text) (λ numbers. plain_messages_read (Folder mail folder) [] numbers)))

plain_forward : (mail : List ℕ) (f : Forwarding) (word : Option (List ℕ)) (specs : List (List ℕ)) → IsPlain (forward_given mail f word specs)
unfolding forward_given
plain_forward mail f word specs =
    plain_then _ _ (plain_return (folder_named (folder_word f word))) (λ folder.
    plain_then _ _ (plain_messages_given mail f folder (specs_or_current specs)) (λ messages. plain_return _))

-- what a draft wants
plain_want : (mail : List ℕ) (f : Forwarding) (w : Want) → IsPlain (want_given mail f w)
plain_want mail f (want.File path) = plain_file_given path
plain_want mail f (want.Messages word specs) = plain_forward mail f word specs

plain_wants : (mail : List ℕ) (f : Forwarding) (before : List Given) (wants : List Want) → IsPlain (all_given mail f before wants)
unfolding all_given
plain_wants mail f before [] = plain_return _
plain_wants mail f before (w ∷ wants) = plain_then _ _ (plain_want mail f w) (λ given. plain_wants mail f (before ++ given ∷ []) wants)

-- the draft
plain_draft : (name : List ℕ) (r : Reading) → IsPlain (draft_by name r)
plain_draft name (reading.Content bytes) = plain_return _
plain_draft name (reading.Long l) = plain_return _
plain_draft name reading.Gone = plain_return _

pub plain_draft_read : (name : List ℕ) → IsPlain (draft_read name)
unfolding draft_read read
plain_draft_read name = plain_then _ _ (plain_lifted of_stop _ (plain_then _ _ (plain_ask _ (step.Read Work name LIMIT_BYTES)) (λ a. plain_return _))) (plain_draft name)

-- its message
pub plain_built : (run : ℕ) (mail : List ℕ) (job : BuildJob) (text : List ℕ) → IsPlain (text_built run mail job text)
unfolding text_built
plain_built run mail job text =
    plain_then _ _ (plain_return (parsed text)) (λ draft. plain_then _ _ (plain_wants mail job.forwarding [] draft.wants) (λ givens. plain_return (within_limit (composed run draft givens))))

plain_set : (run : ℕ) (name message : List ℕ) → IsPlain (set_in_place run name message)
unfolding set_in_place
plain_set run name message =
    plain_then _ _ (plain_written run Work message) (λ temp.
    plain_then _ _ (plain_renamed Work name (original_of name)) (λ aside. plain_then _ _ (plain_renamed Work temp name) (λ moved. plain_synced Work name)))

pub plain_replaced : (run : ℕ) (name message : List ℕ) → IsPlain (draft_replaced run name message)
unfolding draft_replaced
plain_replaced run name message = plain_then _ _ (plain_lifted (of_work name) (set_in_place run name message) (plain_set run name message)) (λ set. plain_return _)
