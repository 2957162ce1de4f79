-- What is read one after another.
use Rattle.std.proofs.Common.{◌≡◌, ◌∷◌, ◌++◌, [], List, ℕ, ◌+◌, ◌<◌, ◌≤◌, Result, Ok, ap, drop, get_or, length}
use Rattle.std.proofs.lemmas.List.{drop_all}
use Rattle.folder_files.specs.declared.place.Place.{Place}
use Rattle.file_plans.specs.Plan.{◌>>=◌}
use Rattle.file_plans.specs.Follows.{State, Follows}
use Rattle.file_plans.proofs.Following.{same_plan, done}
use Rattle.step_plans.specs.CommandFaults.{command_cause}
use Rattle.step_plans.specs.declared.command_fault.CommandFault.{CommandFault}
use Rattle.step_plans.proofs.Rounds.{next}
use Rattle.mh_drafts.specs.declared.want.Want.{Want}
use Rattle.mhbuild_compose.specs.declared.given.Given.{Given}
use Rattle.draft_contents.specs.Messages.{message_read, messages_read}
use Rattle.draft_contents.specs.Wants.{all_given, want_given}
use Rattle.draft_contents.specs.declared.forwarding.Forwarding.{Forwarding}

-- messages
pub one_read : (run : ℕ) (place : Place) (before : List (List ℕ)) (l : List ℕ) (i n : ℕ) (x y : State) (r : Result (List (List ℕ)) CommandFault) → i < length l → n ≡ get_or l i n →
    Follows run command_cause (message_read place n >>= λ message. messages_read place (before ++ message ∷ []) (drop (i + 1) l)) x y r → Follows run command_cause (messages_read place before (drop i l)) x y r
unfolding messages_read
one_read run place before l i n x y r h is f = same_plan _ _ (ap (messages_read place before) (next l i n h is)) f

pub all_read : (run : ℕ) (place : Place) (before : List (List ℕ)) (l : List ℕ) (i : ℕ) (x : State) → length l ≤ i → Follows run command_cause (messages_read place before (drop i l)) x x (Ok before)
unfolding messages_read
all_read run place before l i x h = rw (drop_all i l h) done

-- what a draft wants
pub one_given : (run : ℕ) (mail : List ℕ) (f : Forwarding) (before : List Given) (l : List Want) (i : ℕ) (want : Want) (x y : State) (r : Result (List Given) CommandFault) → i < length l → want ≡ get_or l i want →
    Follows run command_cause (want_given mail f want >>= λ given. all_given mail f (before ++ given ∷ []) (drop (i + 1) l)) x y r → Follows run command_cause (all_given mail f before (drop i l)) x y r
unfolding all_given
one_given run mail f before l i want x y r h is k = same_plan _ _ (ap (all_given mail f before) (next l i want h is)) k

pub none_left : (run : ℕ) (mail : List ℕ) (f : Forwarding) (before : List Given) (l : List Want) (i : ℕ) (x : State) → length l ≤ i → Follows run command_cause (all_given mail f before (drop i l)) x x (Ok before)
unfolding all_given
none_left run mail f before l i x h = rw (drop_all i l h) done
