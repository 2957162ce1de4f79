-- What shows more shows the end of a command that lets several folders go, and what shows that of one that lets one go shows it too.
use Rattle.std.proofs.Common.{List}
use Rattle.folder_files.specs.Deeds.{Deed}
use Rattle.step_plans.specs.declared.command_fault.CommandFault.{CommandFault}
use Rattle.step_plans.specs.declared.command_fault.CommandFault.TheVariants as fault
use Rattle.opening_plans.specs.Endings.{IsEndedBy, IsShownBy, at_once, let_go}
use Rattle.refile_plans.specs.RefileAnswers.{IsEndedFirst, IsShownFirst, none_let_go, one_let_go}

shown_more : (S T : List Deed → Type 0) → ((own : List Deed) → S own → T own) → (own : List Deed) → IsShownFirst S own → IsShownFirst T own
shown_more S T f own (none_let_go s clean) = none_let_go (f own s) clean
shown_more S T f _ (one_let_go {own = older} s lock) = one_let_go (shown_more S T f older s) lock

pub first_more : (S T : CommandFault → List Deed → Type 0) → ((e : CommandFault) (own : List Deed) → S e own → T e own) → (e : CommandFault) (own : List Deed) → IsEndedFirst S e own → IsEndedFirst T e own
first_more S T f (fault.Refused r) own s = shown_more (S (fault.Refused r)) (T (fault.Refused r)) (f (fault.Refused r)) own s
first_more S T f (fault.Faulted which) own s = s
first_more S T f (fault.Locked q) own s = shown_more (S (fault.Locked q)) (T (fault.Locked q)) (f (fault.Locked q)) own s
first_more S T f (fault.Meddled q x) own s = (f (fault.Meddled q x) own s.0, s.1)
first_more S T f fault.Memory own s = s

shown_first : (S : List Deed → Type 0) (own : List Deed) → IsShownBy S own → IsShownFirst S own
shown_first S own (at_once s clean) = none_let_go s clean
shown_first S _ (let_go s clean lock) = one_let_go (none_let_go s clean) lock

pub ended_first : (S : CommandFault → List Deed → Type 0) (e : CommandFault) (own : List Deed) → IsEndedBy S e own → IsEndedFirst S e own
ended_first S (fault.Refused r) own s = shown_first (S (fault.Refused r)) own s
ended_first S (fault.Faulted which) own s = s
ended_first S (fault.Locked q) own s = shown_first (S (fault.Locked q)) own s
ended_first S (fault.Meddled q x) own s = s
ended_first S fault.Memory own s = s
