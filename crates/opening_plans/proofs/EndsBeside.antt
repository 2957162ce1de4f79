-- The end of a command beside its output.
use Rattle.std.proofs.Common.{ℕ, Result, Ok, Err, ap}
use Rattle.mh_base.specs.Streams.{SinkState}
use Rattle.folder_files.specs.Story.{FilesState}
use Rattle.folder_files.specs.declared.place.Place.{Place}
use Rattle.file_plans.specs.Plan.{Hand}
use Rattle.file_plans.specs.Follows.{by_hand, by_out}
use Rattle.file_plans.proofs.Following.{whole}
use Rattle.step_plans.specs.declared.command_fault.CommandFault.{CommandFault}
use Rattle.step_plans.specs.declared.command_fault.CommandFault.TheVariants as fault
use Rattle.opening_plans.specs.Ending.{Ends}

pub ends_whole : (run : ℕ) (p : Place) (r s : Result Unit CommandFault) (h : Hand) (f g : FilesState) (o : SinkState) → Ends run p r (by_hand h f) (by_hand h g) s → Ends run p r (by_out h f o) (by_out h g o) s
ends_whole run p (Ok u) s h f g o e = whole e
ends_whole run p (Err (fault.Refused r)) s h f g o e = whole e
ends_whole run p (Err (fault.Faulted w)) s h f g o e = (e.0, ap (λ x. by_out h x.files o) e.1)
ends_whole run p (Err (fault.Locked q)) s h f g o e = whole e
ends_whole run p (Err (fault.Meddled q n)) s h f g o e = (e.0, ap (λ x. by_out h x.files o) e.1)
ends_whole run p (Err fault.Memory) s h f g o e = (e.0, ap (λ x. by_out h x.files o) e.1)
