-- How `refile` follows its plan: the source and the destinations are begun, the work is done, and all are let go.
use Rattle.std.proofs.Common.{◌≡◌, ◌∷◌, [], ℕ, List, Result, Ok, Err, refl, sym, subst}
use Rattle.std.specs.Prelude.{map}
use Rattle.folder_files.specs.declared.place.Place.{Place}
use Rattle.file_plans.specs.Follows.{Follows, State}
use Rattle.file_plans.specs.Plan.{Return, bind, ◌>>=◌}
use Rattle.file_plans.proofs.Following.{refuses}
use Rattle.step_plans.specs.CommandFaults.{command_cause}
use Rattle.step_plans.specs.declared.command_fault.CommandFault.{CommandFault}
use Rattle.step_plans.specs.declared.command_fault.CommandFault.TheVariants as fault
use Rattle.command_stages.specs.Texts.{Commanded}
use Rattle.opening_plans.specs.Opening.{Opened}
use Rattle.refile_plans.specs.Gathering.{Gathered, all_ended, gathered}
use Rattle.refile_plans.specs.Gathers.{EndsAll, GoesOn, WorksIf}
use Rattle.refile_plans.specs.Refile.{gathered_refiled, opened_refiled, places_of}
use Rattle.refile_plans.specs.declared.job.RefileJob.{RefileJob}
use Rattle.refile_plans.proofs.Gathered.{all_ends_so}

module _ (run : ℕ) (path : List ℕ) (job : RefileJob) (o : Opened) where
  -- what comes after the destinations were begun
  abbrev pub then_refiled : Gathered → Commanded Unit
  then_refiled g = bind (gathered_refiled run path job o g) (all_ended (places_of o g))

  module _ (others : List Opened) where
    abbrev places : List Place
    places = o.place ∷ map (λ to. to.place) others

    pub refiled_so : (begun done : Result Unit CommandFault) (y w z : State) (s : Result Unit CommandFault) → WorksIf run (opened_refiled run path job o others) begun y w done → EndsAll run places done w z s → GoesOn run then_refiled others begun y z s
    unfolding bind ◌>>=◌
    refiled_so (Ok u) done y w z s f g = all_ends_so places (opened_refiled run path job o others) done f g
    refiled_so (Err (fault.Refused r)) done y w z s f g = subst (λ v. Follows run command_cause (all_ended places (Err (fault.Refused r))) v z s) f.1 (subst (λ d. EndsAll run places d w z s) f.0 g)
    refiled_so (Err (fault.Faulted c)) done y w z s f g = subst (λ v. (s ≡ Err (fault.Faulted c)) × (z ≡ v)) f.1 (subst (λ d. EndsAll run places d w z s) f.0 g)
    refiled_so (Err (fault.Locked q)) done y w z s f g = subst (λ v. Follows run command_cause (all_ended places (Err (fault.Locked q))) v z s) f.1 (subst (λ d. EndsAll run places d w z s) f.0 g)
    refiled_so (Err (fault.Meddled q n)) done y w z s f g = stays (subst (λ v. (s ≡ Err (fault.Meddled q n)) × (z ≡ v)) f.1 (subst (λ d. EndsAll run places d w z s) f.0 g))
      where
        stays : (s ≡ Err (fault.Meddled q n)) × (z ≡ y) → Follows run command_cause (Return (Err (fault.Meddled q n))) y z s
        stays e = rw (e.0, e.1) (refuses _ refl)
    refiled_so (Err fault.Memory) done y w z s f g = subst (λ v. (s ≡ Err fault.Memory) × (z ≡ v)) f.1 (subst (λ d. EndsAll run places d w z s) f.0 g)
