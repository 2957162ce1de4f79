-- Each message that a run puts is a file of its own: no name of the run is put twice.
use Rattle.std.proofs.Common.{◌≡◌, ◌∷◌, [], ℕ, true, List, refl, ap, subst}
use Rattle.mh_base.specs.Entries.{kind_of}
use Rattle.mh_base.specs.declared.entry.Entry.{Entry}
use Rattle.mh_base.specs.declared.entry.Entry.TheVariants as entry
use Rattle.folder_files.specs.Careful.{IsLook, Keeps, Kind, WasMade, WasPutFrom, WasSynced, creates, gives, links, puts}
use Rattle.folder_files.specs.Deeds.{Deed, did, now, on}
use Rattle.folder_files.specs.Named.{is_held, is_temp_of, is_work}
use Rattle.folder_files.specs.Places.{is_folder}
use Rattle.folder_files.specs.declared.place.Place.{Place}
use Rattle.folder_files.specs.declared.place.Place.TheVariants as place
use Rattle.folder_files.specs.declared.step.Answer.{Answer}
use Rattle.folder_files.specs.declared.step.Answer.TheVariants as answer
use Rattle.folder_files.specs.declared.step.Step.{Step}
use Rattle.folder_files.specs.declared.step.Step.TheVariants as step
use Rattle.file_plans.specs.StaysCareful.{IsOwnStep, careful, only_looks}
use Rattle.step_plans.specs.Pledges.{MayAsk, Pledge}
use Rattle.step_plans.proofs.Past.{did_step}
use Rattle.message_puts.proofs.PutPledged.{IsPutBy, Tries, made_ready, tried, untried}

-- where the deed makes a file, it was not made before
abbrev pub IsNew : Deed → List Deed → Type 0
IsNew d older = (q : Place) (temp bytes : List ℕ) → d ≡ did (step.Create q temp bytes) answer.Done → WasMade q temp older → ⊥

abbrev pub AllNew : List Deed → Type 0
AllNew [] = Unit {0}
AllNew (d ∷ own) = IsNew d own × AllNew own

-- each name that the run put it had made, and it made none twice
pub record AreOnce (run : ℕ) (own : List Deed) : Type 0 where
  pub made : (q : Place) (temp : List ℕ) → WasPutFrom run q temp own → WasMade q temp own
  pub new : AllNew own

pub none_once : (run : ℕ) → AreOnce run []
none_once run = record { made = λ q temp z. elim z [ ]; new = tt }

was_made : (q : Place) (temp : List ℕ) (own : List Deed) → WasSynced q temp own → WasMade q temp own
was_made q temp _ (now f) = on f.1
was_made q temp _ (on {own = older} z) = on (was_made q temp older z)

unheld : (run : ℕ) (k : Entry) → is_temp_of run k ≡ true → is_held k ≡ true → ⊥
unheld run (entry.Temp r n) e f = cc (f)
unheld run (entry.Number n) e f = cc (e)
unheld run (entry.Backup n) e f = cc (e)
unheld run (entry.Held r n) e f = cc (e)
unheld run entry.Sequences e f = cc (e)
unheld run entry.LockFile e f = cc (e)
unheld run entry.Other e f = cc (e)

no_work : (q : Place) → is_folder q ≡ true → is_work q ≡ true → ⊥
no_work place.Home e f = cc (e)
no_work place.Work e f = cc (e)
no_work (place.Mail path) e f = cc (e)
no_work (place.Folder path name) e f = cc (f)

linked_made : (run : ℕ) (own : List Deed) (q : Place) (temp number : List ℕ) (kind : Kind) → Keeps run own kind (step.Link q temp number) → is_temp_of run (kind_of temp) ≡ true → is_folder q ≡ true → WasMade q temp own
linked_made run own q temp number kind (puts p t n m) is folder = was_made q temp own m.2.1
linked_made run own q temp number kind (gives p t n m) is folder = absurd (unheld run (kind_of temp) is m.1)
linked_made run own q temp number kind (links p t n m) is folder = absurd (no_work q folder m.0)

own_made : (w : Pledge) (own : List Deed) (q : Place) (temp number : List ℕ) (s : Step) → IsOwnStep w.run w.manner own s → s ≡ step.Link q temp number → is_temp_of w.run (kind_of temp) ≡ true → is_folder q ≡ true → WasMade q temp own
own_made w own q temp number s (only_looks looks) e is folder = absurd (subst IsLook e looks)
own_made w own q temp number s (careful unfailed kind keeps makes orderly) e is folder = linked_made w.run own q temp number kind (subst (λ z. Keeps w.run own kind z) e keeps) is folder

created_new : (run : ℕ) (own : List Deed) (q : Place) (temp bytes : List ℕ) (kind : Kind) → Keeps run own kind (step.Create q temp bytes) → WasMade q temp own → ⊥
created_new run own q temp bytes kind (creates p t b m) was = m.1 was

own_new : (w : Pledge) (own : List Deed) (q : Place) (temp bytes : List ℕ) (s : Step) → IsOwnStep w.run w.manner own s → s ≡ step.Create q temp bytes → WasMade q temp own → ⊥
own_new w own q temp bytes s (only_looks looks) e was = subst IsLook e looks
own_new w own q temp bytes s (careful unfailed kind keeps makes orderly) e was = created_new w.run own q temp bytes kind (subst (λ z. Keeps w.run own kind z) e keeps) was

-- each step that a pledge lets be keeps it so
pub once_asked : (w : Pledge) (own : List Deed) (s : Step) (a : Answer) → MayAsk w own s → AreOnce w.run own → AreOnce w.run (did s a ∷ own)
once_asked w own s a may f = record { made = made; new = (λ q temp bytes e was. own_new w own q temp bytes s may.is_own (did_step e) was, f.new) }
  where
    made : (q : Place) (temp : List ℕ) → WasPutFrom w.run q temp (did s a ∷ own) → WasMade q temp (did s a ∷ own)
    made q temp (now l) = on (own_made w own q temp l.0 s may.is_own (did_step l.1) l.2 l.4)
    made q temp (on z) = on (f.made q temp z)

-- a put makes and links a name that was not put before
put_before : (run : ℕ) (p : Place) (temp : List ℕ) (base older : List Deed) → Tries p temp base older → WasPutFrom run p temp older → WasPutFrom run p temp base
put_before run p temp base _ untried z = z
put_before run p temp base _ (tried n t) (now l) = absurd (let e : answer.Exists ≡ answer.Done = ap (λ d. d.answer) l.1 in cc (e))
put_before run p temp base _ (tried {own = older} n t) (on z) = put_before run p temp base older t z

put_first : (run : ℕ) (p : Place) (temp bytes : List ℕ) (own : List Deed) → WasPutFrom run p temp (made_ready p temp bytes own) → WasPutFrom run p temp own
put_first run p temp bytes own (now l) = absurd (let e = did_step l.1 in cc (e))
put_first run p temp bytes own (on (now l)) = absurd (let e = did_step l.1 in cc (e))
put_first run p temp bytes own (on (on z)) = z

new_before : (p : Place) (temp : List ℕ) (base older : List Deed) → Tries p temp base older → AllNew older → AllNew base
new_before p temp base _ untried f = f
new_before p temp base _ (tried {own = older} n t) f = new_before p temp base older t f.1

pub first_put : (run : ℕ) (p : Place) (bytes : List ℕ) (own later : List Deed) (m : ℕ) (b : IsPutBy run p bytes own m later) → AreOnce run own → AllNew later → WasPutFrom run p b.temp b.link.older → ⊥
first_put run p bytes own later m b f new was =
    let all : AllNew b.linked = (subst AllNew b.deeds new).1 in
    let rest : AllNew b.link.older = (subst AllNew b.link.deeds all).1 in
    let base : AllNew (made_ready p b.temp bytes own) = new_before p b.temp (made_ready p b.temp bytes own) b.link.older b.link.tries rest in
    base.1.0 p b.temp bytes refl (f.made p b.temp (put_first run p b.temp bytes own (put_before run p b.temp (made_ready p b.temp bytes own) b.link.older b.link.tries was)))
