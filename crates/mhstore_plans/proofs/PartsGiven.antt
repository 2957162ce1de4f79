-- Parts of a command that run alone, one after another: what they say, how they end, and what they leave of the mailbox.
use Rattle.std.proofs.Common.{◌≡◌, ◌≤◌, ◌<◌, ◌^◌, ◌++◌, ℕ, true, false, List, Option, None, Result, Ok, Err, refl, sym, ap, subst, append_assoc}
use Rattle.mh_profile.specs.declared.named_value.NamedValue.{NamedValue}
use Rattle.folder_files.specs.Places.{same_place}
use Rattle.folder_files.specs.declared.place.Place.{Place}
use Rattle.folder_files.specs.declared.place.Place.TheVariants.{Work as WorkPlace}
use Rattle.file_plans.specs.Contents.{Contents, mailbox_in}
use Rattle.file_plans.specs.Giving.{Gives}
use Rattle.file_plans.specs.Mailboxes.{Mailbox}
use Rattle.file_plans.specs.Plan.{Hand, ◌>>=◌}
use Rattle.file_plans.specs.Views.{View, by_view}
use Rattle.file_plans.proofs.Giving.{gives_more, gives_on}
use Rattle.file_plans.proofs.Onward.{Is}
use Rattle.step_plans.specs.Hands.{temp_name}
use Rattle.step_plans.specs.declared.command_fault.CommandFault.{CommandFault}
use Rattle.step_plans.specs.declared.command_fault.CommandFault.TheVariants as fault
use Rattle.command_stages.specs.Texts.{Commanded}
use Rattle.command_stages.specs.Works.{Work}
use Rattle.opening_plans.proofs.WorkGiven.{WorkEnds}
use Rattle.mhstore_plans.specs.StoreOutcome.{then_by, then_work}

-- contents that show this mailbox, and are the first ones but for the current directory, where the run's names to come stand for nothing
pub record At (run : ℕ) (c : Contents) (known : Option (List NamedValue)) (d : Contents) (m : Mailbox) (h : Hand) : Type 0 where
  pub shows : mailbox_in d ≡ m
  pub same : (q : Place) (x : List ℕ) → same_place WorkPlace q ≡ false → d.texts q x ≡ c.texts q x
  pub there : d.there WorkPlace ≡ true
  pub free : (k : ℕ) → h.next ≤ k → k < 2 ^ 64 → d.texts WorkPlace (temp_name run k) ≡ None
  pub context : h.context ≡ known

-- the text of a part, and of what comes behind it
abbrev pub text_by : Result Unit CommandFault → List ℕ → List ℕ → List ℕ
text_by (Ok u) text rest = text ++ rest
text_by (Err e) text rest = text

abbrev pub text_then : Work CommandFault → List ℕ → List ℕ
text_then w rest = text_by w.end w.text rest

assoc_by : (r : Result Unit CommandFault) (a b rest : List ℕ) → text_by r (a ++ b) rest ≡ a ++ text_by r b rest
assoc_by (Ok u) a b rest = append_assoc a b rest
assoc_by (Err e) a b rest = refl

pub then_text : (w : Work CommandFault) (next : Mailbox → Work CommandFault) (rest : List ℕ) → text_then (then_work w next) rest ≡ text_then w (text_then (next w.mailbox) rest)
then_text w next rest = go w.end refl
  where
    go : (r : Result Unit CommandFault) → w.end ≡ r → text_then (then_by w next r) rest ≡ text_by r w.text (text_then (next w.mailbox) rest)
    go (Ok u) is = assoc_by (next w.mailbox).end w.text (next w.mailbox).text rest
    go (Err e) is = ap (λ r. text_by r w.text rest) is

-- and where nothing comes behind the next
pub whole_text : (w : Work CommandFault) (next : Mailbox → Work CommandFault) → (then_work w next).text ≡ text_then w (next w.mailbox).text
whole_text w next = go w.end refl
  where
    go : (r : Result Unit CommandFault) → w.end ≡ r → (then_by w next r).text ≡ text_by r w.text (next w.mailbox).text
    go (Ok u) is = refl
    go (Err e) is = refl

-- an end before the next
pub stopped : (w : Work CommandFault) (next : Mailbox → Work CommandFault) (y : View) (i : Hand) (left : List ℕ) (e : CommandFault) → WorkEnds w y i left (Err e) → WorkEnds (then_work w next) y i left (Err e)
stopped w next y i left (fault.Refused r) f = subst (λ q. WorkEnds (then_by w next q) y i left (Err (fault.Refused r))) (sym f.1) f
stopped w next y i left (fault.Faulted which) f = f
stopped w next y i left (fault.Locked q) f = f
stopped w next y i left (fault.Meddled q x) f = f
stopped w next y i left fault.Memory f = tt

-- the end of the next
pub ended : (w : Work CommandFault) (next : Mailbox → Work CommandFault) → w.end ≡ Ok tt → (y : View) (i : Hand) (left : List ℕ) (r : Result Unit CommandFault) → WorkEnds (next w.mailbox) y i left r → WorkEnds (then_work w next) y i left r
ended w next done y i left r f = subst (λ q. WorkEnds (then_by w next q) y i left r) (sym done) (go r f)
  where
    go : (s : Result Unit CommandFault) → WorkEnds (next w.mailbox) y i left s → WorkEnds (then_by w next (Ok tt)) y i left s
    go (Ok u) g = g
    go (Err (fault.Refused x)) g = g
    go (Err (fault.Faulted which)) g = g
    go (Err (fault.Locked q)) g = g
    go (Err (fault.Meddled q x)) g = g
    go (Err fault.Memory) g = g

module _ (run : ℕ) (c : Contents) (known : Option (List NamedValue)) (ns : List ℕ) where
  -- a part is done, and this is left to be said; or it ends the command
  abbrev pub PartEnds : Work CommandFault → List ℕ → View → Hand → List ℕ → Result Unit CommandFault → Type 0
  PartEnds w rest y i left (Ok u) = (w.end ≡ Ok tt) × (left ≡ rest) × ((d : Contents) × Is true ns y d × At run c known d w.mailbox i)
  PartEnds w rest y i left (Err e) = WorkEnds w y i left (Err e)

  -- the part comes to this work on the mailbox that it finds
  abbrev pub PartGives : Commanded Unit → (Mailbox → Work CommandFault) → Type 0
  PartGives p work = (d : Contents) (m : Mailbox) (z : View) (h : Hand) → Is true ns z d → At run c known d m h → (rest : List ℕ) → Gives (by_view true) z h (text_then (work m) rest) p (PartEnds (work m) rest)

  pub then_gives : (p q : Commanded Unit) (first next : Mailbox → Work CommandFault) → PartGives p first → PartGives q next → PartGives (p >>= (λ done. q)) (λ m. then_work (first m) next)
  then_gives p q first next f g d m z h is at rest =
      subst (λ t. Gives (by_view true) z h t (p >>= (λ done. q)) (PartEnds (then_work w next) rest)) (sym (then_text w next rest))
      (gives_on (by_view true) z h (text_then w (text_then (next w.mailbox) rest)) p (λ done. q) (PartEnds w (text_then (next w.mailbox) rest)) (PartEnds (then_work w next) rest) (f d m z h is at (text_then (next w.mailbox) rest)) on (λ y i left e s. stopped w next y i left e s))
    where
      w : Work CommandFault
      w = first m

      both : w.end ≡ Ok tt → (y : View) (i : Hand) (left : List ℕ) (r : Result Unit CommandFault) → PartEnds (next w.mailbox) rest y i left r → PartEnds (then_work w next) rest y i left r
      both done y i left (Ok u) s = subst (λ k. PartEnds (then_by w next k) rest y i left (Ok u)) (sym done) s
      both done y i left (Err e) s = ended w next done y i left (Err e) s

      on : (y : View) (i : Hand) (left : List ℕ) (u : Unit {0}) → PartEnds w (text_then (next w.mailbox) rest) y i left (Ok u) → Gives (by_view true) y i left q (PartEnds (then_work w next) rest)
      on y i left u s =
          subst (λ t. Gives (by_view true) y i t q (PartEnds (then_work w next) rest)) (sym s.1)
          (gives_more (by_view true) y i (text_then (next w.mailbox) rest) q (PartEnds (next w.mailbox) rest) (PartEnds (then_work w next) rest) (g s.2.0 w.mailbox y i s.2.1 s.2.2 rest) (λ x j l r t. both s.0 x j l r t))
