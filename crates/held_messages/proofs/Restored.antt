-- A folder that is listed and settled: what is left of its contents, alone and beside other runs.
use Rattle.std.proofs.Common.{◌≡◌, ℕ, ◌≤◌, Bool, true, false, List, [], ◌∷◌, Option, Some, None, Result, Ok, Err, refl, sym, ◌∙◌, ap, subst}
use Rattle.std.specs.Prelude.{is_some}
use Rattle.mh_base.specs.Entries.{kind_of}
use Rattle.folder_files.specs.Named.{is_held}
use Rattle.folder_files.specs.Standing.{is_standing}
use Rattle.folder_files.specs.Steps.{has_text}
use Rattle.folder_files.specs.declared.place.Place.{Place}
use Rattle.folder_files.specs.declared.step.Step.TheVariants as step
use Rattle.folder_files.specs.declared.step.Answer.TheVariants as answer
use Rattle.folder_files.proofs.Names.{or_left, held_stands}
use Rattle.file_plans.specs.Contents.{Contents, IsListingIn}
use Rattle.file_plans.specs.Giving.{Table, Gives}
use Rattle.file_plans.specs.Plan.{Hand, Return, bind, ◌>>=◌}
use Rattle.file_plans.specs.Views.{Unseen, Listed, View, view_after, fits_view, by_view}
use Rattle.file_plans.specs.declared.answers.Listing.{Listing}
use Rattle.file_plans.proofs.Giving.{gives_on}
use Rattle.file_plans.proofs.Viewing.{list_view}
use Rattle.step_plans.specs.PlanFaults.{of_stop, Planned}
use Rattle.step_plans.specs.declared.fault.PlanFault.{PlanFault}
use Rattle.step_plans.specs.declared.fault.PlanFault.TheVariants as fault
use Rattle.held_messages.specs.declared.held.HeldPair.{HeldPair}
use Rattle.held_messages.specs.HeldPairs.{held_pairs, homes, numbers_in}
use Rattle.held_messages.specs.Highest.{highest}
use Rattle.held_messages.specs.Settle as plans
use Rattle.held_messages.specs.Settle.{names_by, put_back, settle, settled_in, settled_of}
use Rattle.held_messages.proofs.ListedPairs.{ArePairs, are_apart, are_pairs, pairs_listed, pairs_ordered}
use Rattle.held_messages.proofs.Linking.{Quits, AreListed, AreUnread, Has}
use Rattle.held_messages.proofs.Homecoming.{AreEnds, AllThere, WentAll, Settled, settle_gives}
use Rattle.held_messages.proofs.Telling.{Lists, TellsHeld, all_there, all_unread, folder_taken, held_told, highest_small, list_tells, lists_listed, sight_of, taken_in}

-- the folder was there, its names are these, and the contents are those after settling; alone each went where it goes
-- alone
pub record IsRestored (alone : Bool) (own : ℕ) (p : Place) (c : Contents) (ns : List ℕ) (s : plans.Settled) (z : View) : Type 0 where
  pub there : alone ≡ true → c.there p ≡ true
  pub listing : alone ≡ true → IsListingIn c p s.names
  pub holds : TellsHeld c p s.names
  pub ends_so : AreEnds (held_pairs own s.names) s.ends
  pub numbers : ns ≡ numbers_in s.ends z.numbers
  pub homes : alone ≡ true → s.ends ≡ homes (taken_in c p) (highest s.names) (held_pairs own s.names)
  pub contents : z.contents ≡ settled_in c p (held_pairs own s.names) s.ends
  pub listed : AreListed p z

-- it ends early where a name was taken away meanwhile, or where the folder isn't there
abbrev pub Misses : Bool → Place → Contents → PlanFault → Type 0
Misses alone p c fault.Faulted = ⊥
Misses alone p c (fault.Locked q) = ⊥
Misses alone p c (fault.Meddled q n) = alone ≡ true → ⊥
Misses alone p c fault.Full = ⊥
Misses alone p c (fault.Absent q) = alone ≡ true → c.there p ≡ false
Misses alone p c (fault.TooLarge l) = ⊥
Misses alone p c fault.Memory = ⊥

quits_misses : (alone : Bool) (p : Place) (c : Contents) (e : PlanFault) → Quits alone e → Misses alone p c e
quits_misses alone p c fault.Faulted f = f
quits_misses alone p c (fault.Locked q) f = f
quits_misses alone p c (fault.Meddled q n) f = f
quits_misses alone p c fault.Full f = f
quits_misses alone p c (fault.Absent q) f = absurd f
quits_misses alone p c (fault.TooLarge l) f = f
quits_misses alone p c fault.Memory f = f

abbrev pub Restores : Bool → ℕ → Place → Contents → List ℕ → View → Hand → List ℕ → Result plans.Settled PlanFault → Type 0
Restores alone own p c ns z j left (Ok s) = IsRestored alone own p c ns s z
Restores alone own p c ns z j left (Err e) = Misses alone p c e

-- a part that is Ok at once, and one that is refused
on_ok : {S A B : Type 0} (t : Table S) (s : S) (h : Hand) (text : List ℕ) (a : A) (k : A → Planned B) (Q : S → Hand → List ℕ → Result B PlanFault → Type 0) → Gives t s h text (k a) Q → Gives t s h text (Return (Ok a) >>= k) Q
unfolding bind ◌>>=◌
on_ok t s h text a k Q f = f

on_err : {S A B : Type 0} (t : Table S) (s : S) (h : Hand) (text : List ℕ) (e : PlanFault) (k : A → Planned B) (Q : S → Hand → List ℕ → Result B PlanFault → Type 0) → Q s h text (Err e) → Gives t s h text (Return (Err e) >>= k) Q
unfolding Gives bind ◌>>=◌
on_err t s h text e k Q f = f

module _ (alone : Bool) (own : ℕ) (p : Place) (ns : List ℕ) (c : Contents) (v : View) (has : Has ns v c) (fresh : (x : List ℕ) → v.seen.names p x ≡ Unseen) (unmet : (x : List ℕ) → is_held (kind_of x) ≡ true → v.met p x ≡ false) where
  module _ (j : Hand) (text : List ℕ) (names : List (List ℕ)) (f : fits_view alone v (step.List p) (answer.Names names)) where
    abbrev w : View
    w = view_after v (step.List p) (answer.Names names)

    abbrev hs : List HeldPair
    hs = held_pairs own names

    told : (x : List ℕ) → is_standing x ≡ true → Lists alone v p names x
    told = list_tells alone v p names fresh f

    holds : TellsHeld c p names
    holds = subst (λ d. TellsHeld d p names) has.0 (held_told alone v p names told unmet)

    lists : (b : Bool) → alone ≡ b → fits_view b v (step.List p) (answer.Names names) → b ≡ true → (c.there p ≡ true) × IsListingIn c p names
    lists true e g t = subst (λ d. (d.there p ≡ true) × IsListingIn d p names) has.0 g.0
    lists false e g t = cc (t)

    listing : alone ≡ true → (c.there p ≡ true) × IsListingIn c p names
    listing = lists alone refl f

    seen : (x : List ℕ) → is_held (kind_of x) ≡ true → has_text x names ≡ true → w.seen.names p x ≡ Listed
    seen x h e = sight_of v p names x (fresh x) (held_stands x h) (or_left (has_text x names) (v.met p x) e)

    pairs : ArePairs hs
    pairs = are_pairs names hs (pairs_listed own names)

    restored : (z : View) (ends : List (Option ℕ)) → WentAll alone ns p hs c (settled_in c p hs ends) w (taken_in c p) (highest names) ends z → IsRestored alone own p c ns (settled_of names ends) z
    restored z ends g = record {
      there = λ e. (listing e).0;
      listing = λ e. (listing e).1;
      holds = holds;
      ends_so = g.ends_so;
      numbers = g.numbers;
      homes = g.wanted;
      contents = g.contents;
      listed = g.listed;
    }

    names_give : Gives (by_view alone) w j text (settle p hs (highest names) >>= (λ ends. Return (Ok (settled_of names ends)))) (Restores alone own p c ns)
    unfolding Gives
    names_give =
        gives_on (by_view alone) w j text (settle p hs (highest names)) (λ ends. Return (Ok (settled_of names ends))) (Settled alone p ns hs c w (taken_in c p) (highest names)) (Restores alone own p c ns)
        (settle_gives alone p hs pairs (are_apart hs pairs (pairs_ordered own names)) ns (highest names) (taken_in c p) w c (λ e. ((listing e).0, all_there c p names holds hs (pairs_listed own names))) j text has
        (all_unread p names w seen hs (pairs_listed own names)) (lists_listed alone v p names fresh told) (highest_small names) (λ e. folder_taken c p names (listing e).1))
        (λ z i left ends g. restored z ends g) (λ z i left e g. quits_misses alone p c e g)

  pub put_back_gives : (j : Hand) (text : List ℕ) → Gives (by_view alone) v j text (put_back own p) (Restores alone own p c ns)
  unfolding put_back
  put_back_gives j text =
      list_view alone v of_stop j text (Restores alone own p c ns) p (λ l. names_by p l >>= settled_then)
      (λ names f. on_ok (by_view alone) (view_after v (step.List p) (answer.Names names)) j text names settled_then (Restores alone own p c ns) (names_give j text names f))
      (λ f. on_err (by_view alone) (view_after v (step.List p) answer.Gone) j text (fault.Absent p) settled_then (Restores alone own p c ns) (absent alone refl f))
    where
      absent : (b : Bool) → alone ≡ b → fits_view b v (step.List p) answer.Gone → alone ≡ true → c.there p ≡ false
      absent true e f t = subst (λ d. d.there p ≡ false) has.0 f.0
      absent false e f t = cc (t)

      settled_then : List (List ℕ) → Planned plans.Settled
      settled_then names = settle p (held_pairs own names) (highest names) >>= (λ ends. Return (Ok (settled_of names ends)))
