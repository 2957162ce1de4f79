-- No durable file is lost.
use Rattle.std.proofs.Common.{◌≡◌, ℕ, zero, suc, ◌+◌, ◌≤◌, Bool, inl, inr, List, sym, ◌∙◌, subst, arith}
use Rattle.folder_files.specs.Annotations.{Annotates}
use Rattle.folder_files.specs.CrashImage.{IsCrashImage}
use Rattle.folder_files.specs.Histories.{world_after, IsLegal, AreCareful}
use Rattle.folder_files.specs.Worlds.{WorldMap, IsStart}
use Rattle.folder_files.specs.declared.event.Event.{Event}
use Rattle.folder_files.specs.declared.place.Place.{Place}
use Rattle.folder_files.specs.declared.world.World.{World}
use Rattle.step_plans.specs.Durable.{IsDurable}
use Rattle.step_plans.specs.Leaving.{IsDiscarded}
use Rattle.step_plans.specs.NoLoss.{Stands, StandsFirm, IsKept, removed, stands, discarded, HasSuccessor, IsTrueSuccessor, LosesNothing}
use Rattle.step_plans.specs.Starts.{HasNoneOfTheirs}
use Rattle.step_plans.specs.Successors.{IsSuccessor, now, on}
use Rattle.folder_files.proofs.Names.{held_stands}
use Rattle.step_plans.proofs.Closing.{anchor_kept, end_leads, end_stands}
use Rattle.step_plans.proofs.Past.{durable_lock}
use Rattle.step_plans.proofs.Holds.{HasAnchor, AnchorOr, directory_in}
use Rattle.step_plans.proofs.Inv.{IsSafeAs}
use Rattle.step_plans.proofs.Law.{inv, heir, heirs}
use Rattle.step_plans.proofs.Sound.{elder}

-- a file with an anchor stands, now and in each image
stands_firm : (start : World) (past : List Event) (p : Place) (f : ℕ) (b : List ℕ) → IsSafeAs (world_after start past) f b → HasAnchor start p (directory_in start past p) past f → StandsFirm (world_after start past) p f b
stands_firm start past p f b z k = record {
  now = (k.end, end_stands (directory_in start past p).safe (directory_in start past p).pending f k.root k.end k.anchor, end_leads (directory_in start past p).safe (directory_in start past p).pending f k.root k.end k.anchor, z.bytes);
  later = later;
}
  where
    later : (v : WorldMap) (over : ℕ → Bool) → IsCrashImage (world_after start past) v over → Stands v p f b
    later v over image = elim (anchor_kept (directory_in start past p).safe (directory_in start past p).pending (image.directories p).keep f k.root k.end (image.directories p).closed k.anchor) [
      | inl y ↦ (k.root, k.anchor.standing, rw (image.directories p).nothing_pending ((image.directories p).slots k.root ∙ y), image.kept_bytes f z.safe ∙ z.bytes)
      | inr y ↦ (k.end, held_stands k.end y.0, rw (image.directories p).nothing_pending ((image.directories p).slots k.end ∙ y.1), image.kept_bytes f z.safe ∙ z.bytes)
    ]

lines_of : {start : World} {p : Place} {f : ℕ} {q : Place} {g : ℕ} {b c : List ℕ} {past : List Event} → IsSuccessor start p f q g b c past → Annotates b c
lines_of (now is t never lines w) = lines
lines_of (on w) = lines_of w

module _ (start : World) (past : List Event) (st : IsStart start) (l : IsLegal start past) (careful : AreCareful past) (none : HasNoneOfTheirs start past) where
  -- what a discarding run had read is the file's own bytes
  read_is : (p : Place) (f : ℕ) (b : List ℕ) (q : Place) (g : ℕ) (d c : List ℕ) → IsDurable start p f b past → IsSuccessor start p f q g d c past → d ≡ b
  read_is p f b q g d c s w = let i = inv start st l careful none in sym (elder start p f q g d c (durable_lock s) st l careful none w).safe.bytes ∙ (i.durable p f b s).bytes

  kept_up_to : (n : ℕ) (p : Place) (f : ℕ) (b : List ℕ) → (world_after start past).next_file ≤ f + n → IsDurable start p f b past → IsKept start past p f b
  kept_up_to zero p f b le s = absurd (let t = ((inv start st l careful none).durable p f b s).there in omega arith)
  kept_up_to (suc n) p f b le s = go (((inv start st l careful none).holds p (durable_lock s)).anchored f b s) (λ q g c k w. kept_up_to n q g c k w)
    where
      successor : IsDiscarded start p f past → HasSuccessor start past p f b
      successor d = let h = heir start p f (durable_lock s) l careful d in (h.0, h.1, h.3, subst (λ (x : List ℕ). IsSuccessor start p f h.0 h.1 x h.3 past) (read_is p f b h.0 h.1 h.2 h.3 s h.4) h.4)

      true_one : (q : Place) (g : ℕ) (read copy : List ℕ) → IsSuccessor start p f q g read copy past → IsTrueSuccessor start past b q g copy
      true_one q g read copy w = (heirs start p f q g read copy (durable_lock s) st l careful none w, subst (λ (x : List ℕ). Annotates x copy) (read_is p f b q g read copy s w) (lines_of w))

      go : AnchorOr start p (directory_in start past p) past f → ((q : Place) (g : ℕ) (c : List ℕ) → (world_after start past).next_file ≤ g + n → IsDurable start q g c past → IsKept start past q g c) → IsKept start past p f b
      go (inl k) rest = stands (stands_firm start past p f b ((inv start st l careful none).durable p f b s) k)
      go (inr (inl z)) rest = removed z
      go (inr (inr z)) rest = discarded z (successor z) true_one
          (λ q g read copy w. rest q g copy (let o = (elder start p f q g read copy (durable_lock s) st l careful none w).older in omega arith) (heirs start p f q g read copy (durable_lock s) st l careful none w))

pub loses_nothing : (start : World) (past : List Event) → IsStart start → IsLegal start past → AreCareful past → HasNoneOfTheirs start past → LosesNothing start past
loses_nothing start past st l careful none p f b s = kept_up_to start past st l careful none (world_after start past).next_file p f b (omega arith) s
