-- What steps in one folder and in the mail directory leave of other places.
use Rattle.std.proofs.Common.{◌≡◌, inl, inr, ◌&&◌, ◌||◌, ℕ, Bool, true, false, List, Option, None, refl, ◌∙◌, ap, bytes_eq}
use Rattle.std.specs.Prelude.{if◌then◌else◌}
use Rattle.folder_files.specs.Places.{is_parent, same_place}
use Rattle.folder_files.specs.declared.place.Place.{Place}
use Rattle.folder_files.specs.declared.step.Step.{Step}
use Rattle.folder_files.specs.declared.step.Step.TheVariants as step
use Rattle.folder_files.specs.declared.step.Answer.{Answer}
use Rattle.folder_files.specs.declared.step.Answer.TheVariants as answer
use Rattle.folder_files.proofs.Names.{or_last}
use Rattle.file_plans.specs.Contents.{Contents, changed_by, where_done, with_folder, with_moved, with_text}
use Rattle.file_plans.specs.Views.{View, view_after}
use Rattle.refile_plans.proofs.BegunAsks.{IsIn, OneOf}

module _ (p mail : Place) where
  -- the directories that were there still are, and what names of other places lead to is as it was
  pub record IsBeside (c d : Contents) : Type 0 where
    pub there : (q : Place) → c.there q ≡ true → d.there q ≡ true
    pub texts : (q : Place) → same_place p q ≡ false → same_place mail q ≡ false → (x : List ℕ) → d.texts q x ≡ c.texts q x

  -- nothing was done
  pub beside_self : (c : Contents) → IsBeside c c
  beside_self c = record { there = λ q e. e; texts = λ q off away x. refl }

  -- a place that is neither of the two
  apart_from : (r q : Place) → OneOf p mail r → same_place p q ≡ false → same_place mail q ≡ false → same_place r q ≡ false
  apart_from r q (inl e) off away = ap (λ z. same_place z q) e ∙ off
  apart_from r q (inr e) off away = ap (λ z. same_place z q) e ∙ away

  -- a name of one of the two leads to something else
  beside_text : (c d : Contents) (r : Place) (n : List ℕ) (t : Option (List ℕ)) → OneOf p mail r → IsBeside c d → IsBeside c (with_text d r n t)
  beside_text c d r n t one f = record {
    there = f.there;
    texts = λ q off away x. ap (λ b. if b && bytes_eq n x then t else d.texts q x) (apart_from r q one off away) ∙ f.texts q off away x;
  }

  -- a directory is made
  beside_folder : (c d : Contents) (r : Place) → IsBeside c d → IsBeside c (with_folder d r)
  beside_folder c d r f = record { there = λ q e. or_last (same_place r q || is_parent q r) (d.there q) (f.there q e); texts = f.texts }

  -- a name is moved
  beside_moved : (c d : Contents) (r : Place) (a b : List ℕ) → OneOf p mail r → IsBeside c d → IsBeside c (with_moved d r a b)
  beside_moved c d r a b one f = go (bytes_eq a b)
    where
      go : (v : Bool) → IsBeside c (if v then d else with_text (with_text d r a None) r b (d.texts r a))
      go true = f
      go false = beside_text c (with_text d r a None) r b (d.texts r a) one (beside_text c d r a None one f)

  -- a step was done, or not
  beside_done : (c x y : Contents) (a : Answer) → IsBeside c x → IsBeside c y → IsBeside c (where_done a x y)
  beside_done c x y answer.Done f g = f
  beside_done c x y (answer.Names names) f g = g
  beside_done c x y (answer.Content b) f g = g
  beside_done c x y (answer.Piece b l) f g = g
  beside_done c x y (answer.Long l) f g = g
  beside_done c x y answer.Gone f g = g
  beside_done c x y answer.Exists f g = g
  beside_done c x y answer.Busy f g = g
  beside_done c x y answer.Grown f g = g
  beside_done c x y answer.Failed f g = g

  -- any step in one of the two
  beside_step : (c d : Contents) (s : Step) (a : Answer) → IsIn (OneOf p mail) s → IsBeside c d → IsBeside c (changed_by d s a)
  beside_step c d (step.List r) a one f = f
  beside_step c d (step.Read r n limit) a one f = f
  beside_step c d (step.MakeFolder r) a one f = beside_folder c d r f
  beside_step c d (step.Create r n b) a one f = beside_done c _ d a (beside_text c d r n _ one f) f
  beside_step c d (step.SyncFile r n) a one f = f
  beside_step c d (step.SyncFolder r) a one f = f
  beside_step c d (step.Link r n m) a one f = beside_done c _ d a (beside_text c d r m _ one f) f
  beside_step c d (step.Rename r n m) a one f = beside_done c _ d a (beside_moved c d r n m one f) f
  beside_step c d (step.Unlink r n) a one f = beside_done c _ d a (beside_text c d r n _ one f) f
  beside_step c d (step.Lock r) a one f = f
  beside_step c d (step.Unlock r) a one f = f
  beside_step c d (step.ReadFile path limit) a one f = absurd one
  beside_step c d (step.ReadDrop path from most) a one f = absurd one
  beside_step c d (step.CutDrop path n) a one f = absurd one

  -- so by views
  pub kept_beside : (c : Contents) (z : View) (s : Step) (a : Answer) → IsIn (OneOf p mail) s → IsBeside c z.contents → IsBeside c (view_after z s a).contents
  kept_beside c z s a one f = beside_step c z.contents s a one f
