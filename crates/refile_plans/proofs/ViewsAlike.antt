-- Alone, what a plan gives depends on the contents and on the numbers of the puts to come, and on nothing that was seen.
use Rattle.std.proofs.Common.{◌≡◌, ℕ, List, ap, subst, true}
use Rattle.folder_files.specs.declared.step.Step.{Step}
use Rattle.folder_files.specs.declared.step.Answer.{Answer}
use Rattle.file_plans.specs.Contents.{FitsIn, changed_by}
use Rattle.file_plans.specs.Giving.{Gives}
use Rattle.file_plans.specs.Plan.{Ask, Hand, Hear, Note, Plan, Recall, Return, Say, Try}
use Rattle.file_plans.specs.Views.{IsNextOf, View, by_view, fits_view, left_of, number_put, view_after}

-- the same answers fit
fits_alike : (v w : View) → v.contents ≡ w.contents → v.numbers ≡ w.numbers → (s : Step) (a : Answer) → fits_view true v s a → fits_view true w s a
fits_alike v w e f s a fits = (subst (λ c. FitsIn c s a) e fits.0, subst (λ ns. IsNextOf (number_put s a) ns) f fits.1)

-- so the same comes of the plan
pub gives_alike : {R : Type 0} (Q : View → Hand → List ℕ → R → Type 0) → ((z y : View) → z.contents ≡ y.contents → z.numbers ≡ y.numbers → (j : Hand) (left : List ℕ) (r : R) → Q y j left r → Q z j left r)
    → (v w : View) → v.contents ≡ w.contents → v.numbers ≡ w.numbers → (h : Hand) (text : List ℕ) (p : Plan R) → Gives (by_view true) w h text p Q → Gives (by_view true) v h text p Q
unfolding Gives
gives_alike Q alike v w e f h text (Return r) g = alike v w e f h text r g
gives_alike Q alike v w e f h text (Ask s next) g =
    λ a row live fits. gives_alike Q alike (view_after v s a) (view_after w s a) (ap (λ c. changed_by c s a) e) (ap (left_of (number_put s a)) f) h text (next a) (g a row live (fits_alike v w e f s a fits))
gives_alike Q alike v w e f h text (Try s next) g =
    λ a row fits. gives_alike Q alike (view_after v s a) (view_after w s a) (ap (λ c. changed_by c s a) e) (ap (left_of (number_put s a)) f) h text (next a) (g a row (λ live. fits_alike v w e f s a (fits live)))
gives_alike Q alike v w e f h text (Say piece next) g = (g.0, (g.1.0, g.1.1, gives_alike Q alike v w e f h g.1.0 next g.1.2))
gives_alike Q alike v w e f h text (Hear most next) g = λ piece short. gives_alike Q alike v w e f h text (next piece) (g piece short)
gives_alike Q alike v w e f h text (Recall next) g = gives_alike Q alike v w e f h text (next h) g
gives_alike Q alike v w e f h text (Note hand next) g = gives_alike Q alike v w e f hand text next g
