-- What the storing of a file makes of contents alone.
use Rattle.std.proofs.Common.{◌≡◌, ◌<◌, ◌^◌, ℕ, Bool, true, false, List, Some, None, Result, Ok, Err, refl, sym, ◌∙◌, ap, subst, bytes_eq, nat_lt}
use Rattle.std.specs.Prelude.{is_some}
use Rattle.mh_base.specs.Entries.{kind_of}
use Rattle.mh_base.specs.Numbers.{number_of}
use Rattle.folder_files.specs.Named.{is_temp}
use Rattle.folder_files.specs.declared.place.Place.{Place}
use Rattle.folder_files.specs.declared.place.Place.TheVariants.{Work}
use Rattle.folder_files.specs.declared.step.Answer.TheVariants as answer
use Rattle.folder_files.specs.declared.step.Step.TheVariants as step
use Rattle.folder_files.proofs.Names.{bytes_self}
use Rattle.file_plans.specs.Contents.{Contents, with_text}
use Rattle.file_plans.specs.Giving.{Gives}
use Rattle.file_plans.specs.Plan.{Hand, Return, ◌>>=◌}
use Rattle.file_plans.specs.Views.{View, by_view, fits_view, number_put, view_after}
use Rattle.file_plans.proofs.Existing.{at_name, at_self, bytes_turned}
use Rattle.file_plans.proofs.Giving.{gives_on}
use Rattle.file_plans.proofs.Onward.{Is, done_none, exists_some, fits_at, not_linked_gone, onward, temp_apart}
use Rattle.file_plans.proofs.Viewing.{link_view}
use Rattle.step_plans.specs.Hands.{temp_name, used}
use Rattle.step_plans.specs.Locking.{removed}
use Rattle.step_plans.specs.PlanFaults.{of_stop}
use Rattle.step_plans.specs.Replacing.{replaced, synced, written}
use Rattle.step_plans.specs.declared.fault.PlanFault.{PlanFault}
use Rattle.step_plans.proofs.Cleared.{removed_gives}
use Rattle.step_plans.proofs.Named.{temp_is}
use Rattle.step_plans.proofs.Replaced.{Fails, Leaves, Left, Writes, replaced_gives, synced_gives, written_gives}
use Rattle.mhstore_plans.specs.Files.{file_added, file_replaced, file_stored, if_free, linked, linked_by}

module _ (run : ℕ) (few : run < 2 ^ 128) (c : Contents) (there : c.there Work ≡ true) (name bytes : List ℕ) (lasting : is_temp (kind_of name) ≡ false) (unnumbered : number_of name ≡ None) (ns : List ℕ) (h : Hand)
    (none : nat_lt h.next (2 ^ 64) ≡ true → c.texts Work (temp_name run h.next) ≡ None) where
  abbrev new : Contents
  new = with_text c Work name (Some bytes)

  -- it was stored; or one stood there and stays
  abbrev pub Stores : Bool → View → Hand → List ℕ → Result Bool PlanFault → Type 0
  Stores clobber z j left (Ok true) = ((clobber ≡ false) → c.texts Work name ≡ None) × Left true ns new (used h) z j
  Stores clobber z j left (Ok false) = (clobber ≡ false) × (is_some (c.texts Work name) ≡ true) × Left true ns c (used h) z j
  Stores clobber z j left (Err e) = Fails true h e

  -- one that takes the name's place
  replaces_gives : (v : View) (text : List ℕ) → Is true ns v c → Gives (by_view true) v h text (file_replaced run name bytes) (Stores true)
  unfolding Gives file_replaced
  replaces_gives v text is =
      gives_on (by_view true) v h text (replaced run Work name bytes) (λ done. Return (Ok true)) (Leaves true ns new (used h) (Fails true h)) (Stores true)
      (replaced_gives true ns run Work few name bytes v c h text is (λ low e. (there, none low)) lasting) (λ z j left u l. ((λ e. absurd (cc (e))), l)) (λ z j left e f. f)

  -- one that gets the name where that is free
  module _ (low : nat_lt h.next (2 ^ 64) ≡ true) where
    abbrev temp : List ℕ
    temp = temp_name run h.next

    temp_kind_is : is_temp (kind_of temp) ≡ true
    temp_kind_is = temp_is run h.next few low

    apart : bytes_eq temp name ≡ false
    apart = temp_apart temp temp_kind_is name lasting

    abbrev made : Contents
    made = with_text c Work temp (Some bytes)

    abbrev linked_ : Contents
    linked_ = with_text made Work name (Some bytes)

    made_there : made.texts Work temp ≡ Some bytes
    made_there = rw (at_self Work temp) refl

    as_before : made.texts Work name ≡ c.texts Work name
    as_before = rw apart refl

    no_put : number_put (step.Link Work temp name) answer.Done ≡ None
    no_put = rw (temp_kind_is, unnumbered) refl

    -- it was linked and loses its temporary name
    moved : with_text linked_ Work temp None ≡ new
    moved = (λ i. record { there = c.there; texts = λ q x. each q x i; outside = c.outside })
      where
        each : (q : Place) (x : List ℕ) → (with_text linked_ Work temp None).texts q x ≡ new.texts q x
        each =
            at_name Work temp (λ q x. (with_text linked_ Work temp None).texts q x ≡ new.texts q x) (rw (bytes_self temp, bytes_turned temp name apart) (sym (none low))) (λ q x e. rw e refl)

    -- it was not, and loses it
    gone_again : with_text made Work temp None ≡ c
    gone_again = (λ i. record { there = c.there; texts = λ q x. each q x i; outside = c.outside })
      where
        each : (q : Place) (x : List ℕ) → (with_text made Work temp None).texts q x ≡ c.texts q x
        each = at_name Work temp (λ q x. (with_text made Work temp None).texts q x ≡ c.texts q x) (rw (bytes_self temp) (sym (none low))) (λ q x e. rw e refl)

    abbrev Links : View → Hand → List ℕ → Result Bool PlanFault → Type 0
    Links z j left (Ok true) = (c.texts Work name ≡ None) × Left true ns linked_ (used h) z j
    Links z j left (Ok false) = (is_some (c.texts Work name) ≡ true) × Left true ns made (used h) z j
    Links z j left (Err e) = Fails true h e

    links_give : (v : View) (text : List ℕ) → Is true ns v made → Gives (by_view true) v (used h) text (linked temp name) Links
    unfolding Gives linked
    links_give v text is =
        link_view true v of_stop (used h) text Links Work temp name (linked_by temp) (λ f. done f) (λ f. exists f)
        (λ f e. not_linked_gone (made.texts Work temp) (made.texts Work name) (rw made_there refl) (fits_at true ns v made (step.Link Work temp name) answer.Gone is f refl))
      where
        done : fits_view true v (step.Link Work temp name) answer.Done → Links (view_after v (step.Link Work temp name) answer.Done) (used h) text (Ok true)
        done f = (
          sym as_before ∙ done_none (made.texts Work temp) (made.texts Work name) (fits_at true ns v made (step.Link Work temp name) answer.Done is f refl),
          record { is = rw made_there at (onward true ns v made (step.Link Work temp name) answer.Done is no_put); hand = refl },
        )

        exists : fits_view true v (step.Link Work temp name) answer.Exists → Links (view_after v (step.Link Work temp name) answer.Exists) (used h) text (Ok false)
        exists f = (
          ap is_some (sym as_before) ∙ exists_some (made.texts Work temp) (made.texts Work name) (fits_at true ns v made (step.Link Work temp name) answer.Exists is f refl),
          record { is = onward true ns v made (step.Link Work temp name) answer.Exists is refl; hand = refl },
        )

    -- the directory is made safe, where the name was free
    free_gives : (z : View) (left : List ℕ) → c.texts Work name ≡ None → Is true ns z new → Gives (by_view true) z (used h) left (if_free name true) (Stores false)
    unfolding Gives
    free_gives z left free is =
        gives_on (by_view true) z (used h) left (synced Work name) (λ safe. Return (Ok true)) (Leaves true ns new (used h) (Fails true h)) (Stores false)
        (synced_gives true ns Work h name z new (used h) left is (λ e. there)) (λ y j rest u l. ((λ e. free), l)) (λ y j rest e f. f)

    unlinked_gives : (z : View) (left : List ℕ) (free : Bool) → Links z (used h) left (Ok free) → Gives (by_view true) z (used h) left (removed Work temp >>= (λ gone. if_free name free)) (Stores false)
    unfolding Gives
    unlinked_gives z left true l =
        gives_on (by_view true) z (used h) left (removed Work temp) (λ gone. if_free name true) (Leaves true ns (with_text linked_ Work temp None) (used h) (Fails true h)) (Stores false)
        (removed_gives true ns Work h temp z linked_ (used h) left l.1.is (λ e. rw (bytes_turned temp name apart, bytes_self temp) refl))
        (λ y j rest u k. subst (λ i. Gives (by_view true) y i rest (if_free name true) (Stores false)) (sym k.hand) (free_gives y rest l.0 ((λ e. k.is.0 e ∙ moved), k.is.1))) (λ y j rest e f. f)
    unlinked_gives z left false l =
        gives_on (by_view true) z (used h) left (removed Work temp) (λ gone. if_free name false) (Leaves true ns (with_text made Work temp None) (used h) (Fails true h)) (Stores false)
        (removed_gives true ns Work h temp z made (used h) left l.1.is (λ e. rw (bytes_self temp) refl)) (λ y j rest u k. (refl, l.0, record { is = ((λ e. k.is.0 e ∙ gone_again), k.is.1); hand = k.hand })) (λ y j rest e f. f)

    then_linked : (z : View) (left : List ℕ) → Is true ns z made → Gives (by_view true) z (used h) left (linked temp name >>= (λ free. removed Work temp >>= (λ gone. if_free name free))) (Stores false)
    then_linked z left is =
        gives_on (by_view true) z (used h) left (linked temp name) (λ free. removed Work temp >>= (λ gone. if_free name free)) Links (Stores false) (links_give z left is)
        (λ y j rest free l. on y j rest free l) (λ y j rest e f. f)
      where
        hand_is : (y : View) (j : Hand) (rest : List ℕ) (free : Bool) → Links y j rest (Ok free) → j ≡ used h
        hand_is y j rest true l = l.1.hand
        hand_is y j rest false l = l.1.hand

        on : (y : View) (j : Hand) (rest : List ℕ) (free : Bool) → Links y j rest (Ok free) → Gives (by_view true) y j rest (removed Work temp >>= (λ gone. if_free name free)) (Stores false)
        on y j rest free l =
            let same = hand_is y j rest free l in
            subst (λ i. Gives (by_view true) y i rest (removed Work temp >>= (λ gone. if_free name free)) (Stores false)) (sym same) (unlinked_gives y rest free (subst (λ i. Links y i rest (Ok free)) same l))

  adds_gives : (v : View) (text : List ℕ) → Is true ns v c → Gives (by_view true) v h text (file_added run name bytes) (Stores false)
  unfolding file_added
  adds_gives v text is =
      gives_on (by_view true) v h text (written run Work bytes) (λ t. linked t name >>= (λ free. removed Work t >>= (λ gone. if_free name free))) (Writes true ns run Work bytes c h) (Stores false)
      (written_gives true ns run Work bytes v c h text is (λ low e. (there, none low))) go (λ z j left e f. f)
    where
      go : (z : View) (j : Hand) (left : List ℕ) (t : List ℕ) → Writes true ns run Work bytes c h z j left (Ok t) → Gives (by_view true) z j left (linked t name >>= (λ free. removed Work t >>= (λ gone. if_free name free))) (Stores false)
      go z j left t w =
          subst (λ k. Gives (by_view true) z k left (linked t name >>= (λ free. removed Work t >>= (λ gone. if_free name free))) (Stores false)) (sym w.left.hand)
          (subst (λ x. Gives (by_view true) z (used h) left (linked x name >>= (λ free. removed Work x >>= (λ gone. if_free name free))) (Stores false)) (sym w.name) (then_linked w.low z left w.left.is))

  -- a file is stored, or one stands there
  pub stores_give : (clobber : Bool) (v : View) (text : List ℕ) → Is true ns v c → Gives (by_view true) v h text (file_stored run clobber name bytes) (Stores clobber)
  stores_give true v text is = replaces_gives v text is
  stores_give false v text is = adds_gives v text is
