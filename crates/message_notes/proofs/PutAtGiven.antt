-- What a put at a number makes of contents alone, where that is free: the message stands there, and nothing else is changed.
use Rattle.std.proofs.Common.{◌≡◌, ◌<◌, ◌^◌, ◌+◌, ◌∷◌, ℕ, true, false, List, Option, Some, None, Result, Ok, Err, refl, sym, ◌∙◌, ap, subst, bytes_eq, nat_lt, max}
use Rattle.std.specs.Prelude.{decimal, is_some}
use Rattle.mh_base.specs.Entries.{kind_of}
use Rattle.mh_base.specs.Numbers.{IsMsgNum}
use Rattle.folder_files.specs.Named.{is_temp}
use Rattle.folder_files.specs.declared.place.Place.{Place}
use Rattle.folder_files.specs.declared.step.Answer.TheVariants as answer
use Rattle.folder_files.specs.declared.step.Step.TheVariants as step
use Rattle.file_plans.specs.Contents.{Contents, link_answer, with_text}
use Rattle.file_plans.specs.Giving.{Gives}
use Rattle.file_plans.specs.Plan.{Hand, Return, ◌>>=◌}
use Rattle.file_plans.specs.Views.{View, by_view, fits_view, number_put, view_after}
use Rattle.file_plans.proofs.Existing.{at_name, at_self, bytes_turned}
use Rattle.file_plans.proofs.Giving.{gives_on}
use Rattle.file_plans.proofs.NumberTexts.{number_back}
use Rattle.file_plans.proofs.Onward.{Is, exists_some, fits_at, not_linked_gone, temp_apart}
use Rattle.file_plans.proofs.Showing.{is_number_of, number_kind}
use Rattle.file_plans.proofs.Viewing.{link_view}
use Rattle.folder_files.proofs.Names.{bytes_self, not_both}
use Rattle.folder_files.proofs.Sameness.{place_is}
use Rattle.held_messages.specs.Settle.{given_at, given_from, homed_name}
use Rattle.held_messages.proofs.Linking.{next_of, put_next}
use Rattle.step_plans.specs.Hands.{temp_name, used}
use Rattle.step_plans.specs.Locking.{removed}
use Rattle.step_plans.specs.PlanFaults.{of_stop}
use Rattle.step_plans.specs.Replacing.{written}
use Rattle.step_plans.specs.declared.fault.PlanFault.{PlanFault}
use Rattle.step_plans.proofs.Cleared.{removed_gives}
use Rattle.step_plans.proofs.Named.{temp_is}
use Rattle.step_plans.proofs.Replaced.{Left, Writes, written_gives}
use Rattle.message_puts.specs.Putting.{linked_first, message_put, number_got, numbered}
use Rattle.message_puts.proofs.PutGiven.{Puts}

module _ (run : ℕ) (few : run < 2 ^ 128) (p : Place) (c : Contents) (there : c.there p ≡ true) (n : ℕ) (is_message : IsMsgNum n) (top : ℕ) (free : c.texts p (decimal n) ≡ None) (bytes : List ℕ) where
  -- the run's name of this number stood for nothing
  module _ (ns : List ℕ) (h : Hand) (named : nat_lt h.next (2 ^ 64) ≡ true) (none : c.texts p (temp_name run h.next) ≡ None) where
    abbrev temp : List ℕ
    temp = temp_name run h.next

    temp_kind_is : is_temp (kind_of temp) ≡ true
    temp_kind_is = temp_is run h.next few named

    unnumbered : is_temp (kind_of (decimal n)) ≡ false
    unnumbered = rw (number_kind n is_message) refl

    apart : bytes_eq temp (decimal n) ≡ false
    apart = temp_apart temp temp_kind_is (decimal n) unnumbered

    abbrev made : Contents
    made = with_text c p temp (Some bytes)

    abbrev linked_ : Contents
    linked_ = with_text made p (decimal n) (Some bytes)

    made_there : made.texts p temp ≡ Some bytes
    made_there = rw (at_self p temp) refl

    number_free : made.texts p (decimal n) ≡ None
    number_free = rw (place_is p, apart) free

    -- a file that is linked to its number and loses its temporary name
    moved : with_text linked_ p temp None ≡ with_text c p (decimal n) (Some bytes)
    moved = (λ i. record { there = c.there; texts = λ q x. each q x i; outside = c.outside })
      where
        each : (q : Place) (x : List ℕ) → (with_text linked_ p temp None).texts q x ≡ (with_text c p (decimal n) (Some bytes)).texts q x
        each =
            at_name p temp (λ q x. (with_text linked_ p temp None).texts q x ≡ (with_text c p (decimal n) (Some bytes)).texts q x)
            (rw (place_is p, bytes_self temp, bytes_turned temp (decimal n) apart) (sym none)) (λ q x e. rw e refl)

    put_number : number_put (step.Link p temp (decimal n)) answer.Done ≡ Some n
    put_number = rw temp_kind_is (number_back n (is_number_of n is_message))

    -- it was linked to its number
    record Linked (z : View) (j : Hand) (end : Option ℕ) : Type 0 where
      pub got : end ≡ Some n
      pub contents : z.contents ≡ linked_
      pub numbers : ns ≡ n ∷ z.numbers
      pub hand : j ≡ used h

    abbrev Links : View → Hand → List ℕ → Result (Option ℕ) PlanFault → Type 0
    Links z j left (Ok end) = Linked z j end
    Links z j left (Err e) = ⊥

    after_link : (v : View) → Is true ns v made → fits_view true v (step.Link p temp (decimal n)) answer.Done → Linked (view_after v (step.Link p temp (decimal n)) answer.Done) (used h) (Some n)
    after_link v is f = record {
      got = refl;
      contents = ap (λ d. with_text d p (decimal n) (d.texts p temp)) (is.0 refl) ∙ ap (λ t. with_text made p (decimal n) t) made_there;
      numbers = next_of (number_put (step.Link p temp (decimal n)) answer.Done) n v.numbers ns put_number (put_next true v (step.Link p temp (decimal n)) answer.Done f) is.1;
      hand = refl;
    }

    not_met : answer.Exists ≡ link_answer (made.texts p temp) (made.texts p (decimal n)) → ⊥
    not_met e = not_both (is_some (made.texts p (decimal n))) (exists_some (made.texts p temp) (made.texts p (decimal n)) e) (ap is_some number_free)

    wished_gives : (v : View) (text : List ℕ) → Is true ns v made → Gives (by_view true) v (used h) text (homed_name p temp n top) Links
    unfolding Gives
    wished_gives v text is =
        link_view true v of_stop (used h) text Links p temp (decimal n) (λ a. given_at p temp n a (given_from p temp (max n top + 1)))
        (λ f. after_link v is f)
        (λ f. absurd (not_met (fits_at true ns v made (step.Link p temp (decimal n)) answer.Exists is f refl)))
        (λ f. absurd (not_linked_gone (made.texts p temp) (made.texts p (decimal n)) (rw made_there refl) (fits_at true ns v made (step.Link p temp (decimal n)) answer.Gone is f refl)))

    abbrev Numbers : View → Hand → List ℕ → Result ℕ PlanFault → Type 0
    Numbers z j left (Ok m) = Linked z j (Some m)
    Numbers z j left (Err e) = ⊥

    numbered_gives : (v : View) (text : List ℕ) → Is true ns v made → Gives (by_view true) v (used h) text (numbered p temp (Some n) top) Numbers
    unfolding Gives numbered linked_first
    numbered_gives v text is = gives_on (by_view true) v (used h) text (homed_name p temp n top) number_got Links Numbers (wished_gives v text is) got (λ z j left e f. f)
      where
        got : (z : View) (j : Hand) (left : List ℕ) (end : Option ℕ) → Linked z j end → Gives (by_view true) z j left (number_got end) Numbers
        got z j left None l = absurd (let e : None ≡ Some n = l.got in cc)
        got z j left (Some m) l = l

    -- and loses its temporary name
    unlinked_gives : (z : View) (left : List ℕ) (m : ℕ) → Linked z (used h) (Some m) → Gives (by_view true) z (used h) left (removed p temp >>= (λ gone. Return (Ok m))) (Puts ns c p n bytes h)
    unfolding Gives
    unlinked_gives z left m l =
        gives_on (by_view true) z (used h) left (removed p temp) (λ gone. Return (Ok m)) _ (Puts ns c p n bytes h)
        (removed_gives true z.numbers p h temp z linked_ (used h) left ((λ e. l.contents), refl) (λ e. rw (place_is p, bytes_turned temp (decimal n) apart, bytes_self temp) refl)) done (λ y j rest e f. f)
      where
        done : (y : View) (j : Hand) (rest : List ℕ) (u : Unit {0}) → Left true z.numbers (with_text linked_ p temp None) (used h) y j → Gives (by_view true) y j rest (Return (Ok m)) (Puts ns c p n bytes h)
        done y j rest u k = record {
          number = (let e : Some m ≡ Some n = l.got in cc);
          contents = k.is.0 refl ∙ moved;
          numbers = l.numbers ∙ ap (λ ms. n ∷ ms) (sym k.is.1);
          hand = k.hand;
        }

    then_numbered : (z : View) (left : List ℕ) → Is true ns z made → Gives (by_view true) z (used h) left (numbered p temp (Some n) top >>= (λ number. removed p temp >>= (λ gone. Return (Ok number)))) (Puts ns c p n bytes h)
    then_numbered z left is =
        gives_on (by_view true) z (used h) left (numbered p temp (Some n) top) (λ number. removed p temp >>= (λ gone. Return (Ok number))) Numbers (Puts ns c p n bytes h) (numbered_gives z left is)
        (λ y j rest m l. subst (λ k. Gives (by_view true) y k rest (removed p temp >>= (λ gone. Return (Ok m))) (Puts ns c p n bytes h)) (sym l.hand) (unlinked_gives y rest m (record { got = l.got; contents = l.contents; numbers = l.numbers; hand = refl })))
        (λ y j rest e f. absurd f)

  -- a put at this number
  pub put_at_gives : (ns : List ℕ) (v : View) (h : Hand) (text : List ℕ) → Is true ns v c → (nat_lt h.next (2 ^ 64) ≡ true → c.texts p (temp_name run h.next) ≡ None) → Gives (by_view true) v h text (message_put run p bytes (Some n) top) (Puts ns c p n bytes h)
  unfolding message_put
  put_at_gives ns v h text is none =
      gives_on (by_view true) v h text (written run p bytes) (λ temp. numbered p temp (Some n) top >>= (λ number. removed p temp >>= (λ gone. Return (Ok number)))) (Writes true ns run p bytes c h) (Puts ns c p n bytes h)
      (written_gives true ns run p bytes v c h text is (λ low_ e. (there, none low_))) go (λ z j left e f. f)
    where
      go : (z : View) (j : Hand) (left : List ℕ) (temp : List ℕ) → Writes true ns run p bytes c h z j left (Ok temp) → Gives (by_view true) z j left (numbered p temp (Some n) top >>= (λ number. removed p temp >>= (λ gone. Return (Ok number)))) (Puts ns c p n bytes h)
      go z j left temp w =
          subst (λ k. Gives (by_view true) z k left (numbered p temp (Some n) top >>= (λ number. removed p temp >>= (λ gone. Return (Ok number)))) (Puts ns c p n bytes h)) (sym w.left.hand)
          (subst (λ t. Gives (by_view true) z (used h) left (numbered p t (Some n) top >>= (λ number. removed p t >>= (λ gone. Return (Ok number)))) (Puts ns c p n bytes h)) (sym w.name)
          (then_numbered ns h w.low (none w.low) z left w.left.is))
