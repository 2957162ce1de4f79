-- What messages that get lines in front make of contents alone: the lines stand before their bytes, and nothing else is changed.
use Rattle.std.proofs.Common.{◌≡◌, ◌⊎◌, inl, inr, ◌<◌, ◌^◌, ◌++◌, ◌∷◌, ℕ, Bool, true, false, List, Option, Some, None, Result, Ok, Err, refl, sym, ◌∙◌, ap, subst, bytes_eq, nat_lt, length}
use Rattle.std.specs.Prelude.{decimal, is_some, if◌then◌else◌}
use Rattle.mh_base.specs.Entries.{entry_text, kind_of}
use Rattle.mh_base.specs.Numbers.{IsMsgNum}
use Rattle.mh_base.specs.declared.entry.Entry.TheVariants.{Held, Number}
use Rattle.mh_base.proofs.EntryKinds.{kind_of-entry_text}
use Rattle.folder_files.specs.declared.place.Place.{Place}
use Rattle.folder_files.proofs.Names.{bytes_false, bytes_self}
use Rattle.folder_files.proofs.Sameness.{place_is}
use Rattle.file_plans.specs.Contents.{Contents, is_at, with_text}
use Rattle.file_plans.specs.Giving.{Gives}
use Rattle.file_plans.specs.Plan.{Hand, Return, bind, ◌>>=◌}
use Rattle.file_plans.specs.Views.{View, by_view}
use Rattle.file_plans.proofs.Existing.{at_name, bytes_turned}
use Rattle.file_plans.proofs.Giving.{gives_on}
use Rattle.file_plans.proofs.Onward.{Is, temp_apart}
use Rattle.step_plans.specs.ContextCommit.{LIMIT_BYTES}
use Rattle.step_plans.specs.Hands.{temp_name, used}
use Rattle.step_plans.specs.Replacing.{synced}
use Rattle.step_plans.specs.PlanFaults.{Planned}
use Rattle.step_plans.specs.declared.fault.PlanFault.{PlanFault}
use Rattle.step_plans.specs.declared.fault.PlanFault.TheVariants as fault
use Rattle.step_plans.proofs.Named.{temp_is}
use Rattle.step_plans.proofs.Replaced.{Fails, Leaves, gives_next, synced_gives}
use Rattle.message_puts.proofs.PutGiven.{Puts}
use Rattle.message_puts.specs.Putting.{message_put}
use Rattle.message_puts.proofs.StoredGiven.{memory_only}
use Rattle.message_moves.specs.Moving.{content_read, held_discarded, number_taken, readable}
use Rattle.message_moves.proofs.MoveGiven.{Never, Reads, Takes, aside, aside_stands, content_gives, discard_gives, take_gives}
use Rattle.message_notes.specs.NotedAlone.{noted_in}
use Rattle.message_notes.specs.Noting.{message_noted, stored_at}
use Rattle.message_notes.proofs.PutAtGiven.{put_at_gives}

-- it has this number, and these contents are there; or the run has no more names
abbrev Stores : List ℕ → Contents → Place → ℕ → List ℕ → Hand → View → Hand → List ℕ → Result ℕ PlanFault → Type 0
Stores ns c p n bytes h z j left (Ok m) = (m ≡ n) × (z.contents ≡ with_text c p (decimal n) (Some bytes)) × (ns ≡ n ∷ z.numbers) × (j ≡ used h)
Stores ns c p n bytes h z j left (Err e) = e ≡ fault.Memory

module _ (run : ℕ) (few : run < 2 ^ 128) (p : Place) (c : Contents) (there : c.there p ≡ true) (n : ℕ) (ok : IsMsgNum n) (top : ℕ) (free : c.texts p (decimal n) ≡ None) (bytes : List ℕ) where
  stored_at_gives : (ns : List ℕ) (v : View) (h : Hand) (text : List ℕ) → Is true ns v c → (nat_lt h.next (2 ^ 64) ≡ true → c.texts p (temp_name run h.next) ≡ None) → Gives (by_view true) v h text (stored_at run p n bytes top) (Stores ns c p n bytes h)
  unfolding Gives stored_at
  stored_at_gives ns v h text is none =
      gives_on (by_view true) v h text (message_put run p bytes (Some n) top) (λ number. synced p (decimal number) >>= (λ safe. Return (Ok number))) (Puts ns c p n bytes h) (Stores ns c p n bytes h)
      (put_at_gives run few p c there n ok top free bytes ns v h text is none)
      (λ z j left m put. subst (λ k. Gives (by_view true) z j left (synced p (decimal k) >>= (λ safe. Return (Ok k))) (Stores ns c p n bytes h)) (sym put.number)
      (subst (λ i. Gives (by_view true) z i left (synced p (decimal n) >>= (λ safe. Return (Ok n))) (Stores ns c p n bytes h)) (sym put.hand)
      (gives_next true z.numbers (with_text c p (decimal n) (Some bytes)) (used h) (Fails true h) z (used h) left (synced p (decimal n)) (λ safe. Return (Ok n)) (Stores ns c p n bytes h)
      (synced_gives true z.numbers p h (decimal n) z (with_text c p (decimal n) (Some bytes)) (used h) left ((λ e. put.contents), refl) (λ e. there))
      (λ y rest u same. (refl, same.0 refl, put.numbers ∙ ap (λ ms. n ∷ ms) (sym same.1), refl))
      (λ y i rest e f. memory_only h e f))))
      (λ z j left e f. memory_only h e f)

number_is : (n : ℕ) → entry_text (Number n) ≡ decimal n
unfolding entry_text
number_is n = refl

-- a reading that is not too long gives what was read
not_long : (b : List ℕ) → nat_lt LIMIT_BYTES (length b) ≡ false → readable b ≡ Ok b
not_long b e = rw e refl

too_long : (b : List ℕ) → nat_lt LIMIT_BYTES (length b) ≡ true → readable b ≡ Err (fault.TooLarge (length b))
too_long b e = rw e refl

-- what was read is all there was, and not too long
read_short : (b bytes : List ℕ) → Ok b ≡ readable bytes → (nat_lt LIMIT_BYTES (length bytes) ≡ false) × (b ≡ bytes)
read_short b bytes e = go (nat_lt LIMIT_BYTES (length bytes)) refl e
  where
    go : (v : Bool) → nat_lt LIMIT_BYTES (length bytes) ≡ v → Ok b ≡ (if v then Err (fault.TooLarge (length bytes)) else Ok bytes) → (nat_lt LIMIT_BYTES (length bytes) ≡ false) × (b ≡ bytes)
    go true is f = cc
    go false is f = (is, (let same : b ≡ bytes = cc in same))

module _ (run : ℕ) (few : run < 2 ^ 128) (p : Place) (lines : List ℕ) (n : ℕ) (ok : IsMsgNum n) (bytes : List ℕ) (c : Contents) (here : c.there p ≡ true) (stands : c.texts p (decimal n) ≡ Some bytes) (top : ℕ) where
  abbrev number : List ℕ
  number = entry_text (Number n)

  abbrev held : List ℕ
  held = entry_text (Held run n)

  abbrev new : List ℕ
  new = lines ++ bytes

  abbrev held_aside : Contents
  held_aside = aside c p run n bytes

  stands_so : c.texts p number ≡ Some bytes
  stands_so = ap (λ x. c.texts p x) (number_is n) ∙ stands

  apart : bytes_eq number held ≡ false
  apart = bytes_false number held (λ e. let same : Number n ≡ Held run n = sym (kind_of-entry_text (Number n) ok) ∙ (ap kind_of e ∙ kind_of-entry_text (Held run n) (few, ok)) in cc (same))

  -- nothing stands at its number while it is held aside
  number_free : held_aside.texts p (decimal n) ≡ None
  number_free = ap (λ x. held_aside.texts p x) (sym (number_is n)) ∙ rw (place_is p, bytes_turned number held apart, bytes_self number) refl

  -- the run's next name stands for nothing then either
  temp_free : (h : Hand) → nat_lt h.next (2 ^ 64) ≡ true → c.texts p (temp_name run h.next) ≡ None → held_aside.texts p (temp_name run h.next) ≡ None
  temp_free h named none =
      let temp = temp_is run h.next few named in
      rw (place_is p, bytes_turned (temp_name run h.next) held (temp_apart (temp_name run h.next) temp held (rw (kind_of-entry_text (Held run n) (few, ok)) refl)), bytes_turned (temp_name run h.next) number (temp_apart (temp_name run h.next) temp number (rw (kind_of-entry_text (Number n) ok) refl))) none

  abbrev stored : Contents
  stored = with_text held_aside p (decimal n) (Some new)

  held_still : is_some (stored.texts p held) ≡ true
  held_still = ap (λ x. is_some ((with_text held_aside p x (Some new)).texts p held)) (sym (number_is n)) ∙ rw (place_is p, apart, bytes_self held) refl

  twice : (b : Bool) (o u : Option (List ℕ)) → (if b then o else (if b then None else u)) ≡ (if b then o else u)
  twice true o u = refl
  twice false o u = refl

  -- nothing but the message is changed
  noted_so : with_text stored p held None ≡ noted_in c p run lines n bytes
  noted_so = ap (λ x. with_text (with_text held_aside p x (Some new)) p held None) (sym (number_is n)) ∙ (λ i. record { there = c.there; texts = λ q x. each q x i; outside = c.outside })
    where
      each : (q : Place) (x : List ℕ) → (with_text (with_text held_aside p number (Some new)) p held None).texts q x ≡ (noted_in c p run lines n bytes).texts q x
      each =
          at_name p held (λ q x. (with_text (with_text held_aside p number (Some new)) p held None).texts q x ≡ (noted_in c p run lines n bytes).texts q x)
          (rw (place_is p, bytes_self held) refl) (λ q x off. rw off (twice (is_at p number q x) (Some new) (c.texts q x)))

  -- the message stands with the lines; or memory was wanting; or it is too long, by itself or with the lines, and is held aside
  abbrev pub Noted : List ℕ → Hand → View → Hand → List ℕ → Result ℕ PlanFault → Type 0
  Noted ns h z j left (Ok m) = (nat_lt LIMIT_BYTES (length bytes) ≡ false) × (nat_lt LIMIT_BYTES (length new) ≡ false) × (m ≡ n) × (z.contents ≡ noted_in c p run lines n bytes) × (ns ≡ n ∷ z.numbers) × (j ≡ used h)
  Noted ns h z j left (Err e) = (e ≡ fault.Memory) ⊎ ((l : List ℕ) × (readable l ≡ Err e) × ((l ≡ bytes) ⊎ ((nat_lt LIMIT_BYTES (length bytes) ≡ false) × (l ≡ new))) × (z.contents ≡ held_aside) × (z.numbers ≡ ns))

  there_still : stored.there p ≡ true
  there_still = here

  abbrev ending : ℕ → Planned ℕ
  ending m = held_discarded p held >>= (λ gone. Return (Ok m))

  module _ (ns : List ℕ) (h : Hand) (none : nat_lt h.next (2 ^ 64) ≡ true → c.texts p (temp_name run h.next) ≡ None) where
    discarded : nat_lt LIMIT_BYTES (length bytes) ≡ false → nat_lt LIMIT_BYTES (length new) ≡ false → (z : View) (left : List ℕ) → z.contents ≡ stored → ns ≡ n ∷ z.numbers → Gives (by_view true) z (used h) left (ending n) (Noted ns h)
    unfolding Gives
    discarded short fits z left is numbers =
        gives_on (by_view true) z (used h) left (held_discarded p held) (λ gone. Return (Ok n)) (Leaves true z.numbers (with_text stored p held None) (used h) Never) (Noted ns h)
        (discard_gives p held stored there_still held_still z.numbers z (used h) left ((λ e. is), refl))
        (λ y i rest u l. (short, fits, refl, l.is.0 refl ∙ noted_so, numbers ∙ ap (λ ms. n ∷ ms) (sym l.is.1), l.hand)) (λ y i rest e f. absurd f)

    abbrev storing : List ℕ → Planned ℕ
    storing b = stored_at run p n b top >>= (λ m. ending m)

    put_anew : nat_lt LIMIT_BYTES (length bytes) ≡ false → nat_lt LIMIT_BYTES (length new) ≡ false → (z : View) (left : List ℕ) → Is true ns z held_aside → Gives (by_view true) z h left (storing new) (Noted ns h)
    put_anew short fits z left is =
        gives_on (by_view true) z h left (stored_at run p n new top) (λ m. ending m) (Stores ns held_aside p n new h) (Noted ns h)
        (stored_at_gives run few p held_aside here n ok top number_free new ns z h left is (λ named. temp_free h named (none named)))
        (λ y j rest m s. subst (λ k. Gives (by_view true) y j rest (ending k) (Noted ns h)) (sym s.0) (subst (λ i. Gives (by_view true) y i rest (ending n) (Noted ns h)) (sym s.3) (discarded short fits y rest s.1 s.2)))
        (λ y j rest e f. inl f)

    abbrev with_lines : List ℕ → Planned ℕ
    with_lines b = Return (readable (lines ++ b)) >>= (λ x. storing x)

    lined : nat_lt LIMIT_BYTES (length bytes) ≡ false → (z : View) (left : List ℕ) → Is true ns z held_aside → Gives (by_view true) z h left (with_lines bytes) (Noted ns h)
    unfolding Gives bind ◌>>=◌
    lined short z left is = go (nat_lt LIMIT_BYTES (length new)) refl
      where
        go : (b : Bool) → nat_lt LIMIT_BYTES (length new) ≡ b → Gives (by_view true) z h left (with_lines bytes) (Noted ns h)
        go true long = rw (too_long new long) (inr (new, too_long new long, inr (short, refl), is.0 refl, is.1))
        go false fits = rw (not_long new fits) (put_anew short fits z left is)

    read : (z : View) (left : List ℕ) → Is true ns z held_aside → Gives (by_view true) z h left (content_read p held >>= (λ b. with_lines b)) (Noted ns h)
    read z left is =
        gives_on (by_view true) z h left (content_read p held) (λ b. with_lines b) (Reads ns held_aside bytes h) (Noted ns h)
        (content_gives p held bytes held_aside (aside_stands run few p n ok bytes c stands_so) ns z h left is) good bad
      where
        good : (y : View) (j : Hand) (rest b : List ℕ) → Reads ns held_aside bytes h y j rest (Ok b) → Gives (by_view true) y j rest (with_lines b) (Noted ns h)
        good y j rest b f =
            let s = read_short b bytes f.value in
            subst (λ x. Gives (by_view true) y j rest (with_lines x) (Noted ns h)) (sym s.1) (subst (λ i. Gives (by_view true) y i rest (with_lines bytes) (Noted ns h)) (sym f.same.hand) (lined s.0 y rest f.same.is))

        bad : (y : View) (j : Hand) (rest : List ℕ) (e : PlanFault) → Reads ns held_aside bytes h y j rest (Err e) → Noted ns h y j rest (Err e)
        bad y j rest e f = inr (bytes, sym f.value, inl refl, f.same.is.0 refl, f.same.is.1)

    abbrev reading : List ℕ → Planned ℕ
    reading x = content_read p x >>= (λ b. Return (readable (lines ++ b)) >>= (λ t. stored_at run p n t top >>= (λ m. held_discarded p x >>= (λ gone. Return (Ok m)))))

    -- a message that stands at its number
    pub noted_gives : (v : View) (text : List ℕ) → Is true ns v c → Gives (by_view true) v h text (message_noted run p lines n top) (Noted ns h)
    unfolding message_noted
    noted_gives v text is =
        gives_on (by_view true) v h text (number_taken run p n) (λ x. reading x) (Takes ns c p run n bytes h) (Noted ns h)
        (take_gives run few p n ok bytes c stands_so ns v h text is)
        (λ z j left x t. subst (λ y. Gives (by_view true) z j left (reading y) (Noted ns h)) (sym t.name) (subst (λ k. Gives (by_view true) z k left (reading held) (Noted ns h)) (sym t.left.hand) (read z left t.left.is)))
        (λ z j left e f. absurd f)
