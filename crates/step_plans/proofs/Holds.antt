-- Each file that should stand has a solid name and an anchor, after each event.
use Rattle.std.proofs.Common.{◌≡◌, ℕ, Bool, true, false, ◌⊎◌, inl, inr, List, ◌∷◌, Option, Some, None, refl, sym, ◌∙◌, ap, bytes_eq}
use Rattle.mh_base.specs.Entries.{kind_of}
use Rattle.folder_files.specs.CrashImage.{IsCrashImage}
use Rattle.folder_files.specs.Directory.{DirectoryMap, touches, lead, kept_lead, now_in}
use Rattle.folder_files.specs.Histories.{world_after}
use Rattle.folder_files.specs.Named.{is_number, is_held}
use Rattle.folder_files.specs.Steps.{changed, linked, with_linked, synced, link_answer}
use Rattle.folder_files.specs.Worlds.{shown}
use Rattle.folder_files.specs.declared.event.After.{After}
use Rattle.folder_files.specs.declared.event.After.TheVariants.{Before, Made}
use Rattle.folder_files.specs.declared.event.Event.{Event}
use Rattle.folder_files.specs.declared.event.Event.TheVariants.{Act, Crash}
use Rattle.folder_files.specs.declared.place.Place.{Place}
use Rattle.folder_files.specs.declared.step.Answer.{Answer}
use Rattle.folder_files.specs.declared.step.Answer.TheVariants.{Done, Failed}
use Rattle.folder_files.specs.declared.step.Step.{Step}
use Rattle.folder_files.specs.declared.step.Step.TheVariants.{Link, Rename, SyncFolder}
use Rattle.folder_files.specs.declared.world.Change.{Change}
use Rattle.folder_files.specs.declared.world.Change.TheVariants.{Set, Moved}
use Rattle.folder_files.specs.declared.world.World.{World}
use Rattle.step_plans.specs.Anchors.{IsAnchor}
use Rattle.step_plans.specs.Durable.{WasPut, IsDurable, on}
use Rattle.step_plans.specs.MailInvariant.{IsLetGo}
use Rattle.step_plans.specs.Spending.{IsSpent, IsClear, on}
use Rattle.folder_files.specs.Standing.{is_standing}
use Rattle.folder_files.proofs.Names.{not_both, bytes_true, bytes_self, bytes_false, number_stands, held_stands, is_number_unheld}
use Rattle.step_plans.proofs.Closing.{anchor_stays, anchor_taken, anchor_fresh, anchor_kept, end_leads, end_stands}
use Rattle.folder_files.proofs.Changes.{untouched_change, IsUnseen, unseen_leads}
use Rattle.folder_files.proofs.Effects.{link_done}
use Rattle.step_plans.proofs.Past.{spent_case, clear_case, put_case, durable_case, clear_spent, spent_held, let_go_on}

pub record HasSolid (start : World) (p : Place) (d : DirectoryMap) (past : List Event) (f : ℕ) : Type 0 where
  pub name : List ℕ
  pub standing : is_standing name ≡ true
  pub unspent : IsSpent start p name past → ⊥
  pub leads : now_in d name ≡ Some f

pub record HasAnchor (start : World) (p : Place) (d : DirectoryMap) (past : List Event) (f : ℕ) : Type 0 where
  pub root : List ℕ
  pub end : List ℕ
  pub anchor : IsAnchor d.safe d.pending f root end
  pub unclear : IsClear start p end past → ⊥

abbrev pub Stood : World → Place → List Event → ℕ → List ℕ → Type 0
Stood start p past f b = WasPut start p f b past ⊎ IsDurable start p f b past

abbrev pub SolidOr : World → Place → DirectoryMap → List Event → ℕ → Type 0
SolidOr start p d past f = HasSolid start p d past f ⊎ IsLetGo start p f past

abbrev pub AnchorOr : World → Place → DirectoryMap → List Event → ℕ → Type 0
AnchorOr start p d past f = HasAnchor start p d past f ⊎ IsLetGo start p f past

pub record Holds (start : World) (p : Place) (d : DirectoryMap) (past : List Event) : Type 0 where
  pub solid : (f : ℕ) (b : List ℕ) → Stood start p past f b → SolidOr start p d past f
  pub anchored : (f : ℕ) (b : List ℕ) → IsDurable start p f b past → AnchorOr start p d past f

-- one more event
pub or_let_go : {A B : Type 0} {start : World} {p : Place} {f : ℕ} {e : Event} {past : List Event} → (A → B ⊎ IsLetGo start p f (e ∷ past)) → A ⊎ IsLetGo start p f past → B ⊎ IsLetGo start p f (e ∷ past)
or_let_go m (inl a) = m a
or_let_go m (inr z) = inr (let_go_on z)

-- standing names and anchors are as before
pub record Calm (d e : DirectoryMap) : Type 0 where
  pub leads : (x : List ℕ) (f : ℕ) → is_standing x ≡ true → now_in d x ≡ Some f → now_in e x ≡ Some f
  pub anchors : (f : ℕ) (x y : List ℕ) → IsAnchor d.safe d.pending f x y → IsAnchor e.safe e.pending f x y

pub calm_same : (d : DirectoryMap) → Calm d d
calm_same d = record { leads = λ x f s h. h; anchors = λ f x y a. a }

pub calm_change : (d : DirectoryMap) (c : Change) → ((x : List ℕ) → is_standing x ≡ true → touches c x ≡ false) → Calm d (changed d c)
calm_change d c quiet = record {
  leads = λ x f s h. untouched_change c (lead d.safe d.pending) x (quiet x s) ∙ h;
  anchors = λ f x y a. anchor_stays d.safe c d.pending f x y (quiet y (end_stands d.safe d.pending f x y a)) a;
}

-- an event that tells nothing new
pub record NoNews (start : World) (p : Place) (e : Event) (past : List Event) : Type 0 where
  pub spent : (h : List ℕ) → IsSpent start p h (e ∷ past) → IsSpent start p h past
  pub clear : (h : List ℕ) → IsClear start p h (e ∷ past) → IsClear start p h past
  pub put : (f : ℕ) (b : List ℕ) → WasPut start p f b (e ∷ past) → WasPut start p f b past
  pub durable : (f : ℕ) (b : List ℕ) → IsDurable start p f b (e ∷ past) → IsDurable start p f b past

stood_before : {start : World} {p : Place} {e : Event} {past : List Event} (f : ℕ) (b : List ℕ) → NoNews start p e past → Stood start p (e ∷ past) f b → Stood start p past f b
stood_before f b none (inl z) = inl (none.put f b z)
stood_before f b none (inr z) = inr (none.durable f b z)

pub calm_holds : (start : World) (p : Place) (d g : DirectoryMap) (e : Event) (past : List Event) → NoNews start p e past → Calm d g → Holds start p d past → Holds start p g (e ∷ past)
calm_holds start p d g e past none calm h = record {
  solid = λ f b ps. or_let_go (solid f) (h.solid f b (stood_before f b none ps));
  anchored = λ f b st. or_let_go (anchored f) (h.anchored f b (none.durable f b st));
}
  where
    solid : (f : ℕ) → HasSolid start p d past f → SolidOr start p g (e ∷ past) f
    solid f s = inl (record { name = s.name; standing = s.standing; unspent = λ z. s.unspent (none.spent s.name z); leads = calm.leads s.name f s.standing s.leads })

    anchored : (f : ℕ) → HasAnchor start p d past f → AnchorOr start p g (e ∷ past) f
    anchored f a = inl (record { root = a.root; end = a.end; anchor = calm.anchors f a.root a.end a.anchor; unclear = λ z. a.unclear (none.clear a.end z) })

-- an act that is neither a link to a number of p nor a sync of p
pub plain_news : (start : World) (p : Place) (r : ℕ) (s : Step) (a : Answer) (m : After) (past : List Event) → ((h n : List ℕ) → is_number (kind_of n) ≡ true → s ≡ Link p h n → ⊥) → (s ≡ SyncFolder p → ⊥)
    → NoNews start p (Act r s a m) past
plain_news start p r s a m past link sync = record {
  spent = λ h z. elim (spent_case z) [ inl y ↦ absurd (link h y.0 y.5 y.2) | inr y ↦ y ];
  clear = λ h z. elim (clear_case z) [ inl y ↦ absurd (sync y.0) | inr y ↦ y ];
  put = λ f b z. elim (put_case z) [ inl y ↦ absurd (link y.0 y.1 y.5 y.2) | inr y ↦ y ];
  durable = λ f b z. elim (durable_case z) [ inl y ↦ absurd (sync y.0) | inr y ↦ y ];
}

-- an act that did nothing
pub idle_news : (start : World) (p : Place) (r : ℕ) (s : Step) (past : List Event) → NoNews start p (Act r s Failed Before) past
idle_news start p r s past = record {
  spent = λ h z. elim (spent_case z) [ inl y ↦ absurd (cc (y.3)) | inr y ↦ y ];
  clear = λ h z. elim (clear_case z) [ inl y ↦ absurd (cc (y.1)) | inr y ↦ y ];
  put = λ f b z. elim (put_case z) [ inl y ↦ absurd (cc (y.3)) | inr y ↦ y ];
  durable = λ f b z. elim (durable_case z) [ inl y ↦ absurd (cc (y.1)) | inr y ↦ y ];
}

number_unspent : (start : World) (p : Place) (n : List ℕ) (past : List Event) → is_number (kind_of n) ≡ true → IsSpent start p n past → ⊥
number_unspent start p n past number z = not_both (is_held (kind_of n)) (spent_held z) (is_number_unheld n number)

abbrev pub directory_in : World → List Event → Place → DirectoryMap
directory_in start past p = (world_after start past).directories p

apart : (x y : List ℕ) (d : DirectoryMap) (f : ℕ) → now_in d x ≡ None → now_in d y ≡ Some f → bytes_eq x y ≡ false
apart x y d f none some = bytes_false x y (λ e. cc (ap (λ z. now_in d z) e, none, some))

-- a link to a number
pub fill_holds : (start : World) (p : Place) (r : ℕ) (a n : List ℕ) (t : Answer) (past : List Event) → is_number (kind_of n) ≡ true
    → (t ≡ Failed) ⊎ (t ≡ link_answer (now_in (directory_in start past p) a) (now_in (directory_in start past p) n))
    → Holds start p (directory_in start past p) past → Holds start p (with_linked (directory_in start past p) a n) (Act r (Link p a n) t Made ∷ past)
fill_holds start p r a n t past number answer h = go (now_in (directory_in start past p) a) (now_in (directory_in start past p) n) refl refl
  where
    news_not : ((f : ℕ) → now_in (directory_in start past p) a ≡ Some f → now_in (directory_in start past p) n ≡ None → ⊥) → NoNews start p (Act r (Link p a n) t Made) past
    news_not never = record {
      spent = λ h z. elim (spent_case z) [
        | inl y ↦ (let ea : a ≡ h = cc (y.2) in let en : n ≡ y.0 = cc (y.2) in absurd (never y.1 (rw ea y.6) (rw en y.7)))
        | inr y ↦ y
      ];
      clear = λ h z. elim (clear_case z) [ inl y ↦ absurd (cc (y.0)) | inr y ↦ y ];
      put = λ f b z. elim (put_case z) [ inl y ↦ absurd (done y.3) | inr y ↦ y ];
      durable = λ f b z. elim (durable_case z) [ inl y ↦ absurd (cc (y.0)) | inr y ↦ y ];
    }
      where
        done : t ≡ Done → ⊥
        done e = elim answer [
          | inl y ↦ cc (y, e)
          | inr y ↦ (let z = link_done (now_in (directory_in start past p) a) (now_in (directory_in start past p) n) (sym e ∙ y) in never z.0.0 z.0.1 z.1)
        ]

    idle : ((f : ℕ) → now_in (directory_in start past p) a ≡ Some f → now_in (directory_in start past p) n ≡ None → ⊥) → Holds start p (directory_in start past p) (Act r (Link p a n) t Made ∷ past)
    idle never = calm_holds start p (directory_in start past p) (directory_in start past p) (Act r (Link p a n) t Made) past (news_not never) (calm_same (directory_in start past p)) h

    fills : (g : ℕ) → now_in (directory_in start past p) a ≡ Some g → now_in (directory_in start past p) n ≡ None
        → Holds start p (changed (directory_in start past p) (Set n g)) (Act r (Link p a n) t Made ∷ past)
    fills g from free = record { solid = solid; anchored = anchored }
      where
        numbered : (f : ℕ) → g ≡ f → HasSolid start p (changed (directory_in start past p) (Set n g)) (Act r (Link p a n) t Made ∷ past) f
        numbered f e = record {
          name = n;
          standing = number_stands n number;
          unspent = λ z. number_unspent start p n (Act r (Link p a n) t Made ∷ past) number z;
          leads = rw (bytes_self n) (ap Some e);
        }

        old : (f : ℕ) → HasSolid start p (directory_in start past p) past f → HasSolid start p (changed (directory_in start past p) (Set n g)) (Act r (Link p a n) t Made ∷ past) f
        old f s = case (bytes_eq a s.name) refl
          where
            unspent : bytes_eq a s.name ≡ false → IsSpent start p s.name (Act r (Link p a n) t Made ∷ past) → ⊥
            unspent e z = elim (spent_case z) [
              | inl y ↦ (let ea : a ≡ s.name = cc (y.2) in not_both (bytes_eq s.name s.name) (bytes_self s.name) (rw ea at e))
              | inr y ↦ s.unspent y
            ]

            case : (v : Bool) → bytes_eq a s.name ≡ v → HasSolid start p (changed (directory_in start past p) (Set n g)) (Act r (Link p a n) t Made ∷ past) f
            case true e = numbered f (cc (from, s.leads, ap (λ z. now_in (directory_in start past p) z) (bytes_true a s.name e)))
            case false e = record {
              name = s.name;
              standing = s.standing;
              unspent = unspent e;
              leads = untouched_change (Set n g) (lead (directory_in start past p).safe (directory_in start past p).pending) s.name (apart n s.name (directory_in start past p) f free s.leads) ∙ s.leads;
            }

        solid : (f : ℕ) (b : List ℕ) → Stood start p (Act r (Link p a n) t Made ∷ past) f b → SolidOr start p (changed (directory_in start past p) (Set n g)) (Act r (Link p a n) t Made ∷ past) f
        solid f b (inl ps) = elim (put_case ps) [
          | inl y ↦ inl (numbered f (let ea : a ≡ y.0 = cc (y.2) in cc (from, y.6, ap (λ z. now_in (directory_in start past p) z) ea)))
          | inr y ↦ or_let_go (λ s. inl (old f s)) (h.solid f b (inl y))
        ]
        solid f b (inr ps) = elim (durable_case ps) [
          | inl y ↦ absurd (cc (y.0))
          | inr y ↦ or_let_go (λ s. inl (old f s)) (h.solid f b (inr y))
        ]

        anchored : (f : ℕ) (b : List ℕ) → IsDurable start p f b (Act r (Link p a n) t Made ∷ past) → AnchorOr start p (changed (directory_in start past p) (Set n g)) (Act r (Link p a n) t Made ∷ past) f
        anchored f b st = elim (durable_case st) [
          | inl y ↦ absurd (cc (y.0))
          | inr y ↦ or_let_go (λ k. inl (more k)) (h.anchored f b y)
        ]
          where
            more : HasAnchor start p (directory_in start past p) past f → HasAnchor start p (changed (directory_in start past p) (Set n g)) (Act r (Link p a n) t Made ∷ past) f
            more k = record {
              root = k.root;
              end = k.end;
              anchor = anchor_stays (directory_in start past p).safe (Set n g) (directory_in start past p).pending f k.root k.end
                  (apart n k.end (directory_in start past p) f free (end_leads (directory_in start past p).safe (directory_in start past p).pending f k.root k.end k.anchor)) k.anchor;
              unclear = λ z. elim (clear_case z) [ inl y ↦ cc (y.0) | inr y ↦ k.unclear y ];
            }

    go : (u v : Option ℕ) → now_in (directory_in start past p) a ≡ u → now_in (directory_in start past p) n ≡ v → Holds start p (linked (directory_in start past p) n u v) (Act r (Link p a n) t Made ∷ past)
    go (Some g) None e k = fills g e k
    go (Some g) (Some f) e k = idle (λ f x y. cc (y, k))
    go None v e k = idle (λ f x y. cc (x, e))

-- a sync
pub sync_holds : (start : World) (p : Place) (r : ℕ) (t : Answer) (past : List Event)
    → Holds start p (directory_in start past p) past → Holds start p (synced (directory_in start past p)) (Act r (SyncFolder p) t Made ∷ past)
sync_holds start p r t past h = record { solid = λ f b ps. or_let_go (solid f) (old f b ps); anchored = λ f b st. or_let_go (anchored f) (old f b (inr st)) }
  where
    old : (f : ℕ) (b : List ℕ) → Stood start p (Act r (SyncFolder p) t Made ∷ past) f b → SolidOr start p (directory_in start past p) past f
    old f b (inl ps) = elim (put_case ps) [ inl y ↦ absurd (cc (y.2)) | inr y ↦ h.solid f b (inl y) ]
    old f b (inr ps) = elim (durable_case ps) [ inl y ↦ h.solid f b (inl y.2) | inr y ↦ h.solid f b (inr y) ]

    solid : (f : ℕ) → HasSolid start p (directory_in start past p) past f → SolidOr start p (synced (directory_in start past p)) (Act r (SyncFolder p) t Made ∷ past) f
    solid f s = inl (record { name = s.name; standing = s.standing; unspent = λ z. elim (spent_case z) [ inl y ↦ cc (y.2) | inr y ↦ s.unspent y ]; leads = s.leads })

    anchored : (f : ℕ) → HasSolid start p (directory_in start past p) past f → AnchorOr start p (synced (directory_in start past p)) (Act r (SyncFolder p) t Made ∷ past) f
    anchored f s = inl (record {
      root = s.name;
      end = s.name;
      anchor = anchor_fresh (lead (directory_in start past p).safe (directory_in start past p).pending) f s.name s.standing s.leads;
      unclear = λ z. elim (clear_case z) [ inl y ↦ s.unspent y.2 | inr y ↦ s.unspent (clear_spent y) ];
    })

-- a change that takes a standing name x away, where each file that needs it is let go
pub lose_holds : (start : World) (p : Place) (r : ℕ) (s : Step) (a : Answer) (m : After) (c : Change) (x : List ℕ) (past : List Event)
    → ((h n : List ℕ) → is_number (kind_of n) ≡ true → s ≡ Link p h n → ⊥) → (s ≡ SyncFolder p → ⊥) → ((y : List ℕ) → is_standing y ≡ true → touches c y ≡ true → x ≡ y)
    → ((f : ℕ) → now_in (directory_in start past p) x ≡ Some f → IsClear start p x past ⊎ IsLetGo start p f (Act r s a m ∷ past))
    → Holds start p (directory_in start past p) past → Holds start p (changed (directory_in start past p) c) (Act r s a m ∷ past)
lose_holds start p r s a m c x past link sync only lost h = record {
  solid = λ f b ps. or_let_go (solid f) (h.solid f b (stood_before f b none ps));
  anchored = λ f b st. or_let_go (anchored f) (h.anchored f b (none.durable f b st));
}
  where
    none : NoNews start p (Act r s a m) past
    none = plain_news start p r s a m past link sync

    free : (f : ℕ) (y : List ℕ) → is_standing y ≡ true → (IsClear start p y past → ⊥) → now_in (directory_in start past p) y ≡ Some f → (touches c y ≡ false) ⊎ IsLetGo start p f (Act r s a m ∷ past)
    free f y st unclear leads = go (touches c y) refl
      where
        go : (v : Bool) → touches c y ≡ v → (v ≡ false) ⊎ IsLetGo start p f (Act r s a m ∷ past)
        go true e = let xy = only y st e in elim (lost f (rw xy leads)) [ inl z ↦ absurd (unclear (rw xy at z)) | inr z ↦ inr z ]
        go false e = inl refl

    solid : (f : ℕ) → HasSolid start p (directory_in start past p) past f → SolidOr start p (changed (directory_in start past p) c) (Act r s a m ∷ past) f
    solid f k = elim (free f k.name k.standing (λ z. k.unspent (clear_spent z)) k.leads) [
      | inl apart ↦ inl (record {
        name = k.name;
        standing = k.standing;
        unspent = λ z. k.unspent (none.spent k.name z);
        leads = untouched_change c (lead (directory_in start past p).safe (directory_in start past p).pending) k.name apart ∙ k.leads;
      })
      | inr z ↦ inr z
    ]

    anchored : (f : ℕ) → HasAnchor start p (directory_in start past p) past f → AnchorOr start p (changed (directory_in start past p) c) (Act r s a m ∷ past) f
    anchored f k =
        let leads = end_leads (directory_in start past p).safe (directory_in start past p).pending f k.root k.end k.anchor in
        let stands = end_stands (directory_in start past p).safe (directory_in start past p).pending f k.root k.end k.anchor in
        elim (free f k.end stands k.unclear leads) [
          | inl apart ↦ inl (record {
            root = k.root;
            end = k.end;
            unclear = λ z. k.unclear (none.clear k.end z);
            anchor = anchor_stays (directory_in start past p).safe c (directory_in start past p).pending f k.root k.end apart k.anchor;
          })
          | inr z ↦ inr z
        ]

-- a take: the number's file goes on under a held name that was never seen
pub take_holds : (start : World) (p : Place) (r : ℕ) (n h : List ℕ) (a : Answer) (m : After) (past : List Event) → is_number (kind_of n) ≡ true → is_held (kind_of h) ≡ true
    → IsUnseen (directory_in start past p) h → (IsSpent start p h past → ⊥)
    → Holds start p (directory_in start past p) past → Holds start p (changed (directory_in start past p) (Moved n h)) (Act r (Rename p n h) a m ∷ past)
take_holds start p r n h a m past number held unseen unspent old = record {
  solid = λ f b ps. or_let_go (solid f) (old.solid f b (stood_before f b none ps));
  anchored = λ f b st. or_let_go (anchored f) (old.anchored f b (none.durable f b st));
}
  where
    none : NoNews start p (Act r (Rename p n h) a m) past
    none = plain_news start p r (Rename p n h) a m past (λ h n is e. cc (e)) (λ e. cc (e))

    never : now_in (directory_in start past p) h ≡ None
    never = unseen_leads (directory_in start past p) h unseen

    free : (f : ℕ) (y : List ℕ) → now_in (directory_in start past p) y ≡ Some f → bytes_eq n y ≡ false → touches (Moved n h) y ≡ false
    free f y leads e = rw (e, apart h y (directory_in start past p) f never leads) refl

    solid : (f : ℕ) → HasSolid start p (directory_in start past p) past f → SolidOr start p (changed (directory_in start past p) (Moved n h)) (Act r (Rename p n h) a m ∷ past) f
    solid f k = case (bytes_eq n k.name) refl
      where
        case : (v : Bool) → bytes_eq n k.name ≡ v → SolidOr start p (changed (directory_in start past p) (Moved n h)) (Act r (Rename p n h) a m ∷ past) f
        case true e = inl (record {
          name = h;
          standing = held_stands h held;
          unspent = λ z. unspent (none.spent h z);
          leads = rw (bytes_self h) (cc (k.leads, ap (λ z. now_in (directory_in start past p) z) (bytes_true n k.name e)));
        })
        case false e = inl (record {
          name = k.name;
          standing = k.standing;
          unspent = λ z. k.unspent (none.spent k.name z);
          leads = untouched_change (Moved n h) (lead (directory_in start past p).safe (directory_in start past p).pending) k.name (free f k.name k.leads e) ∙ k.leads;
        })

    anchored : (f : ℕ) → HasAnchor start p (directory_in start past p) past f → AnchorOr start p (changed (directory_in start past p) (Moved n h)) (Act r (Rename p n h) a m ∷ past) f
    anchored f k = case (bytes_eq n k.end) refl
      where
        case : (v : Bool) → bytes_eq n k.end ≡ v → AnchorOr start p (changed (directory_in start past p) (Moved n h)) (Act r (Rename p n h) a m ∷ past) f
        case true e = inl (record {
          root = k.root;
          end = h;
          anchor = anchor_taken (directory_in start past p).safe (directory_in start past p).pending f n h k.root held (is_number_unheld n number) (rw (sym (bytes_true n k.end e)) at k.anchor);
          unclear = λ z. unspent (clear_spent (none.clear h z));
        })
        case false e = inl (record {
          root = k.root;
          end = k.end;
          unclear = λ z. k.unclear (none.clear k.end z);
          anchor = anchor_stays (directory_in start past p).safe (Moved n h) (directory_in start past p).pending f k.root k.end
              (free f k.end (end_leads (directory_in start past p).safe (directory_in start past p).pending f k.root k.end k.anchor) e) k.anchor;
        })

-- a crash
pub crash_holds : (start : World) (p : Place) (v : World) (past : List Event) (over : ℕ → Bool) → IsCrashImage (world_after start past) (shown v) over
    → Holds start p (directory_in start past p) past → Holds start p ((shown v).directories p) (Crash v ∷ past)
crash_holds start p v past over image h = record { solid = solid; anchored = λ f b st. or_let_go (anchored f) (h.anchored f b (before st)) }
  where
    unclear : (y : List ℕ) → IsClear start p y (Crash v ∷ past) → ⊥
    unclear y (on nc z) = nc

    unspent : (y : List ℕ) → IsSpent start p y (Crash v ∷ past) → ⊥
    unspent y (on nc z) = nc

    before : {f : ℕ} {b : List ℕ} → IsDurable start p f b (Crash v ∷ past) → IsDurable start p f b past
    before (on z) = z

    unput : {f : ℕ} {b : List ℕ} → WasPut start p f b (Crash v ∷ past) → ⊥
    unput (on nc z) = nc

    anchored : (f : ℕ) → HasAnchor start p (directory_in start past p) past f → AnchorOr start p ((shown v).directories p) (Crash v ∷ past) f
    anchored f k = inl (elim (anchor_kept (directory_in start past p).safe (directory_in start past p).pending (image.directories p).keep f k.root k.end (image.directories p).closed k.anchor) [
      | inl z ↦ under k.root k.anchor.standing z
      | inr z ↦ under k.end (held_stands k.end z.0) z.1
    ])
      where
        under : (y : List ℕ) → is_standing y ≡ true → kept_lead (directory_in start past p).safe (directory_in start past p).pending (image.directories p).keep y ≡ Some f → HasAnchor start p ((shown v).directories p) (Crash v ∷ past) f
        under y stands leads = record {
          root = y;
          end = y;
          unclear = unclear y;
          anchor = rw (image.directories p).nothing_pending (anchor_fresh ((shown v).directories p).safe f y stands ((image.directories p).slots y ∙ leads));
        }

    solid : (f : ℕ) (b : List ℕ) → Stood start p (Crash v ∷ past) f b → SolidOr start p ((shown v).directories p) (Crash v ∷ past) f
    solid f b (inl z) = absurd (unput z)
    solid f b (inr z) = elim (or_let_go (anchored f) (h.anchored f b (before z))) [
      | inl k ↦ inl (record {
        name = k.end;
        standing = end_stands ((shown v).directories p).safe ((shown v).directories p).pending f k.root k.end k.anchor;
        unspent = unspent k.end;
        leads = end_leads ((shown v).directories p).safe ((shown v).directories p).pending f k.root k.end k.anchor;
      })
      | inr y ↦ inr y
    ]
