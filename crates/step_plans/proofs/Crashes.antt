-- Crashes, deliveries and ends keep the invariant, and a start has it.
use Rattle.std.proofs.Common.{◌≡◌, ℕ, true, ◌==◌, inl, inr, List, [], ◌∷◌, Some, sym, ◌∙◌, subst}
use Rattle.folder_files.specs.CrashImage.{IsCrashImage}
use Rattle.folder_files.specs.Deeds.{Deed, Since}
use Rattle.folder_files.specs.Directory.{DirectoryMap}
use Rattle.folder_files.specs.Histories.{world_after, own, has_acted, IsLive, after_delivery, after_end}
use Rattle.folder_files.specs.Worlds.{WorldMap, shown, IsStart}
use Rattle.folder_files.specs.declared.event.After.TheVariants.{Before, Made}
use Rattle.folder_files.specs.declared.event.Event.{Event}
use Rattle.folder_files.specs.declared.event.Event.TheVariants.{Act, Deliver, Crash, End}
use Rattle.folder_files.specs.declared.place.Place.{Place}
use Rattle.folder_files.specs.declared.place.FilePath.{FilePath}
use Rattle.folder_files.specs.declared.step.Answer.TheVariants.{Failed}
use Rattle.folder_files.specs.declared.step.Step.{Step}
use Rattle.folder_files.specs.declared.world.World.{World}
use Rattle.step_plans.specs.Durable.{WasPut, HasBeenPut, IsDurable, stood, now, on}
use Rattle.step_plans.specs.Leaving.{IsRemoved, IsDiscarded, backed_up, unlinked, now, on}
use Rattle.step_plans.specs.MailInvariant.{IsLetGo}
use Rattle.step_plans.specs.Moments.{Leads, IsTriedAt, live, cut, Tries}
use Rattle.step_plans.specs.Spending.{IsSpent, IsClear, now, on}
use Rattle.folder_files.specs.Standing.{is_standing}
use Rattle.step_plans.specs.Successors.{WasPutSince, now, on}
use Rattle.folder_files.proofs.Names.{not_both, or_left, or_false}
use Rattle.step_plans.proofs.Closing.{untouched_kept, anchor_fresh}
use Rattle.folder_files.proofs.Changes.{IsUnseen, kept_below}
use Rattle.folder_files.proofs.Effects.{refused, left, world_start, world_crash, world_deliver, world_end, world_next}
use Rattle.step_plans.proofs.Past.{once_none, acted, since_read, put_case, ever_case, durable_case, since_case, spent_case, clear_case, let_go_on}
use Rattle.step_plans.proofs.Holds.{crash_holds}
use Rattle.step_plans.proofs.Inv.{Inv, InvAt, IsSafeAs}
use Rattle.folder_files.proofs.Beginning.{nothing_pending, all_safe, all_known}

since_none : {P : Deed → List Deed → Type 0} {E : Deed → Type 0} → Since P E [] → ⊥
since_none z = elim z [ ]

crash_at : (start : World) (v : World) (past : List Event) → IsCrashImage (world_after start past) (shown v) (has_acted past) → Inv start past → InvAt start (Crash v ∷ past) (shown v)
unfolding own
crash_at start v past image i = record {
  below = λ p. record {
    safe = λ n f e. rw image.next_file (kept_below (world_after start past).next_file (old p).safe (old p).pending (image.directories p).keep (i.below p).safe (i.below p).pending n f (sym ((image.directories p).slots n) ∙ e));
    pending = rw (image.directories p).nothing_pending tt;
  };
  fresh = λ p r n x lock t none nd nf. (let fr = i.fresh p r n x lock t none nd nf in record { unseen = unseen p x fr.unseen; unspent = no_spent p x; unread = fr.unread });
  fresh_temp = λ p r x lock t none nd nf. unseen p x (i.fresh_temp p r x lock t none nd nf);
  temps = λ r p x f c lock t lv w leads. absurd (over r lv (acted r past w));
  ready = λ r p x f lock t lv w leads. absurd (over r lv (acted r past w));
  read = λ r p x f b lock h lv none w leads. absurd (over r lv (acted r past w));
  gave = λ r p h held lv w. absurd (over r lv (acted r past w));
  cleared = λ r p h held lv w. absurd (over r lv (acted r past w));
  put = λ p f b w. absurd (no_put p f b w);
  durable = λ p f b w. (let z = i.durable p f b (before w) in record {
    there = rw image.next_file z.there;
    safe = image.all_safe f z.there;
    bytes = image.kept_bytes f z.safe ∙ z.bytes;
  });
  ever = λ p f b w. (let z = i.ever p f b (ever w) in record { there = rw image.next_file z.there; safe = image.all_safe f z.there; bytes = image.kept_bytes f z.safe ∙ z.bytes });
  since = λ r p h b q g c lv lines w. absurd (over r lv (acted r past (since_read r past (earlier w))));
  older_temp = λ r p x q t f g b c lock lock_q h tt_ lv none w leads_t leads_x. absurd (over r lv (acted r past w));
  older_put = λ r p x q f g b c lock h lv none w leads. absurd (over r lv (acted r past (since_read r past (earlier w))));
  holds = λ p lock. crash_holds start p v past (has_acted past) image (i.holds p lock);
}
  where
    old : Place → DirectoryMap
    old p = (world_after start past).directories p

    over : (r : ℕ) → IsLive r (shown v) → has_acted past r ≡ true → ⊥
    over r lv e = not_both ((shown v).ended r) (image.ended r (or_left (has_acted past r) ((world_after start past).ended r) e)) lv

    unseen : (p : Place) (x : List ℕ) → IsUnseen (old p) x → IsUnseen ((shown v).directories p) x
    unseen p x u = ((image.directories p).slots x ∙ (untouched_kept (old p).safe (old p).pending (image.directories p).keep x u.1 ∙ u.0), rw (image.directories p).nothing_pending tt)

    no_spent : (p : Place) (h : List ℕ) → IsSpent start p h (Crash v ∷ past) → ⊥
    no_spent p h (on nc z) = nc

    no_put : (p : Place) (f : ℕ) (b : List ℕ) → WasPut start p f b (Crash v ∷ past) → ⊥
    no_put p f b (on nc z) = nc

    ever : {p : Place} {f : ℕ} {b : List ℕ} → HasBeenPut start p f b (Crash v ∷ past) → HasBeenPut start p f b past
    ever (on z) = z

    before : {p : Place} {f : ℕ} {b : List ℕ} → IsDurable start p f b (Crash v ∷ past) → IsDurable start p f b past
    before (on z) = z

    earlier : {r : ℕ} {p : Place} {h b : List ℕ} {q : Place} {g : ℕ} {c : List ℕ} → WasPutSince start r p h b q g c (Crash v ∷ past) → WasPutSince start r p h b q g c past
    earlier (on z) = z

pub inv_crash : (start : World) (v : World) (past : List Event) → IsCrashImage (world_after start past) (shown v) (has_acted past) → Inv start past → Inv start (Crash v ∷ past)
inv_crash start v past image i = subst (λ (z : WorldMap). InvAt start (Crash v ∷ past) z) (sym (world_crash start v past)) (crash_at start v past image i)

pub ended_by : (start v : World) (past : List Event) (r : ℕ) → (shown v).ended r ≡ true → (world_after start (Crash v ∷ past)).ended r ≡ true
unfolding world_after
ended_by start v past r e = e

pub tries_cut : (start : World) (r : ℕ) (p : Place) (x : List ℕ) (f : ℕ) (v : World) (past : List Event) → IsLive r (world_after start past) → (shown v).ended r ≡ true → Tries start r p x f past → Tries start r p x f (Crash v ∷ past)
tries_cut start r p x f v past lv over t = (past, cut over lv, was_at lv t.1 t.2)
  where
    was_at : {moment past : List Event} → IsLive r (world_after start past) → IsTriedAt start r moment past → Leads start moment p x f → Leads start past p x f
    was_at lv (live l) here = here
    was_at lv (cut {v = u} {past = before} e l) here = absurd (not_both ((world_after start (Crash u ∷ before)).ended r) (ended_by start u before r e) lv)

took_cut : (start : World) (v : World) (r : ℕ) (s : Step) (past : List Event) → IsLive r (world_after start past) → (shown v).ended r ≡ true → (p : Place) (f : ℕ)
    → IsRemoved start p f (Act r s Failed Made ∷ past) → IsRemoved start p f (Act r s Failed Before ∷ (Crash v ∷ past))
took_cut start v r s past lv over p f (backed_up {number = n} is t) = backed_up is (tries_cut start r p n f v past lv over t)
took_cut start v r s past lv over p f (unlinked {number = n} is t) = unlinked is (tries_cut start r p n f v past lv over t)
took_cut start v r s past lv over p f (on z) = on (on z)

let_go_cut : (start : World) (v : World) (r : ℕ) (s : Step) (past : List Event) → IsLive r (world_after start past) → (shown v).ended r ≡ true → (p : Place) (f : ℕ)
    → IsDiscarded start p f (Act r s Failed Made ∷ past) → IsDiscarded start p f (Act r s Failed Before ∷ (Crash v ∷ past))
unfolding own
let_go_cut start v r s past lv over p f (now {held = h} is t nd) = now is (tries_cut start r p h f v past lv over t) nd
let_go_cut start v r s past lv over p f (on z) = on (on z)

-- a crash within a step: as if the step had been made, and then the crash
within_at : (start : World) (v : World) (r : ℕ) (s : Step) (past : List Event) → IsLive r (world_after start past) → (shown v).ended r ≡ true
    → Inv start (Crash v ∷ (Act r s Failed Made ∷ past)) → InvAt start (Act r s Failed Before ∷ (Crash v ∷ past)) (left (world_after start (Crash v ∷ past)) r s Failed Before)
unfolding own world_after
within_at start v r s past lv over i = record {
  below = i.below;
  fresh = λ p o n x lock t none nd nf. (let fr = i.fresh p o n x lock t none nd nf in record { unseen = fr.unseen; unspent = no_spent p x; unread = fr.unread });
  fresh_temp = i.fresh_temp;
  temps = i.temps;
  ready = i.ready;
  read = i.read;
  gave = λ o p h held l w. absurd (was_spent p h (i.gave o p h held l w));
  cleared = λ o p h held l w. absurd (was_clear p h (i.cleared o p h held l w));
  put = λ p f b w. absurd (no_put p f b w);
  durable = λ p f b w. (let z = i.durable p f b (durable w) in record { there = z.there; safe = z.safe; bytes = z.bytes });
  ever = λ p f b w. (let z = i.ever p f b (ever w) in record { there = z.there; safe = z.safe; bytes = z.bytes });
  since = λ o p h b q g c l lines w. elim (i.since o p h b q g c l lines (on (on (earlier w)))) [ inl z ↦ inl (back z) | inr z ↦ absurd (was_put q g c z.1) ];
  older_temp = i.older_temp;
  older_put = λ o p x q f g b c lock h l none w leads. i.older_put o p x q f g b c lock h l none (on (on (earlier w))) leads;
  holds = λ p lock. record {
    solid = λ f b ps. elim ((i.holds p lock).solid f b (inr (elim ps [ inl z ↦ absurd (no_put p f b z) | inr z ↦ durable z ]))) [
      | inl k ↦ inl (record { name = k.name; standing = k.standing; unspent = no_spent p k.name; leads = k.leads })
      | inr z ↦ inr (let_go p f z)
    ];
    anchored = λ f b st. elim ((i.holds p lock).anchored f b (durable st)) [
      | inl k ↦ inl (record { root = k.root; end = k.end; anchor = k.anchor; unclear = no_clear p k.end })
      | inr z ↦ inr (let_go p f z)
    ];
  };
}
  where
    crash_spent : (p : Place) (h : List ℕ) → IsSpent start p h (Crash v ∷ past) → ⊥
    crash_spent p h (on nc z) = nc

    no_spent : (p : Place) (h : List ℕ) → IsSpent start p h (Act r s Failed Before ∷ (Crash v ∷ past)) → ⊥
    no_spent p h z = elim (spent_case z) [ inl y ↦ cc (y.3) | inr y ↦ crash_spent p h y ]

    crash_clear : (p : Place) (h : List ℕ) → IsClear start p h (Crash v ∷ past) → ⊥
    crash_clear p h (on nc z) = nc

    no_clear : (p : Place) (h : List ℕ) → IsClear start p h (Act r s Failed Before ∷ (Crash v ∷ past)) → ⊥
    no_clear p h z = elim (clear_case z) [ inl y ↦ cc (y.1) | inr y ↦ crash_clear p h y ]

    crash_put : (p : Place) (f : ℕ) (b : List ℕ) → WasPut start p f b (Crash v ∷ past) → ⊥
    crash_put p f b (on nc z) = nc

    no_put : (p : Place) (f : ℕ) (b : List ℕ) → WasPut start p f b (Act r s Failed Before ∷ (Crash v ∷ past)) → ⊥
    no_put p f b z = elim (put_case z) [ inl y ↦ cc (y.3) | inr y ↦ crash_put p f b y ]

    was_spent : (p : Place) (h : List ℕ) → IsSpent start p h (Crash v ∷ (Act r s Failed Made ∷ past)) → ⊥
    was_spent p h (on nc z) = nc

    was_clear : (p : Place) (h : List ℕ) → IsClear start p h (Crash v ∷ (Act r s Failed Made ∷ past)) → ⊥
    was_clear p h (on nc z) = nc

    was_put : (p : Place) (f : ℕ) (b : List ℕ) → WasPut start p f b (Crash v ∷ (Act r s Failed Made ∷ past)) → ⊥
    was_put p f b (on nc z) = nc

    crash_durable : {p : Place} {f : ℕ} {b : List ℕ} → IsDurable start p f b (Crash v ∷ past) → IsDurable start p f b past
    crash_durable (on z) = z

    durable : {p : Place} {f : ℕ} {b : List ℕ} → IsDurable start p f b (Act r s Failed Before ∷ (Crash v ∷ past)) → IsDurable start p f b (Crash v ∷ (Act r s Failed Made ∷ past))
    durable z = elim (durable_case z) [ inl y ↦ absurd (cc (y.1)) | inr y ↦ on (on (crash_durable y)) ]

    crash_ever : {p : Place} {f : ℕ} {b : List ℕ} → HasBeenPut start p f b (Crash v ∷ past) → HasBeenPut start p f b past
    crash_ever (on z) = z

    ever : {p : Place} {f : ℕ} {b : List ℕ} → HasBeenPut start p f b (Act r s Failed Before ∷ (Crash v ∷ past)) → HasBeenPut start p f b (Crash v ∷ (Act r s Failed Made ∷ past))
    ever z = elim (ever_case z) [ inl y ↦ absurd (cc (y.3)) | inr y ↦ on (on (crash_ever y)) ]

    uncrash : {p : Place} {f : ℕ} {b : List ℕ} → IsDurable start p f b (Crash v ∷ (Act r s Failed Made ∷ past)) → IsDurable start p f b (Act r s Failed Made ∷ past)
    uncrash (on z) = z

    back : {p : Place} {f : ℕ} {b : List ℕ} → IsDurable start p f b (Crash v ∷ (Act r s Failed Made ∷ past)) → IsDurable start p f b (Act r s Failed Before ∷ (Crash v ∷ past))
    back z = elim (durable_case (uncrash z)) [ inl y ↦ absurd (cc (y.1)) | inr y ↦ on (on y) ]

    crash_since : {o : ℕ} {p : Place} {h b : List ℕ} {q : Place} {g : ℕ} {c : List ℕ} → WasPutSince start o p h b q g c (Crash v ∷ past) → WasPutSince start o p h b q g c past
    crash_since (on z) = z

    earlier : {o : ℕ} {p : Place} {h b : List ℕ} {q : Place} {g : ℕ} {c : List ℕ} → WasPutSince start o p h b q g c (Act r s Failed Before ∷ (Crash v ∷ past)) → WasPutSince start o p h b q g c past
    earlier z = elim (since_case z) [ inl y ↦ absurd (cc (y.4)) | inr y ↦ crash_since y ]

    removed : (p : Place) (f : ℕ) → IsRemoved start p f (Crash v ∷ (Act r s Failed Made ∷ past)) → IsRemoved start p f (Act r s Failed Before ∷ (Crash v ∷ past))
    removed p f (on z) = took_cut start v r s past lv over p f z

    discarded : (p : Place) (f : ℕ) → IsDiscarded start p f (Crash v ∷ (Act r s Failed Made ∷ past)) → IsDiscarded start p f (Act r s Failed Before ∷ (Crash v ∷ past))
    discarded p f (on z) = let_go_cut start v r s past lv over p f z

    let_go : (p : Place) (f : ℕ) → IsLetGo start p f (Crash v ∷ (Act r s Failed Made ∷ past)) → IsLetGo start p f (Act r s Failed Before ∷ (Crash v ∷ past))
    let_go p f (inl z) = inl (removed p f z)
    let_go p f (inr z) = inr (discarded p f z)

pub inv_within : (start : World) (v : World) (r : ℕ) (s : Step) (past : List Event) → IsLive r (world_after start past) → (shown v).ended r ≡ true
    → Inv start (Crash v ∷ (Act r s Failed Made ∷ past)) → Inv start (Act r s Failed Before ∷ (Crash v ∷ past))
inv_within start v r s past lv over i =
    subst (λ (z : WorldMap). InvAt start (Act r s Failed Before ∷ (Crash v ∷ past)) z) (sym (world_next start r s Failed Before (Crash v ∷ past) (refused (ended_by start v past r over)))) (within_at start v r s past lv over i)

deliver_at : (start : World) (path : FilePath) (piece : List ℕ) (past : List Event) → Inv start past → InvAt start (Deliver path piece ∷ past) (after_delivery (world_after start past) path piece)
unfolding own
deliver_at start path piece past i = record {
  below = i.below;
  fresh = λ p o n x lock t none nd nf. (let fr = i.fresh p o n x lock t none nd nf in record { unseen = fr.unseen; unspent = λ z. fr.unspent (spent z); unread = fr.unread });
  fresh_temp = i.fresh_temp;
  temps = i.temps;
  ready = i.ready;
  read = i.read;
  gave = λ o p h held lv w. on tt (i.gave o p h held lv w);
  cleared = λ o p h held lv w. on tt (i.cleared o p h held lv w);
  put = λ p f b w. safely f b (i.put p f b (put w));
  durable = λ p f b w. safely f b (i.durable p f b (durable w));
  ever = λ p f b w. safely f b (i.ever p f b (ever w));
  since = λ o p h b q g c lv lines w. elim (i.since o p h b q g c lv lines (since w)) [ inl z ↦ inl (on z) | inr z ↦ inr (z.0, on tt z.1) ];
  older_temp = i.older_temp;
  older_put = λ o p x q f g b c lock h lv none w leads. i.older_put o p x q f g b c lock h lv none (since w) leads;
  holds = λ p lock. record {
    solid = λ f b ps. elim ((i.holds p lock).solid f b (elim ps [ inl z ↦ inl (put z) | inr z ↦ inr (durable z) ])) [
      | inl k ↦ inl (record { name = k.name; standing = k.standing; unspent = λ z. k.unspent (spent z); leads = k.leads })
      | inr z ↦ inr (let_go_on z)
    ];
    anchored = λ f b st. elim ((i.holds p lock).anchored f b (durable st)) [
      | inl k ↦ inl (record { root = k.root; end = k.end; anchor = k.anchor; unclear = λ z. k.unclear (clear z) })
      | inr z ↦ inr (let_go_on z)
    ];
  };
}
  where
    safely : (f : ℕ) (b : List ℕ) → IsSafeAs (world_after start past) f b → IsSafeAs (after_delivery (world_after start past) path piece) f b
    safely f b z = record { there = z.there; safe = z.safe; bytes = z.bytes }

    spent : {p : Place} {h : List ℕ} → IsSpent start p h (Deliver path piece ∷ past) → IsSpent start p h past
    spent (on nc z) = z

    clear : {p : Place} {h : List ℕ} → IsClear start p h (Deliver path piece ∷ past) → IsClear start p h past
    clear (on nc z) = z

    ever : {p : Place} {f : ℕ} {b : List ℕ} → HasBeenPut start p f b (Deliver path piece ∷ past) → HasBeenPut start p f b past
    ever (on z) = z

    put : {p : Place} {f : ℕ} {b : List ℕ} → WasPut start p f b (Deliver path piece ∷ past) → WasPut start p f b past
    put (on nc z) = z

    durable : {p : Place} {f : ℕ} {b : List ℕ} → IsDurable start p f b (Deliver path piece ∷ past) → IsDurable start p f b past
    durable (on z) = z

    since : {o : ℕ} {p : Place} {h b : List ℕ} {q : Place} {g : ℕ} {c : List ℕ} → WasPutSince start o p h b q g c (Deliver path piece ∷ past) → WasPutSince start o p h b q g c past
    since (on z) = z

pub inv_deliver : (start : World) (path : FilePath) (piece : List ℕ) (past : List Event) → Inv start past → Inv start (Deliver path piece ∷ past)
inv_deliver start path piece past i = subst (λ (z : WorldMap). InvAt start (Deliver path piece ∷ past) z) (sym (world_deliver start path piece past)) (deliver_at start path piece past i)

end_at : (start : World) (who : ℕ) (past : List Event) → Inv start past → InvAt start (End who ∷ past) (after_end (world_after start past) who)
unfolding own
end_at start who past i = record {
  below = i.below;
  fresh = λ p o n x lock t none nd nf. (let fr = i.fresh p o n x lock t none nd nf in record { unseen = fr.unseen; unspent = λ z. fr.unspent (spent z); unread = fr.unread });
  fresh_temp = i.fresh_temp;
  temps = λ o p x f c lock t lv w leads. i.temps o p x f c lock t (lives o lv) w leads;
  ready = λ o p x f lock t lv w leads. i.ready o p x f lock t (lives o lv) w leads;
  read = λ o p x f b lock h lv none w leads. i.read o p x f b lock h (lives o lv) none w leads;
  gave = λ o p h held lv w. on tt (i.gave o p h held (lives o lv) w);
  cleared = λ o p h held lv w. on tt (i.cleared o p h held (lives o lv) w);
  put = λ p f b w. safely f b (i.put p f b (put w));
  durable = λ p f b w. safely f b (i.durable p f b (durable w));
  ever = λ p f b w. safely f b (i.ever p f b (ever w));
  since = λ o p h b q g c lv lines w. elim (i.since o p h b q g c (lives o lv) lines (since w)) [ inl z ↦ inl (on z) | inr z ↦ inr (z.0, on tt z.1) ];
  older_temp = λ o p x q t f g b c lock lock_q h is lv none w leads_t leads_x. i.older_temp o p x q t f g b c lock lock_q h is (lives o lv) none w leads_t leads_x;
  older_put = λ o p x q f g b c lock h lv none w leads. i.older_put o p x q f g b c lock h (lives o lv) none (since w) leads;
  holds = λ p lock. record {
    solid = λ f b ps. elim ((i.holds p lock).solid f b (elim ps [ inl z ↦ inl (put z) | inr z ↦ inr (durable z) ])) [
      | inl k ↦ inl (record { name = k.name; standing = k.standing; unspent = λ z. k.unspent (spent z); leads = k.leads })
      | inr z ↦ inr (let_go_on z)
    ];
    anchored = λ f b st. elim ((i.holds p lock).anchored f b (durable st)) [
      | inl k ↦ inl (record { root = k.root; end = k.end; anchor = k.anchor; unclear = λ z. k.unclear (clear z) })
      | inr z ↦ inr (let_go_on z)
    ];
  };
}
  where
    lives : (o : ℕ) → IsLive o (after_end (world_after start past) who) → IsLive o (world_after start past)
    lives o h = (or_false (who == o) ((world_after start past).ended o) h).1

    safely : (f : ℕ) (b : List ℕ) → IsSafeAs (world_after start past) f b → IsSafeAs (after_end (world_after start past) who) f b
    safely f b z = record { there = z.there; safe = z.safe; bytes = z.bytes }

    spent : {p : Place} {h : List ℕ} → IsSpent start p h (End who ∷ past) → IsSpent start p h past
    spent (on nc z) = z

    clear : {p : Place} {h : List ℕ} → IsClear start p h (End who ∷ past) → IsClear start p h past
    clear (on nc z) = z

    ever : {p : Place} {f : ℕ} {b : List ℕ} → HasBeenPut start p f b (End who ∷ past) → HasBeenPut start p f b past
    ever (on z) = z

    put : {p : Place} {f : ℕ} {b : List ℕ} → WasPut start p f b (End who ∷ past) → WasPut start p f b past
    put (on nc z) = z

    durable : {p : Place} {f : ℕ} {b : List ℕ} → IsDurable start p f b (End who ∷ past) → IsDurable start p f b past
    durable (on z) = z

    since : {o : ℕ} {p : Place} {h b : List ℕ} {q : Place} {g : ℕ} {c : List ℕ} → WasPutSince start o p h b q g c (End who ∷ past) → WasPutSince start o p h b q g c past
    since (on z) = z

pub inv_end : (start : World) (who : ℕ) (past : List Event) → Inv start past → Inv start (End who ∷ past)
inv_end start who past i = subst (λ (z : WorldMap). InvAt start (End who ∷ past) z) (sym (world_end start who past)) (end_at start who past i)

start_at : (start : World) → IsStart start → InvAt start [] (shown start)
unfolding own
start_at start st = record {
  below = λ p. record { safe = λ n f e. all_known start st p n f e; pending = rw (nothing_pending start st p) tt };
  fresh = λ p o n x lock t none nd nf. record { unseen = (none, rw (nothing_pending start st p) tt); unspent = no_spent p x; unread = λ b w. once_none w };
  fresh_temp = λ p r x lock t none nd nf. (none, rw (nothing_pending start st p) tt);
  temps = λ o p x f c lock t lv w leads. absurd (once_none w);
  ready = λ o p x f lock t lv w leads. absurd (once_none w);
  read = λ o p x f b lock h lv none w leads. absurd (once_none w);
  gave = λ o p h held lv w. absurd (once_none w);
  cleared = λ o p h held lv w. absurd (once_none w);
  put = λ p f b w. absurd (no_put p f b w);
  durable = λ p f b w. durable p f b w;
  ever = λ p f b w. elim w [ ];
  since = λ o p h b q g c lv lines w. elim w [ ];
  older_temp = λ o p x q t f g b c lock lock_q h is lv none w leads_t leads_x. absurd (once_none w);
  older_put = λ o p x q f g b c lock h lv none w leads. elim w [ ];
  holds = λ p lock. record {
    solid = λ f b ps. inl (let k = stands p f b (elim ps [ inl z ↦ absurd (no_put p f b z) | inr z ↦ z ]) in
        record { name = k.0; standing = k.1; unspent = no_spent p k.0; leads = rw (nothing_pending start st p) k.2 });
    anchored = λ f b ps. inl (let k = stands p f b ps in
        record { root = k.0; end = k.0; anchor = rw (nothing_pending start st p) (anchor_fresh ((shown start).directories p).safe f k.0 k.1 k.2); unclear = no_clear p k.0 });
  };
}
  where
    no_spent : (p : Place) (h : List ℕ) → IsSpent start p h [] → ⊥
    no_spent p h z = elim z [ ]

    no_clear : (p : Place) (h : List ℕ) → IsClear start p h [] → ⊥
    no_clear p h z = elim z [ ]

    no_put : (p : Place) (f : ℕ) (b : List ℕ) → WasPut start p f b [] → ⊥
    no_put p f b z = elim z [ ]

    stands : (p : Place) (f : ℕ) (b : List ℕ) → IsDurable start p f b [] → (x : List ℕ) × (is_standing x ≡ true) × (((shown start).directories p).safe x ≡ Some f)
    stands p f b (stood x lock s e bytes) = (x, s, e)

    durable : (p : Place) (f : ℕ) (b : List ℕ) → IsDurable start p f b [] → IsSafeAs (shown start) f b
    durable p f b (stood x lock s e bytes) = record { there = all_known start st p x f e; safe = all_safe start st f; bytes = bytes }

pub inv_start : (start : World) → IsStart start → Inv start []
inv_start start st = subst (λ (z : WorldMap). InvAt start [] z) (sym (world_start start)) (start_at start st)
