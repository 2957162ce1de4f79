-- What a discard rests on: the message was taken and read, and since then copies of it were put, each made safe.
use Rattle.std.proofs.Common.{◌≡◌, ◌<◌, ◌^◌, ◌++◌, ◌∷◌, [], ℕ, true, false, List, refl, sym, ap, subst, append_assoc, append-nil}
use Rattle.std.specs.Prelude.{decimal}
use Rattle.mh_base.specs.Entries.{entry_text, kind_of}
use Rattle.mh_base.specs.Numbers.{IsMsgNum}
use Rattle.mh_base.specs.declared.entry.Entry.TheVariants.{Held}
use Rattle.folder_files.specs.Annotations.{Annotates}
use Rattle.folder_files.specs.Careful.{IsCopyPut, IsPutLink, IsRead, IsSucceeded, IsSuccessorSynced, MayDiscard, WasCopied, WasCopiedFrom, WasGiven, WasGivenAway, WasReady, WasTakenAndRead}
use Rattle.folder_files.specs.Deeds.{Deed, Once, WasDone, did, now, on}
use Rattle.folder_files.specs.Named.{is_held, is_number, is_taking, is_temp_of}
use Rattle.folder_files.specs.Places.{is_folder}
use Rattle.folder_files.specs.Walks.{Walks}
use Rattle.folder_files.specs.declared.place.Place.{Place}
use Rattle.folder_files.specs.declared.step.Answer.{Answer}
use Rattle.folder_files.specs.declared.step.Answer.TheVariants as answer
use Rattle.folder_files.specs.declared.step.Step.{Step}
use Rattle.folder_files.specs.declared.step.Step.TheVariants as step
use Rattle.folder_files.proofs.Names.{is_held_any, is_taking_held, is_temp_any, is_temp_unheld, not_both}
use Rattle.folder_files.proofs.Walking.{everywhere}
use Rattle.file_plans.proofs.Framing.{AnyStep}
use Rattle.file_plans.proofs.Showing.{number_kind}
use Rattle.step_plans.proofs.Lasting.{KeptBy}
use Rattle.step_plans.proofs.Past.{did_answer, did_step, once_map}
use Rattle.message_puts.specs.Stored.{HasStoredAt}
use Rattle.message_puts.proofs.PutPledged.{IsPutBy, Tries, made_ready, tried, untried}
use Rattle.message_moves.proofs.MovePledged.{after_content, after_take, is_taken_so, taking}

-- a step that neither reads this held name, nor links it to another, nor gives it to a file
abbrev pub SparesHeld : Place → List ℕ → Step → Type 0
SparesHeld p held (step.List q) = Unit {0}
SparesHeld p held (step.Read q n limit) = q ≡ p → n ≡ held → ⊥
SparesHeld p held (step.MakeFolder q) = Unit {0}
SparesHeld p held (step.Create q n b) = Unit {0}
SparesHeld p held (step.SyncFile q n) = Unit {0}
SparesHeld p held (step.SyncFolder q) = Unit {0}
SparesHeld p held (step.Link q a b) = q ≡ p → a ≡ held → ⊥
SparesHeld p held (step.Rename q a b) = q ≡ p → b ≡ held → ⊥
SparesHeld p held (step.Unlink q a) = Unit {0}
SparesHeld p held (step.Lock q) = Unit {0}
SparesHeld p held (step.Unlock q) = Unit {0}
SparesHeld p held (step.ReadFile f limit) = Unit {0}
SparesHeld p held (step.ReadDrop f from most) = Unit {0}
SparesHeld p held (step.CutDrop f length_) = Unit {0}

-- no deed did so
abbrev pub AreSpared : Place → List ℕ → List Deed → Type 0
AreSpared p held [] = Unit {0}
AreSpared p held (d ∷ own) = SparesHeld p held d.step × AreSpared p held own

pub spared_kept : (p : Place) (held : List ℕ) → KeptBy (SparesHeld p held) (AreSpared p held)
spared_kept p held own s a leaves f = (leaves, f)

unread : (p : Place) (held bytes : List ℕ) (d : Deed) → SparesHeld p held d.step → IsRead p held bytes d → ⊥
unread p held bytes d f r = (subst (λ z. SparesHeld p held z) (ap (λ x. x.step) r.1) f) refl refl

ungiven : (p : Place) (held number : List ℕ) (d : Deed) → SparesHeld p held d.step → d ≡ did (step.Link p held number) answer.Done → ⊥
ungiven p held number d f e = (subst (λ z. SparesHeld p held z) (ap (λ x. x.step) e) f) refl refl

untaken : (p : Place) (number held : List ℕ) (d : Deed) → SparesHeld p held d.step → d ≡ did (step.Rename p number held) answer.Done → ⊥
untaken p number held d f e = (subst (λ z. SparesHeld p held z) (ap (λ x. x.step) e) f) refl refl

-- what would name it never happened
never : (p : Place) (held : List ℕ) {P : Deed → List Deed → Type 0} → ((d : Deed) (older : List Deed) → P d older → SparesHeld p held d.step → ⊥) → (own : List Deed) → AreSpared p held own → Once P own → ⊥
never p held not [] f w = elim w [ ]
never p held not (d ∷ own) f (now q) = not d own q f.0
never p held not (d ∷ own) f (on w) = never p held not own f.1 w

-- so the message may be taken
pub never_taken : (run : ℕ) (p : Place) (n : ℕ) (own : List Deed) → AreSpared p (entry_text (Held run n)) own → WasDone (taking run p n) own → ⊥
never_taken run p n own f w = never p (entry_text (Held run n)) (λ d older e s. untaken p _ (entry_text (Held run n)) d s e) own f w

older_than : (p : Place) (held : List ℕ) {P : Deed → List Deed → Type 0} → ((d : Deed) (older : List Deed) → P d older → SparesHeld p held d.step → ⊥) → (part rest : List Deed) → AreSpared p held part → Once P (part ++ rest) → Once P rest
older_than p held not [] rest f w = w
older_than p held not (d ∷ part) rest f (now q) = absurd (not d (part ++ rest) q f.0)
older_than p held not (d ∷ part) rest f (on w) = older_than p held not part rest f.1 w

once_later : {P : Deed → List Deed → Type 0} (part rest : List Deed) → Once P rest → Once P (part ++ rest)
once_later [] rest w = w
once_later (d ∷ part) rest w = on (once_later part rest w)

-- a put was made safe by a later sync of its folder
abbrev PutSynced : ℕ → List Deed → Deed → List Deed → Type 0
PutSynced run newer d older = (q : Place) (temp : List ℕ) → IsPutLink run q temp d → WasDone (step.SyncFolder q) newer

walks_later : (run : ℕ) (extra newer part : List Deed) → Walks (PutSynced run) newer part → Walks (PutSynced run) (extra ++ newer) part
unfolding Walks
walks_later run extra newer [] w = tt
walks_later run extra newer (d ∷ part) w = (
  (λ q temp l. once_later extra newer (w.0 q temp l)),
  subst (λ z. Walks (PutSynced run) z part) (sym (append_assoc extra newer (d ∷ []))) (walks_later run extra (newer ++ d ∷ []) part w.1),
)

walks_behind : (run : ℕ) (extra part : List Deed) → Walks (PutSynced run) [] part → Walks (PutSynced run) extra part
walks_behind run extra part w = subst (λ z. Walks (PutSynced run) z part) (append-nil extra) (walks_later run extra [] part w)

walks_then : {S T : List Deed → Deed → List Deed → Type 0} → ((newer : List Deed) (d : Deed) (older other : List Deed) → T newer d older → S newer d other) → (newer part rest : List Deed) → Walks T newer part → Walks S (newer ++ part) rest → Walks S newer (part ++ rest)
unfolding Walks
walks_then f newer [] rest w v = rw append-nil at v
walks_then f newer (d ∷ part) rest w v = (f newer d part (part ++ rest) w.0, walks_then f (newer ++ d ∷ []) part rest w.1 (rw (append_assoc newer (d ∷ []) part) v))

walks_spared : (p : Place) (held : List ℕ) {S : List Deed → Deed → List Deed → Type 0} → ((newer : List Deed) (d : Deed) (older : List Deed) → AreSpared p held (d ∷ older) → S newer d older) → (newer own : List Deed) → AreSpared p held own → Walks S newer own
unfolding Walks
walks_spared p held f newer [] s = tt
walks_spared p held f newer (d ∷ own) s = (f newer d own s, walks_spared p held f (newer ++ d ∷ []) own s.1)

-- The run took the message, whose held name it had never used, and then read these bytes. Since then it spared that name, and made safe
-- all that it put; and of these later deeds G holds.
pub record IsOpen (run : ℕ) (p : Place) (held bytes : List ℕ) (G : List Deed → Type 0) (own : List Deed) : Type 0 where
  pub part : List Deed
  pub old : List Deed
  pub number : List ℕ
  pub limit : ℕ
  pub deeds : own ≡ part ++ did (step.Read p held limit) (answer.Content bytes) ∷ (did (step.Rename p number held) answer.Done ∷ old)
  pub took : is_taking run (kind_of number) (kind_of held) ≡ true
  pub unnamed : AreSpared p held old
  pub spared : AreSpared p held part
  pub synced : Walks (PutSynced run) [] part
  pub also : G part

-- nothing more is known of the later deeds
abbrev pub Anything : List Deed → Type 0
Anything part = Unit {0}

-- among them a copy was put
abbrev pub HasCopy : ℕ → List ℕ → List Deed → Type 0
HasCopy run bytes part = Once (IsCopyPut run bytes) part

-- after a take and a reading of what was taken
pub opened : (run : ℕ) → run < 2 ^ 128 → (p : Place) (n : ℕ) → IsMsgNum n → (bytes : List ℕ) (own : List Deed) → AreSpared p (entry_text (Held run n)) own
    → IsOpen run p (entry_text (Held run n)) bytes Anything (after_content p (entry_text (Held run n)) bytes (after_take run p n own))
unfolding Walks
opened run few p n ok bytes own spared = record { part = []; old = own; number = _; limit = _; deeds = refl; took = is_taken_so run few n ok; unnamed = spared; spared = tt; synced = tt; also = tt }

-- one more deed, which puts nothing
pub open_more : (run : ℕ) (p : Place) (held bytes : List ℕ) (G H : List Deed → Type 0) (own : List Deed) (s : Step) (a : Answer) → SparesHeld p held s → ((q : Place) (temp : List ℕ) → IsPutLink run q temp (did s a) → ⊥) → ((part : List Deed) → G part → H (did s a ∷ part))
    → IsOpen run p held bytes G own → IsOpen run p held bytes H (did s a ∷ own)
unfolding Walks
open_more run p held bytes G H own s a spares no_put more o = record {
  part = did s a ∷ o.part;
  old = o.old;
  number = o.number;
  limit = o.limit;
  deeds = ap (λ z. did s a ∷ z) o.deeds;
  took = o.took;
  unnamed = o.unnamed;
  spared = (spares, o.spared);
  synced = ((λ q temp l. absurd (no_put q temp l)), walks_behind run (did s a ∷ []) o.part o.synced);
  also = more o.part o.also;
}

pub was_copied : (q : Place) (temp bytes copy : List ℕ) → Annotates bytes copy → (part : List Deed) → WasReady q temp copy part → WasCopied q temp bytes part
was_copied q temp bytes copy a [] w = elim w [ ]
was_copied q temp bytes copy a (d ∷ part) (now f) = on (once_map (λ x o e. (copy, e, a)) f.1)
was_copied q temp bytes copy a (d ∷ part) (on w) = on (was_copied q temp bytes copy a part w)

-- a copy is put into a folder by a put, and made safe
module _ (run : ℕ) (p : Place) (held bytes : List ℕ) (q : Place) (folder : is_folder q ≡ true) (copy : List ℕ) (copies : Annotates bytes copy) where
  -- a temporary name is no held name
  temp_apart : (own : List Deed) (G : List Deed → Type 0) → IsOpen run p held bytes G own → (temp : List ℕ) → is_temp_of run (kind_of temp) ≡ true → temp ≡ held → ⊥
  temp_apart own G o temp is e = not_both (is_held (kind_of held)) (is_held_any run held (is_taking_held run o.number held o.took)) (subst (λ z. is_held (kind_of z) ≡ false) e (is_temp_unheld temp (is_temp_any run temp is)))

  -- what holds of the later deeds lasts, and the file of this name is ready
  module _ (G : List Deed → Type 0) (keeps : KeptBy AnyStep G) where
    abbrev Made : List ℕ → List Deed → Type 0
    Made temp part = G part × WasDone (step.Create q temp copy) part

    abbrev Ready : List ℕ → List Deed → Type 0
    Ready temp part = G part × WasReady q temp copy part

    open_ready : (temp : List ℕ) (own : List Deed) → IsOpen run p held bytes G own → IsOpen run p held bytes (Ready temp) (made_ready q temp copy own)
    open_ready temp own o =
        open_more run p held bytes (Made temp) (Ready temp) (did (step.Create q temp copy) answer.Done ∷ own) (step.SyncFile q temp) answer.Done tt (λ x t l. (let e = did_step l.1 in cc (e))) (λ part c. (keeps part (step.SyncFile q temp) answer.Done tt c.0, now (refl, c.1)))
        (open_more run p held bytes G (Made temp) own (step.Create q temp copy) answer.Done tt (λ x t l. (let e = did_step l.1 in cc (e))) (λ part g. (keeps part (step.Create q temp copy) answer.Done tt g, now refl)) o)

    open_tries : (temp : List ℕ) → is_temp_of run (kind_of temp) ≡ true → (base older : List Deed) → Tries q temp base older → IsOpen run p held bytes (Ready temp) base → IsOpen run p held bytes (Ready temp) older
    open_tries temp is base _ untried o = o
    open_tries temp is base _ (tried {own = older} n t) o =
        let more = open_tries temp is base older t o in
        open_more run p held bytes (Ready temp) (Ready temp) older (step.Link q temp (decimal n)) answer.Exists (λ e same. temp_apart older (Ready temp) more temp is same) (λ x u l. (let e = did_answer l.1 in cc (e)))
        (λ part c. (keeps part (step.Link q temp (decimal n)) answer.Exists tt c.0, on c.1)) more

    -- and then it stands at this number, and is safe there
    abbrev pub HasCopyAt : ℕ → List Deed → Type 0
    HasCopyAt m part = G part × HasStoredAt run q m copy part × HasCopy run bytes part

    open_linked : (temp : List ℕ) → is_temp_of run (kind_of temp) ≡ true → (m : ℕ) → IsMsgNum m → (own : List Deed) → IsOpen run p held bytes (Ready temp) own
        → IsOpen run p held bytes (HasCopyAt m) (did (step.SyncFolder q) answer.Done ∷ (did (step.Unlink q temp) answer.Done ∷ (did (step.Link q temp (decimal m)) answer.Done ∷ own)))
    unfolding Walks
    open_linked temp is m ok own o = record {
      part = after o.part;
      old = o.old;
      number = o.number;
      limit = o.limit;
      deeds = ap after o.deeds;
      took = o.took;
      unnamed = o.unnamed;
      spared = (tt, (tt, ((λ e same. temp_apart own (Ready temp) o temp is same), o.spared)));
      synced = (
        (λ x y l. absurd (let e = did_step l.1 in cc (e))),
        (
          (λ x y l. absurd (let e = did_step l.1 in cc (e))),
          ((λ x y l. now (ap (λ z. did (step.SyncFolder z) answer.Done) (let e = did_step l.1 in cc (e)))), walks_behind run (after []) o.part o.synced),
        ),
      );
      also = (
        keeps _ (step.SyncFolder q) answer.Done tt (keeps _ (step.Unlink q temp) answer.Done tt (keeps o.part (step.Link q temp (decimal m)) answer.Done tt o.also.0)),
        now (refl, on (now (record { temp = temp; linked = refl; is_own = is; at_number = numbered; ready = o.also.1 }))),
        on (on (now (q, temp, (decimal m, refl, is, numbered, folder), was_copied q temp bytes copy copies o.part o.also.1))),
      );
    }
      where
        after : List Deed → List Deed
        after z = did (step.SyncFolder q) answer.Done ∷ (did (step.Unlink q temp) answer.Done ∷ (did (step.Link q temp (decimal m)) answer.Done ∷ z))

        numbered : is_number (kind_of (decimal m)) ≡ true
        numbered = rw (number_kind m ok) refl

    pub put_opens : (own before : List Deed) (m : ℕ) → IsMsgNum m → IsPutBy run q copy own m before → IsOpen run p held bytes G own → IsOpen run p held bytes (HasCopyAt m) (did (step.SyncFolder q) answer.Done ∷ before)
    put_opens own before m ok b o =
        subst (λ z. IsOpen run p held bytes (HasCopyAt m) (did (step.SyncFolder q) answer.Done ∷ z)) (sym b.deeds)
        (subst (λ z. IsOpen run p held bytes (HasCopyAt m) (did (step.SyncFolder q) answer.Done ∷ (did (step.Unlink q b.temp) answer.Done ∷ z))) (sym b.link.deeds)
        (open_linked b.temp b.is_own m ok b.link.older (open_tries b.temp b.is_own (made_ready q b.temp copy own) b.link.older b.link.tries (open_ready b.temp own o))))

-- what is known of the later deeds, may be less
pub open_less : (run : ℕ) (p : Place) (held bytes : List ℕ) (G H : List Deed → Type 0) → ((part : List Deed) → G part → H part) → (own : List Deed) → IsOpen run p held bytes G own → IsOpen run p held bytes H own
open_less run p held bytes G H less own o = record { part = o.part; old = o.old; number = o.number; limit = o.limit; deeds = o.deeds; took = o.took; unnamed = o.unnamed; spared = o.spared; synced = o.synced; also = less o.part o.also }

-- a message whose bytes are the copy
pub as_they_are : (bytes : List ℕ) → Annotates bytes bytes
as_they_are bytes = ([], refl, refl)

module _ (run : ℕ) (p : Place) (held bytes : List ℕ) (own : List Deed) where
  succeeded : IsOpen run p held bytes (HasCopy run bytes) own → Walks (λ newer d older. IsSucceeded run p held newer d) [] own
  unfolding Walks
  succeeded o =
      subst (λ z. Walks (λ newer d older. IsSucceeded run p held newer d) [] z) (sym o.deeds)
      (walks_then {T = λ newer d older. SparesHeld p held d.step} (λ newer d older other s b r. absurd (unread p held b d s r)) [] o.part _ (walks_spared p held (λ newer d older s. s.0) [] o.part o.spared)
      ((λ b r. subst (λ z. Once (IsCopyPut run z) o.part) (same bytes b r.0 r.1) o.also), ((λ b r. absurd (let e = did_step r.1 in cc (e))), walks_spared p held (λ newer d older s b r. absurd (unread p held b d s.0 r)) _ o.old o.unnamed)))
    where
      same : (x b : List ℕ) (limit : ℕ) → did (step.Read p held o.limit) (answer.Content x) ≡ did (step.Read p held limit) (answer.Content b) → x ≡ b
      same x b limit e = let a = did_answer e in cc (a)

  not_copied : (q : Place) (temp : List ℕ) (older : List Deed) → AreSpared p held older → WasCopiedFrom p held q temp older → ⊥
  not_copied q temp [] f w = elim w [ ]
  not_copied q temp (d ∷ older) f (now c) = never p held (λ x o r s. unread p held r.0 x s r.1) older f.1 c.2
  not_copied q temp (d ∷ older) f (on w) = not_copied q temp older f.1 w

  all_synced : IsOpen run p held bytes (HasCopy run bytes) own → Walks (IsSuccessorSynced run p held) [] own
  unfolding Walks
  all_synced o =
      subst (λ z. Walks (IsSuccessorSynced run p held) [] z) (sym o.deeds)
      (walks_then {T = PutSynced run} (λ newer d older other f q s. f q s.0 s.1) [] o.part _ o.synced
      ((λ q s. absurd (let e = did_step s.1.1 in cc (e))), ((λ q s. absurd (let e = did_step s.1.1 in cc (e))), walks_spared p held (λ newer d older f q s. absurd (not_copied q s.0 older f.1 s.2)) _ o.old o.unnamed)))

  given_away : (part : List Deed) → WasGivenAway p held part → WasGiven p held part
  given_away [] w = elim w [ ]
  given_away (d ∷ part) (now f) = on f.1
  given_away (d ∷ part) (on w) = on (given_away part w)

  not_given : IsOpen run p held bytes (HasCopy run bytes) own → WasGiven p held own → ⊥
  not_given o w = read_ (older_than p held (λ d older g s. ungiven p held g.0 d s g.1) o.part _ o.spared (subst (λ z. WasGiven p held z) o.deeds w))
    where
      took : WasGiven p held (did (step.Rename p o.number held) answer.Done ∷ o.old) → ⊥
      took (now g) = let e = did_step g.1 in cc (e)
      took (on z) = never p held (λ d older g s. ungiven p held g.0 d s g.1) o.old o.unnamed z

      read_ : WasGiven p held (did (step.Read p held o.limit) (answer.Content bytes) ∷ (did (step.Rename p o.number held) answer.Done ∷ o.old)) → ⊥
      read_ (now g) = let e = did_step g.1 in cc (e)
      read_ (on z) = took z

  -- what was taken, read and put elsewhere may be discarded
  pub may_discard : IsOpen run p held bytes (HasCopy run bytes) own → MayDiscard run p held own
  may_discard o = record {
    not_given_away = λ w. not_given o (given_away own w);
    taken_and_read = subst (λ z. WasTakenAndRead run p held z) (sym o.deeds) (once_later o.part _ (now ((bytes, (o.limit, refl)), now (o.number, refl, o.took))));
    succeeded = (everywhere (λ newer d older. IsSucceeded run p held newer d) own).0 (succeeded o);
    synced = (everywhere (IsSuccessorSynced run p held) own).0 (all_synced o);
  }
