-- Messages get lines in front as their command pledges: each is let go only once it is safe at a number with the lines.
use Rattle.std.proofs.Common.{◌≡◌, ◌<◌, ◌≤◌, ◌^◌, ◌++◌, ◌∷◌, [], ℕ, Bool, true, false, List, Some, Ok, Err, max, nat_le, length, nat_lt, refl, sym, ◌∙◌, subst, arith}
use Rattle.std.specs.Prelude.{decimal, if◌then◌else◌}
use Rattle.std.proofs.lemmas.Bool.Decides.{nat_tests}
use Rattle.mh_base.specs.Entries.{entry_text, kind_of}
use Rattle.mh_base.specs.Numbers.{IsMsgNum}
use Rattle.mh_base.specs.declared.entry.Entry.TheVariants.{Held}
use Rattle.folder_files.specs.Annotations.{Annotates, are_annotations}
use Rattle.folder_files.specs.Careful.{HasLock, WasTaken}
use Rattle.folder_files.specs.Deeds.{Deed, did, now, on, still}
use Rattle.folder_files.specs.Named.{is_held, is_temp_of}
use Rattle.folder_files.specs.Places.{is_folder}
use Rattle.folder_files.specs.declared.place.Place.{Place}
use Rattle.folder_files.specs.declared.step.Answer.TheVariants as answer
use Rattle.folder_files.specs.declared.step.Step.{Step}
use Rattle.folder_files.specs.declared.step.Step.TheVariants as step
use Rattle.folder_files.proofs.Names.{is_held_any, is_temp_any, is_temp_unheld, not_both}
use Rattle.file_plans.specs.Plan.{Hand, Return, bind, ◌>>=◌}
use Rattle.file_plans.proofs.Framing.{AnyStep}
use Rattle.step_plans.specs.ContextCommit.{LIMIT_BYTES}
use Rattle.step_plans.specs.PlanFaults.{Planned}
use Rattle.step_plans.specs.Pledges.{Pledge}
use Rattle.step_plans.specs.Replacing.{synced}
use Rattle.step_plans.specs.declared.fault.PlanFault.TheVariants as fault
use Rattle.step_plans.proofs.Going.{Goes, Outcome, goes_more, goes_then, okay, okay_more}
use Rattle.step_plans.proofs.Lasting.{KeptBy, goes_lasting, lasting}
use Rattle.step_plans.proofs.Pledged.{synced_goes}
use Rattle.step_plans.proofs.Stepping.{goes_end, goes_return}
use Rattle.step_plans.proofs.Written.{Adds, goes_at}
use Rattle.message_puts.specs.Putting.{message_put}
use Rattle.message_puts.specs.Stored.{HasStoredAt}
use Rattle.message_puts.proofs.PutPledged.{HasPut, IsPutBy, PutsMessages, Tries, made_ready, put_goes, tried, untried}
use Rattle.message_moves.specs.Moving.{content_read, held_discarded, number_taken, readable}
use Rattle.message_moves.proofs.MoveCopied.{Anything, AreSpared, HasCopy, IsOpen, SparesHeld, may_discard, never_taken, open_less, opened, put_opens}
use Rattle.message_moves.proofs.MovePledged.{HasContent, HasDiscarded, HasTaken, LetsDiscard, LetsTake, after_content, after_discard, after_take, content_goes, discard_goes, is_held_so, take_goes, taking}
use Rattle.message_moves.proofs.RefilePledged.{AllSpared, AreMessages, IsNone, SparesAll, names_none}
use Rattle.message_notes.specs.Noted.{HasNoted, HasPutAnew}
use Rattle.message_notes.specs.Noting.{message_noted, messages_noted, stored_at}

-- what the steps of a put of a file of the run keep, lasts until its temporary name is gone
pub record AsksOwnPut (P : Step → Type 0) (run : ℕ) (p : Place) : Type 0 where
  pub create : (temp bytes : List ℕ) → P (step.Create p temp bytes)
  pub sync : (temp : List ℕ) → P (step.SyncFile p temp)
  pub link : (temp number : List ℕ) → is_temp_of run (kind_of temp) ≡ true → P (step.Link p temp number)
  pub unlink : (temp : List ℕ) → is_temp_of run (kind_of temp) ≡ true → P (step.Unlink p temp)

module _ (P : Step → Type 0) (F : List Deed → Type 0) (keeps : KeptBy P F) (run : ℕ) (p : Place) (asks : AsksOwnPut P run p) where
  tries_kept : (temp : List ℕ) → is_temp_of run (kind_of temp) ≡ true → (base older : List Deed) → Tries p temp base older → F base → F older
  tries_kept temp is base _ untried f = f
  tries_kept temp is base _ (tried {own = older} n t) f = keeps older (step.Link p temp (decimal n)) answer.Exists (asks.link temp (decimal n) is) (tries_kept temp is base older t f)

  pub put_kept : (bytes : List ℕ) (own : List Deed) (m : ℕ) (later : List Deed) → IsPutBy run p bytes own m later → F own → F later
  put_kept bytes own m later b f =
      subst F (sym b.deeds)
      (keeps b.linked (step.Unlink p b.temp) answer.Done (asks.unlink b.temp b.is_own)
      (subst F (sym b.link.deeds) (keeps b.link.older (step.Link p b.temp (decimal m)) answer.Done (asks.link b.temp (decimal m) b.is_own)
      (tries_kept b.temp b.is_own (made_ready p b.temp bytes own) b.link.older b.link.tries
      (keeps (did (step.Create p b.temp bytes) answer.Done ∷ own) (step.SyncFile p b.temp) answer.Done (asks.sync b.temp) (keeps own (step.Create p b.temp bytes) answer.Done (asks.create b.temp bytes) f))))))

-- the greater of two known numbers is known
greater : (Known : ℕ → List Deed → Type 0) (a b : ℕ) (own : List Deed) → Known a own → Known b own → Known (max a b) own
greater Known a b own x y = go (nat_le a b) (at (nat_le a b) refl)
  where
    at : (v : Bool) → nat_le a b ≡ v → (v ≡ true → max a b ≡ b) × (v ≡ false → max a b ≡ a)
    at v e = ((λ f. let l : a ≤ b = grind (arith, nat_tests, e ∙ f) in omega (arith, l)), (λ f. let l : b ≤ a = grind (arith, nat_tests, e ∙ f) in omega (arith, l)))

    go : (v : Bool) → (v ≡ true → max a b ≡ b) × (v ≡ false → max a b ≡ a) → Known (max a b) own
    go true f = subst (λ k. Known k own) (sym (f.0 refl)) y
    go false f = subst (λ k. Known k own) (sym (f.1 refl)) x

module _ (w : Pledge) (few : w.run < 2 ^ 128) (p : Place) (folder : is_folder p ≡ true) (lines : List ℕ) (notes : are_annotations lines ≡ true) (Known : ℕ → List Deed → Type 0) (Now : ℕ → List ℕ → List Deed → Type 0) where
  abbrev held_of : ℕ → List ℕ
  held_of n = entry_text (Held w.run n)

  -- The pledge lets messages get these lines: each may be taken while this is so of it and the deeds, which lasts; once it was read it may be put anew
  -- at its number; and it may be discarded once it was taken and then put so.
  pub record LetsNote (May : ℕ → List Deed → Type 0) : Type 0 where
    pub takes : (n : ℕ) (own : List Deed) → IsMsgNum n → May n own → LetsTake w p n own
    pub reads : (n : ℕ) (bytes : List ℕ) (own : List Deed) → IsMsgNum n → May n own → Now n bytes (after_content p (held_of n) bytes own)
    pub puts : (n : ℕ) (bytes : List ℕ) → IsMsgNum n → PutsMessages w p (lines ++ bytes) Known (Some n) (Now n bytes)
    pub discards : (n : ℕ) (own : List Deed) → IsMsgNum n → (anew : HasPutAnew w.run p (held_of n) lines own) → WasTaken w.run p (held_of n) anew.before → LetsDiscard w p (held_of n) own
    pub lasts : (n : ℕ) → KeptBy AnyStep (May n)
    pub known : (n : ℕ) → KeptBy AnyStep (Known n)

  -- each step of messages that get lines keeps this fact of the deeds
  pub record NotesKeep (P : Step → Type 0) (F : List Deed → Type 0) : Type 0 where
    pub kept : KeptBy P F
    pub take : (n : ℕ) → IsMsgNum n → P (taking w.run p n)
    pub read : (n : ℕ) → IsMsgNum n → P (step.Read p (held_of n) LIMIT_BYTES)
    pub put : AsksOwnPut P w.run p
    pub safe : P (step.SyncFolder p)
    pub gone : (n : ℕ) → IsMsgNum n → P (step.Unlink p (held_of n))

  module _ (May : ℕ → List Deed → Type 0) (lets : LetsNote May) (P : Step → Type 0) (F : List Deed → Type 0) (moves : NotesKeep P F) where
    -- the held names of these messages were used for nothing, and that is so
    abbrev Still : List ℕ → List Deed → Type 0
    Still ns own = AllSpared w.run p ns own × F own

    abbrev Leaves : List ℕ → Step → Type 0
    Leaves ns s = SparesAll w.run p ns s × P s

    spared_on : (ns : List ℕ) → KeptBy (SparesAll w.run p ns) (AllSpared w.run p ns)
    spared_on [] own s a leaves f = tt
    spared_on (n ∷ ns) own s a leaves f = ((leaves.0, f.0), spared_on ns own s a leaves.1 f.1)

    still_kept : (ns : List ℕ) → KeptBy (Leaves ns) (Still ns)
    still_kept ns own s a leaves f = (spared_on ns own s a leaves.0 f.0, moves.kept own s a leaves.1 f.1)

    free : (ns : List ℕ) → AreMessages ns → (s : Step) → ((held : List ℕ) → is_held (kind_of held) ≡ true → SparesHeld p held s) → SparesAll w.run p ns s
    free [] are s f = tt
    free (n ∷ ns) are s f = (f (held_of n) (is_held_any w.run (held_of n) (is_held_so w.run few n are.0)), free ns are.2 s f)

    unheld : (temp : List ℕ) → is_temp_of w.run (kind_of temp) ≡ true → (held : List ℕ) → is_held (kind_of held) ≡ true → temp ≡ held → ⊥
    unheld temp is held other e = not_both (is_held (kind_of held)) other (subst (λ z. is_held (kind_of z) ≡ false) e (is_temp_unheld temp (is_temp_any w.run temp is)))

    leaves_puts : (ns : List ℕ) → AreMessages ns → AsksOwnPut (Leaves ns) w.run p
    leaves_puts ns are = record {
      create = λ temp bytes. (free ns are (step.Create p temp bytes) (λ held is. tt), moves.put.create temp bytes);
      sync = λ temp. (free ns are (step.SyncFile p temp) (λ held is. tt), moves.put.sync temp);
      link = λ temp number own. (free ns are (step.Link p temp number) (λ held is e same. unheld temp own held is same), moves.put.link temp number own);
      unlink = λ temp own. (free ns are (step.Unlink p temp) (λ held is. tt), moves.put.unlink temp own);
    }

    leaves_sync : (ns : List ℕ) → AreMessages ns → Leaves ns (step.SyncFolder p)
    leaves_sync ns are = (free ns are (step.SyncFolder p) (λ held is. tt), moves.safe)

    abbrev pub AllMay : List ℕ → List Deed → Type 0
    AllMay [] own = Unit {0}
    AllMay (n ∷ ns) own = May n own × AllMay ns own

    all_may_kept : (ns : List ℕ) → KeptBy AnyStep (AllMay ns)
    all_may_kept [] own s a any f = tt
    all_may_kept (n ∷ ns) own s a any f = (lets.lasts n own s a any f.0, all_may_kept ns own s a any f.1)

    -- each of these got the lines
    abbrev pub AllNoted : List ℕ → List Deed → Type 0
    AllNoted [] own = Unit {0}
    AllNoted (n ∷ ns) own = HasNoted w.run p n lines own × AllNoted ns own

    -- one message
    module _ (n : ℕ) (ok : IsMsgNum n) (ns : List ℕ) (are : AreMessages ns) (apart : IsNone n ns) where
      abbrev held : List ℕ
      held = held_of n

      abbrev Noted : Outcome ℕ
      Noted later j m = IsMsgNum m × Known m later × HasLock p later × Still ns later × HasNoted w.run p n lines later

      -- it was read, and is open: nothing was done with its held name since
      record Ready (bytes : List ℕ) (G : List Deed → Type 0) (own : List Deed) : Type 0 where
        lock : HasLock p own
        open_ : IsOpen w.run p held bytes G own
        current : Now n bytes own
        others : Still ns own

      -- a message with these bytes stands at this number
      abbrev Both : ℕ → List ℕ → List Deed → Type 0
      Both m bytes part = Anything part × HasStoredAt w.run p m (lines ++ bytes) part × HasCopy w.run bytes part

      record Anew (bytes : List ℕ) (m : ℕ) (own : List Deed) : Type 0 where
        number : IsMsgNum m
        known : Known m own
        lock : HasLock p own
        open_ : IsOpen w.run p held bytes (Both m bytes) own
        others : Still ns own

      abbrev Stored : List ℕ → Outcome ℕ
      Stored bytes later j m = Anew bytes m later

      annotated : (bytes : List ℕ) → Annotates bytes (lines ++ bytes)
      annotated bytes = (lines, refl, notes)

      stored_goes : (bytes : List ℕ) (top : ℕ) → top ≤ 999999 → (own : List Deed) (h : Hand) → Known top own → Ready bytes Anything own → Goes w own h (stored_at w.run p n (lines ++ bytes) top) (okay (Stored bytes))
      unfolding stored_at
      stored_goes bytes top small own h known r =
          goes_then w own h (message_put w.run p (lines ++ bytes) (Some n) top) _ Put (Stored bytes)
          (put_goes w few p (lines ++ bytes) Known (Some n) (Now n bytes) (lets.puts n bytes ok) folder ok top small own h known r.current r.lock)
          (λ later j m f.
          goes_then w later j (synced p (decimal m)) _ (Adds later (did (step.SyncFolder p) answer.Done)) (Stored bytes) (synced_goes w later j p (decimal m))
          (λ last i u e. goes_at w last (did (step.SyncFolder p) answer.Done ∷ later) i _ (okay (Stored bytes)) e (goes_return w _ i m (okay (Stored bytes)) (anew later m f.0.lock f.1 f.3 f.4))))
        where
          Put : Outcome ℕ
          Put = HasPut w few p (lines ++ bytes) Known (Some n) (Now n bytes) (lets.puts n bytes ok) folder own

          anew : (later : List Deed) (m : ℕ) → HasLock p later → IsMsgNum m → IsPutBy w.run p (lines ++ bytes) own m later → Known m later → Anew bytes m (did (step.SyncFolder p) answer.Done ∷ later)
          anew later m lock number by known_ = record {
            number = number;
            known = lets.known m later (step.SyncFolder p) answer.Done tt known_;
            lock = still (λ e. cc (e)) lock;
            open_ = put_opens w.run p held bytes p folder (lines ++ bytes) (annotated bytes) Anything (λ part s a any g. tt) own later m number by r.open_;
            others = still_kept ns later (step.SyncFolder p) answer.Done (leaves_sync ns are) (put_kept (Leaves ns) (Still ns) (still_kept ns) w.run p (leaves_puts ns are) (lines ++ bytes) own m later by r.others);
          }

      -- what the taking, the reading and the letting go leave alone
      spares_taking : Leaves ns (taking w.run p n)
      spares_taking = (names_none w.run few p n ok ns are apart (taking w.run p n) (λ other off e is. off is), moves.take n ok)

      spares_reading : Leaves ns (step.Read p held LIMIT_BYTES)
      spares_reading = (names_none w.run few p n ok ns are apart (step.Read p held LIMIT_BYTES) (λ other off e is. off is), moves.read n ok)

      abbrev put_anew : (bytes : List ℕ) (m : ℕ) (own : List Deed) → IsOpen w.run p held bytes (Both m bytes) own → HasPutAnew w.run p held lines own
      put_anew bytes m own o = record { bytes = bytes; number = m; since = o.part; reading = did (step.Read p held o.limit) (answer.Content bytes); before = did (step.Rename p o.number held) answer.Done ∷ o.old; deeds = o.deeds; is_reading = (o.limit, refl); stored = o.also.1 }

      ending : (bytes : List ℕ) (m : ℕ) (own : List Deed) (j : Hand) → Anew bytes m own → Goes w own j (held_discarded p held >>= (λ gone. Return (Ok m))) (okay Noted)
      ending bytes m own j a =
          goes_then w own j (held_discarded p held) (λ gone. Return (Ok m)) (HasDiscarded p held own) Noted
          (discard_goes w few p folder held (is_held_so w.run few n ok) own j (lets.discards n own ok (put_anew bytes m own a.open_) (now (a.open_.number, refl, a.open_.took)))
          (may_discard w.run p held bytes own (open_less w.run p held bytes (Both m bytes) (HasCopy w.run bytes) (λ part c. c.2) own a.open_)) a.lock)
          (λ later i u e. goes_at w later (after_discard p held own) i (Return (Ok m)) (okay Noted) e
          (goes_return w _ i m (okay Noted) (
            a.number,
            lets.known m _ (step.SyncFolder p) answer.Done tt (lets.known m own (step.Unlink p held) answer.Done tt a.known),
            still (λ x. cc (x)) (still (λ x. cc (x)) a.lock),
            still_kept ns _ (step.SyncFolder p) answer.Done (leaves_sync ns are) (still_kept ns own (step.Unlink p held) answer.Done (free ns are (step.Unlink p held) (λ other is. tt), moves.gone n ok) a.others),
            now (refl, now (record { gone = refl; anew = put_anew bytes m own a.open_; taken = now (a.open_.number, refl, a.open_.took) })),
          )))

      abbrev storing : List ℕ → List ℕ → ℕ → Planned ℕ
      storing x new top = stored_at w.run p n new top >>= (λ m. held_discarded p x >>= (λ gone. Return (Ok m)))

      lined : (bytes : List ℕ) (top : ℕ) → top ≤ 999999 → (own : List Deed) (j : Hand) → Known top own → Ready bytes Anything own → Goes w own j (Return (readable (lines ++ bytes)) >>= (λ new. storing held new top)) (okay Noted)
      unfolding Goes bind ◌>>=◌
      lined bytes top small own j known r = go (nat_lt LIMIT_BYTES (length (lines ++ bytes)))
        where
          put_so : Goes w own j (storing held (lines ++ bytes) top) (okay Noted)
          put_so = goes_then w own j (stored_at w.run p n (lines ++ bytes) top) (λ m. held_discarded p held >>= (λ gone. Return (Ok m))) (Stored bytes) Noted (stored_goes bytes top small own j known r) (λ later i m a. ending bytes m later i a)

          go : (v : Bool) → Goes w own j (Return (if v then Err (fault.TooLarge (length (lines ++ bytes))) else Ok (lines ++ bytes)) >>= (λ new. storing held new top)) (okay Noted)
          go true = goes_end w own j (fault.TooLarge (length (lines ++ bytes))) Noted
          go false = put_so

      abbrev reading : ℕ → List ℕ → Planned ℕ
      reading top x = content_read p x >>= (λ bytes. Return (readable (lines ++ bytes)) >>= (λ new. storing x new top))

      read_goes : (top : ℕ) → top ≤ 999999 → (own : List Deed) (j : Hand) → Known top own → May n own → AreSpared p held own → Still ns own → HasLock p own → Goes w (after_take w.run p n own) j (reading top held) (okay Noted)
      read_goes top small own j known may spared others lock =
          goes_then w (after_take w.run p n own) j (content_read p held) (λ bytes. Return (readable (lines ++ bytes)) >>= (λ new. storing held new top)) (HasContent p held (after_take w.run p n own)) Noted
          (content_goes w p held (after_take w.run p n own) j)
          (λ later i bytes e. goes_at w later (after_content p held bytes (after_take w.run p n own)) i _ (okay Noted) e
          (lined bytes top small (after_content p held bytes (after_take w.run p n own)) i
          (lets.known top (after_take w.run p n own) (step.Read p held LIMIT_BYTES) (answer.Content bytes) tt (lets.known top own (taking w.run p n) answer.Done tt known))
          (record {
            lock = still (λ x. cc (x)) (still (λ x. cc (x)) lock);
            open_ = opened w.run few p n ok bytes own spared;
            current = lets.reads n bytes (after_take w.run p n own) ok (lets.lasts n own (taking w.run p n) answer.Done tt may);
            others = still_kept ns (after_take w.run p n own) (step.Read p held LIMIT_BYTES) (answer.Content bytes) spares_reading (still_kept ns own (taking w.run p n) answer.Done spares_taking others);
          })))

      message_goes : (top : ℕ) → top ≤ 999999 → (own : List Deed) (h : Hand) → Known top own → May n own → AreSpared p held own → Still ns own → HasLock p own → Goes w own h (message_noted w.run p lines n top) (okay Noted)
      unfolding message_noted
      message_goes top small own h known may spared others lock =
          goes_then w own h (number_taken w.run p n) (λ x. reading top x) (HasTaken w.run p n own) Noted
          (take_goes w few p folder n ok own h (lets.takes n own ok may) (never_taken w.run p n own spared) lock)
          (λ later j name q. goes_at w later (after_take w.run p n own) j (reading top name) (okay Noted) q.0
          (subst (λ x. Goes w (after_take w.run p n own) j (reading top x) (okay Noted)) (sym q.1) (read_goes top small own j known may spared others lock)))

    -- The messages of these numbers get the lines, where their held names were used for nothing and the lock is had: each step is careful.
    abbrev pub AllDone : List ℕ → Outcome Unit
    AllDone ns later j u = HasLock p later × F later × AllNoted ns later

    noted_kept : (n : ℕ) → KeptBy AnyStep (HasNoted w.run p n lines)
    noted_kept n own s a any f = on f

    pub messages_go : (ns : List ℕ) → AreMessages ns → (top : ℕ) → top ≤ 999999 → (own : List Deed) (h : Hand) → Known top own → AllMay ns own → AllSpared w.run p ns own → F own → HasLock p own → Goes w own h (messages_noted w.run p lines ns top) (okay (AllDone ns))
    unfolding messages_noted
    messages_go [] are top small own h known may spared fact lock = goes_return w own h tt (okay (AllDone [])) (lock, fact, tt)
    messages_go (n ∷ ns) are top small own h known may spared fact lock =
        goes_lasting w (λ later. AllMay ns later × Known top later) (λ o s a any f. (all_may_kept ns o s a any f.0, lets.known top o s a any f.1)) own h (message_noted w.run p lines n top) (λ m. messages_noted w.run p lines ns (max top m)) (Noted n are.0 ns are.2 are.1) (AllDone (n ∷ ns)) (may.1, known)
        (message_goes n are.0 ns are.2 are.1 top small own h known may.0 spared.0 (spared.1, fact) lock)
        (λ later j m rest f.
        goes_more w later j (messages_noted w.run p lines ns (max top m)) (okay (λ last i u. HasNoted w.run p n lines last × AllDone ns last i u)) (okay (AllDone (n ∷ ns)))
        (okay_more (λ last i u. HasNoted w.run p n lines last × AllDone ns last i u) (AllDone (n ∷ ns)) (λ last i u g. (g.1.0, g.1.1, (g.0, g.1.2))))
        (lasting w (HasNoted w.run p n lines) (noted_kept n) later j (messages_noted w.run p lines ns (max top m)) (AllDone ns) f.4
        (messages_go ns are.2 (max top m) (let r = f.0.1 in omega (arith, small, r)) later j (greater Known top m later rest.1 f.1) rest.0 f.3.0 f.3.1 f.2)))
