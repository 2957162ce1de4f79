-- Messages leave their folder for others as their command pledges: each is let go only once a copy of it is safe in each destination.
use Rattle.std.proofs.Common.{◌≡◌, ◌<◌, ◌^◌, ◌∷◌, [], ℕ, true, List, Ok, refl, sym, ◌∙◌, ap, subst, arith}
use Rattle.std.specs.Prelude.{Contains, decimal}
use Rattle.mh_base.specs.Entries.{entry_text, kind_of}
use Rattle.mh_base.specs.Numbers.{IsMsgNum}
use Rattle.mh_base.specs.declared.entry.Entry.TheVariants.{Held}
use Rattle.mh_base.proofs.EntryKinds.{kind_of-entry_text}
use Rattle.folder_files.specs.Careful.{WasTaken}
use Rattle.folder_files.specs.Deeds.{Deed, did, now, on, still}
use Rattle.folder_files.specs.Places.{is_folder}
use Rattle.folder_files.specs.declared.place.Place.{Place}
use Rattle.folder_files.specs.declared.step.Answer.TheVariants as answer
use Rattle.folder_files.specs.declared.step.Step.{Step}
use Rattle.folder_files.specs.declared.step.Step.TheVariants as step
use Rattle.file_plans.specs.Plan.{Hand, Return, lifted, ◌>>=◌}
use Rattle.file_plans.proofs.Framing.{AnyStep}
use Rattle.step_plans.specs.ContextCommit.{LIMIT_BYTES}
use Rattle.step_plans.specs.Pledges.{Pledge}
use Rattle.step_plans.proofs.Going.{Goes, Outcome, goes_lifted, goes_more, goes_then, okay, okay_more}
use Rattle.step_plans.proofs.Lasting.{KeptBy, goes_lasting, lasting}
use Rattle.step_plans.proofs.Past.{once_map}
use Rattle.step_plans.proofs.Stepping.{goes_return}
use Rattle.step_plans.proofs.Written.{goes_at}
use Rattle.message_puts.specs.Stored.{HasStoredAt}
use Rattle.message_puts.proofs.PutPledged.{AsksPut}
use Rattle.command_stages.specs.Endings.{of_plan}
use Rattle.command_stages.specs.Texts.{Commanded}
use Rattle.message_moves.specs.Copied.{HasCopied, HasRefiled}
use Rattle.message_moves.specs.Copying.{copied_to_all}
use Rattle.message_moves.specs.Moving.{content_read, held_discarded, number_taken}
use Rattle.message_moves.specs.Refiling.{message_refiled, messages_refiled}
use Rattle.message_moves.specs.declared.destination.Destination.{Destination}
use Rattle.message_moves.proofs.CopyPledged.{AllCopied, AreDestinations, AreStored, Copied, Going, Locks, Opens, copies_go, destinations_kept, places}
use Rattle.message_moves.proofs.MoveCopied.{Anything, AreSpared, HasCopy, IsOpen, SparesHeld, as_they_are, may_discard, never_taken, open_less, opened, put_opens, was_copied}
use Rattle.message_moves.proofs.MovePledged.{HasContent, HasDiscarded, HasTaken, LetsDiscard, LetsTake, after_content, after_discard, after_take, content_goes, discard_goes, is_held_so, take_goes, taking}

-- a message that was stored in a folder is a copy that was put
stored_copy : (run : ℕ) (q : Place) (m : ℕ) (bytes : List ℕ) → is_folder q ≡ true → (part : List Deed) → HasStoredAt run q m bytes part → HasCopy run bytes part
stored_copy run q m bytes folder _ (now f) = on (once_map (λ d older g. (q, g.temp, (decimal m, g.linked, g.is_own, g.at_number, folder), was_copied q g.temp bytes bytes (as_they_are bytes) older g.ready)) f.1)
stored_copy run q m bytes folder _ (on {own = older} f) = on (stored_copy run q m bytes folder older f)

module _ (run : ℕ) (p : Place) where
  -- the names under which the run holds messages aside
  abbrev pub held_as : ℕ → List ℕ
  held_as n = entry_text (Held run n)

  -- these of these messages were used for nothing
  abbrev pub AllSpared : List ℕ → List Deed → Type 0
  AllSpared [] own = Unit {0}
  AllSpared (n ∷ ns) own = AreSpared p (held_as n) own × AllSpared ns own

  abbrev pub SparesAll : List ℕ → Step → Type 0
  SparesAll [] s = Unit {0}
  SparesAll (n ∷ ns) s = SparesHeld p (held_as n) s × SparesAll ns s

  spared_on : (ns : List ℕ) → KeptBy (SparesAll ns) (AllSpared ns)
  spared_on [] own s a leaves f = tt
  spared_on (n ∷ ns) own s a leaves f = ((leaves.0, f.0), spared_on ns own s a leaves.1 f.1)

  free : (ns : List ℕ) (s : Step) → ((held : List ℕ) → SparesHeld p held s) → SparesAll ns s
  free [] s f = tt
  free (n ∷ ns) s f = (f (held_as n), free ns s f)

  -- the message of this number went to these folders, where there are any
  abbrev pub HasGone : List Place → ℕ → List Deed → Type 0
  HasGone [] n own = Unit {0}
  HasGone (q ∷ qs) n own = HasRefiled run p n (q ∷ qs) own

  gone_kept : (folders : List Place) (n : ℕ) → KeptBy AnyStep (HasGone folders n)
  gone_kept [] n own s a any f = tt
  gone_kept (q ∷ qs) n own s a any f = on f

  -- and so did each of these
  abbrev pub AllGone : List Place → List ℕ → List Deed → Type 0
  AllGone folders [] own = Unit {0}
  AllGone folders (n ∷ ns) own = HasGone folders n own × AllGone folders ns own

  put_elsewhere : (ns : List ℕ) (q : Place) → (q ≡ p → ⊥) → AsksPut (SparesAll ns) q
  put_elsewhere ns q apart = record {
    create = λ temp bytes. free ns (step.Create q temp bytes) (λ held. tt);
    sync = λ temp. free ns (step.SyncFile q temp) (λ held. tt);
    link = λ temp number. free ns (step.Link q temp number) (λ held e. absurd (apart e));
    unlink = λ temp. free ns (step.Unlink q temp) (λ held. tt);
  }

-- the number is none of these
abbrev pub IsNone : ℕ → List ℕ → Type 0
IsNone n [] = Unit {0}
IsNone n (m ∷ ms) = (n ≡ m → ⊥) × IsNone n ms

-- numbers of messages, each once
abbrev pub AreMessages : List ℕ → Type 0
AreMessages [] = Unit {0}
AreMessages (n ∷ ns) = IsMsgNum n × IsNone n ns × AreMessages ns

pub held_apart : (run : ℕ) → run < 2 ^ 128 → (n m : ℕ) → IsMsgNum n → IsMsgNum m → (n ≡ m → ⊥) → entry_text (Held run n) ≡ entry_text (Held run m) → ⊥
held_apart run few n m ok other apart e = apart (let same : Held run n ≡ Held run m = sym (kind_of-entry_text (Held run n) (few, ok)) ∙ (ap kind_of e ∙ kind_of-entry_text (Held run m) (few, other)) in cc (same))

-- a step that names the held name of this message names that of none of these
pub names_none : (run : ℕ) → run < 2 ^ 128 → (p : Place) (n : ℕ) → IsMsgNum n → (ns : List ℕ) → AreMessages ns → IsNone n ns → (s : Step) → ((held : List ℕ) → (entry_text (Held run n) ≡ held → ⊥) → SparesHeld p held s) → SparesAll run p ns s
names_none run few p n ok [] are apart s f = tt
names_none run few p n ok (m ∷ ms) are apart s f = (f (entry_text (Held run m)) (held_apart run few n m ok are.0 apart.0), names_none run few p n ok ms are.2 apart.1 s f)

module _ (w : Pledge) (few : w.run < 2 ^ 128) (p : Place) (folder : is_folder p ≡ true) (In : Place → Type 0) (inside : In p) (Known : Place → ℕ → List Deed → Type 0) (Now : List ℕ → List Deed → Type 0) (keeps : (bytes : List ℕ) → KeptBy AnyStep (Now bytes)) where
  abbrev held_of : ℕ → List ℕ
  held_of n = entry_text (Held w.run n)

  abbrev To : List Destination → List Deed → Type 0
  To ds own = AreDestinations w few p In Known Now keeps ds own

  abbrev HasLocks : List Deed → Type 0
  HasLocks own = Locks w few p In Known Now keeps own

  -- The pledge lets messages leave for these folders: each may be taken while this is so of it and the deeds, which lasts; what is held aside may be put
  -- elsewhere once it was read; and it may be discarded once it was taken and then copied to each of them.
  pub record LetsRefile (folders : List Place) (May : ℕ → List Deed → Type 0) : Type 0 where
    pub takes : (n : ℕ) (own : List Deed) → IsMsgNum n → May n own → LetsTake w p n own
    pub reads : (n : ℕ) (bytes : List ℕ) (own : List Deed) → IsMsgNum n → May n own → Now bytes (after_content p (held_of n) bytes own)
    pub discards : (n : ℕ) (own : List Deed) → IsMsgNum n → (copied : HasCopied w.run p (held_of n) folders own) → WasTaken w.run p (held_of n) copied.before → LetsDiscard w p (held_of n) own
    pub lasts : (n : ℕ) → KeptBy AnyStep (May n)

  -- each step of messages that leave keeps this fact of the deeds
  pub record MovesKeep (P : Step → Type 0) (F : List Deed → Type 0) : Type 0 where
    pub kept : KeptBy P F
    pub take : (n : ℕ) → IsMsgNum n → P (taking w.run p n)
    pub read : (n : ℕ) → IsMsgNum n → P (step.Read p (held_of n) LIMIT_BYTES)
    pub elsewhere : (q : Place) → (q ≡ p → ⊥) → AsksPut P q
    pub safe : (q : Place) → P (step.SyncFolder q)
    pub gone : (n : ℕ) → IsMsgNum n → P (step.Unlink p (held_of n))

  module _ (source : List ℕ) (folders : List Place) (May : ℕ → List Deed → Type 0) (lets : LetsRefile folders May) (P : Step → Type 0) (F : List Deed → Type 0) (moves : MovesKeep P F) where
    -- the held names of these messages were used for nothing, and that is so
    abbrev Still : List ℕ → List Deed → Type 0
    Still ns own = AllSpared w.run p ns own × F own

    abbrev Leaves : List ℕ → Step → Type 0
    Leaves ns s = SparesAll w.run p ns s × P s

    still_kept : (ns : List ℕ) → KeptBy (Leaves ns) (Still ns)
    still_kept ns own s a leaves f = (spared_on w.run p ns own s a leaves.0 f.0, moves.kept own s a leaves.1 f.1)

    leaves_puts : (ns : List ℕ) (q : Place) → (q ≡ p → ⊥) → AsksPut (Leaves ns) q
    leaves_puts ns q apart = record {
      create = λ temp bytes. ((put_elsewhere w.run p ns q apart).create temp bytes, (moves.elsewhere q apart).create temp bytes);
      sync = λ temp. ((put_elsewhere w.run p ns q apart).sync temp, (moves.elsewhere q apart).sync temp);
      link = λ temp number. ((put_elsewhere w.run p ns q apart).link temp number, (moves.elsewhere q apart).link temp number);
      unlink = λ temp. ((put_elsewhere w.run p ns q apart).unlink temp, (moves.elsewhere q apart).unlink temp);
    }

    leaves_sync : (ns : List ℕ) (q : Place) → Leaves ns (step.SyncFolder q)
    leaves_sync ns q = (free w.run p ns (step.SyncFolder q) (λ held. tt), moves.safe q)

    abbrev pub AllMay : List ℕ → List Deed → Type 0
    AllMay [] own = Unit {0}
    AllMay (n ∷ ns) own = May n own × AllMay ns own

    all_may_kept : (ns : List ℕ) → KeptBy AnyStep (AllMay ns)
    all_may_kept [] own s a any f = tt
    all_may_kept (n ∷ ns) own s a any f = (lets.lasts n own s a any f.0, all_may_kept ns own s a any f.1)

    -- one message
    module _ (n : ℕ) (ok : IsMsgNum n) (ns : List ℕ) (are : AreMessages ns) (apart : IsNone n ns) where
      abbrev held : List ℕ
      held = held_of n

      abbrev Refiled : Outcome (List Destination)
      Refiled later j es = (places es ≡ folders) × To es later × HasLocks later × Still ns later × HasGone w.run p folders n later

      abbrev Open : List ℕ → (List Deed → Type 0) → List Deed → Type 0
      Open bytes G own = IsOpen w.run p held bytes G own

      abbrev Both : Place → ℕ → List ℕ → (List Deed → Type 0) → List Deed → Type 0
      Both q m bytes G part = G part × HasStoredAt w.run q m bytes part × HasCopy w.run bytes part

      opens : (bytes : List ℕ) → Opens w few p In Known Now keeps bytes (Open bytes) (Leaves ns) (Still ns)
      opens bytes = record {
        stored = λ q is G kept own later m number by o.
            open_less w.run p held bytes (Both q m bytes G) (Copied w few p In Known Now keeps bytes (Open bytes) (Leaves ns) (Still ns) q G m) (λ part c. (c.0, c.1)) later
            (subst (λ z. IsOpen w.run p held bytes (Both q m bytes G) z) (sym by.deeds) (put_opens w.run p held bytes q is bytes (as_they_are bytes) G kept own by.before m number by.put o));
        less = open_less w.run p held bytes;
        rest = still_kept ns;
        elsewhere = leaves_puts ns;
        safe = leaves_sync ns;
      }

      abbrev Going_ : List ℕ → (List Deed → Type 0) → List Deed → Type 0
      Going_ bytes G own = Going w few p In Known Now keeps bytes (Open bytes) (Leaves ns) (Still ns) G own

      abbrev has_copied : (fs : List Place) (bytes : List ℕ) (own : List Deed) → IsOpen w.run p held bytes (AreStored w.run bytes fs) own → HasCopied w.run p held fs own
      has_copied fs bytes own o = record { bytes = bytes; since = o.part; reading = did (step.Read p held o.limit) (answer.Content bytes); before = did (step.Rename p o.number held) answer.Done ∷ o.old; deeds = o.deeds; is_reading = (o.limit, refl); stored = o.also }

      was_taken : (fs : List Place) (bytes : List ℕ) (own : List Deed) (o : IsOpen w.run p held bytes (AreStored w.run bytes fs) own) → WasTaken w.run p held (has_copied fs bytes own o).before
      was_taken fs bytes own o = now (o.number, refl, o.took)

      has_gone : (fs : List Place) (bytes : List ℕ) (own : List Deed) → IsOpen w.run p held bytes (AreStored w.run bytes fs) own → HasGone w.run p fs n (after_discard p held own)
      has_gone [] bytes own o = tt
      has_gone (q ∷ qs) bytes own o = now (refl, now (record { gone = refl; copied = has_copied (q ∷ qs) bytes own o; taken = was_taken (q ∷ qs) bytes own o }))

      ending : (d : Destination) (ds : List Destination) → places (d ∷ ds) ≡ folders → is_folder d.place ≡ true → (bytes : List ℕ) (own : List Deed) (j : Hand) (es : List Destination) → places es ≡ folders → To es own → Going_ bytes (AreStored w.run bytes folders) own
          → Goes w own j (lifted (of_plan source) (held_discarded p held) >>= (λ gone. Return (Ok es))) (okay Refiled)
      ending d ds some is bytes own j es same to g =
          goes_then w own j (lifted (of_plan source) (held_discarded p held)) (λ gone. Return (Ok es)) (HasDiscarded p held own) Refiled
          (goes_lifted w own j (of_plan source) (held_discarded p held) (HasDiscarded p held own)
          (discard_goes w few p folder held (is_held_so w.run few n ok) own j (lets.discards n own ok (has_copied folders bytes own g.open_) (was_taken folders bytes own g.open_)) (may_discard w.run p held bytes own (open_less w.run p held bytes _ (HasCopy w.run bytes) copied own g.open_)) (g.locks p inside)))
          (λ later i u e. goes_at w later (after_discard p held own) i (Return (Ok es)) (okay Refiled) e
          (goes_return w _ i es (okay Refiled) (
            same,
            destinations_kept w few p In Known Now keeps es _ (step.SyncFolder p) answer.Done tt (destinations_kept w few p In Known Now keeps es own (step.Unlink p held) answer.Done tt to),
            (λ q l. still (λ x. cc (x)) (still (λ x. cc (x)) (g.locks q l))),
            still_kept ns _ (step.SyncFolder p) answer.Done (leaves_sync ns p) (still_kept ns own (step.Unlink p held) answer.Done (free w.run p ns (step.Unlink p held) (λ other. tt), moves.gone n ok) g.others),
            has_gone folders bytes own g.open_,
          )))
        where
          copied : (part : List Deed) → AreStored w.run bytes folders part → HasCopy w.run bytes part
          copied part f = let one = f d.place (subst (λ qs. Contains qs d.place) some (0, omega arith, refl)) in stored_copy w.run d.place one.0 bytes is part one.1

      abbrev rest : Destination → List Destination → List ℕ → Commanded (List Destination)
      rest d ds x = lifted (of_plan source) (content_read p x) >>= (λ bytes. copied_to_all w.run bytes (d ∷ ds) [] >>= (λ later. lifted (of_plan source) (held_discarded p x) >>= (λ gone. Return (Ok later))))

      -- what the taking and the reading leave alone
      spares_taking : Leaves ns (taking w.run p n)
      spares_taking = (names_none w.run few p n ok ns are apart (taking w.run p n) (λ other off e is. off is), moves.take n ok)

      spares_reading : Leaves ns (step.Read p held LIMIT_BYTES)
      spares_reading = (names_none w.run few p n ok ns are apart (step.Read p held LIMIT_BYTES) (λ other off e is. off is), moves.read n ok)

      read_goes : (d : Destination) (ds : List Destination) → places (d ∷ ds) ≡ folders → is_folder d.place ≡ true → (own : List Deed) (j : Hand) → May n own → AreSpared p held own → Still ns own → HasLocks own → To (d ∷ ds) own
          → Goes w (after_take w.run p n own) j (rest d ds held) (okay Refiled)
      read_goes d ds some is own j may spared others locks to =
          goes_then w (after_take w.run p n own) j (lifted (of_plan source) (content_read p held)) (λ bytes. copied_to_all w.run bytes (d ∷ ds) [] >>= (λ later. lifted (of_plan source) (held_discarded p held) >>= (λ gone. Return (Ok later)))) (HasContent p held (after_take w.run p n own)) Refiled
          (goes_lifted w (after_take w.run p n own) j (of_plan source) (content_read p held) (HasContent p held (after_take w.run p n own)) (content_goes w p held (after_take w.run p n own) j))
          (λ later i bytes e. goes_at w later (after_content p held bytes (after_take w.run p n own)) i _ (okay Refiled) e (copying bytes i))
        where
          copying : (bytes : List ℕ) (i : Hand) → Goes w (after_content p held bytes (after_take w.run p n own)) i (copied_to_all w.run bytes (d ∷ ds) [] >>= (λ later. lifted (of_plan source) (held_discarded p held) >>= (λ gone. Return (Ok later)))) (okay Refiled)
          copying bytes i =
              goes_then w _ i (copied_to_all w.run bytes (d ∷ ds) []) (λ later. lifted (of_plan source) (held_discarded p held) >>= (λ gone. Return (Ok later))) (AllCopied w few p In Known Now keeps bytes (Open bytes) (Leaves ns) (Still ns) (opens bytes) (places (d ∷ ds))) Refiled
              (copies_go w few p In Known Now keeps bytes (Open bytes) (Leaves ns) (Still ns) (opens bytes) (d ∷ ds) _ i
              (destinations_kept w few p In Known Now keeps (d ∷ ds) (after_take w.run p n own) (step.Read p held LIMIT_BYTES) (answer.Content bytes) tt (destinations_kept w few p In Known Now keeps (d ∷ ds) own (taking w.run p n) answer.Done tt to)) Anything
              (record {
                locks = λ q l. still (λ x. cc (x)) (still (λ x. cc (x)) (locks q l));
                open_ = opened w.run few p n ok bytes own spared;
                current = lets.reads n bytes (after_take w.run p n own) ok (lets.lasts n own (taking w.run p n) answer.Done tt may);
                others = still_kept ns (after_take w.run p n own) (step.Read p held LIMIT_BYTES) (answer.Content bytes) spares_reading (still_kept ns own (taking w.run p n) answer.Done spares_taking others);
              }))
              (λ last k es g. ending d ds some is bytes last k es (g.0 ∙ some) g.1 (subst (λ qs. Going_ bytes (AreStored w.run bytes qs) last) some g.2))

      -- a message that has nowhere to go stays
      message_goes : (ds : List Destination) → places ds ≡ folders → (own : List Deed) (h : Hand) → May n own → AreSpared p held own → Still ns own → HasLocks own → To ds own → Goes w own h (message_refiled w.run source p n ds) (okay Refiled)
      unfolding message_refiled
      message_goes [] some own h may spared others locks to = goes_return w own h [] (okay Refiled) (some, tt, locks, others, subst (λ fs. HasGone w.run p fs n own) some tt)
      message_goes (d ∷ ds) some own h may spared others locks to =
          goes_then w own h (lifted (of_plan source) (number_taken w.run p n)) (rest d ds) (HasTaken w.run p n own) Refiled
          (goes_lifted w own h (of_plan source) (number_taken w.run p n) (HasTaken w.run p n own) (take_goes w few p folder n ok own h (lets.takes n own ok may) (never_taken w.run p n own spared) (locks p inside)))
          (λ later j name q. goes_at w later (after_take w.run p n own) j (rest d ds name) (okay Refiled) q.0
          (subst (λ x. Goes w (after_take w.run p n own) j (rest d ds x) (okay Refiled)) (sym q.1) (read_goes d ds some to.0.open_to.is_there own j may spared others locks to)))

    -- The messages of these numbers are refiled, where their held names were used for nothing and the locks are had: each step is careful, and they
    -- went to each of the folders.
    abbrev pub AllRefiled : List ℕ → Outcome (List Destination)
    AllRefiled ns later j es = (places es ≡ folders) × To es later × HasLocks later × F later × AllGone w.run p folders ns later

    pub messages_go : (ns : List ℕ) → AreMessages ns → (ds : List Destination) → places ds ≡ folders → (own : List Deed) (h : Hand) → AllMay ns own → AllSpared w.run p ns own → F own → HasLocks own → To ds own → Goes w own h (messages_refiled w.run source p ns ds) (okay (AllRefiled ns))
    unfolding messages_refiled
    messages_go [] are ds some own h may spared fact locks to = goes_return w own h ds (okay (AllRefiled [])) (some, to, locks, fact, tt)
    messages_go (n ∷ ns) are ds some own h may spared fact locks to =
        goes_lasting w (AllMay ns) (all_may_kept ns) own h (message_refiled w.run source p n ds) (λ later. messages_refiled w.run source p ns later) (Refiled n are.0 ns are.2 are.1) (AllRefiled (n ∷ ns)) may.1
        (message_goes n are.0 ns are.2 are.1 ds some own h may.0 spared.0 (spared.1, fact) locks to)
        (λ later j es rest f.
        goes_more w later j (messages_refiled w.run source p ns es) (okay (λ last i fs. HasGone w.run p folders n last × AllRefiled ns last i fs)) (okay (AllRefiled (n ∷ ns)))
        (okay_more (λ last i fs. HasGone w.run p folders n last × AllRefiled ns last i fs) (AllRefiled (n ∷ ns)) (λ last i fs g. (g.1.0, g.1.1, g.1.2, g.1.3, (g.0, g.1.4))))
        (lasting w (HasGone w.run p folders n) (gone_kept w.run p folders n) later j (messages_refiled w.run source p ns es) (AllRefiled ns) f.4 (messages_go ns are.2 es f.0 later j rest f.3.0 f.3.1 f.2 f.1)))
