-- Messages are copied to other folders as their command pledges, and keep their numbers.
use Rattle.std.proofs.Common.{◌≡◌, ◌<◌, ◌^◌, ◌++◌, ◌∷◌, [], ℕ, true, List, refl, sym, ap, subst}
use Rattle.std.specs.Prelude.{decimal}
use Rattle.mh_base.specs.Entries.{entry_text, kind_of}
use Rattle.mh_base.specs.Numbers.{IsMsgNum}
use Rattle.mh_base.specs.declared.entry.Entry.TheVariants.{Number}
use Rattle.folder_files.specs.Careful.{IsRead, WasReady}
use Rattle.folder_files.specs.Deeds.{Deed, WasDone, did, now, on, still}
use Rattle.folder_files.specs.Named.{is_temp_of}
use Rattle.folder_files.specs.declared.place.Place.{Place}
use Rattle.folder_files.specs.declared.step.Answer.{Answer}
use Rattle.folder_files.specs.declared.step.Answer.TheVariants as answer
use Rattle.folder_files.specs.declared.step.Step.{Step}
use Rattle.folder_files.specs.declared.step.Step.TheVariants as step
use Rattle.file_plans.specs.Plan.{Hand, lifted}
use Rattle.file_plans.proofs.Framing.{AnyStep}
use Rattle.file_plans.proofs.Showing.{number_kind}
use Rattle.step_plans.specs.ContextCommit.{LIMIT_BYTES}
use Rattle.step_plans.specs.Pledges.{Pledge}
use Rattle.step_plans.proofs.Going.{Goes, Outcome, goes_lifted, goes_more, goes_then, okay, okay_more}
use Rattle.step_plans.proofs.Lasting.{KeptBy, goes_lasting, lasting}
use Rattle.step_plans.proofs.Stepping.{goes_return}
use Rattle.step_plans.proofs.Written.{goes_at}
use Rattle.message_puts.specs.Stored.{HasStoredAt}
use Rattle.message_puts.proofs.PutPledged.{AsksPut, Tries, made_ready, tried, untried}
use Rattle.message_puts.proofs.StoredPledged.{IsStoredBy}
use Rattle.command_stages.specs.Endings.{of_plan}
use Rattle.message_moves.specs.Copied.{HasCopied}
use Rattle.message_moves.specs.Copying.{copied_to_all, message_copied, messages_copied}
use Rattle.message_moves.specs.Moving.{content_read}
use Rattle.message_moves.specs.declared.destination.Destination.{Destination}
use Rattle.message_moves.proofs.CopyPledged.{AllCopied, AreDestinations, Locks, Opens, copies_go, destinations_kept, places}
use Rattle.message_moves.proofs.MoveCopied.{Anything}
use Rattle.message_moves.proofs.MovePledged.{HasContent, after_content, content_goes}

module _ (p : Place) (name bytes : List ℕ) where
  -- these bytes were read under this name, and this is so of the deeds since then
  pub record IsSince (G : List Deed → Type 0) (own : List Deed) : Type 0 where
    pub part : List Deed
    pub reading : Deed
    pub old : List Deed
    pub deeds : own ≡ part ++ reading ∷ old
    pub is_reading : IsRead p name bytes reading
    pub also : G part

  since_more : (G H : List Deed → Type 0) (s : Step) (a : Answer) → ((part : List Deed) → G part → H (did s a ∷ part)) → (own : List Deed) → IsSince G own → IsSince H (did s a ∷ own)
  since_more G H s a more own o = record { part = did s a ∷ o.part; reading = o.reading; old = o.old; deeds = ap (λ z. did s a ∷ z) o.deeds; is_reading = o.is_reading; also = more o.part o.also }

  since_less : (G H : List Deed → Type 0) → ((part : List Deed) → G part → H part) → (own : List Deed) → IsSince G own → IsSince H own
  since_less G H less own o = record { part = o.part; reading = o.reading; old = o.old; deeds = o.deeds; is_reading = o.is_reading; also = less o.part o.also }

  module _ (run : ℕ) (q : Place) (G : List Deed → Type 0) (keeps : KeptBy AnyStep G) where
    abbrev Ready : List ℕ → List Deed → Type 0
    Ready temp part = G part × WasReady q temp bytes part

    abbrev With : ℕ → List Deed → Type 0
    With m part = G part × HasStoredAt run q m bytes part

    since_ready : (temp : List ℕ) (own : List Deed) → IsSince G own → IsSince (Ready temp) (made_ready q temp bytes own)
    since_ready temp own o =
        since_more (λ part. G part × WasDone (step.Create q temp bytes) part) (Ready temp) (step.SyncFile q temp) answer.Done (λ part c. (keeps part (step.SyncFile q temp) answer.Done tt c.0, now (refl, c.1))) (did (step.Create q temp bytes) answer.Done ∷ own)
        (since_more G (λ part. G part × WasDone (step.Create q temp bytes) part) (step.Create q temp bytes) answer.Done (λ part g. (keeps part (step.Create q temp bytes) answer.Done tt g, now refl)) own o)

    since_tries : (temp : List ℕ) (base older : List Deed) → Tries q temp base older → IsSince (Ready temp) base → IsSince (Ready temp) older
    since_tries temp base _ untried o = o
    since_tries temp base _ (tried {own = older} n t) o =
        since_more (Ready temp) (Ready temp) (step.Link q temp (decimal n)) answer.Exists (λ part c. (keeps part (step.Link q temp (decimal n)) answer.Exists tt c.0, on c.1)) older (since_tries temp base older t o)

    since_linked : (temp : List ℕ) → is_temp_of run (kind_of temp) ≡ true → (m : ℕ) → IsMsgNum m → (own : List Deed) → IsSince (Ready temp) own
        → IsSince (With m) (did (step.SyncFolder q) answer.Done ∷ (did (step.Unlink q temp) answer.Done ∷ (did (step.Link q temp (decimal m)) answer.Done ∷ own)))
    since_linked temp is m ok own o = record {
      part = after o.part;
      reading = o.reading;
      old = o.old;
      deeds = ap after o.deeds;
      is_reading = o.is_reading;
      also = (
        keeps _ (step.SyncFolder q) answer.Done tt (keeps _ (step.Unlink q temp) answer.Done tt (keeps o.part (step.Link q temp (decimal m)) answer.Done tt o.also.0)),
        now (refl, on (now (record { temp = temp; linked = refl; is_own = is; at_number = rw (number_kind m ok) refl; ready = o.also.1 }))),
      );
    }
      where
        after : List Deed → List Deed
        after z = did (step.SyncFolder q) answer.Done ∷ (did (step.Unlink q temp) answer.Done ∷ (did (step.Link q temp (decimal m)) answer.Done ∷ z))

    since_stored : (own later : List Deed) (m : ℕ) → IsMsgNum m → IsStoredBy run q bytes own m later → IsSince G own → IsSince (With m) later
    since_stored own later m ok b o =
        subst (IsSince (With m)) (sym b.deeds)
        (subst (λ z. IsSince (With m) (did (step.SyncFolder q) answer.Done ∷ z)) (sym b.put.deeds)
        (subst (λ z. IsSince (With m) (did (step.SyncFolder q) answer.Done ∷ (did (step.Unlink q b.put.temp) answer.Done ∷ z))) (sym b.put.link.deeds)
        (since_linked b.put.temp b.put.is_own m ok b.put.link.older (since_tries b.put.temp (made_ready q b.put.temp bytes own) b.put.link.older b.put.link.tries (since_ready b.put.temp own o)))))

copied_kept : (run : ℕ) (p : Place) (name : List ℕ) (folders : List Place) → KeptBy AnyStep (HasCopied run p name folders)
copied_kept run p name folders own s a any f = record { bytes = f.bytes; since = did s a ∷ f.since; reading = f.reading; before = f.before; deeds = ap (λ z. did s a ∷ z) f.deeds; is_reading = f.is_reading; stored = λ q c. (let one = f.stored q c in (one.0, on one.1)) }

module _ (w : Pledge) (few : w.run < 2 ^ 128) (p : Place) (In : Place → Type 0) (Known : Place → ℕ → List Deed → Type 0) (Now : List ℕ → List Deed → Type 0) (keeps : (bytes : List ℕ) → KeptBy AnyStep (Now bytes)) where
  abbrev number : ℕ → List ℕ
  number n = entry_text (Number n)

  abbrev To : List Destination → List Deed → Type 0
  To ds own = AreDestinations w few p In Known Now keeps ds own

  abbrev HasLocks : List Deed → Type 0
  HasLocks own = Locks w few p In Known Now keeps own

  -- the pledge lets messages be copied: what was read at its number may be put elsewhere, where this is so of it and the deeds, which lasts
  pub record LetsCopy (May : ℕ → List Deed → Type 0) : Type 0 where
    pub reads : (n : ℕ) (bytes : List ℕ) (own : List Deed) → May n own → Now bytes (after_content p (number n) bytes own)
    pub lasts : (n : ℕ) → KeptBy AnyStep (May n)

  -- each step of messages that are copied keeps this fact of the deeds
  pub record CopiesKeep (P : Step → Type 0) (F : List Deed → Type 0) : Type 0 where
    pub kept : KeptBy P F
    pub read : (n : ℕ) → P (step.Read p (number n) LIMIT_BYTES)
    pub elsewhere : (q : Place) → (q ≡ p → ⊥) → AsksPut P q
    pub safe : (q : Place) → P (step.SyncFolder q)

  module _ (source : List ℕ) (folders : List Place) (May : ℕ → List Deed → Type 0) (lets : LetsCopy May) (P : Step → Type 0) (F : List Deed → Type 0) (copies : CopiesKeep P F) where
    abbrev pub EachMay : List ℕ → List Deed → Type 0
    EachMay [] own = Unit {0}
    EachMay (n ∷ ns) own = May n own × EachMay ns own

    each_may_kept : (ns : List ℕ) → KeptBy AnyStep (EachMay ns)
    each_may_kept [] own s a any f = tt
    each_may_kept (n ∷ ns) own s a any f = (lets.lasts n own s a any f.0, each_may_kept ns own s a any f.1)

    -- each of these messages was copied to each of the folders
    abbrev pub AreCopied : List ℕ → List Deed → Type 0
    AreCopied [] own = Unit {0}
    AreCopied (n ∷ ns) own = HasCopied w.run p (number n) folders own × AreCopied ns own

    module _ (n : ℕ) where
      abbrev Open : List ℕ → (List Deed → Type 0) → List Deed → Type 0
      Open bytes G own = IsSince p (number n) bytes G own

      opens : (bytes : List ℕ) → Opens w few p In Known Now keeps bytes (Open bytes) P F
      opens bytes = record {
        stored = λ q is G kept own later m ok by o. since_stored p (number n) bytes w.run q G kept own later m ok by o;
        less = since_less p (number n) bytes;
        rest = copies.kept;
        elsewhere = copies.elsewhere;
        safe = copies.safe;
      }

      abbrev One : Outcome (List Destination)
      One later j es = (places es ≡ folders) × To es later × HasLocks later × F later × HasCopied w.run p (number n) folders later

      abbrev Ends : List ℕ → Outcome (List Destination)
      Ends bytes = AllCopied w few p In Known Now keeps bytes (Open bytes) P F (opens bytes) folders

      ended : (bytes : List ℕ) (later : List Deed) (j : Hand) (es : List Destination) → Ends bytes later j es → One later j es
      ended bytes later j es g = (
        g.0,
        g.1,
        g.2.locks,
        g.2.others,
        record { bytes = bytes; since = g.2.open_.part; reading = g.2.open_.reading; before = g.2.open_.old; deeds = g.2.open_.deeds; is_reading = g.2.open_.is_reading; stored = g.2.open_.also },
      )

      message_goes : (ds : List Destination) → places ds ≡ folders → (own : List Deed) (h : Hand) → May n own → F own → HasLocks own → To ds own → Goes w own h (message_copied w.run source p n ds) (okay One)
      unfolding message_copied
      message_goes ds same own h may fact locks to =
          goes_then w own h (lifted (of_plan source) (content_read p (number n))) (λ bytes. copied_to_all w.run bytes ds []) (HasContent p (number n) own) One
          (goes_lifted w own h (of_plan source) (content_read p (number n)) (HasContent p (number n) own) (content_goes w p (number n) own h))
          (λ later i bytes e. goes_at w later (after_content p (number n) bytes own) i (copied_to_all w.run bytes ds []) (okay One) e
          (goes_more w _ i (copied_to_all w.run bytes ds []) (okay (Ends bytes)) (okay One) (okay_more (Ends bytes) One (ended bytes))
          (subst (λ qs. Goes w (after_content p (number n) bytes own) i (copied_to_all w.run bytes ds []) (okay (AllCopied w few p In Known Now keeps bytes (Open bytes) P F (opens bytes) qs))) same
          (copies_go w few p In Known Now keeps bytes (Open bytes) P F (opens bytes) ds _ i (destinations_kept w few p In Known Now keeps ds own (step.Read p (number n) LIMIT_BYTES) (answer.Content bytes) tt to) Anything
          (record {
            locks = λ q l. still (λ x. cc (x)) (locks q l);
            open_ = record { part = []; reading = did (step.Read p (number n) LIMIT_BYTES) (answer.Content bytes); old = own; deeds = refl; is_reading = (LIMIT_BYTES, refl); also = tt };
            current = lets.reads n bytes own may;
            others = copies.kept own (step.Read p (number n) LIMIT_BYTES) (answer.Content bytes) (copies.read n) fact;
          })))))

    -- the messages of these numbers are copied where the locks are had: each step is careful
    abbrev pub AllOf : List ℕ → Outcome (List Destination)
    AllOf ns later j es = (places es ≡ folders) × To es later × HasLocks later × F later × AreCopied ns later

    pub copied_messages_go : (ns : List ℕ) (ds : List Destination) → places ds ≡ folders → (own : List Deed) (h : Hand) → EachMay ns own → F own → HasLocks own → To ds own → Goes w own h (messages_copied w.run source p ns ds) (okay (AllOf ns))
    unfolding messages_copied
    copied_messages_go [] ds same own h may fact locks to = goes_return w own h ds (okay (AllOf [])) (same, to, locks, fact, tt)
    copied_messages_go (n ∷ ns) ds same own h may fact locks to =
        goes_lasting w (EachMay ns) (each_may_kept ns) own h (message_copied w.run source p n ds) (λ later. messages_copied w.run source p ns later) (One n) (AllOf (n ∷ ns)) may.1 (message_goes n ds same own h may.0 fact locks to)
        (λ later j es rest f.
        goes_more w later j (messages_copied w.run source p ns es) (okay (λ last i fs. HasCopied w.run p (number n) folders last × AllOf ns last i fs)) (okay (AllOf (n ∷ ns)))
        (okay_more (λ last i fs. HasCopied w.run p (number n) folders last × AllOf ns last i fs) (AllOf (n ∷ ns)) (λ last i fs g. (g.1.0, g.1.1, g.1.2, g.1.3, (g.0, g.1.4))))
        (lasting w (HasCopied w.run p (number n) folders) (copied_kept w.run p (number n) folders) later j (messages_copied w.run source p ns es) (AllOf ns) f.4 (copied_messages_go ns es f.0 later j rest f.3 f.2 f.1)))
