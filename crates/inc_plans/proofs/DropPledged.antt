-- Both passes over a drop go as their command pledges.
use Rattle.std.proofs.Common.{◌≡◌, ◌⊎◌, inl, inr, ◌<◌, ◌≤◌, ◌+◌, ◌-◌, ◌^◌, ◌++◌, ◌∷◌, [], ◌==◌, ℕ, zero, suc, Bool, true, false, List, Option, Some, None, Result, Ok, Err, length, drop, min, refl, sym, ◌∙◌, ap, subst, arith, nat_lt, append_assoc, append-nil, length-append}
use Rattle.std.specs.Prelude.{reverse, if◌then◌else◌}
use Rattle.std.proofs.lemmas.Bool.Decides.{Decides-eqb, Decides-ltb}
use Rattle.mbox_drop.specs.Drops.{finished, is_drop, messages}
use Rattle.mbox_drop.specs.Long.{first_long}
use Rattle.mbox_drop.proofs.Cuttings.{finished-none}
use Rattle.mh_sequences.specs.declared.run.Run.{Run}
use Rattle.folder_files.specs.Careful.{HasPieces, HasStored, IsPiece, all, first, more}
use Rattle.folder_files.specs.Deeds.{Deed, Once, did, now, on}
use Rattle.folder_files.specs.declared.place.FilePath.{FilePath}
use Rattle.folder_files.specs.declared.place.Place.{Place}
use Rattle.folder_files.specs.declared.place.Place.TheVariants.{Folder}
use Rattle.folder_files.specs.declared.refusal.Refusal.TheVariants as refusal
use Rattle.folder_files.specs.declared.step.Answer.{Answer}
use Rattle.folder_files.specs.declared.step.Answer.TheVariants as answer
use Rattle.folder_files.specs.declared.step.Step.TheVariants as step
use Rattle.file_plans.specs.Plan.{Hand, Return, ◌>>=◌}
use Rattle.step_plans.specs.CommandFaults.{of_stop}
use Rattle.step_plans.specs.Pledges.{Pledge}
use Rattle.step_plans.specs.declared.command_fault.CommandFault.{CommandFault}
use Rattle.step_plans.specs.declared.command_fault.CommandFault.TheVariants as fault
use Rattle.step_plans.proofs.Going.{Goes, Outcome, Sound, goes_more, goes_then, okay, okay_more}
use Rattle.step_plans.proofs.Stepping.{goes_end, goes_on, goes_read_drop, goes_return, goes_stop}
use Rattle.message_puts.proofs.PutPledged.{PutsMessages}
use Rattle.inc_plans.specs.Counting.{LONGEST, PIECE, counted_by, drop_counted, drop_read, empty_if, head_by, head_if, head_read, long_if, piece_by, piece_read, rest_read, size_if, whole_if}
use Rattle.inc_plans.specs.Cutting.{changed, given_by, last_by}
use Rattle.inc_plans.specs.DropTaken.{Read, Where, as_counted, drop_taken, ended_taken, into, listed, piece_taken, rest_taken, where_of}
use Rattle.inc_plans.specs.IncPledge.{HoldsOne}
use Rattle.inc_plans.specs.Stored.{IsLineOfStored}
use Rattle.inc_plans.specs.Taking.{Telling}
use Rattle.inc_plans.specs.declared.size.DropSize.{DropSize}
use Rattle.inc_plans.specs.declared.drop_head.Head.{Head}
use Rattle.inc_plans.specs.declared.taken.Taken.{Taken}
use Rattle.inc_plans.proofs.Courses.{IsAt, Taking, all_go, ground_read, stored_still, then_soundly}
use Rattle.inc_plans.proofs.DropKept.{stored_kept}
use Rattle.inc_plans.proofs.Finishing.{IsFound, finished_all, finished_on, finished_rest, none_found}

-- the length of the drop was told by its first piece
abbrev pub IsTold : FilePath → ℕ → List Deed → Type 0
IsTold f l own = Once (λ d older. (piece : List ℕ) × IsPiece f 0 piece l d) own

not_less : (a b : ℕ) → (a < b → false ≡ true) → b ≤ a
not_less a b never = go (nat_lt a b) (Decides-ltb a b)
  where
    go : (v : Bool) → (v ≡ true → a < b) × (a < b → v ≡ true) → b ≤ a
    go true g = absurd (let bad = never (g.0 refl) in cc (bad))
    go false g = at_least (λ lt. let bad = g.1 lt in cc (bad))
      where
        at_least : (a < b → ⊥) → b ≤ a
        at_least off = grind (arith, off)

module _ (w : Pledge) (few : w.run < 2 ^ 128) (path folder : List ℕ) (Known : ℕ → List Deed → Type 0) (f : FilePath)
    (lets : (bytes : List ℕ) → PutsMessages w (Folder path folder) bytes Known None (HoldsOne w.run f)) (telling : Telling)
    (tells : telling.silent ≡ false → (own : List Deed) (piece : List ℕ) → IsLineOfStored telling.line w.run (Folder path folder) own piece → w.may_tell own piece)
    (begin : List Deed) (listing : List Run) (text context old : List ℕ) where
  abbrev p : Place
  p = Folder path folder

  abbrev pub Takes : List ℕ → List (List ℕ) → List ℕ → List Deed → Type 0
  Takes d done numbers own = Taking w few path folder Known f lets telling tells begin listing text context old d done numbers own

  -- no message was taken in yet
  abbrev pub Bare : List Deed → Type 0
  Bare own = Takes [] [] [] own

  bare_read : (own : List Deed) (from most : ℕ) (a : Answer) → Bare own → Bare (did (step.ReadDrop f from most) a ∷ own)
  bare_read own from most a b = record { ground = ground_read w.run path folder f begin listing text context old own from most a b.ground; pieces = inl refl; stored = all; at = tt }

  -- a piece of just so many bytes
  piece_goes : (own : List Deed) (h : Hand) (from asked : ℕ) (Q : Outcome (List ℕ)) → ((bytes : List ℕ) (l : ℕ) → length bytes ≡ asked → Q (did (step.ReadDrop f from asked) (answer.Piece bytes l) ∷ own) h bytes)
      → Goes w own h (piece_read f from asked) (okay Q)
  unfolding piece_read
  piece_goes own h from asked Q q =
      goes_read_drop w own h of_stop (okay Q) f from asked (piece_by asked) (λ bytes l. by_test bytes l (length bytes == asked) refl) (goes_end w _ h (fault.Refused refusal.DropChanged) Q)
    where
      by_test : (bytes : List ℕ) (l : ℕ) (b : Bool) → (length bytes == asked) ≡ b → Goes w (did (step.ReadDrop f from asked) (answer.Piece bytes l) ∷ own) h (whole_if b bytes) (okay Q)
      by_test bytes l true e = goes_return w _ h bytes (okay Q) (q bytes l ((Decides-eqb (length bytes) asked).0 e))
      by_test bytes l false e = goes_end w _ h (fault.Refused refusal.DropChanged) Q

  abbrev Headed : Outcome Head
  Headed later j head = Bare later × IsTold f head.length later × (length head.bytes ≡ min head.length PIECE) × ((head.length == 0) ≡ false)

  head_goes : (own : List Deed) (h : Hand) → Bare own → Goes w own h (head_read f) (okay Headed)
  unfolding head_read
  head_goes own h b = goes_read_drop w own h of_stop (okay Headed) f 0 PIECE head_by (λ bytes l. by_empty bytes l (l == 0) refl) (goes_end w _ h (fault.Refused refusal.NoMail) Headed)
    where
      on_ : List ℕ → ℕ → List Deed
      on_ bytes l = did (step.ReadDrop f 0 PIECE) (answer.Piece bytes l) ∷ own

      by_whole : (bytes : List ℕ) (l : ℕ) (v : Bool) → (l == 0) ≡ false → (length bytes == min l PIECE) ≡ v → Goes w (on_ bytes l) h (head_if v l bytes) (okay Headed)
      by_whole bytes l true some e =
          goes_return w (on_ bytes l) h (record { length = l; bytes = bytes }) (okay Headed) (bare_read own 0 PIECE (answer.Piece bytes l) b, now (bytes, (PIECE, refl)), (Decides-eqb (length bytes) (min l PIECE)).0 e, some)
      by_whole bytes l false some e = goes_end w (on_ bytes l) h (fault.Refused refusal.DropChanged) Headed

      by_long : (bytes : List ℕ) (l : ℕ) (v : Bool) → (l == 0) ≡ false → Goes w (on_ bytes l) h (long_if v l bytes) (okay Headed)
      by_long bytes l true some = goes_end w (on_ bytes l) h (fault.Refused (refusal.TooLarge l LONGEST)) Headed
      by_long bytes l false some = by_whole bytes l (length bytes == min l PIECE) some refl

      by_empty : (bytes : List ℕ) (l : ℕ) (v : Bool) → (l == 0) ≡ v → Goes w (on_ bytes l) h (empty_if v l bytes) (okay Headed)
      by_empty bytes l true e = goes_end w (on_ bytes l) h (fault.Refused refusal.NoMail) Headed
      by_empty bytes l false e = by_long bytes l (nat_lt LONGEST l) e

  -- the rest of it
  module _ (l : ℕ) where
    abbrev Whole : Outcome (List ℕ)
    Whole later j d = Bare later × IsTold f l later × (length d ≡ l)

    rest_goes : (fuel : ℕ) (d : List ℕ) → length d ≤ l → l ≤ length d + fuel → (own : List Deed) (h : Hand) → Bare own → IsTold f l own → Goes w own h (rest_read f l fuel d) (okay Whole)
    unfolding rest_read
    rest_goes zero d within enough own h b t = goes_return w own h d (okay Whole) (b, t, omega (arith, within, enough))
    rest_goes (suc fuel) d within enough own h b t =
        by_test (nat_lt (length d) l) (Decides-ltb (length d) l) (λ bytes le more later j bare told. rest_goes fuel (d ++ bytes) le more later j bare told)
      where
        asked : ℕ
        asked = min (l - length d) PIECE

        by_test : (v : Bool) → (v ≡ true → length d < l) × (length d < l → v ≡ true)
            → ((bytes : List ℕ) → length (d ++ bytes) ≤ l → l ≤ length (d ++ bytes) + fuel → (later : List Deed) (j : Hand) → Bare later → IsTold f l later → Goes w later j (rest_read f l fuel (d ++ bytes)) (okay Whole))
            → Goes w own h (if v then (piece_read f (length d) asked >>= (λ bytes. rest_read f l fuel (d ++ bytes))) else Return (Ok d)) (okay Whole)
        by_test true e next =
            let lt = e.0 refl in
            goes_then w own h (piece_read f (length d) asked) (λ bytes. rest_read f l fuel (d ++ bytes)) (λ later j bytes. Bare later × IsTold f l later × (length bytes ≡ asked)) Whole
            (piece_goes own h (length d) asked (λ later j bytes. Bare later × IsTold f l later × (length bytes ≡ asked)) (λ bytes k same. (bare_read own (length d) asked (answer.Piece bytes k) b, on t, same)))
            (λ later j bytes q.
            let long : length (d ++ bytes) ≡ length d + length bytes = length-append d bytes in
            let same = q.2 in
            next bytes (omega (arith, long, same, lt)) (omega (arith, long, same, lt, enough)) later j q.0 q.1)
        by_test false e next = goes_return w own h d (okay Whole) (b, t, (let le = not_less (length d) l e.1 in omega (arith, within, le)))

  -- the first pass
  abbrev pub Counted : Outcome DropSize
  Counted later j size = Bare later × IsTold f size.length later × ((size.length == 0) ≡ false)

  abbrev ReadAll : Outcome (List ℕ)
  ReadAll later j d = Bare later × IsTold f (length d) later × ((length d == 0) ≡ false)

  read_goes : (own : List Deed) (h : Hand) → Bare own → Goes w own h (drop_read f) (okay ReadAll)
  unfolding drop_read
  read_goes own h b =
      goes_then w own h (head_read f) (λ head. rest_read f head.length head.length head.bytes) Headed ReadAll (head_goes own h b)
      (λ later j head q.
      let e = q.2 in
      goes_more w later j (rest_read f head.length head.length head.bytes) (okay (Whole head.length)) (okay ReadAll)
      (okay_more (Whole head.length) ReadAll (λ last i d z. (z.0, subst (λ k. IsTold f k last) (sym z.2) z.1, subst (λ k. (k == 0) ≡ false) (sym z.2) q.3)))
      (rest_goes head.length head.length head.bytes (omega (arith, e)) (omega (arith, e)) later j q.0 q.1))

  pub counted_goes : (own : List Deed) (h : Hand) → Bare own → Goes w own h (drop_counted f) (okay Counted)
  unfolding drop_counted Goes
  counted_goes own h b = goes_then w own h (drop_read f) (λ d. Return (counted_by d)) ReadAll Counted (read_goes own h b) (λ later j d q. sized d later j q (is_drop d) (first_long (messages d)))
    where
      sized : (d : List ℕ) (later : List Deed) (j : Hand) → ReadAll later j d → (v : Bool) (o : Option ℕ) → okay Counted later j (size_if v o d)
      sized d later j q true None = q
      sized d later j q true (Some n) = tt
      sized d later j q false o = tt

  -- the second pass
  abbrev where_ : Where
  where_ = where_of w.run folder p telling

  module _ (l : ℕ) where
    pub record Passing (s : Read) (own : List Deed) : Type 0 where
      pub taken : Takes s.bytes (finished s.bytes) s.taken.numbers own
      pub small : s.taken.highest ≤ 999999
      pub known : Known s.taken.highest own
      pub found : IsFound s.bytes
      pub within : length s.bytes ≤ l
      pub before : List ℕ
      pub piece : List ℕ
      pub is : s.bytes ≡ before ++ piece
      pub short : length piece ≤ 65536
      pub front : length (finished before) ≤ length (finished s.bytes)

    -- a piece is read of a drop
    pieces_read : (d bytes : List ℕ) (asked k : ℕ) (own : List Deed) → (d ≡ []) ⊎ HasPieces f d own → HasPieces f (d ++ bytes) (did (step.ReadDrop f (length d) asked) (answer.Piece bytes k) ∷ own)
    pieces_read [] bytes asked k own z = first (asked, refl)
    pieces_read (x ∷ d) bytes asked k own (inl e) = cc (e)
    pieces_read (x ∷ d) bytes asked k own (inr z) = more (λ e. cc (e)) (asked, refl) z

    stored_read : (d : List ℕ) (asked : ℕ) (a : Answer) (own : List Deed) → HasStored w.run f [] (reverse (finished d)) own → HasStored w.run f [] (reverse (finished d)) (did (step.ReadDrop f (length d) asked) a ∷ own)
    stored_read [] asked a own z = subst (λ ms. HasStored w.run f [] (reverse ms) (did (step.ReadDrop f 0 asked) a ∷ own)) (sym finished-none) all
    stored_read (x ∷ d) asked a own z = stored_kept w.run f (reverse (finished (x ∷ d))) own (step.ReadDrop f (length (x ∷ d)) asked) a (λ most e. cc (e)) z

    taken_read : (d bytes : List ℕ) (numbers : List ℕ) (asked k : ℕ) (own : List Deed) → Takes d (finished d) numbers own → Takes (d ++ bytes) (finished d) numbers (did (step.ReadDrop f (length d) asked) (answer.Piece bytes k) ∷ own)
    taken_read d bytes numbers asked k own c = record {
      ground = ground_read w.run path folder f begin listing text context old own (length d) asked (answer.Piece bytes k) c.ground;
      pieces = inr (pieces_read d bytes asked k own c.pieces);
      stored = stored_read d asked (answer.Piece bytes k) own c.stored;
      at = stored_still w.run p numbers (finished d) own (step.ReadDrop f (length d) asked) (answer.Piece bytes k) tt c.at;
    }

    piece_on : (s : Read) (own : List Deed) (h : Hand) → Sound w own h → Passing s own → length s.bytes < l
        → Goes w own h (piece_taken where_ f l s.bytes s.taken) (okay (λ later j new. Passing new later × (length new.bytes ≡ length s.bytes + min (l - length s.bytes) PIECE)))
    unfolding piece_taken
    piece_on s own h sound c lt =
        then_soundly w own h (piece_read f (length d) asked) (λ bytes. Return (given_by d bytes) >>= (λ given. into where_ s.taken given >>= (λ taken. Return (Ok (record { bytes = d ++ bytes; taken = taken }))))) Reads Q sound
        (piece_goes own h (length d) asked Reads (λ bytes k same. (taken_read d bytes s.taken.numbers asked k own c.taken, (lets []).kept s.taken.highest own (step.ReadDrop f (length d) asked) (answer.Piece bytes k) tt c.known, same)))
        (λ later j bytes ok q. by_given bytes later j ok q (given_by d bytes) refl)
      where
        d : List ℕ
        d = s.bytes

        asked : ℕ
        asked = min (l - length d) PIECE

        Reads : Outcome (List ℕ)
        Reads later j bytes = Takes (d ++ bytes) (finished d) s.taken.numbers later × Known s.taken.highest later × (length bytes ≡ asked)

        Q : Outcome Read
        Q later j new = Passing new later × (length new.bytes ≡ length d + asked)

        none_empty : (bytes : List ℕ) → length bytes ≡ asked → d ++ bytes ≡ [] → ⊥
        none_empty bytes same e = let long = length-append d bytes in let none = ap length e in omega (arith, long, same, none, lt)

        at_piece : (bytes : List ℕ) (given : List (List ℕ)) → length bytes ≡ asked → finished d ++ given ≡ finished (d ++ bytes)
            → IsAt w few path folder Known f lets telling tells begin listing text context old (d ++ bytes) (finished d) (given ++ drop (length (finished (d ++ bytes))) (messages (d ++ bytes)))
        at_piece bytes given same fin = record {
          before = d;
          piece = bytes;
          is = refl;
          short = omega (arith, same);
          some = none_empty bytes same;
          whole = sym (append_assoc (finished d) given (drop (length (finished (d ++ bytes))) (messages (d ++ bytes)))) ∙ (ap (λ x. x ++ drop (length (finished (d ++ bytes))) (messages (d ++ bytes))) fin ∙ finished_rest (d ++ bytes));
          front = omega arith;
        }

        by_given : (bytes : List ℕ) (later : List Deed) (j : Hand) → Sound w later j → Reads later j bytes → (r : Result (List (List ℕ)) CommandFault) → given_by d bytes ≡ r
            → Goes w later j (Return r >>= (λ given. into where_ s.taken given >>= (λ taken. Return (Ok (record { bytes = d ++ bytes; taken = taken }))))) (okay Q)
        by_given bytes later j ok q (Ok given) e =
            let fin = finished_on d bytes given c.found e in
            let long : length (d ++ bytes) ≡ length d + length bytes = length-append d bytes in
            let same = q.2 in
            goes_on w later j given (λ given_. into where_ s.taken given_ >>= (λ taken. Return (Ok (record { bytes = d ++ bytes; taken = taken })))) (okay Q)
            (goes_then w later j (into where_ s.taken given) (λ taken. Return (Ok (record { bytes = d ++ bytes; taken = taken }))) (λ last i t. (t.highest ≤ 999999) × Known t.highest last × Takes (d ++ bytes) (finished d ++ given) t.numbers last) Q
            (all_go w few path folder Known f lets telling tells begin listing text context old given s.taken c.small (d ++ bytes) (finished d) (drop (length (finished (d ++ bytes))) (messages (d ++ bytes))) (at_piece bytes given same fin.1) later j ok q.1 q.0)
            (λ last i t z.
            goes_return w last i (record { bytes = d ++ bytes; taken = t }) (okay Q)
            (record { taken = subst (λ ms. Takes (d ++ bytes) ms t.numbers last) fin.1 z.2; small = z.0; known = z.1; found = fin.0; within = omega (arith, long, same, lt); before = d; piece = bytes; is = refl; short = omega (arith, same); front = (let longer = length-append (finished d) given in let all_ = ap length fin.1 in omega (arith, longer, all_)) }, omega (arith, long, same))))
        by_given bytes later j ok q (Err e) is = goes_stop w later j e (λ given. into where_ s.taken given >>= (λ taken. Return (Ok (record { bytes = d ++ bytes; taken = taken })))) Q

    rest_on : (fuel : ℕ) (s : Read) → l ≤ length s.bytes + fuel → (own : List Deed) (h : Hand) → Sound w own h → Passing s own → Goes w own h (rest_taken where_ f l fuel s) (okay (λ later j new. Passing new later × (length new.bytes ≡ l)))
    unfolding rest_taken
    rest_on zero s enough own h sound c = let le = c.within in goes_return w own h s (okay (λ later j new. Passing new later × (length new.bytes ≡ l))) (c, omega (arith, le, enough))
    rest_on (suc fuel) s enough own h sound c =
        by_test (nat_lt (length s.bytes) l) (Decides-ltb (length s.bytes) l) (λ new more later j ok passing. rest_on fuel new more later j ok passing)
      where
        Q : Outcome Read
        Q later j new = Passing new later × (length new.bytes ≡ l)

        by_test : (v : Bool) → (v ≡ true → length s.bytes < l) × (length s.bytes < l → v ≡ true)
            → ((new : Read) → l ≤ length new.bytes + fuel → (later : List Deed) (j : Hand) → Sound w later j → Passing new later → Goes w later j (rest_taken where_ f l fuel new) (okay Q))
            → Goes w own h (if v then (piece_taken where_ f l s.bytes s.taken >>= (λ more. rest_taken where_ f l fuel more)) else Return (Ok s)) (okay Q)
        by_test true e next =
            let lt = e.0 refl in
            then_soundly w own h (piece_taken where_ f l s.bytes s.taken) (λ more. rest_taken where_ f l fuel more) (λ later j new. Passing new later × (length new.bytes ≡ length s.bytes + min (l - length s.bytes) PIECE)) Q sound
            (piece_on s own h sound c lt) (λ later j new ok q. let same = q.1 in next new (omega (arith, same, lt, enough)) later j ok q.0)
        by_test false e next = goes_return w own h s (okay Q) (c, (let le = not_less (length s.bytes) l e.1 in let short = c.within in omega (arith, short, le)))

    -- the whole drop was read and taken in
    pub record AllTaken (numbers : List ℕ) (own : List Deed) : Type 0 where
      pub drop : List ℕ
      pub whole : length drop ≡ l
      pub is_one : is_drop drop ≡ true
      pub taken : Takes drop (messages drop) numbers own

    ended_on : (l == 0) ≡ false → (s : Read) (own : List Deed) (h : Hand) → Sound w own h → Passing s own → length s.bytes ≡ l → Goes w own h (ended_taken where_ s) (okay (λ later j t. AllTaken t.numbers later))
    unfolding ended_taken
    ended_on some s own h sound c whole = by_last (last_by s.bytes) refl
      where
        Q : Outcome Taken
        Q later j t = AllTaken t.numbers later

        not_empty : s.bytes ≡ [] → ⊥
        not_empty e = absurd (let no : l ≡ 0 = sym whole ∙ ap length e in let bad : true ≡ false = sym (ap (λ k. k == 0) no) ∙ some in cc (bad))

        at_end : (last : Option (List ℕ)) → finished s.bytes ++ listed last ≡ messages s.bytes → IsAt w few path folder Known f lets telling tells begin listing text context old s.bytes (finished s.bytes) (listed last ++ [])
        at_end last fin = record {
          before = c.before;
          piece = c.piece;
          is = c.is;
          short = c.short;
          some = not_empty;
          whole = ap (λ x. finished s.bytes ++ x) (append-nil (listed last)) ∙ fin;
          front = c.front;
        }

        by_last : (r : Result (Option (List ℕ)) CommandFault) → last_by s.bytes ≡ r → Goes w own h (Return r >>= (λ last. into where_ s.taken (listed last))) (okay Q)
        by_last (Ok last) e =
            let fin = finished_all s.bytes last e in
            goes_on w own h last (λ last_. into where_ s.taken (listed last_)) (okay Q)
            (goes_more w own h (into where_ s.taken (listed last)) (okay (λ later j t. (t.highest ≤ 999999) × Known t.highest later × Takes s.bytes (finished s.bytes ++ listed last) t.numbers later)) (okay Q)
            (okay_more (λ later j t. (t.highest ≤ 999999) × Known t.highest later × Takes s.bytes (finished s.bytes ++ listed last) t.numbers later) Q
            (λ later j t z. record { drop = s.bytes; whole = whole; is_one = fin.0; taken = subst (λ ms. Takes s.bytes ms t.numbers later) fin.1 z.2 }))
            (all_go w few path folder Known f lets telling tells begin listing text context old (listed last) s.taken c.small s.bytes (finished s.bytes) [] (at_end last fin.1) own h sound c.known c.taken))
        by_last (Err e) is = goes_stop w own h e (λ last. into where_ s.taken (listed last)) Q

    pub taken_goes : (l == 0) ≡ false → (count top : ℕ) → top ≤ 999999 → (own : List Deed) (h : Hand) → Sound w own h → Known top own → Bare own → Goes w own h (drop_taken where_ f l count top) (okay (λ later j t. AllTaken t.numbers later))
    unfolding drop_taken
    taken_goes some count top small own h sound known b =
        then_soundly w own h (rest_taken where_ f l l start) (λ s. ended_taken where_ s >>= (λ t. as_counted (length t.numbers == count) t)) (λ later j new. Passing new later × (length new.bytes ≡ l)) Q sound (rest_on l start (omega arith) own h sound begun)
        (λ later j s ok q.
        goes_then w later j (ended_taken where_ s) (λ t. as_counted (length t.numbers == count) t) Q Q (ended_on some s later j ok q.0 q.1)
        (λ last i t z. by_count (length t.numbers == count) t last i z))
      where
        Q : Outcome Taken
        Q later j t = AllTaken t.numbers later

        start : Read
        start = record { bytes = []; taken = record { numbers = []; highest = top } }

        begun : Passing start own
        begun = record { taken = subst (λ ms. Takes [] ms [] own) (sym finished-none) b; small = small; known = known; found = none_found; within = omega arith; before = []; piece = []; is = refl; short = omega arith; front = omega arith }

        by_count : (v : Bool) (t : Taken) (last : List Deed) (i : Hand) → AllTaken t.numbers last → Goes w last i (as_counted v t) (okay Q)
        by_count true t last i z = goes_return w last i t (okay Q) z
        by_count false t last i z = goes_end w last i changed Q
