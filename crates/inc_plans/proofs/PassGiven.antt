-- What the second pass over a drop gives alone: all its messages are taken in.
use Rattle.std.proofs.Common.{◌≡◌, ◌≤◌, ◌<◌, ◌^◌, ◌+◌, ◌-◌, ◌++◌, ◌∷◌, ◌==◌, [], ℕ, zero, suc, Bool, true, false, List, Option, Some, None, Result, Ok, Err, length, take, drop, min, nat_lt, refl, sym, ◌∙◌, ap, subst, arith, append_assoc, append-nil}
use Rattle.std.specs.Prelude.{if◌then◌else◌}
use Rattle.std.proofs.lemmas.Bool.Decides.{nat_tests}
use Rattle.std.proofs.lemmas.List.{length-append}
use Rattle.mbox_drop.specs.Drops.{finished, is_drop, messages}
use Rattle.mbox_drop.specs.Long.{first_long}
use Rattle.mbox_drop.proofs.Cuttings.{finished-none}
use Rattle.folder_files.specs.declared.place.FilePath.{FilePath}
use Rattle.folder_files.specs.declared.place.Place.{Place}
use Rattle.file_plans.specs.Contents.{Contents}
use Rattle.file_plans.specs.Giving.{Gives}
use Rattle.file_plans.specs.Plan.{Hand, Return, bind, ◌>>=◌}
use Rattle.file_plans.specs.Views.{View, by_view}
use Rattle.file_plans.proofs.Giving.{gives_more, gives_on}
use Rattle.file_plans.proofs.Onward.{Is}
use Rattle.step_plans.specs.declared.command_fault.CommandFault.{CommandFault}
use Rattle.step_plans.specs.declared.command_fault.CommandFault.TheVariants as fault
use Rattle.inc_plans.specs.Counting.{PIECE, piece_read}
use Rattle.inc_plans.specs.Cutting.{given_by, last_by, new_in}
use Rattle.inc_plans.specs.DropTaken.{Read, Where, as_counted, drop_taken, ended_taken, into, listed, piece_taken, rest_taken, where_of}
use Rattle.inc_plans.specs.IncOutcome.{lines_from}
use Rattle.message_lines.specs.MessageText.{Writing}
use Rattle.inc_plans.specs.Taking.{Telling}
use Rattle.inc_plans.specs.declared.taken.Taken.{Taken}
use Rattle.inc_plans.proofs.DropGiven.{asked_few, comes_on, fewer_left, more_read, none_behind, piece_comes}
use Rattle.inc_plans.proofs.Finishing.{IsFound, finished_all, finished_on, finished_rest}
use Rattle.inc_plans.proofs.Fronts.{end_gives, front_found, piece_gives}
use Rattle.inc_plans.proofs.TakenGiven.{IsRoomy, TakesAll, all_give, all_outside, all_put, all_roomy, highest_on, length_up, lines_both, numbers_on, on_both, put_both, taken_on, told, told_both, first_on}
use Rattle.inc_plans.proofs.Tests.{alike}
use Rattle.mh_base.specs.Numbers.{numbers_up}

-- what follows the same beginning is the same
same_rest : (xs ys zs : List (List ℕ)) → xs ++ ys ≡ xs ++ zs → ys ≡ zs
same_rest [] ys zs e = e
same_rest (x ∷ xs) ys zs e = same_rest xs ys zs (cc (e))

module _ (run : ℕ) (few : run < 2 ^ 128) (folder : List ℕ) (p : Place) (telling : Telling) (path : FilePath) (d : List ℕ) (is_one : is_drop d ≡ true) (short : first_long (messages d) ≡ None)
    (c : Contents) (there : c.outside path ≡ Some d) (top : ℕ) (roomy : IsRoomy c p top) (room : top + length (messages d) ≤ 999999) (h : Hand) (text : List ℕ) where
  abbrev w : Where
  w = where_of run folder p telling

  abbrev silent : Bool
  silent = telling.silent

  abbrev first : ℕ
  first = top + 1

  abbrev line : Writing
  line = telling.line first

  abbrev start : Taken
  start = record { numbers = []; highest = top }

  -- these messages were taken in, and those are still to come
  record At (past later : List (List ℕ)) (z : View) (j : Hand) (left : List ℕ) (t : Taken) : Type 0 where
    pub whole : past ++ later ≡ messages d
    pub is : Is true z.numbers z (all_put c p (top + 1) past)
    pub context : j.context ≡ h.context
    pub taken : t ≡ taken_on start past
    pub rest : left ≡ told silent (lines_from line (top + 1 + length past) later) ++ text

  highest_at : (past : List (List ℕ)) → (taken_on start past).highest ≡ top + length past
  highest_at past = highest_on start past

  past_few : (past later : List (List ℕ)) → past ++ later ≡ messages d → top + length past + length later ≤ 999999
  past_few past later whole = let l = ap length (sym whole) ∙ length-append past later in omega (arith, room, l)

  -- some more of them
  abbrev Takes : List (List ℕ) → List (List ℕ) → View → Hand → List ℕ → Result Taken CommandFault → Type 0
  Takes past later y i rest (Ok t) = At past later y i rest t
  Takes past later y i rest (Err e) = e ≡ fault.Memory

  module _ (past given more : List (List ℕ)) (z : View) (j : Hand) (left : List ℕ) (t : Taken) (a : At past (given ++ more) z j left t) where
    abbrev now : Taken
    now = taken_on start past

    abbrev e : Contents
    e = all_put c p (top + 1) past

    whole_few : top + length past + length (given ++ more) ≤ 999999
    whole_few = past_few past (given ++ more) a.whole

    now_highest : now.highest ≡ top + length past
    now_highest = highest_at past

    next_number : now.highest + 1 ≡ top + 1 + length past
    next_number = let k = now_highest in omega (arith, k)

    now_roomy : IsRoomy e p now.highest
    now_roomy = subst (IsRoomy e p) (sym now_highest) (all_roomy past c p top (let f = whole_few in omega (arith, f)) roomy)

    now_room : now.highest + length given ≤ 999999
    now_room = let f = whole_few in let l = length-append given more in let k = now_highest in omega (arith, f, l, k)

    -- what is left to be said then
    abbrev rest_text : List ℕ
    rest_text = told silent (lines_from line (top + 1 + length (past ++ given)) more) ++ text

    text_now : left ≡ told silent (lines_from line (now.highest + 1) given) ++ rest_text
    text_now =
        let k : top + 1 + length past + length given ≡ top + 1 + length (past ++ given) = (let l = length-append past given in omega (arith, l)) in
        a.rest
        ∙ (ap (λ x. told silent x ++ text) (lines_both line (top + 1 + length past) given more)
        ∙ (told_both silent (lines_from line (top + 1 + length past) given) (lines_from line (top + 1 + length past + length given) more) text
        ∙ (λ i. told silent (lines_from line (sym next_number i) given) ++ (told silent (lines_from line (k i) more) ++ text))))

    on_more : (y : View) (i : Hand) (rest : List ℕ) (r : Result Taken CommandFault) → TakesAll run few folder p telling first e now given j rest_text y i rest r → Takes (past ++ given) more y i rest r
    on_more y i rest (Ok u) g = record {
      whole = append_assoc past given more ∙ a.whole;
      is = ((λ same. g.1.0 same ∙ (ap (λ n. all_put e p n given) next_number ∙ sym (put_both c p (top + 1) past given))), g.1.1);
      context = g.2 ∙ a.context;
      taken = g.0 ∙ sym (on_both start past given);
      rest = g.3;
    }
    on_more y i rest (Err x) g = g

    into_gives : Gives (by_view true) z j left (into w t given) (Takes (past ++ given) more)
    into_gives =
        subst (λ x. Gives (by_view true) z j left (into w x given) (Takes (past ++ given) more)) (sym a.taken)
        (subst (λ x. Gives (by_view true) z j x (into w now given) (Takes (past ++ given) more)) (sym text_now)
        (gives_more (by_view true) z j (told silent (lines_from line (now.highest + 1) given) ++ rest_text) (into w now given) (TakesAll run few folder p telling first e now given j rest_text) (Takes (past ++ given) more)
        (all_give run few folder p telling first given e now now_roomy now_room (first_on start past) z.numbers z a.is j rest_text) on_more))

  -- what a piece finishes comes next
  next_finished : (front piece rest : List ℕ) (later : List (List ℕ)) → d ≡ (front ++ piece) ++ rest → finished front ++ later ≡ messages d
      → (more : List (List ℕ)) × (later ≡ new_in front piece ++ more) × (finished front ++ new_in front piece ≡ finished (front ++ piece))
  next_finished front piece rest later whole all =
      (others, same_rest (finished front) later (new_in front piece ++ others) (all ∙ (sym one_whole ∙ append_assoc (finished front) (new_in front piece) others)), step_.1)
    where
      step_ : IsFound (front ++ piece) × (finished front ++ new_in front piece ≡ finished (front ++ piece))
      step_ = finished_on front piece (new_in front piece) (front_found d is_one short front (piece ++ rest) (whole ∙ append_assoc front piece rest)) (piece_gives d is_one short front piece rest whole)

      last_ : IsFound ((front ++ piece) ++ rest) × (finished (front ++ piece) ++ new_in (front ++ piece) rest ≡ finished ((front ++ piece) ++ rest))
      last_ = finished_on (front ++ piece) rest (new_in (front ++ piece) rest) step_.0 (piece_gives d is_one short (front ++ piece) rest [] (whole ∙ sym (append-nil ((front ++ piece) ++ rest))))

      others : List (List ℕ)
      others = new_in (front ++ piece) rest ++ drop (length (finished d)) (messages d)

      one_whole : (finished front ++ new_in front piece) ++ others ≡ messages d
      one_whole =
          ap (λ x. x ++ others) step_.1
          ∙ (sym (append_assoc (finished (front ++ piece)) (new_in (front ++ piece) rest) (drop (length (finished d)) (messages d)))
          ∙ (ap (λ x. x ++ drop (length (finished d)) (messages d)) (last_.1 ∙ ap finished (sym whole)) ∙ finished_rest d))

  -- so many bytes were read, and the messages taken in that these finish
  record Reads (front : List ℕ) (z : View) (j : Hand) (left : List ℕ) (t : Taken) : Type 0 where
    pub later : List (List ℕ)
    pub at : At (finished front) later z j left t

  abbrev Rests : View → Hand → List ℕ → Result Read CommandFault → Type 0
  Rests y i rest (Ok s) = (s.bytes ≡ d) × Reads d y i rest s.taken
  Rests y i rest (Err e) = e ≡ fault.Memory

  abbrev Pieces : List ℕ → View → Hand → List ℕ → Result Read CommandFault → Type 0
  Pieces front y i rest (Ok s) = (s.bytes ≡ front) × Reads front y i rest s.taken
  Pieces front y i rest (Err e) = e ≡ fault.Memory

  piece_gives_on : (front rest : List ℕ) (asked : ℕ) → d ≡ front ++ rest → asked ≡ min (length d - length front) PIECE → (z : View) (j : Hand) (left : List ℕ) (t : Taken) → Reads front z j left t
      → Gives (by_view true) z j left (piece_taken w path (length d) front t) (Pieces (front ++ take asked rest))
  unfolding piece_taken Gives bind ◌>>=◌
  piece_gives_on front rest asked whole is_ z j left t r =
      comes_on z.numbers (all_put c p (top + 1) (finished front)) j left z (piece_read path (length front) (min (length d - length front) PIECE))
      (λ bytes. Return (given_by front bytes) >>= (λ given. into w t given >>= (λ more. Return (Ok (record { bytes = front ++ bytes; taken = more })))))
      (Ok (take (min (length d - length front) PIECE) rest)) (Pieces (front ++ take asked rest))
      (piece_comes z.numbers e path j left d (ap (λ o. o path) (all_outside (finished front) c p (top + 1)) ∙ there) front rest (min (length d - length front) PIECE) whole (asked_few z.numbers e path j left d (ap (λ o. o path) (all_outside (finished front) c p (top + 1)) ∙ there) front rest whole) z r.at.is)
      (λ y bytes same is. let one : take (min (length d - length front) PIECE) rest ≡ bytes = cc (same) in then_given y bytes (ap (λ n. take n rest) is_ ∙ one) is)
      (λ y x same is. absurd (cc (same)))
    where
      e : Contents
      e = all_put c p (top + 1) (finished front)

      next_ : (more : List (List ℕ)) × (r.later ≡ new_in front (take asked rest) ++ more) × (finished front ++ new_in front (take asked rest) ≡ finished (front ++ take asked rest))
      next_ = next_finished front (take asked rest) (drop asked rest) r.later (more_read z.numbers e path j left d (ap (λ o. o path) (all_outside (finished front) c p (top + 1)) ∙ there) front rest asked whole) r.at.whole

      taken_on_ : (y : View) (i : Hand) (left_ : List ℕ) (u : Taken) → At (finished front ++ new_in front (take asked rest)) next_.0 y i left_ u → Pieces (front ++ take asked rest) y i left_ (Ok (record { bytes = front ++ take asked rest; taken = u }))
      taken_on_ y i left_ u a = (refl, record { later = next_.0; at = subst (λ x. At x next_.0 y i left_ u) next_.2 a })

      by_given : (y : View) → Is true z.numbers y e → (value : Result (List (List ℕ)) CommandFault) → value ≡ Ok (new_in front (take asked rest))
          → Gives (by_view true) y j left (Return value >>= (λ given. into w t given >>= (λ more. Return (Ok (record { bytes = front ++ take asked rest; taken = more }))))) (Pieces (front ++ take asked rest))
      by_given y is (Err x) same = cc (same)
      by_given y is (Ok given) same =
          let one : given ≡ new_in front (take asked rest) = cc (same) in
          subst (λ g. Gives (by_view true) y j left (into w t g >>= (λ more. Return (Ok (record { bytes = front ++ take asked rest; taken = more })))) (Pieces (front ++ take asked rest))) (sym one)
          (gives_on (by_view true) y j left (into w t (new_in front (take asked rest))) (λ more. Return (Ok (record { bytes = front ++ take asked rest; taken = more }))) (Takes (finished front ++ new_in front (take asked rest)) next_.0) (Pieces (front ++ take asked rest))
          (into_gives (finished front) (new_in front (take asked rest)) next_.0 y j left t (record { whole = ap (λ x. finished front ++ x) (sym next_.1) ∙ r.at.whole; is = (is.0, refl); context = r.at.context; taken = r.at.taken; rest = r.at.rest ∙ ap (λ x. told silent (lines_from line (top + 1 + length (finished front)) x) ++ text) next_.1 }))
          (λ x i left_ u a. taken_on_ x i left_ u a)
          (λ x i left_ k f. f))

      then_given : (y : View) (bytes : List ℕ) → take asked rest ≡ bytes → Is true z.numbers y e
          → Gives (by_view true) y j left (Return (given_by front bytes) >>= (λ given. into w t given >>= (λ more. Return (Ok (record { bytes = front ++ bytes; taken = more }))))) (Pieces (front ++ take asked rest))
      then_given y bytes one is =
          subst (λ b. Gives (by_view true) y j left (Return (given_by front b) >>= (λ given. into w t given >>= (λ more. Return (Ok (record { bytes = front ++ b; taken = more }))))) (Pieces (front ++ take asked rest))) one
          (by_given y is (given_by front (take asked rest)) (piece_gives d is_one short front (take asked rest) (drop asked rest) (more_read z.numbers e path j left d (ap (λ o. o path) (all_outside (finished front) c p (top + 1)) ∙ there) front rest asked whole)))

  rest_gives : (fuel : ℕ) (front rest : List ℕ) → d ≡ front ++ rest → length d ≤ length front + fuel → (z : View) (j : Hand) (left : List ℕ) (s : Read) → s.bytes ≡ front → Reads front z j left s.taken
      → Gives (by_view true) z j left (rest_taken w path (length d) fuel s) Rests
  unfolding Gives rest_taken
  rest_gives zero front rest whole le z j left s same r =
      let all : front ≡ d = none_behind z.numbers c path j left d there front rest whole (omega (arith, le)) in
      (same ∙ all, subst (λ f. Reads f z j left s.taken) all r)
  rest_gives (suc fuel) front rest whole le z j left s same r =
      subst (λ b. Gives (by_view true) z j left (if nat_lt (length b) (length d) then piece_taken w path (length d) b s.taken >>= (λ more. rest_taken w path (length d) fuel more) else Return (Ok s)) Rests) (sym same)
      (go (nat_lt (length front) (length d)) refl
      (λ lt y i left_ u is_ reads. rest_gives fuel (front ++ take (min (length d - length front) PIECE) rest) (drop (min (length d - length front) PIECE) rest)
      (more_read z.numbers c path j left d there front rest (min (length d - length front) PIECE) whole) (fewer_left z.numbers c path j left d there front rest fuel whole lt le) y i left_ u is_ reads))
    where
      go : (b : Bool) → nat_lt (length front) (length d) ≡ b
          → (length front < length d → (y : View) (i : Hand) (left_ : List ℕ) (u : Read) → u.bytes ≡ front ++ take (min (length d - length front) PIECE) rest → Reads (front ++ take (min (length d - length front) PIECE) rest) y i left_ u.taken
          → Gives (by_view true) y i left_ (rest_taken w path (length d) fuel u) Rests)
          → Gives (by_view true) z j left (if b then piece_taken w path (length d) front s.taken >>= (λ more. rest_taken w path (length d) fuel more) else Return (Ok s)) Rests
      go true e more =
          gives_on (by_view true) z j left (piece_taken w path (length d) front s.taken) (λ more. rest_taken w path (length d) fuel more) (Pieces (front ++ take (min (length d - length front) PIECE) rest)) Rests
          (piece_gives_on front rest (min (length d - length front) PIECE) whole refl z j left s.taken r)
          (λ y i left_ u g. more (grind (arith, nat_tests, e)) y i left_ u g.0 g.1)
          (λ y i left_ x f. f)
      go false e more =
          let all : front ≡ d = none_behind z.numbers c path j left d there front rest whole (grind (arith, nat_tests, e)) in
          (same ∙ all, subst (λ f. Reads f z j left s.taken) all r)

  -- all of them
  pub record IsTakenIn (z : View) (j : Hand) (left : List ℕ) (t : Taken) : Type 0 where
    pub numbers : t.numbers ≡ numbers_up (top + 1) (length (messages d))
    pub is : Is true z.numbers z (all_put c p (top + 1) (messages d))
    pub context : j.context ≡ h.context
    pub rest : left ≡ text

  abbrev pub TakesDrop : View → Hand → List ℕ → Result Taken CommandFault → Type 0
  TakesDrop z j left (Ok t) = IsTakenIn z j left t
  TakesDrop z j left (Err e) = e ≡ fault.Memory

  all_taken_in : (z : View) (j : Hand) (left : List ℕ) (t : Taken) → At (messages d) [] z j left t → IsTakenIn z j left t
  unfolding lines_from
  all_taken_in z j left t a = record {
    numbers = ap (λ x. x.numbers) a.taken ∙ numbers_on start (messages d);
    is = a.is;
    context = a.context;
    rest = a.rest ∙ nothing silent;
  }
    where
      nothing : (b : Bool) → told b [] ++ text ≡ text
      nothing true = refl
      nothing false = refl

  counted : (z : View) (j : Hand) (left : List ℕ) (t : Taken) → IsTakenIn z j left t → Gives (by_view true) z j left (as_counted (length t.numbers == length (messages d)) t) TakesDrop
  unfolding Gives
  counted z j left t a = by_test (length t.numbers == length (messages d)) (alike (length t.numbers) (length (messages d)) (ap length a.numbers ∙ length_up (top + 1) (length (messages d))))
    where
      by_test : (b : Bool) → b ≡ true → Gives (by_view true) z j left (as_counted b t) TakesDrop
      by_test true e = a
      by_test false e = cc (e)

  abbrev Lasts : View → Hand → List ℕ → Result Taken CommandFault → Type 0
  Lasts z j left (Ok t) = At (messages d) [] z j left t
  Lasts z j left (Err e) = e ≡ fault.Memory

  ended_gives : (z : View) (j : Hand) (left : List ℕ) (s : Read) → s.bytes ≡ d → Reads d z j left s.taken → Gives (by_view true) z j left (ended_taken w s) Lasts
  unfolding ended_taken Gives bind ◌>>=◌
  ended_gives z j left s same r =
      subst (λ b. Gives (by_view true) z j left (Return (last_by b) >>= (λ last. into w s.taken (listed last))) Lasts) (sym same)
      (by_last (last_by d) last_.1)
    where
      last_ : (last : Option (List ℕ)) × (last_by d ≡ Ok last)
      last_ = end_gives d is_one short

      all : (is_drop d ≡ true) × (finished d ++ listed last_.0 ≡ messages d)
      all = finished_all d last_.0 last_.1

      later_is : r.later ≡ listed last_.0 ++ []
      later_is = same_rest (finished d) r.later (listed last_.0 ++ []) (r.at.whole ∙ (sym all.1 ∙ ap (λ x. finished d ++ x) (sym (append-nil (listed last_.0)))))

      at_end : (y : View) (i : Hand) (left_ : List ℕ) (q : Result Taken CommandFault) → Takes (finished d ++ listed last_.0) [] y i left_ q → Lasts y i left_ q
      at_end y i left_ (Ok u) a = subst (λ x. At x [] y i left_ u) all.1 a
      at_end y i left_ (Err e) a = a

      by_last : (value : Result (Option (List ℕ)) CommandFault) → value ≡ Ok last_.0 → Gives (by_view true) z j left (Return value >>= (λ last. into w s.taken (listed last))) Lasts
      by_last (Err e) f = cc (f)
      by_last (Ok last) f =
          let one : last ≡ last_.0 = cc (f) in
          subst (λ x. Gives (by_view true) z j left (into w s.taken (listed x)) Lasts) (sym one)
          (gives_more (by_view true) z j left (into w s.taken (listed last_.0)) (Takes (finished d ++ listed last_.0) []) Lasts
          (into_gives (finished d) (listed last_.0) [] z j left s.taken (subst (λ x. At (finished d) x z j left s.taken) later_is r.at)) at_end)

  pub drop_gives : (ns : List ℕ) (v : View) → Is true ns v c → Gives (by_view true) v h (told silent (lines_from line (top + 1) (messages d)) ++ text) (drop_taken w path (length d) (length (messages d)) top) TakesDrop
  unfolding drop_taken all_put taken_on
  drop_gives ns v is =
      gives_on (by_view true) v h (told silent (lines_from line (top + 1) (messages d)) ++ text) (rest_taken w path (length d) (length d) (record { bytes = []; taken = start })) (λ s. ended_taken w s >>= (λ taken. as_counted (length taken.numbers == length (messages d)) taken)) Rests TakesDrop
      (rest_gives (length d) [] d refl (omega arith) v h (told silent (lines_from line (top + 1) (messages d)) ++ text) (record { bytes = []; taken = start }) refl (record { later = messages d; at = at_first }))
      (λ z j left s g.
      gives_on (by_view true) z j left (ended_taken w s) (λ taken. as_counted (length taken.numbers == length (messages d)) taken) Lasts TakesDrop (ended_gives z j left s g.0 g.1)
      (λ y i rest t a. counted y i rest t (all_taken_in y i rest t a))
      (λ y i rest e f. f))
      (λ z j left e f. f)
    where
      at_first : At (finished []) (messages d) v h (told silent (lines_from line (top + 1) (messages d)) ++ text) start
      at_first =
          let k : top + 1 ≡ top + 1 + 0 = omega arith in
          subst (λ x. At x (messages d) v h (told silent (lines_from line (top + 1) (messages d)) ++ text) start) (sym finished-none)
          (record { whole = refl; is = (is.0, refl); context = refl; taken = refl; rest = ap (λ n. told silent (lines_from line n (messages d)) ++ text) k })
