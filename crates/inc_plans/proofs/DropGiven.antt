-- What the first pass over a drop gives alone: the drop is read, and its messages are counted.
use Rattle.std.proofs.Common.{◌≡◌, ◌≤◌, ◌<◌, ◌+◌, ◌-◌, ◌++◌, ◌∷◌, ◌==◌, [], ℕ, zero, suc, Bool, true, false, List, Option, Some, None, Result, Ok, Err, length, take, drop, min, nat_lt, nat_le, refl, sym, ◌∙◌, ap, subst, arith, append_assoc, append-nil}
use Rattle.std.specs.Prelude.{if◌then◌else◌}
use Rattle.std.proofs.Math.Seq.{drop-append_seam}
use Rattle.std.proofs.lemmas.Bool.Decides.{nat_tests}
use Rattle.std.proofs.lemmas.List.{length-append, length-take, length-take-le, take-append-drop}
use Rattle.folder_files.specs.Steps.{piece_answer}
use Rattle.folder_files.specs.declared.place.FilePath.{FilePath}
use Rattle.folder_files.specs.declared.refusal.Refusal.TheVariants as refusal
use Rattle.folder_files.specs.declared.step.Step.TheVariants as step
use Rattle.file_plans.specs.Asking.{drop_piece_of, read_drop}
use Rattle.file_plans.specs.Contents.{Contents}
use Rattle.file_plans.specs.Giving.{Gives}
use Rattle.file_plans.specs.Plan.{Hand, Plan, Return, ask, bind, lifted, ◌>>=◌}
use Rattle.file_plans.specs.Views.{View, by_view, view_after}
use Rattle.file_plans.specs.declared.answers.DropPiece.{DropPiece}
use Rattle.file_plans.proofs.Giving.{gives_on}
use Rattle.file_plans.proofs.Onward.{Is, fits_at, onward}
use Rattle.step_plans.specs.CommandFaults.{of_stop}
use Rattle.step_plans.specs.declared.command_fault.CommandFault.{CommandFault}
use Rattle.step_plans.specs.declared.command_fault.CommandFault.TheVariants as fault
use Rattle.inc_plans.specs.Counting.{LONGEST, PIECE, counted_by, drop_counted, drop_read, empty_if, head_by, head_if, head_read, long_if, piece_by, piece_read, rest_read, whole_if}
use Rattle.inc_plans.specs.Inc.{room_counted}
use Rattle.inc_plans.specs.declared.size.DropSize.{DropSize}
use Rattle.inc_plans.specs.declared.drop_head.Head.{Head}
use Rattle.inc_plans.proofs.Tests.{alike}
use Rattle.command_stages.specs.Endings.{if_room}

-- the contents and the hand are as they were, and nothing was said
pub record Stays (ns : List ℕ) (c : Contents) (h : Hand) (text : List ℕ) (z : View) (j : Hand) (left : List ℕ) : Type 0 where
  pub is : Is true ns z c
  pub hand : j ≡ h
  pub rest : left ≡ text

-- and this is what comes
abbrev pub Comes : {A : Type 0} → List ℕ → Contents → Hand → List ℕ → Result A CommandFault → View → Hand → List ℕ → Result A CommandFault → Type 0
Comes ns c h text value z j left r = Stays ns c h text z j left × (r ≡ value)

-- one part that leaves all as it was, and the next by what came
pub comes_on : {A B : Type 0} (ns : List ℕ) (c : Contents) (h : Hand) (text : List ℕ) (v : View) (p : Plan (Result A CommandFault)) (k : A → Plan (Result B CommandFault)) (value : Result A CommandFault) (Q : View → Hand → List ℕ → Result B CommandFault → Type 0)
    → Gives (by_view true) v h text p (Comes ns c h text value) → ((z : View) (a : A) → value ≡ Ok a → Is true ns z c → Gives (by_view true) z h text (k a) Q) → ((z : View) (e : CommandFault) → value ≡ Err e → Is true ns z c → Q z h text (Err e))
    → Gives (by_view true) v h text (p >>= k) Q
comes_on {A = A} {B = B} ns c h text v p k value Q f good bad =
    gives_on (by_view true) v h text p k (Comes ns c h text value) Q f
    (λ z j left a g. subst (λ i. Gives (by_view true) z i left (k a) Q) (sym g.0.hand) (subst (λ t. Gives (by_view true) z h t (k a) Q) (sym g.0.rest) (good z a (sym g.1) g.0.is)))
    (λ z j left e g. subst (λ i. Q z i left (Err e)) (sym g.0.hand) (subst (λ t. Q z h t (Err e)) (sym g.0.rest) (bad z e (sym g.1) g.0.is)))

stay : (ns : List ℕ) (c : Contents) (h : Hand) (text : List ℕ) (v : View) → Is true ns v c → Stays ns c h text v h text
stay ns c h text v is = record { is = is; hand = refl; rest = refl }

-- what is read of a drop of this text: a first piece, or none
abbrev pub long_value : Bool → List ℕ → Result Head CommandFault
long_value true d = Err (fault.Refused (refusal.TooLarge (length d) LONGEST))
long_value false d = Ok (record { length = length d; bytes = take PIECE d })

abbrev pub empty_value : Bool → List ℕ → Result Head CommandFault
empty_value true d = Err (fault.Refused refusal.NoMail)
empty_value false d = long_value (nat_lt LONGEST (length d)) d

abbrev pub head_value : Option (List ℕ) → Result Head CommandFault
head_value None = Err (fault.Refused refusal.NoMail)
head_value (Some d) = empty_value (length d == 0) d

-- the whole text
abbrev pub long_read : Bool → List ℕ → Result (List ℕ) CommandFault
long_read true d = Err (fault.Refused (refusal.TooLarge (length d) LONGEST))
long_read false d = Ok d

abbrev pub empty_read : Bool → List ℕ → Result (List ℕ) CommandFault
empty_read true d = Err (fault.Refused refusal.NoMail)
empty_read false d = long_read (nat_lt LONGEST (length d)) d

abbrev pub read_of : Option (List ℕ) → Result (List ℕ) CommandFault
read_of None = Err (fault.Refused refusal.NoMail)
read_of (Some d) = empty_read (length d == 0) d

abbrev pub counted_of : Result (List ℕ) CommandFault → Result DropSize CommandFault
counted_of (Ok d) = counted_by d
counted_of (Err e) = Err e

-- and where there is room
abbrev pub room_size : Bool → List ℕ → DropSize → Result DropSize CommandFault
room_size true folder size = Ok size
room_size false folder size = Err (fault.Refused (refusal.Full folder))

abbrev pub room_of : List ℕ → ℕ → Result DropSize CommandFault → Result DropSize CommandFault
room_of folder top (Ok size) = room_size (nat_le (top + size.messages) 999999) folder size
room_of folder top (Err e) = Err e

abbrev pub room_value : List ℕ → ℕ → Option (List ℕ) → Result DropSize CommandFault
room_value folder top o = room_of folder top (counted_of (read_of o))

module _ (ns : List ℕ) (c : Contents) (path : FilePath) (h : Hand) (text : List ℕ) where
  -- what is read of the drop is what stands there
  drop_asked : {B : Type 0} (from most : ℕ) (k : DropPiece → Plan (Result B CommandFault)) (Q : View → Hand → List ℕ → Result B CommandFault → Type 0) (v : View) → Is true ns v c
      → ((z : View) → Is true ns z c → Gives (by_view true) z h text (k (drop_piece_of (piece_answer from most (c.outside path)))) Q) → Gives (by_view true) v h text (lifted of_stop (read_drop path from most) >>= k) Q
  unfolding Gives read_drop lifted bind ask ◌>>=◌
  drop_asked from most k Q v is g = λ a row live f.
      subst (λ x. Gives (by_view true) (view_after v (step.ReadDrop path from most) a) h text (k (drop_piece_of x)) Q) (sym (fits_at true ns v c (step.ReadDrop path from most) a is f refl))
      (g (view_after v (step.ReadDrop path from most) a) (onward true ns v c (step.ReadDrop path from most) a is refl))

  module _ (d : List ℕ) (there : c.outside path ≡ Some d) where
    -- a piece that the drop has
    pub piece_comes : (front rest : List ℕ) (asked : ℕ) → d ≡ front ++ rest → asked ≤ length rest → (v : View) → Is true ns v c
        → Gives (by_view true) v h text (piece_read path (length front) asked) (Comes ns c h text (Ok (take asked rest)))
    unfolding piece_read Gives
    piece_comes front rest asked whole enough v is =
        drop_asked (length front) asked (piece_by asked) (Comes ns c h text (Ok (take asked rest))) v is
        (λ z same. subst (λ o. Gives (by_view true) z h text (piece_by asked (drop_piece_of (piece_answer (length front) asked o))) (Comes ns c h text (Ok (take asked rest)))) (sym there) (piece z same))
      where
        behind : drop (length front) d ≡ rest
        behind = ap (drop (length front)) whole ∙ drop-append_seam front rest

        by_test : (z : View) → Is true ns z c → (b : Bool) → b ≡ true → Gives (by_view true) z h text (whole_if b (take asked rest)) (Comes ns c h text (Ok (take asked rest)))
        by_test z same true e = (stay ns c h text z same, refl)
        by_test z same false e = cc (e)

        piece : (z : View) → Is true ns z c → Gives (by_view true) z h text (whole_if (length (take asked (drop (length front) d)) == asked) (take asked (drop (length front) d))) (Comes ns c h text (Ok (take asked rest)))
        piece z same =
            subst (λ x. Gives (by_view true) z h text (whole_if (length (take asked x) == asked) (take asked x)) (Comes ns c h text (Ok (take asked rest)))) (sym behind)
            (by_test z same (length (take asked rest) == asked) (alike (length (take asked rest)) asked (length-take-le asked rest enough)))

    -- so many bytes at most are asked for that are there
    pub asked_few : (front rest : List ℕ) → d ≡ front ++ rest → min (length d - length front) PIECE ≤ length rest
    asked_few front rest whole = let l = ap length whole ∙ length-append front rest in omega (arith, l)

    -- what is left behind a piece
    pub more_read : (front rest : List ℕ) (asked : ℕ) → d ≡ front ++ rest → d ≡ (front ++ take asked rest) ++ drop asked rest
    more_read front rest asked whole = whole ∙ (ap (λ x. front ++ x) (sym (take-append-drop asked rest)) ∙ sym (append_assoc front (take asked rest) (drop asked rest)))

    pub none_behind : (front rest : List ℕ) → d ≡ front ++ rest → length d ≤ length front → front ≡ d
    none_behind front [] whole le = sym (whole ∙ append-nil front)
    none_behind front (b ∷ rest) whole le = absurd (let l = ap length whole ∙ length-append front (b ∷ rest) in omega (arith, l, le))

    pub fewer_left : (front rest : List ℕ) (fuel : ℕ) → d ≡ front ++ rest → length front < length d → length d ≤ length front + suc fuel → length d ≤ length (front ++ take (min (length d - length front) PIECE) rest) + fuel
    fewer_left front rest fuel whole lt le =
        let asked = min (length d - length front) PIECE in
        let l = length-append front (take asked rest) in
        let t = length-take-le asked rest (asked_few front rest whole) in
        omega (arith, l, t, lt, le)

    rest_comes : (fuel : ℕ) (front rest : List ℕ) → d ≡ front ++ rest → length d ≤ length front + fuel → (v : View) → Is true ns v c → Gives (by_view true) v h text (rest_read path (length d) fuel front) (Comes ns c h text (Ok d))
    unfolding Gives rest_read
    rest_comes zero front rest whole le v is = (stay ns c h text v is, ap Ok (none_behind front rest whole (omega (arith, le))))
    rest_comes (suc fuel) front rest whole le v is =
        go (nat_lt (length front) (length d)) refl
        (λ lt z same. rest_comes fuel (front ++ take (min (length d - length front) PIECE) rest) (drop (min (length d - length front) PIECE) rest) (more_read front rest (min (length d - length front) PIECE) whole) (fewer_left front rest fuel whole lt le) z same)
      where
        go : (b : Bool) → nat_lt (length front) (length d) ≡ b
            → (length front < length d → (z : View) → Is true ns z c → Gives (by_view true) z h text (rest_read path (length d) fuel (front ++ take (min (length d - length front) PIECE) rest)) (Comes ns c h text (Ok d)))
            → Gives (by_view true) v h text (if b then piece_read path (length front) (min (length d - length front) PIECE) >>= (λ bytes. rest_read path (length d) fuel (front ++ bytes)) else Return (Ok front)) (Comes ns c h text (Ok d))
        go true e more =
            comes_on ns c h text v (piece_read path (length front) (min (length d - length front) PIECE)) (λ bytes. rest_read path (length d) fuel (front ++ bytes)) (Ok (take (min (length d - length front) PIECE) rest)) (Comes ns c h text (Ok d))
            (piece_comes front rest (min (length d - length front) PIECE) whole (asked_few front rest whole) v is)
            (λ z bytes same at. let one : take (min (length d - length front) PIECE) rest ≡ bytes = cc (same) in subst (λ x. Gives (by_view true) z h text (rest_read path (length d) fuel (front ++ x)) (Comes ns c h text (Ok d))) one (more (grind (arith, nat_tests, e)) z at))
            (λ z f same at. absurd (cc (same)))
        go false e more = (stay ns c h text v is, ap Ok (none_behind front rest whole (grind (arith, nat_tests, e))))

  head_comes : (v : View) → Is true ns v c → Gives (by_view true) v h text (head_read path) (Comes ns c h text (head_value (c.outside path)))
  unfolding head_read Gives
  head_comes v is = drop_asked 0 PIECE head_by (Comes ns c h text (head_value (c.outside path))) v is (λ z same. by_text z same (c.outside path))
    where
      if_whole : (z : View) → Is true ns z c → (d : List ℕ) (b : Bool) → b ≡ true → Gives (by_view true) z h text (head_if b (length d) (take PIECE d)) (Comes ns c h text (Ok (record { length = length d; bytes = take PIECE d })))
      if_whole z same d true e = (stay ns c h text z same, refl)
      if_whole z same d false e = cc (e)

      if_long : (z : View) → Is true ns z c → (d : List ℕ) (b : Bool) → Gives (by_view true) z h text (long_if b (length d) (take PIECE d)) (Comes ns c h text (long_value b d))
      if_long z same d true = (stay ns c h text z same, refl)
      if_long z same d false = if_whole z same d (length (take PIECE d) == min (length d) PIECE) (alike (length (take PIECE d)) (min (length d) PIECE) (let l = length-take PIECE d in omega (arith, l)))

      if_empty : (z : View) → Is true ns z c → (d : List ℕ) (b : Bool) → Gives (by_view true) z h text (empty_if b (length d) (take PIECE d)) (Comes ns c h text (empty_value b d))
      if_empty z same d true = (stay ns c h text z same, refl)
      if_empty z same d false = if_long z same d (nat_lt LONGEST (length d))

      by_text : (z : View) → Is true ns z c → (o : Option (List ℕ)) → Gives (by_view true) z h text (head_by (drop_piece_of (piece_answer 0 PIECE o))) (Comes ns c h text (head_value o))
      by_text z same None = (stay ns c h text z same, refl)
      by_text z same (Some d) = if_empty z same d (length d == 0)

  read_comes : (v : View) → Is true ns v c → Gives (by_view true) v h text (drop_read path) (Comes ns c h text (read_of (c.outside path)))
  unfolding drop_read
  read_comes v is =
      comes_on ns c h text v (head_read path) (λ head. rest_read path head.length head.length head.bytes) (head_value (c.outside path)) (Comes ns c h text (read_of (c.outside path))) (head_comes v is)
      (λ z head same at. by_text z head at (c.outside path) refl same)
      (λ z e same at. refused z e at (c.outside path) same)
    where
      long_on : (z : View) (head : Head) → Is true ns z c → (d : List ℕ) → c.outside path ≡ Some d → (b : Bool) → long_value b d ≡ Ok head → Gives (by_view true) z h text (rest_read path head.length head.length head.bytes) (Comes ns c h text (long_read b d))
      long_on z head at d there true same = absurd (cc (same))
      long_on z head at d there false same =
          let is_ : record { length = length d; bytes = take PIECE d } ≡ head = cc (same) in
          subst (λ x. Gives (by_view true) z h text (rest_read path x.length x.length x.bytes) (Comes ns c h text (Ok d))) is_
          (rest_comes d there (length d) (take PIECE d) (drop PIECE d) (sym (take-append-drop PIECE d)) (omega arith) z at)

      empty_on : (z : View) (head : Head) → Is true ns z c → (d : List ℕ) → c.outside path ≡ Some d → (b : Bool) → empty_value b d ≡ Ok head → Gives (by_view true) z h text (rest_read path head.length head.length head.bytes) (Comes ns c h text (empty_read b d))
      empty_on z head at d there true same = absurd (cc (same))
      empty_on z head at d there false same = long_on z head at d there (nat_lt LONGEST (length d)) same

      by_text : (z : View) (head : Head) → Is true ns z c → (o : Option (List ℕ)) → c.outside path ≡ o → head_value o ≡ Ok head → Gives (by_view true) z h text (rest_read path head.length head.length head.bytes) (Comes ns c h text (read_of o))
      by_text z head at None there same = absurd (cc (same))
      by_text z head at (Some d) there same = empty_on z head at d there (length d == 0) same

      long_off : (e : CommandFault) (d : List ℕ) (b : Bool) → long_value b d ≡ Err e → Err e ≡ long_read b d
      long_off e d true same = cc (same)
      long_off e d false same = absurd (cc (same))

      empty_off : (e : CommandFault) (d : List ℕ) (b : Bool) → empty_value b d ≡ Err e → Err e ≡ empty_read b d
      empty_off e d true same = cc (same)
      empty_off e d false same = long_off e d (nat_lt LONGEST (length d)) same

      off : (e : CommandFault) (o : Option (List ℕ)) → head_value o ≡ Err e → Err e ≡ read_of o
      off e None same = cc (same)
      off e (Some d) same = empty_off e d (length d == 0) same

      refused : (z : View) (e : CommandFault) → Is true ns z c → (o : Option (List ℕ)) → head_value o ≡ Err e → Comes ns c h text (read_of o) z h text (Err e)
      refused z e at o same = (stay ns c h text z at, off e o same)

  counted_comes : (v : View) → Is true ns v c → Gives (by_view true) v h text (drop_counted path) (Comes ns c h text (counted_of (read_of (c.outside path))))
  unfolding Gives drop_counted
  counted_comes v is =
      comes_on ns c h text v (drop_read path) (λ d. Return (counted_by d)) (read_of (c.outside path)) (Comes ns c h text (counted_of (read_of (c.outside path)))) (read_comes v is)
      (λ z d same at. (stay ns c h text z at, ap counted_of (sym same)))
      (λ z e same at. (stay ns c h text z at, ap counted_of (sym same)))

  pub room_comes : (folder : List ℕ) (top : ℕ) (v : View) → Is true ns v c → Gives (by_view true) v h text (room_counted folder path top) (Comes ns c h text (room_value folder top (c.outside path)))
  unfolding room_counted Gives bind ◌>>=◌
  room_comes folder top v is =
      comes_on ns c h text v (drop_counted path) (λ size. if_room (nat_le (top + size.messages) 999999) folder >>= (λ room. Return (Ok size))) (counted_of (read_of (c.outside path))) (Comes ns c h text (room_value folder top (c.outside path))) (counted_comes v is)
      (λ z size same at. subst (λ x. Gives (by_view true) z h text (if_room (nat_le (top + size.messages) 999999) folder >>= (λ room. Return (Ok size))) (Comes ns c h text (room_of folder top x))) (sym same) (room z size at (nat_le (top + size.messages) 999999)))
      (λ z e same at. (stay ns c h text z at, ap (room_of folder top) (sym same)))
    where
      room : (z : View) (size : DropSize) → Is true ns z c → (b : Bool) → Gives (by_view true) z h text (if_room b folder >>= (λ room. Return (Ok size))) (Comes ns c h text (room_size b folder size))
      room z size at true = (stay ns c h text z at, refl)
      room z size at false = (stay ns c h text z at, refl)
