-- What a cutter gives is what the definition says.
use Rattle.std.proofs.Common.{◌≡◌, ℕ, ◌≤◌, true, false, List, [], ◌∷◌, ◌++◌, length, take, drop, Option, Some, None, Result, Ok, Err, refl, sym, ap, ◌∙◌, subst, append_assoc}
use Rattle.std.specs.Option.{option_or}
use Rattle.std.proofs.lemmas.Bool.{false≢true}
use Rattle.std.proofs.lemmas.List.{append-nil, length-take-le}
use Rattle.mbox_drop.specs.Drops.{lines, sections, parts, messages, is_drop, BeginsDrop, finished, open_bytes}
use Rattle.mbox_drop.specs.Places.{ended, is_lost, stage_of}
use Rattle.mbox_drop.specs.Readings.{Reading, at, read, unread, reading}
use Rattle.mbox_drop.specs.Finding.{found, skipped}
use Rattle.mbox_drop.specs.Long.{first_long, long_of, overlong_of, excess}
use Rattle.mbox_drop.specs.Parting.{opened_reading}
use Rattle.mbox_drop.specs.Last.{AnswersLast}
use Rattle.mbox_drop.specs.declared.place.Stage.TheVariants.{Begun}
use Rattle.mbox_drop.specs.Giving.{IsKept, Holds, ReadsParts, GivesParts}
use Rattle.mbox_drop.specs.Cutting.{HasTaken, Feeds, IsLast, Ends}
use Rattle.mbox_drop.proofs.Sectioning.{text_of}
use Rattle.mbox_drop.proofs.KnownBytes.{read-append, is_begun, read_begun, Knows, IsBegun, knows, is_begun_at}
use Rattle.mbox_drop.proofs.Partings.{Passed, passed, ready_at, sought, after_found}
use Rattle.mbox_drop.proofs.Slicing.{after, read-after, ended-take}
use Rattle.mbox_drop.specs.declared.cutter.DropCutter.{DropCutter}
use Rattle.mbox_drop.specs.declared.fault.CutFault.{CutFault}
use Rattle.mbox_drop.specs.declared.fault.CutFault.TheVariants.{NotADrop, TooLong, Memory}
use Rattle.mbox_drop.specs.declared.place.Match.{Match}
use Rattle.mbox_drop.specs.declared.place.Match.TheVariants.{Nothing, F, Fr, Fro, From}
use Rattle.mbox_drop.specs.declared.place.DropState.{DropState}
use Rattle.mbox_drop.specs.declared.place.DropState.TheVariants.{First, Lost, Separator, Start, Return, Middle, Blank}
use Rattle.mbox_drop.specs.declared.find.Found.{Found}
use Rattle.mbox_drop.specs.declared.find.Found.TheVariants.{End}
use Rattle.mbox_drop.specs.declared.find.Skipped.{Skipped}

-- what the definition says of bytes that begin a drop
pub record IsSound (d : List ℕ) (s : Reading) : Type 0 where
  pub begins : BeginsDrop d
  pub done_is : finished d ≡ s.done
  pub hand_is : open_bytes d ≡ s.hand

sound_begun : (d : List ℕ) (s : Reading) → IsBegun d s → IsSound d s
sound_begun d s k = record { begins = ([], ap (λ x. is_drop x) (append-nil d) ∙ k.drop); done_is = k.done_is; hand_is = k.open_is }

sound_start : (m : Match) → IsSound (text_of m) (at [] [] [] (First m))
unfolding finished open_bytes messages parts sections lines is_drop
sound_start Nothing = record { begins = ([], refl); done_is = refl; hand_is = refl }
sound_start F = record { begins = (114 ∷ 111 ∷ 109 ∷ 32 ∷ [], refl); done_is = refl; hand_is = refl }
sound_start Fr = record { begins = (111 ∷ 109 ∷ 32 ∷ [], refl); done_is = refl; hand_is = refl }
sound_start Fro = record { begins = (109 ∷ 32 ∷ [], refl); done_is = refl; hand_is = refl }
sound_start From = record { begins = (32 ∷ [], refl); done_is = refl; hand_is = refl }

sound_at : (place : DropState) (d : List ℕ) (s : Reading) → Knows place d s → is_lost place ≡ false → IsSound d s
sound_at (First m) d s k h = subst (λ x. IsSound x s) (sym k.text_is) (subst (λ y. IsSound (text_of m) y) (sym k.reading_is) (sound_start m))
sound_at Lost d s k h = cc
sound_at Separator d s k h = sound_begun d s k
sound_at Start d s k h = sound_begun d s k
sound_at Return d s k h = sound_begun d s k
sound_at Middle d s k h = sound_begun d s k
sound_at (Blank m) d s k h = sound_begun d s k

pub sound : (d : List ℕ) → is_lost (reading d).place ≡ false → IsSound d (reading d)
sound d h = sound_at (reading d).place d (reading d) (knows d) h

lost_at : (place : DropState) (d : List ℕ) (s : Reading) → Knows place d s → is_lost place ≡ true → BeginsDrop d → ⊥
lost_at (First m) d s k h b = absurd (false≢true h)
lost_at Lost d s k h b = false≢true (sym (k.no_drop b.0) ∙ b.1)
lost_at Separator d s k h b = absurd (false≢true h)
lost_at Start d s k h b = absurd (false≢true h)
lost_at Return d s k h b = absurd (false≢true h)
lost_at Middle d s k h b = absurd (false≢true h)
lost_at (Blank m) d s k h b = absurd (false≢true h)

pub finished-none : finished [] ≡ []
unfolding finished messages parts sections lines
finished-none = refl

pub lost : (d : List ℕ) → is_lost (reading d).place ≡ true → BeginsDrop d → ⊥
lost d h = lost_at (reading d).place d (reading d) (knows d) h

pub open_is : (d : List ℕ) → is_lost (reading d).place ≡ false → open_bytes d ≡ (reading d).hand
open_is d h = (sound d h).hand_is

begun_sound : (place : DropState) → is_begun place ≡ true → is_lost place ≡ false
begun_sound (First m) h = refl
begun_sound Lost h = absurd (false≢true h)
begun_sound Separator h = refl
begun_sound Start h = refl
begun_sound Return h = refl
begun_sound Middle h = refl
begun_sound (Blank m) h = refl

-- the reading of one more piece, from what a cutter keeps
pub fed : (c : DropCutter) (d piece rest : List ℕ) (start : Skipped) (f : Found) → HasTaken c d → c.body ≤ length c.hand.items →
    start ≡ skipped c.place 0 piece → rest ≡ drop start.next piece → f ≡ found (length c.hand.items) (End start.place c.body) 0 rest →
    reading (d ++ piece) ≡ after_found (reading d).done (c.hand.items ++ rest) rest f
fed c d piece rest start f h inside es er ef =
    let done : List (List ℕ) = (reading d).done in
    let held : List ℕ = c.hand.items in
    let body : List ℕ = take c.body held in
    let w : Passed done held body c.place [] piece start = subst (λ x. Passed done held body c.place [] piece x) (sym es) (passed piece [] done held body c.place) in
    let same : reading d ≡ at done held body c.place =
    ap (λ x. at done x (reading d).body (reading d).place) (sym h.hand) ∙ ap (λ x. at done held x (reading d).place) (sym h.body) ∙ ap (λ x. at done held body x) (sym h.place) in
    read-append unread d piece ∙ ap (λ s. read s piece) same ∙ w.reads ∙ ap (λ x. read (at done held body start.place) x) (sym er)
    ∙ sought done held rest c.body start.place (ready_at start piece rest er w.ready) inside
    ∙ ap (λ x. after_found done (held ++ rest) rest x) (sym ef)

module _ (c : DropCutter) (d piece rest : List ℕ) (h : HasTaken c d) where
  done_before : finished d ≡ (reading d).done
  done_before = (sound d h.begins).done_is

  feeds_kept : (new : DropCutter) → IsKept c new → HasTaken new d
  feeds_kept new w = record {
    going = w.stop ∙ h.going;
    place = w.place ∙ h.place;
    hand = w.hand ∙ h.hand;
    body = ap (λ n. take n new.hand.items) w.body ∙ ap (λ x. take c.body x) w.hand ∙ h.body;
    begins = h.begins;
  }

  -- a piece that finishes no message
  pub feeds_hold : (new : DropCutter) (place : DropState) (body : ℕ) (result : Result (List (List ℕ)) CutFault) →
      reading (d ++ piece) ≡ at (reading d).done (c.hand.items ++ rest) (take body (c.hand.items ++ rest)) place →
      Holds c place body rest new result → Feeds d piece new result
  feeds_hold new place body (Ok given) e w =
      let going : is_lost (reading (d ++ piece)).place ≡ false = ap (λ s. is_lost s.place) e ∙ w.1 in
      let k : IsSound (d ++ piece) (reading (d ++ piece)) = sound (d ++ piece) going in
      record {
        taken = record {
          going = w.3.stop ∙ h.going;
          place = w.3.place_is ∙ sym (ap (λ s. s.place) e);
          hand = w.3.hand_is ∙ sym (ap (λ s. s.hand) e);
          body = ap (λ n. take n new.hand.items) w.3.body_is ∙ ap (λ x. take body x) w.3.hand_is ∙ sym (ap (λ s. s.body) e);
          begins = going;
        };
        begins = k.begins;
        given_are = k.done_is ∙ ap (λ s. s.done) e ∙ sym done_before ∙ sym (append-nil (finished d)) ∙ ap (λ x. finished d ++ x) (sym w.0);
        short = ap (λ x. excess x (length (open_bytes (d ++ piece)))) w.0 ∙ ap (λ x. overlong_of (length x)) (k.hand_is ∙ ap (λ s. s.hand) e) ∙ w.2;
      }
  feeds_hold new place body (Err NotADrop) e w = (lost (d ++ piece) (ap (λ s. is_lost s.place) e ∙ w.0), w.1)
  feeds_hold new place body (Err (TooLong n)) e w =
      let k : IsSound (d ++ piece) (reading (d ++ piece)) = sound (d ++ piece) (ap (λ s. is_lost s.place) e ∙ w.0) in
      record {
        stopped = w.2;
        begins = k.begins;
        given = [];
        given_are = k.done_is ∙ ap (λ s. s.done) e ∙ sym done_before ∙ sym (append-nil (finished d));
        long = ap (λ x. overlong_of (length x)) (k.hand_is ∙ ap (λ s. s.hand) e) ∙ w.1;
      }
  feeds_hold new place body (Err Memory) e w = feeds_kept new w

  -- a piece that finishes messages, where its first separator follows these bytes
  parts_reading : (body next : ℕ) (given : List (List ℕ)) (text : List ℕ) (place : DropState) (last : ℕ) (long : Option ℕ) →
      reading (d ++ piece) ≡ read (at ((reading d).done ++ take body (c.hand.items ++ rest) ∷ []) [] [] Separator) (drop next rest) →
      ReadsParts body (drop next rest) given text place last long →
      reading (d ++ piece) ≡ at ((reading d).done ++ take body (c.hand.items ++ rest) ∷ given) text (take last text) place
  parts_reading body next given text place last long e w =
      let first : List ℕ = take body (c.hand.items ++ rest) in
      let done : List (List ℕ) = (reading d).done ++ first ∷ [] in
      e ∙ ap (λ x. read (at x [] [] Separator) (drop next rest)) (sym (append-nil done)) ∙ read-after (drop next rest) done opened_reading
      ∙ ap (λ s. after done s) w.reads ∙ ap (λ x. at x text (take last text) place) (append_assoc (reading d).done (first ∷ []) given)

  parts_begun : (body next : ℕ) →
      reading (d ++ piece) ≡ read (at ((reading d).done ++ take body (c.hand.items ++ rest) ∷ []) [] [] Separator) (drop next rest) →
      is_lost (reading (d ++ piece)).place ≡ false
  parts_begun body next e =
      ap (λ s. is_lost s.place) e ∙ begun_sound (read (at ((reading d).done ++ take body (c.hand.items ++ rest) ∷ []) [] [] Separator) (drop next rest)).place
      (read_begun (drop next rest) (at ((reading d).done ++ take body (c.hand.items ++ rest) ∷ []) [] [] Separator) refl)

  parts_excess : (body : ℕ) (given : List (List ℕ)) (text : List ℕ) (long : Option ℕ) → body ≤ length (c.hand.items ++ rest) →
      option_or (option_or (long_of body) (first_long given)) (overlong_of (length text)) ≡ long →
      open_bytes (d ++ piece) ≡ text → excess (take body (c.hand.items ++ rest) ∷ given) (length (open_bytes (d ++ piece))) ≡ long
  parts_excess body given text long inside e opens =
      ap (λ x. excess (take body (c.hand.items ++ rest) ∷ given) (length x)) opens
      ∙ ap (λ n. option_or (option_or (long_of n) (first_long given)) (overlong_of (length text))) (length-take-le body (c.hand.items ++ rest) inside)
      ∙ e

  pub feeds_parts : (new : DropCutter) (body next : ℕ) (result : Result (List (List ℕ)) CutFault) → body ≤ length (c.hand.items ++ rest) →
      reading (d ++ piece) ≡ read (at ((reading d).done ++ take body (c.hand.items ++ rest) ∷ []) [] [] Separator) (drop next rest) →
      GivesParts c body rest next new result → Feeds d piece new result
  feeds_parts new body next (Ok given) inside e w =
      let going : is_lost (reading (d ++ piece)).place ≡ false = parts_begun body next e in
      let k : IsSound (d ++ piece) (reading (d ++ piece)) = sound (d ++ piece) going in
      let at_end : reading (d ++ piece) ≡ at ((reading d).done ++ take body (c.hand.items ++ rest) ∷ w.later) new.hand.items (take new.body new.hand.items) new.place =
      parts_reading body next w.later new.hand.items new.place new.body None e w.reads in
      record {
        taken = record {
          going = w.stop ∙ h.going;
          place = sym (ap (λ s. s.place) at_end);
          hand = sym (ap (λ s. s.hand) at_end);
          body = sym (ap (λ s. s.body) at_end);
          begins = going;
        };
        begins = k.begins;
        given_are = k.done_is ∙ ap (λ s. s.done) at_end ∙ ap (λ x. x ++ take body (c.hand.items ++ rest) ∷ w.later) (sym done_before)
            ∙ ap (λ x. finished d ++ x) (sym w.given_are);
        short = ap (λ x. excess x (length (open_bytes (d ++ piece)))) w.given_are
            ∙ parts_excess body w.later new.hand.items None inside w.reads.long_is (k.hand_is ∙ ap (λ s. s.hand) at_end);
      }
  feeds_parts new body next (Err NotADrop) inside e w = absurd w
  feeds_parts new body next (Err (TooLong n)) inside e w =
      let going : is_lost (reading (d ++ piece)).place ≡ false = parts_begun body next e in
      let k : IsSound (d ++ piece) (reading (d ++ piece)) = sound (d ++ piece) going in
      let at_end : reading (d ++ piece) ≡ at ((reading d).done ++ take body (c.hand.items ++ rest) ∷ w.later) w.text (take w.last w.text) w.place =
      parts_reading body next w.later w.text w.place w.last (Some n) e w.reads in
      record {
        stopped = w.stopped;
        begins = k.begins;
        given = take body (c.hand.items ++ rest) ∷ w.later;
        given_are = k.done_is ∙ ap (λ s. s.done) at_end ∙ ap (λ x. x ++ take body (c.hand.items ++ rest) ∷ w.later) (sym done_before);
        long = parts_excess body w.later w.text (Some n) inside w.reads.long_is (k.hand_is ∙ ap (λ s. s.hand) at_end);
      }
  feeds_parts new body next (Err Memory) inside e w = feeds_kept new w

-- at the end of the bytes
module _ (c : DropCutter) (d : List ℕ) (h : HasTaken c d) where
  last_is : (n : ℕ) → Begun ≡ stage_of c.place → n ≡ ended c.place c.body (length c.hand.items) → IsLast d (take n c.hand.items)
  last_is n b e =
      let k : IsBegun d (reading d) = is_begun_at d c.place h.place b in
      let same : ended (reading d).place (reading d).body (reading d).hand ≡ take n c.hand.items =
      ap (λ x. ended (reading d).place (reading d).body x) (sym h.hand) ∙ ap (λ x. ended (reading d).place x c.hand.items) (sym h.body)
      ∙ ap (λ p. ended p (take c.body c.hand.items) c.hand.items) (sym h.place) ∙ ended-take c.place c.body c.hand.items ∙ ap (λ x. take x c.hand.items) (sym e) in
      record { drop = k.drop; last = k.whole_is ∙ ap (λ x. x ++ ended (reading d).place (reading d).body (reading d).hand ∷ []) (sym k.done_is) ∙ ap (λ x. finished d ++ x ∷ []) same }

  pub ends_last : (n : ℕ) (result : Result (Option (List ℕ)) CutFault) → Begun ≡ stage_of c.place → n ≡ ended c.place c.body (length c.hand.items) →
      AnswersLast (take n c.hand.items) result → Ends d result
  ends_last n (Ok None) b e w = absurd w
  ends_last n (Ok (Some message)) b e w =
      (subst (λ x. IsLast d x) (sym w.0) (last_is n b e), ap (λ x. long_of (length x)) w.0 ∙ w.1)
  ends_last n (Err NotADrop) b e w = absurd w
  ends_last n (Err (TooLong m)) b e w = (take n c.hand.items, last_is n b e, w)
  ends_last n (Err Memory) b e w = absurd w
