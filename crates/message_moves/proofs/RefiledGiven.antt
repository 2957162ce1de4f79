-- What one message that is refiled makes of contents alone: it stands in each destination, and nothing at its number or under its held name.
use Rattle.std.proofs.Common.{◌≡◌, ◌⊎◌, inl, inr, ◌<◌, ◌^◌, ◌++◌, ◌∷◌, [], ℕ, Bool, true, false, List, Option, Some, None, Result, Ok, Err, refl, sym, ◌∙◌, ap, subst, append_assoc, append-nil, nat_lt, length, map}
use Rattle.std.specs.Prelude.{decimal, is_some, if◌then◌else◌}
use Rattle.mh_base.specs.Entries.{entry_text, kind_of}
use Rattle.mh_base.specs.Numbers.{IsMsgNum}
use Rattle.mh_base.specs.declared.entry.Entry.TheVariants.{Held, Number}
use Rattle.folder_files.specs.Named.{is_temp}
use Rattle.folder_files.specs.Places.{same_place}
use Rattle.folder_files.specs.declared.place.Place.{Place}
use Rattle.folder_files.proofs.Sameness.{place_same}
use Rattle.file_plans.specs.Contents.{Contents, with_text}
use Rattle.file_plans.specs.Giving.{Gives}
use Rattle.file_plans.specs.Plan.{Hand, Return, after, converted, lifted, ◌>>=◌}
use Rattle.file_plans.specs.Views.{View, by_view}
use Rattle.file_plans.proofs.Giving.{gives_more, gives_on, gives_then}
use Rattle.file_plans.proofs.Onward.{Is}
use Rattle.step_plans.specs.ContextCommit.{LIMIT_BYTES}
use Rattle.step_plans.specs.Hands.{temp_name, used}
use Rattle.step_plans.specs.declared.command_fault.CommandFault.{CommandFault}
use Rattle.step_plans.specs.declared.command_fault.CommandFault.TheVariants as command
use Rattle.step_plans.specs.declared.fault.PlanFault.{PlanFault}
use Rattle.step_plans.specs.declared.fault.PlanFault.TheVariants as fault
use Rattle.step_plans.proofs.Named.{temp_is}
use Rattle.step_plans.proofs.Replaced.{Leaves, Left}
use Rattle.message_puts.specs.Putting.{message_stored}
use Rattle.message_puts.proofs.StoredGiven.{Stores, stored_gives}
use Rattle.command_stages.specs.Endings.{of_plan}
use Rattle.command_stages.specs.Texts.{Commanded, too_large}
use Rattle.message_moves.specs.Copying.{copied_to, copied_to_all, highest_of}
use Rattle.message_moves.specs.Moving.{content_read, held_discarded, number_taken}
use Rattle.message_moves.specs.RefiledAlone.{copied_in, next_of, raised, refiled_in}
use Rattle.message_moves.specs.Refiling.{message_refiled}
use Rattle.message_moves.specs.declared.destination.Destination.{Destination}
use Rattle.message_moves.proofs.MoveGiven.{Never, Reads, Takes, aside, aside_stands, content_gives, discard_gives, places_turned, take_gives, text_twice}

pub place_apart : (p q : Place) → (p ≡ q → ⊥) → same_place p q ≡ false
place_apart p q off = go (same_place p q) refl
  where
    go : (b : Bool) → same_place p q ≡ b → b ≡ false
    go true e = absurd (off (place_same p q e))
    go false e = refl

-- a folder that is there, without temporary names, and with a free number above its highest
pub record HasRoom (c : Contents) (to : Destination) : Type 0 where
  pub there : c.there to.place ≡ true
  pub free : (x : List ℕ) → is_temp (kind_of x) ≡ true → c.texts to.place x ≡ None
  pub low : highest_of to.highest < 999999
  pub next : c.texts to.place (decimal (next_of to)) ≡ None

-- this place is none of these
abbrev pub IsElsewhere : Place → List Destination → Type 0
IsElsewhere p [] = Unit {0}
IsElsewhere p (to ∷ others) = (p ≡ to.place → ⊥) × IsElsewhere p others

-- each has room, and stands for itself
abbrev pub HaveRoom : Contents → List Destination → Type 0
HaveRoom c [] = Unit {0}
HaveRoom c (to ∷ others) = HasRoom c to × IsElsewhere to.place others × HaveRoom c others

-- what names of other places lead to doesn't count
pub other_place : (c : Contents) (p q : Place) (x y : List ℕ) (s : Option (List ℕ)) → (p ≡ q → ⊥) → (with_text c p x s).texts q y ≡ c.texts q y
other_place c p q x y s off = rw (place_apart p q off) refl

room_kept : (c : Contents) (p : Place) (x : List ℕ) (s : Option (List ℕ)) (to : Destination) → (p ≡ to.place → ⊥) → HasRoom c to → HasRoom (with_text c p x s) to
room_kept c p x s to off r = record {
  there = r.there;
  free = λ y t. other_place c p to.place x y s off ∙ r.free y t;
  low = r.low;
  next = other_place c p to.place x (decimal (next_of to)) s off ∙ r.next;
}

rooms_kept : (c : Contents) (p : Place) (x : List ℕ) (s : Option (List ℕ)) (to : List Destination) → IsElsewhere p to → HaveRoom c to → HaveRoom (with_text c p x s) to
rooms_kept c p x s [] off r = tt
rooms_kept c p x s (to ∷ others) off r = (room_kept c p x s to off.0 r.0, r.1, rooms_kept c p x s others off.1 r.2)

module _ (bytes : List ℕ) where
  pub copied_there : (to : List Destination) (c : Contents) (p : Place) → (copied_in c bytes to).there p ≡ c.there p
  unfolding copied_in
  copied_there [] c p = refl
  copied_there (to ∷ others) c p = copied_there others (with_text c to.place (decimal (next_of to)) (Some bytes)) p

  pub copied_elsewhere : (to : List Destination) (c : Contents) (p : Place) (x : List ℕ) → IsElsewhere p to → (copied_in c bytes to).texts p x ≡ c.texts p x
  unfolding copied_in
  copied_elsewhere [] c p x off = refl
  copied_elsewhere (to ∷ others) c p x off = copied_elsewhere others (with_text c to.place (decimal (next_of to)) (Some bytes)) p x off.1 ∙ other_place c to.place p (decimal (next_of to)) x (Some bytes) (λ e. off.0 (sym e))

  copied_turned : (to : List Destination) (c : Contents) (p : Place) (x : List ℕ) (s : Option (List ℕ)) → IsElsewhere p to → copied_in (with_text c p x s) bytes to ≡ with_text (copied_in c bytes to) p x s
  unfolding copied_in
  copied_turned [] c p x s off = refl
  copied_turned (to ∷ others) c p x s off =
      ap (λ d. copied_in d bytes others) (places_turned c p to.place x (decimal (next_of to)) s (Some bytes) (place_apart p to.place off.0))
      ∙ copied_turned others (with_text c to.place (decimal (next_of to)) (Some bytes)) p x s off.1

module _ (run : ℕ) (few : run < 2 ^ 128) (bytes : List ℕ) where
  abbrev One : Contents → Destination → Hand → View → Hand → List ℕ → Result Destination CommandFault → Type 0
  One c to h z j left (Ok e) = (e ≡ raised to) × Is true z.numbers z (with_text c to.place (decimal (next_of to)) (Some bytes)) × (j ≡ used h)
  One c to h z j left (Err e) = e ≡ command.Memory

  one_gives : (c : Contents) (to : Destination) → HasRoom c to → (ns : List ℕ) (v : View) (h : Hand) (text : List ℕ) → Is true ns v c → Gives (by_view true) v h text (copied_to run bytes to) (One c to h)
  unfolding Gives copied_to
  one_gives c to room ns v h text is =
      gives_then (by_view true) v h text (of_plan to.folder) (message_stored run to.place (highest_of to.highest) bytes) (λ number. Return (Ok (at number))) (Stores c to.place (next_of to) bytes h) (One c to h)
      (stored_gives run few to.place c room.there (highest_of to.highest) room.low room.next bytes ns v h text is (λ named. room.free (temp_name run h.next) (temp_is run h.next few named))) ended
    where
      at : ℕ → Destination
      at number = record { folder = to.folder; place = to.place; highest = Some number }

      ended : (z : View) (j : Hand) (left : List ℕ) (r : Result ℕ PlanFault) → Stores c to.place (next_of to) bytes h z j left r → Gives (by_view true) z j left (after (λ number. Return (Ok (at number))) (converted (of_plan to.folder) r)) (One c to h)
      ended z j left (Ok m) f = (ap at f.0, f.1, f.2)
      ended z j left (Err e) f = ap (of_plan to.folder) f

  -- copies stand in all of these, behind those before
  abbrev pub Copies : Contents → List Destination → List Destination → Hand → View → Hand → List ℕ → Result (List Destination) CommandFault → Type 0
  Copies c to before h z j left (Ok es) = (es ≡ before ++ map raised to) × Is true z.numbers z (copied_in c bytes to) × (j.context ≡ h.context)
  Copies c to before h z j left (Err e) = e ≡ command.Memory

  pub copies_give : (to before : List Destination) (c : Contents) → HaveRoom c to → (ns : List ℕ) (v : View) (h : Hand) (text : List ℕ) → Is true ns v c → Gives (by_view true) v h text (copied_to_all run bytes to before) (Copies c to before h)
  unfolding Gives copied_to_all copied_in
  copies_give [] before c room ns v h text is = (sym (append-nil before), (is.0, refl), refl)
  copies_give (to ∷ others) before c room ns v h text is =
      gives_on (by_view true) v h text (copied_to run bytes to) (λ e. copied_to_all run bytes others (before ++ e ∷ [])) (One c to h) (Copies c (to ∷ others) before h) (one_gives c to room.0 ns v h text is)
      (λ z j left e f.
      subst (λ x. Gives (by_view true) z j left (copied_to_all run bytes others (before ++ x ∷ [])) (Copies c (to ∷ others) before h)) (sym f.0)
      (gives_more (by_view true) z j left (copied_to_all run bytes others (before ++ raised to ∷ [])) (Copies later others (before ++ raised to ∷ []) j) (Copies c (to ∷ others) before h)
      (copies_give others (before ++ raised to ∷ []) later (rooms_kept c to.place (decimal (next_of to)) (Some bytes) others room.1 room.2) z.numbers z j left f.1) (more j f.2)))
      (λ z j left e f. f)
    where
      later : Contents
      later = with_text c to.place (decimal (next_of to)) (Some bytes)

      more : (j : Hand) → j ≡ used h → (y : View) (i : Hand) (rest : List ℕ) (r : Result (List Destination) CommandFault) → Copies later others (before ++ raised to ∷ []) j y i rest r → Copies c (to ∷ others) before h y i rest r
      more j same y i rest (Ok es) g = (g.0 ∙ append_assoc before (raised to ∷ []) (map raised others), g.1, g.2 ∙ ap (λ x. x.context) same)
      more j same y i rest (Err e) g = g

module _ (run : ℕ) (few : run < 2 ^ 128) (source : List ℕ) (p : Place) (n : ℕ) (ok : IsMsgNum n) (bytes : List ℕ) (c : Contents) (here : c.there p ≡ true) (stands : c.texts p (entry_text (Number n)) ≡ Some bytes)
    (d : Destination) (ds : List Destination) (off : IsElsewhere p (d ∷ ds)) (room : HaveRoom c (d ∷ ds)) where
  abbrev number : List ℕ
  number = entry_text (Number n)

  abbrev held : List ℕ
  held = entry_text (Held run n)

  abbrev to : List Destination
  to = d ∷ ds

  abbrev held_aside : Contents
  held_aside = aside c p run n bytes

  -- it is not too long, stands in each destination, and nothing at its number or under its held name; or memory was wanting; or it is too long, and is held aside
  abbrev pub Refiled : Hand → View → Hand → List ℕ → Result (List Destination) CommandFault → Type 0
  Refiled h z j left (Ok es) = (nat_lt LIMIT_BYTES (length bytes) ≡ false) × (es ≡ map raised to) × Is true z.numbers z (refiled_in c p run n bytes to) × (j.context ≡ h.context)
  Refiled h z j left (Err e) = (e ≡ command.Memory) ⊎ ((nat_lt LIMIT_BYTES (length bytes) ≡ true) × (e ≡ too_large (length bytes)) × Is true z.numbers z held_aside)

  aside_rooms : HaveRoom held_aside to
  aside_rooms = rooms_kept (with_text c p number None) p held (Some bytes) to off (rooms_kept c p number None to off room)

  -- the copies, and the message held aside
  copied_aside : copied_in held_aside bytes to ≡ aside (copied_in c bytes to) p run n bytes
  copied_aside = copied_turned bytes to (with_text c p number None) p held (Some bytes) off ∙ ap (λ e. with_text e p held (Some bytes)) (copied_turned bytes to c p number None off)

  left_so : with_text (copied_in held_aside bytes to) p held None ≡ refiled_in c p run n bytes to
  left_so = ap (λ e. with_text e p held None) copied_aside ∙ text_twice (with_text (copied_in c bytes to) p number None) p held (Some bytes) None

  held_still : is_some ((copied_in held_aside bytes to).texts p held) ≡ true
  held_still = ap is_some (copied_elsewhere bytes to held_aside p held off ∙ aside_stands run few p n ok bytes c stands)

  there_still : (copied_in held_aside bytes to).there p ≡ true
  there_still = copied_there bytes to held_aside p ∙ here

  ending : List Destination → List ℕ → Commanded (List Destination)
  ending later x = lifted (of_plan source) (held_discarded p x) >>= (λ gone. Return (Ok later))

  discarded : nat_lt LIMIT_BYTES (length bytes) ≡ false → (h : Hand) (z : View) (j : Hand) (left : List ℕ) (es : List Destination) → es ≡ map raised to → j.context ≡ h.context → Is true z.numbers z (copied_in held_aside bytes to) → Gives (by_view true) z j left (ending es held) (Refiled h)
  unfolding Gives ending
  discarded short h z j left es same context is =
      gives_then (by_view true) z j left (of_plan source) (held_discarded p held) (λ gone. Return (Ok es)) (Leaves true z.numbers (with_text (copied_in held_aside bytes to) p held None) j Never) (Refiled h)
      (discard_gives p held (copied_in held_aside bytes to) there_still held_still z.numbers z j left is) ended
    where
      ended : (y : View) (i : Hand) (rest : List ℕ) (r : Result Unit PlanFault) → Leaves true z.numbers (with_text (copied_in held_aside bytes to) p held None) j Never y i rest r → Gives (by_view true) y i rest (after (λ gone. Return (Ok es)) (converted (of_plan source) r)) (Refiled h)
      ended y i rest (Ok u) f = (short, same, ((λ e. f.is.0 e ∙ left_so), refl), ap (λ k. k.context) f.hand ∙ context)
      ended y i rest (Err e) f = absurd f

  copying : List ℕ → Commanded (List Destination)
  copying x = copied_to_all run bytes to [] >>= (λ later. ending later x)

  copied : nat_lt LIMIT_BYTES (length bytes) ≡ false → (h : Hand) (z : View) (left : List ℕ) (ns : List ℕ) → Is true ns z held_aside → Gives (by_view true) z h left (copying held) (Refiled h)
  unfolding copying
  copied short h z left ns is =
      gives_on (by_view true) z h left (copied_to_all run bytes to []) (λ later. ending later held) (Copies run few bytes held_aside to [] h) (Refiled h) (copies_give run few bytes to [] held_aside aside_rooms ns z h left is)
      (λ y j rest es f. discarded short h y j rest es f.0 f.2 f.1) (λ y j rest e f. inl f)

  -- once it was read, under its held name
  abbrev then_copied : List ℕ → List ℕ → Commanded (List Destination)
  then_copied x b = copied_to_all run b to [] >>= (λ later. lifted (of_plan source) (held_discarded p x) >>= (λ gone. Return (Ok later)))

  by_bytes : (h : Hand) (ns : List ℕ) (y : View) (i : Hand) (rest : List ℕ) (b : Bool) → nat_lt LIMIT_BYTES (length bytes) ≡ b → (r : Result (List ℕ) PlanFault) → r ≡ (if b then Err (fault.TooLarge (length bytes)) else Ok bytes) → Left true ns held_aside h y i
      → Gives (by_view true) y i rest (after (then_copied held) (converted (of_plan source) r)) (Refiled h)
  unfolding Gives copying ending
  by_bytes h ns y i rest true long r is l = subst (λ q. Gives (by_view true) y i rest (after (then_copied held) (converted (of_plan source) q)) (Refiled h)) (sym is) (inr (long, refl, (l.is.0, refl)))
  by_bytes h ns y i rest false short r is l =
      subst (λ q. Gives (by_view true) y i rest (after (then_copied held) (converted (of_plan source) q)) (Refiled h)) (sym is)
      (subst (λ k. Gives (by_view true) y k rest (then_copied held bytes) (Refiled h)) (sym l.hand) (copied short h y rest ns l.is))

  abbrev then_read : List ℕ → Commanded (List Destination)
  then_read x = lifted (of_plan source) (content_read p x) >>= (λ b. then_copied x b)

  read : (h : Hand) (ns : List ℕ) (z : View) (left : List ℕ) → Is true ns z held_aside → Gives (by_view true) z h left (then_read held) (Refiled h)
  read h ns z left is =
      gives_then (by_view true) z h left (of_plan source) (content_read p held) (then_copied held) (Reads ns held_aside bytes h) (Refiled h)
      (content_gives p held bytes held_aside (aside_stands run few p n ok bytes c stands) ns z h left is)
      (λ y i rest r f. by_bytes h ns y i rest (nat_lt LIMIT_BYTES (length bytes)) refl r f.value f.same)

  -- a message that stands at its number, where each destination has room
  pub message_gives : (ns : List ℕ) (v : View) (h : Hand) (text : List ℕ) → Is true ns v c → Gives (by_view true) v h text (message_refiled run source p n to) (Refiled h)
  unfolding Gives message_refiled
  message_gives ns v h text is =
      gives_then (by_view true) v h text (of_plan source) (number_taken run p n) then_read (Takes ns c p run n bytes h) (Refiled h) (take_gives run few p n ok bytes c stands ns v h text is) taken
    where
      taken : (z : View) (j : Hand) (left : List ℕ) (r : Result (List ℕ) PlanFault) → Takes ns c p run n bytes h z j left r → Gives (by_view true) z j left (after then_read (converted (of_plan source) r)) (Refiled h)
      taken z j left (Ok x) t = subst (λ k. Gives (by_view true) z k left (then_read x) (Refiled h)) (sym t.left.hand) (subst (λ y. Gives (by_view true) z h left (then_read y) (Refiled h)) (sym t.name) (read h ns z left t.left.is))
      taken z j left (Err e) t = absurd t
