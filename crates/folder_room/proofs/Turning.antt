-- Turns that are played prompt by prompt.
use Rattle.std.proofs.Common.{◌≡◌, ℕ, true, List, [], ◌∷◌, map, length, sym, subst, ap, ◌∙◌}
use Rattle.std.proofs.lemmas.List.{nil_from_length}
use Rattle.std.specs.Prelude.{Result, Ok, Err, MatchResult, Option}
use Rattle.folder_files.specs.Histories.{world_after}
use Rattle.folder_files.specs.declared.event.Event.{Event}
use Rattle.folder_files.specs.declared.world.World.{World}
use Rattle.folder_room.specs.Left.{left_of}
use Rattle.folder_room.specs.Played.{Plays, PlaysOne, stops, plays, is_within}
use Rattle.folder_room.specs.declared.playing.Within.{Within}
use Rattle.folder_room.specs.declared.script.Happening.{Happening}
use Rattle.folder_room.specs.declared.script.Happening.TheVariants.{Crash}
use Rattle.folder_room.specs.declared.script.Keep.{Keep}

module _ {X : Type 0} (f : X → Happening) (start : World) (run : ℕ) where
  pub play_none : (turn : List X) (past : List Event) → length turn ≡ 0 → Plays start run [] (map f turn) past past
  play_none turn past e = subst (λ t. Plays start run [] (map f t) past past) (sym (nil_from_length turn e)) stops

  pub play_within : (turn rest : List X) (x : X) (keeps : List Keep) (fill : ℕ) (past : List Event) → turn ≡ x ∷ rest → rest ≡ [] → f x ≡ Crash keeps fill true → Plays start run (Crash keeps fill true ∷ []) (map f turn) past past
  play_within turn rest x keeps fill past t e c =
      subst (λ hs. Plays start run (Crash keeps fill true ∷ []) hs past past) (sym (ap (map f) t ∙ (λ i. c i ∷ map f (e i)))) stops

  pub play_more : {E : Type 0} (r : Result (Option Within) E) (turn rest : List X) (x : X) (past mid now : List Event) → turn ≡ x ∷ rest → (is_within (f x) (map f rest) ≡ true → (world_after start past).ended run ≡ true) → PlaysOne start run (f x) past mid
      → MatchResult r (λ o. Plays start run (left_of o) (map f rest) mid now) (λ w. (left : List Happening) × Plays start run left (map f rest) mid now)
      → MatchResult r (λ o. Plays start run (left_of o) (map f turn) past now) (λ w. (left : List Happening) × Plays start run left (map f turn) past now)
  play_more (Ok o) turn rest x past mid now t d one p = subst (λ hs. Plays start run (left_of o) hs past now) (sym (ap (map f) t)) (plays (f x) (map f rest) d one p)
  play_more (Err e) turn rest x past mid now t d one p = (p.0, subst (λ hs. Plays start run p.0 hs past now) (sym (ap (map f) t)) (plays (f x) (map f rest) d one p.1))

  pub play_stop : (turn : List X) (past now : List Event) → now ≡ past → (left : List Happening) × Plays start run left (map f turn) past now
  play_stop turn past now e = (map f turn, subst (λ es. Plays start run (map f turn) (map f turn) past es) (sym e) stops)
