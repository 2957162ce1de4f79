-- What a counter has counted.
use Rattle.std.specs.Prelude.{◌≡◌, ◌≤◌, ◌+◌, ◌-◌, ◌^◌, ℕ, List, length, min}
use Rattle.std.specs.Option.{option_or}
use Rattle.mbox_drop.specs.Long.{first_long, long_of}
use Rattle.mbox_drop.specs.Readings.{Reading, reading}
use Rattle.mbox_drop.specs.declared.counter.DropCounter.{DropCounter}
use Rattle.mbox_drop.specs.declared.place.DropState.TheVariants.{Separator}
use Rattle.mbox_drop.specs.declared.place.Turn.{Turn}
use Rattle.mbox_drop.specs.declared.place.Turn.TheVariants.{Joins, Empties, Begins, Passes}
use Rattle.mh_base.specs.Counts.{one_more}

abbrev pub counted : DropCounter → Turn → DropCounter
counted c (Joins place) = record c { place = place; size = one_more c.size }
counted c (Empties place) = record c { place = place; size = one_more c.size; body = c.size }
counted c Begins =
    record { place = Separator; size = 0; body = 0; count = one_more c.count; long = option_or c.long (long_of c.body) }
counted c (Passes place) = record c { place = place }

-- so many bytes more in the message in hand
abbrev pub grown_by : DropCounter → ℕ → DropCounter
grown_by c n = record c { size = min (c.size + n) (2 ^ 64 - 1) }

-- the counter counts what the reading has
pub record Counts (c : DropCounter) (s : Reading) : Type 0 where
  pub place : c.place ≡ s.place
  pub size : c.size ≡ length s.hand
  pub body : c.body ≡ length s.body
  pub count : c.count ≡ length s.done
  pub long : c.long ≡ first_long s.done

-- the pieces that the counter was fed are together these bytes
pub record HasCounted (c : DropCounter) (d : List ℕ) : Type 0 where
  pub few : length d ≤ 268435456
  pub counts : Counts c (reading d)
