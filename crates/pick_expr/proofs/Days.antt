-- The day on which a moment falls.
use Rattle.std.proofs.Common.{◌≡◌, ℕ, List, Option, ℤ, pos, negsuc, ◌+ℤ◌, ◌*ℤ◌, ◌≤ℤ◌, ◌<ℤ◌, sym, ap, ◌∙◌, arith}
use Rattle.std.specs.Int.{int_div_euclid}
use Rattle.std.proofs.lemmas.Int.{ints}
use Rattle.mail_dates.specs.Picking.{IsToday, PicksDate, picked}
use Rattle.pick_expr.specs.Signs.{today_at}

same_today : (moment offset a b : ℤ) → IsToday moment offset a → IsToday moment offset b → a ≡ b
same_today moment offset a b p q = omega (arith, ints, p.from, p.to, q.from, q.to)

pub picks : (moment offset today : ℤ) (text : List ℕ) (clock : Option ℤ) → PicksDate moment offset text clock → IsToday moment offset today → clock ≡ picked today offset text
picks moment offset today text clock (day, is_day, is_clock) is_today = sym is_clock ∙ ap (λ z. picked z offset text) (same_today moment offset day today is_day is_today)

-- whole days, rounded down
day_begun : (z : ℤ) → (int_div_euclid z (pos 86400) *ℤ pos 86400) ≤ℤ z
day_begun (pos a) = omega (arith, ints)
day_begun (negsuc a) = omega (arith, ints)

day_lasts : (z : ℤ) → z <ℤ (int_div_euclid z (pos 86400) *ℤ pos 86400 +ℤ pos 86400)
day_lasts (pos a) = omega (arith, ints)
day_lasts (negsuc a) = omega (arith, ints)

pub is_today_at : (moment offset : ℤ) → IsToday moment offset (today_at moment offset)
is_today_at moment offset = record { from = day_begun (moment +ℤ offset *ℤ pos 60); to = day_lasts (moment +ℤ offset *ℤ pos 60) }
