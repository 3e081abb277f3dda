-- How late the finite times of events are.
use Rattle.std.specs.Prelude.{ℕ, ◌<◌, ◌≤◌, List, [], ◌∷◌}
use Rattle.tw_rows.specs.Instant.{inf}
use Rattle.tw_rows.specs.Event.{Event}

-- each lifetime starts by m, and ends by m if it ends before infinity. [3, 5) and [4, inf) do so by 5, and not by 4
abbrev pub TimesUpTo : {R : Type 0} → ℕ → List (Event R) → Type 0
TimesUpTo m [] = Unit {0}
TimesUpTo m (e ∷ es) = (e.start ≤ m) × (e.end < inf → e.end ≤ m) × TimesUpTo m es
