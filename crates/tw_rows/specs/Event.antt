-- Events: rows with their lifetimes. R is the type of the rows.
use Rattle.std.specs.Prelude.{ℕ, ◌<◌, ◌≤◌, nat_lt, nat_le, Bool, cond, ◌&&◌, List, [], ◌∷◌, map, filter, flat_map}
use Rattle.tw_rows.specs.Instant.{inf}
use Rattle.tw_rows.specs.Bag.{total, SameBag}

-- a row, alive from its start on and before its end, which may be infinity
pub record Event (R : Type 0) : Type 0 where
  pub row : R
  pub start : ℕ
  pub end : ℕ

-- alive at t: the lifetime [3, 5) at 3 and at 4
abbrev pub lives_at : {R : Type 0} → ℕ → Event R → Bool
lives_at t e = nat_le e.start t && nat_lt t e.end

-- the rows that are alive at t, one for each event
abbrev pub alive : {R : Type 0} → List (Event R) → ℕ → List R
alive events t = map (λ e. e.row) (filter (lives_at t) events)

-- each lifetime begins before it ends, and ends at infinity at the latest
abbrev pub AreEvents : {R : Type 0} → List (Event R) → Type 0
AreEvents [] = Unit {0}
AreEvents (e ∷ es) = (e.start < e.end) × (e.end ≤ inf) × AreEvents es

-- what is known of an event below c: nothing where it starts at c or later, and its end only where it ends below c.
-- Below 4 the lifetime [3, 5) is known as [3, inf)
abbrev pub cut_one : {R : Type 0} → ℕ → Event R → List (Event R)
cut_one c e = cond (nat_lt e.start c) (record { row = e.row; start = e.start; end = cond (nat_lt e.end c) e.end inf } ∷ []) []

abbrev pub cut : {R : Type 0} → ℕ → List (Event R) → List (Event R)
cut c events = flat_map (cut_one c) events

-- the weight of what is known of an event below c. Below 4 the lifetime [3, 5) weighs as [3, inf), and below 3 nothing
abbrev pub seen : {R : Type 0} → (Event R → ℕ) → ℕ → Event R → ℕ
seen w c e = total w (cut_one c e)

-- of two lists of events the same is known below c
pub record Known {R : Type 0} (c : ℕ) (a b : List (Event R)) : Type 0 where
  pub low : c ≤ inf
  pub left_valid : AreEvents a
  pub right_valid : AreEvents b
  pub same : SameBag (cut c a) (cut c b)
