-- Tops: of the rows of each key those with the greatest values.
use Rattle.std.specs.Prelude.{ℕ, nat_lt, ℤ, int_lt, Bool, cond, ◌&&◌, List, filter}
use Rattle.tw_rows.specs.Bag.{total}
use Rattle.tw_rows.specs.Event.{Event, alive}
use Rattle.key_nodes.specs.Coalesced.{coalesced}

-- how many rows that the row meets, those of its key, have a greater value; equal rows count each
abbrev pub greater : {R : Type 0} → (R → R → Bool) → (R → ℤ) → List R → R → ℕ
greater meets value rows r = total (λ x. cond (meets r x && int_lt (value r) (value x)) 1 0) rows

-- the rows of which fewer than `count` are greater, so that rows that tie stay together. Of the values 7, 3, 7, 5 and the
-- count 1: 7, 7; and of the count 3: 7, 7, 5
abbrev pub top_rows : {R : Type 0} → (R → R → Bool) → (R → ℤ) → ℕ → List R → List R
top_rows meets value count rows = filter (λ r. nat_lt (greater meets value rows r) count) rows

-- the coalesced events of these rows of what is alive
abbrev pub top : {R : Type 0} → (R → R → Bool) → (R → R → Bool) → (R → ℤ) → ℕ → List (Event R) → List (Event R)
top same meets value count es = coalesced same (λ t. top_rows meets value count (alive es t))
