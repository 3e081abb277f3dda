-- Runs: the instants at which a row is there, put together into events.
use Rattle.std.specs.Prelude.{◌≡◌, ◌↔◌, ℕ, zero, suc, ◌<◌, ◌≤◌, ◌⊎◌, nat_eq, Bool, cond, ◌&&◌, IsTrue, IsFalse, Option, Some, None, List, [], ◌∷◌}
use Rattle.tw_rows.specs.Event.{Event}

-- the test is true exactly where both are equal
abbrev pub Tells : {X : Type 0} → (X → X → Bool) → Type 0
Tells {X} same = (x y : X) → IsTrue (same x y) ↔ (x ≡ y)

-- the runs, latest first, after one more instant t and the row there: a run of that row that ends at t goes on, else
-- one begins
abbrev pub goes_on : {R : Type 0} → (R → R → Bool) → Option R → ℕ → List (Event R) → List (Event R)
goes_on same_row None t es = es
goes_on same_row (Some r) t [] = record { row = r; start = t; end = suc t } ∷ []
goes_on same_row (Some r) t (e ∷ es) =
    cond (nat_eq e.end t && same_row e.row r) (record { row = e.row; start = e.start; end = suc t } ∷ es)
    (record { row = r; start = t; end = suc t } ∷ e ∷ es)

-- one event for each maximal run of instants below n at which f gives the same row. A run that has the last of these
-- instants ends at n. Of a row at 1, 2 and 4, below 5: [1, 3) and [4, 5)
abbrev pub runs : {R : Type 0} → (R → R → Bool) → (ℕ → Option R) → ℕ → List (Event R)
runs same_row f zero = []
runs same_row f (suc t) = goes_on same_row (f t) t (runs same_row f t)

-- e does not go on from the first event of the list, if there is one: this ends before e starts, or it ends where e
-- starts and has another row
abbrev pub IsApart : {R : Type 0} → (R → R → Bool) → Event R → List (Event R) → Type 0
IsApart same_row e [] = Unit {0}
IsApart same_row e (d ∷ es) = (d.end < e.start) ⊎ ((d.end ≡ e.start) × IsFalse (same_row d.row e.row))

-- no event goes on from the one that stands after it in the list and is the one before it in time
abbrev pub AreMaximal : {R : Type 0} → (R → R → Bool) → List (Event R) → Type 0
AreMaximal same_row [] = Unit {0}
AreMaximal same_row (e ∷ es) = IsApart same_row e es × AreMaximal same_row es

-- the events stand latest first: each but the last begins no sooner than the next one ends
abbrev pub AreFalling : {R : Type 0} → List (Event R) → Type 0
AreFalling [] = Unit {0}
AreFalling (e ∷ []) = Unit {0}
AreFalling (e ∷ d ∷ es) = (d.end ≤ e.start) × AreFalling (d ∷ es)
