-- Lists of edges as operators take and give them: in order, with real times, and with each end beside a start.
use Rattle.std.specs.Prelude.{◌≡◌, ℕ, ◌+◌, ◌*◌, ◌<◌, ◌≤◌, ◌&&◌, nat_eq, nat_lt, nat_le, not, Bool, cond}
use Rattle.std.specs.Prelude.{List, [], ◌∷◌, All}
use Rattle.tw_rows.specs.Instant.{inf}
use Rattle.tw_rows.specs.Bag.{total}
use Rattle.tw_rows.specs.declared.cells.Datum.{Datum}
use Rattle.tw_rows.specs.declared.edge.Edge.{Edge}
use Rattle.tw_rows.specs.SameCells.{same_cells}

-- how many items pass a test, and how many fail it
abbrev pub many : {X : Type 0} → (X → Bool) → List X → ℕ
many p xs = total (λ x. cond (p x) 1 0) xs

abbrev pub failing : {X : Type 0} → (X → Bool) → List X → ℕ
failing p xs = total (λ x. cond (p x) 0 1) xs

-- an end edge ends an event that began before: sync 5 and other 3 end an event that began at 3
abbrev pub is_end : Edge → Bool
is_end e = nat_lt e.other e.sync

-- the place of an edge in a list: by its sync, and at one sync the ends first
abbrev pub rank : Edge → ℕ
rank e = 2 * e.sync + cond (is_end e) 0 1

-- the list is in order, and none of its edges has a rank below r
abbrev pub Rises : ℕ → List Edge → Type 0
Rises r [] = Unit {0}
Rises r (e ∷ es) = (r ≤ rank e) × Rises (rank e) es

-- the edge comes at an instant, and its other time is another time
abbrev pub is_real : Edge → Bool
is_real e = nat_lt e.sync inf && (nat_le e.other inf && not (nat_eq e.other e.sync))

-- the edge comes below c; the edge comes at c or later
abbrev pub is_below : ℕ → Edge → Bool
is_below c e = nat_lt e.sync c

abbrev pub is_from : ℕ → Edge → Bool
is_from c e = nat_le c e.sync

-- an end edge that names these cells and this start
abbrev pub ends_it : List Datum → ℕ → Edge → Bool
ends_it cells start e = is_end e && (same_cells e.cells cells && nat_eq e.other start)

-- a start edge of these cells at this start
abbrev pub starts_it : List Datum → ℕ → Edge → Bool
starts_it cells start e = nat_eq e.other inf && (not (is_end e) && (same_cells e.cells cells && nat_eq e.sync start))

-- no cells and start are named by more end edges than they have start edges
abbrev pub IsPaired : List Edge → Type 0
IsPaired h = (cells : List Datum) (start : ℕ) → many (ends_it cells start) h ≤ many (starts_it cells start) h

-- a list of edges as it may come: in order, with real times, and paired
pub record IsHistory (h : List Edge) : Type 0 where
  pub order : Rises 0 h
  pub real : failing is_real h ≡ 0
  pub paired : IsPaired h

-- an edge stands at an instant, and its other time is another one, at most infinity. Sync 5 and other 5 are not real
pub record IsReal (e : Edge) : Type 0 where
  pub instant : e.sync < inf
  pub bounded : e.other ≤ inf
  pub apart : e.other ≡ e.sync → ⊥

-- the rule of a list: syncs never fall, at one sync the ends stand first, and all edges are real. An end at 5 and then a
-- start at 5 keep it, and the start before the end does not
pub record KeepsOrder (es : List Edge) : Type 0 where
  pub rises : Rises 0 es
  pub real : All IsReal es
