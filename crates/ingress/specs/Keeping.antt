-- What is kept of all streams between two lines: open starts by their cells, and the edges held.
use Rattle.std.specs.Prelude.{◌≡◌, ◌≢◌, ℕ, ◌<◌, ◌≤◌, nat_eq, Bool, true, false, cond, Option, Some, None, List, [], ◌∷◌, ◌++◌, length, get_or, map, filter, flat_map}
use Rattle.std.specs.declared.collections.VecDeque.{VecDeque}
use Rattle.tw_rows.specs.Instant.{inf}
use Rattle.tw_rows.specs.Bag.{SameBag}
use Rattle.tw_rows.specs.declared.cells.Datum.{Datum}
use Rattle.tw_rows.specs.declared.edge.Edge.{Edge}
use Rattle.key_nodes.specs.Joins.{with_life}
use Rattle.edge_history.specs.History.{CellEvent}
use Rattle.edge_history.specs.Order.{many, starts_it}
use Rattle.ingress.specs.declared.opens.OpenKey.{OpenKey}
use Rattle.ingress.specs.declared.opens.OpenStart.{OpenStart}
use Rattle.ingress.specs.OpenKeys.{same_key}
use Rattle.ingress.specs.Held.{IsHeld, start_of}

-- an open start, by what its end line names, and what is in use of it
pub record CellOpen : Type 0 where
  pub key : OpenKey
  pub state : OpenStart

abbrev pub cell_open : OpenKey → OpenStart → CellOpen
cell_open k st = record { key = k; state = st }

-- the open starts of a map, key by key
abbrev pub opens_in : {S : Type 0} → List (OpenKey × VecDeque OpenStart S) → List CellOpen
opens_in es = flat_map (λ e. map (cell_open e.0) e.1.items) es

-- what is in use of an open start that was given at that time, as it is kept: of one that was dropped the start is of no
-- use, and the given one stands for it. A start at 4 that was late by a bound of 10 is kept at 10, or at 4 where it was dropped
abbrev pub kept_state : ℕ → OpenStart → OpenStart
kept_state given st = record { start = cond st.dropped given st.start; dropped = st.dropped }

abbrev pub kept_of : CellOpen → OpenStart
kept_of o = kept_state o.key.given o.state

-- the end line that names this key closes the open start
abbrev pub is_named : OpenKey → CellOpen → Bool
is_named k o = same_key o.key k

-- the first that passes the test, and the list without it. Of 3, 4, 6 the first even one is 4, and without it are 3, 6
abbrev pub first_of : {X : Type 0} → (X → Bool) → List X → Option X
first_of p [] = None
first_of p (x ∷ xs) = cond (p x) (Some x) (first_of p xs)

abbrev pub without_first_of : {X : Type 0} → (X → Bool) → List X → List X
without_first_of p [] = []
without_first_of p (x ∷ xs) = cond (p x) xs (x ∷ without_first_of p xs)

-- a row of cells with its lifetime
abbrev pub cell_row : List Datum → ℕ → ℕ → CellEvent
cell_row cells start end = record { row = cells; start = start; end = end }

-- the row of an open start that ends at that time: none where it was dropped, or where its lifetime is empty
abbrev pub ended_row : ℕ → CellOpen → List CellEvent
ended_row end o = cond o.state.dropped [] (with_life o.key.cells o.state.start end)

-- the row of an open start of stream s, up to infinity
abbrev pub row_of_open : ℕ → CellOpen → List CellEvent
row_of_open s o = cond (nat_eq o.key.stream s) (ended_row inf o) []

-- the rows of stream s in cells: those made, and the open starts up to infinity
abbrev pub cell_rows : (ℕ → List CellEvent) → List CellOpen → ℕ → List CellEvent
cell_rows made opens s = made s ++ flat_map (row_of_open s) opens

-- the rows by stream, with more for stream s
abbrev pub more_rows : ℕ → List CellEvent → (ℕ → List CellEvent) → ℕ → List CellEvent
more_rows s rows made k = cond (nat_eq k s) (made k ++ rows) (made k)

-- the edges of each stream follow its rows up to p, and each key finds the open starts that it names, in order
pub record Keeps (p : ℕ) (waiting : List (List Edge)) (starts : OpenKey → List OpenStart)
    (made : ℕ → List CellEvent) (opens : List CellOpen) (given : ℕ → List Edge) : Type 0 where
  pub held : (s : ℕ) → s < length waiting → IsHeld p (given s) (get_or waiting s []) (cell_rows made opens s)
  pub queued : (k : OpenKey) → starts k ≡ map kept_of (filter (is_named k) opens)

-- the waiting edges of stream s are others now, and those of the other streams are as they were
pub record Changed (s : ℕ) (before after : List (List Edge)) : Type 0 where
  pub long : length after ≡ length before
  pub others : (k : ℕ) → k ≢ s → get_or after k [] ≡ get_or before k []

-- what became of the edges of its stream where an open start ended: an end edge came, or the start edge went where no instant is
-- left; and the edges stay where the start was dropped, where it never starts, and where the end is at infinity
pub record HasEndedRow (key : OpenKey) (at : ℕ) (old new : List Edge) (st : OpenStart) : Type 0 where
  pub ends : st.dropped ≡ false → st.start < at → at < inf → SameBag new (record { sync = at; other = st.start; cells = key.cells } ∷ old)
  pub empty : st.dropped ≡ false → st.start < inf → at ≤ st.start → (many (starts_it key.cells st.start) old ≡ 0 → ⊥) →
      SameBag (start_of key.cells st.start ∷ new) old
  pub dropped : st.dropped ≡ true → new ≡ old
  pub endless : inf ≤ st.start → new ≡ old
  pub stays : st.start < at → inf ≤ at → new ≡ old

-- where the key names no open start, nothing is answered and all stays; and else the first one is answered, and has ended
abbrev pub HasEnded : OpenKey → ℕ → ℕ → List (List Edge) → (OpenKey → List OpenStart) → (ℕ → List CellEvent) → List CellOpen →
    (ℕ → List Edge) →
    Option OpenStart → Option CellOpen → Type 0
HasEnded key at p waiting starts made opens given answer None = (answer ≡ None) × Keeps p waiting starts made opens given
HasEnded key at p waiting starts made opens given answer (Some o) =
    (answer ≡ Some (kept_of o)) × Keeps p waiting starts (more_rows key.stream (ended_row at o) made) (without_first_of (is_named key) opens) given
