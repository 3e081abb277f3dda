-- Edges as saved entries of a part.
use Rattle.std.specs.Prelude.{◌≡◌, ℕ, ◌≤◌, nat_eq, nat_lt, Bool, List, map, filter, All}
use Rattle.std.specs.List.{list_all}
use Rattle.tw_rows.specs.Cells.{datum_kind}
use Rattle.tw_rows.specs.declared.edge.Edge.{Edge}
use Rattle.tw_rows.specs.declared.kind.CellKind.{CellKind}
use Rattle.edge_history.specs.Order.{failing, is_from, Rises, IsReal, KeepsOrder}
use Rattle.edge_stream.specs.declared.saved.SavedEntry.{SavedEntry}

-- the entry of an edge in a part, and the edge of an entry
abbrev pub entry_of : ℕ → Edge → SavedEntry
entry_of part e = record { part = part; sync = e.sync; other = e.other; cells = e.cells }

abbrev pub saved_edge : SavedEntry → Edge
saved_edge s = record { sync = s.sync; other = s.other; cells = s.cells }

-- the entries of edges in a part, in order
abbrev pub entries_of : ℕ → List Edge → List SavedEntry
entries_of part es = map (entry_of part) es

-- the edges of the entries of a part, in order. Of entries of the parts 0, 1 and 0 those of part 0 are the first and the last
abbrev pub part_of : ℕ → List SavedEntry → List Edge
part_of part entries = map saved_edge (filter (λ s. nat_eq s.part part) entries)

-- each entry belongs to one of the first n parts. Entries of the parts 0 and 1 do so for 2, and not for 1
abbrev pub are_of_parts : ℕ → List SavedEntry → Bool
are_of_parts n entries = list_all (λ s. nat_lt s.part n) entries

-- a list with such columns may hold the edge, which does not come before a time. From 4 on, a start at 5 may be there, and one
-- at 3 not
pub record MayBeCarried (kinds : List CellKind) (from : ℕ) (e : Edge) : Type 0 where
  pub real : IsReal e
  pub cells : map datum_kind e.cells ≡ kinds
  pub late : from ≤ e.sync

-- the same of edges in order, none of a lesser rank than the least one. From the rank of a start at 5 on, a start at 5 may come,
-- and an end at 5 not
pub record MayFollow (kinds : List CellKind) (from least : ℕ) (edges : List Edge) : Type 0 where
  pub rises : Rises least edges
  pub may : All (MayBeCarried kinds from) edges

-- edges that a list with such columns may hold, none of them before a time. From 4 on, an edge at 5 may be there, and one at 3
-- not
pub record IsEdgePart (kinds : List CellKind) (from : ℕ) (edges : List Edge) : Type 0 where
  pub order : KeepsOrder edges
  pub cells : All (λ e. map datum_kind e.cells ≡ kinds) edges
  pub late : failing (is_from from) edges ≡ 0
