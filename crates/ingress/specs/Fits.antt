-- Which entries and which edges fit the columns of their streams.
use Rattle.std.specs.Prelude.{◌≡◌, ℕ, ◌<◌, ◌≤◌, ◌&&◌, Bool, true, false, IfSome, List, [], ◌∷◌, length, get_or, map}
use Rattle.tw_rows.specs.Kinds.{cell_kind_of, value_kind}
use Rattle.tw_rows.specs.declared.cells.Datum.{Datum}
use Rattle.tw_rows.specs.declared.cells.Datum.TheVariants.{Int as IntDatum, Bool as FlagDatum, Text as PlaceDatum}
use Rattle.tw_rows.specs.declared.edge.Edge.{Edge}
use Rattle.tw_rows.specs.declared.kind.Kind.{Kind}
use Rattle.tw_rows.specs.declared.kind.Kind.TheVariants.{Int, Bool as Flag, Text, Dec}
use Rattle.tw_rows.specs.declared.kind.CellKind.{CellKind}
use Rattle.tw_rows.specs.declared.kind.CellKind.TheVariants.{Whole, Bit, Place}
use Rattle.tw_rows.specs.declared.schema.StreamDef.{StreamDef}
use Rattle.tw_rows.specs.Rows.{Row}
use Rattle.edge_history.specs.Order.{failing, is_real}
use Rattle.plan_model.specs.IsPlan.{kinds_of_schema}
use Rattle.row_reader.specs.declared.entry.Entry.{Entry}
use Rattle.row_reader.specs.declared.entry.Entry.TheVariants.{Skip, Punct, Event}

-- the kind without what cells do not hold: a decimal is kept as an int
abbrev pub plain : Kind → Kind
plain Int = Int
plain Flag = Flag
plain Text = Text
plain (Dec places) = Int

-- the kinds of the columns of each stream: of sym text, price dec(2): Text, Int
abbrev pub stream_kinds : List StreamDef → List (List Kind)
stream_kinds streams = map (λ d. map (λ c. plain c.kind) d.schema) streams

-- how the cells of each stream are stored: Place, Whole
abbrev pub stream_cells : List StreamDef → List (List CellKind)
stream_cells streams = map (λ d. kinds_of_schema d.schema) streams

-- how the values of a row are stored
abbrev pub row_cells : Row → List CellKind
row_cells row = map (λ v. cell_kind_of (value_kind v)) row

-- the entry is of one of the streams, and its row has a value for each column of it, stored as the column's are. With one
-- stream of an int a row of a text does not fit, nor does a row of stream 1
abbrev pub Fits : List (List CellKind) → Entry → Type 0
Fits cells Skip = Unit {0}
Fits cells (Punct stream time) = IfSome stream (λ s. s < length cells)
Fits cells (Event stream form sync other row) = (stream < length cells) × (row_cells row ≡ get_or cells stream [])

-- whether the datum is stored so
abbrev pub is_stored : CellKind → Datum → Bool
is_stored Whole (IntDatum x) = true
is_stored Bit (FlagDatum b) = true
is_stored Place (PlaceDatum id) = true
is_stored kind datum = false

-- whether there is a datum for each column, stored so
abbrev pub are_stored : List CellKind → List Datum → Bool
are_stored [] [] = true
are_stored [] (d ∷ ds) = false
are_stored (k ∷ ks) [] = false
are_stored (k ∷ ks) (d ∷ ds) = is_stored k d && are_stored ks ds

-- whether the edge is real, and its cells are stored so
abbrev pub is_fit : List CellKind → Edge → Bool
is_fit kinds e = is_real e && are_stored kinds e.cells

-- the edges of each stream are real, and stored as its cells are
abbrev pub AreFit : List (List CellKind) → List (List Edge) → Type 0
AreFit cells waiting = (s : ℕ) → failing (is_fit (get_or cells s [])) (get_or waiting s []) ≡ 0

-- whatever the streams: there is a bound, a mark and a list of edges for each, batches have room, no stream has more than 32
-- columns, and the edges that wait are as its columns
pub record HasShape (kinds : List (List Kind)) (capacity count : ℕ) (held : List (List Edge)) : Type 0 where
  pub marks : count ≡ length kinds
  pub waiting : length held ≡ length kinds
  pub room : 1 ≤ capacity
  pub width : (s : ℕ) → length (get_or kinds s []) ≤ 32
  pub fit : AreFit (map (λ k. map cell_kind_of k) kinds) held
