-- The left rows of a follow that wait for the next right row of their key: they are the open rows of a clip.
use Rattle.std.specs.Prelude.{ℕ, ◌+◌, ◌&&◌, nat_eq, nat_lt, Bool, cond, List, [], ◌∷◌, map, flat_map}
use Rattle.tw_rows.specs.Instant.{later}
use Rattle.tw_rows.specs.declared.cells.Datum.{Datum}
use Rattle.tw_rows.specs.declared.edge.Edge.{Edge}
use Rattle.tw_rows.specs.declared.edge.HeldRow.{HeldRow}
use Rattle.edge_history.specs.History.{CellEvent}
use Rattle.edge_history.specs.Opens.{opens}
use Rattle.key_nodes.specs.Clips.{clipped}

-- the event as if it lasted so long. Within 5 of a start at 1: [1, 6)
abbrev pub lasting : ℕ → CellEvent → CellEvent
lasting within e = record { row = e.row; start = e.start; end = later within e.start }

-- just before t: the left rows that began before t, whose time is not over before t, and that no right row followed before t
abbrev pub waiting : (List Datum → List Datum → Bool) → ℕ → List CellEvent → List CellEvent → ℕ → List HeldRow
waiting meets within a b t = opens t (clipped meets (map (lasting within) a) b)

-- what a waiting row gives with a right event at t, if it starts there and meets it: the end is known, so it is told ahead
abbrev pub match_of : (List Datum → List Datum → Bool) → (List Datum → List Datum → List Datum) → ℕ → ℕ → HeldRow → CellEvent → List CellEvent
match_of meets pair within t l x =
    cond (nat_eq x.start t && meets l.cells x.row) (record { row = pair l.cells x.row; start = t; end = later within l.start } ∷ []) []

-- all that a waiting row gives at t, unless its time is over then
abbrev pub matches_of : (List Datum → List Datum → Bool) → (List Datum → List Datum → List Datum) → ℕ → ℕ → List CellEvent → HeldRow → List CellEvent
matches_of meets pair within t b l = cond (nat_lt t (l.start + within)) (flat_map (match_of meets pair within t l) b) []

-- an event as the interval edge that tells its start, and its end ahead
abbrev pub as_interval : CellEvent → Edge
as_interval e = record { sync = e.start; other = e.end; cells = e.row }

abbrev pub starts_below : ℕ → CellEvent → Bool
starts_below c e = nat_lt e.start c
