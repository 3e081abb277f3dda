-- What a Session saves.
use Rattle.std.specs.Prelude.{◌≡◌, ℕ, true, List}
use Rattle.std.specs.List.{list_all}
use Rattle.tw_rows.specs.declared.kind.CellKind.{CellKind}
use Rattle.edge_history.specs.Opens.{is_start}
use Rattle.edge_stream.specs.declared.saved.SavedEntry.{SavedEntry}
use Rattle.edge_stream.specs.Entries.{part_of, are_of_parts}
use Rattle.sweep_laws.specs.Saving.{are_row_starts, may_all_wait}

-- the entries are of two parts: 0, rows that began before x, as their starts, and 1, starts that wait from it on. Up to 7, a
-- row may have begun at 6, and none at 7
pub record SessionSound (kinds : List CellKind) (x : ℕ) (entries : List SavedEntry) : Type 0 where
  pub parts : are_of_parts 2 entries ≡ true
  pub rows : are_row_starts kinds x (part_of 0 entries) ≡ true
  pub waiting : may_all_wait kinds x (part_of 1 entries) ≡ true
  pub starts : list_all is_start (part_of 1 entries) ≡ true
