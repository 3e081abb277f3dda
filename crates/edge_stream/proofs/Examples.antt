-- The definitions, worked out on a few entries.
use Rattle.std.specs.Prelude.{◌≡◌, ℕ, false, [], ◌∷◌, refl}
use Rattle.tw_rows.specs.declared.edge.Edge.{Edge}
use Rattle.edge_stream.specs.declared.saved.SavedEntry.{SavedEntry}
use Rattle.edge_stream.specs.Entries.{entries_of, part_of, are_of_parts}

abbrev edge : ℕ → Edge
edge sync = record { sync = sync; other = 9; cells = [] }

abbrev entry : ℕ → ℕ → SavedEntry
entry part sync = record { part = part; sync = sync; other = 9; cells = [] }

parts_are_told_apart : part_of 0 (entry 0 3 ∷ entry 1 5 ∷ entry 0 4 ∷ []) ≡ edge 3 ∷ edge 4 ∷ []
parts_are_told_apart = refl

edges_become_entries : entries_of 1 (edge 3 ∷ edge 5 ∷ []) ≡ entry 1 3 ∷ entry 1 5 ∷ []
edges_become_entries = refl

two_parts_are_no_one : are_of_parts 1 (entry 0 3 ∷ entry 1 5 ∷ []) ≡ false
two_parts_are_no_one = refl
