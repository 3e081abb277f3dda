-- The pieces in which a line is appended.
use Rattle.std.specs.Prelude.{ℕ, List, [], ◌∷◌, codes, decimal}
use Rattle.row_reader.specs.FieldTexts.{time_text}
use Rattle.edge_stream.specs.declared.saved.SavedEntry.{SavedEntry}
use Rattle.frozen_state.specs.declared.owner.Owner.{Owner}
use Rattle.checkpoint.specs.Lines.{line_of, owner_text}

-- the line of an entry up to its cells: `#entry,in,0,1,3,inf`
abbrev pub line_head : Owner → ℕ → SavedEntry → List ℕ
line_head owner shard e = line_of (codes "#entry") (owner_text owner ∷ decimal shard ∷ decimal e.part ∷ time_text e.sync ∷ time_text e.other ∷ [])
