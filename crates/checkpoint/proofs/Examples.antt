-- Texts of checkpoints, as they are written.
use Rattle.std.specs.Prelude.{◌≡◌, ℕ, pos, [], ◌∷◌, codes, refl}
use Rattle.std.specs.Fmt.{digits}
use Rattle.hex.specs.Hex.{encode_with}
use Rattle.tw_rows.specs.Instant.{inf}
use Rattle.tw_rows.specs.declared.cells.Datum.TheVariants.{Int, Text}
use Rattle.row_reader.specs.NumberTexts.{fraction}
use Rattle.edge_stream.specs.declared.saved.SavedEntry.{SavedEntry}
use Rattle.admission.specs.declared.policy.Lateness.TheVariants.{Refuse}
use Rattle.admission.specs.declared.policy.Policy.{Policy}
use Rattle.frozen_state.specs.declared.owner.Owner.TheVariants.{In, Node, Out}
use Rattle.frozen_state.specs.Frozen.{FrozenView}
use Rattle.checkpoint.specs.Form.{head_lines}
use Rattle.checkpoint.specs.Text.{checkpoint_lines}

abbrev plain : Policy
plain = record { lateness = 0; late = Refuse; period = 0 }

abbrev entry : ℕ → ℕ → ℕ → SavedEntry
entry part sync other = record { part = part; sync = sync; other = other; cells = Text 0 ∷ Int (pos 1) ∷ [] }

-- a start at 1 that is open, after the punctuation 3 in line 2
abbrev open_start : FrozenView
open_start = record {
  lines = 2;
  last = 3;
  bounds = 3 ∷ [];
  marks = 3 ∷ [];
  texts = codes "a" ∷ [];
  parts = record { owner = In; shard = 0; saved = entry 1 1 1 ∷ [] } ∷ record { owner = Out; shard = 0; saved = entry 0 1 inf ∷ [] } ∷ [];
}

open_start_is_written : checkpoint_lines (head_lines (codes "stream s(k text, v int); s") 1 plain) open_start
    ≡ codes "#tempo,1" ∷ codes "#query,73747265616d2073286b20746578742c207620696e74293b2073" ∷ codes "#options,1,refuse,0,0" ∷ codes "#time,2,3" ∷ codes "#bound,3,3"
    ∷ codes "#text,a" ∷ codes "#entry,in,0,1,1,1,0,1" ∷ codes "#entry,out,0,0,1,inf,0,1" ∷ codes "#end" ∷ []
unfolding inf digits fraction encode_with
open_start_is_written = refl

-- two streams of which one said nothing, behind a union: no punctuation was due
abbrev two_marks : FrozenView
two_marks = record {
  lines = 1;
  last = 0;
  bounds = 40 ∷ 0 ∷ [];
  marks = 40 ∷ 0 ∷ [];
  texts = [];
  parts = record { owner = In; shard = 0; saved = [] } ∷ record { owner = Node 2; shard = 0; saved = [] } ∷ record { owner = Out; shard = 0; saved = [] } ∷ [];
}

two_marks_are_written : checkpoint_lines (codes "#tempo,1" ∷ []) two_marks
    ≡ codes "#tempo,1" ∷ codes "#time,1,0" ∷ codes "#bound,40,40" ∷ codes "#bound,0,0" ∷ codes "#end" ∷ []
unfolding inf digits fraction
two_marks_are_written = refl
