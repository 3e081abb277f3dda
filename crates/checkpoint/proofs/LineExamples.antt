-- Lines of a checkpoint, as they are written, and lines that are none.
use Rattle.std.specs.Prelude.{◌≡◌, ℕ, pos, true, List, [], ◌∷◌, None, codes, refl}
use Rattle.std.specs.Fmt.{digits}
use Rattle.hex.specs.Hex.{encode_with}
use Rattle.tw_rows.specs.Instant.{inf}
use Rattle.tw_rows.specs.declared.cells.Datum.{Datum}
use Rattle.tw_rows.specs.declared.cells.Datum.TheVariants.{Int, Bool as Flag, Text}
use Rattle.row_reader.specs.NumberTexts.{fraction}
use Rattle.row_reader.specs.Fields.{commas}
use Rattle.admission.specs.declared.policy.Lateness.TheVariants.{Refuse}
use Rattle.admission.specs.declared.policy.Policy.{Policy}
use Rattle.edge_stream.specs.declared.saved.SavedEntry.{SavedEntry}
use Rattle.frozen_state.specs.declared.owner.Owner.TheVariants.{In, Node, Out}
use Rattle.checkpoint.specs.Lines.{query_line, options_line, time_line, bound_line, input_line, output_line, text_line, entry_line}
use Rattle.checkpoint.specs.Reading.{time_of, bound_of, input_of}

abbrev plain : Policy
plain = record { lateness = 0; late = Refuse; period = 0 }

abbrev an_entry : ℕ → ℕ → ℕ → List Datum → SavedEntry
an_entry part sync other cells = record { part = part; sync = sync; other = other; cells = cells }

query : query_line (codes "stream s(k text, v int); s") ≡ codes "#query,73747265616d2073286b20746578742c207620696e74293b2073"
unfolding encode_with
query = refl

options : options_line 1 plain ≡ codes "#options,1,refuse,0,0"
unfolding digits
options = refl

time : time_line 2 3 ≡ codes "#time,2,3"
unfolding inf digits
time = refl

bound : bound_line 40 0 ≡ codes "#bound,40,0"
unfolding inf digits
bound = refl

input : input_line 60 ≡ codes "#input,60"
unfolding digits
input = refl

output : output_line 0 ≡ codes "#output,0"
unfolding digits
output = refl

text : text_line (codes "a,b") ≡ codes "#text,a,b"
text = refl

open_start : entry_line In 0 (an_entry 1 1 1 (Text 0 ∷ Int (pos 1) ∷ [])) ≡ codes "#entry,in,0,1,1,1,0,1"
unfolding inf digits fraction
open_start = refl

open_row : entry_line Out 0 (an_entry 0 1 inf (Text 0 ∷ Int (pos 1) ∷ [])) ≡ codes "#entry,out,0,0,1,inf,0,1"
unfolding inf digits fraction
open_row = refl

of_a_node : entry_line (Node 12) 3 (an_entry 2 5 9 (Flag true ∷ [])) ≡ codes "#entry,12,3,2,5,9,1"
unfolding inf digits fraction
of_a_node = refl

-- one field is wanting
no_bound : bound_of (codes "#bound,x") ≡ None
unfolding commas
no_bound = refl

-- the word is that of another line
no_time : time_of (codes "#bound,3,3") ≡ None
unfolding commas
no_time = refl

-- a field too many
no_place : input_of (codes "#input,6,0") ≡ None
unfolding commas
no_place = refl
