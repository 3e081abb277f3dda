-- The lines of a checkpoint, without their line feeds.
use Rattle.std.specs.Prelude.{◌≡◌, ◌≢◌, ◌<◌, ◌≤◌, ◌^◌, ℕ, cond, true, List, [], ◌∷◌, ◌++◌, map, flat_map, codes, decimal}
use Rattle.std.specs.List.{All}
use Rattle.std.specs.Str.{IsUtf8}
use Rattle.hex.specs.Hex.{encode_lower}
use Rattle.tw_rows.specs.Instant.{inf}
use Rattle.tw_rows.specs.declared.cells.Datum.{Datum}
use Rattle.tw_rows.specs.declared.cells.Datum.TheVariants.{Int, Bool as Flag, Text}
use Rattle.tw_rows.specs.declared.kind.CellKind.{CellKind}
use Rattle.tw_rows.specs.declared.kind.CellKind.TheVariants.{Whole, Bit, Place}
use Rattle.row_reader.specs.FieldTexts.{time_text}
use Rattle.row_reader.specs.NumberTexts.{number_text}
use Rattle.row_reader.specs.Number.{fits_i64}
use Rattle.admission.specs.declared.policy.Lateness.{Lateness}
use Rattle.admission.specs.declared.policy.Lateness.TheVariants as late
use Rattle.admission.specs.declared.policy.Policy.{Policy}
use Rattle.edge_stream.specs.declared.saved.SavedEntry.{SavedEntry}
use Rattle.frozen_state.specs.declared.owner.Owner.{Owner}
use Rattle.frozen_state.specs.declared.owner.Owner.TheVariants.{In, Node, Out}
use Rattle.checkpoint.specs.declared.owner.EntryPart.{EntryPart}
use Rattle.checkpoint.specs.declared.entry.EntryLine.{EntryLine}

-- a word and fields, a comma before each: `#bound`, `3` and `inf` make `#bound,3,inf`
abbrev pub line_of : List ℕ → List (List ℕ) → List ℕ
line_of word fields = word ++ flat_map (λ f. 44 ∷ f) fields

-- the first line, which tells the number of the form
abbrev pub form_line : List ℕ
form_line = codes "#tempo,1"

-- the last line
abbrev pub end_line : List ℕ
end_line = codes "#end"

-- bytes of the query, in hexadecimal digits: `#query,73` of the query `s`
abbrev pub query_line : List ℕ → List ℕ
query_line bytes = codes "#query," ++ encode_lower bytes

abbrev pub late_text : Lateness → List ℕ
late_text late.Refuse = codes "refuse"
late_text late.Drop = codes "drop"
late_text late.Adjust = codes "adjust"

-- how many workers there are, and how lines are admitted: `#options,1,refuse,0,0`
abbrev pub options_line : ℕ → Policy → List ℕ
options_line workers p = line_of (codes "#options") (decimal workers ∷ late_text p.late ∷ decimal p.lateness ∷ decimal p.period ∷ [])

-- the number of the last line that was fed, and the last punctuation: `#time,2,3`
abbrev pub time_line : ℕ → ℕ → List ℕ
time_line lines last = line_of (codes "#time") (decimal lines ∷ time_text last ∷ [])

-- the bound and the mark of a stream: `#bound,3,inf`
abbrev pub bound_line : ℕ → ℕ → List ℕ
bound_line bound mark = line_of (codes "#bound") (time_text bound ∷ time_text mark ∷ [])

-- how many bytes of the input were taken: `#input,60`
abbrev pub input_line : ℕ → List ℕ
input_line bytes = line_of (codes "#input") (decimal bytes ∷ [])

-- how many bytes of the output count: `#output,25`
abbrev pub output_line : ℕ → List ℕ
output_line bytes = line_of (codes "#output") (decimal bytes ∷ [])

-- a text as it stands: `#text,a,b` of the text `a,b`
abbrev pub text_line : List ℕ → List ℕ
text_line text = codes "#text," ++ text

abbrev pub owner_text : Owner → List ℕ
owner_text In = codes "in"
owner_text (Node number) = decimal number
owner_text Out = codes "out"

-- an int by its digits, a truth value as 0 or 1, a text by its place
abbrev pub datum_text : Datum → List ℕ
datum_text (Int x) = number_text 0 x
datum_text (Flag b) = cond b (codes "1") (codes "0")
datum_text (Text place) = decimal place

-- cells, each behind a comma: `,5,1`
abbrev pub cell_texts : List Datum → List ℕ
cell_texts cells = flat_map (λ d. 44 ∷ datum_text d) cells

abbrev pub entry_fields : Owner → ℕ → SavedEntry → List (List ℕ)
entry_fields owner shard e = owner_text owner ∷ decimal shard ∷ decimal e.part ∷ time_text e.sync ∷ time_text e.other ∷ map datum_text e.cells

-- an entry of an owner's shard: its part, its times and its cells. `#entry,in,0,1,3,inf,5` is of the input's shard 0 and part 1
-- from 3 to infinity with the cell 5
abbrev pub entry_line : Owner → ℕ → SavedEntry → List ℕ
entry_line owner shard e = line_of (codes "#entry") (entry_fields owner shard e)

-- WHAT HAS A LINE
abbrev pub IsTimes : ℕ → ℕ → Type 0
IsTimes lines last = (lines ≤ 2 ^ 62) × (last ≤ inf)

abbrev pub IsBound : ℕ → ℕ → Type 0
IsBound bound mark = (bound ≤ inf) × (mark ≤ inf)

-- a text with neither CR nor LF
pub record IsText (text : List ℕ) : Type 0 where
  pub is_utf8 : IsUtf8 text
  pub no_return : All (λ b. b ≢ 13) text
  pub no_feed : All (λ b. b ≢ 10) text

abbrev pub IsOwner : Owner → Type 0
IsOwner In = Unit {0}
IsOwner (Node number) = number < 2 ^ 64
IsOwner Out = Unit {0}

-- a datum that is stored in this way
abbrev pub IsCell : CellKind → Datum → Type 0
IsCell Whole (Int x) = fits_i64 x ≡ true
IsCell Bit (Flag b) = Unit {0}
IsCell Place (Text place) = place < 2 ^ 64
IsCell kind d = ⊥

-- a datum for each of the kinds
abbrev pub AreCells : List CellKind → List Datum → Type 0
AreCells [] [] = Unit {0}
AreCells [] (d ∷ ds) = ⊥
AreCells (k ∷ ks) [] = ⊥
AreCells (k ∷ ks) (d ∷ ds) = IsCell k d × AreCells ks ds

pub record IsEntry (kinds : List CellKind) (x : EntryLine) : Type 0 where
  pub owner : IsOwner x.owner
  pub shard : x.shard < 2 ^ 64
  pub part : x.entry.part < 2 ^ 64
  pub sync : x.entry.sync ≤ inf
  pub other : x.entry.other ≤ inf
  pub cells : AreCells kinds x.entry.cells

-- the line of such an entry
abbrev pub line_of_entry : EntryLine → List ℕ
line_of_entry x = entry_line x.owner x.shard x.entry

-- which entries of whom it belongs to
abbrev pub part_of_entry : EntryLine → EntryPart
part_of_entry x = record { owner = x.owner; shard = x.shard; part = x.entry.part }
