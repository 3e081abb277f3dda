-- What the lines of a checkpoint say.
use Rattle.std.specs.Prelude.{ℕ, ◌+◌, ◌^◌, ◌==◌, ◌&&◌, ◌||◌, Bool, true, false, not, Option, Some, None, option_map, List, [], ◌∷◌, take, drop, codes, if◌then◌else◌}
use Rattle.std.specs.List.{list_any}
use Rattle.std.specs.Str.{is_utf8}
use Rattle.tw_rows.specs.Instant.{inf}
use Rattle.tw_rows.specs.declared.cells.Datum.{Datum}
use Rattle.tw_rows.specs.declared.cells.Datum.TheVariants.{Int, Bool as Flag, Text}
use Rattle.tw_rows.specs.declared.kind.CellKind.{CellKind}
use Rattle.tw_rows.specs.declared.kind.CellKind.TheVariants.{Whole, Bit, Place}
use Rattle.row_reader.specs.Number.{number_of, units_of, same_text}
use Rattle.row_reader.specs.Fields.{commas}
use Rattle.row_reader.specs.Values.{both}
use Rattle.frozen_state.specs.declared.owner.Owner.{Owner}
use Rattle.frozen_state.specs.declared.owner.Owner.TheVariants.{In, Node, Out}
use Rattle.checkpoint.specs.declared.owner.EntryPart.{EntryPart}
use Rattle.checkpoint.specs.declared.entry.EntryLine.{EntryLine}

-- the time that a field spells: `inf`, or an instant by its digits
unfoldable pub instant_of : List ℕ → Option ℕ
instant_of text = if same_text text (codes "inf") then Some inf else number_of (2 ^ 61) text

-- what two fields behind a word say, where there are three fields and the first is the word
abbrev pub pair_of : List ℕ → (List ℕ → Option ℕ) → List (List ℕ) → Option (ℕ × ℕ)
pair_of word first (w ∷ a ∷ b ∷ []) = if same_text w word then both (first a) (instant_of b) else None
pair_of word first [] = None
pair_of word first (w ∷ []) = None
pair_of word first (w ∷ a ∷ []) = None
pair_of word first (w ∷ a ∷ b ∷ c ∷ fs) = None

-- the number of lines and the last punctuation that a line `#time` tells
abbrev pub time_of : List ℕ → Option (ℕ × ℕ)
time_of line = pair_of (codes "#time") (number_of (2 ^ 62 + 1)) (commas line)

-- the bound and the mark that a line `#bound` tells
abbrev pub bound_of : List ℕ → Option (ℕ × ℕ)
bound_of line = pair_of (codes "#bound") instant_of (commas line)

-- the number that the field behind a word spells, where there are two fields and the first is the word
abbrev pub single_of : List ℕ → List (List ℕ) → Option ℕ
single_of word (w ∷ a ∷ []) = if same_text w word then number_of (2 ^ 64) a else None
single_of word [] = None
single_of word (w ∷ []) = None
single_of word (w ∷ a ∷ b ∷ fs) = None

-- the bytes of the input that a line `#input` tells
abbrev pub input_of : List ℕ → Option ℕ
input_of line = single_of (codes "#input") (commas line)

-- the bytes of the output that a line `#output` tells
abbrev pub output_of : List ℕ → Option ℕ
output_of line = single_of (codes "#output") (commas line)

-- a CR or a LF
abbrev pub is_break : ℕ → Bool
is_break b = (b == 13) || (b == 10)

-- the text of a line `#text`
unfoldable pub text_of : List ℕ → Option (List ℕ)
text_of line = if same_text (take 6 line) (codes "#text,") && not (list_any is_break (drop 6 line)) && is_utf8 (drop 6 line) then Some (drop 6 line) else None

unfoldable pub owner_of : List ℕ → Option Owner
owner_of text = if same_text text (codes "in") then Some In else if same_text text (codes "out") then Some Out else option_map Node (number_of (2 ^ 64) text)

abbrev pub all_three : Option Owner → Option ℕ → Option ℕ → Option EntryPart
all_three None shard part = None
all_three (Some owner) None part = None
all_three (Some owner) (Some shard) None = None
all_three (Some owner) (Some shard) (Some part) = Some (record { owner = owner; shard = shard; part = part })

abbrev pub part_by : List ℕ → List ℕ → List ℕ → List ℕ → Option EntryPart
part_by word owner shard part = if same_text word (codes "#entry") then all_three (owner_of owner) (number_of (2 ^ 64) shard) (number_of (2 ^ 64) part) else None

-- which entries of whom the first four fields of an entry's line name
abbrev pub part_of : List (List ℕ) → Option EntryPart
part_of (w ∷ o ∷ s ∷ p ∷ fs) = part_by w o s p
part_of [] = None
part_of (w ∷ []) = None
part_of (w ∷ o ∷ []) = None
part_of (w ∷ o ∷ s ∷ []) = None

-- the two times that the first two fields spell
abbrev pub times_of : List (List ℕ) → Option (ℕ × ℕ)
times_of (a ∷ b ∷ fs) = both (instant_of a) (instant_of b)
times_of [] = None
times_of (a ∷ []) = None

unfoldable pub flag_of : List ℕ → Option Datum
flag_of text = if same_text text (codes "1") then Some (Flag true) else if same_text text (codes "0") then Some (Flag false) else None

-- the datum of a kind that a field spells
abbrev pub datum_of : CellKind → List ℕ → Option Datum
datum_of Whole text = option_map Int (units_of 0 text)
datum_of Bit text = flag_of text
datum_of Place text = option_map Text (number_of (2 ^ 64) text)

abbrev pub before : Option Datum → Option (List Datum) → Option (List Datum)
before None ds = None
before (Some d) None = None
before (Some d) (Some ds) = Some (d ∷ ds)

-- data of these kinds, one for each field
abbrev pub cells_of : List CellKind → List (List ℕ) → Option (List Datum)
cells_of [] [] = Some []
cells_of [] (f ∷ fs) = None
cells_of (k ∷ ks) [] = None
cells_of (k ∷ ks) (f ∷ fs) = before (datum_of k f) (cells_of ks fs)

abbrev pub all_parts : Option EntryPart → Option (ℕ × ℕ) → Option (List Datum) → Option EntryLine
all_parts None times cells = None
all_parts (Some p) None cells = None
all_parts (Some p) (Some t) None = None
all_parts (Some p) (Some t) (Some cells) = Some (record { owner = p.owner; shard = p.shard; entry = record { part = p.part; sync = t.0; other = t.1; cells = cells } })

abbrev pub entry_by : List CellKind → List (List ℕ) → Option EntryLine
entry_by kinds fields = all_parts (part_of fields) (times_of (drop 4 fields)) (cells_of kinds (drop 6 fields))

-- the entry, with cells of these kinds, that a line `#entry` tells
abbrev pub entry_of : List CellKind → List ℕ → Option EntryLine
entry_of kinds line = entry_by kinds (commas line)
