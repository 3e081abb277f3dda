-- The lines that are still to be written.
use Rattle.std.specs.Prelude.{◌≡◌, ◌≤◌, ℕ, Option, Some, None, List, [], ◌∷◌, ◌++◌, map, flat_map, drop, length, slice_get, Vec}
use Rattle.frozen_state.specs.declared.frozen.FrozenPart.{FrozenPart}
use Rattle.frozen_state.specs.Frozen.{FrozenView}
use Rattle.checkpoint.specs.Lines.{end_line, time_line, text_line, entry_line}
use Rattle.checkpoint.specs.Room.{LacksRoom}
use Rattle.checkpoint.specs.declared.writing.Place.{Place}
use Rattle.checkpoint.specs.declared.writing.Place.TheVariants.{Head, Bounds, Texts, Entries, Done}
use Rattle.checkpoint.specs.Form.{FormView}
use Rattle.checkpoint.specs.Text.{bound_lines, entry_lines}

-- the lines of the entries from that number on of the first part, and of all entries of the others
abbrev pub entries_left : List FrozenPart → ℕ → List (List ℕ)
entries_left [] entry = []
entries_left (p ∷ ps) entry = map (entry_line p.owner p.shard) (drop entry p.saved) ++ entry_lines ps

-- the lines from the texts on
abbrev pub texts_left : FrozenView → ℕ → List (List ℕ)
texts_left f n = map text_line (drop n f.texts) ++ (entry_lines f.parts ++ end_line ∷ [])

-- the lines from the streams on
abbrev pub bounds_left : FrozenView → ℕ → List (List ℕ)
bounds_left f n = bound_lines (drop n f.bounds) (drop n f.marks) ++ texts_left f 0

-- the lines from an entry on
abbrev pub ends_left : FrozenView → ℕ → ℕ → List (List ℕ)
ends_left f part entry = entries_left (drop part f.parts) entry ++ end_line ∷ []

-- the lines from a place on
abbrev pub lines_left : FormView → FrozenView → Place → List (List ℕ)
lines_left form f (Head n) = drop n form.head ++ time_line f.lines f.last ∷ bounds_left f 0
lines_left form f (Bounds n) = bounds_left f n
lines_left form f (Texts n) = texts_left f n
lines_left form f (Entries part entry) = ends_left f part entry
lines_left form f Done = []

-- the bytes of lines, with a line feed behind each
abbrev pub bytes_of : List (List ℕ) → List ℕ
bytes_of lines = flat_map (λ line. line ++ 10 ∷ []) lines

-- one line was appended, and from the next place on the rest is left
pub record Appends (left rest : List (List ℕ)) (old new : List ℕ) : Type 0 where
  pub line : List ℕ
  pub next : left ≡ line ∷ rest
  pub bytes : new ≡ old ++ line

-- the next line was appended with its line feed; or none was left
abbrev pub WritesLine : FormView → FrozenView → Place → List ℕ → List ℕ → Option Place → Type 0
WritesLine form f place old new (Some next) =
    (line : List ℕ) × ((lines_left form f place ≡ line ∷ lines_left form f next) × (new ≡ old ++ (line ++ 10 ∷ [])))
WritesLine form f place old new None = (lines_left form f place ≡ []) × (new ≡ old)

-- behind all entries of the part that a place stands in, as behind 3 of 3 from behind the first on
abbrev pub IsPast : FrozenView → Place → Place → Type 0
IsPast f place next = (part entry : ℕ) → place ≡ Entries part entry → (p : FrozenPart) → slice_get f.parts part ≡ Some p →
    (k : ℕ) × (next ≡ Entries part k) × (length p.saved ≤ k)

-- the lines from a place on up to another one were appended, each with its line feed: all those of the part that it stands in
pub record WritesUpTo (f : FrozenView) (place : Place) (old new : List ℕ) (next : Place) : Type 0 where
  pub bytes : (form : FormView) → new ++ bytes_of (lines_left form f next) ≡ old ++ bytes_of (lines_left form f place)
  pub fewer : (form : FormView) → length (lines_left form f next) ≤ length (lines_left form f place)
  pub past : IsPast f place next

-- a buffer has no room for the first of the lines
pub record LacksRoomFor {Z : Type 0} (left : List (List ℕ)) (v : Vec ℕ Z) : Type 0 where
  pub line : List ℕ
  pub rest : List (List ℕ)
  pub next : left ≡ line ∷ rest
  pub lacks : LacksRoom v line

-- nor for it and a line feed
pub record LacksRoomToFeed {Z : Type 0} (left : List (List ℕ)) (v : Vec ℕ Z) : Type 0 where
  pub line : List ℕ
  pub rest : List (List ℕ)
  pub next : left ≡ line ∷ rest
  pub lacks : LacksRoom v (line ++ 10 ∷ [])
