-- Payload columns: the data that they hold.
use Rattle.std.specs.Prelude.{ℕ, ◌+◌, ◌<◌, ◌≤◌, pos, length, take, drop, List, [], ◌∷◌, ◌++◌, map, slice_index_or}
use Rattle.tw_rows.specs.declared.cells.Datum.{Datum}
use Rattle.tw_rows.specs.declared.cells.Datum.TheVariants.{Int, Bool as Flag, Text}
use Rattle.tw_rows.specs.declared.kind.CellKind.{CellKind}
use Rattle.tw_rows.specs.declared.kind.CellKind.TheVariants.{Whole, Bit, Place}
use Rattle.batch.specs.declared.payload.Payload.{Payload}
use Rattle.batch.specs.declared.payload.Payload.TheVariants.{Ints, Bits, Places}

-- how the cells of the column are stored
abbrev pub payload_kind : Payload → CellKind
payload_kind (Ints c) = Whole
payload_kind (Bits c) = Bit
payload_kind (Places c) = Place

-- the data of the column, in order
abbrev pub payload_data : Payload → List Datum
payload_data (Ints c) = map Int c.items
payload_data (Bits c) = map Flag c.items
payload_data (Places c) = map Text c.items

-- how many cells the column has room for
abbrev pub payload_capacity : Payload → ℕ
payload_capacity (Ints c) = c.capacity
payload_capacity (Bits c) = c.capacity
payload_capacity (Places c) = c.capacity

-- the column with the datum last, where it is stored as the column's cells are
abbrev pub payload_push : Payload → Datum → Payload
payload_push (Ints c) (Int x) = Ints (record c { items = c.items ++ x ∷ [] })
payload_push (Ints c) (Flag b) = Ints c
payload_push (Ints c) (Text n) = Ints c
payload_push (Bits c) (Int x) = Bits c
payload_push (Bits c) (Flag b) = Bits (record c { items = c.items ++ b ∷ [] })
payload_push (Bits c) (Text n) = Bits c
payload_push (Places c) (Int x) = Places c
payload_push (Places c) (Flag b) = Places c
payload_push (Places c) (Text n) = Places (record c { items = c.items ++ n ∷ [] })

-- each column with its datum last
abbrev pub pushed : List Payload → List Datum → List Payload
pushed [] ds = []
pushed (p ∷ ps) [] = p ∷ ps
pushed (p ∷ ps) (d ∷ ds) = payload_push p d ∷ pushed ps ds

-- the column without its cells
abbrev pub payload_clear : Payload → Payload
payload_clear (Ints c) = Ints (record c { items = [] })
payload_clear (Bits c) = Bits (record c { items = [] })
payload_clear (Places c) = Places (record c { items = [] })

-- the cells of a row: from each column the datum at the place
abbrev pub cells_at : List Payload → ℕ → List Datum
cells_at columns place = map (λ p. slice_index_or (payload_data p) place (Int (pos 0))) columns

-- the column has room for one cell more
abbrev pub HasRoom : Payload → Type 0
HasRoom p = length (payload_data p) < payload_capacity p

-- the column has a cell at the place
abbrev pub Reaches : ℕ → Payload → Type 0
Reaches place p = place < length (payload_data p)

-- the column without its first n cells
abbrev pub payload_cut : ℕ → Payload → Payload
payload_cut n (Ints c) = Ints (record c { items = drop n c.items })
payload_cut n (Bits c) = Bits (record c { items = drop n c.items })
payload_cut n (Places c) = Places (record c { items = drop n c.items })

-- the column with the first n cells of another one last, where that is stored as it is
abbrev pub payload_extend : ℕ → Payload → Payload → Payload
payload_extend n (Ints c) (Ints f) = Ints (record c { items = c.items ++ take n f.items })
payload_extend n (Ints c) (Bits f) = Ints c
payload_extend n (Ints c) (Places f) = Ints c
payload_extend n (Bits c) (Ints f) = Bits c
payload_extend n (Bits c) (Bits f) = Bits (record c { items = c.items ++ take n f.items })
payload_extend n (Bits c) (Places f) = Bits c
payload_extend n (Places c) (Ints f) = Places c
payload_extend n (Places c) (Bits f) = Places c
payload_extend n (Places c) (Places f) = Places (record c { items = c.items ++ take n f.items })

-- each column with the first n cells of its other one last
abbrev pub extended : ℕ → List Payload → List Payload → List Payload
extended n [] fs = []
extended n (p ∷ ps) [] = p ∷ ps
extended n (p ∷ ps) (f ∷ fs) = payload_extend n p f ∷ extended n ps fs

-- the column has n cells; it has room for n cells more
abbrev pub Holds : ℕ → Payload → Type 0
Holds n p = n ≤ length (payload_data p)

abbrev pub HasRoomFor : ℕ → Payload → Type 0
HasRoomFor n p = length (payload_data p) + n ≤ payload_capacity p
