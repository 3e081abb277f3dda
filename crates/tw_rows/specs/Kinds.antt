-- Kinds of values, and how they are stored.
use Rattle.std.specs.Prelude.{◌≡◌}
use Rattle.tw_rows.specs.declared.kind.Kind.{Kind}
use Rattle.tw_rows.specs.declared.kind.Kind.TheVariants.{Int, Bool as Flag, Text, Dec}
use Rattle.tw_rows.specs.declared.row.Value.{Value}
use Rattle.tw_rows.specs.declared.row.Value.TheVariants.{Int as IntValue, Bool as FlagValue, Text as TextValue}
use Rattle.tw_rows.specs.declared.kind.CellKind.{CellKind}
use Rattle.tw_rows.specs.declared.kind.CellKind.TheVariants.{Whole, Bit, Place}

-- the kind of a value by itself: a number is an int, since nothing in it says that it counts parts of a decimal
abbrev pub value_kind : Value → Kind
value_kind (IntValue x) = Int
value_kind (FlagValue b) = Flag
value_kind (TextValue t) = Text

-- ints and decimals are stored as whole numbers, truth values as bits, texts as places
abbrev pub cell_kind_of : Kind → CellKind
cell_kind_of Int = Whole
cell_kind_of Flag = Bit
cell_kind_of Text = Place
cell_kind_of (Dec places) = Whole

-- the value can stand in a column of the kind: it is stored as the column's values are. The number 125 fits a column of ints,
-- and one of decimals with 2 places, where it stands for 1.25; it fits no column of texts
abbrev pub FitsKind : Value → Kind → Type 0
FitsKind v k = cell_kind_of (value_kind v) ≡ cell_kind_of k
