-- The order of values and of rows.
use Rattle.std.specs.Prelude.{List}
use Rattle.std.specs.Ordering.{nat_cmp, int_cmp, bool_cmp}
use Rattle.std.specs.Cmp.Lexicographic.{slice_cmp}
use Rattle.std.specs.declared.cmp.Ordering.{Ordering}
use Rattle.std.specs.declared.cmp.Ordering.TheVariants.{Less, Greater}
use Rattle.tw_rows.specs.declared.row.Value.{Value}
use Rattle.tw_rows.specs.declared.row.Value.TheVariants.{Int, Bool as Flag, Text}

-- a row is the list of its values
abbrev pub Row : Type 0
Row = List Value

-- ints as numbers, false before true, texts by their bytes; ints before bools before texts
abbrev pub value_cmp : Value → Value → Ordering
value_cmp (Int x) (Int y) = int_cmp x y
value_cmp (Int x) (Flag b) = Less
value_cmp (Int x) (Text t) = Less
value_cmp (Flag a) (Int y) = Greater
value_cmp (Flag a) (Flag b) = bool_cmp a b
value_cmp (Flag a) (Text t) = Less
value_cmp (Text s) (Int y) = Greater
value_cmp (Text s) (Flag b) = Greater
value_cmp (Text s) (Text t) = slice_cmp nat_cmp s t

-- value by value, and a row before each longer one that begins with it
abbrev pub row_cmp : Row → Row → Ordering
row_cmp = slice_cmp value_cmp
