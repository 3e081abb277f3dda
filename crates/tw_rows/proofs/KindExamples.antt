-- Values and the kinds of columns that they fit, worked out.
use Rattle.std.specs.Prelude.{◌≡◌, pos, true, refl}
use Rattle.tw_rows.specs.declared.kind.Kind.TheVariants.{Int, Bool as Flag, Text, Dec}
use Rattle.tw_rows.specs.declared.kind.CellKind.TheVariants.{Place}
use Rattle.tw_rows.specs.declared.row.Value.TheVariants.{Int as IntValue, Bool as FlagValue}
use Rattle.tw_rows.specs.Kinds.{cell_kind_of, FitsKind}

-- a number fits a column of ints, and one of decimals, however many places these have
a_number_fits_ints : FitsKind (IntValue (pos 125)) Int
a_number_fits_ints = refl

a_number_fits_decimals : FitsKind (IntValue (pos 125)) (Dec 2)
a_number_fits_decimals = refl

-- a truth value and a text fit their own kinds
a_truth_value_fits : FitsKind (FlagValue true) Flag
a_truth_value_fits = refl

-- decimals of different places are stored alike, and neither as texts are
decimals_are_whole : cell_kind_of (Dec 1) ≡ cell_kind_of (Dec 18)
decimals_are_whole = refl

texts_are_places : cell_kind_of Text ≡ Place
texts_are_places = refl
