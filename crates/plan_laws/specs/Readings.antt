-- Readings: rows of one kind as rows of another, element by element. Cells are read as values where each place is read
-- as a text.
use Rattle.std.specs.Prelude.{◌≡◌, ℕ, ℤ, Bool, true, false, List, map}
use Rattle.tw_rows.specs.declared.row.Value.{Value}
use Rattle.tw_rows.specs.declared.row.Value.TheVariants.{Int, Bool as Flag, Text}
use Rattle.tw_rows.specs.declared.cells.Datum.{Datum}
use Rattle.tw_rows.specs.declared.cells.Datum.TheVariants.{Int as IntDatum, Bool as FlagDatum, Text as PlaceDatum}
use Rattle.plan_model.specs.declared.node.Node.{Node}
use Rattle.plan_model.specs.declared.node.Node.TheVariants.{Where, Select}
use Rattle.plan_model.specs.RowOps.{RowOps}

-- the node computes expressions, in which a text stands as itself whatever the table: a Where or a Select
abbrev pub has_expressions : Node → Bool
has_expressions (Where of test) = true
has_expressions (Select of items) = true
has_expressions node = false

-- f reads elements X as elements Y, as places are read as texts: rows are the same after it exactly where they were
-- before, an element keeps the int that it is, and what is made of an int, or stands in a column that is not there, is
-- read as that
pub record IsReading {X Y : Type 0} (f : X → Y) (before : RowOps X) (after : RowOps Y) : Type 0 where
  pub zero : f before.zero ≡ after.zero
  pub same : (a b : List X) → after.same (map f a) (map f b) ≡ before.same a b
  pub int_of : (x : X) → after.int_of (f x) ≡ before.int_of x
  pub of_int : (z : ℤ) → f (before.of_int z) ≡ after.of_int z

-- the value of a datum, if each place is a text. With `a` at the place 1, the place 1 is read as `a`, and 7 as 7
abbrev pub value_by : (ℕ → List ℕ) → Datum → Value
value_by text (IntDatum x) = Int x
value_by text (FlagDatum b) = Flag b
value_by text (PlaceDatum id) = Text (text id)

-- different places have different texts
abbrev pub AreApart : (ℕ → List ℕ) → Type 0
AreApart text = (i j : ℕ) → text i ≡ text j → i ≡ j
