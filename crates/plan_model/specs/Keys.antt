-- Rows of values, and their key columns. A key is the list of the columns' numbers.
use Rattle.std.specs.Prelude.{ℕ, suc, nat_eq, Bool, cond, List, [], ◌∷◌, ◌++◌}
use Rattle.std.specs.List.{list_any}
use Rattle.std.specs.Ordering.{eq_by_cmp}
use Rattle.tw_rows.specs.declared.row.Value.{Value}
use Rattle.tw_rows.specs.declared.row.Value.TheVariants.{Int}
use Rattle.tw_rows.specs.Rows.{Row, row_cmp}
use Rattle.plan_model.specs.Expr.{zero_value, int_of, holds, selected_row}
use Rattle.plan_model.specs.RowOps.{RowOps, key_in, keys_equal_in}

-- whether two rows, or two lists of the values of a key, are equal
abbrev pub rows_equal : Row → Row → Bool
rows_equal a b = eq_by_cmp row_cmp a b

-- what nodes need of rows of values
abbrev pub value_ops : RowOps Value
value_ops = record { zero = zero_value; same = rows_equal; int_of = int_of; of_int = Int; holds = holds; select = selected_row }

-- the values of a row in the key columns, in the order of the key. Of the row 5, 6, 7 and the columns 2 and 0: 7, 5.
-- A column that the row does not have reads as 0; a well-typed plan never meets that
abbrev pub key_values : List ℕ → Row → Row
key_values key row = key_in value_ops key row

-- whether the two rows have equal values in all key columns
abbrev pub keys_equal : List ℕ → List ℕ → Row → Row → Bool
keys_equal left_key right_key a b = keys_equal_in value_ops left_key right_key a b

-- of items of which the first stands in that column, those that stand in no key column
abbrev pub outside_from : {X : Type 0} → ℕ → List ℕ → List X → List X
outside_from column key [] = []
outside_from column key (x ∷ xs) = cond (list_any (nat_eq column) key) (outside_from (suc column) key xs) (x ∷ outside_from (suc column) key xs)

-- the values of a row, or what else stands in each of its columns, but for the key columns, in order. Of 5, 6, 7 and the
-- column 1: 5, 7
abbrev pub outside_key : {X : Type 0} → List ℕ → List X → List X
outside_key key row = outside_from 0 key row

-- the left row, followed by what the right row has in no column of its key. Of 1, 2 and 1, 3 and the key 0: 1, 2, 3
abbrev pub paired_row : {X : Type 0} → List ℕ → List X → List X → List X
paired_row right_key a b = a ++ outside_key right_key b
