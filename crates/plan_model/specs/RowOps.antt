-- What nodes need of their rows. A row is a list of elements X, one for each column.
use Rattle.std.specs.Prelude.{ℕ, nat_lt, ℤ, pos, Bool, false, ◌||◌, Option, Some, None, List, [], ◌∷◌, ◌++◌, length, map, filter, slice_index_or}
use Rattle.std.specs.List.{list_any}
use Rattle.key_nodes.specs.Groups.{has_key}
use Rattle.plan_model.specs.declared.agg.Agg.{Agg}
use Rattle.plan_model.specs.declared.agg.Agg.TheVariants.{Count, Sum, Least, Greatest}
use Rattle.plan_model.specs.declared.expr.ExprNode.{ExprNode}
use Rattle.plan_model.specs.Amounts.{exact_sum, least_int, greatest_int, most_rows, is_outside_i64}

-- the element that stands in a column that is not there; whether two rows, or two lists of the elements of a key, are the
-- same; the int that an element is, and the element of an int; whether a test is true of a row, and the row of the values
-- of items
pub record RowOps (X : Type 0) : Type 0 where
  pub zero : X
  pub same : List X → List X → Bool
  pub int_of : X → ℤ
  pub of_int : ℤ → X
  pub holds : List ExprNode → List X → Bool
  pub select : List (List ExprNode) → List X → List X

-- the elements of a row in the key columns, in the order of the key. Of the row 5, 6, 7 and the columns 2 and 0: 7, 5
abbrev pub key_in : {X : Type 0} → RowOps X → List ℕ → List X → List X
key_in ops key row = map (λ column. slice_index_or row column ops.zero) key

-- whether the two rows have the same elements in all key columns
abbrev pub keys_equal_in : {X : Type 0} → RowOps X → List ℕ → List ℕ → List X → List X → Bool
keys_equal_in ops left_key right_key a b = ops.same (key_in ops left_key a) (key_in ops right_key b)

-- the int of a row in a column. An element that is not there, or is no int, reads as 0; a well-typed plan never meets that
abbrev pub int_in : {X : Type 0} → RowOps X → ℕ → List X → ℤ
int_in ops column row = ops.int_of (slice_index_or row column ops.zero)

-- the ints of rows in a column. Of (7, 2) and (7, true) in column 1: 2 and 0
abbrev pub ints_in : {X : Type 0} → RowOps X → ℕ → List (List X) → List ℤ
ints_in ops column rows = map (λ row. ops.int_of (slice_index_or row column ops.zero)) rows

-- what an aggregate makes of the rows of a group. The sum of column 1 of (7, 2) and (7, 3) is 5
abbrev pub agg_in : {X : Type 0} → RowOps X → Agg → List (List X) → ℤ
agg_in ops Count rows = pos (length rows)
agg_in ops (Sum column) rows = exact_sum (ints_in ops column rows)
agg_in ops (Least column) rows = least_int (ints_in ops column rows)
agg_in ops (Greatest column) rows = greatest_int (ints_in ops column rows)

-- the row of a group: the elements of its key, then its aggregates. Of the key 7 and the rows (7, 2) and (7, 3), with a
-- count and the sum of column 1: (7, 2, 5). Of no rows there is none
abbrev pub group_row_in : {X : Type 0} → RowOps X → List Agg → List X → List (List X) → Option (List X)
group_row_in ops aggs values [] = None
group_row_in ops aggs values (row ∷ rows) = Some (values ++ map (λ a. ops.of_int (agg_in ops a (row ∷ rows))) aggs)

-- the rows that have these elements in their key. Of (7, 2), (8, 5), (7, 3), the key column 0 and 7: (7, 2), (7, 3)
abbrev pub rows_of_key_in : {X : Type 0} → RowOps X → List ℕ → List X → List (List X) → List (List X)
rows_of_key_in ops key values rows = filter (has_key (key_in ops key) ops.same values) rows

-- the row of the group that has these elements in its key
abbrev pub row_of_group_in : {X : Type 0} → RowOps X → List ℕ → List Agg → List X → List (List X) → Option (List X)
row_of_group_in ops key aggs values rows = group_row_in ops aggs values (rows_of_key_in ops key values rows)

-- the aggregate is a sum outside i64. A count, a least and a greatest never are
abbrev pub has_large_sum_in : {X : Type 0} → RowOps X → List (List X) → Agg → Bool
has_large_sum_in ops rows Count = false
has_large_sum_in ops rows (Sum column) = is_outside_i64 (exact_sum (ints_in ops column rows))
has_large_sum_in ops rows (Least column) = false
has_large_sum_in ops rows (Greatest column) = false

-- a group of these rows is undefined: it has too many rows, or one of its sums lies outside i64
abbrev pub is_undefined_group_in : {X : Type 0} → RowOps X → List Agg → List (List X) → Bool
is_undefined_group_in ops aggs rows = nat_lt most_rows (length rows) || list_any (has_large_sum_in ops rows) aggs

-- one of the groups of the rows is undefined. By the sum of column 1, (7, 2^63 - 1) and (7, 1) together are
abbrev pub is_undefined_in : {X : Type 0} → RowOps X → List ℕ → List Agg → List (List X) → Bool
is_undefined_in ops key aggs rows = list_any (λ row. is_undefined_group_in ops aggs (rows_of_key_in ops key (key_in ops key row) rows)) rows
