-- Examples that are computed, with their results worked out by hand.
use Rattle.std.specs.Prelude.{◌≡◌, ℕ, ℤ, pos, negsuc, true, false, List, [], ◌∷◌, codes, refl}
use Rattle.std.specs.Int.{int_wrap}
use Rattle.tw_rows.specs.Instant.{inf}
use Rattle.tw_rows.specs.Event.{Event, alive}
use Rattle.tw_rows.specs.Rows.{Row}
use Rattle.tw_rows.specs.declared.row.Value.TheVariants.{Int, Bool as Flag, Text}
use Rattle.plan_model.specs.declared.expr.ArithOp.TheVariants.{Add, Sub, Mul}
use Rattle.plan_model.specs.declared.expr.CompareOp.TheVariants.{Eq, Lt, Le, Gt}
use Rattle.plan_model.specs.declared.expr.ExprNode.{ExprNode}
use Rattle.plan_model.specs.declared.expr.ExprNode.TheVariants.{Column, Int as ConstInt, Bool as ConstBool, Text as ConstText, Neg, Not, Arith, Div, Mod, Compare, And, Or}
use Rattle.plan_model.specs.Expr.{value}
use Rattle.plan_model.specs.declared.node.Node.{Node}
use Rattle.plan_model.specs.declared.node.Node.TheVariants.{Source, Where}
use Rattle.plan_model.specs.Meaning.{Sources, events, closes, snapshots}

-- the rows of stream 0 whose first column is above 10, as of `s | where v > 10`; its root is node 1
abbrev above_ten : List Node
above_ten = Source 0 ∷ Where 0 (Column 0 ∷ ConstInt (pos 10) ∷ Compare Gt 0 1 ∷ []) ∷ []

abbrev row_of : ℕ → Row
row_of v = Int (pos v) ∷ []

abbrev event : ℕ → ℕ → ℕ → Event Row
event v start end = record { row = row_of v; start = start; end = end }

-- the stream has the value 12 over [1, 5) and the value 7 over [2, 4)
abbrev two_lives : Sources
two_lives stream = event 12 1 5 ∷ event 7 2 4 ∷ []

above_ten_events : events two_lives above_ten 1 ≡ event 12 1 5 ∷ []
above_ten_events = refl

above_ten_at_0 : snapshots two_lives above_ten 1 0 ≡ []
above_ten_at_0 = refl

above_ten_at_1 : snapshots two_lives above_ten 1 1 ≡ row_of 12 ∷ []
above_ten_at_1 = refl

above_ten_at_3 : snapshots two_lives above_ten 1 3 ≡ row_of 12 ∷ []
above_ten_at_3 = refl

above_ten_at_4 : snapshots two_lives above_ten 1 4 ≡ row_of 12 ∷ []
above_ten_at_4 = refl

above_ten_at_5 : snapshots two_lives above_ten 1 5 ≡ []
above_ten_at_5 = refl

all_rows_at_3 : snapshots two_lives above_ten 0 3 ≡ row_of 12 ∷ row_of 7 ∷ []
all_rows_at_3 = refl

-- equal rows whose lives touch at 5 are one row at each instant
abbrev touching_lives : Sources
touching_lives stream = event 12 1 5 ∷ event 12 5 8 ∷ []

touching_at_4 : snapshots touching_lives above_ten 1 4 ≡ row_of 12 ∷ []
touching_at_4 = refl

touching_at_5 : snapshots touching_lives above_ten 1 5 ≡ row_of 12 ∷ []
touching_at_5 = refl

touching_at_8 : snapshots touching_lives above_ten 1 8 ≡ []
touching_at_8 = refl

-- equal rows whose lives overlap are counted each
overlap_at_4 : alive (event 12 1 5 ∷ event 12 4 8 ∷ []) 4 ≡ row_of 12 ∷ row_of 12 ∷ []
overlap_at_4 = refl

-- a life that ends at infinity has the last instant
abbrev endless_life : Sources
endless_life stream = event 12 3 inf ∷ []

endless_at_2 : snapshots endless_life above_ten 1 2 ≡ []
endless_at_2 = refl

endless_at_last : snapshots endless_life above_ten 1 2305843009213693951 ≡ row_of 12 ∷ []
unfolding inf
endless_at_last = refl

closed_at_7 : closes above_ten 1 7 ≡ 7
closed_at_7 = refl

-- the greatest and the least number of an i64
abbrev greatest : ℤ
greatest = pos 9223372036854775807

abbrev least : ℤ
least = negsuc 9223372036854775807

abbrev minus_seven : ℤ
minus_seven = negsuc 6

-- an operator over two constants
abbrev of_two : ℤ → ℤ → ExprNode → List ExprNode
of_two x y operator = ConstInt x ∷ ConstInt y ∷ operator ∷ []

greatest_plus_one : value (of_two greatest (pos 1) (Arith Add 0 1)) [] ≡ Int least
unfolding int_wrap
greatest_plus_one = refl

least_minus_one : value (of_two least (pos 1) (Arith Sub 0 1)) [] ≡ Int greatest
unfolding int_wrap
least_minus_one = refl

-- 2^32 times 2^32 is 2^64
product_wraps_to_zero : value (of_two (pos 4294967296) (pos 4294967296) (Arith Mul 0 1)) [] ≡ Int (pos 0)
unfolding int_wrap
product_wraps_to_zero = refl

-- 9223372036854775807 squared is 1 more than a multiple of 2^64
greatest_squared : value (of_two greatest greatest (Arith Mul 0 1)) [] ≡ Int (pos 1)
unfolding int_wrap
greatest_squared = refl

least_negated : value (ConstInt least ∷ Neg 0 ∷ []) [] ≡ Int least
unfolding int_wrap
least_negated = refl

twelve_negated : value (ConstInt (pos 12) ∷ Neg 0 ∷ []) [] ≡ Int (negsuc 11)
unfolding int_wrap
twelve_negated = refl

minus_seven_div_two : value (ConstInt minus_seven ∷ Div 0 2 ∷ []) [] ≡ Int (negsuc 3)
minus_seven_div_two = refl

minus_seven_mod_two : value (ConstInt minus_seven ∷ Mod 0 2 ∷ []) [] ≡ Int (pos 1)
minus_seven_mod_two = refl

least_div_greatest : value (ConstInt least ∷ Div 0 9223372036854775807 ∷ []) [] ≡ Int (negsuc 1)
least_div_greatest = refl

least_mod_greatest : value (ConstInt least ∷ Mod 0 9223372036854775807 ∷ []) [] ≡ Int (pos 9223372036854775806)
least_mod_greatest = refl

greatest_mod_ten : value (ConstInt greatest ∷ Mod 0 10 ∷ []) [] ≡ Int (pos 7)
greatest_mod_ten = refl

least_below_greatest : value (of_two least greatest (Compare Lt 0 1)) [] ≡ Flag true
least_below_greatest = refl

minus_seven_not_below_itself : value (of_two minus_seven minus_seven (Compare Lt 0 1)) [] ≡ Flag false
minus_seven_not_below_itself = refl

minus_seven_at_most_itself : value (of_two minus_seven minus_seven (Compare Le 0 1)) [] ≡ Flag true
minus_seven_at_most_itself = refl

-- texts go by their bytes: "Z" stands before "a", and "ab" after "a"
upper_case_first : value (ConstText (codes "Z") ∷ ConstText (codes "a") ∷ Compare Lt 0 1 ∷ []) [] ≡ Flag true
upper_case_first = refl

longer_text_after : value (ConstText (codes "ab") ∷ ConstText (codes "a") ∷ Compare Gt 0 1 ∷ []) [] ≡ Flag true
longer_text_after = refl

false_before_true : value (ConstBool true ∷ ConstBool false ∷ Compare Le 0 1 ∷ []) [] ≡ Flag false
false_before_true = refl

-- v mod 7 = 0 and not (v < 0), on the row (14, "x") and on the row (-7, "x")
abbrev counted : List ExprNode
counted = Column 0 ∷ Mod 0 7 ∷ ConstInt (pos 0) ∷ Compare Eq 1 2 ∷ Column 0 ∷ Compare Lt 4 2 ∷ Not 5 ∷ And 3 6 ∷ []

counted_14 : value counted (Int (pos 14) ∷ Text (codes "x") ∷ []) ≡ Flag true
counted_14 = refl

counted_minus_7 : value counted (Int minus_seven ∷ Text (codes "x") ∷ []) ≡ Flag false
counted_minus_7 = refl

second_column : value (Column 1 ∷ []) (Int (pos 14) ∷ Text (codes "x") ∷ []) ≡ Text (codes "x")
second_column = refl

either_side : value (ConstBool false ∷ ConstBool true ∷ Or 0 1 ∷ []) [] ≡ Flag true
either_side = refl
