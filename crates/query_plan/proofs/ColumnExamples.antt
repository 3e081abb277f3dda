-- Small queries, worked out.
use Rattle.std.specs.Prelude.{◌≡◌, ℕ, pos, true, false, Some, None, List, [], ◌∷◌, codes, refl}
use Rattle.tw_rows.specs.declared.kind.Kind.TheVariants as K
use Rattle.tw_rows.specs.declared.schema.ColumnDef.{ColumnDef}
use Rattle.plan_model.specs.declared.agg.Agg.TheVariants as A
use Rattle.plan_model.specs.declared.expr.ArithOp.TheVariants as O
use Rattle.plan_model.specs.declared.expr.CompareOp.TheVariants as C
use Rattle.plan_model.specs.declared.expr.ExprNode.TheVariants as E
use Rattle.query_text.specs.declared.query.AggFun.TheVariants as F
use Rattle.query_text.specs.declared.query.QueryAgg.{QueryAgg}
use Rattle.query_text.specs.declared.tree.TreeNode.TheVariants as N
use Rattle.query_plan.specs.Names.{column_of, key_of, expr_of, aggs_of}
use Rattle.query_plan.specs.Types.{type_of}
use Rattle.query_plan.specs.Schemas.{group_schema, join_schema, same_kinds, keys_alike, aggs_fit, averages_from, fills_fit, name_twice, key_twice}

-- the columns sym text, px int, qty int
abbrev trades : List ColumnDef
trades = record { name = codes "sym"; kind = K.Text } ∷ record { name = codes "px"; kind = K.Int } ∷ record { name = codes "qty"; kind = K.Int } ∷ []

-- an int column of that name
abbrev of_int : List ℕ → ColumnDef
of_int name = record { name = name; kind = K.Int }

qty_is_2 : column_of trades (codes "qty") ≡ Some 2
qty_is_2 = refl

q_is_none : column_of trades (codes "q") ≡ None
q_is_none = refl

-- of two columns of one name it is the first
the_first : column_of (of_int (codes "v") ∷ of_int (codes "v") ∷ []) (codes "v") ≡ Some 0
the_first = refl

a_key_in_its_order : key_of trades (codes "qty" ∷ codes "sym" ∷ []) ≡ Some (2 ∷ 0 ∷ [])
a_key_in_its_order = refl

no_key : key_of trades (codes "qty" ∷ codes "q" ∷ []) ≡ None
no_key = refl

-- px > 10
above : expr_of trades (N.Name (codes "px") ∷ N.Int (pos 10) ∷ N.Compare C.Gt 0 1 ∷ []) ≡ Some (E.Column 1 ∷ E.Int (pos 10) ∷ E.Compare C.Gt 0 1 ∷ [])
above = refl

-- min px, max px, count
three_aggregates : aggs_of trades (record { fun = F.Min; column = Some (codes "px"); name = codes "a" } ∷ record { fun = F.Max; column = Some (codes "px"); name = codes "b" } ∷ record { fun = F.Count; column = None; name = codes "c" } ∷ [])
    ≡ Some (A.Least 1 ∷ A.Greatest 1 ∷ A.Count ∷ [])
three_aggregates = refl

-- over the columns v int and p dec(2): v > 10, not v and v > 'a'
abbrev priced : List ColumnDef
priced = of_int (codes "v") ∷ record { name = codes "p"; kind = K.Dec 2 } ∷ []

above_is_bool : type_of priced (N.Name (codes "v") ∷ N.Int (pos 10) ∷ N.Compare C.Gt 0 1 ∷ []) ≡ Some K.Bool
above_is_bool = refl

no_not_of_an_int : type_of priced (N.Name (codes "v") ∷ N.Not 0 ∷ []) ≡ None
no_not_of_an_int = refl

int_and_text_clash : type_of priced (N.Name (codes "v") ∷ N.Text (codes "a") ∷ N.Compare C.Gt 0 1 ∷ []) ≡ None
int_and_text_clash = refl

-- a clash is one also where the nodes after it look well
a_clash_within : type_of priced (N.Name (codes "v") ∷ N.Not 0 ∷ N.Bool true ∷ []) ≡ None
a_clash_within = refl

no_such_column : type_of priced (N.Name (codes "w") ∷ []) ≡ None
no_such_column = refl

-- p >= 1.50 is a test, p > 1.5 and p > 1 are none
decimals_of_equal_places : type_of priced (N.Name (codes "p") ∷ N.Dec (pos 150) 2 ∷ N.Compare C.Ge 0 1 ∷ []) ≡ Some K.Bool
decimals_of_equal_places = refl

decimals_of_other_places : type_of priced (N.Name (codes "p") ∷ N.Dec (pos 15) 1 ∷ N.Compare C.Gt 0 1 ∷ []) ≡ None
decimals_of_other_places = refl

decimal_and_int_clash : type_of priced (N.Name (codes "p") ∷ N.Int (pos 1) ∷ N.Compare C.Gt 0 1 ∷ []) ≡ None
decimal_and_int_clash = refl

-- p * v and v * p are decimals, p * p is nothing, and neither is p + v
decimal_by_int : type_of priced (N.Name (codes "p") ∷ N.Name (codes "v") ∷ N.Arith O.Mul 0 1 ∷ []) ≡ Some (K.Dec 2)
decimal_by_int = refl

int_by_decimal : type_of priced (N.Name (codes "v") ∷ N.Name (codes "p") ∷ N.Arith O.Mul 0 1 ∷ []) ≡ Some (K.Dec 2)
int_by_decimal = refl

no_decimal_by_decimal : type_of priced (N.Name (codes "p") ∷ N.Name (codes "p") ∷ N.Arith O.Mul 0 1 ∷ []) ≡ None
no_decimal_by_decimal = refl

no_decimal_and_int : type_of priced (N.Name (codes "p") ∷ N.Name (codes "v") ∷ N.Arith O.Add 0 1 ∷ []) ≡ None
no_decimal_and_int = refl

-- - p is of p's kind, p div 2 is nothing
negated_decimal : type_of priced (N.Name (codes "p") ∷ N.Neg 0 ∷ []) ≡ Some (K.Dec 2)
negated_decimal = refl

no_part_of_a_decimal : type_of priced (N.Name (codes "p") ∷ N.Div 0 2 ∷ []) ≡ None
no_part_of_a_decimal = refl

-- the units stand for the decimal
units_of_a_decimal : expr_of priced (N.Dec (pos 150) 2 ∷ []) ≡ Some (E.Int (pos 150) ∷ [])
units_of_a_decimal = refl

-- k, v joined with k, w by k
joined : join_schema (of_int (codes "k") ∷ of_int (codes "v") ∷ []) (of_int (codes "k") ∷ of_int (codes "w") ∷ []) (0 ∷ []) ≡ of_int (codes "k") ∷ of_int (codes "v") ∷ of_int (codes "w") ∷ []
joined = refl

-- group by sym : sum px as t
abbrev sum_of_px : QueryAgg
sum_of_px = record { fun = F.Sum; column = Some (codes "px"); name = codes "t" }

grouped : group_schema trades (0 ∷ []) (sum_of_px ∷ []) (A.Sum 1 ∷ []) ≡ record { name = codes "sym"; kind = K.Text } ∷ of_int (codes "t") ∷ []
grouped = refl

-- a sum of decimals is one, a count is an int
sums_keep_their_kind : group_schema priced [] (record { fun = F.Sum; column = Some (codes "p"); name = codes "t" } ∷ record { fun = F.Count; column = None; name = codes "n" } ∷ []) (A.Sum 1 ∷ A.Count ∷ [])
    ≡ record { name = codes "t"; kind = K.Dec 2 } ∷ of_int (codes "n") ∷ []
sums_keep_their_kind = refl

-- the averages among avg, count, avg have the columns 1 and 3 of a group by one column
abbrev avg_of : List ℕ → QueryAgg
avg_of column = record { fun = F.Avg; column = Some column; name = codes "m" }

averages_of_three : averages_from 1 (avg_of (codes "v") ∷ record { fun = F.Count; column = None; name = codes "n" } ∷ avg_of (codes "v") ∷ []) ≡ 1 ∷ 3 ∷ []
averages_of_three = refl

averages_take_ints : aggs_fit priced (avg_of (codes "v") ∷ []) ≡ true
averages_take_ints = refl

averages_take_no_decimals : aggs_fit priced (avg_of (codes "p") ∷ []) ≡ false
averages_take_no_decimals = refl

-- literals for the columns v, p outside the key k
literals_fit : fills_fit (of_int (codes "k") ∷ priced) (0 ∷ []) (K.Int ∷ K.Dec 2 ∷ []) ≡ true
literals_fit = refl

too_few_literals : fills_fit (of_int (codes "k") ∷ priced) (0 ∷ []) (K.Int ∷ []) ≡ false
too_few_literals = refl

names_do_not_count : same_kinds (of_int (codes "a") ∷ []) (of_int (codes "b") ∷ []) ≡ true
names_do_not_count = refl

fewer_are_not_the_same : same_kinds trades (of_int (codes "a") ∷ []) ≡ false
fewer_are_not_the_same = refl

keys_of_one_kind : keys_alike trades trades (1 ∷ 0 ∷ []) (2 ∷ 0 ∷ []) ≡ true
keys_of_one_kind = refl

keys_of_two_kinds : keys_alike trades trades (1 ∷ []) (0 ∷ []) ≡ false
keys_of_two_kinds = refl

no_sum_of_texts : aggs_fit trades (record { fun = F.Count; column = None; name = codes "n" } ∷ record { fun = F.Sum; column = Some (codes "sym"); name = codes "t" } ∷ []) ≡ false
no_sum_of_texts = refl

-- also where another stands between them
a_name_twice : name_twice (of_int (codes "a") ∷ of_int (codes "b") ∷ of_int (codes "a") ∷ []) ≡ true
a_name_twice = refl

no_name_twice : name_twice trades ≡ false
no_name_twice = refl

a_column_twice : key_twice (1 ∷ 0 ∷ 1 ∷ []) ≡ true
a_column_twice = refl
