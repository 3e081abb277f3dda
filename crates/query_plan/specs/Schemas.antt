-- The columns that steps make, and how keys, aggregates and schemas fit together.
use Rattle.std.specs.Prelude.{ℕ, suc, nat_eq, Bool, true, false, ◌||◌, if◌then◌else◌, Option, Some, None, option_and_then, List, [], ◌∷◌, ◌++◌, map, slice_index_or, codes}
use Rattle.std.specs.List.{list_any, list_all}
use lib.Pointwise.{pointwise}
use Rattle.tw_rows.specs.declared.kind.Kind.{Kind}
use Rattle.tw_rows.specs.declared.kind.Kind.TheVariants as K
use Rattle.tw_rows.specs.declared.schema.ColumnDef.{ColumnDef}
use Rattle.plan_model.specs.declared.agg.Agg.{Agg}
use Rattle.plan_model.specs.declared.agg.Agg.TheVariants as A
use Rattle.plan_model.specs.Keys.{outside_key}
use Rattle.query_text.specs.declared.query.AggFun.{AggFun}
use Rattle.query_text.specs.declared.query.AggFun.TheVariants as F
use Rattle.query_text.specs.declared.query.QueryAgg.{QueryAgg}
use Rattle.query_text.specs.declared.query.Item.{Item}
use Rattle.query_plan.specs.Names.{column_of}
use Rattle.query_plan.specs.Types.{same_kind, is_number, kinds}

-- what stands where a schema has no such column; the columns of a key are there
abbrev pub no_column : ColumnDef
no_column = record { name = []; kind = K.Int }

-- the column of that number
abbrev pub column_at : List ColumnDef → ℕ → ColumnDef
column_at schema column = slice_index_or schema column no_column

-- a column for each of the list, of the name that it has and the kind that stands beside it
abbrev pub named_columns : {X : Type 0} → (X → List ℕ) → List X → List Kind → List ColumnDef
named_columns name [] ks = []
named_columns name (x ∷ xs) [] = []
named_columns name (x ∷ xs) (k ∷ ks) = record { name = name x; kind = k } ∷ named_columns name xs ks

-- the columns of a select: each item's name, with the kind of its expression
abbrev pub select_schema : List Item → List Kind → List ColumnDef
select_schema items ks = named_columns (λ i. i.name) items ks

-- the kind of an aggregate: a count is an int, the others are of their column's kind
abbrev pub agg_kind : List ColumnDef → Agg → Kind
agg_kind schema A.Count = K.Int
agg_kind schema (A.Sum column) = (column_at schema column).kind
agg_kind schema (A.Least column) = (column_at schema column).kind
agg_kind schema (A.Greatest column) = (column_at schema column).kind

-- the columns of the aggregates
abbrev pub agg_columns : List ColumnDef → List QueryAgg → List Agg → List ColumnDef
agg_columns schema aggs computed = named_columns (λ a. a.name) aggs (map (agg_kind schema) computed)

-- the columns of a group: its key, then its aggregates
abbrev pub group_schema : List ColumnDef → List ℕ → List QueryAgg → List Agg → List ColumnDef
group_schema schema key aggs computed = map (column_at schema) key ++ agg_columns schema aggs computed

-- the column of the count by which averages are divided. No query can give a column this name
abbrev pub count_column : ColumnDef
count_column = record { name = codes "count"; kind = K.Int }

-- the columns of a join: the left ones, then the right ones that stand in no key
abbrev pub join_schema : List ColumnDef → List ColumnDef → List ℕ → List ColumnDef
join_schema left right right_key = left ++ outside_key right_key right

-- whether two schemas have the same kinds, column by column
abbrev pub same_kinds : List ColumnDef → List ColumnDef → Bool
same_kinds left right = pointwise same_kind (kinds left) (kinds right)

-- the kinds of the columns of a key
abbrev pub kinds_of_key : List ColumnDef → List ℕ → List Kind
kinds_of_key schema key = map (λ column. (column_at schema column).kind) key

-- whether the columns of two keys have the same kinds, one by one
abbrev pub keys_alike : List ColumnDef → List ColumnDef → List ℕ → List ℕ → Bool
keys_alike left right left_key right_key = pointwise same_kind (kinds_of_key left left_key) (kinds_of_key right right_key)

-- whether an aggregate takes values of the kind: what is summed or compared is a number, and what is averaged an int
abbrev pub fun_takes : AggFun → Kind → Bool
fun_takes F.Count k = true
fun_takes F.Sum k = is_number k
fun_takes F.Min k = is_number k
fun_takes F.Max k = is_number k
fun_takes F.Avg k = same_kind k K.Int

-- whether an aggregate takes the values of that column, if there is one
abbrev pub fun_fits : List ColumnDef → AggFun → Option ℕ → Bool
fun_fits schema fun None = true
fun_fits schema fun (Some column) = fun_takes fun (column_at schema column).kind

abbrev pub agg_fits : List ColumnDef → QueryAgg → Bool
agg_fits schema a = fun_fits schema a.fun (option_and_then (column_of schema) a.column)

abbrev pub aggs_fit : List ColumnDef → List QueryAgg → Bool
aggs_fit schema aggs = list_all (agg_fits schema) aggs

-- whether an aggregate is an average
abbrev pub is_avg : AggFun → Bool
is_avg F.Count = false
is_avg F.Sum = false
is_avg F.Min = false
is_avg F.Max = false
is_avg F.Avg = true

-- the numbers of the columns of averages, where the first aggregate has the column of number `at`
abbrev pub averages_from : ℕ → List QueryAgg → List ℕ
averages_from at [] = []
averages_from at (a ∷ as') = if is_avg a.fun then at ∷ averages_from (suc at) as' else averages_from (suc at) as'

-- whether the literals of a `left` are of the kinds of the right columns outside the key, one for each
abbrev pub fills_fit : List ColumnDef → List ℕ → List Kind → Bool
fills_fit right right_key ks = pointwise same_kind (kinds (outside_key right_key right)) ks

-- whether one of the list stands in it again, behind itself
abbrev pub has_twice : {X : Type 0} → (X → X → Bool) → List X → Bool
has_twice same [] = false
has_twice same (x ∷ xs) = list_any (same x) xs || has_twice same xs

-- whether two columns of a schema have one name
abbrev pub same_name : ColumnDef → ColumnDef → Bool
same_name a b = pointwise nat_eq a.name b.name

abbrev pub name_twice : List ColumnDef → Bool
name_twice schema = has_twice same_name schema

-- whether a key names a column twice
abbrev pub key_twice : List ℕ → Bool
key_twice key = has_twice nat_eq key
