-- Keys, aggregates and schemas that fit over the columns of a schema are sound over the cells of these.
use Rattle.std.specs.Prelude.{◌≡◌, ℕ, zero, suc, ◌+◌, ◌<◌, nat_eq, Bool, true, false, cond, ◌⊎◌, Option, Some, option_map, option_and_then, List, [], ◌∷◌, ◌++◌, map, length, slice_get, slice_index_or, All, refl}
use Rattle.std.specs.List.{AllZip, list_any, list_all}
use lib.Pointwise.{pointwise, pointwise_decides}
use Rattle.std.proofs.Common.{sym, ◌∙◌, ap, subst, arith, inl, inr}
use Rattle.std.proofs.lemmas.Bool.{and_parts, eq-eqb}
use Rattle.std.proofs.lemmas.List.{map-append, length-map}
use Rattle.std.proofs.lemmas.List.Elements.{All-nil, All-cons}
use Rattle.std.proofs.lemmas.Option.{same_Some, slice_get-get_or, option_and_then_some}
use Rattle.tw_rows.specs.declared.kind.CellKind.TheVariants.{Whole}
use Rattle.tw_rows.specs.declared.kind.Kind.{Kind}
use Rattle.tw_rows.specs.declared.kind.Kind.TheVariants as K
use Rattle.tw_rows.specs.declared.schema.ColumnDef.{ColumnDef}
use Rattle.tw_rows.specs.Kinds.{cell_kind_of}
use Rattle.plan_model.specs.declared.agg.Agg.{Agg}
use Rattle.plan_model.specs.declared.agg.Agg.TheVariants as A
use Rattle.plan_model.specs.declared.expr.ExprNode.{ExprNode}
use Rattle.plan_model.specs.IsPlan.{kinds_of_schema, key_kinds, IsKey, IsAggOver}
use Rattle.plan_model.specs.Keys.{outside_key, outside_from}
use Rattle.plan_model.specs.Typed.{kind_of}
use Rattle.query_text.specs.declared.query.AggFun.{AggFun}
use Rattle.query_text.specs.declared.query.AggFun.TheVariants as F
use Rattle.query_text.specs.declared.query.Item.{Item}
use Rattle.query_text.specs.declared.query.QueryAgg.{QueryAgg}
use Rattle.query_plan.specs.Names.{column_from, column_of, key_of, exprs_of, agg_over, agg_of, aggs_of}
use Rattle.query_plan.specs.Types.{same_kind, kinds, type_of, types_of}
use Rattle.query_plan.specs.Schemas.{column_at, named_columns, select_schema, agg_kind, agg_columns, group_schema, join_schema, same_kinds, kinds_of_key, keys_alike, fun_takes, fun_fits, agg_fits, aggs_fit, fills_fit}
use Rattle.query_plan.proofs.Typing.{same_kind-same, number_is_whole, option_map_some, all_of_zip, zip_long, cells_of_schema, types_of-typed}

found_cases : (b : Bool) (i : ℕ) (o : Option ℕ) (c : ℕ) → cond b (Some i) o ≡ Some c → (i ≡ c) ⊎ (o ≡ Some c)
found_cases true i o c h = inl (same_Some i c h)
found_cases false i o c h = inr h

column_from_low : (i : ℕ) (cs : List ColumnDef) (name : List ℕ) (c : ℕ) → column_from i cs name ≡ Some c → c < i + length cs
column_from_low i [] name c h = absurd (cc)
column_from_low i (d ∷ cs) name c h = elim (found_cases (pointwise nat_eq d.name name) i (column_from (suc i) cs name) c h) [
  | inl here ↦ omega arith
  | inr later ↦ let low = column_from_low (suc i) cs name c later in omega (arith, low)
]

-- a column that is named is there
pub column_of_low : (schema : List ColumnDef) (name : List ℕ) (c : ℕ) → column_of schema name ≡ Some c → c < length schema
column_of_low schema name c h = let low = column_from_low 0 schema name c h in omega (arith, low)

length_kinds : (schema : List ColumnDef) → length (kinds_of_schema schema) ≡ length schema
length_kinds schema = length-map schema (λ c. cell_kind_of c.kind)

key_is : (schema : List ColumnDef) (names : List (List ℕ)) (key : List ℕ) → AllZip (λ n c. column_of schema n ≡ Some c) names key → IsKey (kinds_of_schema schema) key
key_is schema [] [] h = All-nil (λ c. c < length (kinds_of_schema schema))
key_is schema [] (c ∷ cs) h = absurd h
key_is schema (n ∷ ns) [] h = absurd h
key_is schema (n ∷ ns) (c ∷ cs) h =
    All-cons (λ k. k < length (kinds_of_schema schema)) c cs
    (let low = column_of_low schema n c h.0 in let long = length_kinds schema in omega (arith, low, long))
    (key_is schema ns cs h.1)

-- the columns of a key that is named are there, and as many as the names
pub key_of-is : (schema : List ColumnDef) (names : List (List ℕ)) (key : List ℕ) → key_of schema names ≡ Some key → IsKey (kinds_of_schema schema) key × (length key ≡ length names)
key_of-is schema names key h =
    let zip = all_of_zip (column_of schema) names key h in
    (key_is schema names key zip, zip_long (λ n c. column_of schema n ≡ Some c) names key zip)

-- the kind of a column's cells; of a column that is not there both are an int's
column_kind : (schema : List ColumnDef) (column : ℕ) → slice_index_or (kinds_of_schema schema) column Whole ≡ cell_kind_of (column_at schema column).kind
column_kind [] column = refl
column_kind (c ∷ cs) zero = refl
column_kind (c ∷ cs) (suc column) = column_kind cs column

key_cells : (schema : List ColumnDef) (key : List ℕ) → map cell_kind_of (kinds_of_key schema key) ≡ key_kinds (kinds_of_schema schema) key
key_cells schema [] = refl
key_cells schema (c ∷ cs) = let here = column_kind schema c in let others = key_cells schema cs in λ i. sym here i ∷ others i

same_kind_decides : (a b : Kind) → (same_kind a b ≡ true → a ≡ b) × (a ≡ b → same_kind a b ≡ true)
same_kind_decides a b = (same_kind-same a b, λ e. subst (λ k. same_kind a k ≡ true) e (own a))
  where
    own : (k : Kind) → same_kind k k ≡ true
    own K.Int = refl
    own K.Bool = refl
    own K.Text = refl
    own (K.Dec places) = eq-eqb places places refl

all_same : (xs ys : List Kind) → pointwise same_kind xs ys ≡ true → xs ≡ ys
all_same xs ys h = (pointwise_decides {E = same_kind} same_kind_decides xs ys).0 h

-- keys that are alike have columns of the same kinds
pub keys_alike-same : (left right : List ColumnDef) (left_key right_key : List ℕ) → keys_alike left right left_key right_key ≡ true →
    key_kinds (kinds_of_schema left) left_key ≡ key_kinds (kinds_of_schema right) right_key
keys_alike-same left right left_key right_key h =
    sym (key_cells left left_key) ∙ (ap (map cell_kind_of) (all_same (kinds_of_key left left_key) (kinds_of_key right right_key) h) ∙ key_cells right right_key)

-- schemas with the same kinds have the same cells
pub same_kinds-same : (left right : List ColumnDef) → same_kinds left right ≡ true → kinds_of_schema left ≡ kinds_of_schema right
same_kinds-same left right h = sym (cells_of_schema left) ∙ (ap (map cell_kind_of) (all_same (kinds left) (kinds right) h) ∙ cells_of_schema right)

pub number_column : (schema : List ColumnDef) (column : ℕ) → column < length schema → cell_kind_of (column_at schema column).kind ≡ Whole → slice_get (kinds_of_schema schema) column ≡ Some Whole
number_column schema column low whole =
    slice_get-get_or (kinds_of_schema schema) column Whole (let long = length_kinds schema in omega (arith, low, long))
    ∙ ap Some (column_kind schema column ∙ whole)

-- an aggregate over the columns is sound, and is stored as a whole number
record IsFitting (schema : List ColumnDef) (g : Agg) : Type 0 where
  sound : IsAggOver (kinds_of_schema schema) g
  whole : cell_kind_of (agg_kind schema g) ≡ Whole

number_fits : (schema : List ColumnDef) (f : ℕ → Agg) (o : Option ℕ) (g : Agg) → ((c : ℕ) → o ≡ Some c → c < length schema) → ((c : ℕ) → slice_get (kinds_of_schema schema) c ≡ Some Whole → cell_kind_of (column_at schema c).kind ≡ Whole → IsFitting schema (f c)) →
    ((c : ℕ) → o ≡ Some c → cell_kind_of (column_at schema c).kind ≡ Whole) → option_map f o ≡ Some g → IsFitting schema g
number_fits schema f o g low fits whole h =
    let there = option_map_some f o g h in
    subst (IsFitting schema) there.2 (fits there.0 (number_column schema there.0 (low there.0 there.1) (whole there.0 there.1)) (whole there.0 there.1))

taken : (schema : List ColumnDef) (fun : AggFun) (o : Option ℕ) (c : ℕ) → fun_fits schema fun o ≡ true → o ≡ Some c → fun_takes fun (column_at schema c).kind ≡ true
taken schema fun o c h e = sym (ap (fun_fits schema fun) e) ∙ h

agg_over_fits : (schema : List ColumnDef) (fun : AggFun) (o : Option ℕ) (g : Agg) → ((c : ℕ) → o ≡ Some c → c < length schema) → fun_fits schema fun o ≡ true → agg_over fun o ≡ Some g → IsFitting schema g
agg_over_fits schema F.Count o g low fits h = subst (IsFitting schema) (same_Some A.Count g h) (record { sound = tt; whole = refl })
agg_over_fits schema F.Sum o g low fits h =
    number_fits schema (λ c. A.Sum c) o g low (λ c at whole. record { sound = at; whole = whole }) (λ c e. number_is_whole (column_at schema c).kind (taken schema F.Sum o c fits e)) h
agg_over_fits schema F.Min o g low fits h =
    number_fits schema (λ c. A.Least c) o g low (λ c at whole. record { sound = at; whole = whole }) (λ c e. number_is_whole (column_at schema c).kind (taken schema F.Min o c fits e)) h
agg_over_fits schema F.Max o g low fits h =
    number_fits schema (λ c. A.Greatest c) o g low (λ c at whole. record { sound = at; whole = whole }) (λ c e. number_is_whole (column_at schema c).kind (taken schema F.Max o c fits e)) h
agg_over_fits schema F.Avg o g low fits h =
    number_fits schema (λ c. A.Sum c) o g low (λ c at whole. record { sound = at; whole = whole }) (λ c e. ap cell_kind_of (same_kind-same (column_at schema c).kind K.Int (taken schema F.Avg o c fits e))) h

agg_of_fits : (schema : List ColumnDef) (a : QueryAgg) (g : Agg) → agg_fits schema a ≡ true → agg_of schema a ≡ Some g → IsFitting schema g
agg_of_fits schema a g fits h =
    agg_over_fits schema a.fun (option_and_then (column_of schema) a.column) g
    (λ c found. option_and_then_some (column_of schema) a.column c found (λ name was is. column_of_low schema name c is))
    fits h

-- aggregates over the columns are sound, as many as their texts, and stored as whole numbers
pub record AreFitting (schema : List ColumnDef) (aggs : List QueryAgg) (computed : List Agg) : Type 0 where
  pub sound : All (IsAggOver (kinds_of_schema schema)) computed
  pub long : length computed ≡ length aggs
  pub whole : map (λ g. cell_kind_of (agg_kind schema g)) computed ≡ map (λ g. Whole) computed

aggs_are : (schema : List ColumnDef) (aggs : List QueryAgg) (computed : List Agg) → AllZip (λ a g. agg_of schema a ≡ Some g) aggs computed → aggs_fit schema aggs ≡ true → AreFitting schema aggs computed
aggs_are schema [] [] h fits = record { sound = All-nil (IsAggOver (kinds_of_schema schema)); long = refl; whole = refl }
aggs_are schema [] (g ∷ gs) h fits = absurd h
aggs_are schema (a ∷ as') [] h fits = absurd h
aggs_are schema (a ∷ as') (g ∷ gs) h fits =
    let both = and_parts (agg_fits schema a) (list_all (agg_fits schema) as') fits in
    let it = agg_of_fits schema a g both.0 h.0 in
    let rest = aggs_are schema as' gs h.1 both.1 in
    record {
      sound = All-cons (IsAggOver (kinds_of_schema schema)) g gs it.sound rest.sound;
      long = ap suc rest.long;
      whole = λ i. it.whole i ∷ rest.whole i;
    }

pub aggs_of-are : (schema : List ColumnDef) (aggs : List QueryAgg) (computed : List Agg) → aggs_of schema aggs ≡ Some computed → aggs_fit schema aggs ≡ true → AreFitting schema aggs computed
aggs_of-are schema aggs computed h fits = aggs_are schema aggs computed (all_of_zip (agg_of schema) aggs computed h) fits

named_cells : {X : Type 0} (name : X → List ℕ) (xs : List X) (ks : List Kind) → length xs ≡ length ks → kinds_of_schema (named_columns name xs ks) ≡ map cell_kind_of ks
named_cells name [] [] same = refl
named_cells name [] (k ∷ ks) same = absurd (omega arith)
named_cells name (x ∷ xs) [] same = absurd (omega arith)
named_cells name (x ∷ xs) (k ∷ ks) same = ap (λ l. cell_kind_of k ∷ l) (named_cells name xs ks (omega arith))

-- the columns of a select have the kinds of its expressions
pub kinds-select_schema : (schema : List ColumnDef) (items : List Item) (exprs : List (List ExprNode)) (ks : List Kind) → exprs_of schema items ≡ Some exprs → types_of schema items ≡ Some ks →
    kinds_of_schema (select_schema items ks) ≡ map (λ item. kind_of item (kinds_of_schema schema)) exprs
kinds-select_schema schema items exprs ks named typed =
    let kinds_long = zip_long (λ i k. type_of schema i.tree ≡ Some k) items ks (all_of_zip (λ i. type_of schema i.tree) items ks typed) in
    named_cells (λ i. i.name) items ks (sym kinds_long) ∙ sym (types_of-typed schema items exprs ks named typed).1

key_columns : (schema : List ColumnDef) (key : List ℕ) → kinds_of_schema (map (column_at schema) key) ≡ key_kinds (kinds_of_schema schema) key
key_columns schema [] = refl
key_columns schema (c ∷ cs) = let here = column_kind schema c in let others = key_columns schema cs in λ i. sym here i ∷ others i

map_map_kinds : (schema : List ColumnDef) (gs : List Agg) → map cell_kind_of (map (agg_kind schema) gs) ≡ map (λ g. cell_kind_of (agg_kind schema g)) gs
map_map_kinds schema [] = refl
map_map_kinds schema (g ∷ gs) = ap (λ l. cell_kind_of (agg_kind schema g) ∷ l) (map_map_kinds schema gs)

-- the columns of a group have the kinds of its key, and then whole numbers
pub kinds-group_schema : (schema : List ColumnDef) (key : List ℕ) (aggs : List QueryAgg) (computed : List Agg) → AreFitting schema aggs computed →
    kinds_of_schema (group_schema schema key aggs computed) ≡ key_kinds (kinds_of_schema schema) key ++ map (λ a. Whole) computed
kinds-group_schema schema key aggs computed fit =
    map-append (λ c. cell_kind_of c.kind) (map (column_at schema) key) (agg_columns schema aggs computed)
    ∙ (ap (λ l. l ++ kinds_of_schema (agg_columns schema aggs computed)) (key_columns schema key)
    ∙ ap (λ l. key_kinds (kinds_of_schema schema) key ++ l)
    (named_cells (λ a. a.name) aggs (map (agg_kind schema) computed) (sym fit.long ∙ sym (length-map computed (agg_kind schema)))
    ∙ (map_map_kinds schema computed ∙ fit.whole)))

map_kept : {X Y : Type 0} (f : X → Y) (b : Bool) (x : X) (xs : List X) (ys : List Y) → map f xs ≡ ys → map f (cond b xs (x ∷ xs)) ≡ cond b ys (f x ∷ ys)
map_kept f true x xs ys same = same
map_kept f false x xs ys same = ap (λ l. f x ∷ l) same

map_outside : {X Y : Type 0} (f : X → Y) (column : ℕ) (key : List ℕ) (xs : List X) → map f (outside_from column key xs) ≡ outside_from column key (map f xs)
map_outside f column key [] = refl
map_outside f column key (x ∷ xs) = map_kept f (list_any (nat_eq column) key) x (outside_from (suc column) key xs) (outside_from (suc column) key (map f xs)) (map_outside f (suc column) key xs)

-- the columns of a join have the kinds of those on the left, and then of those on the right outside the key
pub kinds-join_schema : (left right : List ColumnDef) (right_key : List ℕ) → kinds_of_schema (join_schema left right right_key) ≡ kinds_of_schema left ++ outside_key right_key (kinds_of_schema right)
kinds-join_schema left right right_key =
    map-append (λ c. cell_kind_of c.kind) left (outside_key right_key right)
    ∙ ap (λ l. kinds_of_schema left ++ l) (map_outside (λ c. cell_kind_of c.kind) 0 right_key right)

-- no aggregates
pub no_aggs : (schema : List ColumnDef) → AreFitting schema [] []
no_aggs schema = record { sound = All-nil (IsAggOver (kinds_of_schema schema)); long = refl; whole = refl }

-- literals that fit are of the kinds of the right columns outside the key
pub fills_fit-same : (right : List ColumnDef) (right_key : List ℕ) (ks : List Kind) → fills_fit right right_key ks ≡ true → outside_key right_key (kinds_of_schema right) ≡ map cell_kind_of ks
fills_fit-same right right_key ks h =
    sym (map_outside (λ c. cell_kind_of c.kind) 0 right_key right)
    ∙ (sym (cells_of_schema (outside_key right_key right)) ∙ ap (map cell_kind_of) (all_same (kinds (outside_key right_key right)) ks h))
