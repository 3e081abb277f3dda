-- An expression that has a kind is well typed over the cells of the columns, and its cells are those of that kind.
use Rattle.std.specs.Prelude.{◌≡◌, ℕ, suc, ◌-◌, Bool, true, false, cond, ◌&&◌, Option, Some, None, option_map, option_and_then, List, [], ◌∷◌, ◌++◌, map, length, slice_get, slice_index_or, All, refl}
use Rattle.std.specs.List.{AllZip}
use Rattle.std.proofs.Common.{sym, ◌∙◌, ap, subst, arith, append_assoc, append-nil}
use Rattle.std.proofs.lemmas.Bool.{and_parts, eqb-true}
use Rattle.std.proofs.lemmas.List.{map-append, length-map}
use Rattle.std.proofs.lemmas.List.Elements.{All-nil, All-cons}
use Rattle.std.proofs.lemmas.Option.{same_Some, slice_get-map, slice_get_within, get_or_from_slice_get, option_and_then_some}
use Rattle.tw_rows.specs.declared.kind.CellKind.{CellKind}
use Rattle.tw_rows.specs.declared.kind.CellKind.TheVariants.{Whole}
use Rattle.tw_rows.specs.declared.kind.Kind.{Kind}
use Rattle.tw_rows.specs.declared.kind.Kind.TheVariants as K
use Rattle.tw_rows.specs.declared.schema.ColumnDef.{ColumnDef}
use Rattle.tw_rows.specs.Kinds.{cell_kind_of}
use Rattle.plan_model.specs.declared.expr.ArithOp.{ArithOp}
use Rattle.plan_model.specs.declared.expr.ArithOp.TheVariants as O
use Rattle.plan_model.specs.declared.expr.ExprNode.{ExprNode}
use Rattle.plan_model.specs.declared.expr.ExprNode.TheVariants as E
use Rattle.plan_model.specs.IsPlan.{kinds_of_schema, IsExprOver}
use Rattle.plan_model.specs.Typed.{node_kind, IsTypedNode, AreTyped, IsTyped, kind_of}
use Rattle.query_text.specs.declared.query.Item.{Item}
use Rattle.query_text.specs.declared.tree.TreeNode.{TreeNode}
use Rattle.query_text.specs.declared.tree.TreeNode.TheVariants as N
use Rattle.query_plan.specs.Names.{all_of, column_of, node_of, expr_of, exprs_of, tree_exprs}
use Rattle.query_plan.specs.Types.{same_kind, is_number, kinds, if_kind, if_alike, number, sum_kind, product_kind, arith_kind, node_type, types_from, type_of, types_of, tree_types}

-- two kinds that are told to be one are one
pub same_kind-same : (a b : Kind) → same_kind a b ≡ true → a ≡ b
same_kind-same K.Int K.Int h = refl
same_kind-same K.Int K.Bool h = absurd (cc)
same_kind-same K.Int K.Text h = absurd (cc)
same_kind-same K.Int (K.Dec b) h = absurd (cc)
same_kind-same K.Bool K.Int h = absurd (cc)
same_kind-same K.Bool K.Bool h = refl
same_kind-same K.Bool K.Text h = absurd (cc)
same_kind-same K.Bool (K.Dec b) h = absurd (cc)
same_kind-same K.Text K.Int h = absurd (cc)
same_kind-same K.Text K.Bool h = absurd (cc)
same_kind-same K.Text K.Text h = refl
same_kind-same K.Text (K.Dec b) h = absurd (cc)
same_kind-same (K.Dec a) K.Int h = absurd (cc)
same_kind-same (K.Dec a) K.Bool h = absurd (cc)
same_kind-same (K.Dec a) K.Text h = absurd (cc)
same_kind-same (K.Dec a) (K.Dec b) h = ap (λ n. K.Dec n) (eqb-true a b h)

-- numbers are stored as whole numbers
pub number_is_whole : (k : Kind) → is_number k ≡ true → cell_kind_of k ≡ Whole
number_is_whole K.Int h = refl
number_is_whole K.Bool h = absurd (cc)
number_is_whole K.Text h = absurd (cc)
number_is_whole (K.Dec places) h = refl

-- what was mapped where something came of it
pub option_map_some : {A B : Type 0} (f : A → B) (o : Option A) (y : B) → option_map f o ≡ Some y → (x : A) × (o ≡ Some x) × (f x ≡ y)
option_map_some f None y h = absurd (cc)
option_map_some f (Some x) y h = (x, refl, same_Some (f x) y h)

-- where all are told, the first is told, and so are the others
all_of_first : {X : Type 0} (o : Option X) (os : List (Option X)) (ys : List X) → all_of (o ∷ os) ≡ Some ys → (x : X) × (zs : List X) × (o ≡ Some x) × (all_of os ≡ Some zs) × (x ∷ zs ≡ ys)
all_of_first None os ys h = absurd (cc)
all_of_first (Some x) os ys h = let rest = option_map_some (λ zs. x ∷ zs) (all_of os) ys h in (x, rest.0, refl, rest.1, rest.2)

-- each of them is what came of its own
pub all_of_zip : {A B : Type 0} (f : A → Option B) (xs : List A) (ys : List B) → all_of (map f xs) ≡ Some ys → AllZip (λ x y. f x ≡ Some y) xs ys
all_of_zip f [] [] h = tt
all_of_zip f [] (y ∷ ys) h = absurd (cc)
all_of_zip f (x ∷ xs) ys h =
    let told = all_of_first (f x) (map f xs) ys h in
    subst (λ l. AllZip (λ a b. f a ≡ Some b) (x ∷ xs) l) told.4 (told.2, all_of_zip f xs told.1 told.3)

-- and there are as many
pub zip_long : {A B : Type 0} (R : A → B → Type 0) (xs : List A) (ys : List B) → AllZip R xs ys → length ys ≡ length xs
zip_long R [] [] h = refl
zip_long R [] (y ∷ ys) h = absurd h
zip_long R (x ∷ xs) [] h = absurd h
zip_long R (x ∷ xs) (y ∷ ys) h = ap suc (zip_long R xs ys h.1)

given_where : (b : Bool) (given : Option Kind) (k : Kind) → cond b given None ≡ Some k → (b ≡ true) × (given ≡ Some k)
given_where true given k h = (refl, h)
given_where false given k h = absurd (cc)

-- the operand is there and of the kind
if_kind_some : (wanted : Kind) (o given : Option Kind) (k : Kind) → if_kind wanted o given ≡ Some k → (o ≡ Some wanted) × (given ≡ Some k)
if_kind_some wanted None given k h = absurd (cc)
if_kind_some wanted (Some a) given k h =
    let both = given_where (same_kind a wanted) given k h in
    (ap Some (same_kind-same a wanted both.0), both.1)

if_alike_some : (left right given : Option Kind) (k : Kind) → if_alike left right given ≡ Some k → (kind : Kind) × (left ≡ Some kind) × (right ≡ Some kind) × (given ≡ Some k)
if_alike_some None right given k h = absurd (cc)
if_alike_some (Some a) right given k h = let there = if_kind_some a right given k h in (a, refl, there.0, there.1)

-- how values of these kinds are stored
abbrev cells : List Kind → List CellKind
cells ks = map cell_kind_of ks

operand_cell : (before : List Kind) (i : ℕ) (k : Kind) → slice_get before i ≡ Some k → slice_get (cells before) i ≡ Some (cell_kind_of k)
operand_cell before i k h = slice_get-map cell_kind_of before i ∙ ap (option_map cell_kind_of) h

-- the kind of a number, which is what it is of
number_some : (k kind : Kind) → number k ≡ Some kind → (k ≡ kind) × (cell_kind_of k ≡ Whole)
number_some k kind h =
    let both = given_where (is_number k) (Some k) kind h in
    (same_Some k kind both.1, number_is_whole k both.0)

operands_are : (rule : Kind → Kind → Option Kind) (left right : Option Kind) (k : Kind) → option_and_then (λ l. option_and_then (rule l) right) left ≡ Some k →
    (a : Kind) × (b : Kind) × (left ≡ Some a) × (right ≡ Some b) × (rule a b ≡ Some k)
operands_are rule None right k h = absurd (cc)
operands_are rule (Some a) None k h = absurd (cc)
operands_are rule (Some a) (Some b) k h = (a, b, refl, refl, h)

-- what arithmetic takes and gives is stored as whole numbers
record AreWhole (a b k : Kind) : Type 0 where
  left : cell_kind_of a ≡ Whole
  right : cell_kind_of b ≡ Whole
  given : cell_kind_of k ≡ Whole

sum_whole : (a b k : Kind) → sum_kind a b ≡ Some k → AreWhole a b k
sum_whole a b k h =
    let both = given_where (is_number a && same_kind b a) (Some a) k h in
    let parts = and_parts (is_number a) (same_kind b a) both.0 in
    let whole = number_is_whole a parts.0 in
    record {
      left = whole;
      right = ap cell_kind_of (same_kind-same b a parts.1) ∙ whole;
      given = ap cell_kind_of (sym (same_Some a k both.1)) ∙ whole;
    }

product_whole : (a b k : Kind) → product_kind a b ≡ Some k → AreWhole a b k
product_whole K.Int b k h = let it = number_some b k h in record { left = refl; right = it.1; given = ap cell_kind_of (sym it.0) ∙ it.1 }
product_whole K.Bool b k h = absurd (cc)
product_whole K.Text b k h = absurd (cc)
product_whole (K.Dec a) K.Int k h = record { left = refl; right = refl; given = ap cell_kind_of (sym (same_Some (K.Dec a) k h)) }
product_whole (K.Dec a) K.Bool k h = absurd (cc)
product_whole (K.Dec a) K.Text k h = absurd (cc)
product_whole (K.Dec a) (K.Dec b) k h = absurd (cc)

arith_whole : (op : ArithOp) (a b k : Kind) → arith_kind op a b ≡ Some k → AreWhole a b k
arith_whole O.Add a b k h = sum_whole a b k h
arith_whole O.Sub a b k h = sum_whole a b k h
arith_whole O.Mul a b k h = product_whole a b k h

-- a node over cells of these kinds that is well typed, and gives cells of kind k
record IsTypedAs (columns before : List CellKind) (k : Kind) (n : ExprNode) : Type 0 where
  typed : IsTypedNode columns before n
  kind : node_kind columns n ≡ cell_kind_of k

column_typed : (columns : List Kind) (before : List CellKind) (column : ℕ) (k : Kind) → slice_get columns column ≡ Some k → IsTypedAs (cells columns) before k (E.Column column)
column_typed columns before column k h = record {
  typed = let low = slice_get_within columns column k h in let long = length-map columns cell_kind_of in omega (arith, low, long);
  kind = get_or_from_slice_get (cells columns) column (cell_kind_of k) Whole (operand_cell columns column k h);
}

whole_operand : (before : List Kind) (i : ℕ) (k : Kind) → slice_get before i ≡ Some k → cell_kind_of k ≡ Whole → slice_get (cells before) i ≡ Some Whole
whole_operand before i k h whole = operand_cell before i k h ∙ ap Some whole

-- a node that has nothing to look up
as_it_is : (schema : List ColumnDef) (before : List Kind) (m n : ExprNode) (j k : Kind) → ◌≡◌ {A = Option ExprNode} (Some m) (Some n) → ◌≡◌ {A = Option Kind} (Some j) (Some k) →
    IsTypedNode (cells (kinds schema)) (cells before) m → node_kind (cells (kinds schema)) m ≡ cell_kind_of j → IsTypedAs (cells (kinds schema)) (cells before) k n
as_it_is schema before m n j k is of typed kind =
    subst (IsTypedAs (cells (kinds schema)) (cells before) k) (same_Some m n is)
    (record { typed = typed; kind = kind ∙ ap cell_kind_of (same_Some j k of) })

-- a node that has a kind is well typed, with the number of the column in place of its name
node_typed : (schema : List ColumnDef) (before : List Kind) (t : TreeNode) (k : Kind) (n : ExprNode) → node_type schema before t ≡ Some k → node_of schema t ≡ Some n → IsTypedAs (cells (kinds schema)) (cells before) k n
node_typed schema before (N.Name name) k n h is =
    let named = option_map_some (λ c. E.Column c) (column_of schema name) n is in
    subst (IsTypedAs (cells (kinds schema)) (cells before) k) named.2
    (option_and_then_some (slice_get (kinds schema)) (column_of schema name) k h (λ c found there.
    column_typed (kinds schema) (cells before) named.0 k
    (subst (λ x. slice_get (kinds schema) x ≡ Some k) (same_Some c named.0 (sym found ∙ named.1)) there)))
node_typed schema before (N.Int x) k n h is = as_it_is schema before (E.Int x) n K.Int k is h tt refl
node_typed schema before (N.Dec units places) k n h is = as_it_is schema before (E.Int units) n (K.Dec places) k is h tt refl
node_typed schema before (N.Bool b) k n h is = as_it_is schema before (E.Bool b) n K.Bool k is h tt refl
node_typed schema before (N.Text text) k n h is = as_it_is schema before (E.Text text) n K.Text k is h tt refl
node_typed schema before (N.Neg of) k n h is =
    option_and_then_some number (slice_get before of) k h (λ a found numbered.
    let it = number_some a k numbered in
    as_it_is schema before (E.Neg of) n a k is (ap Some it.0) (whole_operand before of a found it.1) (sym it.1))
node_typed schema before (N.Not of) k n h is =
    let there = if_kind_some K.Bool (slice_get before of) (Some K.Bool) k h in
    as_it_is schema before (E.Not of) n K.Bool k is there.1 (operand_cell before of K.Bool there.0) refl
node_typed schema before (N.Arith op left right) k n h is =
    let are = operands_are (arith_kind op) (slice_get before left) (slice_get before right) k h in
    let whole = arith_whole op are.0 are.1 k are.4 in
    as_it_is schema before (E.Arith op left right) n k k is refl (whole_operand before left are.0 are.2 whole.left, whole_operand before right are.1 are.3 whole.right) (sym whole.given)
node_typed schema before (N.Div of by) k n h is =
    let there = if_kind_some K.Int (slice_get before of) (Some K.Int) k h in
    as_it_is schema before (E.Div of by) n K.Int k is there.1 (operand_cell before of K.Int there.0) refl
node_typed schema before (N.Mod of by) k n h is =
    let there = if_kind_some K.Int (slice_get before of) (Some K.Int) k h in
    as_it_is schema before (E.Mod of by) n K.Int k is there.1 (operand_cell before of K.Int there.0) refl
node_typed schema before (N.Compare op left right) k n h is =
    let there = if_alike_some (slice_get before left) (slice_get before right) (Some K.Bool) k h in
    as_it_is schema before (E.Compare op left right) n K.Bool k is there.3
    (cell_kind_of there.0, operand_cell before left there.0 there.1, operand_cell before right there.0 there.2) refl
node_typed schema before (N.And left right) k n h is =
    let there = if_kind_some K.Bool (slice_get before left) (if_kind K.Bool (slice_get before right) (Some K.Bool)) k h in
    let beside = if_kind_some K.Bool (slice_get before right) (Some K.Bool) k there.1 in
    as_it_is schema before (E.And left right) n K.Bool k is beside.1 (operand_cell before left K.Bool there.0, operand_cell before right K.Bool beside.0) refl
node_typed schema before (N.Or left right) k n h is =
    let there = if_kind_some K.Bool (slice_get before left) (if_kind K.Bool (slice_get before right) (Some K.Bool)) k h in
    let beside = if_kind_some K.Bool (slice_get before right) (Some K.Bool) k there.1 in
    as_it_is schema before (E.Or left right) n K.Bool k is beside.1 (operand_cell before left K.Bool there.0, operand_cell before right K.Bool beside.0) refl

-- so are all nodes, and the kinds found are theirs
record AllTyped (columns before : List CellKind) (ts : List Kind) (ns : List ExprNode) : Type 0 where
  typed : AreTyped columns before ns
  kinds_are : cells ts ≡ before ++ map (node_kind columns) ns

types_typed : (schema : List ColumnDef) (before : List Kind) (trees : List TreeNode) (ts : List Kind) (ns : List ExprNode) → types_from schema before trees ≡ Some ts → all_of (map (node_of schema) trees) ≡ Some ns →
    AllTyped (cells (kinds schema)) (cells before) ts ns
types_typed schema before [] ts ns h is =
    subst (AllTyped (cells (kinds schema)) (cells before) ts) (same_Some [] ns is)
    (record { typed = tt; kinds_are = sym (ap cells (same_Some before ts h)) ∙ sym (append-nil (cells before)) })
types_typed schema before (t ∷ trees) ts ns h is =
    let told = all_of_first (node_of schema t) (map (node_of schema) trees) ns is in
    let columns = cells (kinds schema) in
    subst (AllTyped columns (cells before) ts) told.4
    (option_and_then_some (λ k. types_from schema (before ++ k ∷ []) trees) (node_type schema before t) ts h
    (λ k here rest.
    let it = node_typed schema before t k told.0 here told.2 in
    let others = types_typed schema (before ++ k ∷ []) trees ts told.1 rest told.3 in
    let more : cells (before ++ k ∷ []) ≡ cells before ++ node_kind columns told.0 ∷ [] = map-append cell_kind_of before (k ∷ []) ∙ ap (λ c. cells before ++ c ∷ []) (sym it.kind) in
    record {
      typed = (it.typed, subst (λ b. AreTyped columns b told.1) more others.typed);
      kinds_are = others.kinds_are
          ∙ (ap (λ b. b ++ map (node_kind columns) told.1) more
          ∙ append_assoc (cells before) (node_kind columns told.0 ∷ []) (map (node_kind columns) told.1));
    }))

-- a tree without nodes has no kind, since there is no last node
record IsTypedTree (columns : List CellKind) (k : Kind) (expr : List ExprNode) : Type 0 where
  typed : IsExprOver columns expr
  kind : kind_of expr columns ≡ cell_kind_of k

tree_typed : (schema : List ColumnDef) (tree : List TreeNode) (k : Kind) (expr : List ExprNode) → type_of schema tree ≡ Some k → expr_of schema tree ≡ Some expr → IsTypedTree (cells (kinds schema)) k expr
tree_typed schema tree k expr h is =
    option_and_then_some (λ types. slice_get types (length types - 1)) (types_from schema [] tree) k h
    (λ ts found last.
    let columns = cells (kinds schema) in
    let all = types_typed schema [] tree ts expr found is in
    let long : length ts ≡ length expr = sym (length-map ts cell_kind_of) ∙ (ap length all.kinds_are ∙ length-map expr (node_kind columns)) in
    let some = slice_get_within ts (length ts - 1) k last in
    record {
      typed = (omega (arith, some, long), all.typed);
      kind = ap (λ l. slice_index_or l (length expr - 1) Whole) (sym all.kinds_are)
          ∙ (ap (λ n. slice_index_or (cells ts) (n - 1) Whole) (sym long)
          ∙ get_or_from_slice_get (cells ts) (length ts - 1) (cell_kind_of k) Whole (operand_cell ts (length ts - 1) k last));
    })

-- the cells of the kinds of a schema are those of its columns
pub cells_of_schema : (schema : List ColumnDef) → cells (kinds schema) ≡ kinds_of_schema schema
cells_of_schema [] = refl
cells_of_schema (c ∷ cs) = ap (λ l. cell_kind_of c.kind ∷ l) (cells_of_schema cs)

-- the expression of a tree that has a kind is well typed, and gives cells of that kind
pub type_of-typed : (schema : List ColumnDef) (tree : List TreeNode) (expr : List ExprNode) (k : Kind) → expr_of schema tree ≡ Some expr → type_of schema tree ≡ Some k → IsExprOver (kinds_of_schema schema) expr × (kind_of expr (kinds_of_schema schema) ≡ cell_kind_of k)
type_of-typed schema tree expr k is h =
    let it = tree_typed schema tree k expr h is in
    subst (λ l. IsExprOver l expr × (kind_of expr l ≡ cell_kind_of k)) (cells_of_schema schema) (it.typed, it.kind)

types_cells : {X : Type 0} (tree : X → List TreeNode) (schema : List ColumnDef) (xs : List X) (exprs : List (List ExprNode)) (ks : List Kind) →
    AllZip (λ x e. expr_of schema (tree x) ≡ Some e) xs exprs → AllZip (λ x k. type_of schema (tree x) ≡ Some k) xs ks →
    All (IsExprOver (kinds_of_schema schema)) exprs × (map (λ e. kind_of e (kinds_of_schema schema)) exprs ≡ map cell_kind_of ks)
types_cells tree schema [] [] [] is h = (All-nil (IsExprOver (kinds_of_schema schema)), refl)
types_cells tree schema [] [] (k ∷ ks) is h = absurd h
types_cells tree schema [] (e ∷ es) ks is h = absurd is
types_cells tree schema (x ∷ xs) [] ks is h = absurd is
types_cells tree schema (x ∷ xs) (e ∷ es) [] is h = absurd h
types_cells tree schema (x ∷ xs) (e ∷ es) (k ∷ ks) is h =
    let here = type_of-typed schema (tree x) e k is.0 h.0 in
    let others = types_cells tree schema xs es ks is.1 h.1 in
    (All-cons (IsExprOver (kinds_of_schema schema)) e es here.0 others.0, λ i. here.1 i ∷ others.1 i)

-- so are those of the items of a select
pub types_of-typed : (schema : List ColumnDef) (items : List Item) (exprs : List (List ExprNode)) (ks : List Kind) → exprs_of schema items ≡ Some exprs → types_of schema items ≡ Some ks →
    All (IsExprOver (kinds_of_schema schema)) exprs × (map (λ e. kind_of e (kinds_of_schema schema)) exprs ≡ map cell_kind_of ks)
types_of-typed schema items exprs ks is h =
    types_cells (λ i. i.tree) schema items exprs ks (all_of_zip (λ i. expr_of schema i.tree) items exprs is) (all_of_zip (λ i. type_of schema i.tree) items ks h)

-- and of several trees
pub tree_types-typed : (schema : List ColumnDef) (trees : List (List TreeNode)) (exprs : List (List ExprNode)) (ks : List Kind) → tree_exprs schema trees ≡ Some exprs → tree_types schema trees ≡ Some ks →
    All (IsExprOver (kinds_of_schema schema)) exprs × (map (λ e. kind_of e (kinds_of_schema schema)) exprs ≡ map cell_kind_of ks)
tree_types-typed schema trees exprs ks is h =
    types_cells (λ t. t) schema trees exprs ks (all_of_zip (expr_of schema) trees exprs is) (all_of_zip (type_of schema) trees ks h)
