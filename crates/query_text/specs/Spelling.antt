-- What a query means that is spelled by the grammar.
use Rattle.std.specs.Prelude.{ℕ, suc, ◌-◌, pos, true, false, Some, None, List, [], ◌∷◌, ◌++◌, length, map}
use Rattle.tw_rows.specs.declared.kind.Kind.TheVariants as K
use Rattle.tw_rows.specs.declared.schema.ColumnDef.{ColumnDef}
use Rattle.tw_rows.specs.declared.schema.StreamDef.{StreamDef}
use Rattle.plan_model.specs.declared.expr.ArithOp.TheVariants as A
use Rattle.plan_model.specs.declared.expr.CompareOp.{CompareOp}
use Rattle.plan_model.specs.declared.expr.CompareOp.TheVariants as C
use Rattle.query_text.specs.Grammar as G
use Rattle.query_text.specs.declared.tree.TreeNode.{TreeNode}
use Rattle.query_text.specs.declared.tree.TreeNode.TheVariants as N
use Rattle.query_text.specs.declared.query.AggFun.{AggFun}
use Rattle.query_text.specs.declared.query.AggFun.TheVariants as F
use Rattle.query_text.specs.declared.query.QueryAgg.{QueryAgg}
use Rattle.query_text.specs.declared.query.Item.{Item}
use Rattle.query_text.specs.declared.query.QueryStep.{QueryStep}
use Rattle.query_text.specs.declared.query.QueryStep.TheVariants as T
use Rattle.query_text.specs.declared.query.Pipe.{Pipe}
use Rattle.query_text.specs.declared.query.Let.{Let}
use Rattle.query_text.specs.declared.query.Query.{Query}

-- the number of the last node
abbrev pub last : List TreeNode → ℕ
last nodes = length nodes - 1

-- An operator of two operands: the left one is the last of the nodes, the right one the last once its own stand behind.
abbrev pub joined : (ℕ → ℕ → TreeNode) → List TreeNode → List TreeNode → List TreeNode
joined operator left right = right ++ operator (last left) (last right) ∷ []

-- an operator of the last node
abbrev pub wrapped : (ℕ → TreeNode) → List TreeNode → List TreeNode
wrapped operator nodes = nodes ++ operator (last nodes) ∷ []

abbrev pub compare_of : G.Comparison → CompareOp
compare_of G.equal = C.Eq
compare_of G.differs = C.Ne
compare_of G.less = C.Lt
compare_of G.less_equal = C.Le
compare_of G.greater = C.Gt
compare_of G.greater_equal = C.Ge

-- The nodes so far, and then those of the expression, the root last. Parentheses leave no node.
-- Of a rest, as of `- b - c`, the left operand is the last of the nodes so far: so operators group to the left.
abbrev mutual
  pub expr_onto : G.Expr → List TreeNode → List TreeNode
  expr_onto (G.expr c os) nodes = ors_onto os (conj_onto c nodes)

  pub ors_onto : G.Ors → List TreeNode → List TreeNode
  ors_onto G.no_or nodes = nodes
  ors_onto (G.or_ c os) nodes = ors_onto os (joined (λ l r. N.Or l r) nodes (conj_onto c nodes))

  pub conj_onto : G.Conj → List TreeNode → List TreeNode
  conj_onto (G.conj n as_) nodes = ands_onto as_ (neg_onto n nodes)

  pub ands_onto : G.Ands → List TreeNode → List TreeNode
  ands_onto G.no_and nodes = nodes
  ands_onto (G.and_ n as_) nodes = ands_onto as_ (joined (λ l r. N.And l r) nodes (neg_onto n nodes))

  pub neg_onto : G.Neg → List TreeNode → List TreeNode
  neg_onto (G.not_ n) nodes = wrapped (λ i. N.Not i) (neg_onto n nodes)
  neg_onto (G.cmp s t) nodes = test_onto t (sum_onto s nodes)

  pub test_onto : G.Test → List TreeNode → List TreeNode
  test_onto G.no_test nodes = nodes
  test_onto (G.test c s) nodes = joined (λ l r. N.Compare (compare_of c) l r) nodes (sum_onto s nodes)

  pub sum_onto : G.Sum → List TreeNode → List TreeNode
  sum_onto (G.sum p ts) nodes = terms_onto ts (prod_onto p nodes)

  pub terms_onto : G.Terms → List TreeNode → List TreeNode
  terms_onto G.no_term nodes = nodes
  terms_onto (G.plus p ts) nodes = terms_onto ts (joined (λ l r. N.Arith A.Add l r) nodes (prod_onto p nodes))
  terms_onto (G.minus p ts) nodes = terms_onto ts (joined (λ l r. N.Arith A.Sub l r) nodes (prod_onto p nodes))

  pub prod_onto : G.Prod → List TreeNode → List TreeNode
  prod_onto (G.prod u fs) nodes = factors_onto fs (unary_onto u nodes)

  pub factors_onto : G.Factors → List TreeNode → List TreeNode
  factors_onto G.no_factor nodes = nodes
  factors_onto (G.times u fs) nodes = factors_onto fs (joined (λ l r. N.Arith A.Mul l r) nodes (unary_onto u nodes))
  factors_onto (G.div_ n fs) nodes = factors_onto fs (wrapped (λ i. N.Div i (suc n)) nodes)
  factors_onto (G.mod_ n fs) nodes = factors_onto fs (wrapped (λ i. N.Mod i (suc n)) nodes)

  pub unary_onto : G.Unary → List TreeNode → List TreeNode
  unary_onto (G.negative u) nodes = wrapped (λ i. N.Neg i) (unary_onto u nodes)
  unary_onto (G.atom a) nodes = atom_onto a nodes

  pub atom_onto : G.Atom → List TreeNode → List TreeNode
  atom_onto (G.number n) nodes = nodes ++ N.Int (pos n) ∷ []
  atom_onto (G.decimal u p) nodes = nodes ++ N.Dec (pos u) p ∷ []
  atom_onto (G.text s) nodes = nodes ++ N.Text s ∷ []
  atom_onto G.true_ nodes = nodes ++ N.Bool true ∷ []
  atom_onto G.false_ nodes = nodes ++ N.Bool false ∷ []
  atom_onto (G.column n) nodes = nodes ++ N.Name n ∷ []
  atom_onto (G.parens e) nodes = expr_onto e nodes

-- the tree of an expression
abbrev pub tree_of : G.Expr → List TreeNode
tree_of e = expr_onto e []

abbrev pub names_of : G.Names → List (List ℕ)
names_of ns = ns.first ∷ ns.more

abbrev pub by_of : G.By → List (List ℕ)
by_of G.no_by = []
by_of (G.by_names ns) = names_of ns

abbrev pub on_of : G.On → List (List ℕ)
on_of G.no_on = []
on_of (G.on_names ns) = names_of ns

-- an item that is a name alone is the column of that name, under that name
abbrev pub item_of : G.Item → Item
item_of (G.alone n) = record { name = n; tree = N.Name n ∷ [] }
item_of (G.named e n) = record { name = n; tree = tree_of e }

abbrev pub fun_of : G.Fun → AggFun
fun_of G.sum_ = F.Sum
fun_of G.min_ = F.Min
fun_of G.max_ = F.Max
fun_of G.avg_ = F.Avg

abbrev pub agg_of : G.Agg → QueryAgg
agg_of (G.count n) = record { fun = F.Count; column = None; name = n }
agg_of (G.of_column f c n) = record { fun = fun_of f; column = Some c; name = n }

abbrev pub per_of : G.Per → List (List ℕ)
per_of G.no_per = []
per_of (G.per_names ns) = names_of ns

-- the part of an expression that is spelled like the literal
abbrev pub unary_of : G.Lit → G.Unary
unary_of (G.int_lit n) = G.atom (G.number n)
unary_of (G.minus_int n) = G.negative (G.atom (G.number n))
unary_of (G.dec_lit u p) = G.atom (G.decimal u p)
unary_of (G.minus_dec u p) = G.negative (G.atom (G.decimal u p))
unary_of (G.text_lit s) = G.atom (G.text s)
unary_of G.true_lit = G.atom G.true_
unary_of G.false_lit = G.atom G.false_

-- a literal means what it means in an expression: `-1` is the node 1 and its negation
abbrev pub lit_of : G.Lit → List TreeNode
lit_of l = unary_onto (unary_of l) []

abbrev pub fills_of : G.Else → List (List TreeNode)
fills_of G.no_else = []
fills_of (G.else_ l ls) = lit_of l ∷ map lit_of ls

-- `tumble w` is `hop w w`
abbrev pub step_of : G.Step → QueryStep
step_of (G.where_ e) = T.Where (tree_of e)
step_of (G.select i is) = T.Select (item_of i ∷ map item_of is)
step_of (G.union n) = T.Union n
step_of (G.delay n) = T.Delay n
step_of (G.duration n) = T.Duration n
step_of (G.extend n) = T.Extend n
step_of (G.tumble w) = T.Hop w w
step_of (G.hop s p) = T.Hop s p
step_of (G.session n b) = T.Session n (by_of b)
step_of (G.clip n o) = T.Clip n (on_of o)
step_of (G.join n o) = T.Join n (on_of o)
step_of (G.anti n o) = T.Anti n (on_of o)
step_of (G.group b a as_) = T.Group (by_of b) (agg_of a ∷ map agg_of as_)
step_of G.coalesce = T.Coalesce
step_of (G.left n o e) = T.Left n (on_of o) (fills_of e)
step_of (G.top n p c) = T.Top (suc n) (per_of p) c
step_of (G.follow n o m) = T.Follow n (on_of o) (suc m)

abbrev pub pipe_of : G.Pipe → Pipe
pipe_of p = record { base = p.base; steps = map step_of p.steps }

abbrev pub let_of : G.Let → Let
let_of l = record { name = l.called; pipe = pipe_of l.pipe }

abbrev pub col_of : G.Col → ColumnDef
col_of (G.int_col n) = record { name = n; kind = K.Int }
col_of (G.bool_col n) = record { name = n; kind = K.Bool }
col_of (G.text_col n) = record { name = n; kind = K.Text }
col_of (G.dec_col n p) = record { name = n; kind = K.Dec p.number }

abbrev pub stream_of : G.Stream → StreamDef
stream_of s = record { name = s.called; schema = col_of s.first ∷ map col_of s.more }

abbrev pub query_of : G.Query → Query
query_of q = record { streams = stream_of q.stream ∷ map stream_of q.streams; lets = map let_of q.lets; body = pipe_of q.body }
