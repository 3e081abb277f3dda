-- Expressions and steps with what they mean, worked out.
use Rattle.std.specs.Prelude.{◌≡◌, ℕ, pos, Some, List, [], ◌∷◌, refl}
use Rattle.tw_rows.specs.declared.kind.Kind.TheVariants as K
use Rattle.plan_model.specs.declared.expr.ArithOp.TheVariants as A
use Rattle.plan_model.specs.declared.expr.CompareOp.TheVariants as C
use Rattle.query_text.specs.Grammar as G
use Rattle.query_text.specs.declared.tree.TreeNode.TheVariants as N
use Rattle.query_text.specs.declared.query.AggFun.TheVariants as F
use Rattle.query_text.specs.declared.query.QueryStep.TheVariants as T
use Rattle.query_text.specs.Spelling.{tree_of, step_of, col_of}

-- a product of one column
abbrev col : List ℕ → G.Prod
col n = G.prod (G.atom (G.column n)) G.no_factor

-- a term that is not compared
abbrev bare : G.Sum → G.Neg
bare s = G.cmp s G.no_test

abbrev whole : G.Neg → G.Expr
whole n = G.expr (G.conj n G.no_and) G.no_or

-- `a - b - c` is (a - b) - c
minus_groups_left : (a b c : List ℕ) → tree_of (whole (bare (G.sum (col a) (G.minus (col b) (G.minus (col c) G.no_term)))))
    ≡ N.Name a ∷ N.Name b ∷ N.Arith A.Sub 0 1 ∷ N.Name c ∷ N.Arith A.Sub 2 3 ∷ []
minus_groups_left a b c = refl

-- `a or b and c` is a or (b and c)
and_binds_tighter : (a b c : List ℕ)
    → tree_of (G.expr (G.conj (bare (G.sum (col a) G.no_term)) G.no_and) (G.or_ (G.conj (bare (G.sum (col b) G.no_term)) (G.and_ (bare (G.sum (col c) G.no_term)) G.no_and)) G.no_or))
    ≡ N.Name a ∷ N.Name b ∷ N.Name c ∷ N.And 1 2 ∷ N.Or 0 3 ∷ []
and_binds_tighter a b c = refl

-- `- - 1`
minus_of_minus : tree_of (whole (bare (G.sum (G.prod (G.negative (G.negative (G.atom (G.number 1)))) G.no_factor) G.no_term))) ≡ N.Int (pos 1) ∷ N.Neg 0 ∷ N.Neg 1 ∷ []
minus_of_minus = refl

-- `(a)` is a
parens_leave_no_node : (a : List ℕ) → tree_of (whole (bare (G.sum (G.prod (G.atom (G.parens (whole (bare (G.sum (col a) G.no_term))))) G.no_factor) G.no_term))) ≡ N.Name a ∷ []
parens_leave_no_node a = refl

-- `p >= 1.50`: 150 units of 2 places
decimals_keep_their_places : (p : List ℕ) → tree_of (whole (G.cmp (G.sum (col p) G.no_term) (G.test G.greater_equal (G.sum (G.prod (G.atom (G.decimal 150 2)) G.no_factor) G.no_term))))
    ≡ N.Name p ∷ N.Dec (pos 150) 2 ∷ N.Compare C.Ge 0 1 ∷ []
decimals_keep_their_places p = refl

-- `left r on k else -1, 2.5`
fills_are_trees : (r k : List ℕ) → step_of (G.left r (G.on_names (record { first = k; more = [] })) (G.else_ (G.minus_int 1) (G.dec_lit 25 1 ∷ [])))
    ≡ T.Left r (k ∷ []) ((N.Int (pos 1) ∷ N.Neg 0 ∷ []) ∷ (N.Dec (pos 25) 1 ∷ []) ∷ [])
fills_are_trees r k = refl

-- `top 3 per k by v`
top_of_each : (k v : List ℕ) → step_of (G.top 2 (G.per_names (record { first = k; more = [] })) v) ≡ T.Top 3 (k ∷ []) v
top_of_each k v = refl

-- `follow r within 7`
follow_without_key : (r : List ℕ) → step_of (G.follow r G.no_on 6) ≡ T.Follow r [] 7
follow_without_key r = refl

-- `group : avg v as m`
average : (v m : List ℕ) → step_of (G.group G.no_by (G.of_column G.avg_ v m) []) ≡ T.Group [] (record { fun = F.Avg; column = Some v; name = m } ∷ [])
average v m = refl

-- `p dec(2)`
decimal_column : (p : List ℕ) → col_of (G.dec_col p (record { number = 2; few = tt })) ≡ record { name = p; kind = K.Dec 2 }
decimal_column p = refl

-- `tumble 5` is `hop 5 5`
tumble_is_a_hop : step_of (G.tumble 5) ≡ T.Hop 5 5
tumble_is_a_hop = refl
