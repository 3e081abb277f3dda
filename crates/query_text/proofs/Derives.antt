-- What a stack stands for: the lists of tokens that the grammar spells by it.
use Rattle.std.proofs.Common.{◌≡◌, ℕ, List, [], ◌∷◌, ◌++◌, refl}
use Rattle.query_text.specs.declared.word.Sign.TheVariants as S
use Rattle.query_text.specs.declared.symbol.Symbol.{Symbol}
use Rattle.query_text.specs.declared.symbol.Symbol.TheVariants as Y
use Rattle.query_text.specs.Token.{Token, name, int, dec, fixed}
use Rattle.query_text.specs.Follows.{name_then, int_then, pos_then}
use Rattle.query_text.specs.Grammar as G
use Rattle.query_text.specs.Grammar.{expr_then, ors_then, conj_then, ands_then, neg_then, test_then, sum_then, terms_then, prod_then, factors_then, unary_then, atom_then, more_names_then, names_then, item_then, items_then, agg_then, aggs_then, by_then, on_then, per_then, lit_then, lits_then, else_then, step_then, steps_then, pipe_then, lets_then, col_then, cols_then, stream_then, streams_then}

-- w is the tokens of one, and then z
pub record Spelled {A : Type 0} (then_ : A → List Token → List Token) (w z : List Token) : Type 0 where
  pub it : A
  pub spells : w ≡ then_ it z

abbrev pub places_then : G.Places → List Token → List Token
places_then p z = int p.number ∷ z

-- a number or a decimal without its sign
pub data Unsigned : Type 0 where
  whole : ℕ → Unsigned
  pointed : ℕ → ℕ → Unsigned

abbrev pub unsigned_then : Unsigned → List Token → List Token
unsigned_then (whole n) z = int n ∷ z
unsigned_then (pointed u p) z = dec u p ∷ z

-- w is what the symbol stands for, and then z
abbrev pub Means : Symbol → List Token → List Token → Type 0
Means Y.Stream w z = Spelled stream_then w z
Means Y.Streams w z = Spelled streams_then w z
Means Y.Col w z = Spelled col_then w z
Means Y.ColKind w z = (n : List ℕ) → Spelled col_then (name n ∷ w) z
Means Y.Cols w z = Spelled cols_then w z
Means Y.Lets w z = Spelled lets_then w z
Means Y.Pipe w z = Spelled pipe_then w z
Means Y.Steps w z = Spelled steps_then w z
Means Y.Step w z = Spelled step_then w z
Means Y.Item w z = Spelled item_then w z
Means Y.ItemRest w z = (n : List ℕ) → Spelled item_then (name n ∷ w) z
Means Y.Items w z = Spelled items_then w z
Means Y.Agg w z = Spelled agg_then w z
Means Y.Aggs w z = Spelled aggs_then w z
Means Y.By w z = Spelled by_then w z
Means Y.On w z = Spelled on_then w z
Means Y.Names w z = Spelled names_then w z
Means Y.MoreNames w z = Spelled more_names_then w z
Means Y.Expr w z = Spelled expr_then w z
Means Y.Ors w z = Spelled ors_then w z
Means Y.Conj w z = Spelled conj_then w z
Means Y.Ands w z = Spelled ands_then w z
Means Y.Neg w z = Spelled neg_then w z
Means Y.Test w z = Spelled test_then w z
Means Y.Sum w z = Spelled sum_then w z
Means Y.Terms w z = Spelled terms_then w z
Means Y.Prod w z = Spelled prod_then w z
Means Y.Factors w z = Spelled factors_then w z
Means Y.Unary w z = Spelled unary_then w z
Means Y.Atom w z = Spelled atom_then w z
Means Y.Named w z = Spelled name_then w z
Means Y.Int w z = Spelled int_then w z
Means Y.Pos w z = Spelled pos_then w z
Means Y.Places w z = Spelled places_then w z
Means Y.Per w z = Spelled per_then w z
Means Y.Else w z = Spelled else_then w z
Means Y.Lits w z = Spelled lits_then w z
Means Y.Lit w z = Spelled lit_then w z
Means Y.Unsigned w z = Spelled unsigned_then w z
Means (Y.Word s) w z = w ≡ fixed s ∷ z

pub record Parts (P Q : List Token → List Token → Type 0) (w z : List Token) : Type 0 where
  pub middle : List Token
  pub first : P w middle
  pub second : Q middle z

abbrev pub Derives : List Symbol → List Token → List Token → Type 0
Derives [] w z = w ≡ z
Derives (s ∷ k) w z = Parts (Means s) (Derives k) w z

pub derives_split : (g k : List Symbol) (w z : List Token) → Derives (g ++ k) w z → Parts (Derives g) (Derives k) w z
derives_split [] k w z d = record { middle = w; first = refl; second = d }
derives_split (s ∷ g) k w z d =
    let r = derives_split g k d.middle z d.second in
    record { middle = r.middle; first = record { middle = d.middle; first = d.first; second = r.first }; second = r.second }

-- some tokens that the symbol stands for
pub record Filled (s : Symbol) (z : List Token) : Type 0 where
  pub tokens : List Token
  pub means : Means s tokens z

some_prod : G.Prod
some_prod = G.prod (G.atom (G.number 0)) G.no_factor

some_sum : G.Sum
some_sum = G.sum some_prod G.no_term

some_neg : G.Neg
some_neg = G.cmp some_sum G.no_test

some_conj : G.Conj
some_conj = G.conj some_neg G.no_and

some_expr : G.Expr
some_expr = G.expr some_conj G.no_or

spelled : {A : Type 0} (then_ : A → List Token → List Token) (it : A) (z : List Token) → Spelled then_ (then_ it z) z
spelled then_ it z = record { it = it; spells = refl }

-- every symbol stands for some tokens
pub filled : (s : Symbol) (z : List Token) → Filled s z
filled Y.Stream z = record { tokens = stream_then (record { called = []; first = G.int_col []; more = [] }) z; means = spelled stream_then (record { called = []; first = G.int_col []; more = [] }) z }
filled Y.Streams z = record { tokens = streams_then [] z; means = spelled streams_then [] z }
filled Y.Col z = record { tokens = col_then (G.int_col []) z; means = spelled col_then (G.int_col []) z }
filled Y.ColKind z = record { tokens = fixed S.IntKind ∷ z; means = λ n. record { it = G.int_col n; spells = refl } }
filled Y.Cols z = record { tokens = cols_then [] z; means = spelled cols_then [] z }
filled Y.Lets z = record { tokens = lets_then [] z; means = spelled lets_then [] z }
filled Y.Pipe z = record { tokens = pipe_then (record { base = []; steps = [] }) z; means = spelled pipe_then (record { base = []; steps = [] }) z }
filled Y.Steps z = record { tokens = steps_then [] z; means = spelled steps_then [] z }
filled Y.Step z = record { tokens = step_then (G.delay 0) z; means = spelled step_then (G.delay 0) z }
filled Y.Item z = record { tokens = item_then (G.alone []) z; means = spelled item_then (G.alone []) z }
filled Y.ItemRest z = record { tokens = z; means = λ n. record { it = G.alone n; spells = refl } }
filled Y.Items z = record { tokens = items_then [] z; means = spelled items_then [] z }
filled Y.Agg z = record { tokens = agg_then (G.count []) z; means = spelled agg_then (G.count []) z }
filled Y.Aggs z = record { tokens = aggs_then [] z; means = spelled aggs_then [] z }
filled Y.By z = record { tokens = by_then G.no_by z; means = spelled by_then G.no_by z }
filled Y.On z = record { tokens = on_then G.no_on z; means = spelled on_then G.no_on z }
filled Y.Names z = record { tokens = names_then (record { first = []; more = [] }) z; means = spelled names_then (record { first = []; more = [] }) z }
filled Y.MoreNames z = record { tokens = more_names_then [] z; means = spelled more_names_then [] z }
filled Y.Expr z = record { tokens = expr_then some_expr z; means = spelled expr_then some_expr z }
filled Y.Ors z = record { tokens = ors_then G.no_or z; means = spelled ors_then G.no_or z }
filled Y.Conj z = record { tokens = conj_then some_conj z; means = spelled conj_then some_conj z }
filled Y.Ands z = record { tokens = ands_then G.no_and z; means = spelled ands_then G.no_and z }
filled Y.Neg z = record { tokens = neg_then some_neg z; means = spelled neg_then some_neg z }
filled Y.Test z = record { tokens = test_then G.no_test z; means = spelled test_then G.no_test z }
filled Y.Sum z = record { tokens = sum_then some_sum z; means = spelled sum_then some_sum z }
filled Y.Terms z = record { tokens = terms_then G.no_term z; means = spelled terms_then G.no_term z }
filled Y.Prod z = record { tokens = prod_then some_prod z; means = spelled prod_then some_prod z }
filled Y.Factors z = record { tokens = factors_then G.no_factor z; means = spelled factors_then G.no_factor z }
filled Y.Unary z = record { tokens = unary_then (G.atom (G.number 0)) z; means = spelled unary_then (G.atom (G.number 0)) z }
filled Y.Atom z = record { tokens = atom_then (G.number 0) z; means = spelled atom_then (G.number 0) z }
filled Y.Named z = record { tokens = name_then [] z; means = spelled name_then [] z }
filled Y.Int z = record { tokens = int_then 0 z; means = spelled int_then 0 z }
filled Y.Pos z = record { tokens = pos_then 0 z; means = spelled pos_then 0 z }
filled Y.Places z = record { tokens = places_then (record { number = 1; few = tt }) z; means = spelled places_then (record { number = 1; few = tt }) z }
filled Y.Per z = record { tokens = per_then G.no_per z; means = spelled per_then G.no_per z }
filled Y.Else z = record { tokens = else_then G.no_else z; means = spelled else_then G.no_else z }
filled Y.Lits z = record { tokens = lits_then [] z; means = spelled lits_then [] z }
filled Y.Lit z = record { tokens = lit_then G.true_lit z; means = spelled lit_then G.true_lit z }
filled Y.Unsigned z = record { tokens = unsigned_then (whole 0) z; means = spelled unsigned_then (whole 0) z }
filled (Y.Word s) z = record { tokens = fixed s ∷ z; means = refl }
