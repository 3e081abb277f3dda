-- The grammar of queries: one type for each rule, with one constructor for each of its alternatives.
-- Beside each stands how it is spelled: `x_then x rest` is the tokens of x, and then those of the rest.
use Rattle.std.specs.Prelude.{ℕ, suc, Bool, true, false, nat_le, ◌&&◌, List, [], ◌∷◌}
use Rattle.query_text.specs.declared.word.Sign.{Sign}
use Rattle.query_text.specs.declared.word.Sign.TheVariants as S
use Rattle.query_text.specs.Token.{Token, name, int, dec, str, fixed}

-- the bytes of a name, or of a text
abbrev pub Text : Type 0
Text = List ℕ

-- ( "=" | "<>" | "<" | "<=" | ">" | ">=" )
pub data Comparison : Type 0 where
  equal : Comparison
  differs : Comparison
  less : Comparison
  less_equal : Comparison
  greater : Comparison
  greater_equal : Comparison

abbrev pub comparison_sign : Comparison → Sign
comparison_sign equal = S.Equal
comparison_sign differs = S.Differs
comparison_sign less = S.Less
comparison_sign less_equal = S.LessEqual
comparison_sign greater = S.Greater
comparison_sign greater_equal = S.GreaterEqual

mutual
  -- expr = conj { "or" conj }
  pub data Expr : Type 0 where
    expr : Conj → Ors → Expr

  pub data Ors : Type 0 where
    no_or : Ors
    or_ : Conj → Ors → Ors

  -- conj = neg { "and" neg }
  pub data Conj : Type 0 where
    conj : Neg → Ands → Conj

  pub data Ands : Type 0 where
    no_and : Ands
    and_ : Neg → Ands → Ands

  -- neg = "not" neg | cmp
  -- cmp = sum [ ( "=" | "<>" | "<" | "<=" | ">" | ">=" ) sum ]
  pub data Neg : Type 0 where
    not_ : Neg → Neg
    cmp : Sum → Test → Neg

  pub data Test : Type 0 where
    no_test : Test
    test : Comparison → Sum → Test

  -- sum = prod { ( "+" | "-" ) prod }
  pub data Sum : Type 0 where
    sum : Prod → Terms → Sum

  pub data Terms : Type 0 where
    no_term : Terms
    plus : Prod → Terms → Terms
    minus : Prod → Terms → Terms

  -- prod = unary { "*" unary | "div" POS | "mod" POS }
  pub data Prod : Type 0 where
    prod : Unary → Factors → Prod

  -- POS is an INT above 0: `div_ n` divides by n + 1
  pub data Factors : Type 0 where
    no_factor : Factors
    times : Unary → Factors → Factors
    div_ : ℕ → Factors → Factors
    mod_ : ℕ → Factors → Factors

  -- unary = "-" unary | atom
  pub data Unary : Type 0 where
    negative : Unary → Unary
    atom : Atom → Unary

  -- atom = INT | DEC | STRING | "true" | "false" | NAME | "(" expr ")"
  pub data Atom : Type 0 where
    number : ℕ → Atom
    decimal : ℕ → ℕ → Atom
    text : Text → Atom
    true_ : Atom
    false_ : Atom
    column : Text → Atom
    parens : Expr → Atom

abbrev mutual
  pub expr_then : Expr → List Token → List Token
  expr_then (expr c os) rest = conj_then c (ors_then os rest)

  pub ors_then : Ors → List Token → List Token
  ors_then no_or rest = rest
  ors_then (or_ c os) rest = fixed S.Or ∷ conj_then c (ors_then os rest)

  pub conj_then : Conj → List Token → List Token
  conj_then (conj n as_) rest = neg_then n (ands_then as_ rest)

  pub ands_then : Ands → List Token → List Token
  ands_then no_and rest = rest
  ands_then (and_ n as_) rest = fixed S.And ∷ neg_then n (ands_then as_ rest)

  pub neg_then : Neg → List Token → List Token
  neg_then (not_ n) rest = fixed S.Not ∷ neg_then n rest
  neg_then (cmp s t) rest = sum_then s (test_then t rest)

  pub test_then : Test → List Token → List Token
  test_then no_test rest = rest
  test_then (test c s) rest = fixed (comparison_sign c) ∷ sum_then s rest

  pub sum_then : Sum → List Token → List Token
  sum_then (sum p ts) rest = prod_then p (terms_then ts rest)

  pub terms_then : Terms → List Token → List Token
  terms_then no_term rest = rest
  terms_then (plus p ts) rest = fixed S.Plus ∷ prod_then p (terms_then ts rest)
  terms_then (minus p ts) rest = fixed S.Minus ∷ prod_then p (terms_then ts rest)

  pub prod_then : Prod → List Token → List Token
  prod_then (prod u fs) rest = unary_then u (factors_then fs rest)

  pub factors_then : Factors → List Token → List Token
  factors_then no_factor rest = rest
  factors_then (times u fs) rest = fixed S.Star ∷ unary_then u (factors_then fs rest)
  factors_then (div_ n fs) rest = fixed S.Div ∷ int (suc n) ∷ factors_then fs rest
  factors_then (mod_ n fs) rest = fixed S.Mod ∷ int (suc n) ∷ factors_then fs rest

  pub unary_then : Unary → List Token → List Token
  unary_then (negative u) rest = fixed S.Minus ∷ unary_then u rest
  unary_then (atom a) rest = atom_then a rest

  pub atom_then : Atom → List Token → List Token
  atom_then (number n) rest = int n ∷ rest
  atom_then (decimal units places) rest = dec units places ∷ rest
  atom_then (text s) rest = str s ∷ rest
  atom_then true_ rest = fixed S.True ∷ rest
  atom_then false_ rest = fixed S.False ∷ rest
  atom_then (column n) rest = name n ∷ rest
  atom_then (parens e) rest = fixed S.Open ∷ expr_then e (fixed S.Close ∷ rest)

-- names = NAME { "," NAME }
pub record Names : Type 0 where
  pub first : Text
  pub more : List Text

abbrev pub more_names_then : List Text → List Token → List Token
more_names_then [] rest = rest
more_names_then (n ∷ ns) rest = fixed S.Comma ∷ name n ∷ more_names_then ns rest

abbrev pub names_then : Names → List Token → List Token
names_then ns rest = name ns.first ∷ more_names_then ns.more rest

-- item = NAME | expr "as" NAME
pub data Item : Type 0 where
  alone : Text → Item
  named : Expr → Text → Item

abbrev pub item_then : Item → List Token → List Token
item_then (alone n) rest = name n ∷ rest
item_then (named e n) rest = expr_then e (fixed S.As ∷ name n ∷ rest)

-- { "," item }
abbrev pub items_then : List Item → List Token → List Token
items_then [] rest = rest
items_then (i ∷ is) rest = fixed S.Comma ∷ item_then i (items_then is rest)

-- ( "sum" | "min" | "max" | "avg" )
pub data Fun : Type 0 where
  sum_ : Fun
  min_ : Fun
  max_ : Fun
  avg_ : Fun

abbrev pub fun_sign : Fun → Sign
fun_sign sum_ = S.Sum
fun_sign min_ = S.Min
fun_sign max_ = S.Max
fun_sign avg_ = S.Avg

-- agg = "count" "as" NAME | ( "sum" | "min" | "max" | "avg" ) NAME "as" NAME
pub data Agg : Type 0 where
  count : Text → Agg
  of_column : Fun → Text → Text → Agg

abbrev pub agg_then : Agg → List Token → List Token
agg_then (count n) rest = fixed S.Count ∷ fixed S.As ∷ name n ∷ rest
agg_then (of_column f c n) rest = fixed (fun_sign f) ∷ name c ∷ fixed S.As ∷ name n ∷ rest

-- { "," agg }
abbrev pub aggs_then : List Agg → List Token → List Token
aggs_then [] rest = rest
aggs_then (a ∷ as_) rest = fixed S.Comma ∷ agg_then a (aggs_then as_ rest)

-- [ "by" names ]
pub data By : Type 0 where
  no_by : By
  by_names : Names → By

abbrev pub by_then : By → List Token → List Token
by_then no_by rest = rest
by_then (by_names ns) rest = fixed S.By ∷ names_then ns rest

-- [ "on" names ]
pub data On : Type 0 where
  no_on : On
  on_names : Names → On

abbrev pub on_then : On → List Token → List Token
on_then no_on rest = rest
on_then (on_names ns) rest = fixed S.On ∷ names_then ns rest

-- [ "per" names ]
pub data Per : Type 0 where
  no_per : Per
  per_names : Names → Per

abbrev pub per_then : Per → List Token → List Token
per_then no_per rest = rest
per_then (per_names ns) rest = fixed S.Per ∷ names_then ns rest

-- lit = [ "-" ] INT | [ "-" ] DEC | STRING | "true" | "false"
pub data Lit : Type 0 where
  int_lit : ℕ → Lit
  minus_int : ℕ → Lit
  dec_lit : ℕ → ℕ → Lit
  minus_dec : ℕ → ℕ → Lit
  text_lit : Text → Lit
  true_lit : Lit
  false_lit : Lit

abbrev pub lit_then : Lit → List Token → List Token
lit_then (int_lit n) rest = int n ∷ rest
lit_then (minus_int n) rest = fixed S.Minus ∷ int n ∷ rest
lit_then (dec_lit u p) rest = dec u p ∷ rest
lit_then (minus_dec u p) rest = fixed S.Minus ∷ dec u p ∷ rest
lit_then (text_lit s) rest = str s ∷ rest
lit_then true_lit rest = fixed S.True ∷ rest
lit_then false_lit rest = fixed S.False ∷ rest

-- { "," lit }
abbrev pub lits_then : List Lit → List Token → List Token
lits_then [] rest = rest
lits_then (l ∷ ls) rest = fixed S.Comma ∷ lit_then l (lits_then ls rest)

-- [ "else" lit { "," lit } ]
pub data Else : Type 0 where
  no_else : Else
  else_ : Lit → List Lit → Else

abbrev pub else_then : Else → List Token → List Token
else_then no_else rest = rest
else_then (else_ l ls) rest = fixed S.Else ∷ lit_then l (lits_then ls rest)

-- step = "where" expr
--      | "select" item { "," item }
--      | "union" NAME
--      | "delay" INT | "duration" INT | "extend" INT
--      | "tumble" INT | "hop" INT INT
--      | "session" INT [ "by" names ]
--      | "clip" NAME [ "on" names ]
--      | "join" NAME [ "on" names ]
--      | "anti" NAME [ "on" names ]
--      | "group" [ "by" names ] ":" agg { "," agg }
--      | "coalesce"
--      | "left" NAME [ "on" names ] [ "else" lit { "," lit } ]
--      | "top" POS [ "per" names ] "by" NAME
--      | "follow" NAME [ "on" names ] "within" POS
-- `top n` keeps n + 1 rows, and `follow` waits for n + 1.
pub data Step : Type 0 where
  where_ : Expr → Step
  select : Item → List Item → Step
  union : Text → Step
  delay : ℕ → Step
  duration : ℕ → Step
  extend : ℕ → Step
  tumble : ℕ → Step
  hop : ℕ → ℕ → Step
  session : ℕ → By → Step
  clip : Text → On → Step
  join : Text → On → Step
  anti : Text → On → Step
  group : By → Agg → List Agg → Step
  coalesce : Step
  left : Text → On → Else → Step
  top : ℕ → Per → Text → Step
  follow : Text → On → ℕ → Step

abbrev pub step_then : Step → List Token → List Token
step_then (where_ e) rest = fixed S.Where ∷ expr_then e rest
step_then (select i is) rest = fixed S.Select ∷ item_then i (items_then is rest)
step_then (union n) rest = fixed S.Union ∷ name n ∷ rest
step_then (delay n) rest = fixed S.Delay ∷ int n ∷ rest
step_then (duration n) rest = fixed S.Duration ∷ int n ∷ rest
step_then (extend n) rest = fixed S.Extend ∷ int n ∷ rest
step_then (tumble n) rest = fixed S.Tumble ∷ int n ∷ rest
step_then (hop n p) rest = fixed S.Hop ∷ int n ∷ int p ∷ rest
step_then (session n b) rest = fixed S.Session ∷ int n ∷ by_then b rest
step_then (clip n o) rest = fixed S.Clip ∷ name n ∷ on_then o rest
step_then (join n o) rest = fixed S.Join ∷ name n ∷ on_then o rest
step_then (anti n o) rest = fixed S.Anti ∷ name n ∷ on_then o rest
step_then (group b a as_) rest = fixed S.Group ∷ by_then b (fixed S.Colon ∷ agg_then a (aggs_then as_ rest))
step_then coalesce rest = fixed S.Coalesce ∷ rest
step_then (left n o e) rest = fixed S.Left ∷ name n ∷ on_then o (else_then e rest)
step_then (top n p c) rest = fixed S.Top ∷ int (suc n) ∷ per_then p (fixed S.By ∷ name c ∷ rest)
step_then (follow n o m) rest = fixed S.Follow ∷ name n ∷ on_then o (fixed S.Within ∷ int (suc m) ∷ rest)

-- { "|" step }
abbrev pub steps_then : List Step → List Token → List Token
steps_then [] rest = rest
steps_then (s ∷ ss) rest = fixed S.Bar ∷ step_then s (steps_then ss rest)

-- pipe = NAME { "|" step }
pub record Pipe : Type 0 where
  pub base : Text
  pub steps : List Step

abbrev pub pipe_then : Pipe → List Token → List Token
pipe_then p rest = name p.base ∷ steps_then p.steps rest

-- let = "let" NAME "=" pipe ";"
pub record Let : Type 0 where
  pub called : Text
  pub pipe : Pipe

abbrev pub let_then : Let → List Token → List Token
let_then l rest = fixed S.Let ∷ name l.called ∷ fixed S.Equal ∷ pipe_then l.pipe (fixed S.Semicolon ∷ rest)

-- { let }
abbrev pub lets_then : List Let → List Token → List Token
lets_then [] rest = rest
lets_then (l ∷ ls) rest = let_then l (lets_then ls rest)

-- a number of decimal places: from 1 to 18
abbrev pub is_places : ℕ → Bool
is_places n = nat_le 1 n && nat_le n 18

-- the test holds; there is one proof of it at most
abbrev pub Holds : Bool → Type 0
Holds true = Unit {0}
Holds false = ⊥

-- the number of places of a column: `dec(2)` has 2
pub record Places : Type 0 where
  pub number : ℕ
  pub few : Holds (is_places number)

-- col = NAME ( "int" | "bool" | "text" | "dec" "(" POS ")" )
pub data Col : Type 0 where
  int_col : Text → Col
  bool_col : Text → Col
  text_col : Text → Col
  dec_col : Text → Places → Col

abbrev pub col_then : Col → List Token → List Token
col_then (int_col n) rest = name n ∷ fixed S.IntKind ∷ rest
col_then (bool_col n) rest = name n ∷ fixed S.BoolKind ∷ rest
col_then (text_col n) rest = name n ∷ fixed S.TextKind ∷ rest
col_then (dec_col n p) rest = name n ∷ fixed S.DecKind ∷ fixed S.Open ∷ int p.number ∷ fixed S.Close ∷ rest

-- { "," col }
abbrev pub cols_then : List Col → List Token → List Token
cols_then [] rest = rest
cols_then (c ∷ cs) rest = fixed S.Comma ∷ col_then c (cols_then cs rest)

-- stream = "stream" NAME "(" col { "," col } ")" ";"
pub record Stream : Type 0 where
  pub called : Text
  pub first : Col
  pub more : List Col

abbrev pub stream_then : Stream → List Token → List Token
stream_then s rest = fixed S.Stream ∷ name s.called ∷ fixed S.Open ∷ col_then s.first (cols_then s.more (fixed S.Close ∷ fixed S.Semicolon ∷ rest))

-- { stream }
abbrev pub streams_then : List Stream → List Token → List Token
streams_then [] rest = rest
streams_then (s ∷ ss) rest = stream_then s (streams_then ss rest)

-- query = stream { stream } { let } pipe
pub record Query : Type 0 where
  pub stream : Stream
  pub streams : List Stream
  pub lets : List Let
  pub body : Pipe

abbrev pub query_then : Query → List Token → List Token
query_then q rest = stream_then q.stream (streams_then q.streams (lets_then q.lets (pipe_then q.body rest)))

-- how a query is spelled
abbrev pub query_tokens : Query → List Token
query_tokens q = query_then q []
