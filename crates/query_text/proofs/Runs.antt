-- The 201st token of an expression is the 201st of a run of words of expressions, since elsewhere such runs are short.
use Rattle.std.proofs.Common.{◌≡◌, ◌⊎◌, ℕ, suc, ◌<◌, Bool, true, false, if◌then◌else◌, List, [], ◌∷◌, ◌++◌, inl, inr, refl, ap, sym, ◌∙◌, arith, lit<, lit≤, ◌≤◌, append_assoc}
use Rattle.query_text.specs.declared.word.Sign.TheVariants as S
use Rattle.query_text.specs.declared.kind.Kind.TheVariants as K
use Rattle.query_text.specs.Token.{Token, name, int, dec, str, fixed, bad, in_expressions}
use Rattle.query_text.specs.Grammar as G
use Rattle.query_text.specs.Grammar.{Expr, Ors, Conj, Ands, Neg, Test, Sum, Terms, Prod, Factors, Unary, Atom, Comparison, comparison_sign, Text, Names, Item, Agg, By, On, Step, Pipe, Let, Col, Stream, Query, expr_then, ors_then, conj_then, ands_then, neg_then, test_then, sum_then, terms_then, prod_then, factors_then, unary_then, atom_then, more_names_then, names_then, item_then, items_then, agg_then, aggs_then, by_then, on_then, per_then, lit_then, lits_then, else_then, step_then, steps_then, pipe_then, let_then, lets_then, col_then, cols_then, stream_then, streams_then, query_tokens}
use Rattle.query_text.specs.Limit.{numbered, outside, expr_places, item_places, items_places, step_places, steps_places, pipe_places, lets_places, query_places}

-- whether expressions hold such a token
unfoldable pub is_word : Token → Bool
is_word (name n) = true
is_word (int n) = true
is_word (dec u p) = true
is_word (str s) = true
is_word (fixed s) = in_expressions (K.Fixed s)
is_word bad = false

-- how many such tokens stand together up to this one, n before it
abbrev pub next : ℕ → Token → ℕ
next n t = if is_word t then suc n else 0

-- the same up to each token
unfoldable pub runs : ℕ → List Token → List ℕ
runs n [] = []
runs n (t ∷ ts) = next n t ∷ runs (next n t) ts

-- both say alike where the 201st is
abbrev pub Near : ℕ → ℕ → Type 0
Near p r = (p ≡ r) ⊎ ((p ≡ 0) × (r < 201))

abbrev pub Agree : List ℕ → List ℕ → Type 0
Agree [] [] = Unit {0}
Agree (p ∷ ps) (r ∷ rs) = Near p r × Agree ps rs
Agree [] (r ∷ rs) = ⊥
Agree (p ∷ ps) [] = ⊥

-- expressions are made of words
abbrev AllWords : List Token → Type 0
AllWords [] = Unit {0}
AllWords (t ∷ ts) = (is_word t ≡ true) × AllWords ts

words_append : (xs ys : List Token) → AllWords xs → AllWords ys → AllWords (xs ++ ys)
words_append [] ys h k = k
words_append (x ∷ xs) ys h k = (h.0, words_append xs ys h.1 k)

-- what is put before the rest is made of words
record Worded (f : List Token → List Token) : Type 0 where
  pub whole : (ts : List Token) → f ts ≡ f [] ++ ts
  pub words : AllWords (f [])

none : Worded (λ ts. ts)
none = record { whole = λ ts. refl; words = tt }

one : (t : Token) → is_word t ≡ true → Worded (λ ts. t ∷ ts)
one t e = record { whole = λ ts. refl; words = (e, tt) }

both : (f g : List Token → List Token) → Worded f → Worded g → Worded (λ ts. f (g ts))
both f g h k = record {
  whole = λ ts. h.whole (g ts) ∙ ap (λ z. f [] ++ z) (k.whole ts) ∙ sym (append_assoc (f []) (g []) ts) ∙ ap (λ z. z ++ ts) (sym (h.whole (g [])));
  words = rw (h.whole (g [])) (words_append (f []) (g []) h.words k.words);
}

sign : (t : Token) (g : List Token → List Token) → is_word t ≡ true → Worded g → Worded (λ ts. t ∷ g ts)
sign t g e k = both (λ ts. t ∷ ts) g (one t e) k

comparison_word : (c : Comparison) → is_word (fixed (comparison_sign c)) ≡ true
unfolding is_word in_expressions
comparison_word G.equal = refl
comparison_word G.differs = refl
comparison_word G.less = refl
comparison_word G.less_equal = refl
comparison_word G.greater = refl
comparison_word G.greater_equal = refl

mutual
  unfolding is_word in_expressions

  expr_worded : (e : Expr) → Worded (λ ts. expr_then e ts)
  expr_worded (G.expr c os) = both (λ ts. conj_then c ts) (λ ts. ors_then os ts) (conj_worded c) (ors_worded os)

  ors_worded : (os : Ors) → Worded (λ ts. ors_then os ts)
  ors_worded G.no_or = none
  ors_worded (G.or_ c os) = sign (fixed S.Or) _ refl (both (λ ts. conj_then c ts) (λ ts. ors_then os ts) (conj_worded c) (ors_worded os))

  conj_worded : (c : Conj) → Worded (λ ts. conj_then c ts)
  conj_worded (G.conj n as_) = both (λ ts. neg_then n ts) (λ ts. ands_then as_ ts) (neg_worded n) (ands_worded as_)

  ands_worded : (as_ : Ands) → Worded (λ ts. ands_then as_ ts)
  ands_worded G.no_and = none
  ands_worded (G.and_ n as_) = sign (fixed S.And) _ refl (both (λ ts. neg_then n ts) (λ ts. ands_then as_ ts) (neg_worded n) (ands_worded as_))

  neg_worded : (n : Neg) → Worded (λ ts. neg_then n ts)
  neg_worded (G.not_ n) = sign (fixed S.Not) _ refl (neg_worded n)
  neg_worded (G.cmp s t) = both (λ ts. sum_then s ts) (λ ts. test_then t ts) (sum_worded s) (test_worded t)

  test_worded : (t : Test) → Worded (λ ts. test_then t ts)
  test_worded G.no_test = none
  test_worded (G.test c s) = sign (fixed (comparison_sign c)) _ (comparison_word c) (sum_worded s)

  sum_worded : (s : Sum) → Worded (λ ts. sum_then s ts)
  sum_worded (G.sum p ts) = both (λ ts. prod_then p ts) (λ us. terms_then ts us) (prod_worded p) (terms_worded ts)

  terms_worded : (ts : Terms) → Worded (λ us. terms_then ts us)
  terms_worded G.no_term = none
  terms_worded (G.plus p ts) = sign (fixed S.Plus) _ refl (both (λ ts. prod_then p ts) (λ us. terms_then ts us) (prod_worded p) (terms_worded ts))
  terms_worded (G.minus p ts) = sign (fixed S.Minus) _ refl (both (λ ts. prod_then p ts) (λ us. terms_then ts us) (prod_worded p) (terms_worded ts))

  prod_worded : (p : Prod) → Worded (λ ts. prod_then p ts)
  prod_worded (G.prod u fs) = both (λ ts. unary_then u ts) (λ ts. factors_then fs ts) (unary_worded u) (factors_worded fs)

  factors_worded : (fs : Factors) → Worded (λ ts. factors_then fs ts)
  factors_worded G.no_factor = none
  factors_worded (G.times u fs) = sign (fixed S.Star) _ refl (both (λ ts. unary_then u ts) (λ ts. factors_then fs ts) (unary_worded u) (factors_worded fs))
  factors_worded (G.div_ n fs) = sign (fixed S.Div) _ refl (sign (int (suc n)) _ refl (factors_worded fs))
  factors_worded (G.mod_ n fs) = sign (fixed S.Mod) _ refl (sign (int (suc n)) _ refl (factors_worded fs))

  unary_worded : (u : Unary) → Worded (λ ts. unary_then u ts)
  unary_worded (G.negative u) = sign (fixed S.Minus) _ refl (unary_worded u)
  unary_worded (G.atom a) = atom_worded a

  atom_worded : (a : Atom) → Worded (λ ts. atom_then a ts)
  atom_worded (G.number n) = one (int n) refl
  atom_worded (G.decimal u p) = one (dec u p) refl
  atom_worded (G.text s) = one (str s) refl
  atom_worded G.true_ = one (fixed S.True) refl
  atom_worded G.false_ = one (fixed S.False) refl
  atom_worded (G.column n) = one (name n) refl
  atom_worded (G.parens e) = sign (fixed S.Open) _ refl (both (λ ts. expr_then e ts) (λ ts. fixed S.Close ∷ ts) (expr_worded e) (one (fixed S.Close) refl))

-- these places are those of what follows, however many words stand before it
abbrev Any : List ℕ → List Token → Type 0
Any ps ts = (k : ℕ) → Agree ps (runs k ts)

-- the same, where the tokens xs are outside of expressions
abbrev Out : List ℕ → List Token → List Token → ℕ → Type 0
Out ps xs ts k = Agree (outside xs ps) (runs k ts)

counted : (n : ℕ) (xs ts : List Token) (ps : List ℕ) → AllWords xs → Any ps ts → Agree (numbered n xs ps) (runs n (xs ++ ts))
unfolding runs
counted n [] ts ps h k = k n
counted n (x ∷ xs) ts ps h k = rw h.0 (inl refl, counted (suc n) xs ts ps h.1 k)

-- an expression, where no word of one stands before it
expr_agree : (e : Expr) (ps : List ℕ) (ts : List Token) → Any ps ts → Agree (expr_places e ps) (runs 0 (expr_then e ts))
expr_agree e ps ts k = let w = expr_worded e in rw (w.whole ts) (counted 0 (expr_then e []) ts ps w.words k)

low : (k : ℕ) → k < 201 → Near 0 k
low k h = inr (refl, h)

zero_near : Near 0 0
zero_near = inl refl

more_names_agree : (ns : List Text) (ps : List ℕ) (xs ts : List Token) → ((k : ℕ) → Out ps xs ts k) → (k : ℕ) → Out ps (more_names_then ns xs) (more_names_then ns ts) k
unfolding runs is_word in_expressions
more_names_agree [] ps xs ts h k = h k
more_names_agree (n ∷ ns) ps xs ts h k = (zero_near, (low 1 (lit< tt), more_names_agree ns ps xs ts h 1))

names_agree : (ns : Names) (ps : List ℕ) (xs ts : List Token) → ((k : ℕ) → Out ps xs ts k) → Out ps (names_then ns xs) (names_then ns ts) 0
unfolding runs is_word in_expressions
names_agree ns ps xs ts h = (low 1 (lit< tt), more_names_agree ns.more ps xs ts h 1)

agg_agree : (a : Agg) (ps : List ℕ) (xs ts : List Token) → ((k : ℕ) → Out ps xs ts k) → (k : ℕ) → Out ps (agg_then a xs) (agg_then a ts) k
unfolding runs is_word in_expressions
agg_agree (G.count n) ps xs ts h k = (zero_near, (zero_near, (low 1 (lit< tt), h 1)))
agg_agree (G.of_column G.sum_ c n) ps xs ts h k = (zero_near, (low 1 (lit< tt), (zero_near, (low 1 (lit< tt), h 1))))
agg_agree (G.of_column G.min_ c n) ps xs ts h k = (zero_near, (low 1 (lit< tt), (zero_near, (low 1 (lit< tt), h 1))))
agg_agree (G.of_column G.max_ c n) ps xs ts h k = (zero_near, (low 1 (lit< tt), (zero_near, (low 1 (lit< tt), h 1))))
agg_agree (G.of_column G.avg_ c n) ps xs ts h k = (zero_near, (low 1 (lit< tt), (zero_near, (low 1 (lit< tt), h 1))))

aggs_agree : (as_ : List Agg) (ps : List ℕ) (xs ts : List Token) → ((k : ℕ) → Out ps xs ts k) → (k : ℕ) → Out ps (aggs_then as_ xs) (aggs_then as_ ts) k
unfolding runs is_word in_expressions
aggs_agree [] ps xs ts h k = h k
aggs_agree (a ∷ as_) ps xs ts h k = (zero_near, agg_agree a ps (aggs_then as_ xs) (aggs_then as_ ts) (aggs_agree as_ ps xs ts h) 0)

by_agree : (b : By) (ps : List ℕ) (xs ts : List Token) → ((k : ℕ) → Out ps xs ts k) → (k : ℕ) → Out ps (by_then b xs) (by_then b ts) k
unfolding runs is_word in_expressions
by_agree G.no_by ps xs ts h k = h k
by_agree (G.by_names ns) ps xs ts h k = (zero_near, names_agree ns ps xs ts h)

on_agree : (o : On) (ps : List ℕ) (xs ts : List Token) → ((k : ℕ) → Out ps xs ts k) → (k : ℕ) → Out ps (on_then o xs) (on_then o ts) k
unfolding runs is_word in_expressions
on_agree G.no_on ps xs ts h k = h k
on_agree (G.on_names ns) ps xs ts h k = (zero_near, names_agree ns ps xs ts h)

per_agree : (p : G.Per) (ps : List ℕ) (xs ts : List Token) → ((k : ℕ) → Out ps xs ts k) → (k : ℕ) → Out ps (per_then p xs) (per_then p ts) k
unfolding runs is_word in_expressions
per_agree G.no_per ps xs ts h k = h k
per_agree (G.per_names ns) ps xs ts h k = (zero_near, names_agree ns ps xs ts h)

lit_agree : (l : G.Lit) (ps : List ℕ) (xs ts : List Token) → ((k : ℕ) → Out ps xs ts k) → Out ps (lit_then l xs) (lit_then l ts) 0
unfolding runs is_word in_expressions
lit_agree (G.int_lit n) ps xs ts h = (low 1 (lit< tt), h 1)
lit_agree (G.minus_int n) ps xs ts h = (low 1 (lit< tt), (low 2 (lit< tt), h 2))
lit_agree (G.dec_lit u p) ps xs ts h = (low 1 (lit< tt), h 1)
lit_agree (G.minus_dec u p) ps xs ts h = (low 1 (lit< tt), (low 2 (lit< tt), h 2))
lit_agree (G.text_lit s) ps xs ts h = (low 1 (lit< tt), h 1)
lit_agree G.true_lit ps xs ts h = (low 1 (lit< tt), h 1)
lit_agree G.false_lit ps xs ts h = (low 1 (lit< tt), h 1)

lits_agree : (ls : List G.Lit) (ps : List ℕ) (xs ts : List Token) → ((k : ℕ) → Out ps xs ts k) → (k : ℕ) → Out ps (lits_then ls xs) (lits_then ls ts) k
unfolding runs is_word in_expressions
lits_agree [] ps xs ts h k = h k
lits_agree (l ∷ ls) ps xs ts h k = (zero_near, lit_agree l ps (lits_then ls xs) (lits_then ls ts) (lits_agree ls ps xs ts h))

else_agree : (e : G.Else) (ps : List ℕ) (xs ts : List Token) → ((k : ℕ) → Out ps xs ts k) → (k : ℕ) → Out ps (else_then e xs) (else_then e ts) k
unfolding runs is_word in_expressions
else_agree G.no_else ps xs ts h k = h k
else_agree (G.else_ l ls) ps xs ts h k = (zero_near, lit_agree l ps (lits_then ls xs) (lits_then ls ts) (lits_agree ls ps xs ts h))

item_agree : (i : Item) (ps : List ℕ) (ts : List Token) → Any ps ts → Agree (item_places i ps) (runs 0 (item_then i ts))
unfolding runs is_word in_expressions
item_agree (G.alone n) ps ts h = (low 1 (lit< tt), h 1)
item_agree (G.named e n) ps ts h = expr_agree e (0 ∷ 0 ∷ ps) (fixed S.As ∷ name n ∷ ts) (λ k. (zero_near, (low 1 (lit< tt), h 1)))

items_agree : (is : List Item) (ps : List ℕ) (ts : List Token) → Any ps ts → Any (items_places is ps) (items_then is ts)
unfolding runs is_word in_expressions
items_agree [] ps ts h = h
items_agree (i ∷ is) ps ts h = λ k. (zero_near, item_agree i (items_places is ps) (items_then is ts) (items_agree is ps ts h))

step_agree : (s : Step) (ps : List ℕ) (ts : List Token) → Any ps ts → Agree (step_places s ps) (runs 0 (step_then s ts))
unfolding runs is_word in_expressions
step_agree (G.where_ e) ps ts h = (zero_near, expr_agree e ps ts h)
step_agree (G.select i is) ps ts h = (zero_near, item_agree i (items_places is ps) (items_then is ts) (items_agree is ps ts h))
step_agree (G.union n) ps ts h = (zero_near, (low 1 (lit< tt), h 1))
step_agree (G.delay n) ps ts h = (zero_near, (low 1 (lit< tt), h 1))
step_agree (G.duration n) ps ts h = (zero_near, (low 1 (lit< tt), h 1))
step_agree (G.extend n) ps ts h = (zero_near, (low 1 (lit< tt), h 1))
step_agree (G.tumble n) ps ts h = (zero_near, (low 1 (lit< tt), h 1))
step_agree (G.hop n p) ps ts h = (zero_near, (low 1 (lit< tt), (low 2 (lit< tt), h 2)))
step_agree (G.session n b) ps ts h = (zero_near, (low 1 (lit< tt), by_agree b ps [] ts h 1))
step_agree (G.clip n o) ps ts h = (zero_near, (low 1 (lit< tt), on_agree o ps [] ts h 1))
step_agree (G.join n o) ps ts h = (zero_near, (low 1 (lit< tt), on_agree o ps [] ts h 1))
step_agree (G.anti n o) ps ts h = (zero_near, (low 1 (lit< tt), on_agree o ps [] ts h 1))
step_agree (G.group b a as_) ps ts h =
    (zero_near, by_agree b ps (fixed S.Colon ∷ agg_then a (aggs_then as_ [])) (fixed S.Colon ∷ agg_then a (aggs_then as_ ts)) (λ k. (zero_near, agg_agree a ps (aggs_then as_ []) (aggs_then as_ ts) (aggs_agree as_ ps [] ts h) 0)) 0)
step_agree G.coalesce ps ts h = (zero_near, h 0)
step_agree (G.left n o e) ps ts h = (zero_near, (low 1 (lit< tt), on_agree o ps (else_then e []) (else_then e ts) (else_agree e ps [] ts h) 1))
step_agree (G.top n p c) ps ts h = (zero_near, (low 1 (lit< tt), per_agree p ps (fixed S.By ∷ name c ∷ []) (fixed S.By ∷ name c ∷ ts) (λ k. (zero_near, (low 1 (lit< tt), h 1))) 1))
step_agree (G.follow n o m) ps ts h = (zero_near, (low 1 (lit< tt), on_agree o ps (fixed S.Within ∷ int (suc m) ∷ []) (fixed S.Within ∷ int (suc m) ∷ ts) (λ k. (zero_near, (low 1 (lit< tt), h 1))) 1))

steps_agree : (ss : List Step) (ps : List ℕ) (ts : List Token) → Any ps ts → Any (steps_places ss ps) (steps_then ss ts)
unfolding runs is_word in_expressions
steps_agree [] ps ts h = h
steps_agree (s ∷ ss) ps ts h = λ k. (zero_near, step_agree s (steps_places ss ps) (steps_then ss ts) (steps_agree ss ps ts h))

pipe_agree : (p : Pipe) (ps : List ℕ) (ts : List Token) (k : ℕ) → k < 200 → Any ps ts → Agree (pipe_places p ps) (runs k (pipe_then p ts))
unfolding runs is_word in_expressions
pipe_agree p ps ts k l h = (low (suc k) (omega arith), steps_agree p.steps ps ts h (suc k))

lets_agree : (ls : List Let) (ps : List ℕ) (ts : List Token) → Agree ps (runs 0 ts) → Agree (lets_places ls ps) (runs 0 (lets_then ls ts))
unfolding runs is_word in_expressions
lets_agree [] ps ts h = h
lets_agree (l ∷ ls) ps ts h =
    (zero_near, (low 1 (lit< tt), (low 2 (lit< tt), pipe_agree l.pipe (0 ∷ lets_places ls ps) (fixed S.Semicolon ∷ lets_then ls ts) 2 (lit< tt) (λ k. (zero_near, lets_agree ls ps ts h)))))

-- a column ends with its kind, and at most three words of an expression with it
abbrev Ends : List ℕ → List Token → List Token → Type 0
Ends ps xs ts = (k : ℕ) → k ≤ 3 → Out ps xs ts k

col_agree : (c : Col) (ps : List ℕ) (xs ts : List Token) (k : ℕ) → k ≤ 3 → Ends ps xs ts → Out ps (col_then c xs) (col_then c ts) k
unfolding runs is_word in_expressions
col_agree (G.int_col n) ps xs ts k l h = (low (suc k) (omega arith), (zero_near, h 0 (lit≤ tt)))
col_agree (G.bool_col n) ps xs ts k l h = (low (suc k) (omega arith), (zero_near, h 0 (lit≤ tt)))
col_agree (G.text_col n) ps xs ts k l h = (low (suc k) (omega arith), (zero_near, h 0 (lit≤ tt)))
col_agree (G.dec_col n p) ps xs ts k l h = (low (suc k) (omega arith), (zero_near, (low 1 (lit< tt), (low 2 (lit< tt), (low 3 (lit< tt), h 3 (lit≤ tt))))))

cols_agree : (cs : List Col) (ps : List ℕ) (xs ts : List Token) → Ends ps xs ts → Ends ps (cols_then cs xs) (cols_then cs ts)
unfolding runs is_word in_expressions
cols_agree [] ps xs ts h = h
cols_agree (c ∷ cs) ps xs ts h = λ k l. (zero_near, col_agree c ps (cols_then cs xs) (cols_then cs ts) 0 (lit≤ tt) (cols_agree cs ps xs ts h))

stream_agree : (s : Stream) (ps : List ℕ) (xs ts : List Token) → Out ps xs ts 0 → Out ps (stream_then s xs) (stream_then s ts) 0
unfolding runs is_word in_expressions
stream_agree s ps xs ts h = (
  zero_near,
  (
    low 1 (lit< tt),
    (
      low 2 (lit< tt),
      col_agree s.first ps (cols_then s.more (fixed S.Close ∷ fixed S.Semicolon ∷ xs)) (cols_then s.more (fixed S.Close ∷ fixed S.Semicolon ∷ ts)) 2 (lit≤ tt)
          (cols_agree s.more ps (fixed S.Close ∷ fixed S.Semicolon ∷ xs) (fixed S.Close ∷ fixed S.Semicolon ∷ ts) (λ k l. (low (suc k) (omega arith), (zero_near, h)))),
    ),
  ),
)

streams_agree : (ss : List Stream) (ps : List ℕ) (ts : List Token) → Agree ps (runs 0 ts) → Out ps (streams_then ss []) (streams_then ss ts) 0
streams_agree [] ps ts h = h
streams_agree (s ∷ ss) ps ts h = stream_agree s ps (streams_then ss []) (streams_then ss ts) (streams_agree ss ps ts h)

-- the numbers of a query's tokens in their expressions are those in their runs, but for short runs outside
pub query_agree : (q : Query) → Agree (query_places q) (runs 0 (query_tokens q))
unfolding runs
query_agree q =
    let body = pipe_agree q.body [] [] 0 (lit< tt) (λ k. tt) in
    let lets = lets_agree q.lets (pipe_places q.body []) (pipe_then q.body []) body in
    stream_agree q.stream (lets_places q.lets (pipe_places q.body [])) (streams_then q.streams []) (streams_then q.streams (lets_then q.lets (pipe_then q.body [])))
    (streams_agree q.streams (lets_places q.lets (pipe_places q.body [])) (lets_then q.lets (pipe_then q.body [])) lets)
