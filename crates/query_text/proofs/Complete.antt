-- What the grammar spells, the machine reads.
use Rattle.std.proofs.Common.{◌≡◌, ℕ, suc, ◌<◌, true, false, List, [], ◌∷◌, ◌++◌, Option, Some, refl, ap, ◌∙◌, append_assoc, arith, lit<}
use Rattle.query_text.specs.declared.word.Sign.TheVariants as S
use Rattle.query_text.specs.declared.kind.Kind.{Kind}
use Rattle.query_text.specs.declared.kind.Kind.TheVariants as K
use Rattle.query_text.specs.declared.symbol.Symbol.{Symbol}
use Rattle.query_text.specs.declared.symbol.Symbol.TheVariants as Y
use Rattle.query_text.specs.Token.{Token, name, int, dec, str, fixed, kind}
use Rattle.query_text.specs.Grammar as G
use Rattle.query_text.specs.Grammar.{expr_then, ors_then, conj_then, ands_then, neg_then, test_then, sum_then, terms_then, prod_then, factors_then, unary_then, atom_then, more_names_then, names_then, item_then, items_then, agg_then, aggs_then, by_then, on_then, step_then, steps_then, pipe_then, lets_then, col_then, cols_then, stream_then, streams_then, query_tokens}
use Rattle.query_text.specs.Machine.{Choice, take, skip, no, before, pushed, choose, may_end, after, stuck, stuck_then, binds, rank, at_ors, at_ands, at_neg, at_test, at_sum, at_terms, at_factors, at_unary, at_atom, at_pos, at_word}
use Rattle.query_text.proofs.Sound.{Decides, unary_decides, prod_decides, sum_decides, neg_decides, conj_decides}

pub pushed_before : (c : Choice) (more k : List Symbol) (x y : Option (List Symbol)) → Decides c → pushed (before c more) k x ≡ pushed c (more ++ k) y
pushed_before (take g) more k x y d = ap (λ z. Some z) (append_assoc g more k)
pushed_before skip more k x y d = absurd d
pushed_before no more k x y d = refl

-- a symbol whose rule begins with a part that takes a token
pub expands : (s p : Symbol) (more k : List Symbol) (ts : List Token) → may_end s ≡ false → may_end p ≡ false
    → ((t : Token) (rest : List Token) → ts ≡ t ∷ rest → choose s (kind t) ≡ before (choose p (kind t)) more) → ((t : Token) → Decides (choose p (kind t)))
    → stuck (s ∷ k) ts ≡ stuck (p ∷ (more ++ k)) ts
unfolding stuck after
expands s p more k [] e f same h = rw (e, f) refl
expands s p more k (t ∷ ts) e f same h = ap (λ a. stuck_then (λ k'. stuck k' ts) a (t ∷ ts))
    (ap (λ c. pushed c k (after k (kind t))) (same t ts refl) ∙ pushed_before (choose p (kind t)) more k (after k (kind t)) (after (more ++ k) (kind t)) (h t))

-- P holds of the first token, if there is one
abbrev pub AtFirst : (Kind → Type 0) → List Token → Type 0
AtFirst P [] = Unit {0}
AtFirst P (t ∷ ts) = P (kind t)

-- a symbol that the first token leaves out
pub skips : (s : Symbol) (k : List Symbol) (z : List Token) → may_end s ≡ true → AtFirst (λ t. choose s t ≡ skip) z → stuck (s ∷ k) z ≡ stuck k z
unfolding stuck after
skips s k [] e h = rw e refl
skips s k (t ∷ ts) e h = ap (λ a. stuck_then (λ k'. stuck k' ts) a (t ∷ ts)) (ap (λ c. pushed c k (after k (kind t))) h)

ors_skips : (t : Kind) → binds t < 1 → at_ors t ≡ skip
unfolding at_ors binds
ors_skips (K.Fixed S.Or) h = absurd (omega arith)
ors_skips _ h = refl

pub ors_skip : (k : List Symbol) (z : List Token) → rank z < 1 → stuck (Y.Ors ∷ k) z ≡ stuck k z
ors_skip k [] h = skips Y.Ors k [] refl tt
ors_skip k (t ∷ ts) h = skips Y.Ors k (t ∷ ts) refl (ors_skips (kind t) h)

ands_skips : (t : Kind) → binds t < 2 → at_ands t ≡ skip
unfolding at_ands binds
ands_skips (K.Fixed S.And) h = absurd (omega arith)
ands_skips _ h = refl

pub ands_skip : (k : List Symbol) (z : List Token) → rank z < 2 → stuck (Y.Ands ∷ k) z ≡ stuck k z
ands_skip k [] h = skips Y.Ands k [] refl tt
ands_skip k (t ∷ ts) h = skips Y.Ands k (t ∷ ts) refl (ands_skips (kind t) h)

test_skips : (t : Kind) → binds t < 3 → at_test t ≡ skip
unfolding at_test binds
test_skips (K.Fixed S.Equal) h = absurd (omega arith)
test_skips (K.Fixed S.Differs) h = absurd (omega arith)
test_skips (K.Fixed S.Less) h = absurd (omega arith)
test_skips (K.Fixed S.LessEqual) h = absurd (omega arith)
test_skips (K.Fixed S.Greater) h = absurd (omega arith)
test_skips (K.Fixed S.GreaterEqual) h = absurd (omega arith)
test_skips _ h = refl

pub test_skip : (k : List Symbol) (z : List Token) → rank z < 3 → stuck (Y.Test ∷ k) z ≡ stuck k z
test_skip k [] h = skips Y.Test k [] refl tt
test_skip k (t ∷ ts) h = skips Y.Test k (t ∷ ts) refl (test_skips (kind t) h)

terms_skips : (t : Kind) → binds t < 4 → at_terms t ≡ skip
unfolding at_terms binds
terms_skips (K.Fixed S.Plus) h = absurd (omega arith)
terms_skips (K.Fixed S.Minus) h = absurd (omega arith)
terms_skips _ h = refl

pub terms_skip : (k : List Symbol) (z : List Token) → rank z < 4 → stuck (Y.Terms ∷ k) z ≡ stuck k z
terms_skip k [] h = skips Y.Terms k [] refl tt
terms_skip k (t ∷ ts) h = skips Y.Terms k (t ∷ ts) refl (terms_skips (kind t) h)

factors_skips : (t : Kind) → binds t < 5 → at_factors t ≡ skip
unfolding at_factors binds
factors_skips (K.Fixed S.Star) h = absurd (omega arith)
factors_skips (K.Fixed S.Div) h = absurd (omega arith)
factors_skips (K.Fixed S.Mod) h = absurd (omega arith)
factors_skips _ h = refl

pub factors_skip : (k : List Symbol) (z : List Token) → rank z < 5 → stuck (Y.Factors ∷ k) z ≡ stuck k z
factors_skip k [] h = skips Y.Factors k [] refl tt
factors_skip k (t ∷ ts) h = skips Y.Factors k (t ∷ ts) refl (factors_skips (kind t) h)

-- what follows a part binds loosely where what follows the whole does
pub low_ors : (os : G.Ors) (z : List Token) → rank z < 1 → rank (ors_then os z) < 2
unfolding binds
low_ors G.no_or z h = omega arith
low_ors (G.or_ c os) z h = lit< tt

pub low_ands : (as_ : G.Ands) (z : List Token) → rank z < 2 → rank (ands_then as_ z) < 3
unfolding binds
low_ands G.no_and z h = omega arith
low_ands (G.and_ n as_) z h = lit< tt

pub low_test : (t : G.Test) (z : List Token) → rank z < 3 → rank (test_then t z) < 4
unfolding binds
low_test G.no_test z h = omega arith
low_test (G.test G.equal s) z h = lit< tt
low_test (G.test G.differs s) z h = lit< tt
low_test (G.test G.less s) z h = lit< tt
low_test (G.test G.less_equal s) z h = lit< tt
low_test (G.test G.greater s) z h = lit< tt
low_test (G.test G.greater_equal s) z h = lit< tt

pub low_terms : (ts : G.Terms) (z : List Token) → rank z < 4 → rank (terms_then ts z) < 5
unfolding binds
low_terms G.no_term z h = omega arith
low_terms (G.plus p ts) z h = lit< tt
low_terms (G.minus p ts) z h = lit< tt

pub low_close : (z : List Token) → rank (fixed S.Close ∷ z) < 1
unfolding binds
low_close z = lit< tt

pub low_as : (z : List Token) → rank (fixed S.As ∷ z) < 1
unfolding binds
low_as z = lit< tt

neg_is : (t : Kind) → (t ≡ K.Fixed S.Not → ⊥) → at_neg t ≡ before (at_sum t) (Y.Test ∷ [])
unfolding at_neg
neg_is (K.Fixed S.Not) h = absurd (h refl)
neg_is t h = refl

unary_begins : (u : G.Unary) (z rest : List Token) (t : Token) → unary_then u z ≡ t ∷ rest → kind t ≡ K.Fixed S.Not → ⊥
unary_begins (G.negative u) z rest t e f = let g : fixed S.Minus ≡ t = cc in let h : kind (fixed S.Minus) ≡ K.Fixed S.Not = ap kind g ∙ f in cc
unary_begins (G.atom (G.number n)) z rest t e f = let g : int n ≡ t = cc in let h : kind (int n) ≡ K.Fixed S.Not = ap kind g ∙ f in cc
unary_begins (G.atom (G.decimal u p)) z rest t e f = let g : dec u p ≡ t = cc in let h : kind (dec u p) ≡ K.Fixed S.Not = ap kind g ∙ f in cc
unary_begins (G.atom (G.text s)) z rest t e f = let g : str s ≡ t = cc in let h : kind (str s) ≡ K.Fixed S.Not = ap kind g ∙ f in cc
unary_begins (G.atom G.true_) z rest t e f = let g : fixed S.True ≡ t = cc in let h : kind (fixed S.True) ≡ K.Fixed S.Not = ap kind g ∙ f in cc
unary_begins (G.atom G.false_) z rest t e f = let g : fixed S.False ≡ t = cc in let h : kind (fixed S.False) ≡ K.Fixed S.Not = ap kind g ∙ f in cc
unary_begins (G.atom (G.column n)) z rest t e f = let g : name n ≡ t = cc in let h : kind (name n) ≡ K.Fixed S.Not = ap kind g ∙ f in cc
unary_begins (G.atom (G.parens x)) z rest t e f = let g : fixed S.Open ≡ t = cc in let h : kind (fixed S.Open) ≡ K.Fixed S.Not = ap kind g ∙ f in cc

sum_begins : (s : G.Sum) (z rest : List Token) (t : Token) → sum_then s z ≡ t ∷ rest → kind t ≡ K.Fixed S.Not → ⊥
sum_begins (G.sum (G.prod u fs) ts) z rest t e f = unary_begins u _ rest t e f

neg_expands : (s : G.Sum) (k : List Symbol) (z : List Token) → stuck (Y.Neg ∷ k) (sum_then s z) ≡ stuck (Y.Sum ∷ Y.Test ∷ k) (sum_then s z)
neg_expands s k z = expands Y.Neg Y.Sum (Y.Test ∷ []) k (sum_then s z) refl refl (λ t rest e. neg_is (kind t) (sum_begins s z rest t e)) (λ t. sum_decides (kind t))

-- one token at the top of the stack
or_next : (k : List Symbol) (z : List Token) → stuck (Y.Ors ∷ k) (fixed S.Or ∷ z) ≡ stuck (Y.Conj ∷ Y.Ors ∷ k) z
unfolding stuck after at_ors
or_next k z = refl

and_next : (k : List Symbol) (z : List Token) → stuck (Y.Ands ∷ k) (fixed S.And ∷ z) ≡ stuck (Y.Neg ∷ Y.Ands ∷ k) z
unfolding stuck after at_ands
and_next k z = refl

not_next : (k : List Symbol) (z : List Token) → stuck (Y.Neg ∷ k) (fixed S.Not ∷ z) ≡ stuck (Y.Neg ∷ k) z
unfolding stuck after at_neg
not_next k z = refl

test_next : (c : G.Comparison) (k : List Symbol) (z : List Token) → stuck (Y.Test ∷ k) (fixed (G.comparison_sign c) ∷ z) ≡ stuck (Y.Sum ∷ k) z
unfolding stuck after at_test
test_next G.equal k z = refl
test_next G.differs k z = refl
test_next G.less k z = refl
test_next G.less_equal k z = refl
test_next G.greater k z = refl
test_next G.greater_equal k z = refl

plus_next : (k : List Symbol) (z : List Token) → stuck (Y.Terms ∷ k) (fixed S.Plus ∷ z) ≡ stuck (Y.Prod ∷ Y.Terms ∷ k) z
unfolding stuck after at_terms
plus_next k z = refl

minus_next : (k : List Symbol) (z : List Token) → stuck (Y.Terms ∷ k) (fixed S.Minus ∷ z) ≡ stuck (Y.Prod ∷ Y.Terms ∷ k) z
unfolding stuck after at_terms
minus_next k z = refl

times_next : (k : List Symbol) (z : List Token) → stuck (Y.Factors ∷ k) (fixed S.Star ∷ z) ≡ stuck (Y.Unary ∷ Y.Factors ∷ k) z
unfolding stuck after at_factors
times_next k z = refl

div_next : (n : ℕ) (k : List Symbol) (z : List Token) → stuck (Y.Factors ∷ k) (fixed S.Div ∷ int (suc n) ∷ z) ≡ stuck (Y.Factors ∷ k) z
unfolding stuck after at_factors at_pos
div_next n k z = refl

mod_next : (n : ℕ) (k : List Symbol) (z : List Token) → stuck (Y.Factors ∷ k) (fixed S.Mod ∷ int (suc n) ∷ z) ≡ stuck (Y.Factors ∷ k) z
unfolding stuck after at_factors at_pos
mod_next n k z = refl

negative_next : (k : List Symbol) (z : List Token) → stuck (Y.Unary ∷ k) (fixed S.Minus ∷ z) ≡ stuck (Y.Unary ∷ k) z
unfolding stuck after at_unary
negative_next k z = refl

open_next : (k : List Symbol) (z : List Token) → stuck (Y.Unary ∷ k) (fixed S.Open ∷ z) ≡ stuck (Y.Expr ∷ Y.Word S.Close ∷ k) z
unfolding stuck after at_unary at_atom
open_next k z = refl

pub close_next : (k : List Symbol) (z : List Token) → stuck (Y.Word S.Close ∷ k) (fixed S.Close ∷ z) ≡ stuck k z
unfolding stuck after at_word
close_next k z = refl

leaf_next : (a : G.Atom) (k : List Symbol) (z : List Token) → ((e : G.Expr) → a ≡ G.parens e → ⊥) → stuck (Y.Unary ∷ k) (atom_then a z) ≡ stuck k z
unfolding stuck after at_unary at_atom
leaf_next (G.number n) k z h = refl
leaf_next (G.decimal u p) k z h = refl
leaf_next (G.text s) k z h = refl
leaf_next G.true_ k z h = refl
leaf_next G.false_ k z h = refl
leaf_next (G.column n) k z h = refl
leaf_next (G.parens e) k z h = absurd (h e refl)

expr_expands : (k : List Symbol) (ts : List Token) → stuck (Y.Expr ∷ k) ts ≡ stuck (Y.Conj ∷ Y.Ors ∷ k) ts
expr_expands k ts = expands Y.Expr Y.Conj (Y.Ors ∷ []) k ts refl refl (λ t rest e. refl) (λ t. conj_decides (kind t))

conj_expands : (k : List Symbol) (ts : List Token) → stuck (Y.Conj ∷ k) ts ≡ stuck (Y.Neg ∷ Y.Ands ∷ k) ts
conj_expands k ts = expands Y.Conj Y.Neg (Y.Ands ∷ []) k ts refl refl (λ t rest e. refl) (λ t. neg_decides (kind t))

sum_expands : (k : List Symbol) (ts : List Token) → stuck (Y.Sum ∷ k) ts ≡ stuck (Y.Prod ∷ Y.Terms ∷ k) ts
sum_expands k ts = expands Y.Sum Y.Prod (Y.Terms ∷ []) k ts refl refl (λ t rest e. refl) (λ t. prod_decides (kind t))

prod_expands : (k : List Symbol) (ts : List Token) → stuck (Y.Prod ∷ k) ts ≡ stuck (Y.Unary ∷ Y.Factors ∷ k) ts
prod_expands k ts = expands Y.Prod Y.Unary (Y.Factors ∷ []) k ts refl refl (λ t rest e. refl) (λ t. unary_decides (kind t))

mutual
  pub expr_read : (e : G.Expr) (k : List Symbol) (z : List Token) → rank z < 1 → stuck (Y.Expr ∷ k) (expr_then e z) ≡ stuck k z
  expr_read (G.expr c os) k z h = expr_expands k _ ∙ conj_read c (Y.Ors ∷ k) (ors_then os z) (low_ors os z h) ∙ ors_read os k z h

  pub ors_read : (os : G.Ors) (k : List Symbol) (z : List Token) → rank z < 1 → stuck (Y.Ors ∷ k) (ors_then os z) ≡ stuck k z
  ors_read G.no_or k z h = ors_skip k z h
  ors_read (G.or_ c os) k z h = or_next k _ ∙ conj_read c (Y.Ors ∷ k) (ors_then os z) (low_ors os z h) ∙ ors_read os k z h

  pub conj_read : (c : G.Conj) (k : List Symbol) (z : List Token) → rank z < 2 → stuck (Y.Conj ∷ k) (conj_then c z) ≡ stuck k z
  conj_read (G.conj n as_) k z h = conj_expands k _ ∙ neg_read n (Y.Ands ∷ k) (ands_then as_ z) (low_ands as_ z h) ∙ ands_read as_ k z h

  pub ands_read : (as_ : G.Ands) (k : List Symbol) (z : List Token) → rank z < 2 → stuck (Y.Ands ∷ k) (ands_then as_ z) ≡ stuck k z
  ands_read G.no_and k z h = ands_skip k z h
  ands_read (G.and_ n as_) k z h = and_next k _ ∙ neg_read n (Y.Ands ∷ k) (ands_then as_ z) (low_ands as_ z h) ∙ ands_read as_ k z h

  pub neg_read : (n : G.Neg) (k : List Symbol) (z : List Token) → rank z < 3 → stuck (Y.Neg ∷ k) (neg_then n z) ≡ stuck k z
  neg_read (G.not_ n) k z h = not_next k _ ∙ neg_read n k z h
  neg_read (G.cmp s t) k z h = neg_expands s k (test_then t z) ∙ sum_read s (Y.Test ∷ k) (test_then t z) (low_test t z h) ∙ test_read t k z h

  pub test_read : (t : G.Test) (k : List Symbol) (z : List Token) → rank z < 3 → stuck (Y.Test ∷ k) (test_then t z) ≡ stuck k z
  test_read G.no_test k z h = test_skip k z h
  test_read (G.test c s) k z h = test_next c k _ ∙ sum_read s k z (omega arith)

  pub sum_read : (s : G.Sum) (k : List Symbol) (z : List Token) → rank z < 4 → stuck (Y.Sum ∷ k) (sum_then s z) ≡ stuck k z
  sum_read (G.sum p ts) k z h = sum_expands k _ ∙ prod_read p (Y.Terms ∷ k) (terms_then ts z) (low_terms ts z h) ∙ terms_read ts k z h

  pub terms_read : (ts : G.Terms) (k : List Symbol) (z : List Token) → rank z < 4 → stuck (Y.Terms ∷ k) (terms_then ts z) ≡ stuck k z
  terms_read G.no_term k z h = terms_skip k z h
  terms_read (G.plus p ts) k z h = plus_next k _ ∙ prod_read p (Y.Terms ∷ k) (terms_then ts z) (low_terms ts z h) ∙ terms_read ts k z h
  terms_read (G.minus p ts) k z h = minus_next k _ ∙ prod_read p (Y.Terms ∷ k) (terms_then ts z) (low_terms ts z h) ∙ terms_read ts k z h

  pub prod_read : (p : G.Prod) (k : List Symbol) (z : List Token) → rank z < 5 → stuck (Y.Prod ∷ k) (prod_then p z) ≡ stuck k z
  prod_read (G.prod u fs) k z h = prod_expands k _ ∙ unary_read u (Y.Factors ∷ k) (factors_then fs z) ∙ factors_read fs k z h

  pub factors_read : (fs : G.Factors) (k : List Symbol) (z : List Token) → rank z < 5 → stuck (Y.Factors ∷ k) (factors_then fs z) ≡ stuck k z
  factors_read G.no_factor k z h = factors_skip k z h
  factors_read (G.times u fs) k z h = times_next k _ ∙ unary_read u (Y.Factors ∷ k) (factors_then fs z) ∙ factors_read fs k z h
  factors_read (G.div_ n fs) k z h = div_next n k _ ∙ factors_read fs k z h
  factors_read (G.mod_ n fs) k z h = mod_next n k _ ∙ factors_read fs k z h

  pub unary_read : (u : G.Unary) (k : List Symbol) (z : List Token) → stuck (Y.Unary ∷ k) (unary_then u z) ≡ stuck k z
  unary_read (G.negative u) k z = negative_next k _ ∙ unary_read u k z
  unary_read (G.atom (G.parens e)) k z = open_next k _ ∙ expr_read e (Y.Word S.Close ∷ k) (fixed S.Close ∷ z) (low_close z) ∙ close_next k z
  unary_read (G.atom (G.number n)) k z = leaf_next (G.number n) k z (λ e f. cc)
  unary_read (G.atom (G.decimal u p)) k z = leaf_next (G.decimal u p) k z (λ e f. cc)
  unary_read (G.atom (G.text s)) k z = leaf_next (G.text s) k z (λ e f. cc)
  unary_read (G.atom G.true_) k z = leaf_next G.true_ k z (λ e f. cc)
  unary_read (G.atom G.false_) k z = leaf_next G.false_ k z (λ e f. cc)
  unary_read (G.atom (G.column n)) k z = leaf_next (G.column n) k z (λ e f. cc)
