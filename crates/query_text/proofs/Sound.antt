-- What the machine takes, the grammar spells: a token, and then what the pushed symbols stand for.
use Rattle.std.proofs.Common.{◌≡◌, zero, suc, Bool, true, false, if◌then◌else◌, rules, List, [], ◌∷◌, refl, ap, ◌∙◌}
use denote.Enum.Bare.{same_true}
use Rattle.query_text.specs.declared.word.Sign.{Sign}
use Rattle.query_text.specs.declared.word.Sign.TheVariants as S
use Rattle.query_text.specs.contracts.word.Sign.{the_type}
use Rattle.query_text.specs.declared.kind.Kind.{Kind}
use Rattle.query_text.specs.declared.kind.Kind.TheVariants as K
use Rattle.query_text.specs.declared.symbol.Symbol.{Symbol}
use Rattle.query_text.specs.declared.symbol.Symbol.TheVariants as Y
use Rattle.query_text.specs.Token.{Token, name, int, dec, str, fixed, kind}
use Rattle.query_text.specs.Grammar as G
use Rattle.query_text.specs.Grammar.{expr_then, ors_then, conj_then, ands_then, neg_then, test_then, sum_then, terms_then, prod_then, factors_then, unary_then, atom_then, more_names_then, names_then, item_then, items_then, agg_then, aggs_then, by_then, on_then, per_then, lit_then, lits_then, else_then, step_then, steps_then, pipe_then, lets_then, col_then, cols_then, stream_then, streams_then}
use Rattle.query_text.specs.Machine.{Choice, take, skip, no, before, chosen, or_skip, choose, at_stream, at_streams, at_col, at_col_kind, at_cols, at_lets, at_pipe, at_steps, at_step, at_item, at_item_rest, at_items, at_agg, at_aggs, at_by, at_on, at_names, at_more_names, at_expr, at_ors, at_conj, at_ands, at_neg, at_test, at_sum, at_terms, at_prod, at_factors, at_unary, at_atom, at_named, at_int, at_pos, at_places, at_per, at_else, at_lits, at_lit, at_unsigned, same_sign, at_word}
use Rattle.query_text.proofs.Derives.{Spelled, Unsigned, whole, pointed, unsigned_then, Means, Derives, derives_split}

-- the choice reads a token or refuses it
abbrev pub Decides : Choice → Type 0
Decides (take g) = Unit {0}
Decides skip = ⊥
Decides no = Unit {0}

pub decides_before : (c : Choice) (more : List Symbol) → Decides c → Decides (before c more)
decides_before (take g) more d = tt
decides_before skip more d = absurd d
decides_before no more d = tt

pub atom_decides : (t : Kind) → Decides (at_atom t)
unfolding at_atom
atom_decides K.Name = tt
atom_decides (K.Number n) = tt
atom_decides K.Decimal = tt
atom_decides K.Quoted = tt
atom_decides (K.Fixed S.True) = tt
atom_decides (K.Fixed S.False) = tt
atom_decides (K.Fixed S.Open) = tt
atom_decides _ = tt

pub unary_decides : (t : Kind) → Decides (at_unary t)
unfolding at_unary
unary_decides (K.Fixed S.Minus) = tt
unary_decides t = atom_decides t

pub prod_decides : (t : Kind) → Decides (at_prod t)
prod_decides t = decides_before (at_unary t) (Y.Factors ∷ []) (unary_decides t)

pub sum_decides : (t : Kind) → Decides (at_sum t)
sum_decides t = decides_before (at_prod t) (Y.Terms ∷ []) (prod_decides t)

pub neg_decides : (t : Kind) → Decides (at_neg t)
unfolding at_neg
neg_decides (K.Fixed S.Not) = tt
neg_decides t = decides_before (at_sum t) (Y.Test ∷ []) (sum_decides t)

pub conj_decides : (t : Kind) → Decides (at_conj t)
conj_decides t = decides_before (at_neg t) (Y.Ands ∷ []) (neg_decides t)

pub expr_decides : (t : Kind) → Decides (at_expr t)
expr_decides t = decides_before (at_conj t) (Y.Ors ∷ []) (conj_decides t)

tested_decides : (b : Bool) → Decides (if b then take [] else no)
tested_decides true = tt
tested_decides false = tt

word_decides : (s : Sign) (t : Kind) → Decides (at_word s t)
unfolding at_word
word_decides s (K.Fixed f) = tested_decides (same_sign f s)
word_decides s _ = tt

abbrev pub Sound : Choice → Token → (List Token → List Token → Type 0) → Type 0
Sound (take g) t P = (w z : List Token) → Derives g w z → P (t ∷ w) z
Sound skip t P = (z : List Token) → P z z
Sound no t P = Unit {0}

before_sound : (c : Choice) (more : List Symbol) (t : Token) (P Q : List Token → List Token → Type 0) → Decides c → Sound c t P
    → ((u m z : List Token) → P u m → Derives more m z → Q u z) → Sound (before c more) t Q
before_sound (take g) more t P Q h s join = λ w z d. let r = derives_split g more w z d in join (t ∷ w) r.middle z (s w r.middle r.first) r.second
before_sound skip more t P Q h s join = absurd h
before_sound no more t P Q h s join = tt

chosen_sound : (s : Symbol) (g : List Symbol) (t : Token) (c r : Choice) → Sound c t (Means s) → Sound r t (Derives g) → Sound (chosen c g r) t (Derives (s ∷ g))
chosen_sound s g t (take h) r a b = λ w z d. let p = derives_split h g w z d in record { middle = p.middle; first = a w p.middle p.first; second = p.second }
chosen_sound s g t skip (take h) a b = λ w z d. record { middle = t ∷ w; first = a (t ∷ w); second = b w z d }
chosen_sound s g t skip skip a b = λ z. record { middle = z; first = a z; second = b z }
chosen_sound s g t skip no a b = tt
chosen_sound s g t no r a b = tt

atom_sound : (t : Token) → Sound (at_atom (kind t)) t (Means Y.Atom)
unfolding at_atom
atom_sound (name n) = λ w z d. record { it = G.column n; spells = rw d refl }
atom_sound (int n) = λ w z d. record { it = G.number n; spells = rw d refl }
atom_sound (dec u p) = λ w z d. record { it = G.decimal u p; spells = rw d refl }
atom_sound (str s) = λ w z d. record { it = G.text s; spells = rw d refl }
atom_sound (fixed S.True) = λ w z d. record { it = G.true_; spells = rw d refl }
atom_sound (fixed S.False) = λ w z d. record { it = G.false_; spells = rw d refl }
atom_sound (fixed S.Open) = λ w z d. record { it = G.parens d.first.it; spells = rw (d.first.spells, d.second.first, d.second.second) refl }
atom_sound _ = tt

sound_map : (c : Choice) (t : Token) (P Q : List Token → List Token → Type 0) → Decides c → ((u z : List Token) → P u z → Q u z) → Sound c t P → Sound c t Q
sound_map (take g) t P Q h f s = λ w z d. f (t ∷ w) z (s w z d)
sound_map skip t P Q h f s = absurd h
sound_map no t P Q h f s = tt

unary_kind_sound : (k : Kind) (t : Token) → kind t ≡ k → Sound (at_atom k) t (Means Y.Atom) → Sound (at_atom k) t (Means Y.Unary)
unary_kind_sound k t e s = sound_map (at_atom k) t (Means Y.Atom) (Means Y.Unary) (atom_decides k) (λ u z a. record { it = G.atom a.it; spells = a.spells }) s

unary_sound : (t : Token) → Sound (at_unary (kind t)) t (Means Y.Unary)
unfolding at_unary
unary_sound (fixed S.Minus) = λ w z d. record { it = G.negative d.first.it; spells = rw (d.first.spells, d.second) refl }
unary_sound t = unary_kind_sound (kind t) t refl (atom_sound t)

prod_sound : (t : Token) → Sound (at_prod (kind t)) t (Means Y.Prod)
prod_sound t = before_sound (at_unary (kind t)) (Y.Factors ∷ []) t (Means Y.Unary) (Means Y.Prod) (unary_decides (kind t)) (unary_sound t)
    (λ u m z a d. record { it = G.prod a.it d.first.it; spells = rw (a.spells, d.first.spells, d.second) refl })

sum_sound : (t : Token) → Sound (at_sum (kind t)) t (Means Y.Sum)
sum_sound t = before_sound (at_prod (kind t)) (Y.Terms ∷ []) t (Means Y.Prod) (Means Y.Sum) (prod_decides (kind t)) (prod_sound t)
    (λ u m z a d. record { it = G.sum a.it d.first.it; spells = rw (a.spells, d.first.spells, d.second) refl })

cmp_sound : (t : Token) → Sound (before (at_sum (kind t)) (Y.Test ∷ [])) t (Means Y.Neg)
cmp_sound t = before_sound (at_sum (kind t)) (Y.Test ∷ []) t (Means Y.Sum) (Means Y.Neg) (sum_decides (kind t)) (sum_sound t)
    (λ u m z a d. record { it = G.cmp a.it d.first.it; spells = rw (a.spells, d.first.spells, d.second) refl })

neg_sound : (t : Token) → Sound (at_neg (kind t)) t (Means Y.Neg)
unfolding at_neg
neg_sound (fixed S.Not) = λ w z d. record { it = G.not_ d.first.it; spells = rw (d.first.spells, d.second) refl }
neg_sound t = cmp_sound t

conj_sound : (t : Token) → Sound (at_conj (kind t)) t (Means Y.Conj)
conj_sound t = before_sound (at_neg (kind t)) (Y.Ands ∷ []) t (Means Y.Neg) (Means Y.Conj) (neg_decides (kind t)) (neg_sound t)
    (λ u m z a d. record { it = G.conj a.it d.first.it; spells = rw (a.spells, d.first.spells, d.second) refl })

expr_sound : (t : Token) → Sound (at_expr (kind t)) t (Means Y.Expr)
expr_sound t = before_sound (at_conj (kind t)) (Y.Ors ∷ []) t (Means Y.Conj) (Means Y.Expr) (conj_decides (kind t)) (conj_sound t)
    (λ u m z a d. record { it = G.expr a.it d.first.it; spells = rw (a.spells, d.first.spells, d.second) refl })

ors_sound : (t : Token) → Sound (at_ors (kind t)) t (Means Y.Ors)
unfolding at_ors
ors_sound (fixed S.Or) = λ w z d. record { it = G.or_ d.first.it d.second.first.it; spells = rw (d.first.spells, d.second.first.spells, d.second.second) refl }
ors_sound _ = λ z. record { it = G.no_or; spells = refl }

ands_sound : (t : Token) → Sound (at_ands (kind t)) t (Means Y.Ands)
unfolding at_ands
ands_sound (fixed S.And) = λ w z d. record { it = G.and_ d.first.it d.second.first.it; spells = rw (d.first.spells, d.second.first.spells, d.second.second) refl }
ands_sound _ = λ z. record { it = G.no_and; spells = refl }

test_sound : (t : Token) → Sound (at_test (kind t)) t (Means Y.Test)
unfolding at_test
test_sound (fixed S.Equal) = λ w z d. record { it = G.test G.equal d.first.it; spells = rw (d.first.spells, d.second) refl }
test_sound (fixed S.Differs) = λ w z d. record { it = G.test G.differs d.first.it; spells = rw (d.first.spells, d.second) refl }
test_sound (fixed S.Less) = λ w z d. record { it = G.test G.less d.first.it; spells = rw (d.first.spells, d.second) refl }
test_sound (fixed S.LessEqual) = λ w z d. record { it = G.test G.less_equal d.first.it; spells = rw (d.first.spells, d.second) refl }
test_sound (fixed S.Greater) = λ w z d. record { it = G.test G.greater d.first.it; spells = rw (d.first.spells, d.second) refl }
test_sound (fixed S.GreaterEqual) = λ w z d. record { it = G.test G.greater_equal d.first.it; spells = rw (d.first.spells, d.second) refl }
test_sound _ = λ z. record { it = G.no_test; spells = refl }

terms_sound : (t : Token) → Sound (at_terms (kind t)) t (Means Y.Terms)
unfolding at_terms
terms_sound (fixed S.Plus) = λ w z d. record { it = G.plus d.first.it d.second.first.it; spells = rw (d.first.spells, d.second.first.spells, d.second.second) refl }
terms_sound (fixed S.Minus) = λ w z d. record { it = G.minus d.first.it d.second.first.it; spells = rw (d.first.spells, d.second.first.spells, d.second.second) refl }
terms_sound _ = λ z. record { it = G.no_term; spells = refl }

factors_sound : (t : Token) → Sound (at_factors (kind t)) t (Means Y.Factors)
unfolding at_factors
factors_sound (fixed S.Star) = λ w z d. record { it = G.times d.first.it d.second.first.it; spells = rw (d.first.spells, d.second.first.spells, d.second.second) refl }
factors_sound (fixed S.Div) = λ w z d. record { it = G.div_ d.first.it d.second.first.it; spells = rw (d.first.spells, d.second.first.spells, d.second.second) refl }
factors_sound (fixed S.Mod) = λ w z d. record { it = G.mod_ d.first.it d.second.first.it; spells = rw (d.first.spells, d.second.first.spells, d.second.second) refl }
factors_sound _ = λ z. record { it = G.no_factor; spells = refl }

named_sound : (t : Token) → Sound (at_named (kind t)) t (Means Y.Named)
unfolding at_named
named_sound (name n) = λ w z d. record { it = n; spells = rw d refl }
named_sound _ = tt

int_sound : (t : Token) → Sound (at_int (kind t)) t (Means Y.Int)
unfolding at_int
int_sound (int n) = λ w z d. record { it = n; spells = rw d refl }
int_sound _ = tt

pos_sound : (t : Token) → Sound (at_pos (kind t)) t (Means Y.Pos)
unfolding at_pos
pos_sound (int (suc n)) = λ w z d. record { it = n; spells = rw d refl }
pos_sound (int zero) = tt
pos_sound _ = tt

-- a choice by a test
tested : (c : Bool) (t : Token) (P : List Token → List Token → Type 0) → (c ≡ true → (w z : List Token) → w ≡ z → P (t ∷ w) z) → Sound (if c then take [] else no) t P
tested true t P h = h refl
tested false t P h = tt

holds : (b : Bool) → b ≡ true → G.Holds b
holds true e = tt
holds false e = cc

places_sound : (t : Token) → Sound (at_places (kind t)) t (Means Y.Places)
unfolding at_places
places_sound (int n) = tested (G.is_places n) (int n) (Means Y.Places) (λ e w z d. record { it = record { number = n; few = holds (G.is_places n) e }; spells = rw d refl })
places_sound _ = tt

same_is : (f s : Sign) → same_sign f s ≡ true → f ≡ s
same_is f s e = same_true the_type (search rules) f s e

word_sound : (s : Sign) (t : Token) → Sound (at_word s (kind t)) t (Means (Y.Word s))
unfolding at_word
word_sound s (fixed f) = tested (same_sign f s) (fixed f) (Means (Y.Word s)) (λ e w z d. ap (λ x. fixed f ∷ x) d ∙ ap (λ x. fixed x ∷ z) (same_is f s e))
word_sound s _ = tt

names_sound : (t : Token) → Sound (at_names (kind t)) t (Means Y.Names)
unfolding at_names
names_sound (name n) = λ w z d. record { it = record { first = n; more = d.first.it }; spells = rw (d.first.spells, d.second) refl }
names_sound _ = tt

more_names_sound : (t : Token) → Sound (at_more_names (kind t)) t (Means Y.MoreNames)
unfolding at_more_names
more_names_sound (fixed S.Comma) = λ w z d. record { it = d.first.it ∷ d.second.first.it; spells = rw (d.first.spells, d.second.first.spells, d.second.second) refl }
more_names_sound _ = λ z. record { it = []; spells = refl }

by_sound : (t : Token) → Sound (at_by (kind t)) t (Means Y.By)
unfolding at_by
by_sound (fixed S.By) = λ w z d. record { it = G.by_names d.first.it; spells = rw (d.first.spells, d.second) refl }
by_sound _ = λ z. record { it = G.no_by; spells = refl }

on_sound : (t : Token) → Sound (at_on (kind t)) t (Means Y.On)
unfolding at_on
on_sound (fixed S.On) = λ w z d. record { it = G.on_names d.first.it; spells = rw (d.first.spells, d.second) refl }
on_sound _ = λ z. record { it = G.no_on; spells = refl }

per_sound : (t : Token) → Sound (at_per (kind t)) t (Means Y.Per)
unfolding at_per
per_sound (fixed S.Per) = λ w z d. record { it = G.per_names d.first.it; spells = rw (d.first.spells, d.second) refl }
per_sound _ = λ z. record { it = G.no_per; spells = refl }

unsigned_sound : (t : Token) → Sound (at_unsigned (kind t)) t (Means Y.Unsigned)
unfolding at_unsigned
unsigned_sound (int n) = λ w z d. record { it = whole n; spells = rw d refl }
unsigned_sound (dec u p) = λ w z d. record { it = pointed u p; spells = rw d refl }
unsigned_sound _ = tt

-- behind its sign
minus : (u : Unsigned) (w z : List Token) → w ≡ unsigned_then u z → Spelled lit_then (fixed S.Minus ∷ w) z
minus (whole n) w z e = record { it = G.minus_int n; spells = rw e refl }
minus (pointed u p) w z e = record { it = G.minus_dec u p; spells = rw e refl }

lit_sound : (t : Token) → Sound (at_lit (kind t)) t (Means Y.Lit)
unfolding at_lit
lit_sound (fixed S.Minus) = λ w z d. minus d.first.it w z (d.first.spells ∙ ap (unsigned_then d.first.it) d.second)
lit_sound (int n) = λ w z d. record { it = G.int_lit n; spells = rw d refl }
lit_sound (dec u p) = λ w z d. record { it = G.dec_lit u p; spells = rw d refl }
lit_sound (str s) = λ w z d. record { it = G.text_lit s; spells = rw d refl }
lit_sound (fixed S.True) = λ w z d. record { it = G.true_lit; spells = rw d refl }
lit_sound (fixed S.False) = λ w z d. record { it = G.false_lit; spells = rw d refl }
lit_sound _ = tt

lits_sound : (t : Token) → Sound (at_lits (kind t)) t (Means Y.Lits)
unfolding at_lits
lits_sound (fixed S.Comma) = λ w z d. record { it = d.first.it ∷ d.second.first.it; spells = rw (d.first.spells, d.second.first.spells, d.second.second) refl }
lits_sound _ = λ z. record { it = []; spells = refl }

else_sound : (t : Token) → Sound (at_else (kind t)) t (Means Y.Else)
unfolding at_else
else_sound (fixed S.Else) = λ w z d. record { it = G.else_ d.first.it d.second.first.it; spells = rw (d.first.spells, d.second.first.spells, d.second.second) refl }
else_sound _ = λ z. record { it = G.no_else; spells = refl }

agg_sound : (t : Token) → Sound (at_agg (kind t)) t (Means Y.Agg)
unfolding at_agg
agg_sound (fixed S.Count) = λ w z d. record { it = G.count d.second.first.it; spells = rw (d.first, d.second.first.spells, d.second.second) refl }
agg_sound (fixed S.Sum) = λ w z d. record { it = G.of_column G.sum_ d.first.it d.second.second.first.it; spells = rw (d.first.spells, d.second.first, d.second.second.first.spells, d.second.second.second) refl }
agg_sound (fixed S.Min) = λ w z d. record { it = G.of_column G.min_ d.first.it d.second.second.first.it; spells = rw (d.first.spells, d.second.first, d.second.second.first.spells, d.second.second.second) refl }
agg_sound (fixed S.Max) = λ w z d. record { it = G.of_column G.max_ d.first.it d.second.second.first.it; spells = rw (d.first.spells, d.second.first, d.second.second.first.spells, d.second.second.second) refl }
agg_sound (fixed S.Avg) = λ w z d. record { it = G.of_column G.avg_ d.first.it d.second.second.first.it; spells = rw (d.first.spells, d.second.first, d.second.second.first.spells, d.second.second.second) refl }
agg_sound _ = tt

aggs_sound : (t : Token) → Sound (at_aggs (kind t)) t (Means Y.Aggs)
unfolding at_aggs
aggs_sound (fixed S.Comma) = λ w z d. record { it = d.first.it ∷ d.second.first.it; spells = rw (d.first.spells, d.second.first.spells, d.second.second) refl }
aggs_sound _ = λ z. record { it = []; spells = refl }

as_named_sound : (t : Token) → Sound (before (at_word S.As (kind t)) (Y.Named ∷ [])) t (Derives (Y.Word S.As ∷ Y.Named ∷ []))
as_named_sound t = before_sound (at_word S.As (kind t)) (Y.Named ∷ []) t (Means (Y.Word S.As)) (Derives (Y.Word S.As ∷ Y.Named ∷ [])) (word_decides S.As (kind t)) (word_sound S.As t)
    (λ u m z a d. record { middle = m; first = a; second = d })

or_skip_sound : (c : Choice) (t : Token) → Sound c t (Derives (Y.Factors ∷ Y.Terms ∷ Y.Test ∷ Y.Ands ∷ Y.Ors ∷ Y.Word S.As ∷ Y.Named ∷ [])) → Sound (or_skip c) t (Means Y.ItemRest)
or_skip_sound (take g) t s = λ w z e n.
    let d = s w z e in
    record {
      it = G.named (G.expr (G.conj (G.cmp (G.sum (G.prod (G.atom (G.column n)) d.first.it) d.second.first.it) d.second.second.first.it) d.second.second.second.first.it) d.second.second.second.second.first.it) d.second.second.second.second.second.second.first.it;
      spells = ap (λ x. name n ∷ x) (d.first.spells ∙ ap (factors_then d.first.it) (d.second.first.spells ∙ ap (terms_then d.second.first.it) (d.second.second.first.spells ∙ ap (test_then d.second.second.first.it) (d.second.second.second.first.spells ∙ ap (ands_then d.second.second.second.first.it) (d.second.second.second.second.first.spells ∙ ap (ors_then d.second.second.second.second.first.it) (d.second.second.second.second.second.first ∙ ap (λ x. fixed S.As ∷ x) (d.second.second.second.second.second.second.first.spells ∙ ap (λ x. name d.second.second.second.second.second.second.first.it ∷ x) d.second.second.second.second.second.second.second)))))));
    }
or_skip_sound skip t s = λ z n. record { it = G.alone n; spells = refl }
or_skip_sound no t s = λ z n. record { it = G.alone n; spells = refl }

item_rest_sound : (t : Token) → Sound (at_item_rest (kind t)) t (Means Y.ItemRest)
unfolding at_item_rest
item_rest_sound t = or_skip_sound _ t
    (chosen_sound Y.Factors _ t (at_factors (kind t)) _ (factors_sound t)
    (chosen_sound Y.Terms _ t (at_terms (kind t)) _ (terms_sound t)
    (chosen_sound Y.Test _ t (at_test (kind t)) _ (test_sound t)
    (chosen_sound Y.Ands _ t (at_ands (kind t)) _ (ands_sound t)
    (chosen_sound Y.Ors _ t (at_ors (kind t)) _ (ors_sound t) (as_named_sound t))))))

named_item_sound : (t : Token) → Sound (before (at_expr (kind t)) (Y.Word S.As ∷ Y.Named ∷ [])) t (Means Y.Item)
named_item_sound t = before_sound (at_expr (kind t)) (Y.Word S.As ∷ Y.Named ∷ []) t (Means Y.Expr) (Means Y.Item) (expr_decides (kind t)) (expr_sound t)
    (λ u m z a d. record { it = G.named a.it d.second.first.it; spells = rw (a.spells, d.first, d.second.first.spells, d.second.second) refl })

item_sound : (t : Token) → Sound (at_item (kind t)) t (Means Y.Item)
unfolding at_item
item_sound (name n) = λ w z d. let s = d.first n in record { it = s.it; spells = s.spells ∙ ap (item_then s.it) d.second }
item_sound t = named_item_sound t

items_sound : (t : Token) → Sound (at_items (kind t)) t (Means Y.Items)
unfolding at_items
items_sound (fixed S.Comma) = λ w z d. record { it = d.first.it ∷ d.second.first.it; spells = rw (d.first.spells, d.second.first.spells, d.second.second) refl }
items_sound _ = λ z. record { it = []; spells = refl }

step_sound : (t : Token) → Sound (at_step (kind t)) t (Means Y.Step)
unfolding at_step
step_sound (fixed S.Where) = λ w z d. record { it = G.where_ d.first.it; spells = rw (d.first.spells, d.second) refl }
step_sound (fixed S.Select) = λ w z d. record { it = G.select d.first.it d.second.first.it; spells = rw (d.first.spells, d.second.first.spells, d.second.second) refl }
step_sound (fixed S.Union) = λ w z d. record { it = G.union d.first.it; spells = rw (d.first.spells, d.second) refl }
step_sound (fixed S.Delay) = λ w z d. record { it = G.delay d.first.it; spells = rw (d.first.spells, d.second) refl }
step_sound (fixed S.Duration) = λ w z d. record { it = G.duration d.first.it; spells = rw (d.first.spells, d.second) refl }
step_sound (fixed S.Extend) = λ w z d. record { it = G.extend d.first.it; spells = rw (d.first.spells, d.second) refl }
step_sound (fixed S.Tumble) = λ w z d. record { it = G.tumble d.first.it; spells = rw (d.first.spells, d.second) refl }
step_sound (fixed S.Hop) = λ w z d. record { it = G.hop d.first.it d.second.first.it; spells = rw (d.first.spells, d.second.first.spells, d.second.second) refl }
step_sound (fixed S.Session) = λ w z d. record { it = G.session d.first.it d.second.first.it; spells = rw (d.first.spells, d.second.first.spells, d.second.second) refl }
step_sound (fixed S.Clip) = λ w z d. record { it = G.clip d.first.it d.second.first.it; spells = rw (d.first.spells, d.second.first.spells, d.second.second) refl }
step_sound (fixed S.Join) = λ w z d. record { it = G.join d.first.it d.second.first.it; spells = rw (d.first.spells, d.second.first.spells, d.second.second) refl }
step_sound (fixed S.Anti) = λ w z d. record { it = G.anti d.first.it d.second.first.it; spells = rw (d.first.spells, d.second.first.spells, d.second.second) refl }
step_sound (fixed S.Group) = λ w z d. record { it = G.group d.first.it d.second.second.first.it d.second.second.second.first.it; spells = rw (d.first.spells, d.second.first, d.second.second.first.spells, d.second.second.second.first.spells, d.second.second.second.second) refl }
step_sound (fixed S.Coalesce) = λ w z d. record { it = G.coalesce; spells = rw d refl }
step_sound (fixed S.Left) = λ w z d. record { it = G.left d.first.it d.second.first.it d.second.second.first.it; spells = rw (d.first.spells, d.second.first.spells, d.second.second.first.spells, d.second.second.second) refl }
step_sound (fixed S.Top) = λ w z d. record { it = G.top d.first.it d.second.first.it d.second.second.second.first.it; spells = rw (d.first.spells, d.second.first.spells, d.second.second.first, d.second.second.second.first.spells, d.second.second.second.second) refl }
step_sound (fixed S.Follow) = λ w z d. record { it = G.follow d.first.it d.second.first.it d.second.second.second.first.it; spells = rw (d.first.spells, d.second.first.spells, d.second.second.first, d.second.second.second.first.spells, d.second.second.second.second) refl }
step_sound _ = tt

steps_sound : (t : Token) → Sound (at_steps (kind t)) t (Means Y.Steps)
unfolding at_steps
steps_sound (fixed S.Bar) = λ w z d. record { it = d.first.it ∷ d.second.first.it; spells = rw (d.first.spells, d.second.first.spells, d.second.second) refl }
steps_sound _ = λ z. record { it = []; spells = refl }

pipe_sound : (t : Token) → Sound (at_pipe (kind t)) t (Means Y.Pipe)
unfolding at_pipe
pipe_sound (name n) = λ w z d. record { it = record { base = n; steps = d.first.it }; spells = rw (d.first.spells, d.second) refl }
pipe_sound _ = tt

lets_sound : (t : Token) → Sound (at_lets (kind t)) t (Means Y.Lets)
unfolding at_lets
lets_sound (fixed S.Let) = λ w z d. record { it = record { called = d.first.it; pipe = d.second.second.first.it } ∷ d.second.second.second.second.first.it; spells = rw (d.first.spells, d.second.first, d.second.second.first.spells, d.second.second.second.first, d.second.second.second.second.first.spells, d.second.second.second.second.second) refl }
lets_sound _ = λ z. record { it = []; spells = refl }

col_kind_sound : (t : Token) → Sound (at_col_kind (kind t)) t (Means Y.ColKind)
unfolding at_col_kind
col_kind_sound (fixed S.IntKind) = λ w z d n. record { it = G.int_col n; spells = rw d refl }
col_kind_sound (fixed S.BoolKind) = λ w z d n. record { it = G.bool_col n; spells = rw d refl }
col_kind_sound (fixed S.TextKind) = λ w z d n. record { it = G.text_col n; spells = rw d refl }
col_kind_sound (fixed S.DecKind) = λ w z d n. record { it = G.dec_col n d.second.first.it; spells = rw (d.first, d.second.first.spells, d.second.second.first, d.second.second.second) refl }
col_kind_sound _ = tt

col_sound : (t : Token) → Sound (at_col (kind t)) t (Means Y.Col)
unfolding at_col
col_sound (name n) = λ w z d. let s = d.first n in record { it = s.it; spells = s.spells ∙ ap (col_then s.it) d.second }
col_sound _ = tt

cols_sound : (t : Token) → Sound (at_cols (kind t)) t (Means Y.Cols)
unfolding at_cols
cols_sound (fixed S.Comma) = λ w z d. record { it = d.first.it ∷ d.second.first.it; spells = rw (d.first.spells, d.second.first.spells, d.second.second) refl }
cols_sound _ = λ z. record { it = []; spells = refl }

stream_sound : (t : Token) → Sound (at_stream (kind t)) t (Means Y.Stream)
unfolding at_stream
stream_sound (fixed S.Stream) = λ w z d. record { it = record { called = d.first.it; first = d.second.second.first.it; more = d.second.second.second.first.it }; spells = rw (d.first.spells, d.second.first, d.second.second.first.spells, d.second.second.second.first.spells, d.second.second.second.second.first, d.second.second.second.second.second.first, d.second.second.second.second.second.second) refl }
stream_sound _ = tt

streams_sound : (t : Token) → Sound (at_streams (kind t)) t (Means Y.Streams)
unfolding at_streams
streams_sound (fixed S.Stream) = λ w z d. record { it = record { called = d.first.it; first = d.second.second.first.it; more = d.second.second.second.first.it } ∷ d.second.second.second.second.second.second.first.it; spells = rw (d.first.spells, d.second.first, d.second.second.first.spells, d.second.second.second.first.spells, d.second.second.second.second.first, d.second.second.second.second.second.first, d.second.second.second.second.second.second.first.spells, d.second.second.second.second.second.second.second) refl }
streams_sound _ = λ z. record { it = []; spells = refl }

pub sound : (s : Symbol) (t : Token) → Sound (choose s (kind t)) t (Means s)
sound Y.Stream t = stream_sound t
sound Y.Streams t = streams_sound t
sound Y.Col t = col_sound t
sound Y.ColKind t = col_kind_sound t
sound Y.Cols t = cols_sound t
sound Y.Lets t = lets_sound t
sound Y.Pipe t = pipe_sound t
sound Y.Steps t = steps_sound t
sound Y.Step t = step_sound t
sound Y.Item t = item_sound t
sound Y.ItemRest t = item_rest_sound t
sound Y.Items t = items_sound t
sound Y.Agg t = agg_sound t
sound Y.Aggs t = aggs_sound t
sound Y.By t = by_sound t
sound Y.On t = on_sound t
sound Y.Names t = names_sound t
sound Y.MoreNames t = more_names_sound t
sound Y.Expr t = expr_sound t
sound Y.Ors t = ors_sound t
sound Y.Conj t = conj_sound t
sound Y.Ands t = ands_sound t
sound Y.Neg t = neg_sound t
sound Y.Test t = test_sound t
sound Y.Sum t = sum_sound t
sound Y.Terms t = terms_sound t
sound Y.Prod t = prod_sound t
sound Y.Factors t = factors_sound t
sound Y.Unary t = unary_sound t
sound Y.Atom t = atom_sound t
sound Y.Named t = named_sound t
sound Y.Int t = int_sound t
sound Y.Pos t = pos_sound t
sound Y.Places t = places_sound t
sound Y.Per t = per_sound t
sound Y.Else t = else_sound t
sound Y.Lits t = lits_sound t
sound Y.Lit t = lit_sound t
sound Y.Unsigned t = unsigned_sound t
sound (Y.Word s) t = word_sound s t
