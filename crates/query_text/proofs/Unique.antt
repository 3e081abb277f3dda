-- No list of tokens spells two queries.
use Rattle.std.proofs.Common.{◌≡◌, ℕ, suc, ◌<◌, Bool, true, false, subst, List, [], ◌∷◌, refl, ap, sym, ◌∙◌, arith, true≢false}
use Rattle.std.specs.Bool.{◌==◌}
use Rattle.std.proofs.lemmas.Bool.{eq-eqb}
use Rattle.query_text.specs.declared.word.Sign.TheVariants as S
use Rattle.query_text.specs.Token.{Token, name, int, dec, str, fixed}
use Rattle.query_text.specs.Follows.{Lacks, ends_step, ends_item}
use Rattle.query_text.specs.Grammar as G
use Rattle.query_text.specs.Grammar.{fun_sign, expr_then, ors_then, conj_then, ands_then, neg_then, test_then, sum_then, terms_then, prod_then, factors_then, unary_then, atom_then, more_names_then, names_then, item_then, items_then, agg_then, aggs_then, by_then, on_then, per_then, lit_then, lits_then, else_then, step_then, steps_then, pipe_then, let_then, lets_then, col_then, cols_then, stream_then, streams_then, query_tokens}
use Rattle.query_text.specs.Machine.{binds, rank}
use Rattle.query_text.proofs.Complete.{low_ors, low_ands, low_test, low_terms, low_close, low_as}
use Rattle.query_text.proofs.Queries.{ends_key, ends_else, begins_on, on_ors, on_ands, on_test, on_terms, on_factors, ends_items, ends_steps, low_end}

pub record Both {A : Type 0} (a b : A) (y z : List Token) : Type 0 where
  pub it : a ≡ b
  pub rest : y ≡ z

pub not_or : (z w : List Token) → rank z < 1 → z ≡ fixed S.Or ∷ w → ⊥
unfolding binds
not_or z w h e = let r : rank z ≡ 1 = ap rank e in omega arith

pub not_and : (z w : List Token) → rank z < 2 → z ≡ fixed S.And ∷ w → ⊥
unfolding binds
not_and z w h e = let r : rank z ≡ 2 = ap rank e in omega arith

pub not_plus : (z w : List Token) → rank z < 4 → z ≡ fixed S.Plus ∷ w → ⊥
unfolding binds
not_plus z w h e = let r : rank z ≡ 4 = ap rank e in omega arith

pub not_minus : (z w : List Token) → rank z < 4 → z ≡ fixed S.Minus ∷ w → ⊥
unfolding binds
not_minus z w h e = let r : rank z ≡ 4 = ap rank e in omega arith

pub not_star : (z w : List Token) → rank z < 5 → z ≡ fixed S.Star ∷ w → ⊥
unfolding binds
not_star z w h e = let r : rank z ≡ 5 = ap rank e in omega arith

pub not_div : (z w : List Token) → rank z < 5 → z ≡ fixed S.Div ∷ w → ⊥
unfolding binds
not_div z w h e = let r : rank z ≡ 5 = ap rank e in omega arith

pub not_mod : (z w : List Token) → rank z < 5 → z ≡ fixed S.Mod ∷ w → ⊥
unfolding binds
not_mod z w h e = let r : rank z ≡ 5 = ap rank e in omega arith

pub not_test : (c : G.Comparison) (z w : List Token) → rank z < 3 → z ≡ fixed (G.comparison_sign c) ∷ w → ⊥
unfolding binds
not_test G.equal z w h e = let r : rank z ≡ 3 = ap rank e in omega arith
not_test G.differs z w h e = let r : rank z ≡ 3 = ap rank e in omega arith
not_test G.less z w h e = let r : rank z ≡ 3 = ap rank e in omega arith
not_test G.less_equal z w h e = let r : rank z ≡ 3 = ap rank e in omega arith
not_test G.greater z w h e = let r : rank z ≡ 3 = ap rank e in omega arith
not_test G.greater_equal z w h e = let r : rank z ≡ 3 = ap rank e in omega arith

pub one_sign : (c d : G.Comparison) → G.comparison_sign c ≡ G.comparison_sign d → c ≡ d
one_sign G.equal G.equal e = refl
one_sign G.differs G.differs e = refl
one_sign G.less G.less e = refl
one_sign G.less_equal G.less_equal e = refl
one_sign G.greater G.greater e = refl
one_sign G.greater_equal G.greater_equal e = refl
one_sign _ _ e = cc

pub not_sum : (s : G.Sum) (w z : List Token) → fixed S.Not ∷ w ≡ sum_then s z → ⊥
not_sum (G.sum (G.prod (G.negative u) fs) ts) w z e = cc
not_sum (G.sum (G.prod (G.atom (G.number n)) fs) ts) w z e = cc
not_sum (G.sum (G.prod (G.atom (G.decimal u p)) fs) ts) w z e = cc
not_sum (G.sum (G.prod (G.atom (G.text n)) fs) ts) w z e = cc
not_sum (G.sum (G.prod (G.atom G.true_) fs) ts) w z e = cc
not_sum (G.sum (G.prod (G.atom G.false_) fs) ts) w z e = cc
not_sum (G.sum (G.prod (G.atom (G.column n)) fs) ts) w z e = cc
not_sum (G.sum (G.prod (G.atom (G.parens n)) fs) ts) w z e = cc

pub not_atom : (a : G.Atom) (w z : List Token) → fixed S.Minus ∷ w ≡ atom_then a z → ⊥
not_atom (G.number n) w z e = cc
not_atom (G.decimal u p) w z e = cc
not_atom (G.text n) w z e = cc
not_atom G.true_ w z e = cc
not_atom G.false_ w z e = cc
not_atom (G.column n) w z e = cc
not_atom (G.parens n) w z e = cc

mutual
  expr_unique : (a b : G.Expr) (y z : List Token) → rank y < 1 → rank z < 1 → expr_then a y ≡ expr_then b z → Both a b y z
  expr_unique (G.expr c os) (G.expr d ps) y z h k e =
      let u = conj_unique c d (ors_then os y) (ors_then ps z) (low_ors os y h) (low_ors ps z k) e in
      let v = ors_unique os ps y z h k u.rest in
      record { it = ap (λ x. G.expr x os) u.it ∙ ap (G.expr d) v.it; rest = v.rest }

  ors_unique : (os ps : G.Ors) (y z : List Token) → rank y < 1 → rank z < 1 → ors_then os y ≡ ors_then ps z → Both os ps y z
  ors_unique G.no_or G.no_or y z h k e = record { it = refl; rest = e }
  ors_unique G.no_or (G.or_ c ps) y z h k e = absurd (not_or y _ h e)
  ors_unique (G.or_ c os) G.no_or y z h k e = absurd (not_or z _ k (sym e))
  ors_unique (G.or_ c os) (G.or_ d ps) y z h k e =
      let f : conj_then c (ors_then os y) ≡ conj_then d (ors_then ps z) = cc in
      let u = conj_unique c d (ors_then os y) (ors_then ps z) (low_ors os y h) (low_ors ps z k) f in
      let v = ors_unique os ps y z h k u.rest in
      record { it = ap (λ x. G.or_ x os) u.it ∙ ap (G.or_ d) v.it; rest = v.rest }

  conj_unique : (a b : G.Conj) (y z : List Token) → rank y < 2 → rank z < 2 → conj_then a y ≡ conj_then b z → Both a b y z
  conj_unique (G.conj m as_) (G.conj n bs) y z h k e =
      let u = neg_unique m n (ands_then as_ y) (ands_then bs z) (low_ands as_ y h) (low_ands bs z k) e in
      let v = ands_unique as_ bs y z h k u.rest in
      record { it = ap (λ x. G.conj x as_) u.it ∙ ap (G.conj n) v.it; rest = v.rest }

  ands_unique : (as_ bs : G.Ands) (y z : List Token) → rank y < 2 → rank z < 2 → ands_then as_ y ≡ ands_then bs z → Both as_ bs y z
  ands_unique G.no_and G.no_and y z h k e = record { it = refl; rest = e }
  ands_unique G.no_and (G.and_ n bs) y z h k e = absurd (not_and y _ h e)
  ands_unique (G.and_ m as_) G.no_and y z h k e = absurd (not_and z _ k (sym e))
  ands_unique (G.and_ m as_) (G.and_ n bs) y z h k e =
      let f : neg_then m (ands_then as_ y) ≡ neg_then n (ands_then bs z) = cc in
      let u = neg_unique m n (ands_then as_ y) (ands_then bs z) (low_ands as_ y h) (low_ands bs z k) f in
      let v = ands_unique as_ bs y z h k u.rest in
      record { it = ap (λ x. G.and_ x as_) u.it ∙ ap (G.and_ n) v.it; rest = v.rest }

  neg_unique : (m n : G.Neg) (y z : List Token) → rank y < 3 → rank z < 3 → neg_then m y ≡ neg_then n z → Both m n y z
  neg_unique (G.not_ m) (G.not_ n) y z h k e =
      let f : neg_then m y ≡ neg_then n z = cc in
      let u = neg_unique m n y z h k f in record { it = ap G.not_ u.it; rest = u.rest }
  neg_unique (G.not_ m) (G.cmp s t) y z h k e = absurd (not_sum s (neg_then m y) (test_then t z) e)
  neg_unique (G.cmp s t) (G.not_ n) y z h k e = absurd (not_sum s (neg_then n z) (test_then t y) (sym e))
  neg_unique (G.cmp s t) (G.cmp s' t') y z h k e =
      let u = sum_unique s s' (test_then t y) (test_then t' z) (low_test t y h) (low_test t' z k) e in
      let v = test_unique t t' y z h k u.rest in
      record { it = ap (λ x. G.cmp x t) u.it ∙ ap (G.cmp s') v.it; rest = v.rest }

  test_unique : (t u : G.Test) (y z : List Token) → rank y < 3 → rank z < 3 → test_then t y ≡ test_then u z → Both t u y z
  test_unique G.no_test G.no_test y z h k e = record { it = refl; rest = e }
  test_unique G.no_test (G.test c s) y z h k e = absurd (not_test c y _ h e)
  test_unique (G.test c s) G.no_test y z h k e = absurd (not_test c z _ k (sym e))
  test_unique (G.test c s) (G.test d t) y z h k e =
      let g : G.comparison_sign c ≡ G.comparison_sign d = cc in
      let f : sum_then s y ≡ sum_then t z = cc in
      let u = sum_unique s t y z (omega arith) (omega arith) f in
      record { it = ap (λ x. G.test x s) (one_sign c d g) ∙ ap (G.test d) u.it; rest = u.rest }

  sum_unique : (a b : G.Sum) (y z : List Token) → rank y < 4 → rank z < 4 → sum_then a y ≡ sum_then b z → Both a b y z
  sum_unique (G.sum p ts) (G.sum q us) y z h k e =
      let u = prod_unique p q (terms_then ts y) (terms_then us z) (low_terms ts y h) (low_terms us z k) e in
      let v = terms_unique ts us y z h k u.rest in
      record { it = ap (λ x. G.sum x ts) u.it ∙ ap (G.sum q) v.it; rest = v.rest }

  terms_unique : (ts us : G.Terms) (y z : List Token) → rank y < 4 → rank z < 4 → terms_then ts y ≡ terms_then us z → Both ts us y z
  terms_unique G.no_term G.no_term y z h k e = record { it = refl; rest = e }
  terms_unique G.no_term (G.plus q us) y z h k e = absurd (not_plus y _ h e)
  terms_unique (G.plus p ts) G.no_term y z h k e = absurd (not_plus z _ k (sym e))
  terms_unique G.no_term (G.minus q us) y z h k e = absurd (not_minus y _ h e)
  terms_unique (G.minus p ts) G.no_term y z h k e = absurd (not_minus z _ k (sym e))
  terms_unique (G.plus p ts) (G.minus q us) y z h k e = cc
  terms_unique (G.minus p ts) (G.plus q us) y z h k e = cc
  terms_unique (G.plus p ts) (G.plus q us) y z h k e =
      let f : prod_then p (terms_then ts y) ≡ prod_then q (terms_then us z) = cc in
      let u = prod_unique p q (terms_then ts y) (terms_then us z) (low_terms ts y h) (low_terms us z k) f in
      let v = terms_unique ts us y z h k u.rest in
      record { it = ap (λ x. G.plus x ts) u.it ∙ ap (G.plus q) v.it; rest = v.rest }
  terms_unique (G.minus p ts) (G.minus q us) y z h k e =
      let f : prod_then p (terms_then ts y) ≡ prod_then q (terms_then us z) = cc in
      let u = prod_unique p q (terms_then ts y) (terms_then us z) (low_terms ts y h) (low_terms us z k) f in
      let v = terms_unique ts us y z h k u.rest in
      record { it = ap (λ x. G.minus x ts) u.it ∙ ap (G.minus q) v.it; rest = v.rest }

  prod_unique : (a b : G.Prod) (y z : List Token) → rank y < 5 → rank z < 5 → prod_then a y ≡ prod_then b z → Both a b y z
  prod_unique (G.prod p fs) (G.prod q gs) y z h k e =
      let u = unary_unique p q (factors_then fs y) (factors_then gs z) e in
      let v = factors_unique fs gs y z h k u.rest in
      record { it = ap (λ x. G.prod x fs) u.it ∙ ap (G.prod q) v.it; rest = v.rest }

  factors_unique : (fs gs : G.Factors) (y z : List Token) → rank y < 5 → rank z < 5 → factors_then fs y ≡ factors_then gs z → Both fs gs y z
  factors_unique G.no_factor G.no_factor y z h k e = record { it = refl; rest = e }
  factors_unique G.no_factor (G.times q gs) y z h k e = absurd (not_star y _ h e)
  factors_unique (G.times p fs) G.no_factor y z h k e = absurd (not_star z _ k (sym e))
  factors_unique G.no_factor (G.div_ q gs) y z h k e = absurd (not_div y _ h e)
  factors_unique (G.div_ p fs) G.no_factor y z h k e = absurd (not_div z _ k (sym e))
  factors_unique G.no_factor (G.mod_ q gs) y z h k e = absurd (not_mod y _ h e)
  factors_unique (G.mod_ p fs) G.no_factor y z h k e = absurd (not_mod z _ k (sym e))
  factors_unique (G.times p fs) (G.div_ q gs) y z h k e = cc
  factors_unique (G.times p fs) (G.mod_ q gs) y z h k e = cc
  factors_unique (G.div_ p fs) (G.times q gs) y z h k e = cc
  factors_unique (G.div_ p fs) (G.mod_ q gs) y z h k e = cc
  factors_unique (G.mod_ p fs) (G.times q gs) y z h k e = cc
  factors_unique (G.mod_ p fs) (G.div_ q gs) y z h k e = cc
  factors_unique (G.times p fs) (G.times q gs) y z h k e =
      let f : unary_then p (factors_then fs y) ≡ unary_then q (factors_then gs z) = cc in
      let u = unary_unique p q (factors_then fs y) (factors_then gs z) f in
      let v = factors_unique fs gs y z h k u.rest in
      record { it = ap (λ x. G.times x fs) u.it ∙ ap (G.times q) v.it; rest = v.rest }
  factors_unique (G.div_ m fs) (G.div_ n gs) y z h k e =
      let g : m ≡ n = cc in
      let f : factors_then fs y ≡ factors_then gs z = cc in
      let v = factors_unique fs gs y z h k f in
      record { it = ap (λ x. G.div_ x fs) g ∙ ap (G.div_ n) v.it; rest = v.rest }
  factors_unique (G.mod_ m fs) (G.mod_ n gs) y z h k e =
      let g : m ≡ n = cc in
      let f : factors_then fs y ≡ factors_then gs z = cc in
      let v = factors_unique fs gs y z h k f in
      record { it = ap (λ x. G.mod_ x fs) g ∙ ap (G.mod_ n) v.it; rest = v.rest }

  unary_unique : (a b : G.Unary) (y z : List Token) → unary_then a y ≡ unary_then b z → Both a b y z
  unary_unique (G.negative a) (G.negative b) y z e =
      let f : unary_then a y ≡ unary_then b z = cc in
      let u = unary_unique a b y z f in record { it = ap G.negative u.it; rest = u.rest }
  unary_unique (G.negative a) (G.atom b) y z e = absurd (not_atom b (unary_then a y) z e)
  unary_unique (G.atom a) (G.negative b) y z e = absurd (not_atom a (unary_then b z) y (sym e))
  unary_unique (G.atom a) (G.atom b) y z e = let u = atom_unique a b y z e in record { it = ap G.atom u.it; rest = u.rest }

  atom_unique : (a b : G.Atom) (y z : List Token) → atom_then a y ≡ atom_then b z → Both a b y z
  atom_unique (G.number m) (G.number n) y z e = let g : m ≡ n = cc in record { it = ap G.number g; rest = cc }
  atom_unique (G.decimal m p) (G.decimal n q) y z e = let g : m ≡ n = cc in let h : p ≡ q = cc in record { it = ap (λ x. G.decimal x p) g ∙ ap (G.decimal n) h; rest = cc }
  atom_unique (G.text m) (G.text n) y z e = let g : m ≡ n = cc in record { it = ap G.text g; rest = cc }
  atom_unique (G.column m) (G.column n) y z e = let g : m ≡ n = cc in record { it = ap G.column g; rest = cc }
  atom_unique G.true_ G.true_ y z e = record { it = refl; rest = cc }
  atom_unique G.false_ G.false_ y z e = record { it = refl; rest = cc }
  atom_unique (G.parens m) (G.parens n) y z e =
      let f : expr_then m (fixed S.Close ∷ y) ≡ expr_then n (fixed S.Close ∷ z) = cc in
      let u = expr_unique m n (fixed S.Close ∷ y) (fixed S.Close ∷ z) (low_close y) (low_close z) f in
      record { it = ap G.parens u.it; rest = let q = u.rest in cc }
  atom_unique _ _ y z e = cc

ends_without : (t : Token) (y : List Token) → ((w : List Token) → ends_step (t ∷ w) ≡ false) → ends_step y ≡ true → Lacks t y
ends_without t y f h w e = let g : ends_step y ≡ ends_step (t ∷ w) = ap ends_step e in let k = f w in cc

more_names_unique : (ns ms : List (List ℕ)) (y z : List Token) → Lacks (fixed S.Comma) y → Lacks (fixed S.Comma) z → more_names_then ns y ≡ more_names_then ms z → Both ns ms y z
more_names_unique [] [] y z h k e = record { it = refl; rest = e }
more_names_unique [] (m ∷ ms) y z h k e = absurd (h _ e)
more_names_unique (n ∷ ns) [] y z h k e = absurd (k _ (sym e))
more_names_unique (n ∷ ns) (m ∷ ms) y z h k e =
    let g : n ≡ m = cc in
    let f : more_names_then ns y ≡ more_names_then ms z = cc in
    let v = more_names_unique ns ms y z h k f in
    record { it = ap (λ x. x ∷ ns) g ∙ ap (λ x. m ∷ x) v.it; rest = v.rest }

names_unique : (a b : G.Names) (y z : List Token) → Lacks (fixed S.Comma) y → Lacks (fixed S.Comma) z → names_then a y ≡ names_then b z → Both a b y z
names_unique a b y z h k e =
    let g : a.first ≡ b.first = cc in
    let f : more_names_then a.more y ≡ more_names_then b.more z = cc in
    let v = more_names_unique a.more b.more y z h k f in
    record { it = ap (λ x. record { first = x; more = a.more }) g ∙ ap (λ x. record { first = b.first; more = x }) v.it; rest = v.rest }

by_unique : (a b : G.By) (y z : List Token) → Lacks (fixed S.By) y → Lacks (fixed S.By) z → Lacks (fixed S.Comma) y → Lacks (fixed S.Comma) z → by_then a y ≡ by_then b z → Both a b y z
by_unique G.no_by G.no_by y z h k l m e = record { it = refl; rest = e }
by_unique G.no_by (G.by_names b) y z h k l m e = absurd (h _ e)
by_unique (G.by_names a) G.no_by y z h k l m e = absurd (k _ (sym e))
by_unique (G.by_names a) (G.by_names b) y z h k l m e =
    let f : names_then a y ≡ names_then b z = cc in
    let v = names_unique a b y z l m f in record { it = ap G.by_names v.it; rest = v.rest }

on_unique : (a b : G.On) (y z : List Token) → Lacks (fixed S.On) y → Lacks (fixed S.On) z → Lacks (fixed S.Comma) y → Lacks (fixed S.Comma) z → on_then a y ≡ on_then b z → Both a b y z
on_unique G.no_on G.no_on y z h k l m e = record { it = refl; rest = e }
on_unique G.no_on (G.on_names b) y z h k l m e = absurd (h _ e)
on_unique (G.on_names a) G.no_on y z h k l m e = absurd (k _ (sym e))
on_unique (G.on_names a) (G.on_names b) y z h k l m e =
    let f : names_then a y ≡ names_then b z = cc in
    let v = names_unique a b y z l m f in record { it = ap G.on_names v.it; rest = v.rest }

pub one_fun : (f g : G.Fun) → fun_sign f ≡ fun_sign g → f ≡ g
one_fun G.sum_ G.sum_ e = refl
one_fun G.min_ G.min_ e = refl
one_fun G.max_ G.max_ e = refl
one_fun G.avg_ G.avg_ e = refl
one_fun _ _ e = cc

pub no_count : (f : G.Fun) → S.Count ≡ fun_sign f → ⊥
no_count G.sum_ e = cc
no_count G.min_ e = cc
no_count G.max_ e = cc
no_count G.avg_ e = cc

agg_unique : (a b : G.Agg) (y z : List Token) → agg_then a y ≡ agg_then b z → Both a b y z
agg_unique (G.count n) (G.count m) y z e = let g : n ≡ m = cc in record { it = ap G.count g; rest = cc }
agg_unique (G.of_column f a n) (G.of_column g b m) y z e =
    let s : fun_sign f ≡ fun_sign g = cc in
    let h : a ≡ b = cc in
    let k : n ≡ m = cc in
    record { it = ap (λ x. G.of_column x a n) (one_fun f g s) ∙ ap (λ x. G.of_column g x n) h ∙ ap (G.of_column g b) k; rest = cc }
agg_unique (G.count n) (G.of_column g b m) y z e = let s : S.Count ≡ fun_sign g = cc in absurd (no_count g s)
agg_unique (G.of_column f a n) (G.count m) y z e = let s : S.Count ≡ fun_sign f = cc in absurd (no_count f s)

aggs_unique : (as_ bs : List G.Agg) (y z : List Token) → Lacks (fixed S.Comma) y → Lacks (fixed S.Comma) z → aggs_then as_ y ≡ aggs_then bs z → Both as_ bs y z
aggs_unique [] [] y z h k e = record { it = refl; rest = e }
aggs_unique [] (b ∷ bs) y z h k e = absurd (h _ e)
aggs_unique (a ∷ as_) [] y z h k e = absurd (k _ (sym e))
aggs_unique (a ∷ as_) (b ∷ bs) y z h k e =
    let f : agg_then a (aggs_then as_ y) ≡ agg_then b (aggs_then bs z) = cc in
    let u = agg_unique a b _ _ f in
    let v = aggs_unique as_ bs y z h k u.rest in
    record { it = ap (λ x. x ∷ as_) u.it ∙ ap (λ x. b ∷ x) v.it; rest = v.rest }

key_without : (t : Token) (y : List Token) → ((w : List Token) → ends_key (t ∷ w) ≡ false) → ends_key y ≡ true → Lacks t y
key_without t y f h w e = let g : ends_key y ≡ ends_key (t ∷ w) = ap ends_key e in let k = f w in cc

per_unique : (a b : G.Per) (y z : List Token) → Lacks (fixed S.Per) y → Lacks (fixed S.Per) z → Lacks (fixed S.Comma) y → Lacks (fixed S.Comma) z → per_then a y ≡ per_then b z → Both a b y z
per_unique G.no_per G.no_per y z h k l m e = record { it = refl; rest = e }
per_unique G.no_per (G.per_names b) y z h k l m e = absurd (h _ e)
per_unique (G.per_names a) G.no_per y z h k l m e = absurd (k _ (sym e))
per_unique (G.per_names a) (G.per_names b) y z h k l m e =
    let f : names_then a y ≡ names_then b z = cc in
    let v = names_unique a b y z l m f in record { it = ap G.per_names v.it; rest = v.rest }

-- which literal stands first, as a number
abbrev lit_at : List Token → ℕ
lit_at (int n ∷ ts) = 0
lit_at (fixed S.Minus ∷ int n ∷ ts) = 1
lit_at (dec u p ∷ ts) = 2
lit_at (fixed S.Minus ∷ dec u p ∷ ts) = 3
lit_at (str s ∷ ts) = 4
lit_at (fixed S.True ∷ ts) = 5
lit_at (fixed S.False ∷ ts) = 6
lit_at ts = 7

-- likewise of a literal
abbrev lit_number : G.Lit → ℕ
lit_number (G.int_lit n) = 0
lit_number (G.minus_int n) = 1
lit_number (G.dec_lit u p) = 2
lit_number (G.minus_dec u p) = 3
lit_number (G.text_lit s) = 4
lit_number G.true_lit = 5
lit_number G.false_lit = 6

lit_begins : (l : G.Lit) (z : List Token) → lit_at (lit_then l z) ≡ lit_number l
lit_begins (G.int_lit n) z = refl
lit_begins (G.minus_int n) z = refl
lit_begins (G.dec_lit u p) z = refl
lit_begins (G.minus_dec u p) z = refl
lit_begins (G.text_lit s) z = refl
lit_begins G.true_lit z = refl
lit_begins G.false_lit z = refl

one_lit : (a b : G.Lit) (y z : List Token) → lit_then a y ≡ lit_then b z → (lit_number a == lit_number b) ≡ true
one_lit a b y z e = eq-eqb (lit_number a) (lit_number b) (sym (lit_begins a y) ∙ ap lit_at e ∙ lit_begins b z)

of_one_lit : (a b : G.Lit) (y z : List Token) → lit_then a y ≡ lit_then b z → (lit_number a == lit_number b) ≡ true → Both a b y z
of_one_lit (G.int_lit n) (G.int_lit m) y z e o = let g : n ≡ m = cc in record { it = ap G.int_lit g; rest = cc }
of_one_lit (G.minus_int n) (G.minus_int m) y z e o = let g : n ≡ m = cc in record { it = ap G.minus_int g; rest = cc }
of_one_lit (G.dec_lit n p) (G.dec_lit m q) y z e o = let g : n ≡ m = cc in let h : p ≡ q = cc in record { it = ap (λ x. G.dec_lit x p) g ∙ ap (G.dec_lit m) h; rest = cc }
of_one_lit (G.minus_dec n p) (G.minus_dec m q) y z e o = let g : n ≡ m = cc in let h : p ≡ q = cc in record { it = ap (λ x. G.minus_dec x p) g ∙ ap (G.minus_dec m) h; rest = cc }
of_one_lit (G.text_lit n) (G.text_lit m) y z e o = let g : n ≡ m = cc in record { it = ap G.text_lit g; rest = cc }
of_one_lit G.true_lit G.true_lit y z e o = record { it = refl; rest = cc }
of_one_lit G.false_lit G.false_lit y z e o = record { it = refl; rest = cc }
of_one_lit _ _ y z e o = absurd (true≢false (sym o))

lit_unique : (a b : G.Lit) (y z : List Token) → lit_then a y ≡ lit_then b z → Both a b y z
lit_unique a b y z e = of_one_lit a b y z e (one_lit a b y z e)

lits_unique : (as_ bs : List G.Lit) (y z : List Token) → Lacks (fixed S.Comma) y → Lacks (fixed S.Comma) z → lits_then as_ y ≡ lits_then bs z → Both as_ bs y z
lits_unique [] [] y z h k e = record { it = refl; rest = e }
lits_unique [] (b ∷ bs) y z h k e = absurd (h _ e)
lits_unique (a ∷ as_) [] y z h k e = absurd (k _ (sym e))
lits_unique (a ∷ as_) (b ∷ bs) y z h k e =
    let f : lit_then a (lits_then as_ y) ≡ lit_then b (lits_then bs z) = cc in
    let u = lit_unique a b _ _ f in
    let v = lits_unique as_ bs y z h k u.rest in
    record { it = ap (λ x. x ∷ as_) u.it ∙ ap (λ x. b ∷ x) v.it; rest = v.rest }

else_unique : (a b : G.Else) (y z : List Token) → ends_step y ≡ true → ends_step z ≡ true → else_then a y ≡ else_then b z → Both a b y z
else_unique G.no_else G.no_else y z h k e = record { it = refl; rest = e }
else_unique G.no_else (G.else_ b bs) y z h k e = absurd (ends_without (fixed S.Else) y (λ w. refl) h _ e)
else_unique (G.else_ a as_) G.no_else y z h k e = absurd (ends_without (fixed S.Else) z (λ w. refl) k _ (sym e))
else_unique (G.else_ a as_) (G.else_ b bs) y z h k e =
    let f : lit_then a (lits_then as_ y) ≡ lit_then b (lits_then bs z) = cc in
    let u = lit_unique a b _ _ f in
    let v = lits_unique as_ bs y z (ends_without _ y (λ w. refl) h) (ends_without _ z (λ w. refl) k) u.rest in
    record { it = ap (λ x. G.else_ x as_) u.it ∙ ap (G.else_ b) v.it; rest = v.rest }

ends_stops : (y : List Token) → ends_item y ≡ true → begins_on y ≡ true → ⊥
ends_stops [] h k = cc
ends_stops (fixed S.Comma ∷ ts) h k = cc
ends_stops (fixed S.Bar ∷ ts) h k = cc
ends_stops (fixed S.Semicolon ∷ ts) h k = cc
ends_stops (_ ∷ ts) h k = cc

alone_named : (e : G.Expr) (n m : List ℕ) (y z : List Token) → ends_item y ≡ true → name n ∷ y ≡ item_then (G.named e m) z → ⊥
alone_named (G.expr (G.conj (G.not_ x) as_) os) n m y z h e = cc
alone_named (G.expr (G.conj (G.cmp (G.sum (G.prod (G.negative x) fs) ts) te) as_) os) n m y z h e = cc
alone_named (G.expr (G.conj (G.cmp (G.sum (G.prod (G.atom (G.number x)) fs) ts) te) as_) os) n m y z h e = cc
alone_named (G.expr (G.conj (G.cmp (G.sum (G.prod (G.atom (G.decimal x p)) fs) ts) te) as_) os) n m y z h e = cc
alone_named (G.expr (G.conj (G.cmp (G.sum (G.prod (G.atom (G.text x)) fs) ts) te) as_) os) n m y z h e = cc
alone_named (G.expr (G.conj (G.cmp (G.sum (G.prod (G.atom G.true_) fs) ts) te) as_) os) n m y z h e = cc
alone_named (G.expr (G.conj (G.cmp (G.sum (G.prod (G.atom G.false_) fs) ts) te) as_) os) n m y z h e = cc
alone_named (G.expr (G.conj (G.cmp (G.sum (G.prod (G.atom (G.parens x)) fs) ts) te) as_) os) n m y z h e = cc
alone_named (G.expr (G.conj (G.cmp (G.sum (G.prod (G.atom (G.column x)) fs) ts) te) as_) os) n m y z h e =
    let f : y ≡ factors_then fs (terms_then ts (test_then te (ands_then as_ (ors_then os (fixed S.As ∷ name m ∷ z))))) = cc in
    let g = on_factors fs _ (on_terms ts _ (on_test te _ (on_ands as_ _ (on_ors os (fixed S.As ∷ name m ∷ z) refl)))) in
    ends_stops y h (ap begins_on f ∙ g)

item_unique : (a b : G.Item) (y z : List Token) → ends_item y ≡ true → ends_item z ≡ true → item_then a y ≡ item_then b z → Both a b y z
item_unique (G.alone n) (G.alone m) y z h k e = let g : n ≡ m = cc in record { it = ap G.alone g; rest = cc }
item_unique (G.alone n) (G.named d m) y z h k e = absurd (alone_named d n m y z h e)
item_unique (G.named c n) (G.alone m) y z h k e = absurd (alone_named c m n z y k (sym e))
item_unique (G.named c n) (G.named d m) y z h k e =
    let u = expr_unique c d (fixed S.As ∷ name n ∷ y) (fixed S.As ∷ name m ∷ z) (low_as (name n ∷ y)) (low_as (name m ∷ z)) e in
    let q = u.rest in
    let g : n ≡ m = cc in
    record { it = ap (λ x. G.named x n) u.it ∙ ap (G.named d) g; rest = cc }

items_unique : (is js : List G.Item) (y z : List Token) → ends_step y ≡ true → ends_step z ≡ true → items_then is y ≡ items_then js z → Both is js y z
items_unique [] [] y z h k e = record { it = refl; rest = e }
items_unique [] (j ∷ js) y z h k e = absurd (ends_without (fixed S.Comma) y (λ w. refl) h _ e)
items_unique (i ∷ is) [] y z h k e = absurd (ends_without (fixed S.Comma) z (λ w. refl) k _ (sym e))
items_unique (i ∷ is) (j ∷ js) y z h k e =
    let f : item_then i (items_then is y) ≡ item_then j (items_then js z) = cc in
    let u = item_unique i j _ _ (ends_items is y h) (ends_items js z k) f in
    let v = items_unique is js y z h k u.rest in
    record { it = ap (λ x. x ∷ is) u.it ∙ ap (λ x. j ∷ x) v.it; rest = v.rest }

-- Which step stands first, as a number: steps of two kinds begin with two words.
abbrev pub step_at : List Token → ℕ
step_at (fixed S.Where ∷ ts) = 0
step_at (fixed S.Select ∷ ts) = 1
step_at (fixed S.Union ∷ ts) = 2
step_at (fixed S.Delay ∷ ts) = 3
step_at (fixed S.Duration ∷ ts) = 4
step_at (fixed S.Extend ∷ ts) = 5
step_at (fixed S.Tumble ∷ ts) = 6
step_at (fixed S.Hop ∷ ts) = 7
step_at (fixed S.Session ∷ ts) = 8
step_at (fixed S.Clip ∷ ts) = 9
step_at (fixed S.Join ∷ ts) = 10
step_at (fixed S.Anti ∷ ts) = 11
step_at (fixed S.Group ∷ ts) = 12
step_at (fixed S.Coalesce ∷ ts) = 13
step_at (fixed S.Left ∷ ts) = 14
step_at (fixed S.Top ∷ ts) = 15
step_at (fixed S.Follow ∷ ts) = 16
step_at ts = 17

-- likewise of a step
abbrev pub step_number : G.Step → ℕ
step_number (G.where_ c) = 0
step_number (G.select i is) = 1
step_number (G.union n) = 2
step_number (G.delay n) = 3
step_number (G.duration n) = 4
step_number (G.extend n) = 5
step_number (G.tumble n) = 6
step_number (G.hop n p) = 7
step_number (G.session n b) = 8
step_number (G.clip n o) = 9
step_number (G.join n o) = 10
step_number (G.anti n o) = 11
step_number (G.group b a as_) = 12
step_number G.coalesce = 13
step_number (G.left n o e) = 14
step_number (G.top n p c) = 15
step_number (G.follow n o m) = 16

pub step_begins : (s : G.Step) (z : List Token) → step_at (step_then s z) ≡ step_number s
step_begins (G.where_ c) z = refl
step_begins (G.select i is) z = refl
step_begins (G.union n) z = refl
step_begins (G.delay n) z = refl
step_begins (G.duration n) z = refl
step_begins (G.extend n) z = refl
step_begins (G.tumble n) z = refl
step_begins (G.hop n p) z = refl
step_begins (G.session n b) z = refl
step_begins (G.clip n o) z = refl
step_begins (G.join n o) z = refl
step_begins (G.anti n o) z = refl
step_begins (G.group b a as_) z = refl
step_begins G.coalesce z = refl
step_begins (G.left n o e) z = refl
step_begins (G.top n p c) z = refl
step_begins (G.follow n o m) z = refl

-- a step of another number is not spelled by these tokens
pub no_other_step : (s : G.Step) (z ts : List Token) (n : ℕ) → step_at ts ≡ n → ts ≡ step_then s z → (n == step_number s) ≡ false → ⊥
no_other_step s z ts n a e f = true≢false (sym (eq-eqb n (step_number s) (sym a ∙ ap step_at e ∙ step_begins s z)) ∙ f)

one_step : (a b : G.Step) (y z : List Token) → step_then a y ≡ step_then b z → (step_number a == step_number b) ≡ true
one_step a b y z e = eq-eqb (step_number a) (step_number b) (sym (step_begins a y) ∙ ap step_at e ∙ step_begins b z)

of_one_step : (a b : G.Step) (y z : List Token) → ends_step y ≡ true → ends_step z ≡ true → step_then a y ≡ step_then b z → (step_number a == step_number b) ≡ true → Both a b y z
of_one_step (G.where_ c) (G.where_ d) y z h k e o =
    let f : expr_then c y ≡ expr_then d z = cc in
    let u = expr_unique c d y z (low_end y h) (low_end z k) f in record { it = ap G.where_ u.it; rest = u.rest }
of_one_step (G.select i is) (G.select j js) y z h k e o =
    let f : item_then i (items_then is y) ≡ item_then j (items_then js z) = cc in
    let u = item_unique i j _ _ (ends_items is y h) (ends_items js z k) f in
    let v = items_unique is js y z h k u.rest in
    record { it = ap (λ x. G.select x is) u.it ∙ ap (G.select j) v.it; rest = v.rest }
of_one_step (G.hop n p) (G.hop m q) y z h k e o = let f : n ≡ m = cc in let g : p ≡ q = cc in record { it = ap (λ x. G.hop x p) f ∙ ap (G.hop m) g; rest = cc }
of_one_step (G.union n) (G.union m) y z h k e o = let g : n ≡ m = cc in record { it = ap G.union g; rest = cc }
of_one_step (G.delay n) (G.delay m) y z h k e o = let g : n ≡ m = cc in record { it = ap G.delay g; rest = cc }
of_one_step (G.duration n) (G.duration m) y z h k e o = let g : n ≡ m = cc in record { it = ap G.duration g; rest = cc }
of_one_step (G.extend n) (G.extend m) y z h k e o = let g : n ≡ m = cc in record { it = ap G.extend g; rest = cc }
of_one_step (G.tumble n) (G.tumble m) y z h k e o = let g : n ≡ m = cc in record { it = ap G.tumble g; rest = cc }
of_one_step (G.session n a) (G.session m b) y z h k e o =
    let g : n ≡ m = cc in
    let f : by_then a y ≡ by_then b z = cc in
    let v = by_unique a b y z (ends_without _ y (λ w. refl) h) (ends_without _ z (λ w. refl) k) (ends_without _ y (λ w. refl) h) (ends_without _ z (λ w. refl) k) f in
    record { it = ap (λ x. G.session x a) g ∙ ap (G.session m) v.it; rest = v.rest }
of_one_step (G.clip n a) (G.clip m b) y z h k e o =
    let g : n ≡ m = cc in
    let f : on_then a y ≡ on_then b z = cc in
    let v = on_unique a b y z (ends_without _ y (λ w. refl) h) (ends_without _ z (λ w. refl) k) (ends_without _ y (λ w. refl) h) (ends_without _ z (λ w. refl) k) f in
    record { it = ap (λ x. G.clip x a) g ∙ ap (G.clip m) v.it; rest = v.rest }
of_one_step (G.join n a) (G.join m b) y z h k e o =
    let g : n ≡ m = cc in
    let f : on_then a y ≡ on_then b z = cc in
    let v = on_unique a b y z (ends_without _ y (λ w. refl) h) (ends_without _ z (λ w. refl) k) (ends_without _ y (λ w. refl) h) (ends_without _ z (λ w. refl) k) f in
    record { it = ap (λ x. G.join x a) g ∙ ap (G.join m) v.it; rest = v.rest }
of_one_step (G.anti n a) (G.anti m b) y z h k e o =
    let g : n ≡ m = cc in
    let f : on_then a y ≡ on_then b z = cc in
    let v = on_unique a b y z (ends_without _ y (λ w. refl) h) (ends_without _ z (λ w. refl) k) (ends_without _ y (λ w. refl) h) (ends_without _ z (λ w. refl) k) f in
    record { it = ap (λ x. G.anti x a) g ∙ ap (G.anti m) v.it; rest = v.rest }
of_one_step (G.group a x xs) (G.group b v vs) y z h k e o =
    let f : by_then a (fixed S.Colon ∷ agg_then x (aggs_then xs y)) ≡ by_then b (fixed S.Colon ∷ agg_then v (aggs_then vs z)) = cc in
    let u = by_unique a b _ _ (λ w q. cc) (λ w q. cc) (λ w q. cc) (λ w q. cc) f in
    let r = u.rest in
    let g : agg_then x (aggs_then xs y) ≡ agg_then v (aggs_then vs z) = cc in
    let s = agg_unique x v _ _ g in
    let t = aggs_unique xs vs y z (ends_without _ y (λ w. refl) h) (ends_without _ z (λ w. refl) k) s.rest in
    record { it = ap (λ q. G.group q x xs) u.it ∙ ap (λ q. G.group b q xs) s.it ∙ ap (λ q. G.group b v q) t.it; rest = t.rest }
of_one_step G.coalesce G.coalesce y z h k e o = record { it = refl; rest = cc }
of_one_step (G.left n a u) (G.left m b v) y z h k e o =
    let g : n ≡ m = cc in
    let f : on_then a (else_then u y) ≡ on_then b (else_then v z) = cc in
    let i = ends_else u y h in
    let j = ends_else v z k in
    let p = on_unique a b _ _ (key_without _ _ (λ w. refl) i) (key_without _ _ (λ w. refl) j) (key_without _ _ (λ w. refl) i) (key_without _ _ (λ w. refl) j) f in
    let q = else_unique u v y z h k p.rest in
    record { it = ap (λ x. G.left x a u) g ∙ ap (λ x. G.left m x u) p.it ∙ ap (G.left m b) q.it; rest = q.rest }
of_one_step (G.top n a c) (G.top m b d) y z h k e o =
    let g : n ≡ m = cc in
    let f : per_then a (fixed S.By ∷ name c ∷ y) ≡ per_then b (fixed S.By ∷ name d ∷ z) = cc in
    let p = per_unique a b _ _ (λ w q. cc) (λ w q. cc) (λ w q. cc) (λ w q. cc) f in
    let r = p.rest in
    let i : c ≡ d = cc in
    record { it = ap (λ x. G.top x a c) g ∙ ap (λ x. G.top m x c) p.it ∙ ap (G.top m b) i; rest = cc }
of_one_step (G.follow n a i) (G.follow m b j) y z h k e o =
    let g : n ≡ m = cc in
    let f : on_then a (fixed S.Within ∷ int (suc i) ∷ y) ≡ on_then b (fixed S.Within ∷ int (suc j) ∷ z) = cc in
    let p = on_unique a b _ _ (λ w q. cc) (λ w q. cc) (λ w q. cc) (λ w q. cc) f in
    let r = p.rest in
    let l : i ≡ j = cc in
    record { it = ap (λ x. G.follow x a i) g ∙ ap (λ x. G.follow m x i) p.it ∙ ap (G.follow m b) l; rest = cc }
of_one_step _ _ y z h k e o = absurd (true≢false (sym o))

step_unique : (a b : G.Step) (y z : List Token) → ends_step y ≡ true → ends_step z ≡ true → step_then a y ≡ step_then b z → Both a b y z
step_unique a b y z h k e = of_one_step a b y z h k e (one_step a b y z e)

steps_unique : (ss ts : List G.Step) (y z : List Token) → ends_step y ≡ true → ends_step z ≡ true → Lacks (fixed S.Bar) y → Lacks (fixed S.Bar) z → steps_then ss y ≡ steps_then ts z → Both ss ts y z
steps_unique [] [] y z h k l m e = record { it = refl; rest = e }
steps_unique [] (t ∷ ts) y z h k l m e = absurd (l _ e)
steps_unique (s ∷ ss) [] y z h k l m e = absurd (m _ (sym e))
steps_unique (s ∷ ss) (t ∷ ts) y z h k l m e =
    let f : step_then s (steps_then ss y) ≡ step_then t (steps_then ts z) = cc in
    let u = step_unique s t _ _ (ends_steps ss y h) (ends_steps ts z k) f in
    let v = steps_unique ss ts y z h k l m u.rest in
    record { it = ap (λ x. x ∷ ss) u.it ∙ ap (λ x. t ∷ x) v.it; rest = v.rest }

pipe_unique : (a b : G.Pipe) (y z : List Token) → ends_step y ≡ true → ends_step z ≡ true → Lacks (fixed S.Bar) y → Lacks (fixed S.Bar) z → pipe_then a y ≡ pipe_then b z → Both a b y z
pipe_unique a b y z h k l m e =
    let g : a.base ≡ b.base = cc in
    let f : steps_then a.steps y ≡ steps_then b.steps z = cc in
    let v = steps_unique a.steps b.steps y z h k l m f in
    record { it = ap (λ x. record { base = x; steps = a.steps }) g ∙ ap (λ x. record { base = b.base; steps = x }) v.it; rest = v.rest }

let_unique : (a b : G.Let) (y z : List Token) → let_then a y ≡ let_then b z → Both a b y z
let_unique a b y z e =
    let g : a.called ≡ b.called = cc in
    let f : pipe_then a.pipe (fixed S.Semicolon ∷ y) ≡ pipe_then b.pipe (fixed S.Semicolon ∷ z) = cc in
    let v = pipe_unique a.pipe b.pipe (fixed S.Semicolon ∷ y) (fixed S.Semicolon ∷ z) refl refl (λ w q. cc) (λ w q. cc) f in
    record { it = ap (λ x. record { called = x; pipe = a.pipe }) g ∙ ap (λ x. record { called = b.called; pipe = x }) v.it; rest = let r = v.rest in cc }

lets_unique : (ls ms : List G.Let) (y z : List Token) → Lacks (fixed S.Let) y → Lacks (fixed S.Let) z → lets_then ls y ≡ lets_then ms z → Both ls ms y z
lets_unique [] [] y z h k e = record { it = refl; rest = e }
lets_unique [] (m ∷ ms) y z h k e = absurd (h _ e)
lets_unique (l ∷ ls) [] y z h k e = absurd (k _ (sym e))
lets_unique (l ∷ ls) (m ∷ ms) y z h k e =
    let u = let_unique l m (lets_then ls y) (lets_then ms z) e in
    let v = lets_unique ls ms y z h k u.rest in
    record { it = ap (λ x. x ∷ ls) u.it ∙ ap (λ x. m ∷ x) v.it; rest = v.rest }

holds_once : (b : Bool) (x y : G.Holds b) → x ≡ y
holds_once true x y = refl
holds_once false x y = absurd x

same_places : (m n : ℕ) (a : G.Holds (G.is_places m)) (b : G.Holds (G.is_places n)) → m ≡ n → ◌≡◌ {A = G.Places} (record { number = m; few = a }) (record { number = n; few = b })
same_places m n a b e =
    subst (λ k. (c : G.Holds (G.is_places k)) → ◌≡◌ {A = G.Places} (record { number = m; few = a }) (record { number = k; few = c })) e
    (λ c. ap (λ x. record { number = m; few = x }) (holds_once (G.is_places m) a c)) b

col_unique : (a b : G.Col) (y z : List Token) → col_then a y ≡ col_then b z → Both a b y z
col_unique (G.int_col n) (G.int_col m) y z e = let g : n ≡ m = cc in record { it = ap G.int_col g; rest = cc }
col_unique (G.bool_col n) (G.bool_col m) y z e = let g : n ≡ m = cc in record { it = ap G.bool_col g; rest = cc }
col_unique (G.text_col n) (G.text_col m) y z e = let g : n ≡ m = cc in record { it = ap G.text_col g; rest = cc }
col_unique (G.dec_col n p) (G.dec_col m q) y z e =
    let g : n ≡ m = cc in
    let h : p.number ≡ q.number = cc in
    record { it = ap (λ x. G.dec_col x p) g ∙ ap (G.dec_col m) (same_places p.number q.number p.few q.few h); rest = cc }
col_unique _ _ y z e = cc

cols_unique : (cs ds : List G.Col) (y z : List Token) → Lacks (fixed S.Comma) y → Lacks (fixed S.Comma) z → cols_then cs y ≡ cols_then ds z → Both cs ds y z
cols_unique [] [] y z h k e = record { it = refl; rest = e }
cols_unique [] (d ∷ ds) y z h k e = absurd (h _ e)
cols_unique (c ∷ cs) [] y z h k e = absurd (k _ (sym e))
cols_unique (c ∷ cs) (d ∷ ds) y z h k e =
    let f : col_then c (cols_then cs y) ≡ col_then d (cols_then ds z) = cc in
    let u = col_unique c d _ _ f in
    let v = cols_unique cs ds y z h k u.rest in
    record { it = ap (λ x. x ∷ cs) u.it ∙ ap (λ x. d ∷ x) v.it; rest = v.rest }

stream_unique : (a b : G.Stream) (y z : List Token) → stream_then a y ≡ stream_then b z → Both a b y z
stream_unique a b y z e =
    let g : a.called ≡ b.called = cc in
    let f : col_then a.first (cols_then a.more (fixed S.Close ∷ fixed S.Semicolon ∷ y)) ≡ col_then b.first (cols_then b.more (fixed S.Close ∷ fixed S.Semicolon ∷ z)) = cc in
    let u = col_unique a.first b.first _ _ f in
    let v = cols_unique a.more b.more (fixed S.Close ∷ fixed S.Semicolon ∷ y) (fixed S.Close ∷ fixed S.Semicolon ∷ z) (λ w q. cc) (λ w q. cc) u.rest in
    record {
      it = ap (λ x. record { called = x; first = a.first; more = a.more }) g ∙ ap (λ x. record { called = b.called; first = x; more = a.more }) u.it ∙ ap (λ x. record { called = b.called; first = b.first; more = x }) v.it;
      rest = let r = v.rest in cc;
    }

streams_unique : (ss ts : List G.Stream) (y z : List Token) → Lacks (fixed S.Stream) y → Lacks (fixed S.Stream) z → streams_then ss y ≡ streams_then ts z → Both ss ts y z
streams_unique [] [] y z h k e = record { it = refl; rest = e }
streams_unique [] (t ∷ ts) y z h k e = absurd (h _ e)
streams_unique (s ∷ ss) [] y z h k e = absurd (k _ (sym e))
streams_unique (s ∷ ss) (t ∷ ts) y z h k e =
    let u = stream_unique s t (streams_then ss y) (streams_then ts z) e in
    let v = streams_unique ss ts y z h k u.rest in
    record { it = ap (λ x. x ∷ ss) u.it ∙ ap (λ x. t ∷ x) v.it; rest = v.rest }

no_stream : (ls : List G.Let) (p : G.Pipe) → Lacks (fixed S.Stream) (lets_then ls (pipe_then p []))
no_stream [] p w e = cc
no_stream (l ∷ ls) p w e = cc

-- two queries that are spelled alike are one
pub query_unique : (a b : G.Query) → query_tokens a ≡ query_tokens b → a ≡ b
query_unique a b e =
    let s = stream_unique a.stream b.stream _ _ e in
    let ss = streams_unique a.streams b.streams _ _ (no_stream a.lets a.body) (no_stream b.lets b.body) s.rest in
    let ls = lets_unique a.lets b.lets (pipe_then a.body []) (pipe_then b.body []) (λ w q. cc) (λ w q. cc) ss.rest in
    let p = pipe_unique a.body b.body [] [] refl refl (λ w q. cc) (λ w q. cc) ls.rest in
    ap (λ x. record { stream = x; streams = a.streams; lets = a.lets; body = a.body }) s.it
    ∙ ap (λ x. record { stream = b.stream; streams = x; lets = a.lets; body = a.body }) ss.it
    ∙ ap (λ x. record { stream = b.stream; streams = b.streams; lets = x; body = a.body }) ls.it
    ∙ ap (λ x. record { stream = b.stream; streams = b.streams; lets = b.lets; body = x }) p.it
