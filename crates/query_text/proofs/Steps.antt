-- The steps of the parser of expressions.
use Rattle.std.proofs.Common.{◌≡◌, ℕ, suc, ◌-◌, ◌<◌, Some, None, List, [], ◌∷◌, ◌++◌, length, Result, Ok, Err, refl, ap, sym, subst, ◌∙◌, arith}
use Rattle.std.specs.Result.{IsErrAnd}
use Rattle.std.proofs.lemmas.Result.{err_from_is_err_and}
use Rattle.plan_model.specs.declared.expr.ArithOp.{ArithOp}
use Rattle.plan_model.specs.declared.expr.ArithOp.TheVariants as A
use Rattle.plan_model.specs.declared.expr.CompareOp.{CompareOp}
use Rattle.query_text.specs.declared.word.Sign.TheVariants as S
use Rattle.query_text.specs.Token.{Token, int, fixed}
use Rattle.query_text.specs.Grammar as G
use Rattle.query_text.specs.Grammar.{expr_then, ors_then, conj_then, ands_then, neg_then, test_then, sum_then, terms_then, prod_then, factors_then, unary_then, atom_then, comparison_sign}
use Rattle.query_text.specs.Machine.{rank}
use Rattle.query_text.proofs.Unique.{not_or, not_and, not_plus, not_minus, not_star, not_div, not_mod, not_test, one_sign, not_sum, not_atom}
use Rattle.query_text.proofs.Complete.{low_ors, low_ands, low_test, low_terms, low_close}
use Rattle.query_text.specs.declared.stop.Stop.{Stop}
use Rattle.query_text.specs.declared.stop.Stop.TheVariants.{Stuck, Memory}
use Rattle.query_text.specs.declared.tree.TreeNode.{TreeNode}
use Rattle.query_text.specs.declared.tree.TreeNode.TheVariants as N
use Rattle.query_text.specs.Spelling.{joined, wrapped, compare_of, expr_onto, ors_onto, conj_onto, ands_onto, neg_onto, test_onto, sum_onto, terms_onto, prod_onto, factors_onto, unary_onto, atom_onto}
use Rattle.query_text.specs.Reading.{Lacks, TakesPos, TakesTerm, TakesCompare, TakesLeaf, Outcome, Going}

turned : {T : Type 0} (e y : Stop) (P : T → Type 0) → (e ≡ Stuck → ⊥) → y ≡ e → Outcome (Err y) P
turned e Memory P free q = tt
turned e Stuck P free q = free (sym q)

-- what `?` hands on: it was not stuck
pub failed : {T : Type 0} (e : Stop) (r : Result T Stop) (P : T → Type 0) → IsErrAnd r (λ y. y ≡ e) → (e ≡ Stuck → ⊥) → Outcome r P
failed e r P is free = let x = err_from_is_err_and r is in subst (λ z. Outcome z P) (sym x.1) (turned e x.0 P free x.2)

pub not_stuck : {T : Type 0} (e : Stop) (P : T → Type 0) → Outcome (Err e) P → e ≡ Stuck → ⊥
not_stuck Stuck P h q = h
not_stuck Memory P h q = cc

pub outcome_map : {T : Type 0} (r : Result T Stop) (P Q : T → Type 0) → ((v : T) → P v → Q v) → Outcome r P → Outcome r Q
outcome_map (Ok v) P Q f h = f v h
outcome_map (Err Stuck) P Q f h = h
outcome_map (Err Memory) P Q f h = tt

-- an operator behind both its operands
pub joined_is : (op : ℕ → ℕ → TreeNode) (old mid new p : List TreeNode) (left right : ℕ) → new ≡ mid ++ op left right ∷ [] → left ≡ length old - 1 → right ≡ length mid - 1 → mid ≡ p → new ≡ joined op old p
joined_is op old mid new p left right pushed l r same = rw (pushed, l, r, same) refl

pub wrapped_is : (op : ℕ → TreeNode) (mid new p : List TreeNode) (of : ℕ) → new ≡ mid ++ op of ∷ [] → of ≡ length mid - 1 → mid ≡ p → new ≡ wrapped op p
wrapped_is op mid new p of pushed l same = rw (pushed, l, same) refl

-- the first part of an expression, and the rest of it

pub expr_first : {X : Type 0} (old : List Token) → ((c : G.Conj) (w : List Token) → rank w < 2 → old ≡ conj_then c w → X) → (a : G.Expr) (z : List Token) → rank z < 1 → old ≡ expr_then a z → X
expr_first old f (G.expr c os) z low e = f c (ors_then os z) (low_ors os z low) e

pub expr_begins : (old now : List Token) (m n : List TreeNode) → ((c : G.Conj) (w : List Token) → rank w < 2 → old ≡ conj_then c w → (now ≡ w) × (n ≡ conj_onto c m)) → Going expr_then (λ z. rank z < 1) expr_onto ors_then ors_onto old now m n
expr_begins old now m n f (G.expr c os) z low e = let u = f c (ors_then os z) (low_ors os z low) e in (os, u.0, ap (ors_onto os) u.1)

pub conj_first : {X : Type 0} (old : List Token) → ((c : G.Neg) (w : List Token) → rank w < 3 → old ≡ neg_then c w → X) → (a : G.Conj) (z : List Token) → rank z < 2 → old ≡ conj_then a z → X
conj_first old f (G.conj c os) z low e = f c (ands_then os z) (low_ands os z low) e

pub conj_begins : (old now : List Token) (m n : List TreeNode) → ((c : G.Neg) (w : List Token) → rank w < 3 → old ≡ neg_then c w → (now ≡ w) × (n ≡ neg_onto c m)) → Going conj_then (λ z. rank z < 2) conj_onto ands_then ands_onto old now m n
conj_begins old now m n f (G.conj c os) z low e = let u = f c (ands_then os z) (low_ands os z low) e in (os, u.0, ap (ands_onto os) u.1)

pub sum_first : {X : Type 0} (old : List Token) → ((c : G.Prod) (w : List Token) → rank w < 5 → old ≡ prod_then c w → X) → (a : G.Sum) (z : List Token) → rank z < 4 → old ≡ sum_then a z → X
sum_first old f (G.sum c os) z low e = f c (terms_then os z) (low_terms os z low) e

pub sum_begins : (old now : List Token) (m n : List TreeNode) → ((c : G.Prod) (w : List Token) → rank w < 5 → old ≡ prod_then c w → (now ≡ w) × (n ≡ prod_onto c m)) → Going sum_then (λ z. rank z < 4) sum_onto terms_then terms_onto old now m n
sum_begins old now m n f (G.sum c os) z low e = let u = f c (terms_then os z) (low_terms os z low) e in (os, u.0, ap (terms_onto os) u.1)

pub prod_first : {X : Type 0} (old : List Token) → ((c : G.Unary) (w : List Token) → Unit {0} → old ≡ unary_then c w → X) → (a : G.Prod) (z : List Token) → rank z < 5 → old ≡ prod_then a z → X
prod_first old f (G.prod c os) z low e = f c (factors_then os z) tt e

pub prod_begins : (old now : List Token) (m n : List TreeNode) → ((c : G.Unary) (w : List Token) → Unit {0} → old ≡ unary_then c w → (now ≡ w) × (n ≡ unary_onto c m)) → Going prod_then (λ z. rank z < 5) prod_onto factors_then factors_onto old now m n
prod_begins old now m n f (G.prod c os) z low e = let u = f c (factors_then os z) tt e in (os, u.0, ap (factors_onto os) u.1)

-- one more operand of `or`

pub ors_none : (old new : List Token) (n : List TreeNode) → (new ≡ old) × Lacks (fixed S.Or) old → (r : G.Ors) (z : List Token) → rank z < 1 → old ≡ ors_then r z → (new ≡ z) × (n ≡ ors_onto r n)
ors_none old new n h G.no_or z low e = (h.0 ∙ e, refl)
ors_none old new n h (G.or_ c os) z low e = absurd (h.1 _ e)

pub ors_free : {X : Type 0} (old mid : List Token) → old ≡ fixed S.Or ∷ mid → ((c : G.Conj) (w : List Token) → rank w < 2 → mid ≡ conj_then c w → X) → (r : G.Ors) (z : List Token) → rank z < 1 → old ≡ ors_then r z → X
ors_free old mid takes f G.no_or z low e = absurd (not_or z mid low (sym e ∙ takes))
ors_free old mid takes f (G.or_ c os) z low e = let s : mid ≡ conj_then c (ors_then os z) = cc in f c (ors_then os z) (low_ors os z low) s

pub ors_went : (old mid new : List Token) (m n k : List TreeNode) (left right : ℕ) → old ≡ fixed S.Or ∷ mid → left ≡ length m - 1
    → ((c : G.Conj) (w : List Token) → rank w < 2 → mid ≡ conj_then c w → (new ≡ w) × (n ≡ conj_onto c m)) → right ≡ length n - 1 → k ≡ n ++ N.Or left right ∷ []
    → (r : G.Ors) (z : List Token) → rank z < 1 → old ≡ ors_then r z → (s : G.Ors) × (new ≡ ors_then s z) × (ors_onto s k ≡ ors_onto r m)
ors_went old mid new m n k left right takes l f r pushed G.no_or z low e = absurd (not_or z mid low (sym e ∙ takes))
ors_went old mid new m n k left right takes l f r pushed (G.or_ c os) z low e =
    let s : mid ≡ conj_then c (ors_then os z) = cc in
    let u = f c (ors_then os z) (low_ors os z low) s in
    (os, u.0, ap (ors_onto os) (joined_is (λ x y. N.Or x y) m n k (conj_onto c m) left right pushed l r u.1))

-- one more operand of `and`

pub ands_none : (old new : List Token) (n : List TreeNode) → (new ≡ old) × Lacks (fixed S.And) old → (r : G.Ands) (z : List Token) → rank z < 2 → old ≡ ands_then r z → (new ≡ z) × (n ≡ ands_onto r n)
ands_none old new n h G.no_and z low e = (h.0 ∙ e, refl)
ands_none old new n h (G.and_ c os) z low e = absurd (h.1 _ e)

pub ands_free : {X : Type 0} (old mid : List Token) → old ≡ fixed S.And ∷ mid → ((c : G.Neg) (w : List Token) → rank w < 3 → mid ≡ neg_then c w → X) → (r : G.Ands) (z : List Token) → rank z < 2 → old ≡ ands_then r z → X
ands_free old mid takes f G.no_and z low e = absurd (not_and z mid low (sym e ∙ takes))
ands_free old mid takes f (G.and_ c os) z low e = let s : mid ≡ neg_then c (ands_then os z) = cc in f c (ands_then os z) (low_ands os z low) s

pub ands_went : (old mid new : List Token) (m n k : List TreeNode) (left right : ℕ) → old ≡ fixed S.And ∷ mid → left ≡ length m - 1
    → ((c : G.Neg) (w : List Token) → rank w < 3 → mid ≡ neg_then c w → (new ≡ w) × (n ≡ neg_onto c m)) → right ≡ length n - 1 → k ≡ n ++ N.And left right ∷ []
    → (r : G.Ands) (z : List Token) → rank z < 2 → old ≡ ands_then r z → (s : G.Ands) × (new ≡ ands_then s z) × (ands_onto s k ≡ ands_onto r m)
ands_went old mid new m n k left right takes l f r pushed G.no_and z low e = absurd (not_and z mid low (sym e ∙ takes))
ands_went old mid new m n k left right takes l f r pushed (G.and_ c os) z low e =
    let s : mid ≡ neg_then c (ands_then os z) = cc in
    let u = f c (ands_then os z) (low_ands os z low) s in
    (os, u.0, ap (ands_onto os) (joined_is (λ x y. N.And x y) m n k (neg_onto c m) left right pushed l r u.1))

-- one more term

pub terms_none : (old new : List Token) (n : List TreeNode) → TakesTerm None old new → (r : G.Terms) (z : List Token) → rank z < 4 → old ≡ terms_then r z → (new ≡ z) × (n ≡ terms_onto r n)
terms_none old new n h G.no_term z low e = (h.0 ∙ e, refl)
terms_none old new n h (G.plus c os) z low e = absurd (h.1 _ e)
terms_none old new n h (G.minus c os) z low e = absurd (h.2 _ e)

pub terms_free : {X : Type 0} (op : ArithOp) (old mid : List Token) → TakesTerm (Some op) old mid → ((c : G.Prod) (w : List Token) → rank w < 5 → mid ≡ prod_then c w → X) → (r : G.Terms) (z : List Token) → rank z < 4 → old ≡ terms_then r z → X
terms_free A.Add old mid takes f G.no_term z low e = absurd (not_plus z mid low (sym e ∙ takes))
terms_free A.Add old mid takes f (G.plus c os) z low e = let s : mid ≡ prod_then c (terms_then os z) = cc in f c (terms_then os z) (low_terms os z low) s
terms_free A.Add old mid takes f (G.minus c os) z low e = absurd (cc)
terms_free A.Sub old mid takes f G.no_term z low e = absurd (not_minus z mid low (sym e ∙ takes))
terms_free A.Sub old mid takes f (G.minus c os) z low e = let s : mid ≡ prod_then c (terms_then os z) = cc in f c (terms_then os z) (low_terms os z low) s
terms_free A.Sub old mid takes f (G.plus c os) z low e = absurd (cc)
terms_free A.Mul old mid takes f r z low e = absurd takes

pub terms_went : (op : ArithOp) (old mid new : List Token) (m n k : List TreeNode) (left right : ℕ) → TakesTerm (Some op) old mid → left ≡ length m - 1
    → ((c : G.Prod) (w : List Token) → rank w < 5 → mid ≡ prod_then c w → (new ≡ w) × (n ≡ prod_onto c m)) → right ≡ length n - 1 → k ≡ n ++ N.Arith op left right ∷ []
    → (r : G.Terms) (z : List Token) → rank z < 4 → old ≡ terms_then r z → (s : G.Terms) × (new ≡ terms_then s z) × (terms_onto s k ≡ terms_onto r m)
terms_went A.Add old mid new m n k left right takes l f r pushed G.no_term z low e = absurd (not_plus z mid low (sym e ∙ takes))
terms_went A.Add old mid new m n k left right takes l f r pushed (G.minus c os) z low e = absurd (cc)
terms_went A.Add old mid new m n k left right takes l f r pushed (G.plus c os) z low e =
    let s : mid ≡ prod_then c (terms_then os z) = cc in
    let u = f c (terms_then os z) (low_terms os z low) s in
    (os, u.0, ap (terms_onto os) (joined_is (λ x y. N.Arith A.Add x y) m n k (prod_onto c m) left right pushed l r u.1))
terms_went A.Sub old mid new m n k left right takes l f r pushed G.no_term z low e = absurd (not_minus z mid low (sym e ∙ takes))
terms_went A.Sub old mid new m n k left right takes l f r pushed (G.plus c os) z low e = absurd (cc)
terms_went A.Sub old mid new m n k left right takes l f r pushed (G.minus c os) z low e =
    let s : mid ≡ prod_then c (terms_then os z) = cc in
    let u = f c (terms_then os z) (low_terms os z low) s in
    (os, u.0, ap (terms_onto os) (joined_is (λ x y. N.Arith A.Sub x y) m n k (prod_onto c m) left right pushed l r u.1))
terms_went A.Mul old mid new m n k left right takes l f r pushed t z low e = absurd takes

-- one more factor

pub factors_none : (old a b new : List Token) (n : List TreeNode) → (a ≡ old) × Lacks (fixed S.Star) old → (b ≡ a) × Lacks (fixed S.Div) a → (new ≡ b) × Lacks (fixed S.Mod) b
    → (r : G.Factors) (z : List Token) → rank z < 5 → old ≡ factors_then r z → (new ≡ z) × (n ≡ factors_onto r n)
factors_none old a b new n f g h G.no_factor z low e = (h.0 ∙ g.0 ∙ f.0 ∙ e, refl)
factors_none old a b new n f g h (G.times c os) z low e = absurd (f.1 _ e)
factors_none old a b new n f g h (G.div_ c os) z low e = absurd (g.1 _ (f.0 ∙ e))
factors_none old a b new n f g h (G.mod_ c os) z low e = absurd (h.1 _ (g.0 ∙ f.0 ∙ e))

pub times_free : {X : Type 0} (old mid : List Token) → old ≡ fixed S.Star ∷ mid → ((c : G.Unary) (w : List Token) → Unit {0} → mid ≡ unary_then c w → X) → (r : G.Factors) (z : List Token) → rank z < 5 → old ≡ factors_then r z → X
times_free old mid takes f G.no_factor z low e = absurd (not_star z mid low (sym e ∙ takes))
times_free old mid takes f (G.times c os) z low e = let s : mid ≡ unary_then c (factors_then os z) = cc in f c (factors_then os z) tt s
times_free old mid takes f (G.div_ c os) z low e = absurd (cc)
times_free old mid takes f (G.mod_ c os) z low e = absurd (cc)

pub times_went : (old mid new : List Token) (m n k : List TreeNode) (left right : ℕ) → old ≡ fixed S.Star ∷ mid → left ≡ length m - 1
    → ((c : G.Unary) (w : List Token) → Unit {0} → mid ≡ unary_then c w → (new ≡ w) × (n ≡ unary_onto c m)) → right ≡ length n - 1 → k ≡ n ++ N.Arith A.Mul left right ∷ []
    → (r : G.Factors) (z : List Token) → rank z < 5 → old ≡ factors_then r z → (s : G.Factors) × (new ≡ factors_then s z) × (factors_onto s k ≡ factors_onto r m)
times_went old mid new m n k left right takes l f r pushed G.no_factor z low e = absurd (not_star z mid low (sym e ∙ takes))
times_went old mid new m n k left right takes l f r pushed (G.times c os) z low e =
    let s : mid ≡ unary_then c (factors_then os z) = cc in
    let u = f c (factors_then os z) tt s in
    (os, u.0, ap (factors_onto os) (joined_is (λ x y. N.Arith A.Mul x y) m n k (unary_onto c m) left right pushed l r u.1))
times_went old mid new m n k left right takes l f r pushed (G.div_ c os) z low e = absurd (cc)
times_went old mid new m n k left right takes l f r pushed (G.mod_ c os) z low e = absurd (cc)

pub div_free : (old a mid b : List Token) → (a ≡ old) × Lacks (fixed S.Star) old → a ≡ fixed S.Div ∷ mid → TakesPos None mid b → (r : G.Factors) (z : List Token) → rank z < 5 → old ≡ factors_then r z → ⊥
div_free old a mid b f takes h G.no_factor z low e = not_div z mid low (sym e ∙ sym f.0 ∙ takes)
div_free old a mid b f takes h (G.times c os) z low e = f.1 _ e
div_free old a mid b f takes h (G.div_ c os) z low e = let g : a ≡ fixed S.Div ∷ int (suc c) ∷ factors_then os z = f.0 ∙ e in let s : mid ≡ int (suc c) ∷ factors_then os z = cc in h.1 c _ s
div_free old a mid b f takes h (G.mod_ c os) z low e = let g : a ≡ fixed S.Mod ∷ int (suc c) ∷ factors_then os z = f.0 ∙ e in cc

pub div_went : (old a mid new : List Token) (m n k : List TreeNode) (by of : ℕ) → (a ≡ old) × Lacks (fixed S.Star) old → a ≡ fixed S.Div ∷ mid → TakesPos (Some by) mid new → n ≡ m → of ≡ length n - 1 → k ≡ n ++ N.Div of by ∷ []
    → (r : G.Factors) (z : List Token) → rank z < 5 → old ≡ factors_then r z → (s : G.Factors) × (new ≡ factors_then s z) × (factors_onto s k ≡ factors_onto r m)
div_went old a mid new m n k by of f takes h kept l pushed G.no_factor z low e = absurd (not_div z mid low (sym e ∙ sym f.0 ∙ takes))
div_went old a mid new m n k by of f takes h kept l pushed (G.times c os) z low e = absurd (f.1 _ e)
div_went old a mid new m n k by of f takes h kept l pushed (G.div_ c os) z low e =
    let g : a ≡ fixed S.Div ∷ int (suc c) ∷ factors_then os z = f.0 ∙ e in
    let s : new ≡ factors_then os z = let q = h.0 in cc in
    let t : by ≡ suc c = let q = h.0 in cc in
    (os, s, ap (factors_onto os) (wrapped_is (λ i. N.Div i (suc c)) n k m of (pushed ∙ ap (λ x. n ++ N.Div of x ∷ []) t) l kept))
div_went old a mid new m n k by of f takes h kept l pushed (G.mod_ c os) z low e = let g : a ≡ fixed S.Mod ∷ int (suc c) ∷ factors_then os z = f.0 ∙ e in absurd (cc)

pub mod_free : (old a b mid d : List Token) → (a ≡ old) × Lacks (fixed S.Star) old → (b ≡ a) × Lacks (fixed S.Div) a → b ≡ fixed S.Mod ∷ mid → TakesPos None mid d → (r : G.Factors) (z : List Token) → rank z < 5 → old ≡ factors_then r z → ⊥
mod_free old a b mid d f g takes h G.no_factor z low e = not_mod z mid low (sym e ∙ sym f.0 ∙ sym g.0 ∙ takes)
mod_free old a b mid d f g takes h (G.times c os) z low e = f.1 _ e
mod_free old a b mid d f g takes h (G.div_ c os) z low e = g.1 _ (f.0 ∙ e)
mod_free old a b mid d f g takes h (G.mod_ c os) z low e = let q : b ≡ fixed S.Mod ∷ int (suc c) ∷ factors_then os z = g.0 ∙ f.0 ∙ e in let s : mid ≡ int (suc c) ∷ factors_then os z = cc in h.1 c _ s

pub mod_went : (old a b mid new : List Token) (m n k : List TreeNode) (by of : ℕ) → (a ≡ old) × Lacks (fixed S.Star) old → (b ≡ a) × Lacks (fixed S.Div) a → b ≡ fixed S.Mod ∷ mid → TakesPos (Some by) mid new → n ≡ m → of ≡ length n - 1 → k ≡ n ++ N.Mod of by ∷ []
    → (r : G.Factors) (z : List Token) → rank z < 5 → old ≡ factors_then r z → (s : G.Factors) × (new ≡ factors_then s z) × (factors_onto s k ≡ factors_onto r m)
mod_went old a b mid new m n k by of f g takes h kept l pushed G.no_factor z low e = absurd (not_mod z mid low (sym e ∙ sym f.0 ∙ sym g.0 ∙ takes))
mod_went old a b mid new m n k by of f g takes h kept l pushed (G.times c os) z low e = absurd (f.1 _ e)
mod_went old a b mid new m n k by of f g takes h kept l pushed (G.div_ c os) z low e = absurd (g.1 _ (f.0 ∙ e))
mod_went old a b mid new m n k by of f g takes h kept l pushed (G.mod_ c os) z low e =
    let q : b ≡ fixed S.Mod ∷ int (suc c) ∷ factors_then os z = g.0 ∙ f.0 ∙ e in
    let s : new ≡ factors_then os z = let p = h.0 in cc in
    let t : by ≡ suc c = let p = h.0 in cc in
    (os, s, ap (factors_onto os) (wrapped_is (λ i. N.Mod i (suc c)) n k m of (pushed ∙ ap (λ x. n ++ N.Mod of x ∷ []) t) l kept))

-- the other side of a comparison

low_sum : (z : List Token) → rank z < 3 → rank z < 4
low_sum z h = omega arith

pub test_none : (old new : List Token) (n : List TreeNode) → TakesCompare None old new → (r : G.Test) (z : List Token) → rank z < 3 → old ≡ test_then r z → (new ≡ z) × (n ≡ test_onto r n)
test_none old new n h G.no_test z low e = (h.0 ∙ e, refl)
test_none old new n h (G.test c s) z low e = absurd (h.1 c _ e)

pub test_free : {X : Type 0} (op : CompareOp) (old mid : List Token) → TakesCompare (Some op) old mid → ((s : G.Sum) (w : List Token) → rank w < 4 → mid ≡ sum_then s w → X) → (r : G.Test) (z : List Token) → rank z < 3 → old ≡ test_then r z → X
test_free op old mid takes f G.no_test z low e = absurd (not_test takes.0 z mid low (sym e ∙ takes.1))
test_free op old mid takes f (G.test c s) z low e = let t = takes.1 in let g : mid ≡ sum_then s z = cc in f s z (low_sum z low) g

pub test_went : (op : CompareOp) (old mid new : List Token) (m n k : List TreeNode) (left right : ℕ) → TakesCompare (Some op) old mid → left ≡ length m - 1
    → ((s : G.Sum) (w : List Token) → rank w < 4 → mid ≡ sum_then s w → (new ≡ w) × (n ≡ sum_onto s m)) → right ≡ length n - 1 → k ≡ n ++ N.Compare op left right ∷ []
    → (r : G.Test) (z : List Token) → rank z < 3 → old ≡ test_then r z → (new ≡ z) × (k ≡ test_onto r m)
test_went op old mid new m n k left right takes l f r pushed G.no_test z low e = absurd (not_test takes.0 z mid low (sym e ∙ takes.1))
test_went op old mid new m n k left right takes l f r pushed (G.test c s) z low e =
    let t = takes.1 in
    let g : mid ≡ sum_then s z = cc in
    let q : fixed (comparison_sign takes.0) ≡ fixed (comparison_sign c) = cc in
    let w : comparison_sign takes.0 ≡ comparison_sign c = cc in
    let same : op ≡ compare_of c = takes.2 ∙ ap compare_of (one_sign takes.0 c w) in
    let u = f s z (low_sum z low) g in
    (u.0, joined_is (λ x y. N.Compare (compare_of c) x y) m n k (sum_onto s m) left right (pushed ∙ ap (λ x. n ++ N.Compare x left right ∷ []) same) l r u.1)

-- `not`, or a comparison

pub neg_free : {X : Type 0} (old mid : List Token) → old ≡ fixed S.Not ∷ mid → ((n : G.Neg) (w : List Token) → rank w < 3 → mid ≡ neg_then n w → X) → (a : G.Neg) (z : List Token) → rank z < 3 → old ≡ neg_then a z → X
neg_free old mid takes f (G.not_ n) z low e = let s : mid ≡ neg_then n z = cc in f n z low s
neg_free old mid takes f (G.cmp s t) z low e = absurd (not_sum s mid (test_then t z) (sym takes ∙ e))

pub neg_not : (old mid new : List Token) (m n k : List TreeNode) (of : ℕ) → old ≡ fixed S.Not ∷ mid → ((n' : G.Neg) (w : List Token) → rank w < 3 → mid ≡ neg_then n' w → (new ≡ w) × (n ≡ neg_onto n' m)) → of ≡ length n - 1 → k ≡ n ++ N.Not of ∷ []
    → (a : G.Neg) (z : List Token) → rank z < 3 → old ≡ neg_then a z → (new ≡ z) × (k ≡ neg_onto a m)
neg_not old mid new m n k of takes f l pushed (G.not_ x) z low e =
    let s : mid ≡ neg_then x z = cc in
    let u = f x z low s in (u.0, wrapped_is (λ i. N.Not i) n k (neg_onto x m) of pushed l u.1)
neg_not old mid new m n k of takes f l pushed (G.cmp s t) z low e = absurd (not_sum s mid (test_then t z) (sym takes ∙ e))

pub cmp_free : {X : Type 0} (old mid : List Token) → (mid ≡ old) × Lacks (fixed S.Not) old → ((s : G.Sum) (w : List Token) → rank w < 4 → mid ≡ sum_then s w → X) → (a : G.Neg) (z : List Token) → rank z < 3 → old ≡ neg_then a z → X
cmp_free old mid h f (G.not_ n) z low e = absurd (h.1 _ e)
cmp_free old mid h f (G.cmp s t) z low e = f s (test_then t z) (low_test t z low) (h.0 ∙ e)

pub cmp_went : (r : Result ℕ Stop) (old mid now new : List Token) (m n k : List TreeNode) → (mid ≡ old) × Lacks (fixed S.Not) old → ((s : G.Sum) (w : List Token) → rank w < 4 → mid ≡ sum_then s w → (now ≡ w) × (n ≡ sum_onto s m))
    → ((t : G.Test) (w : List Token) → rank w < 3 → now ≡ test_then t w → Outcome r (λ _. (new ≡ w) × (k ≡ test_onto t n))) → (a : G.Neg) (z : List Token) → rank z < 3 → old ≡ neg_then a z → Outcome r (λ _. (new ≡ z) × (k ≡ neg_onto a m))
cmp_went r old mid now new m n k h f g (G.not_ x) z low e = absurd (h.1 _ e)
cmp_went r old mid now new m n k h f g (G.cmp s t) z low e =
    let u = f s (test_then t z) (low_test t z low) (h.0 ∙ e) in
    outcome_map r (λ _. (new ≡ z) × (k ≡ test_onto t n)) (λ _. (new ≡ z) × (k ≡ neg_onto (G.cmp s t) m)) (λ _ p. (p.0, p.1 ∙ ap (test_onto t) u.1)) (g t z low u.0)

-- `-`, or an atom

pub unary_free : {X : Type 0} (old mid : List Token) → old ≡ fixed S.Minus ∷ mid → ((n : G.Unary) (w : List Token) → Unit {0} → mid ≡ unary_then n w → X) → (a : G.Unary) (z : List Token) → Unit {0} → old ≡ unary_then a z → X
unary_free old mid takes f (G.negative n) z low e = let s : mid ≡ unary_then n z = cc in f n z tt s
unary_free old mid takes f (G.atom a) z low e = absurd (not_atom a mid z (sym takes ∙ e))

pub unary_minus : (old mid new : List Token) (m n k : List TreeNode) (of : ℕ) → old ≡ fixed S.Minus ∷ mid → ((u : G.Unary) (w : List Token) → Unit {0} → mid ≡ unary_then u w → (new ≡ w) × (n ≡ unary_onto u m)) → of ≡ length n - 1 → k ≡ n ++ N.Neg of ∷ []
    → (a : G.Unary) (z : List Token) → Unit {0} → old ≡ unary_then a z → (new ≡ z) × (k ≡ unary_onto a m)
unary_minus old mid new m n k of takes f l pushed (G.negative x) z low e =
    let s : mid ≡ unary_then x z = cc in
    let u = f x z tt s in (u.0, wrapped_is (λ i. N.Neg i) n k (unary_onto x m) of pushed l u.1)
unary_minus old mid new m n k of takes f l pushed (G.atom a) z low e = absurd (not_atom a mid z (sym takes ∙ e))

pub unary_atom : (r : Result ℕ Stop) (old mid new : List Token) (m k : List TreeNode) → (mid ≡ old) × Lacks (fixed S.Minus) old
    → ((a : G.Atom) (w : List Token) → Unit {0} → mid ≡ atom_then a w → Outcome r (λ _. (new ≡ w) × (k ≡ atom_onto a m))) → (a : G.Unary) (z : List Token) → Unit {0} → old ≡ unary_then a z → Outcome r (λ _. (new ≡ z) × (k ≡ unary_onto a m))
unary_atom r old mid new m k h f (G.negative x) z low e = absurd (h.1 _ e)
unary_atom r old mid new m k h f (G.atom a) z low e = f a z tt (h.0 ∙ e)

-- an expression in parentheses

pub parens_free : {X : Type 0} (old mid now : List Token) → TakesLeaf None old mid → mid ≡ fixed S.Open ∷ now → ((x : G.Expr) (w : List Token) → rank w < 1 → now ≡ expr_then x w → X) → (a : G.Atom) (z : List Token) → Unit {0} → old ≡ atom_then a z → X
parens_free old mid now h takes f a z low e =
    let p = h.1 a z e in
    let same : atom_then a z ≡ fixed S.Open ∷ expr_then p.0 (fixed S.Close ∷ z) = ap (λ x. atom_then x z) p.1 in
    let s : now ≡ expr_then p.0 (fixed S.Close ∷ z) = let q = h.0 in cc in
    f p.0 (fixed S.Close ∷ z) (low_close z) s

pub parens_left : (old mid now after end : List Token) (m n : List TreeNode) → TakesLeaf None old mid → mid ≡ fixed S.Open ∷ now → ((x : G.Expr) (w : List Token) → rank w < 1 → now ≡ expr_then x w → (after ≡ w) × (n ≡ expr_onto x m))
    → (end ≡ after) × Lacks (fixed S.Close) after → (a : G.Atom) (z : List Token) → Unit {0} → old ≡ atom_then a z → ⊥
parens_left old mid now after end m n h takes f left a z low e =
    let p = h.1 a z e in
    let same : atom_then a z ≡ fixed S.Open ∷ expr_then p.0 (fixed S.Close ∷ z) = ap (λ x. atom_then x z) p.1 in
    let s : now ≡ expr_then p.0 (fixed S.Close ∷ z) = let q = h.0 in cc in
    let u = f p.0 (fixed S.Close ∷ z) (low_close z) s in left.1 z u.0

pub parens_went : (old mid now after end : List Token) (m n : List TreeNode) → TakesLeaf None old mid → mid ≡ fixed S.Open ∷ now → ((x : G.Expr) (w : List Token) → rank w < 1 → now ≡ expr_then x w → (after ≡ w) × (n ≡ expr_onto x m))
    → after ≡ fixed S.Close ∷ end → (a : G.Atom) (z : List Token) → Unit {0} → old ≡ atom_then a z → (end ≡ z) × (n ≡ atom_onto a m)
parens_went old mid now after end m n h takes f close a z low e =
    let p = h.1 a z e in
    let same : atom_then a z ≡ fixed S.Open ∷ expr_then p.0 (fixed S.Close ∷ z) = ap (λ x. atom_then x z) p.1 in
    let s : now ≡ expr_then p.0 (fixed S.Close ∷ z) = let q = h.0 in cc in
    let u = f p.0 (fixed S.Close ∷ z) (low_close z) s in
    let t : end ≡ z = let v = u.0 in cc in
    (t, u.1 ∙ ap (λ x. atom_onto x m) (sym p.1))
