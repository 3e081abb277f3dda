-- Comparisons by the marks of lanes.
use Rattle.std.proofs.Common.{◌≡◌, ℕ, ◌<◌, ◌==◌, ◌⊎◌, inl, inr, Bool, true, false, not, cond, ◌&&◌, ◌||◌, List, [], length, get_or, ℤ, refl, ap, sym, ◌∙◌}
use Rattle.std.specs.Prelude.{AllPairs, int_lt}
use Rattle.std.specs.Ordering.{is_eq, is_ne, is_lt, is_le, is_gt, is_ge, nat_cmp, int_cmp, bool_cmp, ordering_reverse}
use Rattle.std.specs.declared.cmp.Ordering.{Ordering}
use Rattle.std.specs.declared.cmp.Ordering.TheVariants.{Less, Equal, Greater}
use Rattle.std.specs.Cmp.Lexicographic.{slice_cmp}
use Rattle.std.proofs.lemmas.Cmp.{int_cmp_total, nat_list_cmp_total, tied_itself}
use Rattle.std.proofs.lemmas.Bool.{cases_order, eqb-true, eq-eqb}
use Rattle.std.specs.FinMap.{slice_cmp-IsAntisymmetric, nat_cmp-IsAntisymmetric}
use Rattle.occupancy.proofs.Test.{xor}

pub ne_is : (o : Ordering) → is_ne o ≡ not (is_eq o)
ne_is Less = refl
ne_is Equal = refl
ne_is Greater = refl

le_is : (o : Ordering) → is_le o ≡ not (is_gt o)
le_is Less = refl
le_is Equal = refl
le_is Greater = refl

ge_is : (o : Ordering) → is_ge o ≡ not (is_lt o)
ge_is Less = refl
ge_is Equal = refl
ge_is Greater = refl

reversed : (o : Ordering) → is_lt (ordering_reverse o) ≡ is_gt o
reversed Less = refl
reversed Equal = refl
reversed Greater = refl

pub lt_by : (x y : ℤ) → int_lt x y ≡ is_lt (int_cmp x y)
lt_by x y = of (int_lt x y) (int_lt y x)
  where
    of : (a b : Bool) → a ≡ is_lt (cond a Less (cond b Greater Equal))
    of true b = refl
    of false true = refl
    of false false = refl

pub gt_by : (x y : ℤ) → int_lt y x ≡ is_gt (int_cmp x y)
gt_by x y = lt_by y x ∙ ap is_lt (int_cmp_total.antisymm y x) ∙ reversed (int_cmp x y)

pub le_by : (x y : ℤ) → not (int_lt y x) ≡ is_le (int_cmp x y)
le_by x y = ap not (gt_by x y) ∙ sym (le_is (int_cmp x y))

pub ge_by : (x y : ℤ) → not (int_lt x y) ≡ is_ge (int_cmp x y)
ge_by x y = ap not (lt_by x y) ∙ sym (ge_is (int_cmp x y))

-- ---- texts
-- in a table without two equal texts the same text stands at one place
one_place : (texts : List (List ℕ)) → AllPairs (λ a b. a ≡ b → ⊥) texts → (i j : ℕ) → i < length texts → j < length texts → get_or texts i [] ≡ get_or texts j [] → i ≡ j
one_place texts apart i j lt less e = at (cases_order i j)
  where
    at : (i ≡ j) ⊎ ((i < j) ⊎ (j < i)) → i ≡ j
    at (inl h) = h
    at (inr (inl h)) = absurd (apart i j [] h less e)
    at (inr (inr h)) = absurd (apart j i [] h lt (sym e))

pub text_equal : (texts : List (List ℕ)) → AllPairs (λ a b. a ≡ b → ⊥) texts → (i j : ℕ) → i < length texts → j < length texts → (i == j) ≡ is_eq (slice_cmp nat_cmp (get_or texts i []) (get_or texts j []))
text_equal texts apart i j lt less = go (i == j) (is_eq (slice_cmp nat_cmp (get_or texts i []) (get_or texts j []))) refl refl
  where
    tied : (o : Ordering) → is_eq o ≡ true → o ≡ Equal
    tied Less e = absurd (cc)
    tied Equal e = refl
    tied Greater e = absurd (cc)

    go : (x y : Bool) → (i == j) ≡ x → is_eq (slice_cmp nat_cmp (get_or texts i []) (get_or texts j [])) ≡ y → x ≡ y
    go true true e f = refl
    go false false e f = refl
    go true false e f =
        let same : get_or texts i [] ≡ get_or texts j [] = ap (λ n. get_or texts n []) (eqb-true i j e) in
        let yes : is_eq (slice_cmp nat_cmp (get_or texts i []) (get_or texts j [])) ≡ true = ap (λ t. is_eq (slice_cmp nat_cmp (get_or texts i []) t)) (sym same) ∙ ap is_eq (tied_itself nat_list_cmp_total (get_or texts i [])) in
        sym yes ∙ f
    go false true e f =
        let same : get_or texts i [] ≡ get_or texts j [] = slice_cmp-IsAntisymmetric nat_cmp-IsAntisymmetric (get_or texts i []) (get_or texts j []) (tied (slice_cmp nat_cmp (get_or texts i []) (get_or texts j [])) f) in
        sym e ∙ eq-eqb i j (one_place texts apart i j lt less same)

-- ---- truth values
pub bits_eq : (a b : Bool) → not (xor a b) ≡ is_eq (bool_cmp a b)
bits_eq true true = refl
bits_eq true false = refl
bits_eq false true = refl
bits_eq false false = refl

pub bits_ne : (a b : Bool) → xor a b ≡ is_ne (bool_cmp a b)
bits_ne true true = refl
bits_ne true false = refl
bits_ne false true = refl
bits_ne false false = refl

pub bits_lt : (a b : Bool) → (not a && b) ≡ is_lt (bool_cmp a b)
bits_lt true true = refl
bits_lt true false = refl
bits_lt false true = refl
bits_lt false false = refl

pub bits_le : (a b : Bool) → (not a || b) ≡ is_le (bool_cmp a b)
bits_le true true = refl
bits_le true false = refl
bits_le false true = refl
bits_le false false = refl

pub bits_gt : (a b : Bool) → (a && not b) ≡ is_gt (bool_cmp a b)
bits_gt true true = refl
bits_gt true false = refl
bits_gt false true = refl
bits_gt false false = refl

pub bits_ge : (a b : Bool) → (a || not b) ≡ is_ge (bool_cmp a b)
bits_ge true true = refl
bits_ge true false = refl
bits_ge false true = refl
bits_ge false false = refl
