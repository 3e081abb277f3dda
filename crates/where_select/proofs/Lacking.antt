-- Free columns against the kinds that are wanted.
use Rattle.std.proofs.Common.{◌≡◌, ℕ, zero, suc, ◌+◌, ◌<◌, ◌≤◌, true, false, List, [], ◌∷◌, ◌++◌, map, take, length, get_or, cond, refl, ap, ap₂, sym, ◌∙◌, arith}
use Rattle.std.proofs.lemmas.Bool.{cases_lt}
use Rattle.std.proofs.lemmas.List.{take_more, map-append}
use Rattle.std.proofs.Common.{◌⊎◌, inl, inr}
use Rattle.tw_rows.specs.Kinds.{cell_kind_of}
use Rattle.tw_rows.specs.declared.kind.Kind.{Kind}
use Rattle.tw_rows.specs.declared.kind.CellKind.{CellKind}
use Rattle.tw_rows.specs.declared.kind.CellKind.TheVariants.{Whole, Bit, Place}
use Rattle.batch.specs.PoolsView.{PoolsView, free_of, taken, all_taken}
use Rattle.lane_expr.specs.Kernels.{Program, kind_for, result_kind}
use Rattle.where_select.specs.Projects.{is_same_kind, many, Lacks}

pub same_is : (k : CellKind) → is_same_kind k k ≡ true
same_is Whole = refl
same_is Bit = refl
same_is Place = refl

abbrev pub one : CellKind → CellKind → ℕ
one k j = cond (is_same_kind k j) 1 0

-- what is free once a column is taken
free-taken : (s : PoolsView) (j k : CellKind) → free_of s k ≤ free_of (taken s j) k + one k j
free-taken s Whole Whole = omega arith
free-taken s Whole Bit = omega arith
free-taken s Whole Place = omega arith
free-taken s Bit Whole = omega arith
free-taken s Bit Bit = omega arith
free-taken s Bit Place = omega arith
free-taken s Place Whole = omega arith
free-taken s Place Bit = omega arith
free-taken s Place Place = omega arith

free-all : (s : PoolsView) (ks : List CellKind) (k : CellKind) → free_of s k ≤ free_of (all_taken s ks) k + many k ks
free-all s [] k = omega arith
free-all s (j ∷ ks) k = omega (arith, free-taken s j k, free-all (taken s j) ks k)

-- the kind of number i is one more than those before it
many-take : (ks : List CellKind) (i : ℕ) (d k : CellKind) → i < length ks → get_or ks i d ≡ k → many k (take i ks) + 1 ≤ many k ks
many-take [] i d k lt e = absurd (omega arith)
many-take (j ∷ ks) zero d k lt e =
    let s : is_same_kind k j ≡ true = ap (is_same_kind k) e ∙ same_is k in
    rw s (omega arith)
many-take (j ∷ ks) (suc i) d k lt e = let h = many-take ks i d k (omega arith) e in omega (arith, h)

-- where no pool lacks columns, there is one for the kind of number i once those before it are taken
pub free-left : (s : PoolsView) (ks : List CellKind) (i : ℕ) (d : CellKind) → ¬ (Lacks s ks) → i < length ks → 0 < free_of (all_taken s (take i ks)) (get_or ks i d)
free-left s ks i d enough lt =
    let k = get_or ks i d in
    let a = free-all s (take i ks) k in
    let b = many-take ks i d k lt refl in
    at (cases_lt (free_of s k) (many k ks)) a b
  where
    at : (free_of s (get_or ks i d) < many (get_or ks i d) ks) ⊎ (many (get_or ks i d) ks ≤ free_of s (get_or ks i d))
        → free_of s (get_or ks i d) ≤ free_of (all_taken s (take i ks)) (get_or ks i d) + many (get_or ks i d) (take i ks)
        → many (get_or ks i d) (take i ks) + 1 ≤ many (get_or ks i d) ks
        → 0 < free_of (all_taken s (take i ks)) (get_or ks i d)
    at (inl h) a b = absurd (enough (get_or ks i d, h))
    at (inr h) a b = omega (arith, a, b, h)

-- a column for each kind of results is stored as the kind is
pub stored-as : (ps : List Program) → map cell_kind_of (map (λ k. kind_for (result_kind k)) ps) ≡ map result_kind ps
stored-as [] = refl
stored-as (p ∷ ps) = ap₂ (λ k ks. k ∷ ks) (back (result_kind p)) (stored-as ps)
  where
    back : (k : CellKind) → cell_kind_of (kind_for k) ≡ k
    back Whole = refl
    back Bit = refl
    back Place = refl

many-push : (k : CellKind) (ks : List CellKind) (j : CellKind) → many k (ks ++ j ∷ []) ≡ many k ks + one k j
many-push k [] j = omega arith
many-push k (x ∷ ks) j = let h = many-push k ks j in omega (arith, h)

-- the count once one more kind is seen, where the test told whether it is stored so
pub many-next : (kinds : List Kind) (i n m : ℕ) (d : Kind) (k : CellKind) → i < length kinds → n ≡ many k (map cell_kind_of (take i kinds)) → m ≡ n + one k (cell_kind_of (get_or kinds i d)) → m ≡ many k (map cell_kind_of (take (i + 1) kinds))
many-next kinds i n m d k lt e is =
    let more : map cell_kind_of (take (i + 1) kinds) ≡ map cell_kind_of (take i kinds) ++ cell_kind_of (get_or kinds i d) ∷ [] = ap (map cell_kind_of) (take_more kinds i d lt) ∙ map-append cell_kind_of (take i kinds) (get_or kinds i d ∷ []) in
    is ∙ ap (λ x. x + one k (cell_kind_of (get_or kinds i d))) e ∙ sym (many-push k (map cell_kind_of (take i kinds)) (cell_kind_of (get_or kinds i d))) ∙ ap (many k) (sym more)

pub one-same : (k j : CellKind) → is_same_kind k j ≡ true → one k j ≡ 1
one-same k j e = ap (λ b. cond b 1 0) e

pub one-other : (k j : CellKind) → is_same_kind k j ≡ false → one k j ≡ 0
one-other k j e = ap (λ b. cond b 1 0) e
