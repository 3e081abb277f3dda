-- What the order of edges says of a cut at a time.
use Rattle.std.proofs.Common.{◌≡◌, ◌≤◌, ℕ, ◌+◌, ◌*◌, ◌&&◌, Bool, true, false, List, [], ◌∷◌, ◌++◌, cond, refl, ap, sym, ◌∙◌, arith, append-nil}
use Rattle.std.specs.Prelude.{nat_lt, filter}
use Rattle.std.specs.List.{list_all}
use Rattle.std.proofs.lemmas.List.Elements.{filter-append}
use Rattle.std.proofs.lemmas.List.Folds.{list_all-append}
use Rattle.std.proofs.lemmas.Bool.Decides.{nat_tests}
use Rattle.tw_rows.specs.declared.edge.Edge.{Edge}
use Rattle.edge_history.specs.Order.{is_end, rank, Rises, is_below, is_from}
use Rattle.edge_history.proofs.Rising.{Rises-back}
use Rattle.edge_stream.proofs.Parts.{filter-all, filter-none}

rank-high : (e : Edge) → rank e ≤ 2 * e.sync + 1
rank-high e = pick (is_end e)
  where
    pick : (b : Bool) → 2 * e.sync + cond b 0 1 ≤ 2 * e.sync + 1
    pick true = omega arith
    pick false = omega arith

is_from-high : (t : ℕ) (e : Edge) → 2 * t ≤ rank e → is_from t e ≡ true
is_from-high t e h =
    let k = rank-high e in
    let le : t ≤ e.sync = omega (arith, h, k) in
    grind (arith, nat_tests)

rank-from : (t : ℕ) (e : Edge) → is_below t e ≡ false → 2 * t ≤ rank e
rank-from t e h =
    let le : t ≤ e.sync = grind (arith, nat_tests) in
    omega (arith, le)

pub below-not_from : (t : ℕ) (e : Edge) → is_below t e ≡ true → is_from t e ≡ false
below-not_from t e h = grind (arith, nat_tests)

pub from-not_below : (t : ℕ) (e : Edge) → is_from t e ≡ true → is_below t e ≡ false
from-not_below t e h = grind (arith, nat_tests)

-- edges of high ranks lie from t on
all_from-high : (t r : ℕ) (es : List Edge) → 2 * t ≤ r → Rises r es → list_all (is_from t) es ≡ true
all_from-high t r [] le h = refl
all_from-high t r (e ∷ es) le h =
    let high : 2 * t ≤ rank e = omega (arith, le, h.0) in
    let here : is_from t e ≡ true = is_from-high t e high in
    let rest : list_all (is_from t) es ≡ true = all_from-high t (rank e) es high h.1 in
    rw (here, rest) refl

-- so do those after edges that do not all lie below
pub later_from : (t r : ℕ) (xs ys : List Edge) → Rises r (xs ++ ys) → list_all (is_below t) xs ≡ false → list_all (is_from t) ys ≡ true
later_from t r [] ys h some = absurd (cc)
later_from t r (x ∷ xs) ys h some = pick (nat_lt x.sync t) refl some (later_from t (rank x) xs ys h.1)
  where
    pick : (b : Bool) → nat_lt x.sync t ≡ b → (b && list_all (is_below t) xs) ≡ false → (list_all (is_below t) xs ≡ false → list_all (is_from t) ys ≡ true) → list_all (is_from t) ys ≡ true
    pick true is k rest = rest k
    pick false is k rest = all_from-high t (rank x) ys (rank-from t x is) (Rises-back (rank x) xs ys h.1)

-- the edges below t are a front part, and the others the rest
pub parts_are_whole : (t r : ℕ) (es : List Edge) → Rises r es → filter (is_below t) es ++ filter (is_from t) es ≡ es
parts_are_whole t r [] h = refl
parts_are_whole t r (e ∷ es) h = pick (is_below t e) (is_from t e) refl refl (parts_are_whole t (rank e) es h.1)
  where
    pick : (b c : Bool) → is_below t e ≡ b → is_from t e ≡ c → filter (is_below t) es ++ filter (is_from t) es ≡ es →
        cond b (e ∷ filter (is_below t) es) (filter (is_below t) es) ++ cond c (e ∷ filter (is_from t) es) (filter (is_from t) es) ≡ e ∷ es
    pick true true is k rest = let apart : is_from t e ≡ false = below-not_from t e is in absurd (cc)
    pick true false is k rest = ap (λ l. e ∷ l) rest
    pick false true is k rest =
        let from : list_all (is_from t) es ≡ true = all_from-high t (rank e) es (rank-from t e is) h.1 in
        let none : filter (is_below t) es ≡ [] = filter-none (is_from t) (is_below t) (from-not_below t) es from in
        let all : filter (is_from t) es ≡ es = filter-all (is_from t) es from in
        rw (none, all) refl
    pick false false is k rest = let from : is_from t e ≡ true = is_from-high t e (rank-from t e is) in absurd (cc)

-- a front part that is_on_side below t, and a rest that does not
pub lower_clean : (t : ℕ) (a r : List Edge) → list_all (is_below t) a ≡ true → list_all (is_from t) r ≡ true → a ≡ filter (is_below t) (a ++ r)
lower_clean t a r low high =
    sym (filter-append (is_below t) a r ∙ rw (filter-all (is_below t) a low, filter-none (is_from t) (is_below t) (from-not_below t) r high) (append-nil a))

pub upper_clean : (t : ℕ) (a r : List Edge) → list_all (is_below t) a ≡ true → list_all (is_from t) r ≡ true → r ≡ filter (is_from t) (a ++ r)
upper_clean t a r low high =
    sym (filter-append (is_from t) a r ∙ rw (filter-all (is_from t) r high, filter-none (is_below t) (is_from t) (below-not_from t) a low) refl)

-- the edges in between lie on both sides
module _ (t : ℕ) (a b c : List Edge) (rises : Rises 0 (a ++ (b ++ c))) (low : list_all (is_below t) a ≡ true) (some : list_all (is_below t) b ≡ false) where
  after : list_all (is_from t) c ≡ true
  after = later_from t 0 b c (Rises-back 0 a (b ++ c) rises) some

  pub lower_parted : a ++ filter (is_below t) b ≡ filter (is_below t) (a ++ (b ++ c))
  lower_parted =
      sym (filter-append (is_below t) a (b ++ c)
      ∙ rw (filter-all (is_below t) a low, filter-append (is_below t) b c, filter-none (is_from t) (is_below t) (from-not_below t) c after, append-nil (filter (is_below t) b)) refl)

  pub upper_parted : filter (is_from t) b ++ c ≡ filter (is_from t) (a ++ (b ++ c))
  upper_parted =
      sym (filter-append (is_from t) a (b ++ c)
      ∙ rw (filter-none (is_below t) (is_from t) (below-not_from t) a low, filter-append (is_from t) b c, filter-all (is_from t) c after) refl)

  pub rest_from : list_all (is_from t) b ≡ true → list_all (is_from t) (b ++ c) ≡ true
  rest_from here = list_all-append (is_from t) b c ∙ rw (here, after) refl
