-- Edges that are put to those that wait, and taken out again.
use Rattle.std.specs.Prelude.{◌≡◌, ℕ, ◌+◌, ◌-◌, ◌<◌, ◌≤◌, ◌⊎◌, ◌↔◌, IsTrue, nat_eq, nat_lt, nat_le, Bool, true, false, cond, List, [], ◌∷◌, ◌++◌, map, length, get_or, All, refl}
use Rattle.std.proofs.Common.{inl, inr, sym, ◌∙◌, ap, subst, arith}
use Rattle.std.proofs.lemmas.Bool.{cases_lt}
use Rattle.std.proofs.lemmas.Bool.Decides.{nat_tests}
use Rattle.std.specs.List.{AllAdjacentBelow}
use Rattle.std.proofs.lemmas.List.{get_or_default}
use Rattle.std.proofs.lemmas.List.Sorted.{all_adjacent_more}
use Rattle.std.proofs.lemmas.List.Elements.{All-head, All-tail}
use Rattle.tw_rows.specs.Bag.{total}
use Rattle.tw_rows.specs.declared.edge.Edge.{Edge}
use Rattle.tw_rows.proofs.Bags.{total-append}
use Rattle.edge_history.specs.Order.{failing, is_from, is_below, is_end, rank}
use Rattle.edge_history.proofs.Sums.{weaker}
use Rattle.end_queue.specs.Pending.{Pending, put_pending}
use Rattle.sweep_sides.specs.Waiting.{queued, AreTimed}

-- one entry more
pub total-put_pending : (v : Pending → ℕ) (p : Pending) (ps : List Pending) → total v (put_pending p ps) ≡ v p + total v ps
total-put_pending v p [] = refl
total-put_pending v p (q ∷ qs) = pick (nat_lt p.at q.at) (total-put_pending v p qs)
  where
    pick : (b : Bool) → total v (put_pending p qs) ≡ v p + total v qs → total v (cond b (p ∷ q ∷ qs) (q ∷ put_pending p qs)) ≡ v p + total v (q ∷ qs)
    pick true h = refl
    pick false h = omega (arith, h)

pub own_test : (at s : ℕ) → at ≡ s → cond {A = ℕ} (nat_eq at s) 0 1 ≡ 0
own_test at s h = grind (arith, nat_tests)

pub from_test : (t s : ℕ) → t ≤ s → cond {A = ℕ} (nat_le t s) 0 1 ≡ 0
from_test t s h = grind (arith, nat_tests)

below_test : (t s : ℕ) → s < t → cond {A = ℕ} (nat_lt s t) 0 1 ≡ 0
below_test t s h = grind (arith, nat_tests)

-- the ranks of an edge and of the next one
one_at_most : (b : Bool) → cond {A = ℕ} b 0 1 ≤ 1
one_at_most true = omega arith
one_at_most false = omega arith

pub later_behind : (x y : Edge) → x.sync < y.sync → rank x ≤ rank y
later_behind x y low = let a = one_at_most (is_end x) in omega (arith, low, a)

pub behind_end : (x y : Edge) → x.sync ≡ y.sync → is_end x ≡ true → rank x ≤ rank y
behind_end x y same ends = let a = ap (λ b. cond {A = ℕ} b 0 1) ends in omega (arith, same, a)

pub start_behind : (x y : Edge) → x.sync ≡ y.sync → is_end y ≡ false → rank x ≤ rank y
start_behind x y same starts =
    let a = one_at_most (is_end x) in
    let b = ap (λ b. cond {A = ℕ} b 0 1) starts in
    omega (arith, same, a, b)

pub ranks_rise : (es : List Edge) (i : ℕ) (x last : Edge) → 0 < i → i < length es → x ≡ get_or es i x → last ≡ get_or es (i - 1) last → rank last ≤ rank x →
    AllAdjacentBelow (λ x y. rank x ≤ rank y) es i → AllAdjacentBelow (λ x y. rank x ≤ rank y) es (i + 1)
ranks_rise es i x last some low is before le h = all_adjacent_more es (λ x y. rank x ≤ rank y) i some h (λ d.
    let a = ap rank (before ∙ get_or_default es (i - 1) last d (omega (arith, some, low))) in
    let b = ap rank (is ∙ get_or_default es i x d low) in
    omega (arith, a, b, le))

pub pushed : {X : Type 0} (w : X → ℕ) (xs ys : List X) (x : X) → ys ≡ xs ++ x ∷ [] → total w ys ≡ total w xs + w x
pushed w xs ys x e = let a = ap (total w) e in let b = total-append w xs (x ∷ []) in omega (arith, a, b)

pub below_push : (to : ℕ) (xs ys : List Edge) (e : Edge) → ys ≡ xs ++ e ∷ [] → e.sync < to → failing (is_below to) xs ≡ 0 → failing (is_below to) ys ≡ 0
below_push to xs ys e is low h =
    let a = pushed (λ x. cond {A = ℕ} (is_below to x) 0 1) xs ys e is in
    let z = below_test to e.sync low in
    omega (arith, a, z, h)

own_first : (at s n : ℕ) → cond {A = ℕ} (nat_eq at s) 0 1 + n ≡ 0 → at ≡ s
own_first at s n h = grind (arith, nat_tests)

-- where no entry is due, no edge is
none_due : (to : ℕ) (ps : List Pending) → AreTimed ps → All (λ p. to ≤ p.at) ps → failing (is_from to) (queued ps) ≡ 0
none_due to [] h a = refl
none_due to (p ∷ ps) h a =
    let e = own_first p.at p.edge.sync _ h in
    let low = All-head (λ (q : Pending). to ≤ q.at) p ps a in
    let z = from_test to p.edge.sync (omega (arith, e, low)) in
    let r = none_due to ps (omega (arith, h)) (All-tail (λ (q : Pending). to ≤ q.at) p ps a) in
    omega (arith, z, r)

-- all entries that are due are taken out
all_due : (to : ℕ) (ps : List Pending) → AreTimed ps → All (λ p. p.at < to) ps → failing (is_below to) (queued ps) ≡ 0
all_due to [] h a = refl
all_due to (p ∷ ps) h a =
    let e = own_first p.at p.edge.sync _ h in
    let low = All-head (λ (q : Pending). q.at < to) p ps a in
    let z = below_test to p.edge.sync (omega (arith, e, low)) in
    let r = all_due to ps (omega (arith, h)) (All-tail (λ (q : Pending). q.at < to) p ps a) in
    omega (arith, z, r)

edges_both : (w : Edge → ℕ) (ps qs : List Pending) → total w (queued (ps ++ qs)) ≡ total w (queued ps) + total w (queued qs)
edges_both w [] qs = omega arith
edges_both w (p ∷ ps) qs = let h = edges_both w ps qs in omega (arith, h)

own_both : (ps qs : List Pending) → AreTimed (ps ++ qs) → AreTimed ps × AreTimed qs
own_both ps qs h =
    let a = total-append (λ (p : Pending). cond {A = ℕ} (nat_eq p.at p.edge.sync) 0 1) ps qs in
    (omega (arith, a, h), omega (arith, a, h))

still_below : (s t c : ℕ) → t ≤ c → nat_lt s t ≡ true → nat_lt s c ≡ true
still_below s t c low h = grind (arith, nat_tests)

-- what comes below a time comes below a later one
pub below_later : (t c : ℕ) (es : List Edge) → t ≤ c → failing (is_below t) es ≡ 0 → failing (is_below c) es ≡ 0
below_later t c es low h = weaker (is_below t) (is_below c) es (λ e k. still_below e.sync t c low k) h

pub record Popped (to : ℕ) (old new : List Pending) (due0 due1 : List Edge) : Type 0 where
  pub parts : (w : Edge → ℕ) → total w due1 + total w (queued new) ≡ total w due0 + total w (queued old)
  pub below : (c : ℕ) → to ≤ c → failing (is_below c) due0 ≡ 0 → failing (is_below c) due1 ≡ 0
  pub later : failing (is_from to) (queued new) ≡ 0
  pub own : AreTimed new

pub all_popped : (to : ℕ) (old new taken : List Pending) (due0 due1 : List Edge) → old ≡ taken ++ new → due1 ≡ due0 ++ map (λ p. p.edge) taken →
    All (λ p. p.at < to) taken → All (λ p. to ≤ p.at) new → AreTimed old → Popped to old new due0 due1
all_popped to old new taken due0 due1 is pushed early late h =
    let o = own_both taken new (subst AreTimed is h) in
    record {
      parts = λ w.
          let a = ap (total w) pushed in
          let b = total-append w due0 (queued taken) in
          let d = ap (λ l. total w (queued l)) is in
          let e = edges_both w taken new in
          omega (arith, a, b, d, e);
      below = λ c low k.
          let z = below_later to c (queued taken) low (all_due to taken o.0 early) in
          let a = ap (failing (is_below c)) pushed in
          let b = total-append (λ (e : Edge). cond {A = ℕ} (is_below c e) 0 1) due0 (queued taken) in
          omega (arith, z, a, b, k);
      later = none_due to new o.1 late;
      own = o.1;
    }

pub not_due : (b : Bool) (s t : ℕ) → IsTrue b ↔ (s < t) → b ≡ false → t ≤ s
not_due b s t h e = pick (cases_lt s t)
  where
    pick : (s < t) ⊎ (t ≤ s) → t ≤ s
    pick (inl low) = let z = sym (h.1 low) ∙ e in absurd (cc)
    pick (inr low) = low
