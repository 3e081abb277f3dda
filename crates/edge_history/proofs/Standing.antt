-- Standing for events, in the plain form and by balance, and of lists that are cut by their syncs.
use Rattle.std.specs.Prelude.{◌≡◌, ◌↔◌, ℕ, ◌+◌, ◌<◌, ◌≤◌, ◌&&◌, nat_lt, Bool, true, false, cond, List, [], ◌∷◌, ◌++◌, map, filter, flat_map, refl}
use Rattle.std.proofs.Common.{◌∙◌, sym, arith}
use Rattle.std.proofs.lemmas.Bool.Decides.{nat_tests}
use Rattle.tw_rows.specs.Bag.{SameBag, total}
use Rattle.tw_rows.specs.Instant.{inf}
use Rattle.tw_rows.specs.Event.{cut_one, cut}
use Rattle.tw_rows.specs.declared.cells.Datum.{Datum}
use Rattle.tw_rows.specs.declared.edge.Edge.{Edge}
use Rattle.tw_rows.proofs.Bags.{SameBag-refl, SameBag-sym, SameBag-trans, SameBag-flat_map, total-flat_map, total_same, total-add, total-filter, total_zero}
use Rattle.edge_history.specs.Order.{failing, many, rank, Rises, is_real, is_below, ends_it, starts_it, IsPaired, IsHistory}
use Rattle.edge_history.specs.History.{CellEvent, of, StandsBelow}
use Rattle.edge_history.specs.Balance.{given, taken, AreEventsOf, StandsFor, is_settled, is_single, Told}
use Rattle.edge_history.proofs.Sums.{sum_le, sum_eq, weaker, failing-both, failing-filter, failing-kept}
use Rattle.edge_history.proofs.Telling.{gain, loss, stands_by_weight, weight_of_standing, stands_same, told_below, told_history, rises_weaker, settled_real}
use Rattle.edge_history.proofs.Retaining.{events_of_are, events_unique}

-- of its events a list stands for what is known below any time
pub stands_for_own : (c : ℕ) (h : List Edge) (a : List CellEvent) → AreEventsOf h a → StandsFor c h a
stands_for_own c h a are =
    SameBag-flat_map (cut_one c) (cut_one c) (a ++ flat_map taken h) (map given h) are (λ x. SameBag-refl (cut_one c x))

-- a list stands for the events of which the same is known as of its own
pub cut_from_stands : (c : ℕ) (h : List Edge) (a es : List CellEvent) → AreEventsOf h a → StandsFor c h es →
    SameBag (cut c a) (cut c es)
cut_from_stands c h a es are stands = record {
  weigh = λ w.
      let k = weight_of_standing c h a (stands_for_own c h a are) w in
      let l = weight_of_standing c h es stands w in
      omega (arith, k, l);
}

pub stands_from_cut : (c : ℕ) (h : List Edge) (a es : List CellEvent) → AreEventsOf h a → SameBag (cut c a) (cut c es) →
    StandsFor c h es
stands_from_cut c h a es are same = stands_same c h a es same (stands_for_own c h a are)

pub stands_plain : (c : ℕ) (h : List Edge) (es : List CellEvent) → IsHistory h →
    StandsFor c h es ↔ SameBag (cut c (of h)) (cut c es)
stands_plain c h es k =
    (cut_from_stands c h (of h) es (events_of_are h k), stands_from_cut c h (of h) es (events_of_are h k))

pub told_stands : (c : ℕ) (h : List Edge) (es : List CellEvent) → c ≤ inf → Told c h es → StandsBelow c h es
told_stands c h es high told =
    let k = told_history c h es high told in
    record { history = k; below = told_below c h told.settled; same = (stands_plain c h es k).0 told.stands }

-- what is known below d tells what is known below a lesser time
cut_twice : (w : CellEvent → ℕ) (c d : ℕ) (e : CellEvent) → c ≤ d → d ≤ inf →
    total (λ x. total w (cut_one c x)) (cut_one d e) ≡ total w (cut_one c e)
cut_twice w c d e low high = grind (arith, nat_tests)

cut-less-total : (w : CellEvent → ℕ) (c d : ℕ) (es : List CellEvent) → c ≤ d → d ≤ inf →
    total (λ x. total w (cut_one c x)) (cut d es) ≡ total w (cut c es)
cut-less-total w c d es low high =
    total-flat_map (λ x. total w (cut_one c x)) (cut_one d) es
    ∙ (total_same _ _ es (λ e. cut_twice w c d e low high) ∙ sym (total-flat_map w (cut_one c) es))

pub cut_less : (c d : ℕ) (a b : List CellEvent) → c ≤ d → d ≤ inf → SameBag (cut d a) (cut d b) →
    SameBag (cut c a) (cut c b)
cut_less c d a b low high h = record {
  weigh = λ w. sym (cut-less-total w c d a low high)
      ∙ (h.weigh (λ x. total w (cut_one c x)) ∙ cut-less-total w c d b low high);
}

-- edges from t on say nothing of what is below it
below_says : (w : CellEvent → ℕ) (t : ℕ) (x : Edge) → t ≤ inf → is_real x ≡ true →
    loss w t x + cond {A = ℕ} (is_below t x) (gain w t x) 0 ≡ gain w t x + cond (is_below t x) (loss w t x) 0
below_says w t x high k = grind (arith, nat_tests)

pub stands_cut : (t : ℕ) (h : List Edge) (es : List CellEvent) → t ≤ inf → failing is_real h ≡ 0 → StandsFor t h es →
    StandsFor t (filter (is_below t) h) es
stands_cut t h es high real stands = stands_by_weight t (filter (is_below t) h) es (λ w.
    let k = weight_of_standing t h es stands w in
    let l = total-filter (loss w t) (is_below t) h in
    let g = total-filter (gain w t) (is_below t) h in
    let s = sum_eq is_real _ (λ x. gain w t x + cond (is_below t x) (loss w t x) 0) h
    (λ x p. below_says w t x high p) real in
    let a = total-add (loss w t) (λ x. cond (is_below t x) (gain w t x) 0) h in
    let b = total-add (gain w t) (λ x. cond (is_below t x) (loss w t x) 0) h in
    omega (arith, k, l, g, s, a, b))

pub stands_less : (c d : ℕ) (h : List Edge) (es : List CellEvent) → c ≤ d → d ≤ inf → failing is_real h ≡ 0 →
    StandsFor d h es → StandsFor c (filter (is_below c) h) es
stands_less c d h es low high real stands =
    stands_cut c h es (omega arith) real (cut_less c d (es ++ flat_map taken h) (map given h) low high stands)

-- the edges below t of a history are a history
pub rises_filter : (p : Edge → Bool) (r : ℕ) (xs : List Edge) → Rises r xs → Rises r (filter p xs)
rises_filter p r [] k = tt
rises_filter p r (x ∷ xs) k = pick (p x) (rises_filter p (rank x) xs k.1)
  where
    pick : (b : Bool) → Rises (rank x) (filter p xs) → Rises r (cond b (x ∷ filter p xs) (filter p xs))
    pick true h = (k.0, h)
    pick false h = rises_weaker (rank x) r (filter p xs) k.0 h

low_starts : (cells : List Datum) (start t : ℕ) (x : Edge) → start < t →
    cond {A = ℕ} (is_below t x) (cond (starts_it cells start x) 1 0) 0 ≡ cond (starts_it cells start x) 1 0
low_starts cells start t x low = grind (arith, nat_tests)

low_ends : (cells : List Datum) (start t : ℕ) (x : Edge) →
    cond {A = ℕ} (is_below t x) (cond (ends_it cells start x) 1 0) 0 ≤ cond (ends_it cells start x) 1 0
low_ends cells start t x = grind (arith, nat_tests)

high_ends : (cells : List Datum) (start t : ℕ) (x : Edge) → t ≤ start →
    cond {A = ℕ} (is_below t x) (cond (ends_it cells start x) 1 0) 0 ≡ 0
high_ends cells start t x high = grind (arith, nat_tests)

pub paired_below : (t : ℕ) (h : List Edge) → IsPaired h → IsPaired (filter (is_below t) h)
paired_below t h paired cells start = pick (nat_lt start t) refl
  where
    a : many (ends_it cells start) (filter (is_below t) h)
        ≡ total (λ x. cond (is_below t x) (cond (ends_it cells start x) 1 0) 0) h
    a = total-filter (λ x. cond (ends_it cells start x) 1 0) (is_below t) h

    b : many (starts_it cells start) (filter (is_below t) h)
        ≡ total (λ x. cond (is_below t x) (cond (starts_it cells start x) 1 0) 0) h
    b = total-filter (λ x. cond (starts_it cells start x) 1 0) (is_below t) h

    is_low : nat_lt start t ≡ true → start < t
    is_low e = grind (arith, nat_tests)

    is_high : nat_lt start t ≡ false → t ≤ start
    is_high e = grind (arith, nat_tests)

    pick : (k : Bool) → nat_lt start t ≡ k →
        many (ends_it cells start) (filter (is_below t) h) ≤ many (starts_it cells start) (filter (is_below t) h)
    pick true e =
        let p = paired cells start in
        let s = total_same _ (λ x. cond {A = ℕ} (starts_it cells start x) 1 0) h
        (λ x. low_starts cells start t x (is_low e)) in
        let n = sum_le (λ x. true) _ (λ x. cond {A = ℕ} (ends_it cells start x) 1 0) h (λ x _. low_ends cells start t x)
        (total_zero h) in
        omega (arith, a, b, p, s, n)
    pick false e =
        let n = total_same _ (λ x. 0) h (λ x. high_ends cells start t x (is_high e)) in
        let z = total_zero h in
        omega (arith, a, b, n, z)

pub history_below : (t : ℕ) (h : List Edge) → IsHistory h → IsHistory (filter (is_below t) h)
history_below t h k =
    record {
      order = rises_filter (is_below t) 0 h k.order;
      real = failing-filter (is_below t) is_real h k.real;
      paired = paired_below t h k.paired;
    }

-- and they say the same below t
pub same_as_below : (t : ℕ) (h : List Edge) → t ≤ inf → IsHistory h →
    SameBag (cut t (of (filter (is_below t) h))) (cut t (of h))
same_as_below t h high k =
    let low = history_below t h k in
    (stands_plain t (filter (is_below t) h) (of h) low).0
    (stands_cut t h (of h) high k.real (stands_for_own t h (of h) (events_of_are h k)))

-- standing below a lesser time
pub stands_below_less : (c d : ℕ) (h : List Edge) (es : List CellEvent) → c ≤ d → d ≤ inf → StandsBelow d h es →
    StandsBelow c (filter (is_below c) h) es
stands_below_less c d h es low high k = record {
  history = history_below c h k.history;
  below = failing-kept (is_below c) h;
  same = SameBag-trans (cut c (of (filter (is_below c) h))) (cut c (of h)) (cut c es)
      (same_as_below c h (omega arith) k.history) (cut_less c d (of h) es low high k.same);
}

single_settled : (c d : ℕ) (x : Edge) → (is_settled d x && is_single x) ≡ true →
    cond {A = ℕ} (is_below c x) (cond (is_settled c x) 0 1) 0 ≡ 0
single_settled c d x k = grind (arith, nat_tests)

pub told_less : (c d : ℕ) (h : List Edge) (es : List CellEvent) → c ≤ d → d ≤ inf → failing is_single h ≡ 0 →
    Told d h es → Told c (filter (is_below c) h) es
told_less c d h es low high single told = record {
  order = rises_filter (is_below c) 0 h told.order;
  settled =
      let a = total-filter (λ x. cond {A = ℕ} (is_settled c x) 0 1) (is_below c) h in
      let b = sum_eq (λ x. is_settled d x && is_single x) _ (λ x. 0) h (λ x p. single_settled c d x p)
      (failing-both (is_settled d) is_single h told.settled single) in
      a ∙ (b ∙ total_zero h);
  stands = stands_less c d h es low high (weaker (is_settled d) is_real h (λ x k. settled_real d x high k) told.settled)
      told.stands;
}

-- what two lists say of the same events is the same
pub stands_below_same : (c : ℕ) (h : List Edge) (es fs : List CellEvent) → SameBag (cut c es) (cut c fs) →
    StandsBelow c h es → StandsBelow c h fs
stands_below_same c h es fs same k =
    record {
      history = k.history;
      below = k.below;
      same = SameBag-trans (cut c (of h)) (cut c es) (cut c fs) k.same same;
    }

pub same_of_both : (c : ℕ) (h k : List Edge) (es : List CellEvent) → StandsBelow c h es → StandsBelow c k es →
    SameBag (cut c (of h)) (cut c (of k))
same_of_both c h k es a b =
    SameBag-trans (cut c (of h)) (cut c es) (cut c (of k)) a.same (SameBag-sym (cut c (of k)) (cut c es) b.same)

-- the edges of a history below c stand for its events
pub stands_for_events : (c : ℕ) (h : List Edge) (a : List CellEvent) → c ≤ inf → IsHistory h → AreEventsOf h a →
    StandsBelow c (filter (is_below c) h) a
stands_for_events c h a high k are = record {
  history = history_below c h k;
  below = failing-kept (is_below c) h;
  same = SameBag-trans (cut c (of (filter (is_below c) h))) (cut c (of h)) (cut c a) (same_as_below c h high k)
      (SameBag-flat_map (cut_one c) (cut_one c) (of h) a (events_unique h (of h) a (events_of_are h k) are)
      (λ e. SameBag-refl (cut_one c e)));
}
