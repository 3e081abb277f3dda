-- Lists of edges in another order, of two lists, and row by row.
use Rattle.std.specs.Prelude.{◌≡◌, ℕ, ◌≤◌, Bool, true, cond, List, [], ◌∷◌, ◌++◌, filter}
use Rattle.std.proofs.Common.{◌∙◌, sym, ap, arith}
use Rattle.std.proofs.lemmas.Bool.Decides.{nat_tests}
use Rattle.tw_rows.specs.Bag.{SameBag, total}
use Rattle.tw_rows.specs.Instant.{inf}
use Rattle.tw_rows.specs.Event.{cut_one, cut}
use Rattle.tw_rows.specs.declared.cells.Datum.{Datum}
use Rattle.tw_rows.specs.declared.edge.Edge.{Edge}
use Rattle.tw_rows.proofs.Bags.{SameBag-trans, SameBag-flat_map, SameBag-refl, SameBag-sym, total-append, total-map, total-flat_map, total_same, total-filter}
use Rattle.tw_rows.proofs.Lives.{total-cut, cut-append}
use Rattle.edge_history.specs.Order.{failing, rank, Rises, is_real, is_below, ends_it, starts_it, IsPaired, IsHistory}
use Rattle.edge_history.specs.History.{CellEvent, is_open, of, StandsBelow}
use Rattle.edge_history.specs.Balance.{given, taken, AreEventsOf, StandsFor}
use Rattle.edge_history.specs.Made.{edges_where, events_where, edge_with, event_with, edges_with, events_with}
use Rattle.edge_history.proofs.Sums.{sum_eq, failing-append, failing-same, failing-filter, failing-kept}
use Rattle.edge_history.proofs.Retaining.{left-total, took_open, events_of_are, events_unique}
use Rattle.edge_history.proofs.Telling.{gain, loss, stands_by_weight, weight_of_standing}
use Rattle.edge_history.proofs.Standing.{rises_filter, paired_below, stands_plain, stands_cut, stands_for_own}

-- a list that has events is paired
pub given_opens : (cells : List Datum) (start : ℕ) (x : Edge) → is_real x ≡ true →
    cond {A = ℕ} (is_open cells start (given x)) 1 0 ≡ cond (starts_it cells start x) 1 0
given_opens cells start x k = grind (arith, nat_tests)

pub paired_from_events : (h : List Edge) (a : List CellEvent) → failing is_real h ≡ 0 → AreEventsOf h a → IsPaired h
paired_from_events h a real are cells start =
    let o : CellEvent → ℕ = λ e. cond (is_open cells start e) 1 0 in
    let k = are.weigh o in
    let l = left-total o a h in
    let r = total-map o given h in
    let b1 = total_same (λ x. total o (taken x)) (λ x. cond (ends_it cells start x) 1 0) h (took_open cells start) in
    let b2 = sum_eq is_real (λ x. o (given x)) (λ x. cond (starts_it cells start x) 1 0) h
    (λ x p. given_opens cells start x p) real in
    omega (arith, k, l, r, b1, b2)

-- the order of the edges is free
pub events_same : (h k : List Edge) (a : List CellEvent) → SameBag h k → AreEventsOf h a → AreEventsOf k a
events_same h k a same are = record {
  weigh = λ w.
      let e = are.weigh w in
      let e1 = left-total w a h in
      let e2 = total-map w given h in
      let f1 = left-total w a k in
      let f2 = total-map w given k in
      let s = same.weigh (λ x. total w (taken x)) in
      let t = same.weigh (λ x. w (given x)) in
      omega (arith, e, e1, e2, f1, f2, s, t);
}

pub events_both : (h k : List Edge) (a b : List CellEvent) → AreEventsOf h a → AreEventsOf k b →
    AreEventsOf (h ++ k) (a ++ b)
events_both h k a b of_h of_k = record {
  weigh = λ w.
      let e = of_h.weigh w in
      let f = of_k.weigh w in
      let e1 = left-total w a h in
      let e2 = total-map w given h in
      let f1 = left-total w b k in
      let f2 = total-map w given k in
      let g1 = left-total w (a ++ b) (h ++ k) in
      let g2 = total-map w given (h ++ k) in
      let s = total-append w a b in
      let t = total-append (λ x. total w (taken x)) h k in
      let u = total-append (λ x. w (given x)) h k in
      omega (arith, e, f, e1, e2, f1, f2, g1, g2, s, t, u);
}

-- a list in order that has events, and whose edges come below c
pub stands_from_events : (c : ℕ) (h : List Edge) (a es : List CellEvent) → Rises 0 h → failing is_real h ≡ 0 →
    failing (is_below c) h ≡ 0 → AreEventsOf h a → SameBag (cut c a) (cut c es) → StandsBelow c h es
stands_from_events c h a es order real below are same =
    let k : IsHistory h = record { order = order; real = real; paired = paired_from_events h a real are } in
    record {
      history = k;
      below = below;
      same = SameBag-trans (cut c (of h)) (cut c a) (cut c es)
          (SameBag-flat_map (cut_one c) (cut_one c) (of h) a (events_unique h (of h) a (events_of_are h k) are)
          (λ e. SameBag-refl (cut_one c e))) same;
    }

pub stands_both : (c : ℕ) (h k merged : List Edge) (es fs : List CellEvent) → Rises 0 merged → SameBag merged (h ++ k) →
    StandsBelow c h es → StandsBelow c k fs → StandsBelow c merged (es ++ fs)
stands_both c h k merged es fs order same a b =
    stands_from_events c merged (of h ++ of k) (es ++ fs) order
    (failing-same is_real merged (h ++ k) same (failing-append is_real h k a.history.real b.history.real))
    (failing-same (is_below c) merged (h ++ k) same (failing-append (is_below c) h k a.below b.below))
    (events_same (h ++ k) merged (of h ++ of k) (SameBag-sym merged (h ++ k) same)
    (events_both h k (of h) (of k) (events_of_are h a.history) (events_of_are k b.history)))
    (record {
      weigh = λ w.
          let p = a.same.weigh w in
          let q = b.same.weigh w in
          let e = ap (total w) (cut-append c (of h) (of k)) ∙ total-append w (cut c (of h)) (cut c (of k)) in
          let f = ap (total w) (cut-append c es fs) ∙ total-append w (cut c es) (cut c fs) in
          omega (arith, p, q, e, f);
    })

-- rows that pass a test
module _ (test : List Datum → Bool) where
  taken_where : (w : CellEvent → ℕ) (x : Edge) →
      total (λ e. cond (test e.row) (w e) 0) (taken x) ≡ cond (test x.cells) (total w (taken x)) 0
  taken_where w x = grind arith

  pub events_of_where : (h : List Edge) (a : List CellEvent) → AreEventsOf h a →
      AreEventsOf (edges_where test h) (events_where test a)
  events_of_where h a are = record {
    weigh = λ w.
        let v : CellEvent → ℕ = λ e. cond (test e.row) (w e) 0 in
        let e = are.weigh v in
        let e1 = left-total v a h in
        let e2 = total-map v given h in
        let f1 = left-total w (events_where test a) (edges_where test h) in
        let f2 = total-map w given (edges_where test h) in
        let g1 = total-filter w (λ e. test e.row) a in
        let g2 = total-filter (λ x. total w (taken x)) (λ x. test x.cells) h in
        let g3 = total-filter (λ x. w (given x)) (λ x. test x.cells) h in
        let s = total_same _ (λ x. cond (test x.cells) (total w (taken x)) 0) h (taken_where w) in
        omega (arith, e, e1, e2, f1, f2, g1, g2, g3, s);
  }

  cut_one_where : (w : CellEvent → ℕ) (c : ℕ) (e : CellEvent) →
      cond {A = ℕ} (test e.row) (total w (cut_one c e)) 0 ≡ total (λ x. cond (test x.row) (w x) 0) (cut_one c e)
  cut_one_where w c e = grind arith

  cut-where-total : (w : CellEvent → ℕ) (c : ℕ) (es : List CellEvent) →
      total w (cut c (events_where test es)) ≡ total (λ x. cond (test x.row) (w x) 0) (cut c es)
  cut-where-total w c es =
      total-cut w c (events_where test es) ∙ (total-filter (λ e. total w (cut_one c e)) (λ e. test e.row) es
      ∙ (total_same _ _ es (cut_one_where w c) ∙ sym (total-flat_map (λ x. cond (test x.row) (w x) 0) (cut_one c) es)))

  pub cut_where : (c : ℕ) (a b : List CellEvent) → SameBag (cut c a) (cut c b) →
      SameBag (cut c (events_where test a)) (cut c (events_where test b))
  cut_where c a b same =
      record {
        weigh = λ w. cut-where-total w c a
            ∙ (same.weigh (λ x. cond (test x.row) (w x) 0) ∙ sym (cut-where-total w c b));
      }

  pub stands_where : (c : ℕ) (h : List Edge) (es : List CellEvent) → StandsBelow c h es →
      StandsBelow c (edges_where test h) (events_where test es)
  stands_where c h es k =
      stands_from_events c (edges_where test h) (events_where test (of h)) (events_where test es)
      (rises_filter (λ e. test e.cells) 0 h k.history.order)
      (failing-filter (λ e. test e.cells) is_real h k.history.real)
      (failing-filter (λ e. test e.cells) (is_below c) h k.below)
      (events_of_where h (of h) (events_of_are h k.history)) (cut_where c (of h) es k.same)

-- rows that are replaced
module _ (f : List Datum → List Datum) where
  taken_with : (w : CellEvent → ℕ) (x : Edge) →
      total w (taken (edge_with f x)) ≡ total (λ e. w (event_with f e)) (taken x)
  taken_with w x = grind arith

  pub events_of_with : (h : List Edge) (a : List CellEvent) → AreEventsOf h a →
      AreEventsOf (edges_with f h) (events_with f a)
  events_of_with h a are = record {
    weigh = λ w.
        let v : CellEvent → ℕ = λ e. w (event_with f e) in
        let e = are.weigh v in
        let e1 = left-total v a h in
        let e2 = total-map v given h in
        let f1 = left-total w (events_with f a) (edges_with f h) in
        let f2 = total-map w given (edges_with f h) in
        let g1 = total-map w (event_with f) a in
        let g2 = total-map (λ x. total w (taken x)) (edge_with f) h in
        let g3 = total-map (λ x. w (given x)) (edge_with f) h in
        let s = total_same _ (λ x. total v (taken x)) h (taken_with w) in
        omega (arith, e, e1, e2, f1, f2, g1, g2, g3, s);
  }

  cut_one_with : (w : CellEvent → ℕ) (c : ℕ) (e : CellEvent) →
      total w (cut_one c (event_with f e)) ≡ total (λ x. w (event_with f x)) (cut_one c e)
  cut_one_with w c e = grind arith

  cut-with-total : (w : CellEvent → ℕ) (c : ℕ) (es : List CellEvent) →
      total w (cut c (events_with f es)) ≡ total (λ x. w (event_with f x)) (cut c es)
  cut-with-total w c es =
      total-cut w c (events_with f es) ∙ (total-map (λ e. total w (cut_one c e)) (event_with f) es
      ∙ (total_same _ _ es (cut_one_with w c) ∙ sym (total-flat_map (λ x. w (event_with f x)) (cut_one c) es)))

  pub cut_with : (c : ℕ) (a b : List CellEvent) → SameBag (cut c a) (cut c b) →
      SameBag (cut c (events_with f a)) (cut c (events_with f b))
  cut_with c a b same =
      record { weigh = λ w. cut-with-total w c a ∙ (same.weigh (λ x. w (event_with f x)) ∙ sym (cut-with-total w c b)) }

  rises_with : (r : ℕ) (h : List Edge) → Rises r h → Rises r (edges_with f h)
  rises_with r [] k = tt
  rises_with r (x ∷ h) k = (k.0, rises_with (rank x) h k.1)

  pub stands_with : (c : ℕ) (h : List Edge) (es : List CellEvent) → StandsBelow c h es →
      StandsBelow c (edges_with f h) (events_with f es)
  stands_with c h es k =
      stands_from_events c (edges_with f h) (events_with f (of h)) (events_with f es) (rises_with 0 h k.history.order)
      (total-map (λ x. cond {A = ℕ} (is_real x) 0 1) (edge_with f) h ∙ k.history.real)
      (total-map (λ x. cond {A = ℕ} (is_below c x) 0 1) (edge_with f) h ∙ k.below)
      (events_of_with h (of h) (events_of_are h k.history)) (cut_with c (of h) es k.same)

-- edges in any order: those below c, in order, stand for the events of all
pub paired_same : (h k : List Edge) → SameBag h k → IsPaired h → IsPaired k
paired_same h k same paired cells start =
    let p = paired cells start in
    let a = same.weigh (λ x. cond (ends_it cells start x) 1 0) in
    let b = same.weigh (λ x. cond (starts_it cells start x) 1 0) in
    omega (arith, p, a, b)

pub stands_same_edges : (c : ℕ) (h k : List Edge) (es : List CellEvent) → SameBag h k → StandsFor c h es →
    StandsFor c k es
stands_same_edges c h k es same stands = stands_by_weight c k es (λ w.
    let a = weight_of_standing c h es stands w in
    let b = same.weigh (loss w c) in
    let g = same.weigh (gain w c) in
    omega (arith, a, b, g))

pub history_same : (h k : List Edge) → SameBag h k → Rises 0 k → failing is_real h ≡ 0 → IsPaired h → IsHistory k
history_same h k same order real paired = record {
  order = order;
  real = failing-same is_real k h (SameBag-sym h k same) real;
  paired = paired_same h k same paired;
}

pub stands_below_same_edges : (c : ℕ) (h k : List Edge) (es : List CellEvent) → SameBag h k → Rises 0 k →
    StandsBelow c h es → StandsBelow c k es
stands_below_same_edges c h k es same order stands =
    let hist = history_same h k same order stands.history.real stands.history.paired in
    record {
      history = hist;
      below = failing-same (is_below c) k h (SameBag-sym h k same) stands.below;
      same = (stands_plain c k es hist).0
          (stands_same_edges c h k es same ((stands_plain c h es stands.history).1 stands.same));
    }

pub stands_in_any_order : (c : ℕ) (h sorted : List Edge) (a : List CellEvent) → c ≤ inf → failing is_real h ≡ 0 →
    AreEventsOf h a →
    Rises 0 sorted → SameBag sorted (filter (is_below c) h) → StandsBelow c sorted a
stands_in_any_order c h sorted a high real are order same =
    let back = SameBag-sym sorted (filter (is_below c) h) same in
    let hist = history_same (filter (is_below c) h) sorted back order (failing-filter (is_below c) is_real h real)
    (paired_below c h (paired_from_events h a real are)) in
    record {
      history = hist;
      below = failing-same (is_below c) sorted (filter (is_below c) h) same (failing-kept (is_below c) h);
      same = (stands_plain c sorted a hist).0
          (stands_same_edges c (filter (is_below c) h) sorted a back
          (stands_cut c h a high real (stands_for_own c h a are)));
    }
