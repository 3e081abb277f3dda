-- Edges that are held until a time is given: by balance, in no order.
use Rattle.std.specs.Prelude.{◌≡◌, ℕ, ◌+◌, ◌<◌, ◌≤◌, ◌⊎◌, Bool, true, false, cond, List, [], ◌∷◌, ◌++◌, filter, refl}
use Rattle.std.proofs.Common.{sym, ◌∙◌, arith, inl, inr}
use Rattle.std.proofs.lemmas.Bool.{cases_lt}
use Rattle.std.proofs.lemmas.Bool.Decides.{nat_tests}
use Rattle.tw_rows.specs.Instant.{inf}
use Rattle.tw_rows.specs.Bag.{total, SameBag}
use Rattle.tw_rows.specs.SameCells.{same_itself}
use Rattle.tw_rows.specs.declared.cells.Datum.{Datum}
use Rattle.tw_rows.specs.declared.edge.Edge.{Edge}
use Rattle.tw_rows.proofs.Bags.{total-append, total-map, total-filter}
use Rattle.edge_history.specs.Order.{failing, many, is_real, is_below, is_from, starts_it, Rises}
use Rattle.edge_history.specs.History.{CellEvent, StandsBelow, is_open}
use Rattle.edge_history.specs.Balance.{AreEventsOf, given, taken}
use Rattle.edge_history.proofs.Made.{stands_in_any_order, events_same, given_opens}
use Rattle.edge_history.proofs.Retaining.{left-total}
use Rattle.edge_history.proofs.Sums.{sum_eq}
use Rattle.edge_history.proofs.Telling.{order_from}
use Rattle.ingress.specs.Held.{IsHeld, start_of, open_row}

keeps_all : (w : Edge → ℕ) (p : ℕ) (es : List Edge) → failing (is_below p) es ≡ 0 → total w (filter (is_below p) es) ≡ total w es
keeps_all w p [] h = refl
keeps_all w p (e ∷ es) h = go (is_below p e) h (keeps_all w p es)
  where
    go : (b : Bool) → cond b 0 1 + failing (is_below p) es ≡ 0 → (failing (is_below p) es ≡ 0 → total w (filter (is_below p) es) ≡ total w es) → total w (cond b (e ∷ filter (is_below p) es) (filter (is_below p) es)) ≡ w e + total w es
    go true k rest = (let r = rest (omega (arith, k)) in omega (arith, r))
    go false k rest = absurd (omega arith)

keeps_none : (w : Edge → ℕ) (p : ℕ) (es : List Edge) → failing (is_from p) es ≡ 0 → total w (filter (is_below p) es) ≡ 0
keeps_none w p [] h = refl
keeps_none w p (e ∷ es) h = go (cases_lt e.sync p) (keeps_none w p es)
  where
    go : (e.sync < p) ⊎ (p ≤ e.sync) → (failing (is_from p) es ≡ 0 → total w (filter (is_below p) es) ≡ 0) → total w (filter (is_below p) (e ∷ es)) ≡ 0
    go (inl before) rest = absurd (grind (arith, nat_tests))
    go (inr after) rest = (let f = rest (grind (arith, nat_tests)) in grind (arith, nat_tests))

-- the edges given stand for the rows
pub held_stands : (p : ℕ) (told held : List Edge) (rows : List CellEvent) → p ≤ inf → IsHeld p told held rows → StandsBelow p told rows
held_stands p told held rows low h = stands_in_any_order p (told ++ held) told rows low h.real h.events h.order (record {
  weigh = λ w.
      let a = total-filter w (is_below p) (told ++ held) in
      let b = total-append (λ x. cond (is_below p x) (w x) 0) told held in
      let d = sym (total-filter w (is_below p) told) ∙ keeps_all w p told h.below in
      let e = sym (total-filter w (is_below p) held) ∙ keeps_none w p held h.from in
      omega (arith, a, b, d, e);
})

pub none_held : IsHeld 0 [] [] []
none_held = record {
  events = record { weigh = λ w. refl };
  real = refl;
  order = tt;
  below = refl;
  from = refl;
}

passes : {X : Type 0} (test : X → Bool) (x : X) → test x ≡ true → failing test (x ∷ []) ≡ 0
passes test x h = grind arith

module _ (p : ℕ) (told held : List Edge) (rows : List CellEvent) (h : IsHeld p told held rows) where
  -- other edges are held, for other rows
  other_held : (new : List Edge) (after : List CellEvent) → AreEventsOf (told ++ new) after → failing is_real new ≡ 0 → failing (is_from p) new ≡ 0 → IsHeld p told new after
  other_held new after events real from = record {
    events = events;
    real =
        let a = total-append (λ e. cond (is_real e) 0 1) told held in
        let b = total-append (λ e. cond (is_real e) 0 1) told new in
        let c = h.real in
        omega (arith, a, b, c, real);
    order = h.order;
    below = h.below;
    from = from;
  }

  held_real : failing is_real held ≡ 0
  held_real = let a = total-append (λ e. cond (is_real e) 0 1) told held in let c = h.real in omega (arith, a, c)

  pub put_held : (more : List Edge) (e : Edge) (after : List CellEvent) → SameBag more (e ∷ held) → is_real e ≡ true → p ≤ e.sync →
      SameBag (after ++ taken e) (rows ++ given e ∷ []) → IsHeld p told more after
  put_held more e after bag real late new = other_held more after
      (record {
        weigh = λ w.
            let a = h.events.weigh w in
            let b = new.weigh w in
            let a1 = left-total w rows (told ++ held) in
            let a2 = total-map w given (told ++ held) in
            let b1 = left-total w after (told ++ more) in
            let b2 = total-map w given (told ++ more) in
            let c1 = total-append (λ x. total w (taken x)) told held in
            let c2 = total-append (λ x. w (given x)) told held in
            let d1 = total-append (λ x. total w (taken x)) told more in
            let d2 = total-append (λ x. w (given x)) told more in
            let e1 = bag.weigh (λ x. total w (taken x)) in
            let e2 = bag.weigh (λ x. w (given x)) in
            let f1 = total-append w after (taken e) in
            let f2 = total-append w rows (given e ∷ []) in
            omega (arith, a, b, a1, a2, b1, b2, c1, c2, d1, d2, e1, e2, f1, f2);
      })
      (let a = bag.weigh (λ x. cond (is_real x) 0 1) in let b = passes is_real e real in let c = held_real in omega (arith, a, b, c))
      (
      let a = bag.weigh (λ x. cond (is_from p x) 0 1) in
      let b : failing (is_from p) (e ∷ []) ≡ 0 = grind (arith, nat_tests) in
      let c = h.from in
      omega (arith, a, b, c))

  pub out_held : (fewer : List Edge) (cells : List Datum) (start : ℕ) (after : List CellEvent) → start < inf →
      SameBag (start_of cells start ∷ fewer) held → SameBag (open_row cells start ∷ after) rows → IsHeld p told fewer after
  out_held fewer cells start after early bag new = other_held fewer after
      (record {
        weigh = λ w.
            let a = h.events.weigh w in
            let b = new.weigh w in
            let a1 = left-total w rows (told ++ held) in
            let a2 = total-map w given (told ++ held) in
            let b1 = left-total w after (told ++ fewer) in
            let b2 = total-map w given (told ++ fewer) in
            let c1 = total-append (λ x. total w (taken x)) told held in
            let c2 = total-append (λ x. w (given x)) told held in
            let d1 = total-append (λ x. total w (taken x)) told fewer in
            let d2 = total-append (λ x. w (given x)) told fewer in
            let e1 = bag.weigh (λ x. total w (taken x)) in
            let e2 = bag.weigh (λ x. w (given x)) in
            let f1 : total w (taken (start_of cells start)) ≡ 0 = grind (arith, nat_tests) in
            let f2 : w (given (start_of cells start)) ≡ w (open_row cells start) = grind (arith, nat_tests) in
            omega (arith, a, b, a1, a2, b1, b2, c1, c2, d1, d2, e1, e2, f1, f2);
      })
      (let a = bag.weigh (λ x. cond (is_real x) 0 1) in let c = held_real in omega (arith, a, c))
      (let a = bag.weigh (λ x. cond (is_from p x) 0 1) in let c = h.from in omega (arith, a, c))

  pub same_held : (alike : List Edge) (after : List CellEvent) → SameBag alike held → SameBag after rows → IsHeld p told alike after
  same_held alike after bag new = other_held alike after
      (record {
        weigh = λ w.
            let a = h.events.weigh w in
            let b = new.weigh w in
            let a1 = left-total w rows (told ++ held) in
            let a2 = total-map w given (told ++ held) in
            let b1 = left-total w after (told ++ alike) in
            let b2 = total-map w given (told ++ alike) in
            let c1 = total-append (λ x. total w (taken x)) told held in
            let c2 = total-append (λ x. w (given x)) told held in
            let d1 = total-append (λ x. total w (taken x)) told alike in
            let d2 = total-append (λ x. w (given x)) told alike in
            let e1 = bag.weigh (λ x. total w (taken x)) in
            let e2 = bag.weigh (λ x. w (given x)) in
            omega (arith, a, b, a1, a2, b1, b2, c1, c2, d1, d2, e1, e2);
      })
      (let a = bag.weigh (λ x. cond (is_real x) 0 1) in let c = held_real in omega (arith, a, c))
      (let a = bag.weigh (λ x. cond (is_from p x) 0 1) in let c = h.from in omega (arith, a, c))

no_start_below : (p : ℕ) (cells : List Datum) (start : ℕ) (es : List Edge) → p ≤ start → failing (is_below p) es ≡ 0 → many (starts_it cells start) es ≡ 0
no_start_below p cells start [] low h = refl
no_start_below p cells start (e ∷ es) low h =
    let rest = no_start_below p cells start es low in grind (arith, nat_tests)

-- the start edge of an open row that is not below p is held
pub start_held : (p : ℕ) (told held : List Edge) (cells : List Datum) (start : ℕ) (rows others : List CellEvent) →
    p ≤ start → IsHeld p told held rows → SameBag (open_row cells start ∷ others) rows → many (starts_it cells start) held ≡ 0 → ⊥
start_held p told held cells start rows others low h bag none =
    let o : CellEvent → ℕ = λ e. cond (is_open cells start e) 1 0 in
    let a = h.events.weigh o in
    let b = bag.weigh o in
    let c = left-total o rows (told ++ held) in
    let d = total-map o given (told ++ held) in
    let e = sum_eq is_real (λ x. o (given x)) (λ x. cond (starts_it cells start x) 1 0) (told ++ held) (λ x k. given_opens cells start x k) h.real in
    let f = total-append (λ x. cond (starts_it cells start x) 1 0) told held in
    let g = no_start_below p cells start told low h.below in
    let s = same_itself cells in
    let i : o (open_row cells start) ≡ 1 = grind (arith, nat_tests) in
    omega (arith, a, b, c, d, e, f, g, i, none)

below_more : (p q : ℕ) (es : List Edge) → p ≤ q → failing (is_below p) es ≡ 0 → failing (is_below q) es ≡ 0
below_more p q [] le h = refl
below_more p q (e ∷ es) le h = let rest = below_more p q es le in grind (arith, nat_tests)

-- at a punctuation
pub given_held : (p q : ℕ) (told held out rest : List Edge) (rows : List CellEvent) → p ≤ q → IsHeld p told held rows → SameBag held (out ++ rest) →
    Rises 0 out → failing (is_below q) out ≡ 0 → failing (is_from q) rest ≡ 0 → IsHeld q (told ++ out) rest rows
given_held p q told held out rest rows le h bag order below from = record {
  events = events_same (told ++ held) ((told ++ out) ++ rest) rows all h.events;
  real = sym (all.weigh (λ e. cond (is_real e) 0 1)) ∙ h.real;
  order = order_from p told out h.below h.order out_from order;
  below =
      let a = total-append (λ e. cond (is_below q e) 0 1) told out in
      let b = below_more p q told le h.below in
      omega (arith, a, b, below);
  from = from;
}
  where
    all : SameBag (told ++ held) ((told ++ out) ++ rest)
    all = record {
      weigh = λ w.
          let a = total-append w told held in
          let b = total-append w (told ++ out) rest in
          let c = total-append w told out in
          let d = bag.weigh w in
          let e = total-append w out rest in
          omega (arith, a, b, c, d, e);
    }

    out_from : failing (is_from p) out ≡ 0
    out_from =
        let a = bag.weigh (λ e. cond (is_from p e) 0 1) in
        let b = total-append (λ e. cond (is_from p e) 0 1) out rest in
        let c = h.from in
        omega (arith, a, b, c)
