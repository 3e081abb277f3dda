-- What putting in and taking out make of what waits.
use Rattle.std.specs.Prelude.{◌≡◌, ℕ, ◌+◌, ◌<◌, ◌≤◌, nat_eq, nat_lt, nat_le, Bool, true, false, cond, List, [], ◌∷◌, ◌++◌, All, refl}
use Rattle.std.proofs.Common.{sym, ◌∙◌, ap, subst, arith}
use Rattle.std.proofs.lemmas.Bool.{eqb-true, eq-eqb}
use Rattle.std.proofs.lemmas.Bool.Decides.{nat_tests}
use Rattle.std.proofs.lemmas.List.Elements.{All-head, All-tail}
use Rattle.tw_rows.specs.Bag.{total}
use Rattle.tw_rows.specs.declared.edge.Edge.{Edge}
use Rattle.tw_rows.proofs.Bags.{total-append, total-map}
use Rattle.edge_history.specs.Order.{failing, is_below, is_from}
use Rattle.end_queue.specs.Pending.{Pending, put_pending, AreDueFrom}
use Rattle.sweep_laws.specs.Sweeps.{SyncsRise}
use Rattle.sweep_sides.specs.Waiting.{queued, AreTimed}

-- an entry that is put in
pub put_weighs : (v : Pending → ℕ) (p : Pending) (q : List Pending) → total v (put_pending p q) ≡ total v q + v p
put_weighs v p [] = omega arith
put_weighs v p (r ∷ q) = go (nat_lt p.at r.at) (put_weighs v p q)
  where
    go : (b : Bool) → total v (put_pending p q) ≡ total v q + v p → total v (cond b (p ∷ r ∷ q) (r ∷ put_pending p q)) ≡ v r + total v q + v p
    go true h = omega arith
    go false h = omega (arith, h)

pub put_queued : (q q2 : List Pending) (t : ℕ) (e : Edge) → q2 ≡ put_pending (record { at = t; edge = e }) q → (w : Edge → ℕ) →
    total w (queued q2) ≡ total w (queued q) + w e
put_queued q q2 t e is w =
    let v : Pending → ℕ = λ p. w p.edge in
    let a = total-map w (λ (p : Pending). p.edge) q in
    let b = total-map w (λ (p : Pending). p.edge) q2 in
    let c = ap (total v) is ∙ put_weighs v (record { at = t; edge = e }) q in
    omega (arith, a, b, c)

pub put_timed : (q q2 : List Pending) (t : ℕ) (e : Edge) → q2 ≡ put_pending (record { at = t; edge = e }) q → t ≡ e.sync → AreTimed q → AreTimed q2
put_timed q q2 t e is at timed =
    let v : Pending → ℕ = λ p. cond (nat_eq p.at p.edge.sync) 0 1 in
    let c = ap (total v) is ∙ put_weighs v (record { at = t; edge = e }) q in
    let d = ap (λ b. cond {A = ℕ} b 0 1) (eq-eqb t e.sync at) in
    omega (arith, c, d, timed)

-- what is taken out so far: nothing of it comes after what waits, and in the order of the syncs
pub record Taking (to : ℕ) (q0 q : List Pending) (due : List Edge) : Type 0 where
  pub time : ℕ
  pub order : AreDueFrom time q
  pub parts : (w : Edge → ℕ) → total w due + total w (queued q) ≡ total w (queued q0)
  pub timed : AreTimed q0 → AreTimed q
  pub early : AreTimed q0 → failing (λ e. nat_le e.sync time) due ≡ 0
  pub below : AreTimed q0 → failing (is_below to) due ≡ 0
  pub rises : AreTimed q0 → SyncsRise 0 due

pub taking_start : (to : ℕ) (q : List Pending) (due : List Edge) → due ≡ [] → AreDueFrom 0 q → Taking to q q due
taking_start to q due none order = record {
  time = 0;
  order = order;
  parts = λ w. let a = ap (total w) none in omega (arith, a);
  timed = λ t. t;
  early = λ t. ap (failing (λ (e : Edge). nat_le e.sync 0)) none;
  below = λ t. ap (failing (is_below to)) none;
  rises = λ t. subst (λ (l : List Edge). SyncsRise 0 l) (sym none) tt;
}

-- the syncs rise with one more that is not below the others
syncs_push : (r : ℕ) (es : List Edge) (x : Edge) → r ≤ x.sync → failing (λ e. nat_le e.sync x.sync) es ≡ 0 → SyncsRise r es → SyncsRise r (es ++ x ∷ [])
syncs_push r [] x low fit up = (low, tt)
syncs_push r (e ∷ es) x low fit up =
    let here : e.sync ≤ x.sync = first (nat_le e.sync x.sync) refl fit in
    (up.0, syncs_push e.sync es x here (rest (nat_le e.sync x.sync) fit) up.1)
  where
    first : (b : Bool) → nat_le e.sync x.sync ≡ b → cond b 0 1 + failing (λ f. nat_le f.sync x.sync) es ≡ 0 → e.sync ≤ x.sync
    first true is h = grind (arith, nat_tests)
    first false is h = absurd (omega (arith, h))

    rest : (b : Bool) → cond b 0 1 + failing (λ f. nat_le f.sync x.sync) es ≡ 0 → failing (λ f. nat_le f.sync x.sync) es ≡ 0
    rest true h = omega (arith, h)
    rest false h = absurd (omega (arith, h))

-- a bound that grows
later_bound : (t u : ℕ) (es : List Edge) → t ≤ u → failing (λ e. nat_le e.sync t) es ≡ 0 → failing (λ e. nat_le e.sync u) es ≡ 0
later_bound t u [] low h = refl
later_bound t u (e ∷ es) low h = go (nat_le e.sync t) refl h (λ g. later_bound t u es low g)
  where
    go : (b : Bool) → nat_le e.sync t ≡ b → cond b 0 1 + failing (λ f. nat_le f.sync t) es ≡ 0 → (failing (λ f. nat_le f.sync t) es ≡ 0 → failing (λ f. nat_le f.sync u) es ≡ 0) →
        cond (nat_le e.sync u) 0 1 + failing (λ f. nat_le f.sync u) es ≡ 0
    go true is h r =
        let le : cond {A = ℕ} (nat_le e.sync u) 0 1 ≡ 0 = grind (arith, nat_tests) in
        let s = r (omega (arith, h)) in
        omega (arith, le, s)
    go false is h r = absurd (omega (arith, h))

pub le_true : (m n : ℕ) → m ≤ n → nat_le m n ≡ true
le_true m n h = grind (arith, nat_tests)

pub lt_true : (m n : ℕ) → m < n → nat_lt m n ≡ true
lt_true m n h = grind (arith, nat_tests)

pub zero_of : (b : Bool) → b ≡ true → ◌≡◌ {A = ℕ} (cond b 0 1) 0
zero_of b h = ap (λ c. cond {A = ℕ} c 0 1) h

pub first_timed : (b : Bool) (n : ℕ) → cond b 0 1 + n ≡ 0 → b ≡ true
first_timed true n h = refl
first_timed false n h = absurd (omega (arith, h))

pub taking_more : (to : ℕ) (q0 q q2 : List Pending) (due due2 : List Edge) (e : Edge) (p : Pending) → p.edge ≡ e → p.at < to → q ≡ p ∷ q2 → due2 ≡ due ++ e ∷ [] →
    Taking to q0 q due → Taking to q0 q2 due2
taking_more to q0 q q2 due due2 e p same low is more k =
    let order : AreDueFrom k.time (p ∷ q2) = subst (λ (l : List Pending). AreDueFrom k.time l) is k.order in
    let at : AreTimed q0 → p.at ≡ e.sync = λ t.
    let h : AreTimed (p ∷ q2) = subst (λ (l : List Pending). AreTimed l) is (k.timed t) in
    eqb-true p.at p.edge.sync (first_timed (nat_eq p.at p.edge.sync) (failing (λ (r : Pending). nat_eq r.at r.edge.sync) q2) h) ∙ ap (λ (f : Edge). f.sync) same in
    record {
      time = p.at;
      order = order.1;
      parts = λ w.
          let a = k.parts w in
          let b = ap (λ (l : List Pending). total w (queued l)) is in
          let c = ap (total w) more ∙ total-append w due (e ∷ []) in
          let d = ap w same in
          omega (arith, a, b, c, d);
      timed = λ t. (let h : AreTimed (p ∷ q2) = subst (λ (l : List Pending). AreTimed l) is (k.timed t) in omega (arith, h));
      early = λ t.
          let f : Edge → ℕ = λ x. cond (nat_le x.sync p.at) 0 1 in
          let a = ap (total f) more ∙ total-append f due (e ∷ []) in
          let b = later_bound k.time p.at due order.0 (k.early t) in
          let s = at t in
          let z = zero_of (nat_le e.sync p.at) (le_true e.sync p.at (omega (arith, s))) in
          omega (arith, a, b, z);
      below = λ t.
          let f : Edge → ℕ = λ x. cond (is_below to x) 0 1 in
          let a = ap (total f) more ∙ total-append f due (e ∷ []) in
          let b = k.below t in
          let s = at t in
          let z = zero_of (nat_lt e.sync to) (lt_true e.sync to (omega (arith, s, low))) in
          omega (arith, a, b, z);
      rises = λ t.
          let s = at t in
          let early = later_bound k.time e.sync due (let o = order.0 in omega (arith, o, s)) (k.early t) in
          subst (λ (l : List Edge). SyncsRise 0 l) (sym more) (syncs_push 0 due e (omega arith) early (k.rises t));
    }

-- what waits on
pub rest_waits : (to : ℕ) (q : List Pending) → All (λ p. to ≤ p.at) q → AreTimed q → failing (is_from to) (queued q) ≡ 0
rest_waits to [] low timed = refl
rest_waits to (p ∷ q) low timed =
    let here = All-head (λ (p : Pending). to ≤ p.at) p q low in
    let s = eqb-true p.at p.edge.sync (first_timed (nat_eq p.at p.edge.sync) (failing (λ (r : Pending). nat_eq r.at r.edge.sync) q) timed) in
    let z = zero_of (nat_le to p.edge.sync) (le_true to p.edge.sync (omega (arith, here, s))) in
    let r = rest_waits to q (All-tail (λ (p : Pending). to ≤ p.at) p q low) (omega (arith, timed)) in
    omega (arith, z, r)
