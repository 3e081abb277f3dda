-- What is kept of the events of a list of edges while the list grows.
use Rattle.std.specs.Prelude.{◌≡◌, ℕ, ◌+◌, ◌<◌, ◌≤◌, ◌&&◌, not, Bool, true, false, cond, List, [], ◌∷◌, ◌++◌, map, filter, flat_map, refl}
use Rattle.std.proofs.Common.{◌∙◌, sym, ap, arith}
use Rattle.std.proofs.lemmas.Bool.Decides.{nat_tests}
use Rattle.tw_rows.specs.Bag.{SameBag, total}
use Rattle.tw_rows.specs.Instant.{inf}
use Rattle.tw_rows.specs.Event.{AreEvents, cut_one, cut}
use Rattle.tw_rows.specs.declared.cells.Datum.{Datum}
use Rattle.tw_rows.specs.declared.edge.Edge.{Edge}
use Rattle.tw_rows.proofs.Bags.{total-append, total-map, total-flat_map, total_same, total-add, total-filter, total_zero}
use Rattle.edge_history.specs.Order.{is_end, failing, is_real, is_from, ends_it, starts_it, IsPaired, IsHistory}
use Rattle.edge_history.specs.History.{CellEvent, is_open, begun_one, begun, end_all, of}
use Rattle.edge_history.specs.Balance.{given, taken, AreEventsOf}
use Rattle.edge_history.specs.Side.{reaches, Retains}
use Rattle.edge_history.proofs.Sums.{sum_eq, failing-both, failing-parts}
use Rattle.edge_history.proofs.Ending.{took, gave, end_all_weighs}
use Rattle.edge_history.proofs.Telling.{is_event}

-- one edge
taken_one : (w : CellEvent → ℕ) (x : Edge) → total w (taken x) ≡ took w x
taken_one w x = grind arith

pub took_open : (cells : List Datum) (start : ℕ) (x : Edge) →
    total (λ e. cond (is_open cells start e) 1 0) (taken x) ≡ cond {A = ℕ} (ends_it cells start x) 1 0
took_open cells start x = grind (arith, nat_tests)

given_open : (cells : List Datum) (start c : ℕ) (x : Edge) → c ≤ inf → is_real x ≡ true →
    cond {A = ℕ} (reaches c (given x)) (cond (is_open cells start (given x)) 1 0) 0 ≡ cond (starts_it cells start x) 1 0
given_open cells start c x high k = grind (arith, nat_tests)

pub begun_open : (cells : List Datum) (start : ℕ) (x : Edge) → is_real x ≡ true →
    cond {A = ℕ} (not (is_end x)) (cond (is_open cells start (begun_one x)) 1 0) 0 ≡ cond (starts_it cells start x) 1 0
begun_open cells start x k = grind (arith, nat_tests)

new_one : (w : CellEvent → ℕ) (c : ℕ) (x : Edge) → (is_real x && is_from c x) ≡ true →
    cond {A = ℕ} (reaches c (given x)) (w (given x)) 0 ≡ cond (not (is_end x)) (w (begun_one x)) 0 + gave w x
new_one w c x k = grind (arith, nat_tests)

pub begun-total : (w : CellEvent → ℕ) (h : List Edge) →
    total w (begun h) ≡ total (λ x. cond (not (is_end x)) (w (begun_one x)) 0) h
begun-total w h =
    total-map w begun_one (filter (λ x. not (is_end x)) h) ∙ total-filter (λ x. w (begun_one x)) (λ x. not (is_end x)) h

held-total : (w : CellEvent → ℕ) (c : ℕ) (h : List Edge) →
    total w (filter (reaches c) (map given h)) ≡ total (λ x. cond (reaches c (given x)) (w (given x)) 0) h
held-total w c h = total-filter w (reaches c) (map given h) ∙ total-map (λ e. cond (reaches c e) (w e) 0) given h

pub left-total : (w : CellEvent → ℕ) (es : List CellEvent) (h : List Edge) →
    total w (es ++ flat_map taken h) ≡ total w es + total (λ x. total w (taken x)) h
left-total w es h = total-append w es (flat_map taken h) ∙ ap (λ n. total w es + n) (total-flat_map w taken h)

-- the new edges come in
pub retain_more : (c : ℕ) (es : List CellEvent) (h new : List Edge) → c ≤ inf → Retains c es h →
    failing is_real (h ++ new) ≡ 0 → IsPaired (h ++ new) → failing (is_from c) new ≡ 0 →
    Retains c (end_all new (es ++ begun new)) (h ++ new)
retain_more c es h new high k real paired from =
    let rh = (failing-parts is_real h new real).0 in
    let rn = (failing-parts is_real h new real).1 in
    record {
      weigh = λ w.
          let main = end_all_weighs w new (es ++ begun new) rn (λ cells start.
          let o : CellEvent → ℕ = λ e. cond (is_open cells start e) 1 0 in
          let a = k.weigh o in
          let a1 = left-total o es h in
          let a2 = held-total o c h in
          let b1 = total_same (λ x. total o (taken x)) (λ x. cond (ends_it cells start x) 1 0) h
          (took_open cells start) in
          let b2 = sum_eq is_real _ (λ x. cond (starts_it cells start x) 1 0) h
          (λ x p. given_open cells start c x high p) rh in
          let d1 = begun-total o new in
          let d2 = sum_eq is_real _ (λ x. cond (starts_it cells start x) 1 0) new
          (λ x p. begun_open cells start x p) rn in
          let d3 = total-append o es (begun new) in
          let p = paired cells start in
          let p1 = total-append (λ x. cond {A = ℕ} (ends_it cells start x) 1 0) h new in
          let p2 = total-append (λ x. cond {A = ℕ} (starts_it cells start x) 1 0) h new in
          omega (arith, a, a1, a2, b1, b2, d1, d2, d3, p, p1, p2)) in
          let e1 = left-total w (end_all new (es ++ begun new)) (h ++ new) in
          let e2 = total-append (λ x. total w (taken x)) h new in
          let e3 = total_same (λ x. total w (taken x)) (took w) new (taken_one w) in
          let f1 = total-append w es (begun new) in
          let f2 = begun-total w new in
          let g1 = k.weigh w in
          let g2 = left-total w es h in
          let g3 = held-total w c h in
          let i1 = held-total w c (h ++ new) in
          let i2 = total-append (λ x. cond (reaches c (given x)) (w (given x)) 0) h new in
          let j1 = sum_eq (λ x. is_real x && is_from c x) _ (λ x. cond (not (is_end x)) (w (begun_one x)) 0 + gave w x)
          new (λ x p. new_one w c x p) (failing-both is_real (is_from c) new rn from) in
          let j2 = total-add (λ x. cond (not (is_end x)) (w (begun_one x)) 0) (gave w) new in
          omega (arith, main, e1, e2, e3, f1, f2, g1, g2, g3, i1, i2, j1, j2);
    }

-- an open event is retained at every time
taken_reaches : (w : CellEvent → ℕ) (c : ℕ) (x : Edge) → c ≤ inf →
    total (λ e. cond (reaches c e) (w e) 0) (taken x) ≡ total w (taken x)
taken_reaches w c x high = grind (arith, nat_tests)

twice : (w : CellEvent → ℕ) (c d : ℕ) (e : CellEvent) → c ≤ d →
    cond {A = ℕ} (reaches c e) (cond (reaches d e) (w e) 0) 0 ≡ cond (reaches d e) (w e) 0
twice w c d e low = grind (arith, nat_tests)

pub retain_less : (c d : ℕ) (es : List CellEvent) (h : List Edge) → c ≤ d → d ≤ inf → Retains c es h →
    Retains d (filter (reaches d) es) h
retain_less c d es h low high k = record {
  weigh = λ w.
      let v : CellEvent → ℕ = λ e. cond (reaches d e) (w e) 0 in
      let a = k.weigh v in
      let a1 = left-total v es h in
      let a2 = held-total v c h in
      let b1 = left-total w (filter (reaches d) es) h in
      let b2 = held-total w d h in
      let e = total-filter w (reaches d) es in
      let t = total_same _ (λ x. total w (taken x)) h (λ x. taken_reaches w d x high) in
      let g = total_same _ (λ x. cond (reaches d (given x)) (w (given x)) 0) h (λ x. twice w c d (given x) low) in
      omega (arith, a, a1, a2, b1, b2, e, t, g);
}

-- what is retained are the events that do not end before
pub retained : (c : ℕ) (es : List CellEvent) (h : List Edge) (a : List CellEvent) → c ≤ inf → Retains c es h →
    AreEventsOf h a → SameBag es (filter (reaches c) a)
retained c es h a high k are = record {
  weigh = λ w.
      let v : CellEvent → ℕ = λ e. cond (reaches c e) (w e) 0 in
      let o = are.weigh v in
      let o1 = left-total v a h in
      let o2 = total-map v given h in
      let b = k.weigh w in
      let b1 = left-total w es h in
      let b2 = held-total w c h in
      let e = total-filter w (reaches c) a in
      let t = total_same _ (λ x. total w (taken x)) h (λ x. taken_reaches w c x high) in
      omega (arith, o, o1, o2, b, b1, b2, e, t);
}

-- and the other way round
pub retains_from : (c : ℕ) (es : List CellEvent) (h : List Edge) (a : List CellEvent) → c ≤ inf → AreEventsOf h a →
    SameBag es (filter (reaches c) a) → Retains c es h
retains_from c es h a high are same = record {
  weigh = λ w.
      let v : CellEvent → ℕ = λ e. cond (reaches c e) (w e) 0 in
      let o = are.weigh v in
      let o1 = left-total v a h in
      let o2 = total-map v given h in
      let b = same.weigh w in
      let b1 = left-total w es h in
      let b2 = held-total w c h in
      let e = total-filter w (reaches c) a in
      let t = total_same _ (λ x. total w (taken x)) h (λ x. taken_reaches w c x high) in
      omega (arith, o, o1, o2, b, b1, b2, e, t);
}

-- each event is retained at 0
reaches_all : (w : CellEvent → ℕ) (x : CellEvent) → cond {A = ℕ} (reaches 0 x) (w x) 0 ≡ w x
reaches_all w x = grind (arith, nat_tests)

zero_filter : (h : List Edge) → SameBag (filter (reaches 0) (map given h)) (map given h)
zero_filter h = record {
  weigh = λ w.
      let b = held-total w 0 h in
      let c = total-map w given h in
      let d = total_same _ (λ x. w (given x)) h (λ x. reaches_all w (given x)) in
      omega (arith, b, c, d);
}

pub retain_all : (h : List Edge) (es : List CellEvent) → AreEventsOf h es → Retains 0 es h
retain_all h es are = record { weigh = λ w. are.weigh w ∙ sym ((zero_filter h).weigh w) }

pub all_retained : (h : List Edge) (es : List CellEvent) → Retains 0 es h → AreEventsOf h es
all_retained h es k = record { weigh = λ w. k.weigh w ∙ (zero_filter h).weigh w }

pub from_zero : (h : List Edge) → failing (is_from 0) h ≡ 0
from_zero h =
    total_same _ (λ x. 0) h (λ x. (let e : cond {A = ℕ} (is_from 0 x) 0 1 ≡ 0 = grind (arith, nat_tests) in e))
    ∙ total_zero h

-- the events of a longer list, and of a whole one
pub events_more : (h new : List Edge) (a : List CellEvent) → failing is_real (h ++ new) ≡ 0 → IsPaired (h ++ new) →
    AreEventsOf h a → AreEventsOf (h ++ new) (end_all new (a ++ begun new))
events_more h new a real paired are =
    all_retained (h ++ new) (end_all new (a ++ begun new))
    (retain_more 0 a h new (omega arith) (retain_all h a are) real paired (from_zero new))

pub events_of_are : (h : List Edge) → IsHistory h → AreEventsOf h (of h)
events_of_are h k = events_more [] h [] k.real k.paired (record { weigh = λ w. refl })

-- the events of a list are determined
pub events_unique : (h : List Edge) (a b : List CellEvent) → AreEventsOf h a → AreEventsOf h b → SameBag a b
events_unique h a b k l = record {
  weigh = λ w.
      let e = k.weigh w in
      let f = l.weigh w in
      let g = left-total w a h in
      let i = left-total w b h in
      omega (arith, e, f, g, i);
}

-- the events of a history are events
given_valid : (x : Edge) → is_real x ≡ true → cond {A = ℕ} (is_event (given x)) 0 1 ≡ 0
given_valid x k = grind (arith, nat_tests)

pub valid_from : (h : List Edge) (a : List CellEvent) → failing is_real h ≡ 0 → AreEventsOf h a → failing is_event a ≡ 0
valid_from h a real are =
    let v : CellEvent → ℕ = λ e. cond (is_event e) 0 1 in
    let o = are.weigh v in
    let o1 = left-total v a h in
    let o2 = total-map v given h in
    let z = sum_eq is_real (λ x. v (given x)) (λ x. 0) h (λ x k. given_valid x k) real in
    let n = total_zero h in
    omega (arith, o, o1, o2, z, n)

event_parts : (e : CellEvent) → is_event e ≡ true → (e.start < e.end) × (e.end ≤ inf)
event_parts e k = grind (arith, nat_tests)

parts_event : (e : CellEvent) → e.start < e.end → e.end ≤ inf → is_event e ≡ true
parts_event e a b = grind (arith, nat_tests)

pub AreEvents-from : (es : List CellEvent) → failing is_event es ≡ 0 → AreEvents es
AreEvents-from [] h = tt
AreEvents-from (e ∷ es) h = pick (is_event e) refl (λ n. AreEvents-from es n)
  where
    pick : (b : Bool) → is_event e ≡ b → (failing is_event es ≡ 0 → AreEvents es) → AreEvents (e ∷ es)
    pick true k rest =
        let z = ap (λ c. cond {A = ℕ} c 0 1) k in
        let p = event_parts e k in
        (p.0, p.1, rest (omega (arith, h, z)))
    pick false k rest = let z = ap (λ c. cond {A = ℕ} c 0 1) k in absurd (omega (arith, h, z))

pub AreEvents-none_fails : (es : List CellEvent) → AreEvents es → failing is_event es ≡ 0
AreEvents-none_fails [] h = refl
AreEvents-none_fails (e ∷ es) h =
    let z = ap (λ c. cond {A = ℕ} c 0 1) (parts_event e h.0 h.1) in
    let r = AreEvents-none_fails es h.2 in
    omega (arith, z, r)

-- what comes in from c on changes nothing below
new_silent : (w : CellEvent → ℕ) (c : ℕ) (x : Edge) → c ≤ inf → (is_real x && is_from c x) ≡ true →
    total (λ e. total w (cut_one c e)) (taken x) ≡ total w (cut_one c (given x))
new_silent w c x high k = grind (arith, nat_tests)

pub same_below : (c : ℕ) (h new : List Edge) (a b : List CellEvent) → c ≤ inf → failing is_real new ≡ 0 →
    failing (is_from c) new ≡ 0 → AreEventsOf h a → AreEventsOf (h ++ new) b → SameBag (cut c a) (cut c b)
same_below c h new a b high real from of_a of_b = record {
  weigh = λ w.
      let v : CellEvent → ℕ = λ e. total w (cut_one c e) in
      let a0 = of_a.weigh v in
      let a1 = left-total v a h in
      let a2 = total-map v given h in
      let b0 = of_b.weigh v in
      let b1 = left-total v b (h ++ new) in
      let b2 = total-map v given (h ++ new) in
      let b3 = total-append (λ x. total v (taken x)) h new in
      let b4 = total-append (λ x. v (given x)) h new in
      let n = sum_eq (λ x. is_real x && is_from c x) (λ x. total v (taken x)) (λ x. v (given x)) new
      (λ x k. new_silent w c x high k) (failing-both is_real (is_from c) new real from) in
      let c1 = total-flat_map w (cut_one c) a in
      let c2 = total-flat_map w (cut_one c) b in
      omega (arith, a0, a1, a2, b0, b1, b2, b3, b4, n, c1, c2);
}
