-- What is kept of the events that pass a test, while the list grows.
use Rattle.std.specs.Prelude.{◌≡◌, ℕ, ◌+◌, ◌<◌, ◌≤◌, ◌&&◌, nat_le, not, Bool, true, false, cond}
use Rattle.std.specs.Prelude.{List, [], ◌∷◌, ◌++◌, filter, refl}
use Rattle.std.proofs.Common.{inl, inr, ◌∙◌, ap, arith}
use Rattle.std.proofs.lemmas.Bool.Decides.{nat_tests}
use Rattle.std.proofs.lemmas.Bool.{cases_lt, le-leb}
use Rattle.tw_rows.specs.Bag.{SameBag, total}
use Rattle.tw_rows.specs.Instant.{inf}
use Rattle.tw_rows.specs.declared.cells.Datum.{Datum}
use Rattle.tw_rows.specs.declared.edge.Edge.{Edge}
use Rattle.tw_rows.proofs.Bags.{total-append, total-map, total_same, total-add, total-filter, total_zero}
use Rattle.edge_history.specs.Order.{is_end, failing, many, is_real, is_from, ends_it, starts_it, IsPaired}
use Rattle.edge_history.specs.History.{CellEvent, is_open, begun_one, ended, end_step, end_all, begun}
use Rattle.edge_history.specs.Balance.{given, taken, AreEventsOf}
use Rattle.edge_history.specs.Side.{reaches, DependsOnNoEnd}
use Rattle.edge_history.proofs.Sums.{sum_eq, failing-both, failing-parts}
use Rattle.edge_history.proofs.Ending.{open_is, ended_weighs, took, gave, opened, closed, self_counts, real_low}
use Rattle.edge_history.proofs.Retaining.{begun-total, left-total, took_open, begun_open}
use Rattle.edge_history.proofs.Made.{given_opens}

abbrev open_of : Edge → CellEvent
open_of x = record { row = x.cells; start = x.other; end = inf }

absent_end : (x : Edge) (es : List CellEvent) → many (is_open x.cells x.other) es ≡ 0 → ended x es ≡ es
absent_end x [] h = refl
absent_end x (e ∷ es) h = pick (is_open x.cells x.other e) refl (absent_end x es)
  where
    pick : (b : Bool) → is_open x.cells x.other e ≡ b → (many (is_open x.cells x.other) es ≡ 0 → ended x es ≡ es) →
        cond b (record { row = e.row; start = e.start; end = x.sync } ∷ es) (e ∷ ended x es) ≡ e ∷ es
    pick true k r = let z = ap (λ b. cond {A = ℕ} b 1 0) k in absurd (omega (arith, h, z))
    pick false k r = let z = ap (λ b. cond {A = ℕ} b 1 0) k in ap (λ l. e ∷ l) (r (omega (arith, h, z)))

-- one edge, where open events that fail q are not held
step_if : (q : CellEvent → Bool) (w : CellEvent → ℕ) (x : Edge) (es : List CellEvent) →
    (q (open_of x) ≡ true → is_end x ≡ true → 0 < many (is_open x.cells x.other) es) →
    (q (open_of x) ≡ false → many (is_open x.cells x.other) es ≡ 0) →
    total w (end_step x es) + cond (q (open_of x)) (took w x) 0 ≡ total w es + cond (q (open_of x)) (gave w x) 0
step_if q w x es some none = pick (is_end x) refl (q (open_of x)) refl
  where
    pick : (b : Bool) → is_end x ≡ b → (c : Bool) → q (open_of x) ≡ c →
        total w (cond b (ended x es) es) + cond c (cond b (w (open_of x)) 0) 0
        ≡ total w es + cond c (cond b (w (record { row = x.cells; start = x.other; end = x.sync })) 0) 0
    pick true k true l = ended_weighs w x es (some l k)
    pick true k false l = ap (λ e. total w e + 0) (absent_end x es (none l))
    pick false k true l = refl
    pick false k false l = refl

end_all_if : (q : CellEvent → Bool) (w : CellEvent → ℕ) (xs : List Edge) (es : List CellEvent) →
    failing is_real xs ≡ 0 →
    ((cells : List Datum) (start : ℕ) → q (record { row = cells; start = start; end = inf }) ≡ true →
    many (ends_it cells start) xs ≤ many (is_open cells start) es) →
    ((cells : List Datum) (start : ℕ) → q (record { row = cells; start = start; end = inf }) ≡ false →
    many (is_open cells start) es ≡ 0) →
    total w (end_all xs es) + total (λ x. cond (q (open_of x)) (took w x) 0) xs
    ≡ total w es + total (λ x. cond (q (open_of x)) (gave w x) 0) xs
end_all_if q w [] es real enough none = refl
end_all_if q w (x ∷ xs) es real enough none = pick (is_real x) refl (λ n a b. end_all_if q w xs (end_step x es) n a b)
  where
    some : q (open_of x) ≡ true → is_end x ≡ true → 0 < many (is_open x.cells x.other) es
    some l k = let a = enough x.cells x.other l in let b = self_counts x k in omega (arith, a, b)

    step : (v : CellEvent → ℕ) →
        total v (end_step x es) + cond (q (open_of x)) (took v x) 0 ≡ total v es + cond (q (open_of x)) (gave v x) 0
    step v = step_if q v x es some (none x.cells x.other)

    held_le : (b : Bool) (n : ℕ) → cond b n 0 ≤ n
    held_le true n = omega arith
    held_le false n = omega arith

    pick : (b : Bool) → is_real x ≡ b →
        (failing is_real xs ≡ 0 →
        ((cells : List Datum) (start : ℕ) → q (record { row = cells; start = start; end = inf }) ≡ true →
        many (ends_it cells start) xs ≤ many (is_open cells start) (end_step x es)) →
        ((cells : List Datum) (start : ℕ) → q (record { row = cells; start = start; end = inf }) ≡ false →
        many (is_open cells start) (end_step x es) ≡ 0) →
        total w (end_all xs (end_step x es)) + total (λ x. cond (q (open_of x)) (took w x) 0) xs
        ≡ total w (end_step x es) + total (λ x. cond (q (open_of x)) (gave w x) 0) xs) →
        total w (end_all (x ∷ xs) es) + total (λ x. cond (q (open_of x)) (took w x) 0) (x ∷ xs)
        ≡ total w es + total (λ x. cond (q (open_of x)) (gave w x) 0) (x ∷ xs)
    pick true k rest =
        let z = ap (λ c. cond {A = ℕ} c 0 1) k in
        let now = step w in
        let later = rest (omega (arith, real, z))
        (λ cells start l.
        let a = enough cells start l in
        let b = step (λ e. cond (is_open cells start e) 1 0) in
        let c = opened cells start x in
        let d = held_le (q (open_of x)) (took (λ e. cond (is_open cells start e) 1 0) x) in
        omega (arith, a, b, c, d))
        (λ cells start l.
        let a = none cells start l in
        let b = step (λ e. cond (is_open cells start e) 1 0) in
        let c = closed cells start x (real_low x k) in
        let d = held_le (q (open_of x)) (gave (λ e. cond (is_open cells start e) 1 0) x) in
        omega (arith, a, b, c, d)) in
        omega (arith, now, later)
    pick false k rest = let z = ap (λ c. cond {A = ℕ} c 0 1) k in absurd (omega (arith, real, z))

-- per edge
abbrev kept_if : (CellEvent → Bool) → ℕ → (CellEvent → ℕ) → CellEvent → ℕ
kept_if q c w e = cond (reaches c e && q e) (w e) 0

taken_if : (q : CellEvent → Bool) (c : ℕ) (w : CellEvent → ℕ) (x : Edge) → c ≤ inf →
    total (kept_if q c w) (taken x) ≡ cond (q (open_of x)) (took w x) 0
taken_if q c w x high = grind (arith, nat_tests)

new_if : (q : CellEvent → Bool) (c : ℕ) (w : CellEvent → ℕ) (x : Edge) → DependsOnNoEnd q →
    ((e : CellEvent) → nat_le c e.start ≡ true → q e ≡ true) → (is_real x && is_from c x) ≡ true →
    kept_if q c w (given x) ≡ cond (not (is_end x)) (w (begun_one x)) 0 + cond (q (open_of x)) (gave w x) 0
new_if q c w x no_end fresh k = pick (is_end x) refl
  where
    ended_case : (b : Bool) → q (open_of x) ≡ b → is_end x ≡ true →
        kept_if q c w (given x) ≡ cond (not (is_end x)) (w (begun_one x)) 0 + cond b (gave w x) 0
    ended_case b l h =
        let e : q (record { row = x.cells; start = x.other; end = x.sync }) ≡ b =
        no_end x.cells x.other x.sync inf ∙ l in
        grind (arith, nat_tests)

    begun_case : is_end x ≡ false →
        kept_if q c w (given x) ≡ cond (not (is_end x)) (w (begun_one x)) 0 + cond (q (open_of x)) (gave w x) 0
    begun_case h =
        let e : q (record { row = x.cells; start = x.sync; end = x.other }) ≡ true =
        fresh (record { row = x.cells; start = x.sync; end = x.other }) (grind (arith, nat_tests)) in
        let z = drop (q (open_of x)) in
        grind (arith, nat_tests)
      where
        drop : (b : Bool) → cond {A = ℕ} b 0 0 ≡ 0
        drop true = refl
        drop false = refl

    pick : (b : Bool) → is_end x ≡ b →
        kept_if q c w (given x) ≡ cond (not (is_end x)) (w (begun_one x)) 0 + cond (q (open_of x)) (gave w x) 0
    pick true h = ended_case (q (open_of x)) refl h
    pick false h = begun_case h

kept_open : (q : CellEvent → Bool) (c : ℕ) (cells : List Datum) (start : ℕ) (e : CellEvent) → c ≤ inf →
    q (record { row = cells; start = start; end = inf }) ≡ true →
    kept_if q c (λ e. cond (is_open cells start e) 1 0) e ≡ cond (is_open cells start e) 1 0
kept_open q c cells start e high l = pick (is_open cells start e) refl
  where
    low : (c : ℕ) → c ≤ inf → nat_le c inf ≡ true
    low c h = grind (arith, nat_tests)

    pick : (b : Bool) → is_open cells start e ≡ b → cond {A = ℕ} (reaches c e && q e) (cond b 1 0) 0 ≡ cond b 1 0
    pick true k = let s = open_is cells start e k in rw (ap (reaches c) s ∙ low c high, ap q s ∙ l) refl
    pick false k = zero (reaches c e && q e)
      where
        zero : (b : Bool) → cond {A = ℕ} b 0 0 ≡ 0
        zero true = refl
        zero false = refl

kept_shut : (q : CellEvent → Bool) (c : ℕ) (cells : List Datum) (start : ℕ) (e : CellEvent) →
    q (record { row = cells; start = start; end = inf }) ≡ false →
    kept_if q c (λ e. cond (is_open cells start e) 1 0) e ≡ 0
kept_shut q c cells start e l = pick (is_open cells start e) refl
  where
    and_false : (a : Bool) → (a && false) ≡ false
    and_false true = refl
    and_false false = refl

    pick : (b : Bool) → is_open cells start e ≡ b → cond {A = ℕ} (reaches c e && q e) (cond b 1 0) 0 ≡ 0
    pick true k = let s = open_is cells start e k in rw (ap q s ∙ l, and_false (reaches c e)) refl
    pick false k = zero (reaches c e && q e)
      where
        zero : (b : Bool) → cond {A = ℕ} b 0 0 ≡ 0
        zero true = refl
        zero false = refl

begun_late : (cells : List Datum) (start c : ℕ) (x : Edge) → start < c → (is_real x && is_from c x) ≡ true →
    cond {A = ℕ} (not (is_end x)) (cond (is_open cells start (begun_one x)) 1 0) 0 ≡ 0
begun_late cells start c x low k = grind (arith, nat_tests)

-- the new edges come in, where only events that pass q are held: q depends on no end, and passes what starts at c or
-- later
pub absorb_if : (q : CellEvent → Bool) (c : ℕ) (es : List CellEvent) (h new : List Edge) (a a' : List CellEvent) →
    c ≤ inf → DependsOnNoEnd q → ((e : CellEvent) → nat_le c e.start ≡ true → q e ≡ true) →
    SameBag es (filter (λ e. reaches c e && q e) a) → AreEventsOf h a → AreEventsOf (h ++ new) a' →
    failing is_real (h ++ new) ≡ 0 → IsPaired (h ++ new) → failing (is_from c) new ≡ 0 →
    SameBag (end_all new (es ++ begun new)) (filter (λ e. reaches c e && q e) a')
absorb_if q c es h new a a' high no_end fresh held are are' real paired from =
    let rh = (failing-parts is_real h new real).0 in
    let rn = (failing-parts is_real h new real).1 in
    let late = failing-both is_real (is_from c) new rn from in
    record {
      weigh = λ w.
          let K = kept_if q c w in
          let main = end_all_if q w new (es ++ begun new) rn
          (λ cells start l.
          let o : CellEvent → ℕ = λ e. cond (is_open cells start e) 1 0 in
          let h0 = held.weigh o
          ∙ (total-filter o (λ e. reaches c e && q e) a
          ∙ total_same _ o a (λ e. kept_open q c cells start e high l)) in
          let f0 = are.weigh o in
          let f1 = left-total o a h in
          let f2 = total-map o given h in
          let b1 = total_same (λ x. total o (taken x)) (λ x. cond (ends_it cells start x) 1 0) h
          (took_open cells start) in
          let b2 = sum_eq is_real _ (λ x. cond (starts_it cells start x) 1 0) h
          (λ x p. given_opens cells start x p) rh in
          let d1 = begun-total o new in
          let d2 = sum_eq is_real _ (λ x. cond (starts_it cells start x) 1 0) new
          (λ x p. begun_open cells start x p) rn in
          let d3 = total-append o es (begun new) in
          let p = paired cells start in
          let p1 = total-append (λ x. cond {A = ℕ} (ends_it cells start x) 1 0) h new in
          let p2 = total-append (λ x. cond {A = ℕ} (starts_it cells start x) 1 0) h new in
          omega (arith, h0, f0, f1, f2, b1, b2, d1, d2, d3, p, p1, p2))
          (λ cells start l.
          let o : CellEvent → ℕ = λ e. cond (is_open cells start e) 1 0 in
          let h0 = held.weigh o
          ∙ (total-filter o (λ e. reaches c e && q e) a
          ∙ (total_same _ (λ e. 0) a (λ e. kept_shut q c cells start e l) ∙ total_zero a)) in
          let d1 = begun-total o new in
          let d2 = sum_eq (λ x. is_real x && is_from c x) _ (λ x. 0) new
          (λ x p. begun_late cells start c x (before cells start l) p) late in
          let d3 = total-append o es (begun new) in
          let z = total_zero new in
          omega (arith, h0, d1, d2, d3, z)) in
          let e1 = total-append w es (begun new) in
          let e2 = begun-total w new in
          let g0 = held.weigh w ∙ total-filter w (λ e. reaches c e && q e) a in
          let o0 = are.weigh K in
          let o1 = left-total K a h in
          let o2 = total-map K given h in
          let n0 = are'.weigh K in
          let n1 = left-total K a' (h ++ new) in
          let n2 = total-map K given (h ++ new) in
          let n3 = total-append (λ x. total K (taken x)) h new in
          let n4 = total-append (λ x. K (given x)) h new in
          let t = total_same (λ x. total K (taken x)) (λ x. cond (q (open_of x)) (took w x) 0) new
          (λ x. taken_if q c w x high) in
          let j1 = sum_eq (λ x. is_real x && is_from c x) (λ x. K (given x))
          (λ x. cond (not (is_end x)) (w (begun_one x)) 0 + cond (q (open_of x)) (gave w x) 0) new
          (λ x p. new_if q c w x no_end fresh p) late in
          let j2 = total-add (λ x. cond (not (is_end x)) (w (begun_one x)) 0)
          (λ x. cond (q (open_of x)) (gave w x) 0) new in
          let r = total-filter w (λ e. reaches c e && q e) a' in
          omega (arith, main, e1, e2, g0, o0, o1, o2, n0, n1, n2, n3, n4, t, j1, j2, r);
    }
  where
    before : (cells : List Datum) (start : ℕ) → q (record { row = cells; start = start; end = inf }) ≡ false → start < c
    before cells start l = elim (cases_lt start c) [
      | inl lt ↦ lt
      | inr ge ↦ absurd (let t : q (record { row = cells; start = start; end = inf })
          ≡ true = fresh (record { row = cells; start = start; end = inf }) (le-leb c start ge) in cc)
    ]
