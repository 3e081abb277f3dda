-- What it weighs that end edges end events.
use Rattle.std.specs.Prelude.{◌≡◌, ℕ, zero, suc, ◌+◌, ◌<◌, ◌≤◌, ◌&&◌, nat_eq, Bool, true, false, cond, List, [], ◌∷◌, ◌++◌, length, get_or, set, refl}
use Rattle.std.proofs.Common.{sym, ap, arith}
use Rattle.std.proofs.lemmas.Bool.Decides.{nat_tests}
use Rattle.std.proofs.lemmas.Bool.{and_parts, eqb-true, lt-ltb}
use Rattle.tw_rows.specs.Bag.{total}
use Rattle.tw_rows.specs.Instant.{inf}
use Rattle.tw_rows.specs.declared.cells.Datum.{Datum}
use Rattle.tw_rows.specs.declared.edge.Edge.{Edge}
use Rattle.tw_rows.specs.SameCells.{same_cells}
use Rattle.edge_history.specs.Order.{is_end, failing, many, is_real, ends_it}
use Rattle.edge_history.specs.History.{CellEvent, is_open, ended, end_step, end_all}
use Rattle.tw_rows.specs.SameCells.{cells_are_same, same_itself}

-- an open event of those cells and that start is that very event
pub open_is : (cells : List Datum) (start : ℕ) (e : CellEvent) → is_open cells start e ≡ true →
    e ≡ record { row = cells; start = start; end = inf }
open_is cells start e k =
    let p = and_parts (same_cells e.row cells) (nat_eq e.start start && nat_eq e.end inf) k in
    let q = and_parts (nat_eq e.start start) (nat_eq e.end inf) p.1 in
    let a : e.row ≡ cells = cells_are_same e.row cells p.0 in
    let b : e.start ≡ start = eqb-true e.start start q.0 in
    let c : e.end ≡ inf = eqb-true e.end inf q.1 in
    λ i. record { row = a i; start = b i; end = c i }

-- one end: what it takes back and what it gives
pub ended_weighs : (w : CellEvent → ℕ) (x : Edge) (es : List CellEvent) → 0 < many (is_open x.cells x.other) es →
    total w (ended x es) + w (record { row = x.cells; start = x.other; end = inf })
    ≡ total w es + w (record { row = x.cells; start = x.other; end = x.sync })
ended_weighs w x [] h = absurd (omega arith)
ended_weighs w x (e ∷ es) h = pick (is_open x.cells x.other e) refl (ended_weighs w x es)
  where
    pick : (b : Bool) → is_open x.cells x.other e ≡ b →
        (0 < many (is_open x.cells x.other) es →
        total w (ended x es) + w (record { row = x.cells; start = x.other; end = inf })
        ≡ total w es + w (record { row = x.cells; start = x.other; end = x.sync })) →
        total w (cond b (record { row = e.row; start = e.start; end = x.sync } ∷ es) (e ∷ ended x es))
        + w (record { row = x.cells; start = x.other; end = inf })
        ≡ total w (e ∷ es) + w (record { row = x.cells; start = x.other; end = x.sync })
    pick true k ih =
        let s = open_is x.cells x.other e k in
        let a = ap w s in
        let b = ap (λ (v : CellEvent). w (record { row = v.row; start = v.start; end = x.sync })) s in
        omega (arith, a, b)
    pick false k ih = let a = ih (let z = ap (λ b. cond {A = ℕ} b 1 0) k in omega (arith, h, z)) in omega (arith, a)

-- what an end edge takes back and gives
abbrev pub took : (CellEvent → ℕ) → Edge → ℕ
took w x = cond (is_end x) (w (record { row = x.cells; start = x.other; end = inf })) 0

abbrev pub gave : (CellEvent → ℕ) → Edge → ℕ
gave w x = cond (is_end x) (w (record { row = x.cells; start = x.other; end = x.sync })) 0

pub opened : (cells : List Datum) (start : ℕ) (x : Edge) →
    took (λ e. cond (is_open cells start e) 1 0) x ≡ cond {A = ℕ} (ends_it cells start x) 1 0
opened cells start x = grind (arith, nat_tests)

pub closed : (cells : List Datum) (start : ℕ) (x : Edge) → x.sync < inf →
    gave (λ e. cond (is_open cells start e) 1 0) x ≡ 0
closed cells start x low = grind (arith, nat_tests)

pub self_counts : (x : Edge) → is_end x ≡ true → cond {A = ℕ} (ends_it x.cells x.other x) 1 0 ≡ 1
self_counts x k = let same = same_itself x.cells in grind (arith, nat_tests, same)

step_weighs : (w : CellEvent → ℕ) (x : Edge) (es : List CellEvent) (n : ℕ) →
    cond {A = ℕ} (ends_it x.cells x.other x) 1 0 + n ≤ many (is_open x.cells x.other) es →
    total w (end_step x es) + took w x ≡ total w es + gave w x
step_weighs w x es n enough = pick (is_end x) refl
  where
    pick : (b : Bool) → is_end x ≡ b →
        total w (cond b (ended x es) es) + cond b (w (record { row = x.cells; start = x.other; end = inf })) 0
        ≡ total w es + cond b (w (record { row = x.cells; start = x.other; end = x.sync })) 0
    pick true k = ended_weighs w x es (let z = self_counts x k in omega (arith, enough, z))
    pick false k = refl

pub real_low : (x : Edge) → is_real x ≡ true → x.sync < inf
real_low x k = grind (arith, nat_tests)

-- all ends, where no more of them name an event than stand open
pub end_all_weighs : (w : CellEvent → ℕ) (xs : List Edge) (es : List CellEvent) → failing is_real xs ≡ 0 →
    ((cells : List Datum) (start : ℕ) → many (ends_it cells start) xs ≤ many (is_open cells start) es) →
    total w (end_all xs es) + total (took w) xs ≡ total w es + total (gave w) xs
end_all_weighs w [] es real enough = refl
end_all_weighs w (x ∷ xs) es real enough = pick (is_real x) refl (λ n m. end_all_weighs w xs (end_step x es) n m)
  where
    pick : (b : Bool) → is_real x ≡ b →
        (failing is_real xs ≡ 0 →
        ((cells : List Datum) (start : ℕ) →
        many (ends_it cells start) xs ≤ many (is_open cells start) (end_step x es)) →
        total w (end_all xs (end_step x es)) + total (took w) xs ≡ total w (end_step x es) + total (gave w) xs) →
        total w (end_all (x ∷ xs) es) + total (took w) (x ∷ xs) ≡ total w es + total (gave w) (x ∷ xs)
    pick true k rest =
        let z = ap (λ c. cond {A = ℕ} c 0 1) k in
        let now = step_weighs w x es (many (ends_it x.cells x.other) xs) (enough x.cells x.other) in
        let later = rest (omega (arith, real, z)) (λ cells start.
        let a = enough cells start in
        let b = step_weighs (λ e. cond (is_open cells start e) 1 0) x es (many (ends_it x.cells x.other) xs)
        (enough x.cells x.other) in
        let c = opened cells start x in
        let d = closed cells start x (real_low x k) in
        omega (arith, a, b, c, d)) in
        omega (arith, now, later)
    pick false k rest = let z = ap (λ c. cond {A = ℕ} c 0 1) k in absurd (omega (arith, real, z))

-- ends one after another
pub end_all-append : (xs ys : List Edge) (es : List CellEvent) → end_all (xs ++ ys) es ≡ end_all ys (end_all xs es)
end_all-append [] ys es = refl
end_all-append (x ∷ xs) ys es = end_all-append xs ys (end_step x es)

pub end_all_more : (xs : List Edge) (x : Edge) (es : List CellEvent) →
    end_all (xs ++ x ∷ []) es ≡ end_step x (end_all xs es)
end_all_more xs x es = end_all-append xs (x ∷ []) es

-- the event that an end edge ends stands at a place before which none is open; or no place is of such an event
pub ended_here : (x : Edge) (es : List CellEvent) (i : ℕ) (d : CellEvent) → i < length es →
    ((k : ℕ) → k < i → is_open x.cells x.other (get_or es k d) ≡ false) →
    is_open x.cells x.other (get_or es i d) ≡ true →
    set es i (record { row = (get_or es i d).row; start = (get_or es i d).start; end = x.sync }) ≡ ended x es
ended_here x [] i d low none h = absurd (omega arith)
ended_here x (e ∷ es) zero d low none h = rw h refl
ended_here x (e ∷ es) (suc i) d low none h =
    rw (none 0 (omega arith))
    (ap (λ l. e ∷ l) (ended_here x es i d (omega arith) (λ k b. none (suc k) (omega arith)) h))

pub ended_none : (x : Edge) (es : List CellEvent) (d : CellEvent) →
    ((k : ℕ) → k < length es → is_open x.cells x.other (get_or es k d) ≡ false) → ended x es ≡ es
ended_none x [] d none = refl
ended_none x (e ∷ es) d none =
    rw (none 0 (omega arith)) (ap (λ l. e ∷ l) (ended_none x es d (λ k b. none (suc k) (omega arith))))

pub end_step_here : (x : Edge) (es : List CellEvent) (i : ℕ) (d : CellEvent) → x.other < x.sync → i < length es →
    ((k : ℕ) → k < i → is_open x.cells x.other (get_or es k d) ≡ false) →
    is_open x.cells x.other (get_or es i d) ≡ true →
    set es i (record { row = (get_or es i d).row; start = (get_or es i d).start; end = x.sync }) ≡ end_step x es
end_step_here x es i d late low none h = rw (lt-ltb x.other x.sync late) (ended_here x es i d low none h)

pub end_step_none : (x : Edge) (es : List CellEvent) (d : CellEvent) →
    ((k : ℕ) → k < length es → is_open x.cells x.other (get_or es k d) ≡ false) → es ≡ end_step x es
end_step_none x es d none = pick (is_end x)
  where
    pick : (b : Bool) → es ≡ cond b (ended x es) es
    pick true = sym (ended_none x es d none)
    pick false = refl
