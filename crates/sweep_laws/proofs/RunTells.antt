-- What is told of runs over a stretch of instants with one row.
use Rattle.std.specs.Prelude.{◌≡◌, ℕ, zero, suc, ◌+◌, ◌-◌, ◌<◌, ◌≤◌, ◌&&◌, nat_eq, Bool, true, false, cond, Option, Some, None, List, [], ◌∷◌, refl}
use Rattle.std.proofs.Common.{◌∙◌, ap, arith, add-zero, add-suc, add-one}
use Rattle.std.proofs.lemmas.Bool.Decides.{nat_tests}
use Rattle.std.proofs.lemmas.Bool.{eq-eqb, and_parts}
use Rattle.tw_rows.specs.Instant.{inf}
use Rattle.tw_rows.specs.Bag.{total}
use Rattle.tw_rows.proofs.Bags.{total-append}
use Rattle.tw_rows.specs.declared.cells.Datum.{Datum}
use Rattle.tw_rows.specs.declared.edge.Edge.{Edge}
use Rattle.tw_rows.specs.SameCells.{same_cells}
use Rattle.edge_history.specs.History.{CellEvent}
use Rattle.edge_history.specs.Balance.{news, news_of}
use Rattle.tw_rows.specs.SameCells.{same_itself}
use Rattle.key_nodes.specs.Runs.{goes_on, runs}
use Rattle.sweep_laws.specs.Running.{Run, last_run, open_at, run_end, run_start, end_part, kept, start_part, begun_at, tells, goes}

-- the runs after d more instants with the same row
abbrev pub goes_on_by : Option (List Datum) → ℕ → ℕ → List CellEvent → List CellEvent
goes_on_by None t d es = es
goes_on_by (Some r) t d [] = record { row = r; start = t; end = t + d } ∷ []
goes_on_by (Some r) t d (e ∷ es) =
    cond (nat_eq e.end t && same_cells e.row r) (record { row = e.row; start = e.start; end = t + d } ∷ es) (record { row = r; start = t; end = t + d } ∷ e ∷ es)

eq_self : (n : ℕ) → nat_eq n n ≡ true
eq_self n = eq-eqb n n refl

row_self : (r : List Datum) → same_cells r r ≡ true
row_self r = same_itself r

-- one instant more
once_more : (o : Option (List Datum)) (t d : ℕ) (es : List CellEvent) → goes_on same_cells o (t + suc d) (goes_on_by o t (suc d) es) ≡ goes_on_by o t (suc (suc d)) es
once_more None t d es = refl
once_more (Some r) t d [] = rw (eq_self (t + suc d), row_self r, add-suc t (suc d)) refl
once_more (Some r) t d (e ∷ es) = pick (nat_eq e.end t && same_cells e.row r) refl
  where
    pick : (b : Bool) → (nat_eq e.end t && same_cells e.row r) ≡ b →
        goes_on same_cells (Some r) (t + suc d) (cond b (record { row = e.row; start = e.start; end = t + suc d } ∷ es) (record { row = r; start = t; end = t + suc d } ∷ e ∷ es))
        ≡ cond b (record { row = e.row; start = e.start; end = t + suc (suc d) } ∷ es) (record { row = r; start = t; end = t + suc (suc d) } ∷ e ∷ es)
    pick true h = rw (eq_self (t + suc d), (and_parts (nat_eq e.end t) (same_cells e.row r) h).1, add-suc t (suc d)) refl
    pick false h = rw (eq_self (t + suc d), row_self r, add-suc t (suc d)) refl

first_more : (o : Option (List Datum)) (t : ℕ) (es : List CellEvent) → goes_on same_cells o t es ≡ goes_on_by o t 1 es
first_more None t es = refl
first_more (Some r) t [] = rw (add-one t) refl
first_more (Some r) t (e ∷ es) = rw (add-one t) refl

-- over instants with one row an engine may step at once
pub runs_constant : (f : ℕ → Option (List Datum)) (o : Option (List Datum)) (t d : ℕ) → ((u : ℕ) → t ≤ u → u < t + suc d → f u ≡ o) → runs same_cells f (t + suc d) ≡ goes_on_by o t (suc d) (runs same_cells f t)
runs_constant f o t zero h = rw (add-one t, h t (omega arith) (omega arith)) (first_more o t (runs same_cells f t))
runs_constant f o t (suc d) h = rw (add-suc t (suc d)) (rw (h (t + suc d) (omega arith) (omega arith), runs_constant f o t d (λ u low high. h u low (omega arith))) (once_more o t d (runs same_cells f t)))

-- the latest first, each ends by where the one before it in this list starts; the first ends by n
abbrev pub Falls : ℕ → List CellEvent → Type 0
Falls n [] = Unit {0}
Falls n (e ∷ es) = (e.end ≤ n) × (e.start < e.end) × Falls e.start es

falls_later : (n m : ℕ) (es : List CellEvent) → n ≤ m → Falls n es → Falls m es
falls_later n m [] h k = tt
falls_later n m (e ∷ es) h k = (omega (arith, k), k.1, k.2)

goes_on_falls : (o : Option (List Datum)) (n : ℕ) (es : List CellEvent) → Falls n es → Falls (suc n) (goes_on same_cells o n es)
goes_on_falls None n es k = falls_later n (suc n) es (omega arith) k
goes_on_falls (Some r) n [] k = (omega arith, omega arith, tt)
goes_on_falls (Some r) n (e ∷ es) k = pick (nat_eq e.end n && same_cells e.row r)
  where
    pick : (b : Bool) → Falls (suc n) (cond b (record { row = e.row; start = e.start; end = suc n } ∷ es) (record { row = r; start = n; end = suc n } ∷ e ∷ es))
    pick true = (omega arith, omega (arith, k), k.2)
    pick false = (omega arith, omega arith, k)

pub runs_fall : (f : ℕ → Option (List Datum)) (n : ℕ) → Falls n (runs same_cells f n)
runs_fall f zero = tt
runs_fall f (suc n) = goes_on_falls (f n) n (runs same_cells f n) (runs_fall f n)

-- the news of runs
news_cons : (w : Edge → ℕ) (t u : ℕ) (e : CellEvent) (es : List CellEvent) → total w (news t u (e ∷ es)) ≡ total w (news_of t u e) + total w (news t u es)
news_cons w t u e es = total-append w (news_of t u e) (news t u es)

-- what happens from u on is no news below u
news_late_one : (w : Edge → ℕ) (t u n : ℕ) (r : List Datum) → u ≤ n → total w (news_of t u (record { row = r; start = n; end = suc n })) ≡ 0
news_late_one w t u n r h = grind (arith, nat_tests)

news_longer : (w : Edge → ℕ) (t u n : ℕ) (e : CellEvent) → u ≤ n → nat_eq e.end n ≡ true → total w (news_of t u (record { row = e.row; start = e.start; end = suc n })) ≡ total w (news_of t u e)
news_longer w t u n e h k = grind (arith, nat_tests)

news_late : (w : Edge → ℕ) (t u n : ℕ) (o : Option (List Datum)) (es : List CellEvent) → u ≤ n → total w (news t u (goes_on same_cells o n es)) ≡ total w (news t u es)
news_late w t u n None es h = refl
news_late w t u n (Some r) [] h = let a = news_late_one w t u n r h in let b = news_cons w t u (record { row = r; start = n; end = suc n }) [] in omega (arith, a, b)
news_late w t u n (Some r) (e ∷ es) h = pick (nat_eq e.end n && same_cells e.row r) refl
  where
    pick : (b : Bool) → (nat_eq e.end n && same_cells e.row r) ≡ b →
        total w (news t u (cond b (record { row = e.row; start = e.start; end = suc n } ∷ es) (record { row = r; start = n; end = suc n } ∷ e ∷ es))) ≡ total w (news t u (e ∷ es))
    pick true k =
        let a = news_longer w t u n e h (and_parts (nat_eq e.end n) (same_cells e.row r) k).0 in
        let b = news_cons w t u (record { row = e.row; start = e.start; end = suc n }) es in
        let c = news_cons w t u e es in
        omega (arith, a, b, c)
    pick false k =
        let a = news_late_one w t u n r h in
        let b = news_cons w t u (record { row = r; start = n; end = suc n }) (e ∷ es) in
        omega (arith, a, b)

pub news_runs : (w : Edge → ℕ) (t u m : ℕ) (f : ℕ → Option (List Datum)) → total w (news t u (runs same_cells f (u + m))) ≡ total w (news t u (runs same_cells f u))
news_runs w t u zero f = ap (λ n. total w (news t u (runs same_cells f n))) (add-zero u)
news_runs w t u (suc m) f = rw (add-suc u m) (news_late w t u (u + m) (f (u + m)) (runs same_cells f (u + m)) (omega arith) ∙ news_runs w t u m f)

-- runs that ended before t
past_one : (w : Edge → ℕ) (t u : ℕ) (e : CellEvent) → e.start < e.end → e.end < t → total w (news_of t u e) ≡ 0
past_one w t u e a b = grind (arith, nat_tests)

past : (w : Edge → ℕ) (t u n : ℕ) (es : List CellEvent) → n < t → Falls n es → total w (news t u es) ≡ 0
past w t u n [] h k = refl
past w t u n (e ∷ es) h k =
    let a = past_one w t u e k.1 (omega (arith, k)) in
    let b = past w t u e.start es (omega (arith, k)) k.2 in
    let c = news_cons w t u e es in
    omega (arith, a, b, c)

end_none : (w : Edge → ℕ) (t u : ℕ) (e : CellEvent) → t < u → e.start < e.end → e.end ≤ t → total w (news_of t u e) ≡ cond (nat_eq e.end t) (w (run_end t (record { row = e.row; start = e.start }))) 0
end_none w t u e low s k = grind (arith, nat_tests)

begin_one : (w : Edge → ℕ) (t u : ℕ) (r : List Datum) → t < u → total w (news_of t u (record { row = r; start = t; end = u })) ≡ w (run_start t r)
begin_one w t u r low = grind (arith, nat_tests)

going_one : (w : Edge → ℕ) (t u : ℕ) (e : CellEvent) → e.start < t → total w (news_of t u (record { row = e.row; start = e.start; end = u })) ≡ 0
going_one w t u e low = grind (arith, nat_tests)

-- the cases of the head
tell_none : (w : Edge → ℕ) (t : ℕ) (e : CellEvent) (b : Bool) → cond b (w (run_end t (record { row = e.row; start = e.start }))) 0 ≡ total w (tells t None (cond b (Some (record { row = e.row; start = e.start })) None))
tell_none w t e true = omega arith
tell_none w t e false = refl

tell_some : (w : Edge → ℕ) (t u : ℕ) (r : List Datum) (e : CellEvent) (es : List CellEvent) → t < u → e.end ≤ t → e.start < e.end → total w (news t u es) ≡ 0 → (p q : Bool) → nat_eq e.end t ≡ p → same_cells e.row r ≡ q →
    total w (news t u (cond (p && q) (record { row = e.row; start = e.start; end = u } ∷ es) (record { row = r; start = t; end = u } ∷ e ∷ es)))
    ≡ total w (tells t (Some r) (cond p (Some (record { row = e.row; start = e.start })) None))
tell_some w t u r e es low k s z true true h j =
    let a = news_cons w t u (record { row = e.row; start = e.start; end = u }) es in
    let b = going_one w t u e (omega arith) in
    rw j (omega (arith, a, b, z))
tell_some w t u r e es low k s z true false h j =
    let a = news_cons w t u (record { row = r; start = t; end = u }) (e ∷ es) in
    let b = news_cons w t u e es in
    let c = begin_one w t u r low in
    let d = end_none w t u e low s k in
    let g = ap (λ b. cond {A = ℕ} b (w (run_end t (record { row = e.row; start = e.start }))) 0) h in
    rw j (omega (arith, a, b, c, d, g, z))
tell_some w t u r e es low k s z false q h j =
    let a = news_cons w t u (record { row = r; start = t; end = u }) (e ∷ es) in
    let b = news_cons w t u e es in
    let c = begin_one w t u r low in
    let d = end_none w t u e low s k in
    let g = ap (λ b. cond {A = ℕ} b (w (run_end t (record { row = e.row; start = e.start }))) 0) h in
    omega (arith, a, b, c, d, g, z)

tell : (w : Edge → ℕ) (t k : ℕ) (o : Option (List Datum)) (es : List CellEvent) → Falls t es → total w (news t (t + suc k) (goes_on_by o t (suc k) es)) ≡ total w (tells t o (last_run t es))
tell w t k None [] v = refl
tell w t k (Some r) [] v = let a = news_cons w t (t + suc k) (record { row = r; start = t; end = t + suc k }) [] in let b = begin_one w t (t + suc k) r (omega arith) in omega (arith, a, b)
tell w t k None (e ∷ es) v =
    let a = news_cons w t (t + suc k) e es in
    let b = past w t (t + suc k) e.start es (omega (arith, v)) v.2 in
    let c = end_none w t (t + suc k) e (omega arith) v.1 v.0 in
    let d = tell_none w t e (nat_eq e.end t) in
    omega (arith, a, b, c, d)
tell w t k (Some r) (e ∷ es) v = tell_some w t (t + suc k) r e es (omega arith) v.0 v.1 (past w t (t + suc k) e.start es (omega (arith, v)) v.2) (nat_eq e.end t) (same_cells e.row r) refl refl

-- where the row is the same from t on and below u: what is to be told then, and the run that is open at u
pub run_tells : (w : Edge → ℕ) (f : ℕ → Option (List Datum)) (o : Option (List Datum)) (t k m : ℕ) → ((u : ℕ) → t ≤ u → u < t + suc k → f u ≡ o) → total w (news t (t + suc k) (runs same_cells f ((t + suc k) + m))) ≡ total w (tells t o (open_at f t))
run_tells w f o t k m same =
    news_runs w t (t + suc k) m f
    ∙ (ap (λ l. total w (news t (t + suc k) l)) (runs_constant f o t k same)
    ∙ tell w t k o (runs same_cells f t) (runs_fall f t))

open_goes : (t k : ℕ) (o : Option (List Datum)) (es : List CellEvent) → Falls t es → last_run (t + suc k) (goes_on_by o t (suc k) es) ≡ goes t o (last_run t es)
open_goes t k None [] v = refl
open_goes t k (Some r) [] v = rw (eq_self (t + suc k)) refl
open_goes t k None (e ∷ es) v = ap (λ b. cond {A = Option Run} b (Some (record { row = e.row; start = e.start })) None) (over e v.0)
  where
    over : (e : CellEvent) → e.end ≤ t → nat_eq e.end (t + suc k) ≡ false
    over e low = grind (arith, nat_tests)
open_goes t k (Some r) (e ∷ es) v = pick (nat_eq e.end t) (same_cells e.row r) refl
  where
    pick : (p q : Bool) → same_cells e.row r ≡ q → last_run (t + suc k) (cond (p && q) (record { row = e.row; start = e.start; end = t + suc k } ∷ es) (record { row = r; start = t; end = t + suc k } ∷ e ∷ es))
        ≡ goes t (Some r) (cond p (Some (record { row = e.row; start = e.start })) None)
    pick true true j = rw (eq_self (t + suc k), j) refl
    pick true false j = rw (eq_self (t + suc k), j) refl
    pick false q j = rw (eq_self (t + suc k)) refl

pub open_next : (f : ℕ → Option (List Datum)) (o : Option (List Datum)) (t k : ℕ) → ((u : ℕ) → t ≤ u → u < t + suc k → f u ≡ o) → open_at f (t + suc k) ≡ goes t o (open_at f t)
open_next f o t k same = ap (last_run (t + suc k)) (runs_constant f o t k same) ∙ open_goes t k o (runs same_cells f t) (runs_fall f t)

-- what an engine tells over a stretch [t, u) with one row
pub stretch : (w : Edge → ℕ) (f : ℕ → Option (List Datum)) (o : Option (List Datum)) (t u : ℕ) → t < u → u ≤ inf → ((v : ℕ) → t ≤ v → v < u → f v ≡ o) →
    (total w (news t u (runs same_cells f inf)) ≡ total w (tells t o (open_at f t))) × (open_at f u ≡ goes t o (open_at f t))
stretch w f o t u low high same = from (u - suc t) (inf - u) (omega arith) (omega arith)
  where
    from : (k m : ℕ) → u ≡ t + suc k → inf ≡ u + m →
        (total w (news t u (runs same_cells f inf)) ≡ total w (tells t o (open_at f t))) × (open_at f u ≡ goes t o (open_at f t))
    from k m e g = (
      ap (λ n. total w (news t u (runs same_cells f n))) g
          ∙ (ap (λ n. total w (news t n (runs same_cells f (n + m)))) e
          ∙ run_tells w f o t k m (λ v a b. same v a (omega arith))),
      ap (λ n. open_at f n) e ∙ open_next f o t k (λ v a b. same v a (omega arith)),
    )

pub tells_parts : (w : Edge → ℕ) (t : ℕ) (o : Option (List Datum)) (x : Option Run) →
    total w (tells t o x) ≡ total w (end_part t o x) + total w (start_part t o (kept o x))
tells_parts w t None None = refl
tells_parts w t None (Some x) = omega arith
tells_parts w t (Some r) None = omega arith
tells_parts w t (Some r) (Some x) = pick (same_cells x.row r)
  where
    pick : (b : Bool) → total w (cond b [] (run_end t x ∷ run_start t r ∷ [])) ≡ total w (cond b [] (run_end t x ∷ [])) + total w (start_part t (Some r) (cond b (Some x) None))
    pick true = refl
    pick false = omega arith

pub goes_parts : (t : ℕ) (o : Option (List Datum)) (x : Option Run) → goes t o x ≡ begun_at t o (kept o x)
goes_parts t None None = refl
goes_parts t None (Some x) = refl
goes_parts t (Some r) None = refl
goes_parts t (Some r) (Some x) = pick (same_cells x.row r)
  where
    pick : (b : Bool) → cond b (Some x) (Some (record { row = r; start = t })) ≡ begun_at t (Some r) (cond b (Some x) None)
    pick true = refl
    pick false = refl
