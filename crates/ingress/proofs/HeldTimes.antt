-- The times of the edges that are held are those of their rows.
use Rattle.std.specs.Prelude.{◌≡◌, ℕ, ◌-◌, ◌^◌, ◌<◌, ◌≤◌, nat_eq, nat_lt, nat_le, Bool, true, false, cond, ◌&&◌, All, List, [], ◌∷◌, ◌++◌, length, get_or, map, flat_map, refl}
use Rattle.std.proofs.Common.{subst, arith, inl, inr}
use Rattle.std.proofs.lemmas.Bool.{cases_lt}
use Rattle.std.proofs.lemmas.Bool.Decides.{nat_tests}
use Rattle.std.proofs.lemmas.List.Elements.{All-nil, All-cons, All-head, All-tail}
use Rattle.tw_rows.specs.Instant.{inf}
use Rattle.tw_rows.specs.Bag.{total}
use Rattle.tw_rows.proofs.Bags.{total-append}
use Rattle.tw_rows.specs.declared.edge.Edge.{Edge}
use Rattle.edge_history.specs.Balance.{given as event_of, taken, AreEventsOf}
use Rattle.edge_history.specs.History.{CellEvent}
use Rattle.edge_history.specs.Order.{failing, is_end, is_real}
use Rattle.edge_history.proofs.Ending.{real_low}
use Rattle.plan_laws.specs.Places.{read_events}
use Rattle.plan_laws.specs.Times.{TimesUpTo}
use Rattle.plan_laws.proofs.StepTimes.{up_to_append}
use Rattle.row_reader.specs.Printed.{IsEnd}
use Rattle.admission.specs.Admission.{Admission}
use Rattle.ingress.specs.Keeping.{CellOpen, row_of_open, cell_rows}
use Rattle.ingress.specs.Admits.{read_open, Follows}
use Rattle.ingress.specs.Times.{IsTimed}
use Rattle.ingress.specs.declared.ingress.Ingress.{Ingress}
use Rattle.ingress.proofs.Timed.{end_below, end_from}

-- THE ROWS
rows_back : (m : ℕ) (texts : List (List ℕ)) (es : List CellEvent) → TimesUpTo m (read_events texts es) → TimesUpTo m es
rows_back m texts [] h = tt
rows_back m texts (e ∷ es) h = (h.0, h.1, rows_back m texts es h.2)

abbrev pub IsTimedStart : CellOpen → Type 0
IsTimedStart o = IsEnd o.key.given × IsEnd o.state.start

opens_back : (texts : List (List ℕ)) (os : List CellOpen) → All (λ o. IsEnd o.given × IsEnd o.start) (map (read_open texts) os) → All IsTimedStart os
opens_back texts [] h = All-nil IsTimedStart
opens_back texts (o ∷ os) h =
    All-cons IsTimedStart o os (All-head (λ o. IsEnd o.given × IsEnd o.start) (read_open texts o) (map (read_open texts) os) h)
    (opens_back texts os (All-tail (λ o. IsEnd o.given × IsEnd o.start) (read_open texts o) (map (read_open texts) os) h))

open_timed : (s : ℕ) (o : CellOpen) → IsTimedStart o → TimesUpTo (2 ^ 60 - 1) (row_of_open s o)
open_timed s o h = go (nat_eq o.key.stream s) o.state.dropped (nat_lt o.state.start inf) refl
  where
    go : (b d l : Bool) → nat_lt o.state.start inf ≡ l → TimesUpTo (2 ^ 60 - 1) (cond b (cond d [] (cond l (record { row = o.key.cells; start = o.state.start; end = inf } ∷ []) [])) [])
    go true true l is = tt
    go true false true is = (end_below o.state.start h.1 (let z = is in grind (arith, nat_tests)), λ less. absurd (omega (arith, less)), tt)
    go true false false is = tt
    go false d l is = tt

opens_timed : (s : ℕ) (os : List CellOpen) → All IsTimedStart os → TimesUpTo (2 ^ 60 - 1) (flat_map (row_of_open s) os)
opens_timed s [] h = tt
opens_timed s (o ∷ os) h =
    up_to_append (2 ^ 60 - 1) (row_of_open s o) (flat_map (row_of_open s) os) (open_timed s o (All-head IsTimedStart o os h)) (opens_timed s os (All-tail IsTimedStart o os h))

rows_timed : (made : ℕ → List CellEvent) (opens : List CellOpen) (s : ℕ) → TimesUpTo (2 ^ 60 - 1) (made s) → All IsTimedStart opens → TimesUpTo (2 ^ 60 - 1) (cell_rows made opens s)
rows_timed made opens s h k = up_to_append (2 ^ 60 - 1) (made s) (flat_map (row_of_open s) opens) h (opens_timed s opens k)

pub starts_timed : (texts : List (List ℕ)) (a : Admission) (given : ℕ → List Edge) (i : Ingress) → IsTimed a → (f : Follows texts a given i) → All IsTimedStart f.opens
starts_timed texts a given i t f = opens_back texts f.opens (subst (All (λ o. IsEnd o.given × IsEnd o.start)) f.reads_opens t.opens)

-- THE BALANCE
-- a life that ends, and one that is open, weigh nothing where they start, and end, by m
abbrev ended : ℕ → ℕ → ℕ → ℕ
ended m start end = cond (nat_lt end inf) (cond (nat_le start m && nat_le end m) 0 1) 0

abbrev open_yet : ℕ → ℕ → ℕ → ℕ
open_yet m start end = cond (nat_lt end inf) 0 (cond (nat_le start m) 0 1)

abbrev ended_weight : ℕ → CellEvent → ℕ
ended_weight m e = ended m e.start e.end

abbrev open_weight : ℕ → CellEvent → ℕ
open_weight m e = open_yet m e.start e.end

ended_none : (m start end : ℕ) → start ≤ m → (end < inf → end ≤ m) → ended m start end ≡ 0
ended_none m start end h k = elim (cases_lt end inf) [ inl less ↦ (let a = k less in grind (arith, nat_tests)) | inr past ↦ grind (arith, nat_tests) ]

open_none : (m start end : ℕ) → start ≤ m → open_yet m start end ≡ 0
open_none m start end h = grind (arith, nat_tests)

ended_back : (m start end : ℕ) → ended m start end ≡ 0 → end < inf → (start ≤ m) × (end ≤ m)
ended_back m start end h less = (grind (arith, nat_tests), grind (arith, nat_tests))

open_back : (m start end : ℕ) → open_yet m start end ≡ 0 → inf ≤ end → start ≤ m
open_back m start end h past = grind (arith, nat_tests)

rows_ended : (m : ℕ) (es : List CellEvent) → TimesUpTo m es → total (ended_weight m) es ≡ 0
rows_ended m [] h = refl
rows_ended m (e ∷ es) h = let a = ended_none m e.start e.end h.0 h.1 in let b = rows_ended m es h.2 in omega (arith, a, b)

rows_open : (m : ℕ) (es : List CellEvent) → TimesUpTo m es → total (open_weight m) es ≡ 0
rows_open m [] h = refl
rows_open m (e ∷ es) h = let a = open_none m e.start e.end h.0 in let b = rows_open m es h.2 in omega (arith, a, b)

-- what ends take back is open
taken_ended : (m : ℕ) (h : List Edge) → total (ended_weight m) (flat_map taken h) ≡ 0
taken_ended m [] = refl
taken_ended m (e ∷ es) = go (is_end e) (taken_ended m es)
  where
    go : (b : Bool) → total (ended_weight m) (flat_map taken es) ≡ 0 → total (ended_weight m) (cond b (record { row = e.cells; start = e.other; end = inf } ∷ []) [] ++ flat_map taken es) ≡ 0
    go true rest = let a : ended m e.other inf ≡ 0 = grind (arith, nat_tests) in omega (arith, a, rest)
    go false rest = rest

passes : (b : Bool) → cond {A = ℕ} b 0 1 ≡ 0 → b ≡ true
passes true h = refl
passes false h = absurd (omega (arith, h))

low_edge : (e : Edge) → cond {A = ℕ} (is_real e) 0 1 ≡ 0 → e.sync < inf
low_edge e h = real_low e (passes (is_real e) h)

-- and starts by m where the ends do
taken_open : (m : ℕ) (h : List Edge) → failing is_real h ≡ 0 → total (ended_weight m) (map event_of h) ≡ 0 → total (open_weight m) (flat_map taken h) ≡ 0
taken_open m [] real none = refl
taken_open m (e ∷ es) real none = go (is_end e) (omega (arith, none)) (taken_open m es (omega (arith, real)) (omega (arith, none)))
  where
    instant : e.sync < inf
    instant = (low_edge e (omega (arith, real)))

    go : (b : Bool) → ended m (cond b e.other e.sync) (cond b e.sync e.other) ≡ 0 → total (open_weight m) (flat_map taken es) ≡ 0 →
        total (open_weight m) (cond b (record { row = e.cells; start = e.other; end = inf } ∷ []) [] ++ flat_map taken es) ≡ 0
    go true own rest = let a = open_none m e.other inf (ended_back m e.other e.sync own instant).0 in omega (arith, a, rest)
    go false own rest = rest

both_timed : (m : ℕ) (h : List Edge) → failing is_real h ≡ 0 → total (ended_weight m) (map event_of h) ≡ 0 → total (open_weight m) (map event_of h) ≡ 0 →
    All (λ e. (e.sync < inf → e.sync ≤ m) × (e.other < inf → e.other ≤ m)) h
both_timed m [] real none unended = All-nil (λ (e : Edge). (e.sync < inf → e.sync ≤ m) × (e.other < inf → e.other ≤ m))
both_timed m (e ∷ es) real none unended =
    All-cons (λ (e : Edge). (e.sync < inf → e.sync ≤ m) × (e.other < inf → e.other ≤ m)) e es (go (is_end e) (omega (arith, none)) (omega (arith, unended)))
    (both_timed m es (omega (arith, real)) (omega (arith, none)) (omega (arith, unended)))
  where
    go : (b : Bool) → ended m (cond b e.other e.sync) (cond b e.sync e.other) ≡ 0 → open_yet m (cond b e.other e.sync) (cond b e.sync e.other) ≡ 0 →
        (e.sync < inf → e.sync ≤ m) × (e.other < inf → e.other ≤ m)
    go true a b = (λ less. (ended_back m e.other e.sync a less).1, λ less. (ended_back m e.other e.sync a (low_edge e (omega (arith, real)))).0)
    go false a b = (λ less. elim (cases_lt e.other inf) [ inl before ↦ (ended_back m e.sync e.other a before).0 | inr past ↦ open_back m e.sync e.other b past ], λ less. (ended_back m e.sync e.other a less).1)

other_within : (e : Edge) → is_real e ≡ true → e.other ≤ inf
other_within e h = grind (arith, nat_tests)

abbrev pub IsTimedEdge : Edge → Type 0
IsTimedEdge e = IsEnd e.sync × IsEnd e.other

real_timed : (h : List Edge) → failing is_real h ≡ 0 → All (λ e. (e.sync < inf → e.sync ≤ 2 ^ 60 - 1) × (e.other < inf → e.other ≤ 2 ^ 60 - 1)) h → All IsTimedEdge h
real_timed [] real all = All-nil IsTimedEdge
real_timed (e ∷ es) real all =
    let own = All-head (λ (e : Edge). (e.sync < inf → e.sync ≤ 2 ^ 60 - 1) × (e.other < inf → e.other ≤ 2 ^ 60 - 1)) e es all in
    let is : is_real e ≡ true = passes (is_real e) (omega (arith, real)) in
    let low = real_low e is in
    All-cons IsTimedEdge e es (end_from e.sync (omega (arith, low)) own.0, end_from e.other (other_within e is) own.1)
    (real_timed es (omega (arith, real)) (All-tail (λ (e : Edge). (e.sync < inf → e.sync ≤ 2 ^ 60 - 1) × (e.other < inf → e.other ≤ 2 ^ 60 - 1)) e es all))

held_part : (given held : List Edge) → All IsTimedEdge (given ++ held) → All IsTimedEdge held
held_part [] held h = h
held_part (e ∷ es) held h = held_part es held (All-tail IsTimedEdge e (es ++ held) h)

-- real edges whose rows have event times have event times too
edges_timed : (h : List Edge) (rows : List CellEvent) → AreEventsOf h rows → failing is_real h ≡ 0 → TimesUpTo (2 ^ 60 - 1) rows → All IsTimedEdge h
edges_timed h rows events real timed =
    let m = 2 ^ 60 - 1 in
    let a = events.weigh (ended_weight m) in
    let b = total-append (ended_weight m) rows (flat_map taken h) in
    let c = rows_ended m rows timed in
    let d = taken_ended m h in
    let none : total (ended_weight m) (map event_of h) ≡ 0 = omega (arith, a, b, c, d) in
    let e = events.weigh (open_weight m) in
    let f = total-append (open_weight m) rows (flat_map taken h) in
    let g = rows_open m rows timed in
    let o = taken_open m h real none in
    real_timed h real (both_timed m h real none (omega (arith, e, f, g, o)))

pub held_timed : (texts : List (List ℕ)) (a : Admission) (given : ℕ → List Edge) (i : Ingress) → IsTimed a → (f : Follows texts a given i) →
    (s : ℕ) → s < length i.held.waiting.items → All IsTimedEdge (get_or i.held.waiting.items s [])
held_timed texts a given i t f s less =
    let held = f.keeps.held s less in
    let made = rows_back (2 ^ 60 - 1) texts (f.made s) (subst (TimesUpTo (2 ^ 60 - 1)) (f.reads_made s) (t.made s)) in
    held_part (given s) (get_or i.held.waiting.items s [])
    (edges_timed (given s ++ get_or i.held.waiting.items s []) (cell_rows f.made f.opens s) held.events held.real (rows_timed f.made f.opens s made (starts_timed texts a given i t f)))
