-- Ends that are put into a queue, and taken out.
use Rattle.std.specs.Prelude.{◌≡◌, ℕ, ◌+◌, ◌*◌, ◌<◌, ◌≤◌, nat_lt, ◌&&◌, not, Option, Some, Bool, true, false, cond, List, [], ◌∷◌, ◌++◌, map, filter, All, IsTrue, refl}
use Rattle.std.proofs.Common.{sym, ◌∙◌, ap, arith, subst, append_assoc}
use Rattle.std.specs.Option.{option_to_list}
use Rattle.std.proofs.lemmas.Bool.{ltb-true}
use Rattle.std.proofs.lemmas.Bool.Decides.{nat_tests}
use Rattle.std.proofs.lemmas.List.Elements.{All-nil, All-cons, All-head, All-tail}
use Rattle.tw_rows.specs.Cells.{datum_kind}
use Rattle.tw_rows.specs.Instant.{inf, later}
use Rattle.tw_rows.specs.Bag.{SameBag, total}
use Rattle.tw_rows.specs.declared.edge.Edge.{Edge}
use Rattle.tw_rows.specs.declared.kind.CellKind.{CellKind}
use Rattle.tw_rows.proofs.Bags.{total-append, total-map, total-filter, total_zero}
use Rattle.edge_history.specs.Order.{is_end, is_below, is_from, failing, rank, Rises, IsReal, KeepsOrder}
use Rattle.edge_history.specs.Opens.{is_start}
use Rattle.edge_history.proofs.Keeping.{KeepsOrder-front, KeepsOrder-back}
use Rattle.edge_history.proofs.Sums.{sum_eq, failing-kept, failing-append, failing-same}
use Rattle.end_queue.specs.Pending.{Pending, put_pending, AreDueFrom}
use Rattle.edge_stream.specs.Steps.{MayCome, ComeBetween}
use Rattle.plan_laws.specs.Extending.{extended_edge, extended_edges, extended_starts, extended_ends, KeepsExtended}
use Rattle.plan_laws.proofs.Extending.{made_of_both, extended_from, extended_step, starts_in_order}
use Rattle.lifetime_ops.specs.Waiting.{edges_of_pending, IsWaitingEnd}

-- PUTTING IN
pub total-put : (w : Edge → ℕ) (p : Pending) (qs : List Pending) → total w (edges_of_pending (put_pending p qs)) ≡ w p.edge + total w (edges_of_pending qs)
total-put w p [] = refl
total-put w p (q ∷ qs) = pick (nat_lt p.at q.at) (total-put w p qs)
  where
    pick : (b : Bool) → total w (edges_of_pending (put_pending p qs)) ≡ w p.edge + total w (edges_of_pending qs) →
        total w (edges_of_pending (cond b (p ∷ q ∷ qs) (q ∷ put_pending p qs))) ≡ w p.edge + (w q.edge + total w (edges_of_pending qs))
    pick true r = refl
    pick false r = omega (arith, r)

pub All-put : (P : Pending → Type 0) (p : Pending) (qs : List Pending) → P p → All P qs → All P (put_pending p qs)
All-put P p [] h a = All-cons P p [] h a
All-put P p (q ∷ qs) h a = pick (nat_lt p.at q.at) (All-put P p qs h (All-tail P q qs a))
  where
    pick : (b : Bool) → All P (put_pending p qs) → All P (cond b (p ∷ q ∷ qs) (q ∷ put_pending p qs))
    pick true r = All-cons P p (q ∷ qs) h a
    pick false r = All-cons P q (put_pending p qs) (All-head P q qs a) r

-- the edge that waits for an end
abbrev pub moved_end : ℕ → Edge → Edge
moved_end at e = record { sync = at; other = e.other; cells = e.cells }

end_is : (by : ℕ) (e : Edge) → is_end e ≡ true → extended_edge by e ≡ moved_end (later by e.sync) e
end_is by e end = ap (λ b. record { sync = cond b (later by e.sync) e.sync; other = cond b e.other (later by e.other); cells = e.cells }) end

one_end : (by : ℕ) (e : Edge) → is_end e ≡ true → later by e.sync < inf → extended_ends by (e ∷ []) ≡ moved_end (later by e.sync) e ∷ []
one_end by e end low =
    let fit : nat_lt (later by e.sync) inf ≡ true = grind (arith, nat_tests) in
    rw (end, fit) (ap (λ x. x ∷ []) (end_is by e end))

pub end_put : (by at : ℕ) (e : Edge) (old new : List Pending) → at ≡ later by e.sync → nat_lt at inf ≡ true → is_end e ≡ true → new ≡ put_pending (record { at = at; edge = moved_end at e }) old →
    (w : Edge → ℕ) → total w (edges_of_pending new) ≡ total w (edges_of_pending old) + total w (extended_ends by (e ∷ []))
end_put by at e old new same low end is w =
    let t = total-put w (record { at = at; edge = moved_end at e }) old in
    let fit : nat_lt (later by e.sync) inf ≡ true = ap (λ t. nat_lt t inf) (sym same) ∙ low in
    let low2 : later by e.sync < inf = grind (arith, nat_tests) in
    let one = ap (total w) (one_end by e end low2) in
    let there = ap (λ t. w (moved_end t e)) same in
    let put = ap (λ ps. total w (edges_of_pending ps)) is in
    omega (arith, t, one, there, put)

pub end_passed : (by at : ℕ) (e : Edge) (old : List Pending) → at ≡ later by e.sync → nat_lt at inf ≡ false → (w : Edge → ℕ) →
    total w (edges_of_pending old) ≡ total w (edges_of_pending old) + total w (extended_ends by (e ∷ []))
end_passed by at e old same high w = pick (is_end e)
  where
    none : nat_lt (later by e.sync) inf ≡ false
    none = ap (λ t. nat_lt t inf) (sym same) ∙ high

    pick : (b : Bool) → total w (edges_of_pending old) ≡ total w (edges_of_pending old) + total w (map (extended_edge by) (cond (b && nat_lt (later by e.sync) inf) (e ∷ []) []))
    pick true = rw none (omega arith)
    pick false = omega arith

pub end_waits : (kinds : List CellKind) (by at : ℕ) (e : Edge) → at ≡ later by e.sync → nat_lt at inf ≡ true → is_end e ≡ true → IsReal e → map datum_kind e.cells ≡ kinds →
    IsWaitingEnd kinds (record { at = at; edge = moved_end at e })
end_waits kinds by at e same fit end real cells =
    let before : e.other < e.sync = grind (arith, nat_tests) in
    let low : at < inf = grind (arith, nat_tests) in
    let after : e.other < at = let i = real.instant in omega (arith, before, same, low, i) in
    record {
      at = refl;
      end = grind (arith, nat_tests);
      real = record { instant = low; bounded = real.bounded; apart = λ no. absurd (omega (arith, no, after)) };
      cells = cells;
    }

pub all_wait : (kinds : List CellKind) (p : Pending) (old new : List Pending) → new ≡ put_pending p old → IsWaitingEnd kinds p → All (IsWaitingEnd kinds) old → All (IsWaitingEnd kinds) new
all_wait kinds p old new is here all = subst (All (IsWaitingEnd kinds)) (sym is) (All-put (IsWaitingEnd kinds) p old here all)

-- TAKING OUT
-- ends that come due in order are in order as edges
due_rise : (kinds : List CellKind) (r t : ℕ) (ps : List Pending) → r ≤ 2 * t → AreDueFrom t ps → All (IsWaitingEnd kinds) ps → Rises r (edges_of_pending ps)
due_rise kinds r t [] low due all = tt
due_rise kinds r t (p ∷ ps) low due all =
    let here = All-head (IsWaitingEnd kinds) p ps all in
    let at = here.at in
    let first = due.0 in
    let rank_is : rank p.edge ≡ 2 * p.edge.sync = rank_of_end p.edge here.end in
    (omega (arith, at, first, rank_is, low), due_rise kinds (rank p.edge) p.at ps (omega (arith, rank_is, at)) due.1 (All-tail (IsWaitingEnd kinds) p ps all))
  where
    rank_of_end : (e : Edge) → is_end e ≡ true → rank e ≡ 2 * e.sync
    rank_of_end e end = rw end (omega arith)

all_real : (kinds : List CellKind) (ps : List Pending) → All (IsWaitingEnd kinds) ps → All IsReal (edges_of_pending ps)
all_real kinds [] all = All-nil IsReal
all_real kinds (p ∷ ps) all = All-cons IsReal p.edge (edges_of_pending ps) (All-head (IsWaitingEnd kinds) p ps all).real (all_real kinds ps (All-tail (IsWaitingEnd kinds) p ps all))

pub ends_in_order : (kinds : List CellKind) (ps : List Pending) → AreDueFrom 0 ps → All (IsWaitingEnd kinds) ps → KeepsOrder (edges_of_pending ps)
ends_in_order kinds ps due all = record { rises = due_rise kinds 0 0 ps (omega arith) due all; real = all_real kinds ps all }

-- the first one of those that are still to come may be added
pub next_in_order : (done : List Edge) (p : Pending) (ps whole : List Pending) (e : Edge) → p.edge ≡ e → edges_of_pending whole ≡ done ++ edges_of_pending (p ∷ ps) → KeepsOrder (edges_of_pending whole) → KeepsOrder (done ++ e ∷ [])
next_in_order done p ps whole e is all order =
    subst (λ x. KeepsOrder (done ++ x ∷ [])) is
    (KeepsOrder-front (done ++ p.edge ∷ []) (edges_of_pending ps) (subst KeepsOrder (all ∙ sym (append_assoc done (p.edge ∷ []) (edges_of_pending ps))) order))

pub taken_next : (done done2 : List Edge) (p : Pending) (old rest whole : List Pending) (e : Edge) → p.edge ≡ e → old ≡ p ∷ rest → edges_of_pending whole ≡ done ++ edges_of_pending old → done2 ≡ done ++ e ∷ [] →
    edges_of_pending whole ≡ done2 ++ edges_of_pending rest
taken_next done done2 p old rest whole e is cut all added =
    all ∙ ap (λ ps. done ++ edges_of_pending ps) cut ∙ ap (λ x. done ++ x ∷ edges_of_pending rest) is
    ∙ sym (append_assoc done (e ∷ []) (edges_of_pending rest)) ∙ ap (λ l. l ++ edges_of_pending rest) (sym added)

pub taken_low : (kinds : List CellKind) (below : ℕ) (done done2 : List Edge) (p : Pending) (old rest : List Pending) (e : Edge) → p.edge ≡ e → p.at < below → old ≡ p ∷ rest → All (IsWaitingEnd kinds) old →
    failing (is_below below) done ≡ 0 → done2 ≡ done ++ e ∷ [] → failing (is_below below) done2 ≡ 0
taken_low kinds below done done2 p old rest e is low cut all none added =
    let here = All-head (IsWaitingEnd kinds) p rest (subst (All (IsWaitingEnd kinds)) cut all) in
    let at = here.at in
    let same = ap (λ (x : Edge). x.sync) is in
    let early : e.sync < below = omega (arith, at, same, low) in
    let one : is_below below e ≡ true = grind (arith, nat_tests) in
    let last : failing (is_below below) (e ∷ []) ≡ 0 = rw one refl in
    ap (failing (is_below below)) added ∙ failing-append (is_below below) done (e ∷ []) none last

pub rest_waits : (kinds : List CellKind) (p : Pending) (old rest : List Pending) → old ≡ p ∷ rest → All (IsWaitingEnd kinds) old → All (IsWaitingEnd kinds) rest
rest_waits kinds p old rest cut all = All-tail (IsWaitingEnd kinds) p rest (subst (All (IsWaitingEnd kinds)) cut all)

pub late_edges : (kinds : List CellKind) (u : ℕ) (ps : List Pending) → All (IsWaitingEnd kinds) ps → All (λ p. u ≤ p.at) ps → failing (is_from u) (edges_of_pending ps) ≡ 0
late_edges kinds u [] all late = refl
late_edges kinds u (p ∷ ps) all late =
    let at = (All-head (IsWaitingEnd kinds) p ps all).at in
    let low = All-head (λ (q : Pending). u ≤ q.at) p ps late in
    let le : u ≤ p.edge.sync = omega (arith, at, low) in
    let here : is_from u p.edge ≡ true = grind (arith, nat_tests) in
    let rest = late_edges kinds u ps (All-tail (IsWaitingEnd kinds) p ps all) (All-tail (λ (q : Pending). u ≤ q.at) p ps late) in
    rw here (omega (arith, rest))

-- EDGE BY EDGE
pub end_true : (e : Edge) → e.other < e.sync → is_end e ≡ true
end_true e low = grind (arith, nat_tests)

pub end_false : (e : Edge) (b : Bool) → b ≡ false → (e.other < e.sync → IsTrue b) → is_end e ≡ false
end_false e b is told = pick (is_end e) refl
  where
    pick : (t : Bool) → is_end e ≡ t → t ≡ false
    pick false i = refl
    pick true i = let yes : b ≡ true = told (ltb-true e.other e.sync i) in absurd (cc)

-- the next edge of a list, and the others
pub next_is : (item : Option Edge) (old rest : List Edge) (e : Edge) → old ≡ option_to_list item ++ rest → item ≡ Some e → old ≡ e ∷ rest
next_is item old rest e is some = is ∙ ap (λ o. option_to_list o ++ rest) some

pub rest_in_order : (e : Edge) (old rest : List Edge) → old ≡ e ∷ rest → KeepsOrder old → KeepsOrder rest
rest_in_order e old rest is order = KeepsOrder-back (e ∷ []) rest (subst KeepsOrder is order)

-- an end is passed over by the starts
pub start_passed : (by : ℕ) (e : Edge) (done old rest whole : List Edge) → old ≡ e ∷ rest → is_end e ≡ true → done ++ extended_starts by old ≡ whole → done ++ extended_starts by rest ≡ whole
start_passed by e done old rest whole is end all = ap (λ l. done ++ l) (sym one) ∙ all
  where
    one : extended_starts by old ≡ extended_starts by rest
    one = ap (extended_starts by) is ∙ ap (λ b. map (extended_edge by) (cond (not b) (e ∷ filter is_start rest) (filter is_start rest))) end

-- another edge is one more of them
pub start_next : (by o : ℕ) (e : Edge) (done old rest whole : List Edge) → o ≡ later by e.other → old ≡ e ∷ rest → is_end e ≡ false → done ++ extended_starts by old ≡ whole →
    (done ++ record { sync = e.sync; other = o; cells = e.cells } ∷ []) ++ extended_starts by rest ≡ whole
start_next by o e done old rest whole moved is start all =
    append_assoc done (record { sync = e.sync; other = o; cells = e.cells } ∷ []) (extended_starts by rest)
    ∙ ap (λ x. done ++ x ∷ extended_starts by rest) this ∙ ap (λ l. done ++ l) (sym one) ∙ all
  where
    one : extended_starts by old ≡ extended_edge by e ∷ extended_starts by rest
    one = ap (extended_starts by) is ∙ ap (λ b. map (extended_edge by) (cond (not b) (e ∷ filter is_start rest) (filter is_start rest))) start

    this : record { sync = e.sync; other = o; cells = e.cells } ≡ extended_edge by e
    this = ap (λ t. record { sync = e.sync; other = t; cells = e.cells }) moved
        ∙ ap (λ b. record { sync = cond b (later by e.sync) e.sync; other = cond b e.other (later by e.other); cells = e.cells }) (sym start)

pub start_in_order : (by o : ℕ) (e : Edge) (done old rest due : List Edge) → o ≡ later by e.other → old ≡ e ∷ rest → is_end e ≡ false → done ++ extended_starts by old ≡ extended_starts by due → KeepsOrder due →
    KeepsOrder (done ++ record { sync = e.sync; other = o; cells = e.cells } ∷ [])
start_in_order by o e done old rest due moved is start all order =
    KeepsOrder-front (done ++ record { sync = e.sync; other = o; cells = e.cells } ∷ []) (extended_starts by rest)
    (subst KeepsOrder (sym (start_next by o e done old rest (extended_starts by due) moved is start all)) (starts_in_order by due order))

-- ends of one edge and of the others
ends_both : (by : ℕ) (w : Edge → ℕ) (e : Edge) (rest : List Edge) → total w (extended_ends by (e ∷ rest)) ≡ total w (extended_ends by (e ∷ [])) + total w (extended_ends by rest)
ends_both by w e rest = pick (is_end e && nat_lt (later by e.sync) inf)
  where
    E : Edge → Bool
    E = λ x. is_end x && nat_lt (later by x.sync) inf

    pick : (b : Bool) → total w (map (extended_edge by) (cond b (e ∷ filter E rest) (filter E rest))) ≡ total w (map (extended_edge by) (cond b (e ∷ []) [])) + total w (map (extended_edge by) (filter E rest))
    pick true = omega arith
    pick false = omega arith

pub ends_next : (by : ℕ) (e : Edge) (old rest : List Edge) (before between after : List Pending) (n : (Edge → ℕ) → ℕ) → old ≡ e ∷ rest →
    ((w : Edge → ℕ) → total w (edges_of_pending after) ≡ total w (edges_of_pending between) + total w (extended_ends by (e ∷ []))) →
    ((w : Edge → ℕ) → total w (edges_of_pending between) + total w (extended_ends by old) ≡ n w) →
    (w : Edge → ℕ) → total w (edges_of_pending after) + total w (extended_ends by rest) ≡ n w
ends_next by e old rest before between after n is one all w =
    let a = one w in
    let b = all w in
    let c = ap (λ l. total w (extended_ends by l)) is in
    let d = ends_both by w e rest in
    omega (arith, a, b, c, d)

pub ends_skip : (by : ℕ) (e : Edge) (old rest : List Edge) (between : List Pending) (n : (Edge → ℕ) → ℕ) → old ≡ e ∷ rest → is_end e ≡ false →
    ((w : Edge → ℕ) → total w (edges_of_pending between) + total w (extended_ends by old) ≡ n w) →
    (w : Edge → ℕ) → total w (edges_of_pending between) + total w (extended_ends by rest) ≡ n w
ends_skip by e old rest between n is start all w =
    let b = all w in
    let c = ap (λ l. total w (extended_ends by l)) is in
    let d = ends_both by w e rest in
    let none : total w (extended_ends by (e ∷ [])) ≡ 0 = ap (λ b. total w (map (extended_edge by) (cond (b && nat_lt (later by e.sync) inf) (e ∷ []) []))) start in
    omega (arith, b, c, d, none)

-- STARTS
starts_below : (by u : ℕ) (h : List Edge) → failing (is_below u) h ≡ 0 → failing (is_below u) (extended_starts by h) ≡ 0
starts_below by u h none =
    total-map (λ e. cond {A = ℕ} (is_below u e) 0 1) (extended_edge by) (filter is_start h)
    ∙ total-filter (λ e. cond {A = ℕ} (is_below u (extended_edge by e)) 0 1) is_start h
    ∙ sum_eq (is_below u) (λ e. cond {A = ℕ} (is_start e) (cond (is_below u (extended_edge by e)) 0 1) 0) (λ e. 0) h (λ e k. grind (arith, nat_tests)) none
    ∙ total_zero h

-- A STEP
module _ (by u : ℕ) (all due starts ends answer : List Edge) (before between after : List Pending) (is_due : due ≡ filter (is_below u) all) (is_starts : starts ≡ extended_starts by due)
    (put : (w : Edge → ℕ) → total w (edges_of_pending between) ≡ total w (edges_of_pending before) + total w (extended_ends by due)) (taken : edges_of_pending between ≡ ends ++ edges_of_pending after)
    (low : failing (is_below u) ends ≡ 0) (both : SameBag answer (starts ++ ends)) where
  -- what is answered and what waits is what waited and what is made
  moved : (w : Edge → ℕ) → total w answer + total w (edges_of_pending after) ≡ total w (edges_of_pending before) + total w (extended_edges by (filter (is_below u) all))
  moved w =
      let b1 = both.weigh w in
      let b2 = total-append w starts ends in
      let b3 = put w in
      let b4 = ap (total w) taken in
      let b5 = total-append w ends (edges_of_pending after) in
      let b6 = made_of_both by w (filter (is_below u) all) in
      let b7 = ap (λ es. total w (extended_ends by es)) is_due in
      let b8 = ap (total w) is_starts in
      let b9 = ap (λ es. total w (extended_starts by es)) is_due in
      omega (arith, b1, b2, b3, b4, b5, b6, b7, b8, b9)

  below : failing (is_below u) answer ≡ 0
  below =
      let low_starts : failing (is_below u) starts ≡ 0 = rw (is_starts, is_due) (starts_below by u (filter (is_below u) all) (failing-kept (is_below u) all)) in
      failing-same (is_below u) answer (starts ++ ends) both (failing-append (is_below u) starts ends low_starts low)

  pub extended_between : (x : ℕ) (carried l : List Edge) (kinds : List CellKind) → x ≤ inf → SameBag all (carried ++ l) → failing (is_from x) carried ≡ 0 → failing (is_from x) l ≡ 0 →
      All (λ p. x ≤ p.at) before → All (IsWaitingEnd kinds) before → ComeBetween x u answer
  extended_between x carried l kinds xl same late come due waiting = record {
    from = extended_from by x u carried l all answer (edges_of_pending before) (edges_of_pending after) xl same late come (late_edges kinds x before waiting due) moved;
    below = below;
  }

  pub extended_advance : (texts : List (List ℕ)) (x y v : ℕ) (carried left right out l r rest : List Edge) (kinds : List CellKind) → x ≤ u → u ≤ inf → y ≤ v → v ≤ inf →
      KeepsExtended by texts x y carried (edges_of_pending before) left right out → MayCome texts x left l → MayCome texts y right r →
      SameBag all (carried ++ l) → rest ≡ filter (is_from u) all → All (λ p. u ≤ p.at) after → All (IsWaitingEnd kinds) after → KeepsOrder answer →
      KeepsExtended by texts u v rest (edges_of_pending after) (left ++ l) (right ++ r) (out ++ answer)
  extended_advance texts x y v carried left right out l r rest kinds xu lu yv lv k ml mr same is_rest late waiting order =
      rw is_rest (extended_step by texts x y u v carried (edges_of_pending before) left right out l r all answer (edges_of_pending after) xu lu yv lv k
      ml.history mr.history ml.placed mr.placed ml.from same order below (late_edges kinds u after waiting late) moved)
