use Rattle.std.specs.Prelude.{◌≡◌, ◌<◌, ◌≤◌, ◌*◌, ◌++◌, ℕ, suc, List}
use Rattle.std.specs.List.{list_any}
use Rattle.std.proofs.Common.{◌∙◌, ap, sym, subst, arith}
use Rattle.tw_rows.specs.Bag.{SameBag}
use Rattle.tw_rows.specs.Event.{AreEvents}
use Rattle.tw_rows.specs.Instant.{inf}
use Rattle.tw_rows.specs.SameCells.{same_cells}
use Rattle.tw_rows.specs.declared.edge.Edge.{Edge}
use Rattle.tw_rows.specs.declared.edge.HeldRow.{HeldRow}
use Rattle.edge_history.specs.History.{CellEvent}
use Rattle.edge_history.specs.Balance.{news}
use Rattle.edge_stream.specs.declared.saved.StepFault.TheVariants.{Overflow}
use Rattle.sweep_laws.specs.Grouping.{keys_of}
use Rattle.sweep_sides.specs.Waiting.{queued}
use Rattle.snapshot_agg.specs.Counting.{AreSwept, IsUndefinedFirst}
use Rattle.snapshot_agg.specs.Living.{IsApplied, AreBegun, AreLate, AreLived, AreRefused, TouchesAll, to_come}
use Rattle.snapshot_agg.specs.Totaled.{run_of}
use Rattle.snapshot_agg.specs.Words.{key_data}
use Rattle.snapshot_agg.proofs.Beginning.{touches_both}
use Rattle.snapshot_agg.proofs.Faults.{on_any, on_both_ok, of_fault}
use Rattle.snapshot_agg.proofs.Instants.{later_late, singles_late, lower_rises, rises_past, come_late, ends_late, now_moved, now_lived, now_refused}
use Rattle.snapshot_agg.proofs.Sweeping.{InstantTold, InstantUndefined, InstantSoFar, for_both}
use Rattle.snapshot_agg.proofs.intervals.live_instant.Goals as goal

pub returns-clause-late : goal.returns-clause-late
returns-clause-late c =
    let g = c.args.groups.now in
    let gb = c.begin.new.self in
    let gs = c.start_rows.new.groups in
    let ge = c.end_rows.new.groups in
    let t = c.args.t in
    let rows0 = g.rows.rows.held in
    let w0 = c.args.waiting.now in
    let w1 = c.start_rows.new.waiting in
    let e0 = c.args.cursor.now.edges in
    let e1 = c.start_rows.new.cursor.edges in
    let come0 = to_come g.rows.rows.ends w0 e0 in
    let s = c.in_ok-start_rows.ensures in
    let n = c.in_ok-end_rows.ensures in
    let b = subst (λ r. AreBegun s.begun.0 t r.rows.held gs.rows.rows.held (to_come r.rows.ends w0 e0) (to_come gs.rows.rows.ends w1 e1)) c.begin.ensures.rows s.begun.1 in
    let late0 = come_late t g.rows.rows.ends w0 e0 c.requires.ends (later_late t (suc t) (queued w0) (omega arith) c.requires.waits)
    (singles_late t e0 (lower_rises (2 * t) (suc (2 * t)) e0 (omega arith) c.requires.order)) in
    let after = come_late (suc t) ge.rows.rows.ends w1 e1 (n.late (ends_late s.begun.0 t rows0 gs.rows.rows.held come0 gs.rows.rows.ends e1 w1 b late0)) (s.late c.requires.waits)
    (singles_late (suc t) e1 (rises_past t e1 s.order s.past)) in
    on_any c.tell_touched.result (AreLate (suc t) (to_come ge.rows.rows.ends w1 e1)) after

pub returns-clause-lived : goal.returns-clause-lived
returns-clause-lived c =
    let g = c.args.groups.now in
    let gb = c.begin.new.self in
    let gs = c.start_rows.new.groups in
    let ge = c.end_rows.new.groups in
    let t = c.args.t in
    let rows0 = g.rows.rows.held in
    let w0 = c.args.waiting.now in
    let w1 = c.start_rows.new.waiting in
    let e0 = c.args.cursor.now.edges in
    let e1 = c.start_rows.new.cursor.edges in
    let come0 = to_come g.rows.rows.ends w0 e0 in
    let s = c.in_ok-start_rows.ensures in
    let n = c.in_ok-end_rows.ensures in
    let b = subst (λ r. AreBegun s.begun.0 t r.rows.held gs.rows.rows.held (to_come r.rows.ends w0 e0) (to_come gs.rows.rows.ends w1 e1)) c.begin.ensures.rows s.begun.1 in
    let late0 = come_late t g.rows.rows.ends w0 e0 c.requires.ends (later_late t (suc t) (queued w0) (omega arith) c.requires.waits)
    (singles_late t e0 (lower_rises (2 * t) (suc (2 * t)) e0 (omega arith) c.requires.order)) in
    let after = come_late (suc t) ge.rows.rows.ends w1 e1 (n.late (ends_late s.begun.0 t rows0 gs.rows.rows.held come0 gs.rows.rows.ends e1 w1 b late0)) (s.late c.requires.waits)
    (singles_late (suc t) e1 (rises_past t e1 s.order s.past)) in
    let now = n.gone.0 ++ s.begun.0 in
    let key = ap (λ k. k.items) (c.end_rows.ensures.key ∙ c.start_rows.ensures.key ∙ c.begin.ensures.key) in
    let aggs = ap (λ k. k.items) (c.end_rows.ensures.aggs ∙ c.start_rows.ensures.aggs ∙ c.begin.ensures.aggs) in
    let first : TouchesAll gb.touched.items gs.touched.items (keys_of (key_data g.key.items) s.begun.0) =
    subst (λ k. TouchesAll gb.touched.items gs.touched.items (keys_of (key_data k.items) s.begun.0)) c.begin.ensures.key s.begun.2 in
    let last : TouchesAll gs.touched.items ge.touched.items (keys_of (key_data g.key.items) n.gone.0) =
    subst (λ k. TouchesAll gs.touched.items ge.touched.items (keys_of (key_data k.items) n.gone.0)) (c.start_rows.ensures.key ∙ c.begin.ensures.key) n.gone.2 in
    let applied : IsApplied ge now rows0 = record {
      moved = now_moved n.gone.0 s.begun.0 t rows0 gs.rows.rows ge.rows.rows come0 e1 w1 b n.gone.1;
      touched = λ q. touches_both (key_data g.key.items) gb.touched.items gs.touched.items ge.touched.items s.begun.0 n.gone.0 first last q c.in_ok-begin.ensures.none
          ∙ ap (λ k. list_any (same_cells q) (keys_of (key_data k) now)) (sym key);
    } in
    let run0 = run_of c.args.running.now in
    let run1 = run_of c.tell_touched.new.running in
    let a0 = c.args.answer.now.items in
    let a1 = c.tell_touched.new.answer.items in
    on_both_ok c.tell_touched.result _ _
    ((from : ℕ) → from ≤ t → (due : List Edge) × AreLived g.key.items g.aggs.items rows0 ge.rows.rows.held run0 run1 come0 (to_come ge.rows.rows.ends w1 e1) from (suc t) a0 a1 due)
    (λ swept so_far from low. (
      now,
      now_lived n.gone.0 s.begun.0 t rows0 gs.rows.rows ge.rows.rows come0 e1 w1 b n.gone.1 c.requires.some after g.key.items g.aggs.items from low run0 run1 a0 a1
          (for_both (InstantTold t now rows0 ge.rows.rows.held run0 run1 a0 a1) ge.key.items g.key.items ge.aggs.items g.aggs.items key aggs (λ a early lives is y. swept now rows0 a applied early lives is y))
          (λ left lo to under high within stored y. for_both (InstantSoFar left lo to t now run0 run1 a0 a1) ge.key.items g.key.items ge.aggs.items g.aggs.items key aggs
          (λ f m z k. so_far now rows0 left lo to applied f m within z k) under high stored y),
    ))
    c.tell_touched.ensures.swept c.tell_touched.ensures.so_far

pub returns-clause-refused : goal.returns-clause-refused
returns-clause-refused c =
    let g = c.args.groups.now in
    let gb = c.begin.new.self in
    let gs = c.start_rows.new.groups in
    let ge = c.end_rows.new.groups in
    let t = c.args.t in
    let rows0 = g.rows.rows.held in
    let w0 = c.args.waiting.now in
    let w1 = c.start_rows.new.waiting in
    let e0 = c.args.cursor.now.edges in
    let e1 = c.start_rows.new.cursor.edges in
    let come0 = to_come g.rows.rows.ends w0 e0 in
    let s = c.in_ok-start_rows.ensures in
    let n = c.in_ok-end_rows.ensures in
    let b = subst (λ r. AreBegun s.begun.0 t r.rows.held gs.rows.rows.held (to_come r.rows.ends w0 e0) (to_come gs.rows.rows.ends w1 e1)) c.begin.ensures.rows s.begun.1 in
    let late0 = come_late t g.rows.rows.ends w0 e0 c.requires.ends (later_late t (suc t) (queued w0) (omega arith) c.requires.waits)
    (singles_late t e0 (lower_rises (2 * t) (suc (2 * t)) e0 (omega arith) c.requires.order)) in
    let after = come_late (suc t) ge.rows.rows.ends w1 e1 (n.late (ends_late s.begun.0 t rows0 gs.rows.rows.held come0 gs.rows.rows.ends e1 w1 b late0)) (s.late c.requires.waits)
    (singles_late (suc t) e1 (rises_past t e1 s.order s.past)) in
    let now = n.gone.0 ++ s.begun.0 in
    let key = ap (λ k. k.items) (c.end_rows.ensures.key ∙ c.start_rows.ensures.key ∙ c.begin.ensures.key) in
    let aggs = ap (λ k. k.items) (c.end_rows.ensures.aggs ∙ c.start_rows.ensures.aggs ∙ c.begin.ensures.aggs) in
    let first : TouchesAll gb.touched.items gs.touched.items (keys_of (key_data g.key.items) s.begun.0) =
    subst (λ k. TouchesAll gb.touched.items gs.touched.items (keys_of (key_data k.items) s.begun.0)) c.begin.ensures.key s.begun.2 in
    let last : TouchesAll gs.touched.items ge.touched.items (keys_of (key_data g.key.items) n.gone.0) =
    subst (λ k. TouchesAll gs.touched.items ge.touched.items (keys_of (key_data k.items) n.gone.0)) (c.start_rows.ensures.key ∙ c.begin.ensures.key) n.gone.2 in
    let applied : IsApplied ge now rows0 = record {
      moved = now_moved n.gone.0 s.begun.0 t rows0 gs.rows.rows ge.rows.rows come0 e1 w1 b n.gone.1;
      touched = λ q. touches_both (key_data g.key.items) gb.touched.items gs.touched.items ge.touched.items s.begun.0 n.gone.0 first last q c.in_ok-begin.ensures.none
          ∙ ap (λ k. list_any (same_cells q) (keys_of (key_data k) now)) (sym key);
    } in
    let run0 = run_of c.args.running.now in
    of_fault c.tell_touched.result
    (λ f. (v : ℕ) → f ≡ Overflow v → (v ≡ t) × ((now : List Edge) (rows : List HeldRow) (a : List CellEvent) → IsApplied ge now rows → t < inf → AreEvents a → SameBag now (news t (suc t) a) → AreSwept ge a t rows c.args.running.now → IsUndefinedFirst ge a t (suc t) t))
    (λ f. (v : ℕ) → f ≡ Overflow v → (v ≡ t) × ((from : ℕ) → from ≤ t → (due : List Edge) × (come : List Edge) × AreRefused g.key.items g.aggs.items rows0 run0 come0 come from (suc t) t due))
    (λ f h v e. (
      (h v e).0,
      λ from low. (
        now,
        to_come ge.rows.rows.ends w1 e1,
        now_refused n.gone.0 s.begun.0 t rows0 gs.rows.rows ge.rows.rows come0 e1 w1 b n.gone.1 c.requires.some after g.key.items g.aggs.items from low run0
            (for_both (InstantUndefined t now rows0 run0) ge.key.items g.key.items ge.aggs.items g.aggs.items key aggs (λ a early lives is y. (h v e).1 now rows0 a applied early lives is y)),
      ),
    ))
    c.tell_touched.ensures.overflow
