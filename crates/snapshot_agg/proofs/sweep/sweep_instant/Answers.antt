use Rattle.std.specs.Prelude.{◌≡◌, ◌<◌, ◌≤◌, ℕ, suc, List}
use Rattle.std.proofs.Common.{◌∙◌, ap, sym}
use Rattle.std.specs.List.{list_any}
use Rattle.tw_rows.specs.SameCells.{same_cells}
use Rattle.tw_rows.specs.declared.kind.CellKind.{CellKind}
use Rattle.tw_rows.specs.Bag.{SameBag}
use Rattle.tw_rows.specs.Event.{AreEvents}
use Rattle.tw_rows.specs.Instant.{inf}
use Rattle.edge_history.specs.History.{CellEvent}
use Rattle.edge_history.specs.Balance.{news}
use Rattle.edge_history.specs.Order.{failing}
use Rattle.edge_stream.specs.declared.saved.StepFault.TheVariants.{Overflow}
use Rattle.tw_rows.specs.declared.edge.Edge.{Edge}
use Rattle.tw_rows.specs.declared.edge.HeldRow.{HeldRow}
use Rattle.sweep_laws.specs.Grouping.{keys_of}
use Rattle.snapshot_agg.specs.Answering.{is_stored}
use Rattle.snapshot_agg.specs.Counting.{AreSwept, IsUndefinedFirst, AreEmitted}
use Rattle.snapshot_agg.specs.Living.{IsApplied}
use Rattle.snapshot_agg.specs.Words.{key_data}
use Rattle.snapshot_agg.specs.Totaled.{run_of}
use Rattle.snapshot_agg.proofs.Faults.{on_ok, of_fault}
use Rattle.snapshot_agg.proofs.Sweeping.{InstantTold, InstantUndefined, InstantSoFar, for_both}
use Rattle.snapshot_agg.proofs.sweep.sweep_instant.Goals as goal

pub returns-clause-overflow : goal.returns-clause-overflow
returns-clause-overflow c =
    let g = c.args.groups.now in
    let g1 = c.apply.new.groups in
    let t = c.args.t in
    let now = c.args.now.now in
    let rows = g.rows.rows.held in
    let k = ap (λ x. x.items) c.in_ok-apply.ensures.key in
    let b = ap (λ x. x.items) c.in_ok-apply.ensures.aggs in
    let applied : IsApplied g1 now rows = record {
      moved = c.in_ok-apply.ensures.moved;
      touched = λ q. c.in_ok-apply.ensures.touched q ∙ ap (λ l. list_any (same_cells q) (keys_of (key_data l) now)) (sym k);
    } in
    of_fault c.tell_touched.result
    (λ f. (v : ℕ) → f ≡ Overflow v → (v ≡ t) × ((now : List Edge) (rows : List HeldRow) (a : List CellEvent) → IsApplied g1 now rows → t < inf → AreEvents a → SameBag now (news t (suc t) a) → AreSwept g1 a t rows c.args.running.now → IsUndefinedFirst g1 a t (suc t) t))
    (λ f. (v : ℕ) → f ≡ Overflow v → (v ≡ t) × InstantUndefined t now rows (run_of c.args.running.now) g.key.items g.aggs.items)
    (λ f h v e. (
      (h v e).0,
      for_both (InstantUndefined t now rows (run_of c.args.running.now)) g1.key.items g.key.items g1.aggs.items g.aggs.items k b
          (λ a low lives is s. (h v e).1 now rows a applied low lives is s),
    ))
    c.tell_touched.ensures.overflow

pub returns-clause-swept : goal.returns-clause-swept
returns-clause-swept c =
    let g = c.args.groups.now in
    let g1 = c.apply.new.groups in
    let t = c.args.t in
    let now = c.args.now.now in
    let rows = g.rows.rows.held in
    let run = run_of c.args.running.now in
    let run2 = run_of c.tell_touched.new.running in
    let k = ap (λ x. x.items) c.in_ok-apply.ensures.key in
    let b = ap (λ x. x.items) c.in_ok-apply.ensures.aggs in
    let applied : IsApplied g1 now rows = record {
      moved = c.in_ok-apply.ensures.moved;
      touched = λ q. c.in_ok-apply.ensures.touched q ∙ ap (λ l. list_any (same_cells q) (keys_of (key_data l) now)) (sym k);
    } in
    on_ok c.tell_touched.result _ (InstantTold t now rows g1.rows.rows.held run run2 c.args.answer.now.items c.tell_touched.new.answer.items g.key.items g.aggs.items)
    (λ h. for_both (InstantTold t now rows g1.rows.rows.held run run2 c.args.answer.now.items c.tell_touched.new.answer.items) g1.key.items g.key.items g1.aggs.items g.aggs.items k b
    (λ a low lives is s. h now rows a applied low lives is s))
    c.tell_touched.ensures.swept

pub returns-clause-so_far : goal.returns-clause-so_far
returns-clause-so_far c =
    let g = c.args.groups.now in
    let g1 = c.apply.new.groups in
    let t = c.args.t in
    let now = c.args.now.now in
    let rows = g.rows.rows.held in
    let run = run_of c.args.running.now in
    let run2 = run_of c.tell_touched.new.running in
    let k = ap (λ x. x.items) c.in_ok-apply.ensures.key in
    let b = ap (λ x. x.items) c.in_ok-apply.ensures.aggs in
    let applied : IsApplied g1 now rows = record {
      moved = c.in_ok-apply.ensures.moved;
      touched = λ q. c.in_ok-apply.ensures.touched q ∙ ap (λ l. list_any (same_cells q) (keys_of (key_data l) now)) (sym k);
    } in
    on_ok c.tell_touched.result _
    ((left : List CellKind) (from to : ℕ) → from ≤ t → t < to → to ≤ inf → failing (is_stored left) now ≡ 0 →
    AreEmitted g left from t to c.args.running.now c.args.answer.now.items → AreEmitted g left from (suc t) to c.tell_touched.new.running c.tell_touched.new.answer.items)
    (λ h left from to low mid high stored s. for_both (InstantSoFar left from to t now run run2 c.args.answer.now.items c.tell_touched.new.answer.items) g1.key.items g.key.items g1.aggs.items g.aggs.items k b
    (λ f m z y. h now rows left from to applied f m high z y) low mid stored s)
    c.tell_touched.ensures.so_far
