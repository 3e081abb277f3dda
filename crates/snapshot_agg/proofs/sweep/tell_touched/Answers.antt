use Rattle.std.specs.Prelude.{◌≡◌, ◌<◌, ℕ, suc, List, Option, map, refl}
use Rattle.tw_rows.specs.Bag.{SameBag}
use Rattle.tw_rows.specs.Event.{AreEvents}
use Rattle.tw_rows.specs.Instant.{inf}
use Rattle.tw_rows.specs.declared.edge.Edge.{Edge}
use Rattle.tw_rows.specs.declared.edge.HeldRow.{HeldRow}
use Rattle.edge_history.specs.History.{CellEvent}
use Rattle.edge_history.specs.Balance.{news}
use Rattle.snapshot_agg.specs.Counting.{AreSwept, IsUndefinedFirst}
use Rattle.snapshot_agg.specs.Living.{IsApplied}
use Rattle.edge_stream.specs.declared.saved.StepFault.TheVariants.{Overflow}
use Rattle.snapshot_agg.proofs.Faults.{handed_on}
use Rattle.std.specs.List.{list_any}
use Rattle.std.proofs.Common.{◌∙◌}
use Rattle.tw_rows.specs.SameCells.{same_cells}
use Rattle.tw_rows.specs.declared.cells.Datum.{Datum}
use Rattle.sweep_laws.specs.Grouping.{keys_of}
use Rattle.snapshot_agg.specs.Words.{key_data, tell}
use Rattle.snapshot_agg.proofs.Touching.{same_keys, ends_over, starts_over}
use Rattle.snapshot_agg.specs.Totaled.{run_of}
use Rattle.snapshot_agg.proofs.Sweeping.{instant_told, instant_undefined}
use Rattle.edge_history.specs.Opens.{bare}
use Rattle.snapshot_agg.proofs.Answering.{instant_so_far}
use Rattle.snapshot_agg.proofs.sweep.tell_touched.Goals as goal

pub returns-in_err-kept-clause-overflow : goal.returns-in_err-kept-clause-overflow
returns-in_err-kept-clause-overflow c =
    let g = c.args.groups.now in
    let u = c.in_err-kept.ensures.undefined in
    let fault = c.in_err-kept.field-0.0 in
    handed_on fault c.from_residual.result
    (λ f. (v : ℕ) → f ≡ Overflow v → (v ≡ c.args.t) × ((now : List Edge) (rows : List HeldRow) (a : List CellEvent) → IsApplied g now rows → c.args.t < inf → AreEvents a → SameBag now (news c.args.t (suc c.args.t) a) → AreSwept g a c.args.t rows c.args.running.now → IsUndefinedFirst g a c.args.t (suc c.args.t) c.args.t))
    c.from_residual.ensures.1
    (λ v e. (
      (u v e).0,
      λ now rows a ap_ low lives is s. instant_undefined g.key.items g.aggs.items c.args.t now rows g.rows.rows.held (run_of c.args.running.now) ap_.moved (u v e).1 a low lives is s,
    ))

pub returns-clause-swept : goal.returns-clause-swept
returns-clause-swept c = λ now rows a applied low lives is s.
    let g = c.args.groups.now in
    let ks = c.as_slice-keys.result.now in
    let own : (q : List Datum) → list_any (same_cells q) ks ≡ list_any (same_cells q) (keys_of (key_data g.key.items) now) =
    same_keys ks g.touched.items g.key.items g.key.items now c.as_slice-keys.ensures.value refl applied.touched in
    let o : List Datum → Option (List Datum) = λ k. tell g.key.items g.aggs.items k (bare g.rows.rows.held) in
    let same : c.as_slice-rows.result.now ≡ map o ks = c.as_slice-rows.ensures.value ∙ c.in_ok-kept.ensures.rows in
    instant_told g.key.items g.aggs.items c.args.t now rows g.rows.rows.held
    (run_of c.args.running.now) (run_of c.emit_ends.new.running) (run_of c.emit_starts.new.running) c.args.answer.now.items c.emit_ends.new.answer.items c.emit_starts.new.answer.items
    applied.moved (λ k e. c.in_ok-kept.ensures.defined k (own k ∙ e))
    (ends_over g.key.items c.args.t now ks o (run_of c.args.running.now) (run_of c.emit_ends.new.running) c.args.answer.now.items c.emit_ends.new.answer.items own (c.in_ok-emit_ends.ensures.told o same))
    (starts_over g.key.items c.args.t now ks o (run_of c.emit_ends.new.running) (run_of c.emit_starts.new.running) c.emit_ends.new.answer.items c.emit_starts.new.answer.items own (c.in_ok-emit_starts.ensures.told o same))
    (c.in_ok-emit_ends.ensures.order o same) c.in_ok-emit_starts.ensures.order a low lives is s

pub returns-clause-so_far : goal.returns-clause-so_far
returns-clause-so_far c = λ now rows left from to applied low mid high stored s.
    let g = c.args.groups.now in
    let ks = c.as_slice-keys.result.now in
    let own : (q : List Datum) → list_any (same_cells q) ks ≡ list_any (same_cells q) (keys_of (key_data g.key.items) now) =
    same_keys ks g.touched.items g.key.items g.key.items now c.as_slice-keys.ensures.value refl applied.touched in
    let o : List Datum → Option (List Datum) = λ k. tell g.key.items g.aggs.items k (bare g.rows.rows.held) in
    let same : c.as_slice-rows.result.now ≡ map o ks = c.as_slice-rows.ensures.value ∙ c.in_ok-kept.ensures.rows in
    instant_so_far g.key.items g.aggs.items left from c.args.t to low mid high now stored (bare g.rows.rows.held)
    (run_of c.args.running.now) (run_of c.emit_ends.new.running) (run_of c.emit_starts.new.running) c.args.answer.now.items c.emit_ends.new.answer.items c.emit_starts.new.answer.items
    (ends_over g.key.items c.args.t now ks o (run_of c.args.running.now) (run_of c.emit_ends.new.running) c.args.answer.now.items c.emit_ends.new.answer.items own (c.in_ok-emit_ends.ensures.told o same))
    (starts_over g.key.items c.args.t now ks o (run_of c.emit_ends.new.running) (run_of c.emit_starts.new.running) c.emit_ends.new.answer.items c.emit_starts.new.answer.items own (c.in_ok-emit_starts.ensures.told o same))
    (c.in_ok-emit_ends.ensures.order o same) c.in_ok-emit_starts.ensures.order s
