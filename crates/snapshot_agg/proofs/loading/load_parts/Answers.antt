use Rattle.std.proofs.Common.{◌∙◌, sym, length, ap, map, subst}
use Rattle.tw_rows.specs.Bag.{SameBag}
use Rattle.tw_rows.specs.Kinds.{cell_kind_of}
use Rattle.edge_stream.specs.Entries.{part_of}
use Rattle.sweep_laws.specs.Saving.{rows_of}
use Rattle.sweep_sides.specs.Sides.{IsSide}
use Rattle.sweep_sides.proofs.KeptSides.{side_loaded}
use Rattle.snapshot_agg.specs.Saving.{run_among}
use Rattle.snapshot_agg.proofs.loading.load_parts.Goals as goal

pub returns-clause-runs : goal.returns-clause-runs
returns-clause-runs c = λ k.
    c.in_ok-running.ensures k ∙ ap (λ s. run_among (length c.args.key.now) s k) (c.deref-2.ensures.value ∙ c.in_ok-emitted.ensures)

pub returns-clause-side : goal.returns-clause-side
returns-clause-side c =
    let left = map cell_kind_of c.args.left_kinds.now in
    let rows = c.in_ok-groups.groups.rows.rows.held in
    let state = c.is_state.ensures.0 c.if-not-is_state.false in
    subst (IsSide left c.args.to rows) (sym c.of.ensures)
    (side_loaded left c.args.to rows c.in_ok-waiting.waiting (part_of 0 c.args.saved.now) (part_of 1 c.args.saved.now)
    (subst (λ l. SameBag rows (rows_of l)) (c.deref.ensures.value ∙ c.in_ok-rows.ensures) c.in_ok-groups.ensures.rows)
    c.in_ok-waiting.ensures.edges c.in_ok-waiting.ensures.timed state.rows state.waiting)
