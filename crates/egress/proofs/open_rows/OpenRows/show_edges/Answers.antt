use Rattle.std.specs.Prelude.{List, [], All, map, refl}
use Rattle.std.specs.List.{dedup}
use Rattle.std.specs.List.Sorted.{IsStrictlySortedBy}
use Rattle.std.proofs.Common.{sym, ap, ◌∙◌, subst, arith}
use Rattle.std.proofs.lemmas.List.Elements.{All-head}
use Rattle.tw_rows.specs.Event.{alive}
use Rattle.tw_rows.specs.Cells.{ArePlaced, read_cells}
use Rattle.tw_rows.specs.Rows.{row_cmp}
use Rattle.tw_rows.specs.declared.edge.Edge.{Edge}
use Rattle.edge_history.specs.Order.{failing}
use Rattle.plan_laws.specs.Places.{read_events, EdgesArePlaced}
use Rattle.egress.specs.declared.moves.Moves.{Moves}
use Rattle.egress.specs.Instants.{AreMoves}
use Rattle.egress.specs.Kept.{are_placed, ends_in, starts_in, moves_of, rows_of, KeepCells}
use Rattle.egress.specs.Showing.{ShowsInstant}
use Rattle.egress.proofs.Gathered.{same}
use Rattle.egress.proofs.Instant.{keeps_placed, sorted_placed, sorted_pass, gathered_order, gathered_moves}
use Rattle.egress.proofs.Reading.{placed_all}
use Rattle.egress.proofs.Single.{only}
use Rattle.egress.proofs.EdgeMoves.{singles_ended, singles_started, singles_keep, singles_rows}
use Rattle.egress.proofs.Tallied.{ended_often, started_often}
use Rattle.egress.proofs.open_rows.OpenRows.show_edges.Goals as goal

pub show_edge-requires : goal.show_edge-requires
show_edge-requires c =
    let list = only c.args.edges.items c.index-edge.result.now (omega arith) c.index-edge.ensures in
    All-head (λ (e : Edge). ArePlaced c.args.texts.now e.cells) c.index-edge.result.now [] (subst (EdgesArePlaced c.args.texts.now) list c.requires)

pub returns-then-count-eq1-clause-instant : goal.returns-then-count-eq1-clause-instant
returns-then-count-eq1-clause-instant c =
    let list = only c.args.edges.items c.index-edge.result.now (omega arith) c.index-edge.ensures in
    subst (λ es. ShowsInstant c.args.texts.now es c.args.at c.args.self.now c.show_edge.new.self) (sym list) c.in_ok-show_edge.ensures.instant

pub show_singles-requires : goal.show_singles-requires
show_singles-requires c =
    let texts = c.args.texts.now in
    let list = c.as_slice-sorted.result.now in
    let value = c.as_slice-sorted.ensures.value in
    let placed = subst (EdgesArePlaced texts) (sym value) (sorted_placed c.args.edges.items c.sort_by_row.new.edges.items c.sort_by_row.ensures.same texts c.requires) in
    let once = singles_rows texts list ∙ sym (c.if-are_single.ensures refl texts c.len.ensures.distinct placed) in
    record {
      placed = placed;
      ordered = gathered_order c.args.edges.items c.sort_by_row.new.edges.items c.sort_by_row.ensures.same texts (map moves_of list) c.sort_by_row.ensures.sorted
          (once ∙ ap (λ (l : List Edge). dedup same (map (λ e. read_cells texts e.cells) l)) value);
    }

pub returns-then-are_single-clause-instant : goal.returns-then-are_single-clause-instant
returns-then-are_single-clause-instant c =
    let texts = c.args.texts.now in
    let list = c.as_slice-sorted.result.now in
    let is = c.in_ok-show_singles.ensures.instant in
    record {
      shown = λ events valid known opened. is.shown (alive (read_events texts events))
          (gathered_moves c.args.edges.items c.sort_by_row.new.edges.items c.sort_by_row.ensures.same texts (map moves_of list) events c.args.at
          (λ r. singles_ended texts r list ∙ ap (ended_often texts r) c.as_slice-sorted.ensures.value) (λ r. singles_started texts r list ∙ ap (started_often texts r) c.as_slice-sorted.ensures.value) valid known)
          opened;
      passed = λ p none h. is.passed p
          (singles_keep p list (ap (failing (λ (e : Edge). p e.cells)) c.as_slice-sorted.ensures.value ∙ sorted_pass c.args.edges.items c.sort_by_row.new.edges.items c.sort_by_row.ensures.same p none))
          h;
      kept = is.kept;
    }

pub show_instant-requires : goal.show_instant-requires
show_instant-requires c =
    let texts = c.args.texts.now in
    let sorted = c.sort_by_row.new.edges.items in
    let placed = sorted_placed c.args.edges.items sorted c.sort_by_row.ensures.same texts c.requires in
    record {
      placed = subst (λ (l : List Moves). All (λ m. ArePlaced texts m.cells) l) (sym c.deref.ensures.value)
          (keeps_placed texts c.in_ok-touched.touched.items (c.in_ok-touched.ensures.cells (are_placed texts) (placed_all texts c.as_slice-sorted.result.now (subst (EdgesArePlaced texts) (sym c.as_slice-sorted.ensures.value) placed))));
      ordered = subst (λ (l : List Moves). IsStrictlySortedBy row_cmp (rows_of texts l)) (sym c.deref.ensures.value)
          (gathered_order c.args.edges.items sorted c.sort_by_row.ensures.same texts c.in_ok-touched.touched.items c.sort_by_row.ensures.sorted
          (c.in_ok-touched.ensures.rows texts c.len.ensures.distinct (subst (EdgesArePlaced texts) (sym c.as_slice-sorted.ensures.value) placed)
          ∙ ap (λ (l : List Edge). dedup same (map (λ e. read_cells texts e.cells) l)) c.as_slice-sorted.ensures.value));
    }

pub returns-clause-instant : goal.returns-clause-instant
returns-clause-instant c =
    let texts = c.args.texts.now in
    let is = c.in_ok-show_instant.ensures.instant in
    record {
      shown = λ events valid known opened. is.shown (alive (read_events texts events))
          (subst (λ (l : List Moves). AreMoves (alive (read_events texts events)) c.args.at (ends_in texts l) (starts_in texts l)) (sym c.deref.ensures.value)
          (gathered_moves c.args.edges.items c.sort_by_row.new.edges.items c.sort_by_row.ensures.same texts c.in_ok-touched.touched.items events c.args.at
          (λ r. c.in_ok-touched.ensures.ends texts r ∙ ap (ended_often texts r) c.as_slice-sorted.ensures.value) (λ r. c.in_ok-touched.ensures.starts texts r ∙ ap (started_often texts r) c.as_slice-sorted.ensures.value) valid known))
          opened;
      passed = λ p none h. is.passed p
          (subst (λ (l : List Moves). KeepCells p l) (sym c.deref.ensures.value)
          (c.in_ok-touched.ensures.cells p (ap (failing (λ (e : Edge). p e.cells)) c.as_slice-sorted.ensures.value ∙ sorted_pass c.args.edges.items c.sort_by_row.new.edges.items c.sort_by_row.ensures.same p none)))
          h;
      kept = is.kept;
    }
