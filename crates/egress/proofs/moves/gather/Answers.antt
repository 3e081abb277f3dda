use Rattle.std.proofs.Common.{◌≡◌, ◌+◌, ◌++◌, [], ◌∷◌, true, map, ◌∙◌, sym, ap, subst, take}
use Rattle.std.specs.List.{dedup}
use Rattle.std.proofs.lemmas.List.{map_more}
use Rattle.std.proofs.lemmas.List.Elements.{All-get_or}
use Rattle.tw_rows.specs.Cells.{ArePlaced, read_cells}
use Rattle.tw_rows.specs.declared.edge.Edge.{Edge}
use Rattle.egress.specs.Kept.{are_placed}
use Rattle.egress.proofs.Gathered.{same}
use Rattle.egress.proofs.Instant.{keeps_placed}
use Rattle.egress.proofs.Reading.{placed_all}
use Rattle.egress.proofs.Tallied.{passes_at, how_ended, how_started, ended_more, started_more}
use Rattle.egress.proofs.moves.gather.Goals as goal

pub loop-edge-preserved : goal.loop-edge-preserved
loop-edge-preserved c = record {
  ends = λ texts r. c.in_ok-count_edge.ensures.ends texts r
      ∙ (λ i. c.loop-edge.invariant.ends texts r i + how_ended texts r (c.edge-item.is i))
      ∙ sym (ended_more texts r c.args.edges.now c.loop-edge.edge-index c.edge-item.result c.loop-edge-test.true);
  starts = λ texts r. c.in_ok-count_edge.ensures.starts texts r
      ∙ (λ i. c.loop-edge.invariant.starts texts r i + how_started texts r (c.edge-item.is i))
      ∙ sym (started_more texts r c.args.edges.now c.loop-edge.edge-index c.edge-item.result c.loop-edge-test.true);
  rows = λ texts distinct placed.
      let own = subst (λ (e : Edge). ArePlaced texts e.cells) (sym c.edge-item.is) (All-get_or (λ (e : Edge). ArePlaced texts e.cells) c.args.edges.now c.loop-edge.edge-index c.edge-item.result c.loop-edge-test.true placed) in
      c.in_ok-count_edge.ensures.rows texts distinct (map (λ (e : Edge). read_cells texts e.cells) (take c.loop-edge.edge-index c.args.edges.now)) (keeps_placed texts c.loop-edge.touched.items (c.loop-edge.invariant.cells (are_placed texts) (placed_all texts c.args.edges.now placed))) own (c.loop-edge.invariant.rows texts distinct placed)
      ∙ ap (λ l. dedup same l) (
      (λ i. map (λ (e : Edge). read_cells texts e.cells) (take c.loop-edge.edge-index c.args.edges.now) ++ read_cells texts (c.edge-item.is i).cells ∷ [])
      ∙ sym (map_more (λ (e : Edge). read_cells texts e.cells) c.args.edges.now c.loop-edge.edge-index c.edge-item.result c.loop-edge-test.true));
  cells = λ p none. c.in_ok-count_edge.ensures.cells p
      (subst (λ (e : Edge). p e.cells ≡ true) (sym c.edge-item.is) (passes_at (λ e. p e.cells) c.args.edges.now c.loop-edge.edge-index c.edge-item.result c.loop-edge-test.true none))
      (c.loop-edge.invariant.cells p none);
}
