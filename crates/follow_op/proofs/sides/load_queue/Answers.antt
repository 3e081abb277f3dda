use Rattle.std.proofs.Common.{rules, ◌∙◌, ap, sym, subst, List}
use Rattle.tw_rows.specs.Bag.{SameBag}
use Rattle.tw_rows.specs.declared.edge.Edge.{Edge}
use Rattle.tw_rows.specs.declared.edge.HeldRow.{HeldRow}
use Rattle.tw_rows.proofs.Bags.{SameBag-from_IsPermutation, SameBag-map, SameBag-sym}
use Rattle.std.proofs.lemmas.List.Sorted.{IsNonDecreasingBy-from_sort_by_key}
use Rattle.edge_stream.specs.Entries.{part_of}
use Rattle.sweep_laws.specs.Saving.{rows_of}
use Rattle.sweep_sides.proofs.TakenIn.{syncs_sorted}
use Rattle.follow_op.specs.Waits.{StartsRise}
use Rattle.follow_op.proofs.Taken.{rise_loaded}
use Rattle.follow_op.proofs.sides.load_queue.Goals as goal

pub returns-clause-rows : goal.returns-clause-rows
returns-clause-rows c =
    let loaded = c.in_ok-queue.ensures ∙ ap rows_of c.as_slice.ensures.value in
    let edges = c.in_ok-edges.edges.items in
    let g : Edge → HeldRow = λ x. record { cells = x.cells; start = x.sync } in
    let same = SameBag-map g c.sort_by_key.new.self.items edges (SameBag-sym _ _ (SameBag-from_IsPermutation _ _ c.in_ok-sort_by_key.ensures.permutation)) in
    subst (λ (l : List HeldRow). SameBag l (rows_of (part_of c.args.part c.args.saved.now))) (sym loaded) (subst (λ (l : List Edge). SameBag (rows_of c.sort_by_key.new.self.items) (rows_of l)) c.in_ok-edges.ensures same)

pub returns-clause-order : goal.returns-clause-order
returns-clause-order c =
    let loaded = c.in_ok-queue.ensures ∙ ap rows_of c.as_slice.ensures.value in
    subst (λ (l : List HeldRow). StartsRise 0 l) (sym loaded)
    (rise_loaded 0 c.sort_by_key.new.self.items (syncs_sorted _ (IsNonDecreasingBy-from_sort_by_key (λ (e : Edge). e.sync) _ c.in_ok-sort_by_key.ensures.sorted (λ a r q k. search rules))))
