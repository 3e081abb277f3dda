use Rattle.std.specs.Prelude.{◌≡◌, ℕ, ◌++◌, true, false, Some, map, All}
use Rattle.std.proofs.Common.{◌∙◌, sym, subst, ap, arith}
use Rattle.std.proofs.lemmas.List.Elements.{All-append}
use Rattle.tw_rows.specs.Cells.{datum_kind}
use Rattle.tw_rows.specs.Kinds.{cell_kind_of}
use Rattle.edge_history.specs.Order.{KeepsOrder}
use Rattle.edge_stream.specs.Listing.{cells_of}
use Rattle.edge_stream.proofs.Filling.{batches_given-capacity, batches_taken-capacity}
use Rattle.edge_stream.proofs.Pools.{some-capacity, some-limit, batches_taken-limit}
use Rattle.tw_rows.specs.declared.edge.Edge.{Edge}
use Rattle.edge_stream.specs.declared.saved.StepFault.TheVariants.{Overflow}
use Rattle.edge_stream.specs.Steps.{ComeBetween, IsFirstUndefined}
use Rattle.sweep_sides.specs.Sides.{IsSide}
use Rattle.snapshot_agg.specs.Answering.{group_kinds}
use Rattle.snapshot_agg.specs.Counting.{AreKept, pending_of}
use Rattle.snapshot_agg.specs.Operating.{standing, IsKept}
use Rattle.snapshot_agg.specs.Totaled.{run_of}
use Rattle.snapshot_agg.proofs.Faults.{handed_on}
use Rattle.sweep_sides.proofs.GivenBack.{both_given-capacity, both_given-limit}
use Rattle.snapshot_agg.proofs.Stepping.{so_far_in, so_far_whole}
use Rattle.snapshot_agg.proofs.grouped.Grouped.advance.Goals as goal

failed : {P : Type 0} → true ≡ false → P
failed f = absurd (cc)

pub give_back-requires-2 : goal.give_back-requires-2
give_back-requires-2 c =
    ap (λ s. s.capacity) c.give_back.ensures ∙ batches_given-capacity c.args.right.batches c.args.pools.now (cells_of c.args.right)
    ∙ c.requires.capacity ∙ sym c.requires.left_capacity

pub returns-in_err-edges-clause-overflow : goal.returns-in_err-edges-clause-overflow
returns-in_err-edges-clause-overflow c =
    let s = c.args.self.now in
    handed_on c.in_err-edges.field-0.0 c.from_residual.result
    (λ fault. (time : ℕ) → fault ≡ Overflow time → IsFirstUndefined (standing s) (IsKept s) c.args.left.edges c.args.left_to c.args.right_to (Some time))
    c.from_residual.ensures.1
    (λ time e texts hl hr out apart k ml.
    c.groups_stand_for_their_node.ensures.undefined 0 s.groups.key.items s.groups.aggs.items texts (hl ++ c.args.left.edges) c.args.left_to apart ml.placed
    ∙ c.in_err-edges.ensures.overflow time e hl out k.group (record { history = ml.history; from = ml.from }))

pub from_edges-requires-clause-order : goal.from_edges-requires-clause-order
from_edges-requires-clause-order c =
    let s = c.args.self.now in
    let own = map cell_kind_of s.kinds.items in
    let f = so_far_in s.groups.key.items s.groups.aggs.items (map cell_kind_of s.left_kinds.items) (cells_of c.args.left) own s.left_to c.args.left_to (run_of s.running) (run_of c.emit_due-emitted.new.running) c.in_ok-edges.edges.items
    s.like c.requires.left_kinds (s.runs c.requires.works) c.in_ok-edges.ensures.so_far in
    subst KeepsOrder (sym c.deref-2.ensures.value) (so_far_whole own s.left_to c.args.left_to (run_of c.emit_due-emitted.new.running) c.in_ok-edges.edges.items f).0

pub from_edges-requires-clause-cells : goal.from_edges-requires-clause-cells
from_edges-requires-clause-cells c =
    let s = c.args.self.now in
    let own = map cell_kind_of s.kinds.items in
    let f = so_far_in s.groups.key.items s.groups.aggs.items (map cell_kind_of s.left_kinds.items) (cells_of c.args.left) own s.left_to c.args.left_to (run_of s.running) (run_of c.emit_due-emitted.new.running) c.in_ok-edges.edges.items
    s.like c.requires.left_kinds (s.runs c.requires.works) c.in_ok-edges.ensures.so_far in
    subst (λ l. All (λ e. map datum_kind e.cells ≡ map cell_kind_of c.deref.result.now) l) (sym c.deref-2.ensures.value)
    (subst (λ k. All (λ e. map datum_kind e.cells ≡ map cell_kind_of k) c.in_ok-edges.edges.items) (sym c.deref.ensures.value)
    (so_far_whole own s.left_to c.args.left_to (run_of c.emit_due-emitted.new.running) c.in_ok-edges.edges.items f).1)

pub from_edges-requires-clause-room : goal.from_edges-requires-clause-room
from_edges-requires-clause-room c =
    let room = c.args.self.now.room in
    let same = both_given-capacity c.args.right c.args.left c.args.pools.now c.give_back.new.pools c.give_back-2.new.pools c.give_back.ensures c.give_back-2.ensures in
    let own = c.requires.capacity in
    omega (arith, room, same, own)

pub invariant_of-self : goal.invariant_of-self
invariant_of-self c =
    let s = c.args.self.now in
    let k = c.emit_due-emitted.ensures.key in
    let a = c.emit_due-emitted.ensures.aggs in
    record {
      counted = λ f. failed f;
      side = λ f. failed f;
      runs = λ f. failed f;
      few = c.emit_due-emitted.ensures.few;
      like = s.like ∙ (λ i. group_kinds (sym k i).items (sym a i).items (map cell_kind_of s.left_kinds.items));
      width = s.width;
      room = s.room;
    }

pub invariant_of-self-2 : goal.invariant_of-self-2
invariant_of-self-2 c =
    let s = c.args.self.now in
    let own = map cell_kind_of s.kinds.items in
    let k = c.emit_due-emitted.ensures.key in
    let a = c.emit_due-emitted.ensures.aggs in
    let f = so_far_in s.groups.key.items s.groups.aggs.items (map cell_kind_of s.left_kinds.items) (cells_of c.args.left) own s.left_to c.args.left_to (run_of s.running) (run_of c.emit_due-emitted.new.running) c.in_ok-edges.edges.items
    s.like c.requires.left_kinds (s.runs c.requires.works) c.in_ok-edges.ensures.so_far in
    record {
      counted = λ z. c.in_ok-edges.ensures.counted;
      side = λ z. subst (λ k. IsSide k c.args.left_to c.emit_due-emitted.new.groups.rows.rows.held (pending_of c.emit_due-emitted.new.groups c.emit_due-emitted.new.waiting)) c.requires.left_kinds c.in_ok-edges.ensures.side;
      runs = λ z. f.runs;
      few = c.emit_due-emitted.ensures.few;
      like = s.like ∙ (λ i. group_kinds (sym k i).items (sym a i).items (map cell_kind_of s.left_kinds.items));
      width = s.width;
      room = s.room;
    }

pub returns-in_err-edges-clause-pools : goal.returns-in_err-edges-clause-pools
returns-in_err-edges-clause-pools c =
    both_given-capacity c.args.right c.args.left c.args.pools.now c.give_back.new.pools c.give_back-2.new.pools c.give_back.ensures c.give_back-2.ensures

pub returns-in_err-edges-clause-limit : goal.returns-in_err-edges-clause-limit
returns-in_err-edges-clause-limit c =
    both_given-limit c.args.right c.args.left c.args.pools.now c.give_back.new.pools c.give_back-2.new.pools c.give_back.ensures c.give_back-2.ensures

pub returns-in_err-answer-clause-pools : goal.returns-in_err-answer-clause-pools
returns-in_err-answer-clause-pools c =
    some-capacity c.give_back-2.new.pools c.from_edges.new.pools (map cell_kind_of c.deref.result.now) c.in_err-answer.ensures.err_pools
    ∙ both_given-capacity c.args.right c.args.left c.args.pools.now c.give_back.new.pools c.give_back-2.new.pools c.give_back.ensures c.give_back-2.ensures

pub returns-in_err-answer-clause-limit : goal.returns-in_err-answer-clause-limit
returns-in_err-answer-clause-limit c =
    some-limit c.give_back-2.new.pools c.from_edges.new.pools (map cell_kind_of c.deref.result.now) c.in_err-answer.ensures.err_pools
    ∙ both_given-limit c.args.right c.args.left c.args.pools.now c.give_back.new.pools c.give_back-2.new.pools c.give_back.ensures c.give_back-2.ensures

pub returns-clause-pools : goal.returns-clause-pools
returns-clause-pools c =
    ap (λ s. s.capacity) c.in_ok-answer.ensures.pools ∙ batches_taken-capacity c.in_ok-answer.answer.batches c.give_back-2.new.pools (cells_of c.in_ok-answer.answer)
    ∙ both_given-capacity c.args.right c.args.left c.args.pools.now c.give_back.new.pools c.give_back-2.new.pools c.give_back.ensures c.give_back-2.ensures

pub returns-clause-limit : goal.returns-clause-limit
returns-clause-limit c =
    ap (λ s. s.limit) c.in_ok-answer.ensures.pools ∙ batches_taken-limit c.in_ok-answer.answer.batches c.give_back-2.new.pools (cells_of c.in_ok-answer.answer)
    ∙ both_given-limit c.args.right c.args.left c.args.pools.now c.give_back.new.pools c.give_back-2.new.pools c.give_back.ensures c.give_back-2.ensures

pub returns-clause-answer_capacity : goal.returns-clause-answer_capacity
returns-clause-answer_capacity c =
    c.in_ok-answer.ensures.capacity
    ∙ both_given-capacity c.args.right c.args.left c.args.pools.now c.give_back.new.pools c.give_back-2.new.pools c.give_back.ensures c.give_back-2.ensures
    ∙ c.requires.capacity

pub returns-clause-kept : goal.returns-clause-kept
returns-clause-kept c = λ texts hl hr out k ml mr.
    let s = c.args.self.now in
    let new = c.emit_due-emitted.new in
    record {
      group = subst (λ l. AreKept new.groups new.running new.waiting c.args.left_to (hl ++ c.args.left.edges) (out ++ l)) (sym (c.in_ok-answer.ensures.edges ∙ c.deref-2.ensures.value))
          (c.in_ok-edges.ensures.kept hl out k.group (record { history = ml.history; from = ml.from }));
      low = c.word.ensures.within;
      left_placed = ml.placed;
      left_cells = All-append (λ (e : Edge). map datum_kind e.cells ≡ map cell_kind_of s.left_kinds.items) hl c.args.left.edges k.left_cells
          (subst (λ ks. All (λ e. map datum_kind e.cells ≡ ks) c.args.left.edges) c.requires.left_kinds c.in_ok-edges.ensures.cells);
      right_history = mr.history;
      right_placed = mr.placed;
    }

pub returns-clause-between : goal.returns-clause-between
returns-clause-between c =
    let s = c.args.self.now in
    let own = map cell_kind_of s.kinds.items in
    let f = so_far_in s.groups.key.items s.groups.aggs.items (map cell_kind_of s.left_kinds.items) (cells_of c.args.left) own s.left_to c.args.left_to (run_of s.running) (run_of c.emit_due-emitted.new.running) c.in_ok-edges.edges.items
    s.like c.requires.left_kinds (s.runs c.requires.works) c.in_ok-edges.ensures.so_far in
    subst (ComeBetween s.left_to c.args.left_to) (sym (c.in_ok-answer.ensures.edges ∙ c.deref-2.ensures.value))
    (so_far_whole own s.left_to c.args.left_to (run_of c.emit_due-emitted.new.running) c.in_ok-edges.edges.items f).2

pub returns-clause-defined : goal.returns-clause-defined
returns-clause-defined c = λ texts hl hr out apart k ml.
    let s = c.args.self.now in
    c.groups_stand_for_their_node.ensures.undefined 0 s.groups.key.items s.groups.aggs.items texts (hl ++ c.args.left.edges) c.args.left_to apart ml.placed
    ∙ c.in_ok-edges.ensures.defined hl out k.group (record { history = ml.history; from = ml.from })
