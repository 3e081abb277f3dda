use Rattle.std.proofs.Common.{◌≤◌, ◌∙◌, ◌+◌, ap, sym, arith, ◌++◌, refl}
use Rattle.tw_rows.specs.Instant.{inf}
use Rattle.edge_history.specs.Order.{failing, is_from}
use Rattle.edge_history.proofs.Sums.{failing-kept}
use Rattle.edge_stream.specs.Listing.{cells_of}
use Rattle.edge_stream.specs.Taking.{batches_taken}
use Rattle.edge_stream.proofs.Filling.{batches_given-capacity, batches_taken-capacity}
use Rattle.edge_stream.proofs.Pools.{some-capacity, some-limit, batches_given-limit, batches_taken-limit}
use Rattle.lifetime_ops.proofs.Waiting.{extended_advance, extended_between}
use Rattle.tw_rows.specs.Event.{alive}
use Rattle.plan_laws.specs.Places.{read_of}
use Rattle.plan_model.specs.declared.node.Node.TheVariants.{Extend}
use Rattle.plan_laws.proofs.Undefined.{never_undefined}
use Rattle.lifetime_ops.proofs.extending.ExtendLifetimeOperator.step.Goals as goal

pub take_below-requires-clause-pools : goal.take_below-requires-clause-pools
take_below-requires-clause-pools c =
    ap (λ s. s.capacity) c.give_back.ensures ∙ batches_given-capacity c.args.right.batches c.args.pools.now (cells_of c.args.right) ∙ c.requires.capacity

pub part_due-requires-clause-capacity : goal.part_due-requires-clause-capacity
part_due-requires-clause-capacity c =
    c.take_below.ensures.pools ∙ ap (λ s. s.capacity) c.give_back.ensures ∙ batches_given-capacity c.args.right.batches c.args.pools.now (cells_of c.args.right)
    ∙ c.requires.capacity ∙ sym (ap (λ v. v.capacity) c.in_ok-starts.ensures ∙ c.capacity.ensures.capacity ∙ c.take_below.ensures.capacity)

pub give_back-requires-2 : goal.give_back-requires-2
give_back-requires-2 c =
    c.part_due.ensures.pools ∙ c.take_below.ensures.pools ∙ ap (λ s. s.capacity) c.give_back.ensures ∙ batches_given-capacity c.args.right.batches c.args.pools.now (cells_of c.args.right)
    ∙ c.requires.capacity ∙ sym c.in_ok-due.ensures.due_capacity

pub take_due-requires-clause-capacity : goal.take_due-requires-clause-capacity
take_due-requires-clause-capacity c =
    ap (λ s. s.capacity) c.give_back-2.ensures ∙ batches_given-capacity c.in_ok-due.due.batches c.part_due.new.pools (cells_of c.in_ok-due.due) ∙ c.part_due.ensures.pools ∙ c.take_below.ensures.pools ∙ ap (λ s. s.capacity) c.give_back.ensures ∙ batches_given-capacity c.args.right.batches c.args.pools.now (cells_of c.args.right)
    ∙ c.requires.capacity ∙ sym c.take_below.ensures.capacity

pub merge-requires-clause-pools : goal.merge-requires-clause-pools
merge-requires-clause-pools c =
    c.take_due.ensures.pools ∙ ap (λ s. s.capacity) c.give_back-2.ensures ∙ batches_given-capacity c.in_ok-due.due.batches c.part_due.new.pools (cells_of c.in_ok-due.due) ∙ c.part_due.ensures.pools ∙ c.take_below.ensures.pools ∙ ap (λ s. s.capacity) c.give_back.ensures ∙ batches_given-capacity c.args.right.batches c.args.pools.now (cells_of c.args.right)
    ∙ c.requires.capacity ∙ sym (c.part_due.ensures.starts_capacity ∙ ap (λ v. v.capacity) c.in_ok-starts.ensures ∙ c.capacity.ensures.capacity ∙ c.take_below.ensures.capacity)

pub invariant_of-self-2 : goal.invariant_of-self-2
invariant_of-self-2 c =
    let cut = c.in_ok-due.ensures.edges in
    record {
      late = λ f. ap (failing (is_from c.args.left_to)) cut.4 ∙ failing-kept (is_from c.args.left_to) cut.0;
      waiting = c.take_due.ensures.waiting;
      due = λ f. c.in_ok-ends.ensures.late;
    }

pub returns-clause-kept : goal.returns-clause-kept
returns-clause-kept c = λ texts hl hr out k ml mr.
    let cut = c.in_ok-due.ensures.edges in
    let s = c.args.self.now in
    extended_advance s.by c.args.left_to cut.0 c.in_ok-due.due.edges c.part_due.new.starts.edges c.in_ok-ends.ends.edges c.in_ok-answer.answer.edges s.ends c.part_due.new.ends c.take_due.new.ends
    cut.3 c.in_ok-part_due.ensures.starts c.in_ok-part_due.ensures.ends c.in_ok-ends.ensures.edges c.in_ok-ends.ensures.low c.in_ok-answer.ensures.edges
    texts s.left_to s.right_to c.args.right_to s.carried.edges hl hr out c.args.left.edges c.args.right.edges c.take_below.new.carried.edges (cells_of c.take_below.new.carried)
    c.requires.left_rises c.word.ensures.within c.requires.right_rises c.word-2.ensures.within k ml mr cut.1 cut.4 c.in_ok-ends.ensures.late c.take_due.ensures.waiting c.in_ok-answer.ensures.order

pub returns-clause-between : goal.returns-clause-between
returns-clause-between c = λ left right.
    let cut = c.in_ok-due.ensures.edges in
    let s = c.args.self.now in
    let low : s.left_to ≤ inf = omega (arith, c.requires.left_rises, c.word.ensures.within) in
    extended_between s.by c.args.left_to cut.0 c.in_ok-due.due.edges c.part_due.new.starts.edges c.in_ok-ends.ends.edges c.in_ok-answer.answer.edges s.ends c.part_due.new.ends c.take_due.new.ends
    cut.3 c.in_ok-part_due.ensures.starts c.in_ok-part_due.ensures.ends c.in_ok-ends.ensures.edges c.in_ok-ends.ensures.low c.in_ok-answer.ensures.edges
    s.left_to s.carried.edges c.args.left.edges (cells_of s.carried) low cut.1 (s.late c.requires.works) left (s.due c.requires.works) s.waiting

pub returns-clause-pools : goal.returns-clause-pools
returns-clause-pools c =
    let starts = c.part_due.new.starts in
    let kinds = cells_of starts in
    let taken = batches_taken c.in_ok-answer.answer.batches c.take_due.new.pools kinds in
    ap (λ s. s.capacity) c.in_ok-answer.ensures.pools ∙ batches_given-capacity (starts.batches + c.in_ok-ends.ends.batches) taken kinds
    ∙ batches_taken-capacity c.in_ok-answer.answer.batches c.take_due.new.pools kinds ∙ c.take_due.ensures.pools ∙ ap (λ s. s.capacity) c.give_back-2.ensures ∙ batches_given-capacity c.in_ok-due.due.batches c.part_due.new.pools (cells_of c.in_ok-due.due) ∙ c.part_due.ensures.pools ∙ c.take_below.ensures.pools ∙ ap (λ s. s.capacity) c.give_back.ensures ∙ batches_given-capacity c.args.right.batches c.args.pools.now (cells_of c.args.right)

pub returns-in_err-due-clause-pools : goal.returns-in_err-due-clause-pools
returns-in_err-due-clause-pools c =
    c.take_below.ensures.pools ∙ ap (λ s. s.capacity) c.give_back.ensures ∙ batches_given-capacity c.args.right.batches c.args.pools.now (cells_of c.args.right)

pub returns-in_err-starts-clause-pools : goal.returns-in_err-starts-clause-pools
returns-in_err-starts-clause-pools c =
    c.take_below.ensures.pools ∙ ap (λ s. s.capacity) c.give_back.ensures ∙ batches_given-capacity c.args.right.batches c.args.pools.now (cells_of c.args.right)

pub returns-in_err-part_due-clause-pools : goal.returns-in_err-part_due-clause-pools
returns-in_err-part_due-clause-pools c =
    c.part_due.ensures.pools ∙ c.take_below.ensures.pools ∙ ap (λ s. s.capacity) c.give_back.ensures ∙ batches_given-capacity c.args.right.batches c.args.pools.now (cells_of c.args.right)

pub returns-in_err-ends-clause-pools : goal.returns-in_err-ends-clause-pools
returns-in_err-ends-clause-pools c =
    c.take_due.ensures.pools ∙ ap (λ s. s.capacity) c.give_back-2.ensures ∙ batches_given-capacity c.in_ok-due.due.batches c.part_due.new.pools (cells_of c.in_ok-due.due) ∙ c.part_due.ensures.pools ∙ c.take_below.ensures.pools ∙ ap (λ s. s.capacity) c.give_back.ensures ∙ batches_given-capacity c.args.right.batches c.args.pools.now (cells_of c.args.right)

pub returns-in_err-answer-clause-pools : goal.returns-in_err-answer-clause-pools
returns-in_err-answer-clause-pools c =
    some-capacity c.take_due.new.pools c.merge.new.pools (cells_of c.part_due.new.starts) c.in_err-answer.ensures.err_pools ∙ c.take_due.ensures.pools ∙ ap (λ s. s.capacity) c.give_back-2.ensures ∙ batches_given-capacity c.in_ok-due.due.batches c.part_due.new.pools (cells_of c.in_ok-due.due) ∙ c.part_due.ensures.pools ∙ c.take_below.ensures.pools ∙ ap (λ s. s.capacity) c.give_back.ensures ∙ batches_given-capacity c.args.right.batches c.args.pools.now (cells_of c.args.right)

pub returns-clause-limit : goal.returns-clause-limit
returns-clause-limit c =
    let starts = c.part_due.new.starts in
    let kinds = cells_of starts in
    let taken = batches_taken c.in_ok-answer.answer.batches c.take_due.new.pools kinds in
    ap (λ s. s.limit) c.in_ok-answer.ensures.pools ∙ batches_given-limit (starts.batches + c.in_ok-ends.ends.batches) taken kinds
    ∙ batches_taken-limit c.in_ok-answer.answer.batches c.take_due.new.pools kinds ∙ c.take_due.ensures.limit ∙ ap (λ s. s.limit) c.give_back-2.ensures ∙ batches_given-limit c.in_ok-due.due.batches c.part_due.new.pools (cells_of c.in_ok-due.due) ∙ c.part_due.ensures.limit ∙ c.take_below.ensures.limit ∙ ap (λ s. s.limit) c.give_back.ensures ∙ batches_given-limit c.args.right.batches c.args.pools.now (cells_of c.args.right)

pub returns-in_err-due-clause-limit : goal.returns-in_err-due-clause-limit
returns-in_err-due-clause-limit c =
    c.take_below.ensures.limit ∙ ap (λ s. s.limit) c.give_back.ensures ∙ batches_given-limit c.args.right.batches c.args.pools.now (cells_of c.args.right)

pub returns-in_err-starts-clause-limit : goal.returns-in_err-starts-clause-limit
returns-in_err-starts-clause-limit c =
    c.take_below.ensures.limit ∙ ap (λ s. s.limit) c.give_back.ensures ∙ batches_given-limit c.args.right.batches c.args.pools.now (cells_of c.args.right)

pub returns-in_err-part_due-clause-limit : goal.returns-in_err-part_due-clause-limit
returns-in_err-part_due-clause-limit c =
    c.part_due.ensures.limit ∙ c.take_below.ensures.limit ∙ ap (λ s. s.limit) c.give_back.ensures ∙ batches_given-limit c.args.right.batches c.args.pools.now (cells_of c.args.right)

pub returns-in_err-ends-clause-limit : goal.returns-in_err-ends-clause-limit
returns-in_err-ends-clause-limit c =
    c.take_due.ensures.limit ∙ ap (λ s. s.limit) c.give_back-2.ensures ∙ batches_given-limit c.in_ok-due.due.batches c.part_due.new.pools (cells_of c.in_ok-due.due) ∙ c.part_due.ensures.limit ∙ c.take_below.ensures.limit ∙ ap (λ s. s.limit) c.give_back.ensures ∙ batches_given-limit c.args.right.batches c.args.pools.now (cells_of c.args.right)

pub returns-in_err-answer-clause-limit : goal.returns-in_err-answer-clause-limit
returns-in_err-answer-clause-limit c =
    some-limit c.take_due.new.pools c.merge.new.pools (cells_of c.part_due.new.starts) c.in_err-answer.ensures.err_pools ∙ c.take_due.ensures.limit ∙ ap (λ s. s.limit) c.give_back-2.ensures ∙ batches_given-limit c.in_ok-due.due.batches c.part_due.new.pools (cells_of c.in_ok-due.due) ∙ c.part_due.ensures.limit ∙ c.take_below.ensures.limit ∙ ap (λ s. s.limit) c.give_back.ensures ∙ batches_given-limit c.args.right.batches c.args.pools.now (cells_of c.args.right)

pub returns-clause-defined : goal.returns-clause-defined
returns-clause-defined c = λ texts hl hr out apart k ml.
    never_undefined (Extend 0 c.args.self.now.by) refl (λ t. alive (read_of texts (hl ++ c.args.left.edges)) t) c.args.left_to
