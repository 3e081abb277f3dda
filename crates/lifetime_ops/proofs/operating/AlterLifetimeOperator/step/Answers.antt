use Rattle.std.proofs.Common.{◌∙◌, ap, sym, ◌++◌}
use Rattle.edge_history.specs.Order.{failing, is_from}
use Rattle.edge_history.proofs.Sums.{failing-kept}
use Rattle.edge_stream.specs.Listing.{cells_of}
use Rattle.edge_stream.proofs.Filling.{batches_given-capacity}
use Rattle.edge_stream.proofs.Pools.{batches_given-limit}
use Rattle.lifetime_ops.specs.Nodes.{divides_ints, node_of}
use Rattle.lifetime_ops.proofs.Answering.{advanced, between}
use Rattle.tw_rows.specs.Event.{alive}
use Rattle.plan_laws.specs.Places.{read_of}
use Rattle.plan_model.specs.Meaning.{node_closes}
use Rattle.plan_laws.proofs.Undefined.{never_undefined}
use Rattle.lifetime_ops.proofs.Holding.{no_group}
use Rattle.lifetime_ops.proofs.operating.AlterLifetimeOperator.step.Goals as goal

pub take_below-requires-clause-pools : goal.take_below-requires-clause-pools
take_below-requires-clause-pools c =
    ap (λ s. s.capacity) c.give_back.ensures ∙ batches_given-capacity c.args.right.batches c.args.pools.now (cells_of c.args.right) ∙ c.requires.capacity

pub invariant_of-self-2 : goal.invariant_of-self-2
invariant_of-self-2 c =
    let cut = c.in_ok-due.ensures.edges in
    let below = c.answered_below-below.result in
    record {
      late = λ f. ap (λ t. failing (is_from t) c.take_below.new.carried.edges) (sym c.answered_below-below.ensures) ∙ ap (failing (is_from below)) cut.4 ∙ failing-kept (is_from below) cut.0;
      ints = ap (divides_ints c.args.self.now.change) c.take_below.ensures.kinds ∙ c.args.self.now.ints;
    }

pub returns-clause-kept : goal.returns-clause-kept
returns-clause-kept c = λ texts hl hr out k ml mr.
    let cut = c.in_ok-due.ensures.edges in
    let s = c.args.self.now in
    advanced s.change s.left_to s.right_to c.args.left_to c.args.right_to c.answered_below-below.result
    s.carried.edges c.args.left.edges cut.0 c.in_ok-due.due.edges c.in_ok-answer.answer.edges c.requires.left_rises c.word.ensures.within c.answered_below-below.ensures cut.1 cut.3 c.in_ok-answer.ensures.edges
    texts hl hr out c.args.right.edges c.take_below.new.carried.edges c.requires.right_rises c.word-2.ensures.within k ml mr cut.2 cut.4

pub returns-clause-between : goal.returns-clause-between
returns-clause-between c = λ left right.
    let cut = c.in_ok-due.ensures.edges in
    let s = c.args.self.now in
    between s.change s.left_to s.right_to c.args.left_to c.args.right_to c.answered_below-below.result
    s.carried.edges c.args.left.edges cut.0 c.in_ok-due.due.edges c.in_ok-answer.answer.edges c.requires.left_rises c.word.ensures.within c.answered_below-below.ensures cut.1 cut.3 c.in_ok-answer.ensures.edges
    (s.late c.requires.works) left

pub returns-clause-pools : goal.returns-clause-pools
returns-clause-pools c = c.answer_of.ensures.pools ∙ c.take_below.ensures.pools ∙ ap (λ s. s.capacity) c.give_back.ensures ∙ batches_given-capacity c.args.right.batches c.args.pools.now (cells_of c.args.right)

pub returns-in_err-answer-clause-pools : goal.returns-in_err-answer-clause-pools
returns-in_err-answer-clause-pools c = c.answer_of.ensures.pools ∙ c.take_below.ensures.pools ∙ ap (λ s. s.capacity) c.give_back.ensures ∙ batches_given-capacity c.args.right.batches c.args.pools.now (cells_of c.args.right)

pub returns-in_err-due-clause-pools : goal.returns-in_err-due-clause-pools
returns-in_err-due-clause-pools c = c.take_below.ensures.pools ∙ ap (λ s. s.capacity) c.give_back.ensures ∙ batches_given-capacity c.args.right.batches c.args.pools.now (cells_of c.args.right)

pub returns-clause-limit : goal.returns-clause-limit
returns-clause-limit c = c.answer_of.ensures.limit ∙ c.take_below.ensures.limit ∙ ap (λ s. s.limit) c.give_back.ensures ∙ batches_given-limit c.args.right.batches c.args.pools.now (cells_of c.args.right)

pub returns-in_err-answer-clause-limit : goal.returns-in_err-answer-clause-limit
returns-in_err-answer-clause-limit c = c.answer_of.ensures.limit ∙ c.take_below.ensures.limit ∙ ap (λ s. s.limit) c.give_back.ensures ∙ batches_given-limit c.args.right.batches c.args.pools.now (cells_of c.args.right)

pub returns-in_err-due-clause-limit : goal.returns-in_err-due-clause-limit
returns-in_err-due-clause-limit c = c.take_below.ensures.limit ∙ ap (λ s. s.limit) c.give_back.ensures ∙ batches_given-limit c.args.right.batches c.args.pools.now (cells_of c.args.right)

pub answer_of-requires-clause-capacity : goal.answer_of-requires-clause-capacity
answer_of-requires-clause-capacity c =
    c.take_below.ensures.pools ∙ ap (λ s. s.capacity) c.give_back.ensures ∙ batches_given-capacity c.args.right.batches c.args.pools.now (cells_of c.args.right)
    ∙ c.requires.capacity ∙ sym c.in_ok-due.ensures.due_capacity

pub answer_of-requires-clause-ints : goal.answer_of-requires-clause-ints
answer_of-requires-clause-ints c = ap (divides_ints c.args.self.now.change) c.in_ok-due.ensures.due_kinds ∙ c.args.self.now.ints

pub returns-clause-defined : goal.returns-clause-defined
returns-clause-defined c = λ texts hl hr out apart k ml.
    never_undefined (node_of c.args.self.now.change) (no_group c.args.self.now.change) (λ t. alive (read_of texts (hl ++ c.args.left.edges)) t)
    (node_closes (node_of c.args.self.now.change) c.args.left_to c.args.right_to)
