use Rattle.std.proofs.Common.{◌≡◌, ◌∙◌, ◌+◌, ◌++◌, min, ap, sym, rules, refl}
use Rattle.tw_rows.specs.Event.{alive}
use Rattle.plan_laws.specs.Places.{read_of}
use Rattle.plan_model.specs.declared.node.Node.TheVariants.{Union as UnionNode}
use Rattle.plan_laws.proofs.Undefined.{never_undefined}
use Rattle.edge_history.specs.Order.{failing, is_from}
use Rattle.edge_history.proofs.Sums.{failing-kept}
use Rattle.edge_stream.specs.Listing.{cells_of}
use Rattle.edge_stream.specs.Taking.{batches_taken}
use Rattle.edge_stream.proofs.Filling.{batches_given-capacity, batches_taken-capacity}
use Rattle.edge_stream.proofs.Pools.{some-capacity, some-limit, batches_given-limit, batches_taken-limit}
use Rattle.union_clip.proofs.Uniting.{united, between}
use Rattle.union_clip.proofs.operating.UnionOperator.step.Goals as goal

pub invariant_of-self-2 : goal.invariant_of-self-2
invariant_of-self-2 c =
    let lc = c.in_ok-left_due.ensures.edges in
    let rc = c.in_ok-right_due.ensures.edges in
    let to : c.min-to.result ≡ min c.args.left_to c.args.right_to = search rules in
    record {
      left_late = λ f. ap (λ t. failing (is_from t) c.take_below.new.carried.edges) (sym to) ∙ ap (failing (is_from c.min-to.result)) lc.4 ∙ failing-kept (is_from c.min-to.result) lc.0;
      right_late = λ f. ap (λ t. failing (is_from t) c.take_below-2.new.carried.edges) (sym to) ∙ ap (failing (is_from c.min-to.result)) rc.4 ∙ failing-kept (is_from c.min-to.result) rc.0;
      alike = c.take_below-2.ensures.kinds ∙ c.args.self.now.alike ∙ sym c.take_below.ensures.kinds;
      capacity = c.take_below-2.ensures.capacity ∙ c.args.self.now.capacity ∙ sym c.take_below.ensures.capacity;
    }

pub returns-clause-kept : goal.returns-clause-kept
returns-clause-kept c = λ texts hl hr out k ml mr.
    let lc = c.in_ok-left_due.ensures.edges in
    let rc = c.in_ok-right_due.ensures.edges in
    let s = c.args.self.now in
    let to : c.min-to.result ≡ min c.args.left_to c.args.right_to = search rules in
    united s.left_to s.right_to c.args.left_to c.args.right_to c.min-to.result s.left.edges s.right.edges c.args.left.edges c.args.right.edges lc.0 rc.0
    c.in_ok-left_due.left_due.edges c.in_ok-right_due.right_due.edges c.in_ok-answer.answer.edges to lc.1 rc.1 lc.3 rc.3 c.in_ok-answer.ensures.edges
    texts hl hr out c.take_below.new.carried.edges c.take_below-2.new.carried.edges
    c.requires.left_rises c.word.ensures.within c.requires.right_rises c.word-2.ensures.within k ml mr lc.4 rc.4 c.in_ok-answer.ensures.order

pub returns-clause-between : goal.returns-clause-between
returns-clause-between c = λ left right.
    let lc = c.in_ok-left_due.ensures.edges in
    let rc = c.in_ok-right_due.ensures.edges in
    let s = c.args.self.now in
    let to : c.min-to.result ≡ min c.args.left_to c.args.right_to = search rules in
    between s.left_to s.right_to c.args.left_to c.args.right_to c.min-to.result s.left.edges s.right.edges c.args.left.edges c.args.right.edges lc.0 rc.0
    c.in_ok-left_due.left_due.edges c.in_ok-right_due.right_due.edges c.in_ok-answer.answer.edges to lc.1 rc.1 lc.3 rc.3 c.in_ok-answer.ensures.edges
    (s.left_late c.requires.works) (s.right_late c.requires.works) left right

pub returns-clause-defined : goal.returns-clause-defined
returns-clause-defined c = λ texts hl hr out apart k ml.
    never_undefined (UnionNode 0 1) refl (λ t. alive (read_of texts (hl ++ c.args.left.edges)) t) (min c.args.left_to c.args.right_to)

pub returns-clause-pools : goal.returns-clause-pools
returns-clause-pools c =
    let due = c.in_ok-left_due.left_due in
    let kinds = cells_of due in
    let taken = batches_taken c.in_ok-answer.answer.batches c.take_below-2.new.pools kinds in
    ap (λ s. s.capacity) c.in_ok-answer.ensures.pools ∙ batches_given-capacity (due.batches + c.in_ok-right_due.right_due.batches) taken kinds
    ∙ batches_taken-capacity c.in_ok-answer.answer.batches c.take_below-2.new.pools kinds ∙ c.take_below-2.ensures.pools ∙ c.take_below.ensures.pools

pub returns-in_err-answer-clause-pools : goal.returns-in_err-answer-clause-pools
returns-in_err-answer-clause-pools c =
    some-capacity c.take_below-2.new.pools c.merge.new.pools (cells_of c.in_ok-left_due.left_due) c.in_err-answer.ensures.err_pools ∙ c.take_below-2.ensures.pools ∙ c.take_below.ensures.pools

pub returns-clause-limit : goal.returns-clause-limit
returns-clause-limit c =
    let due = c.in_ok-left_due.left_due in
    let kinds = cells_of due in
    let taken = batches_taken c.in_ok-answer.answer.batches c.take_below-2.new.pools kinds in
    ap (λ s. s.limit) c.in_ok-answer.ensures.pools ∙ batches_given-limit (due.batches + c.in_ok-right_due.right_due.batches) taken kinds
    ∙ batches_taken-limit c.in_ok-answer.answer.batches c.take_below-2.new.pools kinds ∙ c.take_below-2.ensures.limit ∙ c.take_below.ensures.limit

pub returns-in_err-answer-clause-limit : goal.returns-in_err-answer-clause-limit
returns-in_err-answer-clause-limit c =
    some-limit c.take_below-2.new.pools c.merge.new.pools (cells_of c.in_ok-left_due.left_due) c.in_err-answer.ensures.err_pools ∙ c.take_below-2.ensures.limit ∙ c.take_below.ensures.limit
