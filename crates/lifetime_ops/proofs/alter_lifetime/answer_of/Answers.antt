use Rattle.std.proofs.Common.{◌≡◌, ◌∙◌, ap, map}
use Rattle.std.proofs.lemmas.Result.{IfOk-weaker}
use Rattle.tw_rows.specs.Kinds.{cell_kind_of}
use Rattle.edge_stream.specs.Listing.{cells_of}
use Rattle.plan_laws.specs.Answers.{answered}
use Rattle.lifetime_ops.specs.Nodes.{node_of, answer_kinds}
use Rattle.lifetime_ops.specs.Times.{retimed}
use Rattle.edge_stream.specs.Listing.{SameShape}
use Rattle.lifetime_ops.proofs.Answering.{lives_retimed, lives_kinds}
use Rattle.lifetime_ops.proofs.alter_lifetime.answer_of.Goals as goal

pub returns-in_default-clause-edges : goal.returns-in_default-clause-edges
returns-in_default-clause-edges c =
    let change = c.args.change.now in
    let due = c.args.due.edges in
    IfOk-weaker c.retime.result (λ a. a.edges ≡ retimed (node_of change) due) (λ a. a.edges ≡ answered (node_of change) due)
    (λ a is. is ∙ lives_retimed change c.in_default.not-Mean due) c.retime.ensures.edges

pub returns-in_default-clause-kinds : goal.returns-in_default-clause-kinds
returns-in_default-clause-kinds c =
    let change = c.args.change.now in
    let due = c.args.due in
    IfOk-weaker c.retime.result (SameShape due) (λ a. cells_of a ≡ answer_kinds change (cells_of due))
    (λ a same. ap (map cell_kind_of) same.kinds ∙ lives_kinds change c.in_default.not-Mean (cells_of due)) c.retime.ensures.shape
