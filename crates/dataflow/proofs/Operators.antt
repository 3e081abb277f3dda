-- What the trait of operators tells of a step, for the nodes of a plan.
use Rattle.std.specs.Prelude.{◌≡◌, ◌≤◌, ℕ, true, Option, List, ◌++◌, is_err, IfOk, OnOk, OnErr}
use Rattle.std.proofs.Common.{sym, subst, ◌∙◌, Result, Ok, Err}
use Rattle.tw_rows.specs.Event.{alive}
use Rattle.tw_rows.specs.declared.edge.Edge.{Edge}
use Rattle.tw_rows.specs.declared.kind.CellKind.{CellKind}
use Rattle.edge_history.specs.Order.{is_from, failing}
use Rattle.edge_stream.specs.Listing.{EdgeListView, cells_of}
use Rattle.plan_model.specs.declared.node.Node.{Node}
use Rattle.plan_model.specs.Meaning.{node_events, node_closes}
use Rattle.plan_laws.specs.Undefined.{first_below}
use Rattle.plan_laws.specs.Places.{read_of}
use Rattle.plan_laws.specs.Standing.{StandsRead}
use Rattle.edge_stream.specs.declared.saved.StepFault.{StepFault}
use Rattle.edge_stream.specs.Standing.{Standing, IsLike, Keeping, may_keep}
use Rattle.edge_stream.specs.Steps.{MayCome, StaysKept, AnswersBetween, IsFirstUndefined}
use Rattle.dataflow.specs.Operating.{MeanAlike, CanOperate, StaysOperating, KeepsOperating, first_undefined_read, OperatesUndefinedAt, OperatesOver}

module _ (left right : EdgeListView) (old : Standing) (u v : ℕ) where
  -- it is ready for the next step
  pub stays_operating : (r : Result EdgeListView StepFault) (new : Standing) → IsLike old new → new.has_failed ≡ is_err r → OnOk r (new.left_closed ≡ u) → OnOk r (new.right_closed ≡ v) →
      OnOk r (StaysOperating left right old new u v)
  stays_operating (Ok answer) new like works left_to right_to = λ n x y can. record {
    node = subst (MeanAlike n) (sym like.node) can.node;
    named = like.node ∙ can.named;
    works = works;
    left_closed = left_to;
    right_closed = right_to;
    left_kinds = like.left_kinds ∙ can.left_kinds;
    right_kinds = like.right_kinds ∙ can.right_kinds;
    own_kinds = like.own_kinds ∙ can.own_kinds;
    batch_rows = like.batch_rows ∙ can.batch_rows;
  }
  stays_operating (Err fault) new like works left_to right_to = tt

  pub stops_operating : (r : Result EdgeListView StepFault) (new : Standing) → new.has_failed ≡ is_err r → OnErr r (new.has_failed ≡ true)
  stops_operating (Ok answer) new failed = tt
  stops_operating (Err fault) new failed = failed

  pub keeps_operating : (r : Result EdgeListView StepFault) (kept keeps : Keeping) → IfOk r (λ answer. StaysKept old kept keeps left.edges right.edges answer.edges) →
      IfOk r (λ answer. AnswersBetween old left.edges right.edges u v answer.edges) → IfOk r (KeepsOperating left right old kept keeps u v)
  keeps_operating (Ok answer) kept keeps stays between = λ texts n x y hl hr out can k ml mr.
      let on_left = subst (λ z. MayCome texts z hl left.edges) (sym can.left_closed) ml in
      let on_right = subst (λ z. MayCome texts z hr right.edges) (sym can.right_closed) mr in (
        stays texts hl hr out k on_left on_right,
        subst (λ c. failing (is_from c) answer.edges ≡ 0) (can.node.closes old.left_closed old.right_closed ∙ (λ i. node_closes n (can.left_closed i) (can.right_closed i))) (between on_left.from on_right.from).from,
      )
  keeps_operating (Err fault) kept keeps stays between = tt

  pub undefined_operating : (kept : Keeping) (found : Option ℕ) → IsFirstUndefined old kept left.edges u v found → OperatesUndefinedAt left right old kept u v found
  undefined_operating kept found told texts n x y hl hr out distinct can k ml =
      let same : first_undefined_read texts old.node (hl ++ left.edges) (node_closes old.node u v) ≡ first_undefined_read texts n (hl ++ left.edges) (node_closes n u v) =
      λ i. first_below (λ t. can.node.undefined (alive (read_of texts (hl ++ left.edges)) t) i) (can.node.closes u v i) in
      sym same ∙ told texts hl hr out distinct k (subst (λ z. MayCome texts z hl left.edges) (sym can.left_closed) ml)

  pub operates_over : (r : Result EdgeListView StepFault) → IfOk r (λ answer. cells_of answer ≡ old.own_kinds) → IfOk r (OperatesOver left right old)
  operates_over (Ok answer) kinds = λ n x y can. kinds ∙ can.own_kinds
  operates_over (Err fault) kinds = tt

-- what an operator answered stands for the node of the plan
pub operator_stands : (capacity : ℕ) (left right : List CellKind) (n : Node) (s : Standing) (x y : ℕ) → CanOperate capacity left right n s x y → (texts : List (List ℕ)) (hl hr out : List Edge) →
    StandsRead texts (node_closes s.node s.left_closed s.right_closed) out (node_events s.node (read_of texts hl) (read_of texts hr)) →
    StandsRead texts (node_closes n x y) out (node_events n (read_of texts hl) (read_of texts hr))
operator_stands capacity left right n s x y can texts hl hr out stands =
    subst (λ c. StandsRead texts c out (node_events n (read_of texts hl) (read_of texts hr))) (can.node.closes s.left_closed s.right_closed ∙ (λ i. node_closes n (can.left_closed i) (can.right_closed i)))
    (subst (StandsRead texts (node_closes s.node s.left_closed s.right_closed) out) (can.node.events (read_of texts hl) (read_of texts hr)) stands)

-- and it keeps no more entries than that node may
pub operator_held : (capacity : ℕ) (left right : List CellKind) (n : Node) (s : Standing) (x y : ℕ) → CanOperate capacity left right n s x y → (count : ℕ) (hl hr : List Edge) →
    count ≤ may_keep s.node s.left_closed s.right_closed hl hr → count ≤ may_keep n x y hl hr
operator_held capacity left right n s x y can count hl hr most =
    subst (λ m. count ≤ m) (can.node.held s.left_closed s.right_closed hl hr ∙ (λ i. may_keep n (can.left_closed i) (can.right_closed i) hl hr)) most
