use Rattle.std.proofs.Common.{◌∙◌, not, ap, sym}
use Rattle.std.specs.Ordering.{int_cmp}
use Rattle.lane_expr.specs.Lanes.{number}
use Rattle.occupancy.proofs.Test.{test-flip}
use Rattle.lane_expr.proofs.Comparing.{ne_is, le_by, ge_by}
use Rattle.lane_expr.proofs.compare.compare_numbers.Goals as goal

pub returns-in-Ne : goal.returns-in-Ne
returns-in-Ne c j lt =
    let x = number c.args.left.now.lanes j in
    let y = number c.args.right.now.lanes j in
    rw c.in-Ne.is (test-flip c.marks_same-in-Ne.result j c.marks_same-in-Ne.type_inv lt ∙ ap not (c.marks_same-in-Ne.ensures j lt) ∙ sym (ne_is (int_cmp x y)))

pub returns-in-Le : goal.returns-in-Le
returns-in-Le c j lt =
    let x = number c.args.left.now.lanes j in
    let y = number c.args.right.now.lanes j in
    rw c.in-Le.is (test-flip c.marks_below-in-Le.result j c.marks_below-in-Le.type_inv lt ∙ ap not (c.marks_below-in-Le.ensures j lt) ∙ le_by x y)

pub returns-in-Ge : goal.returns-in-Ge
returns-in-Ge c j lt =
    let x = number c.args.left.now.lanes j in
    let y = number c.args.right.now.lanes j in
    rw c.in-Ge.is (test-flip c.marks_below-in-Ge.result j c.marks_below-in-Ge.type_inv lt ∙ ap not (c.marks_below-in-Ge.ensures j lt) ∙ ge_by x y)
