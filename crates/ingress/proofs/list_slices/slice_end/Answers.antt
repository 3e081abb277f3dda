use Rattle.std.specs.Prelude.{◌≡◌}
use Rattle.std.proofs.lemmas.Result.{IfOk-weaker}
use Rattle.ingress.specs.Slices.{edges_of, IsLastWithin, slice_end}
use Rattle.ingress.proofs.Below.{not_before}
use Rattle.ingress.proofs.Listed.{end_whole, end_between, end_next}
use Rattle.ingress.proofs.list_slices.slice_end.Goals as goal
use Rattle.ingress.proofs.list_slices.slice_end.Goals.{else-is_before-via-then-is_before+in_ok-are_within+else-branch, else-is_before-via-else-is_before}

pub returns-then-branch : goal.returns-then-branch
returns-then-branch c =
    let es = edges_of c.args.lists.now in
    let batch = c.args.batch in
    let p = c.args.p in
    let last = c.in_ok-last.last in
    let early = c.is_before.ensures.test.0 c.if-is_before.true in
    let none = c.in_ok-are_within.ensures.yes c.if-branch.true in
    IfOk-weaker c.last_within-then-branch.result (IsLastWithin 0 c.next_time.result p es) (λ end. end ≡ slice_end batch p es)
    (λ end second. end_next es batch p last c.in_ok-last.ensures early none c.requires c.next_time.result end c.next_time.ensures second) c.last_within-then-branch.ensures

pub returns : goal.returns
returns c =
    let es = edges_of c.args.lists.now in
    let batch = c.args.batch in
    let p = c.args.p in
    let last = c.in_ok-last.last in
    elim c.else-is_before.branch [
      | else-is_before-via-then-is_before+in_ok-are_within+else-branch w ↦
          end_between es batch p last c.in_ok-last.ensures (c.is_before.ensures.test.0 w.if-is_before.true) (w.in_ok-are_within.ensures.no w.if-branch.false)
      | else-is_before-via-else-is_before w ↦
          end_whole es batch p last c.in_ok-last.ensures (not_before c.is_before.result last p c.is_before.ensures.test.1 w.if-is_before.false)
    ]
