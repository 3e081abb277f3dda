use Rattle.std.proofs.Common.{◌<◌, length, get_or, ap, subst, arith}
use Rattle.query_text.proofs.Cursors as P
use Rattle.query_text.proofs.cursor.unquoted.Goals.{then-b-eq39, else-b-eq39}
use Rattle.query_text.proofs.cursor.unquoted.Goals as goal

pub bytes-preserved : goal.bytes-preserved
bytes-preserved c =
    let v = c.as_bytes-bytes.ensures.value in
    let within : c.bytes.at < length c.args.text.now = subst (λ t. c.bytes.at < length t) v c.bytes-test.true in
    let is = ap (λ t. get_or t c.bytes.at 0) v in
    elim c.if-b-eq39.branch [
      | then-b-eq39 w ↦ record { so_far = P.quote_step _ _ _ _ _ _ c.bytes.invariant.so_far within is w.if-b-eq39.true c.in_ok-push.ensures.items w.at-is; within = P.step_within _ _ _ 2 within w.at-is (omega arith) }
      | else-b-eq39 w ↦ record { so_far = P.plain_step _ _ _ _ _ _ c.bytes.invariant.so_far within is w.if-b-eq39.false c.in_ok-push.ensures.items w.at-is; within = P.step_within _ _ _ 1 within w.at-is (omega arith) }
    ]
