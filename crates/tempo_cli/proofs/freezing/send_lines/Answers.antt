use Rattle.std.proofs.Common.{length, refl, ◌∙◌, ap, subst, arith}
use Rattle.std.proofs.lemmas.Result.{err_from_is_err_and}
use Rattle.wire_lines.specs.Journal.{Grows, SentAll, SentFront}
use Rattle.checkpoint.proofs.Left.{whole_left}
use Rattle.tempo_cli.proofs.Sending.{none_sent, same_held, one_more, held_sent, front_sent, last_sent, has_room}
use Rattle.tempo_cli.proofs.freezing.send_lines.Goals as goal

pub lines-init : goal.lines-init
lines-init g c = (
  none_sent (g.W.Wire.journal c.args.wire.now) c.requires.room c.requires.none (whole_left c.args.form.now c.args.frozen.now),
  omega (arith, ap length c.requires.none),
  refl,
  refl,
)

pub lines-preserved : goal.lines-preserved
lines-preserved g c = (
  one_more c.lines.invariant.0 (rw c.in-Some.is at c.in_ok-next.ensures.ok) c.in_ok-next.ensures.room,
  omega (arith, c.if-len-gt-BATCH.false, c.len.ensures),
  c.lines.invariant.2,
  c.lines.invariant.3,
)

pub lines-preserved-then-len-gt-BATCH : goal.lines-preserved-then-len-gt-BATCH
lines-preserved-then-len-gt-BATCH g c =
    let sent = subst (λ x. Grows (g.W.Wire.journal c.lines.wire) (g.W.Wire.journal c.send.new.wire) (SentAll x)) c.deref.ensures.value c.in_ok-send.ensures.ok in (
      held_sent c.write_line.new.out (one_more c.lines.invariant.0 (rw c.in-Some.is at c.in_ok-next.ensures.ok) c.in_ok-next.ensures.room) sent c.clear.ensures.items c.clear.ensures.capacity,
      omega (arith, ap length c.clear.ensures.items),
      c.in_ok-send.ensures.cause.same ∙ c.lines.invariant.2,
      c.in_ok-send.ensures.other.same ∙ c.lines.invariant.3,
    )

pub returns-in_err-next-clause-sent : goal.returns-in_err-next-clause-sent
returns-in_err-next-clause-sent g c =
    let p = err_from_is_err_and c.from_residual.result c.from_residual.ensures.1 in
    rw (p.1, p.2) (has_room c.lines.invariant.0 c.lines.invariant.1 c.in_err-next.ensures.full)

pub returns-in_err-send-clause-sent : goal.returns-in_err-send-clause-sent
returns-in_err-send-clause-sent g c =
    let p = err_from_is_err_and c.from_residual-in_err-send.result c.from_residual-in_err-send.ensures.1 in
    let sent = subst (λ x. Grows (g.W.Wire.journal c.lines.wire) (g.W.Wire.journal c.send.new.wire) (SentFront x)) c.deref.ensures.value c.in_err-send.ensures.err in
    rw (p.1, p.2) (front_sent c.write_line.new.out (one_more c.lines.invariant.0 (rw c.in-Some.is at c.in_ok-next.ensures.ok) c.in_ok-next.ensures.room) sent)

pub returns-in_err-send-2-clause-sent : goal.returns-in_err-send-2-clause-sent
returns-in_err-send-2-clause-sent g c =
    let p = err_from_is_err_and c.from_residual-in_err-send-2.result c.from_residual-in_err-send-2.ensures.1 in
    let sent = subst (λ x. Grows (g.W.Wire.journal c.lines.wire) (g.W.Wire.journal c.send-2.new.wire) (SentFront x)) c.deref-2.ensures.value c.in_err-send-2.ensures.err in
    let none = rw c.in_default.is at c.in_ok-next.ensures.ok in
    rw (p.1, p.2) (front_sent c.write_line.new.out (same_held c.lines.invariant.0 none.1 c.in_ok-next.ensures.room) sent)

pub returns-clause-sent : goal.returns-clause-sent
returns-clause-sent g c =
    let sent = subst (λ x. Grows (g.W.Wire.journal c.lines.wire) (g.W.Wire.journal c.send-2.new.wire) (SentAll x)) c.deref-2.ensures.value c.in_ok-send-2.ensures.ok in
    let none = rw c.in_default.is at c.in_ok-next.ensures.ok in
    last_sent c.write_line.new.out (same_held c.lines.invariant.0 none.1 c.in_ok-next.ensures.room) none.0 sent
