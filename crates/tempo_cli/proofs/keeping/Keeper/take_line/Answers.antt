use Rattle.std.proofs.Common.{◌++◌, ◌+◌, min, length, false, refl, subst, arith}
use Rattle.std.proofs.lemmas.Result.{err_from_is_err_and}
use Rattle.wire_lines.specs.Journal.{Grows, SentAll, SentFront}
use Rattle.wire_lines.proofs.Growth.{Grows-none}
use Rattle.tempo_cli.specs.Holding.{HoldsOn}
use Rattle.tempo_cli.specs.declared.keeping.Keeper.{Keeper}
use Rattle.tempo_cli.proofs.Standing.{no_more}
use Rattle.tempo_cli.proofs.Walks.{held_cut, sent_stops, line_held, line_unheld, line_not_due, line_sent, line_unsent, line_kept, line_failed}
use Rattle.tempo_cli.proofs.keeping.Keeper.take_line.Goals.{then-is_due+in_ok-send-in-Out+in_ok-take_checkpoint-in-Out, else-is_due}
use Rattle.tempo_cli.proofs.keeping.Keeper.take_line.Goals as goal

pub returns-in-More-clause-ok : goal.returns-in-More-clause-ok
returns-in-More-clause-ok g c = λ t every J u.
    Grows-none _ (no_more c.args.held.now.items u _ (c.in-More.ensures.comes _ _ u.given u.stands.holds u.stands.few) c.in-More.ensures.open.0 refl refl refl refl refl)

pub returns-in_err-send-in-Stop-clause-err : goal.returns-in_err-send-in-Stop-clause-err
returns-in_err-send-in-Stop-clause-err g c = let p = err_from_is_err_and c.from_residual.result c.from_residual.ensures.1 in rw (p.1, p.2)
    (held_cut (subst (λ x. Grows (g.W.Wire.journal c.args.wire.now) (g.W.Wire.journal c.send.new.wire) (SentFront x)) c.deref.ensures.value c.in_err-send-in-Stop.ensures.err))

pub returns-in_ok-send-in-Stop-clause-err : goal.returns-in_ok-send-in-Stop-clause-err
returns-in_ok-send-in-Stop-clause-err g c = sent_stops c.in-Stop.status
    (subst (λ x. Grows (g.W.Wire.journal c.args.wire.now) (g.W.Wire.journal c.send.new.wire) (SentAll x)) c.deref.ensures.value c.in_ok-send-in-Stop.ensures.ok)
    (λ t every J u. c.in-Stop.ensures.comes _ _ u.given u.stands.holds u.stands.few false)

pub returns-in_err-hold-in-Out-clause-err : goal.returns-in_err-hold-in-Out-clause-err
returns-in_err-hold-in-Out-clause-err g c =
    let l : Keeper = record c.args.self.now { answering = c.next_step.new.self; output = min (c.args.self.now.output + length c.in-Out.out.items) 18446744073709551615 } in
    let p = err_from_is_err_and c.from_residual-in_err-hold-in-Out.result c.from_residual-in_err-hold-in-Out.ensures.1 in rw (p.1, p.2)
    (line_unheld {k = c.args.self.now} {l = l} (λ t every J u. c.in-Out.ensures.comes _ _ u.given u.stands.holds u.stands.few) c.in-Out.ensures.open.0 refl refl refl refl refl
    (subst (λ x. Grows (g.W.Wire.journal c.args.wire.now) (g.W.Wire.journal c.hold.new.wire) (SentFront (c.args.held.now.items ++ x))) c.deref-in-Out.ensures.value c.in_err-hold-in-Out.ensures.err))

pub returns-in_err-send-in-Out-clause-err : goal.returns-in_err-send-in-Out-clause-err
returns-in_err-send-in-Out-clause-err g c =
    let l : Keeper = record c.args.self.now { answering = c.next_step.new.self; output = c.saturating_add-self.result } in
    let on = subst (λ x. Grows (g.W.Wire.journal c.args.wire.now) (g.W.Wire.journal c.hold.new.wire) (HoldsOn c.args.held.now.items x c.hold.new.held.items)) c.deref-in-Out.ensures.value c.in_ok-hold-in-Out.ensures.ok in
    let holds = line_held {k = c.args.self.now} {l = l} (λ t every J u. c.in-Out.ensures.comes _ _ u.given u.stands.holds u.stands.few) c.in-Out.ensures.open.0 refl refl refl (omega (arith, c.saturating_add-self.ensures, c.len.ensures)) refl on in
    let p = err_from_is_err_and c.from_residual-in_err-send-in-Out.result c.from_residual-in_err-send-in-Out.ensures.1 in rw (p.1, p.2)
    (line_unsent holds (subst (λ x. Grows (g.W.Wire.journal c.hold.new.wire) (g.W.Wire.journal c.send-then-is_due.new.wire) (SentFront x)) c.deref-then-is_due.ensures.value c.in_err-send-in-Out.ensures.err))

pub returns-in_err-take_checkpoint-in-Out-clause-err : goal.returns-in_err-take_checkpoint-in-Out-clause-err
returns-in_err-take_checkpoint-in-Out-clause-err g c =
    let l : Keeper = record c.args.self.now { answering = c.next_step.new.self; output = c.saturating_add-self.result } in
    let on = subst (λ x. Grows (g.W.Wire.journal c.args.wire.now) (g.W.Wire.journal c.hold.new.wire) (HoldsOn c.args.held.now.items x c.hold.new.held.items)) c.deref-in-Out.ensures.value c.in_ok-hold-in-Out.ensures.ok in
    let holds = line_held {k = c.args.self.now} {l = l} (λ t every J u. c.in-Out.ensures.comes _ _ u.given u.stands.holds u.stands.few) c.in-Out.ensures.open.0 refl refl refl (omega (arith, c.saturating_add-self.ensures, c.len.ensures)) refl on in
    let writes = line_sent holds (subst (λ x. Grows (g.W.Wire.journal c.hold.new.wire) (g.W.Wire.journal c.send-then-is_due.new.wire) (SentAll x)) c.deref-then-is_due.ensures.value c.in_ok-send-in-Out.ensures.ok) in
    let p = err_from_is_err_and c.from_residual-in_err-take_checkpoint-in-Out.result c.from_residual-in_err-take_checkpoint-in-Out.ensures.1 in rw (p.1, p.2)
    (line_failed c.is_due.result _ writes c.is_due.ensures c.if-is_due.true c.in_err-take_checkpoint-in-Out.ensures.wanting c.in_err-take_checkpoint-in-Out.ensures.err)

pub returns-after-is_due-clause-ok : goal.returns-after-is_due-clause-ok
returns-after-is_due-clause-ok g c =
    let l : Keeper = record c.args.self.now { answering = c.next_step.new.self; output = c.saturating_add-self.result } in
    let on = subst (λ x. Grows (g.W.Wire.journal c.args.wire.now) (g.W.Wire.journal c.hold.new.wire) (HoldsOn c.args.held.now.items x c.hold.new.held.items)) c.deref-in-Out.ensures.value c.in_ok-hold-in-Out.ensures.ok in
    let holds = line_held {k = c.args.self.now} {l = l} (λ t every J u. c.in-Out.ensures.comes _ _ u.given u.stands.holds u.stands.few) c.in-Out.ensures.open.0 refl refl refl (omega (arith, c.saturating_add-self.ensures, c.len.ensures)) refl on in
    elim c.if-is_due.branch [
      | then-is_due+in_ok-send-in-Out+in_ok-take_checkpoint-in-Out w ↦ rw (w.self-is, w.wire-is, w.held-is) (line_kept c.is_due.result
          (line_sent holds (subst (λ x. Grows (g.W.Wire.journal c.hold.new.wire) (g.W.Wire.journal w.send-then-is_due.new.wire) (SentAll x)) w.deref-then-is_due.ensures.value w.in_ok-send-in-Out.ensures.ok))
          c.is_due.ensures w.if-is_due.true w.clear.ensures.items w.in_ok-take_checkpoint-in-Out.ensures.same.2 w.in_ok-take_checkpoint-in-Out.ensures.at w.in_ok-take_checkpoint-in-Out.ensures.ok)
      | else-is_due w ↦ rw (w.self-is, w.wire-is, w.held-is) (line_not_due c.is_due.result holds c.is_due.ensures w.if-is_due.false)
    ]
