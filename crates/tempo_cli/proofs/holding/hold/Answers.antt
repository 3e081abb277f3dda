use Rattle.std.proofs.Common.{subst, ◌∙◌, refl}
use Rattle.std.proofs.lemmas.Result.{on_ok_weaker, on_err_weaker}
use Rattle.wire_lines.specs.Journal.{Grows, SentAll}
use Rattle.wire_lines.proofs.Growth.{Grows-grows}
use Rattle.tempo_cli.proofs.Held.{both_out, due_front}
use Rattle.tempo_cli.proofs.holding.hold.Goals as goal

pub returns-clause-err : goal.returns-clause-err
returns-clause-err g c =
    let first = subst (λ x. Grows (g.W.Wire.journal c.args.wire.now) (g.W.Wire.journal c.send.new.wire) (SentAll x))
    (c.deref.ensures.value ∙ (c.add.ensures ∙ rw c.if-add.false refl)) c.in_ok-send.ensures.ok in
    on_err_weaker _ (λ h. Grows-grows first h (λ O K s t. due_front c.args.held.now.items c.args.due.now O K s t)) c.send-2.ensures.err

pub returns-clause-ok : goal.returns-clause-ok
returns-clause-ok g c =
    let first = subst (λ x. Grows (g.W.Wire.journal c.args.wire.now) (g.W.Wire.journal c.send.new.wire) (SentAll x))
    (c.deref.ensures.value ∙ (c.add.ensures ∙ rw c.if-add.false refl)) c.in_ok-send.ensures.ok in
    rw c.clear.ensures.items (on_ok_weaker _ (λ h. Grows-grows first h (λ O K s t. both_out c.args.held.now.items c.args.due.now O K s t)) c.send-2.ensures.ok)
