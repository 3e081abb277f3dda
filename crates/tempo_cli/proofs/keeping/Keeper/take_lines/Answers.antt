use Rattle.std.proofs.Common.{◌∙◌, refl, subst}
use Rattle.std.proofs.lemmas.Result.{err_from_is_err_and}
use Rattle.wire_lines.specs.Journal.{Grows, SentAll, SentFront}
use Rattle.tempo_cli.specs.Standing.{HasFewer}
use Rattle.tempo_cli.proofs.Walks.{none_taken, more_taken, held_ends, taken_sent, sent_ends, ends_at}
use Rattle.tempo_cli.proofs.keeping.Keeper.take_lines.Goals as goal

pub lines-init : goal.lines-init
lines-init g c = (c.requires.longest, c.requires.going, none_taken _ _ _ c.new-held.ensures.items, (refl, refl))

pub lines-preserved : goal.lines-preserved
lines-preserved g c = (
  c.in_ok-more.ensures.longest,
  c.in_ok-more.ensures.going,
  more_taken c.lines.invariant.2 c.in_ok-more.ensures.ok,
  (c.in_ok-more.ensures.counted.0 ∙ c.lines.invariant.3.0, c.in_ok-more.ensures.counted.1 ∙ c.lines.invariant.3.1),
)

pub lines-smaller : goal.lines-smaller
lines-smaller g c = subst (HasFewer c.lines.self.answering.cutter c.take_line.new.self.answering.cutter) c.if-not-more.false c.in_ok-more.ensures.fewer

pub returns-in_err-more-clause-err : goal.returns-in_err-more-clause-err
returns-in_err-more-clause-err g c = let p = err_from_is_err_and c.from_residual.result c.from_residual.ensures.1 in rw (p.1, p.2) (ends_at _ (held_ends c.lines.invariant.2 _ c.in_err-more.ensures.err))

pub returns-then-not-more-clause-ok : goal.returns-then-not-more-clause-ok
returns-then-not-more-clause-ok g c = taken_sent (more_taken c.lines.invariant.2 c.in_ok-more.ensures.ok) refl
    (subst (λ x. Grows (g.W.Wire.journal c.take_line.new.wire) (g.W.Wire.journal c.send.new.wire) (SentAll x)) c.deref.ensures.value c.in_ok-send.ensures.ok)

pub returns-then-not-more-clause-wants : goal.returns-then-not-more-clause-wants
returns-then-not-more-clause-wants g c = subst (HasFewer c.lines.self.answering.cutter c.take_line.new.self.answering.cutter) c.if-not-more.true c.in_ok-more.ensures.fewer

pub returns-in_err-send-clause-err : goal.returns-in_err-send-clause-err
returns-in_err-send-clause-err g c = let p = err_from_is_err_and c.from_residual-in_err-send.result c.from_residual-in_err-send.ensures.1 in rw (p.1, p.2)
    (ends_at _ (sent_ends (more_taken c.lines.invariant.2 c.in_ok-more.ensures.ok)
    (subst (λ x. Grows (g.W.Wire.journal c.take_line.new.wire) (g.W.Wire.journal c.send.new.wire) (SentFront x)) c.deref.ensures.value c.in_err-send.ensures.err)))
