use Rattle.std.proofs.Common.{◌++◌, true, false, refl, sym, ◌∙◌, subst}
use Rattle.std.proofs.lemmas.List.Elements.{All-nil}
use Rattle.std.proofs.lemmas.List.{append-nil}
use Rattle.std.proofs.lemmas.Result.{err_from_is_err_and}
use Rattle.wire_lines.specs.Journal.{Grows, IsOut, SentAll, outs}
use Rattle.wire_lines.specs.Lines.{lines}
use Rattle.wire_lines.proofs.Growth.{Grows-none, Grows-weaker}
use Rattle.tempo_engine.specs.Frozen.{Fits}
use Rattle.tempo_cli.specs.Feeding.{answers_to, fed_by}
use Rattle.tempo_cli.specs.Freezing.{HasText, IsFreezeEnd}
use Rattle.tempo_cli.specs.Working.{status_of}
use Rattle.tempo_cli.specs.Halting.{FrozeAfter}
use Rattle.tempo_cli.proofs.Journals.{own_counts, counts_after}
use Rattle.tempo_cli.proofs.Jobs.{own_asked}
use Rattle.tempo_cli.proofs.Halting.{freeze_end_of, front_due, short_frozen, checkpoint_sent, sends_asked}
use Rattle.tempo_cli.proofs.freezing.end_frozen.Goals as goal

pub returns-in_err-last-clause-ends : goal.returns-in_err-last-clause-ends
returns-in_err-last-clause-ends g c = let p = err_from_is_err_and c.from_residual.result c.from_residual.ensures.1 in rw (p.1, p.2) (λ query q bytes given form h.
    let F = FrozeAfter c.args.form.now c.args.answering.now.engine.parts.dataflow.workers q (lines bytes true) in
    Grows-none _ (record {
      outs_alone = All-nil IsOut;
      end = subst (λ x. IsFreezeEnd (answers_to q) F c.in_err-last.field-0.0 bytes x true) (sym (append-nil ((answers_to q).text given false))) (freeze_end_of (answers_to q) F _ bytes _ true (c.in_err-last.ensures.err_frozen q bytes given h));
    }))

pub returns-in_err-last-clause-asked : goal.returns-in_err-last-clause-asked
returns-in_err-last-clause-asked g c = let p = err_from_is_err_and c.from_residual.result c.from_residual.ensures.1 in rw (p.1, p.2) (own_asked _ c.in_err-last.ensures.own)

pub returns-in_err-last-clause-counts : goal.returns-in_err-last-clause-counts
returns-in_err-last-clause-counts g c = let p = err_from_is_err_and c.from_residual.result c.from_residual.ensures.1 in rw (p.1, p.2) (own_counts _ _ _ _ _ c.in_err-last.ensures.own refl refl)

pub returns-in_err-send-clause-ends : goal.returns-in_err-send-clause-ends
returns-in_err-send-clause-ends g c = let p = err_from_is_err_and c.from_residual-in_err-send.result c.from_residual-in_err-send.ensures.1 in rw (p.1, p.2) (λ query q bytes given form h. Grows-weaker c.in_err-send.ensures.err (λ O s. record {
  outs_alone = s.outs_alone;
  end = front_due (FrozeAfter c.args.form.now c.args.answering.now.engine.parts.dataflow.workers q (lines bytes true)) q bytes ((answers_to q).text given false) c.in_ok-last.last.items (outs O) _ (c.in_ok-last.ensures.ok q bytes given h) (s.after, sym c.deref.ensures.value ∙ s.front);
}))

pub returns-in_err-send-clause-asked : goal.returns-in_err-send-clause-asked
returns-in_err-send-clause-asked g c = let p = err_from_is_err_and c.from_residual-in_err-send.result c.from_residual-in_err-send.ensures.1 in rw (p.1, p.2) tt

pub returns-in_err-send-clause-counts : goal.returns-in_err-send-clause-counts
returns-in_err-send-clause-counts g c = let p = err_from_is_err_and c.from_residual-in_err-send.result c.from_residual-in_err-send.ensures.1 in rw (p.1, p.2) c.in_err-send.ensures.cause.failed

pub returns-in_err-frozen-clause-ends : goal.returns-in_err-frozen-clause-ends
returns-in_err-frozen-clause-ends g c = let p = err_from_is_err_and c.from_residual-in_err-frozen.result c.from_residual-in_err-frozen.ensures.1 in rw (p.1, p.2) (λ query q bytes given form h. Grows-weaker c.in_ok-send.ensures.ok (λ O s.
    let e = c.in_ok-last.ensures.ok q bytes given h in
    let F = FrozeAfter c.args.form.now c.args.answering.now.engine.parts.dataflow.workers q (lines bytes true) in
    record {
      outs_alone = s.outs_alone;
      end = subst (λ status. IsFreezeEnd (answers_to q) F status bytes ((answers_to q).text given false ++ outs O) true) (sym (c.in_err-frozen.ensures.err q bytes _ e))
          (short_frozen q bytes ((answers_to q).text given false) c.in_ok-last.last.items O _ e (sym (s.all ∙ c.deref.ensures.value)));
    }))

pub returns-in_err-frozen-clause-asked : goal.returns-in_err-frozen-clause-asked
returns-in_err-frozen-clause-asked g c = let p = err_from_is_err_and c.from_residual-in_err-frozen.result c.from_residual-in_err-frozen.ensures.1 in rw (p.1, p.2) (own_asked _ c.in_err-frozen.ensures.own)

pub returns-in_err-frozen-clause-counts : goal.returns-in_err-frozen-clause-counts
returns-in_err-frozen-clause-counts g c = let p = err_from_is_err_and c.from_residual-in_err-frozen.result c.from_residual-in_err-frozen.ensures.1 in rw (p.1, p.2) (own_counts _ _ _ _ _ c.in_err-frozen.ensures.own c.in_ok-send.ensures.other.same c.in_ok-send.ensures.cause.same)

pub returns-in_err-buffer-clause-ends : goal.returns-in_err-buffer-clause-ends
returns-in_err-buffer-clause-ends g c = let p = err_from_is_err_and c.from_residual-in_err-buffer.result c.from_residual-in_err-buffer.ensures.1 in rw (p.1, p.2) (λ query q bytes given form h. Grows-weaker c.in_ok-send.ensures.ok (λ O s. record {
  outs_alone = s.outs_alone;
  end = short_frozen q bytes ((answers_to q).text given false) c.in_ok-last.last.items O _ (c.in_ok-last.ensures.ok q bytes given h) (sym (s.all ∙ c.deref.ensures.value));
}))

pub returns-in_err-buffer-clause-asked : goal.returns-in_err-buffer-clause-asked
returns-in_err-buffer-clause-asked g c = let p = err_from_is_err_and c.from_residual-in_err-buffer.result c.from_residual-in_err-buffer.ensures.1 in rw (p.1, p.2) tt

pub returns-in_err-buffer-clause-counts : goal.returns-in_err-buffer-clause-counts
returns-in_err-buffer-clause-counts g c = let p = err_from_is_err_and c.from_residual-in_err-buffer.result c.from_residual-in_err-buffer.ensures.1 in rw (p.1, p.2) (c.in_ok-send.ensures.other.same, c.in_ok-send.ensures.cause.same)

pub returns-clause-ends : goal.returns-clause-ends
returns-clause-ends g c = λ query q bytes given form h.
    let e = c.in_ok-last.ensures.ok q bytes given h in
    let workers = c.args.answering.now.engine.parts.dataflow.workers in
    let fits = subst (λ n. Fits n q.plan q.policy (fed_by q (lines bytes true)) c.in_ok-frozen.frozen) c.last_line.ensures.open.0 (c.in_ok-frozen.ensures.fits q bytes _ e) in
    let has = c.in_ok-buffer.ensures.text query workers q.plan q.policy fits.by.formed fits.by.sound form.workers_fit form.lateness_fits form.period_fits in
    let text : HasText c.args.form.now c.in_ok-frozen.frozen = subst (λ f. HasText f c.in_ok-frozen.frozen) (sym form.form_is) has in
    let sent = subst (λ x. Grows (g.W.Wire.journal c.args.wire.now) (g.W.Wire.journal c.send.new.wire) (SentAll x)) c.deref.ensures.value c.in_ok-send.ensures.ok in
    checkpoint_sent (status_of c.send_lines.result) e text fits sent c.send_lines.ensures.sent

pub returns-clause-asked : goal.returns-clause-asked
returns-clause-asked g c = sends_asked _ _ _ (status_of c.send_lines.result) c.send_lines.ensures.sent

pub returns-clause-counts : goal.returns-clause-counts
returns-clause-counts g c = counts_after _ _ _ _ _ _ (status_of c.send_lines.result) c.in_ok-send.ensures.other.same c.in_ok-send.ensures.cause.same c.send_lines.ensures.counts
