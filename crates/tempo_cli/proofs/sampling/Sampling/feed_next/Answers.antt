use Rattle.std.proofs.Common.{refl, ◌++◌, false, ap, ◌∙◌, sym, subst}
use Rattle.wire_lines.specs.Lines.{HasNoLf}
use Rattle.sample_trades.specs.ToCome.{to_come}
use Rattle.sample_trades.specs.Counted.{Counted}
use Rattle.tempo_cli.specs.Feeding.{answers_to}
use Rattle.sample_trades.proofs.Free.{line_free}
use Rattle.std.proofs.lemmas.Result.{err_from_is_err_and}
use Rattle.tempo_cli.proofs.Stopping.{own_at}
use Rattle.tempo_cli.proofs.Summed.{line_fails, sampled_more, next_is}
use Rattle.tempo_cli.proofs.sampling.Sampling.feed_next.Goals as goal

pub feed-requires-clause-no_feed : goal.feed-requires-clause-no_feed
feed-requires-clause-no_feed g c = λ κs k. subst HasNoLf (sym (c.deref.ensures.value ∙ c.in_ok-write.ensures.text)) (line_free c.in-Some.next)

pub returns-in_err-out-clause-failed : goal.returns-in_err-out-clause-failed
returns-in_err-out-clause-failed g c = let p = err_from_is_err_and c.from_residual-in_err-out.result c.from_residual-in_err-out.ensures.1 in rw (p.1, p.2) (λ q all h.
    line_fails h c.in-Some.next c.deref.result.now (c.deref.ensures.value ∙ c.in_ok-write.ensures.text) (to_come c.next_line.new.self) c.in-Some.ensures.given _
    (c.in_err-out.ensures.fault q h.given (sym h.header) (next_is h) h.engine))

pub returns-in_err-out-clause-own : goal.returns-in_err-out-clause-own
returns-in_err-out-clause-own g c = let p = err_from_is_err_and c.from_residual-in_err-out.result c.from_residual-in_err-out.ensures.1 in rw (p.1, p.2) (own_at _)

pub returns-clause-sampled : goal.returns-clause-sampled
returns-clause-sampled g c = λ q all h.
    let next = next_is h in
    let took = c.in_ok-out.ensures.took q h.given (sym h.header) next h.engine in
    let grows = c.in_ok-out.ensures.text q h.given (sym h.header) next h.engine in
    sampled_more h c.in-Some.next c.deref.result.now (c.deref.ensures.value ∙ c.in_ok-write.ensures.text) (to_come c.next_line.new.self) c.in-Some.ensures.given _ refl refl refl took
    (subst (λ x. Counted x c.add.new.self) (ap (λ b. (answers_to q).text h.given false ++ b) c.deref-2.ensures.value ∙ sym grows) (c.in_ok-add.ensures ((answers_to q).text h.given false) h.counted))
