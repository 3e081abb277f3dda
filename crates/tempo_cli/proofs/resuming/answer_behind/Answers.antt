use Rattle.std.proofs.Common.{◌++◌, List, [], true, refl, sym, ◌∙◌, ap, arith, append_assoc, append-nil, subst, true≢false}
use Rattle.std.proofs.lemmas.List.Elements.{All-nil}
use Rattle.std.proofs.lemmas.Result.{err_from_is_err_and}
use Rattle.wire_lines.specs.Journal.{Entry, IsOut, ins, outs}
use Rattle.wire_lines.proofs.Growth.{Grows-none, Grows-weaker}
use Rattle.tempo_cli.specs.Feeding.{answers_to}
use Rattle.tempo_cli.specs.Table.{IsDone, IsEnd, Ends}
use Rattle.tempo_cli.specs.Working.{Reading, MayCome, EndsFor, status_of}
use Rattle.tempo_cli.specs.declared.status.Status.TheVariants as statuses
use Rattle.tempo_cli.proofs.Jobs.{own_asked}
use Rattle.tempo_cli.proofs.Journals.{Grows-then, works_on, works_stop, few_came, end_outs, came_on, came_off, own_counts, counts_after}
use Rattle.tempo_cli.proofs.resuming.answer_behind.Goals as goal

pub returns-in_err-rest-clause-ends : goal.returns-in_err-rest-clause-ends
returns-in_err-rest-clause-ends g c = let p = err_from_is_err_and c.from_residual.result c.from_residual.ensures.1 in rw (p.1, p.2) (λ q J h.
    Grows-none _ (end_outs J [] c.in_err-rest.field-0.0 h.prompt (h.ended_is ∙ c.if-ended.true) (All-nil IsOut)
    (subst (λ x. IsEnd (answers_to q) c.in_err-rest.field-0.0 (ins J) x true) (sym (append-nil (outs J))) (c.in_err-rest.ensures.err q (ins J) (outs J) (h.all c.if-ended.true)))))

pub returns-in_err-rest-clause-grew : goal.returns-in_err-rest-clause-grew
returns-in_err-rest-clause-grew g c = let p = err_from_is_err_and c.from_residual.result c.from_residual.ensures.1 in rw (p.1, p.2) (λ k J h.
    Grows-none _ (record { reason = c.in_err-rest.ensures.reason h.fine k _ _; outs_alone = λ e. All-nil IsOut }))

pub returns-in_err-rest-clause-asked : goal.returns-in_err-rest-clause-asked
returns-in_err-rest-clause-asked g c = let p = err_from_is_err_and c.from_residual.result c.from_residual.ensures.1 in rw (p.1, p.2) (own_asked _ c.in_err-rest.ensures.own)

pub returns-in_err-rest-clause-counts : goal.returns-in_err-rest-clause-counts
returns-in_err-rest-clause-counts g c = let p = err_from_is_err_and c.from_residual.result c.from_residual.ensures.1 in rw (p.1, p.2) (own_counts _ _ _ _ _ c.in_err-rest.ensures.own refl refl)

pub returns-in_err-send-clause-ends : goal.returns-in_err-send-clause-ends
returns-in_err-send-clause-ends g c = let p = err_from_is_err_and c.from_residual-in_err-send.result c.from_residual-in_err-send.ensures.1 in rw (p.1, p.2) (λ q J h.
    let done = c.in_ok-rest.ensures.ok q (ins J) (outs J) (h.all c.if-ended.true) in
    Grows-weaker c.in_err-send.ensures.err (λ O s. end_outs J O statuses.WriteFault h.prompt (h.ended_is ∙ c.if-ended.true) s.outs_alone
    (s.after, sym done.written ∙ (ap (λ x. outs J ++ x) (sym c.deref.ensures.value ∙ s.front) ∙ sym (append_assoc (outs J) (outs O) s.after)))))

pub returns-in_err-send-clause-grew : goal.returns-in_err-send-clause-grew
returns-in_err-send-clause-grew g c = let p = err_from_is_err_and c.from_residual-in_err-send.result c.from_residual-in_err-send.ensures.1 in rw (p.1, p.2) (λ k J h.
    Grows-weaker c.in_err-send.ensures.err (λ O s. record { reason = tt; outs_alone = λ e. s.outs_alone }))

pub returns-in_err-send-clause-asked : goal.returns-in_err-send-clause-asked
returns-in_err-send-clause-asked g c = let p = err_from_is_err_and c.from_residual-in_err-send.result c.from_residual-in_err-send.ensures.1 in rw (p.1, p.2) tt

pub returns-in_err-send-clause-counts : goal.returns-in_err-send-clause-counts
returns-in_err-send-clause-counts g c = let p = err_from_is_err_and c.from_residual-in_err-send.result c.from_residual-in_err-send.ensures.1 in rw (p.1, p.2) c.in_err-send.ensures.cause.failed

pub returns-then-ended-clause-ends : goal.returns-then-ended-clause-ends
returns-then-ended-clause-ends g c = λ q J h.
    let done = c.in_ok-rest.ensures.ok q (ins J) (outs J) (h.all c.if-ended.true) in
    Grows-weaker c.in_ok-send.ensures.ok (λ O s. end_outs J O statuses.Done h.prompt (h.ended_is ∙ c.if-ended.true) s.outs_alone
    (subst (λ x. IsDone (answers_to q) (ins J) (outs J ++ x) true) (sym (s.all ∙ c.deref.ensures.value)) done))

pub returns-then-ended-clause-grew : goal.returns-then-ended-clause-grew
returns-then-ended-clause-grew g c = λ k J h. Grows-weaker c.in_ok-send.ensures.ok (λ O s. record { reason = tt; outs_alone = λ e. s.outs_alone })

pub returns-in_err-work-clause-ends : goal.returns-in_err-work-clause-ends
returns-in_err-work-clause-ends g c = let p = err_from_is_err_and c.from_residual-in_err-work.result c.from_residual-in_err-work.ensures.1 in rw (p.1, p.2) (λ q J h.
    let r = h.reading c.if-ended.false in
    Grows-weaker (c.in_err-work.ensures.err q (ins J) r.given r.holds (few_came r)) (λ O s. works_stop {J = J} {O = O} c.in_err-work.field-0.0 r s))

pub returns-in_err-work-clause-grew : goal.returns-in_err-work-clause-grew
returns-in_err-work-clause-grew g c = let p = err_from_is_err_and c.from_residual-in_err-work.result c.from_residual-in_err-work.ensures.1 in rw (p.1, p.2) (λ k J h.
    let come = h.may_come c.if-ended.false in
    Grows-weaker (c.in_err-work.ensures.reason k (ins J) come.given come.gives (omega (arith, come.count))) (λ O o.
    record { reason = came_off [] J O c.in_err-work.field-0.0 o; outs_alone = λ e. absurd (true≢false (sym e ∙ c.if-ended.false)) }))

pub returns-in_err-work-clause-asked : goal.returns-in_err-work-clause-asked
returns-in_err-work-clause-asked g c = let p = err_from_is_err_and c.from_residual-in_err-work.result c.from_residual-in_err-work.ensures.1 in rw (p.1, p.2) c.in_err-work.ensures.asked

pub returns-in_err-work-clause-counts : goal.returns-in_err-work-clause-counts
returns-in_err-work-clause-counts g c = let p = err_from_is_err_and c.from_residual-in_err-work.result c.from_residual-in_err-work.ensures.1 in rw (p.1, p.2) c.in_err-work.ensures.counts

pub returns-clause-ends : goal.returns-clause-ends
returns-clause-ends g c = λ q J h.
    let r = h.reading c.if-ended.false in
    Grows-then {P = λ O. Reading q c.work.new.answering c.args.left (J ++ O)} (Grows-weaker (c.in_ok-work.ensures.ok q (ins J) r.given r.holds (few_came r)) (λ O w. works_on {J = J} {O = O} r w))
    (λ (O : List Entry) (x : Reading q c.work.new.answering c.args.left (J ++ O)). c.answer_on.ensures.ends q (J ++ O) x)
    (λ O K x e. subst (Ends (answers_to q) (status_of c.answer_on.result)) (append_assoc J O K) e)

pub returns-clause-grew : goal.returns-clause-grew
returns-clause-grew g c = λ k J h.
    let come = h.may_come c.if-ended.false in
    Grows-then {P = λ O. MayCome k c.work.new.answering c.args.left (J ++ O)} (Grows-weaker (c.in_ok-work.ensures.gives k (ins J) come.given come.gives (omega (arith, come.count))) (λ O o. came_on [] J O come o))
    (λ (O : List Entry) (x : MayCome k c.work.new.answering c.args.left (J ++ O)). c.answer_on.ensures.reason k (J ++ O) x)
    (λ O K x why. record { reason = subst (EndsFor k (status_of c.answer_on.result)) (append_assoc J O K) why; outs_alone = λ e. absurd (true≢false (sym e ∙ c.if-ended.false)) })

pub returns-clause-counts : goal.returns-clause-counts
returns-clause-counts g c = counts_after _ _ _ _ _ _ (status_of c.answer_on.result) c.in_ok-work.ensures.same.0 c.in_ok-work.ensures.same.1 c.answer_on.ensures.counts
