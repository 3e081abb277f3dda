use Rattle.std.proofs.Common.{◌≡◌, ◌++◌, List, ℕ, true, false, refl, sym, ◌∙◌, ap, append_assoc, subst}
use Rattle.std.proofs.lemmas.List.Elements.{All-append, All-nil}
use Rattle.std.proofs.lemmas.List.{append-nil}
use Rattle.std.proofs.lemmas.Result.{err_from_is_err_and}
use Rattle.wire_lines.specs.Journal.{Entry, IsOut, outs}
use Rattle.wire_lines.proofs.Growth.{Grows-none, Grows-weaker, Grows-grows}
use Rattle.tempo_cli.specs.Answers.{IsFront}
use Rattle.tempo_cli.specs.Feeding.{answers_to}
use Rattle.tempo_cli.specs.Table.{IsDone, IsEnd}
use Rattle.tempo_cli.proofs.Stopping.{end_front}
use Rattle.tempo_cli.proofs.Journals.{own_counts, risen, written_both}
use Rattle.tempo_cli.proofs.Jobs.{own_asked}
use Rattle.tempo_cli.proofs.answer.end.Goals as goal

pub returns-in_err-last-clause-ends : goal.returns-in_err-last-clause-ends
returns-in_err-last-clause-ends g c = let p = err_from_is_err_and c.from_residual.result c.from_residual.ensures.1 in rw (p.1, p.2) (λ q bytes given h. Grows-none _ (record {
  outs_alone = All-nil IsOut;
  end = subst (λ x. IsEnd (answers_to q) c.in_err-last.field-0.0 bytes x true) (sym (append-nil ((answers_to q).text given false))) (c.in_err-last.ensures.err q bytes given h);
}))

pub returns-in_err-last-clause-asked : goal.returns-in_err-last-clause-asked
returns-in_err-last-clause-asked g c = let p = err_from_is_err_and c.from_residual.result c.from_residual.ensures.1 in rw (p.1, p.2) (own_asked _ c.in_err-last.ensures.own)

pub returns-in_err-last-clause-counts : goal.returns-in_err-last-clause-counts
returns-in_err-last-clause-counts g c = let p = err_from_is_err_and c.from_residual.result c.from_residual.ensures.1 in rw (p.1, p.2) (own_counts _ _ _ _ _ c.in_err-last.ensures.own refl refl)

pub returns-in_err-send-clause-ends : goal.returns-in_err-send-clause-ends
returns-in_err-send-clause-ends g c = let p = err_from_is_err_and c.from_residual-in_err-send.result c.from_residual-in_err-send.ensures.1 in rw (p.1, p.2) (λ q bytes given h. Grows-weaker c.in_err-send.ensures.err (λ O s. record {
  outs_alone = s.outs_alone;
  end = end_front q bytes ((answers_to q).text given false) c.in_ok-last.last.items (outs O) _ (c.in_ok-last.ensures.ok q bytes given h) (s.after, sym c.deref.ensures.value ∙ s.front);
}))

pub returns-in_err-send-clause-asked : goal.returns-in_err-send-clause-asked
returns-in_err-send-clause-asked g c = let p = err_from_is_err_and c.from_residual-in_err-send.result c.from_residual-in_err-send.ensures.1 in rw (p.1, p.2) tt

pub returns-in_err-send-clause-counts : goal.returns-in_err-send-clause-counts
returns-in_err-send-clause-counts g c = let p = err_from_is_err_and c.from_residual-in_err-send.result c.from_residual-in_err-send.ensures.1 in rw (p.1, p.2) c.in_err-send.ensures.cause.failed

pub returns-in_err-rest-clause-ends : goal.returns-in_err-rest-clause-ends
returns-in_err-rest-clause-ends g c = let p = err_from_is_err_and c.from_residual-in_err-rest.result c.from_residual-in_err-rest.ensures.1 in rw (p.1, p.2) (λ q bytes given h. Grows-weaker c.in_ok-send.ensures.ok (λ O s. record {
  outs_alone = s.outs_alone;
  end = subst (λ x. IsEnd (answers_to q) c.in_err-rest.field-0.0 bytes ((answers_to q).text given false ++ x) true) (sym (s.all ∙ c.deref.ensures.value))
      (c.in_err-rest.ensures.err q bytes ((answers_to q).text given false ++ c.in_ok-last.last.items) (c.in_ok-last.ensures.ok q bytes given h));
}))

pub returns-in_err-rest-clause-asked : goal.returns-in_err-rest-clause-asked
returns-in_err-rest-clause-asked g c = let p = err_from_is_err_and c.from_residual-in_err-rest.result c.from_residual-in_err-rest.ensures.1 in rw (p.1, p.2) (own_asked _ c.in_err-rest.ensures.own)

pub returns-in_err-rest-clause-counts : goal.returns-in_err-rest-clause-counts
returns-in_err-rest-clause-counts g c = let p = err_from_is_err_and c.from_residual-in_err-rest.result c.from_residual-in_err-rest.ensures.1 in rw (p.1, p.2) (own_counts _ _ _ _ _ c.in_err-rest.ensures.own c.in_ok-send.ensures.other.same c.in_ok-send.ensures.cause.same)

-- all of the first part, and a prefix of the second
front_of : (x y z whole after : List ℕ) (O K : List Entry) → (x ++ y) ++ z ≡ whole → y ≡ outs O → z ≡ outs K ++ after → IsFront (x ++ outs (O ++ K)) whole
front_of x y z whole after O K e p r = (
  after,
  sym e ∙ (ap (λ t. (x ++ y) ++ t) r ∙ (sym (append_assoc (x ++ y) (outs K) after) ∙ ap (λ t. t ++ after) (written_both x y (outs K) O K p refl))),
)

pub returns-in_err-send-2-clause-ends : goal.returns-in_err-send-2-clause-ends
returns-in_err-send-2-clause-ends g c = let p = err_from_is_err_and c.from_residual-in_err-send-2.result c.from_residual-in_err-send-2.ensures.1 in rw (p.1, p.2) (λ q bytes given h. Grows-grows c.in_ok-send.ensures.ok c.in_err-send-2.ensures.err (λ O K s t.
    let done = c.in_ok-rest.ensures.ok q bytes ((answers_to q).text given false ++ c.in_ok-last.last.items) (c.in_ok-last.ensures.ok q bytes given h) in
    record {
      outs_alone = All-append IsOut O K s.outs_alone t.outs_alone;
      end = front_of ((answers_to q).text given false) c.in_ok-last.last.items c.in_ok-rest.rest.items _ t.after O K done.written (sym (s.all ∙ c.deref.ensures.value)) (sym c.deref-2.ensures.value ∙ t.front);
    }))

pub returns-in_err-send-2-clause-asked : goal.returns-in_err-send-2-clause-asked
returns-in_err-send-2-clause-asked g c = let p = err_from_is_err_and c.from_residual-in_err-send-2.result c.from_residual-in_err-send-2.ensures.1 in rw (p.1, p.2) tt

pub returns-in_err-send-2-clause-counts : goal.returns-in_err-send-2-clause-counts
returns-in_err-send-2-clause-counts g c = let p = err_from_is_err_and c.from_residual-in_err-send-2.result c.from_residual-in_err-send-2.ensures.1 in rw (p.1, p.2) (risen _ _ _ c.in_ok-send.ensures.cause.same c.in_err-send-2.ensures.cause.failed)

pub returns-clause-ends : goal.returns-clause-ends
returns-clause-ends g c = λ q bytes given h. Grows-grows c.in_ok-send.ensures.ok c.in_ok-send-2.ensures.ok (λ O K s t. record {
  outs_alone = All-append IsOut O K s.outs_alone t.outs_alone;
  end = subst (λ x. IsDone (answers_to q) bytes x true)
      (written_both ((answers_to q).text given false) c.in_ok-last.last.items c.in_ok-rest.rest.items O K (sym (s.all ∙ c.deref.ensures.value)) (sym (t.all ∙ c.deref-2.ensures.value)))
      (c.in_ok-rest.ensures.ok q bytes ((answers_to q).text given false ++ c.in_ok-last.last.items) (c.in_ok-last.ensures.ok q bytes given h));
})

pub returns-in_err-last-clause-grows : goal.returns-in_err-last-clause-grows
returns-in_err-last-clause-grows g c = Grows-none _ (All-nil IsOut)

pub returns-in_err-last-clause-reason : goal.returns-in_err-last-clause-reason
returns-in_err-last-clause-reason g c = let p = err_from_is_err_and c.from_residual.result c.from_residual.ensures.1 in rw (p.1, p.2) c.in_err-last.ensures.reason

pub returns-in_err-send-clause-grows : goal.returns-in_err-send-clause-grows
returns-in_err-send-clause-grows g c = Grows-weaker c.in_err-send.ensures.err (λ O s. s.outs_alone)

pub returns-in_err-send-clause-reason : goal.returns-in_err-send-clause-reason
returns-in_err-send-clause-reason g c = let p = err_from_is_err_and c.from_residual-in_err-send.result c.from_residual-in_err-send.ensures.1 in rw (p.1, p.2) (λ k bytes given h. tt)

pub returns-in_err-rest-clause-grows : goal.returns-in_err-rest-clause-grows
returns-in_err-rest-clause-grows g c = Grows-weaker c.in_ok-send.ensures.ok (λ O s. s.outs_alone)

pub returns-in_err-rest-clause-reason : goal.returns-in_err-rest-clause-reason
returns-in_err-rest-clause-reason g c = let p = err_from_is_err_and c.from_residual-in_err-rest.result c.from_residual-in_err-rest.ensures.1 in rw (p.1, p.2)
    (λ k bytes given h. c.in_err-rest.ensures.reason (c.in_ok-last.ensures.fine h.fine) k bytes true)

pub returns-in_err-send-2-clause-grows : goal.returns-in_err-send-2-clause-grows
returns-in_err-send-2-clause-grows g c = Grows-grows c.in_ok-send.ensures.ok c.in_err-send-2.ensures.err (λ O K s t. All-append IsOut O K s.outs_alone t.outs_alone)

pub returns-in_err-send-2-clause-reason : goal.returns-in_err-send-2-clause-reason
returns-in_err-send-2-clause-reason g c = let p = err_from_is_err_and c.from_residual-in_err-send-2.result c.from_residual-in_err-send-2.ensures.1 in rw (p.1, p.2) (λ k bytes given h. tt)

pub returns-clause-grows : goal.returns-clause-grows
returns-clause-grows g c = Grows-grows c.in_ok-send.ensures.ok c.in_ok-send-2.ensures.ok (λ O K s t. All-append IsOut O K s.outs_alone t.outs_alone)

pub returns-clause-reason : goal.returns-clause-reason
returns-clause-reason g c = λ k bytes given h. tt
