use Rattle.std.proofs.Common.{◌≡◌, ◌+◌, ◌++◌, ◌∙◌, ℕ, List, arith, append_assoc, sym, subst}
use Rattle.std.proofs.lemmas.Result.{err_from_is_err_and}
use Rattle.wire_lines.specs.Journal.{Entry, Grows, ins}
use Rattle.wire_lines.proofs.Growth.{Grows-weaker}
use Rattle.tempo_cli.specs.Feeding.{answers_to}
use Rattle.tempo_cli.specs.Table.{limit}
use Rattle.tempo_cli.specs.Freezing.{Freezes}
use Rattle.tempo_cli.specs.Working.{AtEnd, Reading, status_of}
use Rattle.tempo_cli.specs.Halting.{IsFormFor, FrozeAfter}
use Rattle.tempo_cli.proofs.Journals.{Grows-then, counts_after, limit-is}
use Rattle.tempo_cli.proofs.Halting.{stops_freezing, freezes_all}
use Rattle.tempo_cli.proofs.freezing.freeze_on.Goals as goal

pub returns-in_err-read_on-clause-ends : goal.returns-in_err-read_on-clause-ends
returns-in_err-read_on-clause-ends g c = let p = err_from_is_err_and c.from_residual.result c.from_residual.ensures.1 in rw (p.1, p.2) (λ query q J form h.
    let most : limit + 1 ≡ 1099511627777 = omega (arith, limit-is) in
    Grows-weaker (c.in_err-read_on.ensures.err q J (subst (λ n. Reading q c.args.answering.now n J) most h)) (λ K s. stops_freezing (answers_to q) (FrozeAfter c.args.form.now c.args.answering.now.engine.parts.dataflow.workers q) _ (J ++ K) s))

pub returns-in_err-read_on-clause-asked : goal.returns-in_err-read_on-clause-asked
returns-in_err-read_on-clause-asked g c = let p = err_from_is_err_and c.from_residual.result c.from_residual.ensures.1 in rw (p.1, p.2) c.in_err-read_on.ensures.asked

pub returns-in_err-read_on-clause-counts : goal.returns-in_err-read_on-clause-counts
returns-in_err-read_on-clause-counts g c = let p = err_from_is_err_and c.from_residual.result c.from_residual.ensures.1 in rw (p.1, p.2) c.in_err-read_on.ensures.counts

pub end_frozen-requires-clause-going : goal.end_frozen-requires-clause-going
end_frozen-requires-clause-going g c κs within = c.in_ok-read_on.ensures.open.1 ∙ c.requires.going

pub returns-clause-ends : goal.returns-clause-ends
returns-clause-ends g c = λ query q J form h.
    let most : limit + 1 ≡ 1099511627777 = omega (arith, limit-is) in
    let F : ℕ → List Entry → Type 0 = λ n. Freezes (answers_to q) (FrozeAfter c.args.form.now n q) (status_of c.end_frozen.result) in
    let same = c.in_ok-read_on.ensures.open.0 in
    let now = c.read_on.new.answering.engine.parts.dataflow.workers in
    subst (λ n. Grows (g.W.Wire.journal c.args.wire.now) (g.W.Wire.journal c.end_frozen.new.wire) (λ K. F n (J ++ K))) same
    (Grows-then {P = λ K. AtEnd q c.read_on.new.answering (J ++ K)} (c.in_ok-read_on.ensures.ok q J (subst (λ n. Reading q c.args.answering.now n J) most h))
    (λ (K : List Entry) (a : AtEnd q c.read_on.new.answering (J ++ K)). c.end_frozen.ensures.ends query q (ins (J ++ K)) a.given
    (subst (λ n. IsFormFor query n q c.args.form.now) (sym same) form) a.holds)
    (λ K O a e. subst (F now) (append_assoc J K O) (freezes_all {J = J ++ K} (status_of c.end_frozen.result) a e)))

pub returns-clause-counts : goal.returns-clause-counts
returns-clause-counts g c = counts_after _ _ _ _ _ _ (status_of c.end_frozen.result) c.in_ok-read_on.ensures.same.0 c.in_ok-read_on.ensures.same.1 c.end_frozen.ensures.counts
