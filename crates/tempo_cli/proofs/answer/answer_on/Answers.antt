use Rattle.std.proofs.Common.{◌++◌, List, append_assoc, subst}
use Rattle.std.proofs.lemmas.Result.{err_from_is_err_and}
use Rattle.wire_lines.specs.Journal.{Entry, ins}
use Rattle.wire_lines.proofs.Growth.{Grows-weaker, Grows-grows}
use Rattle.tempo_cli.specs.Feeding.{answers_to}
use Rattle.tempo_cli.specs.Table.{Ends}
use Rattle.tempo_cli.specs.Working.{AtEnd, status_of}
use Rattle.tempo_cli.proofs.Journals.{Grows-then, ends_all, came_end, counts_after}
use Rattle.tempo_cli.proofs.answer.answer_on.Goals as goal

pub returns-in_err-read_on-clause-ends : goal.returns-in_err-read_on-clause-ends
returns-in_err-read_on-clause-ends g c = let p = err_from_is_err_and c.from_residual.result c.from_residual.ensures.1 in rw (p.1, p.2) (λ q J h. Grows-weaker (c.in_err-read_on.ensures.err q J h) (λ K s. s.ends))

pub returns-in_err-read_on-clause-asked : goal.returns-in_err-read_on-clause-asked
returns-in_err-read_on-clause-asked g c = let p = err_from_is_err_and c.from_residual.result c.from_residual.ensures.1 in rw (p.1, p.2) c.in_err-read_on.ensures.asked

pub returns-in_err-read_on-clause-counts : goal.returns-in_err-read_on-clause-counts
returns-in_err-read_on-clause-counts g c = let p = err_from_is_err_and c.from_residual.result c.from_residual.ensures.1 in rw (p.1, p.2) c.in_err-read_on.ensures.counts

pub returns-clause-ends : goal.returns-clause-ends
returns-clause-ends g c = λ q J h. Grows-then {P = λ K. AtEnd q c.read_on.new.answering (J ++ K)} (c.in_ok-read_on.ensures.ok q J h)
    (λ (K : List Entry) (a : AtEnd q c.read_on.new.answering (J ++ K)). c.end.ensures.ends q (ins (J ++ K)) a.given a.holds)
    (λ K O a e. subst (Ends (answers_to q) (status_of c.end.result)) (append_assoc J K O) (ends_all {J = J ++ K} (status_of c.end.result) a e))

pub returns-clause-counts : goal.returns-clause-counts
returns-clause-counts g c = counts_after _ _ _ _ _ _ (status_of c.end.result) c.in_ok-read_on.ensures.same.0 c.in_ok-read_on.ensures.same.1 c.end.ensures.counts

pub returns-in_err-read_on-clause-reason : goal.returns-in_err-read_on-clause-reason
returns-in_err-read_on-clause-reason g c = let p = err_from_is_err_and c.from_residual.result c.from_residual.ensures.1 in rw (p.1, p.2) c.in_err-read_on.ensures.reason

pub returns-clause-reason : goal.returns-clause-reason
returns-clause-reason g c = λ k J m. Grows-grows (c.in_ok-read_on.ensures.came k J m) c.end.ensures.grows
    (λ K O a o. came_end J K O (status_of c.end.result) o a (c.end.ensures.reason k (ins (J ++ K)) a.given a.gives))
