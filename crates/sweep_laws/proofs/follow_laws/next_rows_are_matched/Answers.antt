-- What is answered by hand of the proof of laws::next_rows_are_matched.
use Rattle.sweep_laws.proofs.Matching.{told_at}
use Rattle.sweep_laws.proofs.follow_laws.next_rows_are_matched.Goals as goal

pub returns : goal.returns
returns c = λ meets pair within t a b now v. told_at meets pair within t now v a b
