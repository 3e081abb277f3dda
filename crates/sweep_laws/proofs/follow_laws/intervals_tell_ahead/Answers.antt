-- What is answered by hand of the proof of laws::intervals_tell_ahead.
use Rattle.edge_history.proofs.Retaining.{AreEvents-none_fails}
use Rattle.sweep_laws.proofs.Ahead.{intervals_tell}
use Rattle.sweep_laws.proofs.follow_laws.intervals_tell_ahead.Goals as goal

pub returns : goal.returns
returns c = λ k out events low valid order is. intervals_tell k low out events (AreEvents-none_fails events valid) order is
