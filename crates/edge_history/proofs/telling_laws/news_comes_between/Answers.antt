use Rattle.edge_history.proofs.Telling.{answer_from, answer_below, answer_real, answer_single}
use Rattle.edge_history.proofs.Retaining.{AreEvents-none_fails}
use Rattle.edge_history.proofs.telling_laws.news_comes_between.Goals as goal

pub returns-clause-later : goal.returns-clause-later
returns-clause-later c = answer_from

pub returns-clause-below : goal.returns-clause-below
returns-clause-below c = answer_below

pub returns-clause-real : goal.returns-clause-real
returns-clause-real c = λ t d answer events high valid same.
    answer_real t d answer events high (AreEvents-none_fails events valid) same

pub returns-clause-single : goal.returns-clause-single
returns-clause-single c = λ t d answer events valid same.
    answer_single t d answer events (AreEvents-none_fails events valid) same
