use Rattle.plan_model.proofs.Averages.{length_of_mean, column_of_mean, mean_divided, mean_kept}
use Rattle.plan_model.proofs.laws.means_are.Goals as goal

pub returns-clause-length : goal.returns-clause-length
returns-clause-length g c = length_of_mean

pub returns-clause-column : goal.returns-clause-column
returns-clause-column g c = column_of_mean

pub returns-clause-divided : goal.returns-clause-divided
returns-clause-divided g c = mean_divided

pub returns-clause-not_divided : goal.returns-clause-not_divided
returns-clause-not_divided g c = mean_kept
