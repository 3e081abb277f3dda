use Rattle.plan_laws.proofs.Maps.{alive_to, AreEvents-to, cut_to, moved_to, hopped_to, lasting_to, extended_to}
use Rattle.plan_laws.proofs.map_laws.lives_do_not_depend_on_rows.Goals as goal

pub returns-clause-alive : goal.returns-clause-alive
returns-clause-alive g c = alive_to

pub returns-clause-valid : goal.returns-clause-valid
returns-clause-valid g c = AreEvents-to

pub returns-clause-known : goal.returns-clause-known
returns-clause-known g c = cut_to

pub returns-clause-moved : goal.returns-clause-moved
returns-clause-moved g c = moved_to

pub returns-clause-hopped : goal.returns-clause-hopped
returns-clause-hopped g c = hopped_to

pub returns-clause-lasting : goal.returns-clause-lasting
returns-clause-lasting g c = lasting_to

pub returns-clause-extended : goal.returns-clause-extended
returns-clause-extended g c = extended_to
