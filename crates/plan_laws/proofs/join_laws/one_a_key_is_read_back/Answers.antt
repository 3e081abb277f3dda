use Rattle.plan_laws.proofs.OneRows.{one_a_key_read, one_a_key_same}
use Rattle.plan_laws.proofs.join_laws.one_a_key_is_read_back.Goals as goal

pub returns-clause-order : goal.returns-clause-order
returns-clause-order g c = one_a_key_same

pub returns-clause-reading : goal.returns-clause-reading
returns-clause-reading g c = one_a_key_read
