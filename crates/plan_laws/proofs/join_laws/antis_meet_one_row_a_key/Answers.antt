use Rattle.plan_laws.proofs.OneRows.{anti_one_a_key}
use Rattle.plan_laws.proofs.join_laws.antis_meet_one_row_a_key.Goals as goal

pub returns : goal.returns
returns c = anti_one_a_key
