use Rattle.plan_model.proofs.FirstOpen.{first_open}
use Rattle.plan_model.proofs.changes_laws.ends_name_first_open_start.Goals as goal

pub returns : goal.returns
returns c = λ rows n done after t s r e. first_open rows n done after t s r e
