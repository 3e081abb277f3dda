use Rattle.where_select.proofs.Nodes.{stage-more}
use Rattle.where_select.proofs.stage_laws.stages_keep_their_node.Goals as goal

pub returns : goal.returns
returns c = λ texts more capacity kinds n s begins is. stage-more texts more begins capacity kinds n s is
