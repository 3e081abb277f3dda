use Rattle.sweep_laws.proofs.Adding.{moved_more, ends_held, map_more}
use Rattle.sweep_laws.proofs.answer_laws.rows_follow_edge_by_edge.Goals as goal

pub returns : goal.returns
returns c = record { moved = moved_more; held = ends_held; told = map_more }
