-- What is answered by hand of the proof of ranked::tops_are_found_key_by_key.
use Rattle.outer_top.proofs.ByKey.{tops_by_key}
use Rattle.outer_top.proofs.ranked.tops_are_found_key_by_key.Goals as goal

pub returns : goal.returns
returns g c = λ key same tells value most es own apart. tops_by_key key same tells value most es own apart
