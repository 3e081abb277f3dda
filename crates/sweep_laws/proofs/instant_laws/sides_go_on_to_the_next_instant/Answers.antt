use Rattle.sweep_laws.proofs.Sides.{next_between, some_done, side_now, side_none, side_rest}
use Rattle.sweep_laws.proofs.instant_laws.sides_go_on_to_the_next_instant.Goals as goal

pub returns : goal.returns
returns c = record { between = next_between; some = some_done; now = side_now; before = side_none; rest = side_rest }
