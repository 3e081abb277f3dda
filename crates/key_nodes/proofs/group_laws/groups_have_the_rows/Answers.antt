use Rattle.tw_rows.specs.Event.{alive}
use Rattle.tw_rows.proofs.Bags.{SameBag-refl}
use Rattle.key_nodes.proofs.Grouping.{alive_grouped, grouped_rows_same}
use Rattle.key_nodes.proofs.group_laws.groups_have_the_rows.Goals as goal

pub returns-clause-alive : goal.returns-clause-alive
returns-clause-alive g c =
    λ key same same_row tell tells tells_rows is events t low.
    alive_grouped key same same_row tell tells tells_rows is events (alive events t) t low
    (SameBag-refl (alive events t))

pub returns-clause-order : goal.returns-clause-order
returns-clause-order g c = grouped_rows_same
