use Rattle.tw_rows.specs.Event.{alive}
use Rattle.tw_rows.proofs.Bags.{SameBag-refl}
use Rattle.key_nodes.proofs.Alone.{alive_alone, alone_rows_same}
use Rattle.key_nodes.proofs.anti_laws.antis_have_the_rows.Goals as goal

pub returns-clause-alive : goal.returns-clause-alive
returns-clause-alive g c =
    λ same_row meets tells left right t low.
    alive_alone same_row meets tells left right (alive left t) (alive right t) t low (SameBag-refl (alive left t))
    (SameBag-refl (alive right t))

pub returns-clause-order : goal.returns-clause-order
returns-clause-order g c = alone_rows_same
