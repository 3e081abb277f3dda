use Rattle.tw_rows.specs.Event.{alive}
use Rattle.key_nodes.specs.Tops.{top_rows}
use Rattle.key_nodes.proofs.CoalescedRows.{coalesced_rows}
use Rattle.key_nodes.proofs.Topping.{top_rows_same}
use Rattle.key_nodes.proofs.coalesced_laws.tops_have_the_rows.Goals as goal

pub returns-clause-alive : goal.returns-clause-alive
returns-clause-alive g c =
    λ same meets value count events t tells low.
    coalesced_rows same tells (λ u. top_rows meets value count (alive events u)) t low

pub returns-clause-order : goal.returns-clause-order
returns-clause-order g c = top_rows_same
