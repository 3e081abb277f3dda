-- What is pending in a queue.
use Rattle.std.specs.Prelude.{◌≡◌, nat_eq, List, map}
use Rattle.tw_rows.specs.declared.edge.Edge.{Edge}
use Rattle.edge_history.specs.Order.{failing}
use Rattle.end_queue.specs.Pending.{Pending}

-- the edges of the entries
abbrev pub queued : List Pending → List Edge
queued q = map (λ p. p.edge) q

-- each entry is due at the sync of its edge: an edge at 5 that waits for 5, and not for 6
abbrev pub AreTimed : List Pending → Type 0
AreTimed q = failing (λ p. nat_eq p.at p.edge.sync) q ≡ 0
