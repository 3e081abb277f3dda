-- Events without their ends, for sides of which only starts matter.
use Rattle.tw_rows.specs.Instant.{inf}
use Rattle.edge_history.specs.History.{CellEvent}

-- the event as if it never ended: of [3, 5) it is [3, inf). Its news are its start alone
abbrev pub unending : CellEvent → CellEvent
unending e = record { row = e.row; start = e.start; end = inf }
