-- Events that are emitted at their starts, as interval edges.
use Rattle.std.specs.Prelude.{◌≡◌, ℕ, ◌+◌, ◌*◌, ◌&&◌, nat_le, nat_lt, Bool, cond, List}
use Rattle.tw_rows.specs.Bag.{total}
use Rattle.tw_rows.specs.declared.edge.Edge.{Edge}
use Rattle.edge_history.specs.History.{CellEvent}
use Rattle.sweep_laws.specs.Sweeps.{InOrder}
use Rattle.sweep_laws.specs.Waits.{as_interval}

-- the event starts at c or later, and below d
abbrev pub starts_between : ℕ → ℕ → CellEvent → Bool
starts_between c d e = nat_le c e.start && nat_lt e.start d

-- the weight of the interval edges of the events that start at c or later, and below d
abbrev pub intervals : (Edge → ℕ) → ℕ → ℕ → List CellEvent → ℕ
intervals w c d events = total (λ e. cond (starts_between c d e) (w (as_interval e)) 0) events

-- between the two answers the events were emitted that start at one time or later, and before another, in order
pub record TellsAhead (events : List CellEvent) (from to : ℕ) (before after : List Edge) : Type 0 where
  pub weigh : (w : Edge → ℕ) → total w after ≡ total w before + intervals w from to events
  pub order : InOrder (2 * from) before → InOrder (2 * to) after
