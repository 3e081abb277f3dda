-- The entries of a queue as a map holds them.
use Rattle.std.specs.Prelude.{ℕ, ◌<◌, ◌≤◌, List, map, All}
use Rattle.std.specs.Map.{keys_of}
use Rattle.tw_rows.specs.Instant.{inf}
use Rattle.tw_rows.specs.declared.edge.Edge.{Edge}
use Rattle.end_queue.specs.Pending.{Pending, AreDueFrom}

-- an edge at its time and its number
abbrev pub Stored : Type 0
Stored = (ℕ × ℕ) × Edge

abbrev pub pending_of : Stored → Pending
pending_of s = record { at = s.0.0; edge = s.1 }

-- the numbers are below the next one, the times are times, and they never fall
pub record IsQueue (entries : List Stored) (next : ℕ) : Type 0 where
  pub numbers : All (λ k. k.1 < next) (keys_of entries)
  pub times : All (λ k. k.0 ≤ inf) (keys_of entries)
  pub order : AreDueFrom 0 (map pending_of entries)
