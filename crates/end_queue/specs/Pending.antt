-- Pending edges, each until a time of its own.
use Rattle.std.specs.Prelude.{ℕ, nat_lt, cond, ◌≤◌, List, [], ◌∷◌}
use Rattle.tw_rows.specs.declared.edge.Edge.{Edge}

-- an edge, and the time at which it is due
pub record Pending : Type 0 where
  pub at : ℕ
  pub edge : Edge

-- the list with the entry behind all those that are due at its time or earlier. Where entries wait for 3, 5, 5 and 7, one
-- more for 5 comes behind both of that time
abbrev pub put_pending : Pending → List Pending → List Pending
put_pending p [] = p ∷ []
put_pending p (q ∷ qs) = cond (nat_lt p.at q.at) (p ∷ q ∷ qs) (q ∷ put_pending p qs)

-- the times never fall, and none is below t
abbrev pub AreDueFrom : ℕ → List Pending → Type 0
AreDueFrom t [] = Unit {0}
AreDueFrom t (p ∷ ps) = (t ≤ p.at) × AreDueFrom p.at ps
