-- Ends of slices, computed.
use Rattle.std.specs.Prelude.{◌≡◌, ℕ, List, [], ◌∷◌, refl}
use Rattle.tw_rows.specs.Instant.{inf}
use Rattle.tw_rows.specs.declared.edge.Edge.{Edge}
use Rattle.ingress.specs.Slices.{slice_end}

abbrev starts_at : ℕ → Edge
starts_at t = record { sync = t; other = inf; cells = [] }

abbrev edges : List Edge
edges = starts_at 1 ∷ starts_at 1 ∷ starts_at 2 ∷ starts_at 5 ∷ []

one_edge : slice_end 1 9 edges ≡ 2
one_edge = refl

two_edges : slice_end 2 9 edges ≡ 2
two_edges = refl

three_edges : slice_end 3 9 edges ≡ 5
three_edges = refl

four_edges : slice_end 4 9 edges ≡ 9
four_edges = refl

one_sync : slice_end 1 9 (starts_at 1 ∷ starts_at 1 ∷ []) ≡ 9
one_sync = refl

no_edge : slice_end 1 9 [] ≡ 9
no_edge = refl
