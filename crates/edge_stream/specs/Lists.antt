-- Lists of edges: one without edges, and lists by number, as those of streams and those of nodes.
use Rattle.std.specs.Prelude.{ℕ, zero, suc, List, [], ◌∷◌, ◌++◌}
use Rattle.tw_rows.specs.declared.edge.Edge.{Edge}
use Rattle.tw_rows.specs.declared.kind.Kind.{Kind}
use Rattle.edge_stream.specs.Listing.{EdgeListView}

-- a list without edges, for columns of these kinds in batches of that capacity
abbrev pub no_edges : List Kind → ℕ → EdgeListView
no_edges kinds capacity = record { edges = []; kinds = kinds; capacity = capacity; batches = 0; room = 0 }

-- the edges of the list of that number, and none past the lists
abbrev pub edges_at : List EdgeListView → ℕ → List Edge
edges_at [] k = []
edges_at (l ∷ ls) zero = l.edges
edges_at (l ∷ ls) (suc k) = edges_at ls k

-- the lists by number, each with more edges last: with one edge in list 2, and two more there, three
abbrev pub longer : (ℕ → List Edge) → (ℕ → List Edge) → ℕ → List Edge
longer lists more k = lists k ++ more k
