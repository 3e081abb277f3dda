-- The fold of a list of nodes that name earlier ones: the result of each node is made from the results before it. Plans
-- and expressions both take their meaning from it.
use Rattle.std.specs.Prelude.{ℕ, List, [], ◌∷◌, ◌++◌, slice_index_or}

-- the results of the nodes, in order, where `done` are those of the nodes before them
abbrev pub results_from : {N R : Type 0} → (N → List R → R) → List R → List N → List R
results_from step done [] = []
results_from step done (n ∷ ns) = step n done ∷ results_from step (done ++ step n done ∷ []) ns

-- a step that reads the earlier results by their numbers, and `none` where no result stands
abbrev pub by_number : {N R : Type 0} → R → (N → (ℕ → R) → R) → N → List R → R
by_number none node n done = node n (λ i. slice_index_or done i none)

-- the result of the node of number i. For the nodes 5 and "twice number 0" the results are 5 and 10
abbrev pub result : {N R : Type 0} → R → (N → (ℕ → R) → R) → List N → ℕ → R
result none node ns i = slice_index_or (results_from (by_number none node) [] ns) i none
