-- How many parts each node has.
use Rattle.std.proofs.Common.{◌≡◌, ℕ, zero, suc, List, [], ◌∷◌, length, map, refl, ap, ap₂, ◌∙◌, arith, Some}
use Rattle.std.specs.Prelude.{slice_get}
use Rattle.edge_stream.specs.declared.saved.SavedEntry.{SavedEntry}
use Rattle.plan_model.specs.declared.node.Node.{Node}

-- the numbers of two lists are the same, where they are item by item
pub counts_same : (counts : Node → ℕ) (nodes : List Node) (saved : List (List (List SavedEntry))) → length saved ≡ length nodes →
    ((i : ℕ) (n : Node) (e : List (List SavedEntry)) → slice_get nodes i ≡ Some n → slice_get saved i ≡ Some e → length e ≡ counts n) → map (λ e. length e) saved ≡ map counts nodes
counts_same counts [] [] same each = refl
counts_same counts [] (e ∷ saved) same each = absurd (omega (arith, same))
counts_same counts (n ∷ nodes) [] same each = absurd (omega (arith, same))
counts_same counts (n ∷ nodes) (e ∷ saved) same each =
    ap (λ k. k ∷ map (λ x. length x) saved) (each 0 n e refl refl) ∙ ap (λ l. counts n ∷ l) (counts_same counts nodes saved (omega (arith, same)) (λ i m x here there. each (suc i) m x here there))
