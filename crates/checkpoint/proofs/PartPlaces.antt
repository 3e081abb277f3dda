-- The part that an entry's line names.
use Rattle.std.proofs.Common.{◌≡◌, ◌<◌, ◌+◌, ℕ, Bool, cond, List, length, get_or, drop, Some, sym, ◌∙◌, ap}
use Rattle.std.specs.List.{position_from}
use Rattle.std.proofs.lemmas.List.{drop_more}

-- the search goes past one
pub place_more : {X : Type 0} (p : X → Bool) (xs : List X) (i : ℕ) (x : X) → i < length xs → x ≡ get_or xs i x →
    position_from p i (drop i xs) ≡ cond (p x) (Some i) (position_from p (i + 1) (drop (i + 1) xs))
place_more {X = X} p xs i x low is =
    ap (position_from p i) (drop_more xs i x low) ∙ ap (λ (y : X). cond (p y) (Some i) (position_from p (i + 1) (drop (i + 1) xs))) (sym is)
