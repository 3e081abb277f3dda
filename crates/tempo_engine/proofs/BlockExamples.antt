-- Small blocks, computed.
use Rattle.std.specs.Prelude.{◌≡◌, ◌-◌, ◌^◌, ℕ, List, [], ◌∷◌, map, refl}
use Rattle.plan_model.specs.IsPlan.{PlanParts}
use Rattle.tempo_engine.specs.Block.{between_feeds, told_from}

-- `ab`, LF, `c`; two LFs; no byte
two_lines : between_feeds (97 ∷ 98 ∷ 10 ∷ 99 ∷ []) ≡ (97 ∷ 98 ∷ []) ∷ (99 ∷ []) ∷ []
two_lines = refl

three_empty : between_feeds (10 ∷ 10 ∷ []) ≡ [] ∷ [] ∷ [] ∷ []
three_empty = refl

one_empty : between_feeds [] ≡ [] ∷ []
one_empty = refl

-- two lines from 3 on, and from the greatest number on
numbered : (plan : PlanParts) (x y : List ℕ) → map (λ line. line.number) (told_from plan 3 (x ∷ y ∷ [])) ≡ 3 ∷ 4 ∷ []
numbered plan x y = refl

numbered_last : (plan : PlanParts) (x y : List ℕ) → map (λ line. line.number) (told_from plan (2 ^ 64 - 1) (x ∷ y ∷ [])) ≡ (2 ^ 64 - 1) ∷ (2 ^ 64 - 1) ∷ []
numbered_last plan x y = refl
