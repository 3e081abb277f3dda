-- A whole block that is read from a column.
use Rattle.std.proofs.Common.{◌≡◌, ℕ, ◌+◌, ◌-◌, ◌<◌, ◌≤◌, List, take, drop, length, get_or, ap, ◌∙◌, arith}
use Rattle.std.specs.Array.{IsFirstChunk}
use Rattle.std.proofs.lemmas.List.{get_or-take, get_or-drop, length-take-le}

-- the first 64 of the cells from `first` on
module _ {X : Type 0} (xs block : List X) (first : ℕ) (h : IsFirstChunk (take (length xs - first) (drop first xs)) block 64) where
  pub block_long : length block ≡ 64
  block_long = ap length h.same ∙ length-take-le 64 (take (length xs - first) (drop first xs)) h.enough

  pub block_cell : first + 64 ≤ length xs → (d : X) (k : ℕ) → k < 64 → get_or block k d ≡ get_or xs (first + k) d
  block_cell le d k lt =
      let rest = drop first xs in
      ap (λ l. get_or l k d) h.same ∙ get_or-take 64 (take (length xs - first) rest) k d lt ∙ get_or-take (length xs - first) rest k d (omega (arith, le, lt)) ∙ get_or-drop first xs k d
