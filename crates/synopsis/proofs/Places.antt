-- Where the rows of a synopsis stand: in the list, or in buckets.
use Rattle.std.specs.Prelude.{◌≡◌, ℕ, ◌≤◌, ◌⊎◌, List, [], ◌∷◌, ◌++◌, length, flat_map, refl}
use Rattle.std.proofs.Common.{ap, arith, inl, inr}
use Rattle.tw_rows.specs.declared.edge.HeldRow.{HeldRow}
use Rattle.synopsis.specs.Buckets.{Entry, rows_in, blocks_in}
use Rattle.synopsis.specs.Few.{FewRows, few_block, AreHeld}
use Rattle.synopsis.proofs.Keyed.{blocks_flat}

pub no_buckets : {S : Type 0} (es : List (Entry S)) → length es ≡ 0 → es ≡ []
no_buckets [] h = refl
no_buckets (e ∷ es) h = absurd (omega (arith, h))

module _ {S : Type 0} (columns : List ℕ) (few : FewRows) (es : List (Entry S)) (count : ℕ) (held : AreHeld columns few es count) where
  -- where there are buckets the list is empty, and where it is not there are none
  pub none_few : (length es ≡ 0 → ⊥) → few.rows ≡ []
  none_few some = by held.one
    where
      by : (few.rows ≡ []) ⊎ (es ≡ []) → few.rows ≡ []
      by (inl e) = e
      by (inr e) = absurd (some (ap (λ (l : List (Entry S)). length l) e))

  pub few_alone : 1 ≤ length few.rows → es ≡ []
  few_alone some = by held.one
    where
      by : (few.rows ≡ []) ⊎ (es ≡ []) → es ≡ []
      by (inl e) = absurd (let n = ap (λ (l : List HeldRow). length l) e in omega (arith, n, some))
      by (inr e) = e

-- the rows block after block
pub blocks_all : {S : Type 0} (rows : List HeldRow) (es : List (Entry S)) → rows ++ rows_in es ≡ flat_map (λ b. b) (few_block rows ++ blocks_in es)
blocks_all [] es = blocks_flat es
blocks_all (r ∷ rs) es = ap (λ l. (r ∷ rs) ++ l) (blocks_flat es)
