-- Whose the parts are, and which texts they name.
use Rattle.std.specs.Prelude.{◌≡◌, ℕ, List, [], ◌∷◌, All}
use Rattle.tw_rows.specs.Cells.{ArePlaced}
use Rattle.frozen_state.specs.declared.frozen.FrozenPart.{FrozenPart}
use Rattle.frozen_state.specs.Forms.{PartFormView}

-- the part is that of the form, by owner and shard
pub record IsNamed (form : PartFormView) (p : FrozenPart) : Type 0 where
  pub owner : p.owner ≡ form.owner
  pub shard : p.shard ≡ form.shard

-- one for each form, in their order
abbrev pub AreNamed : List PartFormView → List FrozenPart → Type 0
AreNamed [] [] = Unit {0}
AreNamed [] (p ∷ ps) = ⊥
AreNamed (f ∷ fs) [] = ⊥
AreNamed (f ∷ fs) (p ∷ ps) = IsNamed f p × AreNamed fs ps

-- each place in the entries of the parts is one of the texts
abbrev pub PartsArePlaced : List (List ℕ) → List FrozenPart → Type 0
PartsArePlaced texts parts = All (λ p. All (λ e. ArePlaced texts e.cells) p.saved) parts
