-- What an engine is frozen to.
use Rattle.std.specs.Prelude.{ℕ, zero, suc, List, [], ◌∷◌, ◌++◌}
use Rattle.edge_stream.specs.declared.saved.SavedEntry.{SavedEntry}
use Rattle.frozen_state.specs.declared.frozen.FrozenPart.{FrozenPart}

-- the number of the last line, 0 where there was none; the last punctuation, 0 before the first one; the bound and the mark of
-- each stream; the texts by place; and the parts
pub record FrozenView : Type 0 where
  pub lines : ℕ
  pub last : ℕ
  pub bounds : List ℕ
  pub marks : List ℕ
  pub texts : List (List ℕ)
  pub parts : List FrozenPart

-- the parts, where that of this number has one entry more, the last one
abbrev pub with_entry : ℕ → SavedEntry → List FrozenPart → List FrozenPart
with_entry n e [] = []
with_entry zero e (p ∷ ps) = record p { saved = p.saved ++ e ∷ [] } ∷ ps
with_entry (suc n) e (p ∷ ps) = p ∷ with_entry n e ps
