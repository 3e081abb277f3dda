-- What can be frozen of a plan at work, by its form alone.
use Rattle.std.specs.Prelude.{◌≡◌, ◌≢◌, ◌≤◌, ℕ, Some, List, [], ◌∷◌, length, map, slice_get, All, AllPairs}
use Rattle.tw_rows.specs.Cells.{ArePlaced, datum_kind}
use Rattle.tw_rows.specs.declared.kind.CellKind.{CellKind}
use Rattle.edge_stream.specs.declared.saved.SavedEntry.{SavedEntry}
use Rattle.plan_model.specs.IsPlan.{PlanParts}
use Rattle.frozen_state.specs.declared.owner.Owner.TheVariants as owners
use Rattle.frozen_state.specs.declared.frozen.FrozenPart.{FrozenPart}
use Rattle.frozen_state.specs.Frozen.{FrozenView}
use Rattle.frozen_state.specs.Forms.{PartFormView, part_forms}

-- the entry's part is one of these, and its cells are stored so
abbrev pub IsStoredIn : List (List CellKind) → SavedEntry → Type 0
IsStoredIn rows e = slice_get rows e.part ≡ Some (map datum_kind e.cells)

-- the part has this form
pub record IsPartOf (form : PartFormView) (p : FrozenPart) : Type 0 where
  pub owner : p.owner ≡ form.owner
  pub shard : p.shard ≡ form.shard
  pub stored : All (IsStoredIn form.rows) p.saved

-- one for each form, in their order
abbrev pub ArePartsOf : List PartFormView → List FrozenPart → Type 0
ArePartsOf [] [] = Unit {0}
ArePartsOf [] (p ∷ ps) = ⊥
ArePartsOf (f ∷ fs) [] = ⊥
ArePartsOf (f ∷ fs) (p ∷ ps) = IsPartOf f p × ArePartsOf fs ps

-- neither a CR nor a LF is in the text
pub record IsOneLine (text : List ℕ) : Type 0 where
  pub no_return : All (λ b. b ≢ 13) text
  pub no_feed : All (λ b. b ≢ 10) text

-- among entries of equal cells neither the first times nor the second fall from entry to entry
abbrev pub NeverFalls : List SavedEntry → Type 0
NeverFalls entries = AllPairs (λ a b. a.cells ≡ b.cells → (a.sync ≤ b.sync) × (a.other ≤ b.other)) entries

-- so it is of the entries of the output
abbrev pub IsInOrder : FrozenPart → Type 0
IsInOrder p = p.owner ≡ owners.Out → NeverFalls p.saved

-- it has a part for each that a plan at work has with so many workers, a bound and a mark for each stream, different texts of
-- one line each, and no other places than theirs
pub record IsFormed (workers : ℕ) (plan : PlanParts) (f : FrozenView) : Type 0 where
  pub parts : ArePartsOf (part_forms workers plan) f.parts
  pub bounds : length f.bounds ≡ length plan.streams
  pub marks : length f.marks ≡ length plan.streams
  pub ordered : All IsInOrder f.parts
  pub distinct : AllPairs (λ a b. a ≢ b) f.texts
  pub one_line : All IsOneLine f.texts
  pub placed : All (λ p. All (λ e. ArePlaced f.texts e.cells) p.saved) f.parts
