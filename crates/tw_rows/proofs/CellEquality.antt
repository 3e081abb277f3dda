-- Equality of data and of cells decides whether they are the same.
use Rattle.std.specs.Prelude.{◌≡◌, ℕ, List, refl}
use Rattle.std.proofs.Common.{ap}
use Rattle.std.specs.Bool.{Decides, one_answer}
use Rattle.std.specs.Cmp.Lexicographic.{pointwise}
use Rattle.std.proofs.lemmas.Bool.Decides.{Decides-eqb}
use Rattle.std.proofs.lemmas.Slice.Eq.{slice_eq-Decides}
use Rattle.tw_rows.specs.SameCells.{same_cells, same_cells-Decides}
use Rattle.tw_rows.specs.Words.{datum_eq-Decides}
use Rattle.tw_rows.specs.declared.cells.Datum.{Datum}
use Rattle.tw_rows.specs.declared.kind.Kind.{Kind}
use Rattle.tw_rows.specs.declared.kind.Kind.TheVariants.{Int as IntKind, Bool as FlagKind, Text as TextKind, Dec as DecKind}
use Rattle.tw_rows.specs.declared.kind.CellKind.{CellKind}
use Rattle.tw_rows.specs.declared.kind.CellKind.TheVariants.{Whole, Bit, Place}
use Rattle.tw_rows.specs.contracts.cells.DatumPartialEq.TheImpl as datum_block
use Rattle.tw_rows.specs.contracts.kind.KindPartialEq.TheImpl as kind_block
use Rattle.tw_rows.specs.contracts.kind.CellKindPartialEq.TheImpl as cell_kind_block

-- `==` on cells
pub cells_eq-Decides : (a b : List Datum) → Decides (pointwise datum_block.ghosts.eq a b) (a ≡ b)
cells_eq-Decides a b = slice_eq-Decides datum_eq-Decides a b _ refl

-- the test of cells is `==` on them
pub cells_eq_same : (a b : List Datum) → pointwise datum_block.ghosts.eq a b ≡ same_cells a b
cells_eq_same a b = one_answer (pointwise datum_block.ghosts.eq a b) (same_cells a b) (cells_eq-Decides a b) (same_cells-Decides a b)

-- `==` on kinds. Decimals of different places are different kinds
abbrev places_part : Kind → ℕ
places_part IntKind = 0
places_part FlagKind = 0
places_part TextKind = 0
places_part (DecKind n) = n

pub kind_eq-Decides : (a b : Kind) → Decides (kind_block.ghosts.eq a b) (a ≡ b)
kind_eq-Decides IntKind IntKind = (λ h. refl, λ h. refl)
kind_eq-Decides IntKind FlagKind = (λ h. absurd (cc), λ h. absurd (cc))
kind_eq-Decides IntKind TextKind = (λ h. absurd (cc), λ h. absurd (cc))
kind_eq-Decides IntKind (DecKind n) = (λ h. absurd (cc), λ h. absurd (cc))
kind_eq-Decides FlagKind IntKind = (λ h. absurd (cc), λ h. absurd (cc))
kind_eq-Decides FlagKind FlagKind = (λ h. refl, λ h. refl)
kind_eq-Decides FlagKind TextKind = (λ h. absurd (cc), λ h. absurd (cc))
kind_eq-Decides FlagKind (DecKind n) = (λ h. absurd (cc), λ h. absurd (cc))
kind_eq-Decides TextKind IntKind = (λ h. absurd (cc), λ h. absurd (cc))
kind_eq-Decides TextKind FlagKind = (λ h. absurd (cc), λ h. absurd (cc))
kind_eq-Decides TextKind TextKind = (λ h. refl, λ h. refl)
kind_eq-Decides TextKind (DecKind n) = (λ h. absurd (cc), λ h. absurd (cc))
kind_eq-Decides (DecKind m) IntKind = (λ h. absurd (cc), λ h. absurd (cc))
kind_eq-Decides (DecKind m) FlagKind = (λ h. absurd (cc), λ h. absurd (cc))
kind_eq-Decides (DecKind m) TextKind = (λ h. absurd (cc), λ h. absurd (cc))
kind_eq-Decides (DecKind m) (DecKind n) = let d = Decides-eqb m n in (λ h. ap DecKind (d.0 h), λ h. d.1 (ap places_part h))

-- `==` on kinds of cells
pub cell_kind_eq-Decides : (a b : CellKind) → Decides (cell_kind_block.ghosts.eq a b) (a ≡ b)
cell_kind_eq-Decides Whole Whole = (λ h. refl, λ h. refl)
cell_kind_eq-Decides Whole Bit = (λ h. absurd (cc), λ h. absurd (cc))
cell_kind_eq-Decides Whole Place = (λ h. absurd (cc), λ h. absurd (cc))
cell_kind_eq-Decides Bit Whole = (λ h. absurd (cc), λ h. absurd (cc))
cell_kind_eq-Decides Bit Bit = (λ h. refl, λ h. refl)
cell_kind_eq-Decides Bit Place = (λ h. absurd (cc), λ h. absurd (cc))
cell_kind_eq-Decides Place Whole = (λ h. absurd (cc), λ h. absurd (cc))
cell_kind_eq-Decides Place Bit = (λ h. absurd (cc), λ h. absurd (cc))
cell_kind_eq-Decides Place Place = (λ h. refl, λ h. refl)
