-- What was told of coalesced rows, where more of the rows is known.
use Rattle.std.specs.Prelude.{ℕ, ◌<◌, ◌≤◌, List, [], ◌++◌, refl}
use Rattle.std.proofs.Common.{arith}
use Rattle.tw_rows.specs.Bag.{SameBag}
use Rattle.tw_rows.specs.Instant.{inf}
use Rattle.tw_rows.specs.SameCells.{same_cells}
use Rattle.tw_rows.specs.declared.cells.Datum.{Datum}
use Rattle.tw_rows.specs.declared.edge.Edge.{Edge}
use Rattle.edge_history.specs.Balance.{Told}
use Rattle.edge_history.proofs.Retaining.{AreEvents-none_fails}
use Rattle.key_nodes.specs.Coalesced.{coalesced}
use Rattle.key_nodes.proofs.Topping.{coalesced_known_of}
use Rattle.sweep_laws.specs.Sweeps.{Tells}
use Rattle.sweep_laws.proofs.Sides.{told_step}
use Rattle.synopsis.proofs.Once.{cells_tell}

-- it stays told where the rows before c are the same, and goes on
pub coalesced_told : (f g : ℕ → List (List Datum)) (c d : ℕ) (out told : List Edge) → c ≤ d → d ≤ inf → ((t : ℕ) → t < c → SameBag (f t) (g t)) →
    Told c out (coalesced same_cells f) → Tells (coalesced same_cells g) c d [] told → Told d (out ++ told) (coalesced same_cells g)
coalesced_told f g c d out told low high same before tells =
    let k = coalesced_known_of same_cells f g c cells_tell (omega (arith, low, high)) same in
    told_step c d out [] told (coalesced same_cells f) (coalesced same_cells g) low high (AreEvents-none_fails (coalesced same_cells g) k.right_valid) k.same before refl tells
