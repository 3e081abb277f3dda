-- What is saved of edges that are carried.
use Rattle.std.specs.Prelude.{◌≡◌, ℕ, zero, suc, ◌<◌, List, [], ◌++◌, map, All, refl}
use Rattle.std.proofs.Common.{sym, ◌∙◌, ap, arith, subst}
use Rattle.tw_rows.specs.Cells.{datum_kind}
use Rattle.tw_rows.specs.declared.edge.Edge.{Edge}
use Rattle.tw_rows.specs.declared.kind.CellKind.{CellKind}
use Rattle.edge_history.specs.Order.{failing, is_from, KeepsOrder}
use Rattle.edge_stream.specs.declared.saved.SavedEntry.{SavedEntry}
use Rattle.plan_model.specs.declared.node.Node.{Node}
use Rattle.plan_laws.specs.Answers.{answered_below}
use Rattle.plan_laws.specs.LifeKeeping.{KeepsLives}
use Rattle.edge_stream.specs.Entries.{entries_of, part_of, are_of_parts, IsEdgePart}
use Rattle.edge_stream.proofs.CarriedParts.{part_of_own, parts_own, parts_pass}
use Rattle.edge_stream.specs.Listing.{cells_of}
use Rattle.edge_stream.specs.Standing.{IsStoredAs, AreStoredAs}
use Rattle.lifetime_ops.specs.Nodes.{node_of}
use Rattle.lifetime_ops.specs.Operating.{standing}
use Rattle.lifetime_ops.specs.Saving.{LifeSound, LifeResumes, row_of}
use Rattle.lifetime_ops.specs.declared.alter_lifetime.AlterLifetime.{AlterLifetime}

pub life_saved : (n : Node) (kinds : List CellKind) (x : ℕ) (carried : List Edge) (entries : List SavedEntry) → entries ≡ [] ++ entries_of 0 carried → KeepsOrder carried →
    All (λ e. map datum_kind e.cells ≡ kinds) carried → failing (is_from (answered_below n x)) carried ≡ 0 → LifeSound n kinds x entries
life_saved n kinds x carried entries is order cells late =
    let all : part_of 0 entries ≡ carried = ap (part_of 0) is ∙ part_of_own 0 carried in
    record {
      parts = ap (are_of_parts 1) is ∙ parts_own 1 0 carried refl;
      carried = subst (IsEdgePart kinds (answered_below n x)) (sym all) (record { order = order; cells = cells; late = late });
    }

pub life_resumed : (n : Node) (kinds : List CellKind) (texts : List (List ℕ)) (x y : ℕ) (carried left right out : List Edge) (entries : List SavedEntry) → entries ≡ [] ++ entries_of 0 carried →
    LifeSound n kinds x entries → KeepsLives n texts x y carried left right out → LifeResumes n kinds texts x y entries left right out
life_resumed n kinds texts x y carried left right out entries is sound keeps =
    let all : part_of 0 entries ≡ carried = ap (part_of 0) is ∙ part_of_own 0 carried in
    record { sound = sound; keeps = subst (λ es. KeepsLives n texts x y es left right out) (sym all) keeps }

-- the cells of each entry are stored as those of the child
pub life_stored : (o : AlterLifetime) (entries : List SavedEntry) (x : ℕ) → LifeSound (node_of o.change) (cells_of o.carried) x entries → AreStoredAs row_of (standing o) entries
life_stored o entries x sound = parts_pass (λ p cells. IsStoredAs (standing o) (row_of p) cells) 1 entries sound.parts pick
  where
    pick : (p : ℕ) → p < 1 → All (λ e. IsStoredAs (standing o) (row_of p) e.cells) (part_of p entries)
    pick zero h = sound.carried.cells
    pick (suc p) h = absurd (omega (arith, h))
