-- What is saved of edges that are carried on two sides.
use Rattle.std.specs.Prelude.{◌≡◌, ℕ, zero, suc, ◌+◌, ◌<◌, ◌≤◌, min, List, [], ◌++◌, length, map, All, refl}
use Rattle.std.proofs.Common.{sym, ◌∙◌, ap, arith, subst}
use Rattle.tw_rows.specs.Cells.{datum_kind}
use Rattle.tw_rows.specs.declared.edge.Edge.{Edge}
use Rattle.tw_rows.specs.declared.kind.CellKind.{CellKind}
use Rattle.edge_history.specs.Order.{failing, is_from, KeepsOrder}
use Rattle.edge_stream.specs.declared.saved.SavedEntry.{SavedEntry}
use Rattle.plan_laws.specs.Uniting.{KeepsUnion}
use Rattle.std.proofs.lemmas.List.{append-nil}
use Rattle.edge_stream.specs.Entries.{entries_of, part_of, are_of_parts, IsEdgePart}
use Rattle.edge_stream.specs.Listing.{cells_of}
use Rattle.edge_stream.specs.Standing.{IsStoredAs, AreStoredAs}
use Rattle.edge_stream.proofs.CarriedParts.{part_of_own, part_of_other, part_of_append, saved_length, parts_own, parts_append, parts_pass}
use Rattle.union_clip.specs.UnionOperating.{standing}
use Rattle.union_clip.specs.Saving.{UnionSound, UnionResumes, row_of}
use Rattle.union_clip.specs.declared.union.Union.{Union}

module _ (left right : List Edge) (first entries : List SavedEntry) (one : first ≡ [] ++ entries_of 0 left) (two : entries ≡ first ++ entries_of 1 right) where
  all : entries ≡ entries_of 0 left ++ entries_of 1 right
  all = two ∙ ap (λ f. f ++ entries_of 1 right) one

  left_part : part_of 0 entries ≡ left
  left_part =
      ap (part_of 0) all ∙ part_of_append 0 (entries_of 0 left) (entries_of 1 right)
      ∙ (λ i. part_of_own 0 left i ++ part_of_other 0 1 right refl i) ∙ append-nil left

  right_part : part_of 1 entries ≡ right
  right_part =
      ap (part_of 1) all ∙ part_of_append 1 (entries_of 0 left) (entries_of 1 right)
      ∙ (λ i. part_of_other 1 0 left refl i ++ part_of_own 1 right i)

  pub union_few : length entries ≤ length left + length right
  union_few = let a = saved_length [] first 0 left one in let b = saved_length first entries 1 right two in omega (arith, a, b)

  pub union_saved : (kinds right_kinds : List CellKind) (x y : ℕ) → right_kinds ≡ kinds → KeepsOrder left → KeepsOrder right →
      All (λ e. map datum_kind e.cells ≡ kinds) left → All (λ e. map datum_kind e.cells ≡ right_kinds) right →
      failing (is_from (min x y)) left ≡ 0 → failing (is_from (min x y)) right ≡ 0 → UnionSound kinds kinds x y entries
  union_saved kinds right_kinds x y alike left_order right_order left_cells right_cells left_late right_late = record {
    parts = ap (are_of_parts 2) all ∙ parts_append 2 (entries_of 0 left) (entries_of 1 right) (parts_own 2 0 left refl) (parts_own 2 1 right refl);
    left = subst (IsEdgePart kinds (min x y)) (sym left_part) (record { order = left_order; cells = left_cells; late = left_late });
    right = subst (IsEdgePart kinds (min x y)) (sym right_part) (record { order = right_order; cells = subst (λ k. All (λ e. map datum_kind e.cells ≡ k) right) alike right_cells; late = right_late });
  }

  pub union_resumed : (kinds : List CellKind) (texts : List (List ℕ)) (x y : ℕ) (hl hr out : List Edge) → UnionSound kinds kinds x y entries → KeepsUnion texts x y left right hl hr out →
      UnionResumes kinds kinds texts x y entries hl hr out
  union_resumed kinds texts x y hl hr out sound keeps =
      record { sound = sound; keeps = subst (λ l. KeepsUnion texts x y l (part_of 1 entries) hl hr out) (sym left_part) (subst (λ r. KeepsUnion texts x y left r hl hr out) (sym right_part) keeps) }

-- the cells of each entry are stored as those of its side
pub union_stored : (o : Union) (entries : List SavedEntry) (x y : ℕ) → UnionSound (cells_of o.left) (cells_of o.left) x y entries → AreStoredAs row_of (standing o) entries
union_stored o entries x y sound = parts_pass (λ p cells. IsStoredAs (standing o) (row_of p) cells) 2 entries sound.parts pick
  where
    pick : (p : ℕ) → p < 2 → All (λ e. IsStoredAs (standing o) (row_of p) e.cells) (part_of p entries)
    pick zero h = sound.left.cells
    pick (suc zero) h = sound.right.cells
    pick (suc (suc p)) h = absurd (omega (arith, h))
