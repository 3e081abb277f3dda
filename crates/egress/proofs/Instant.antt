-- The moves of an instant, from its edges.
use Rattle.std.specs.Prelude.{◌≡◌, ℕ, suc, Bool, true, List, All, map, IsPermutation, refl}
use Rattle.std.specs.List.{dedup}
use Rattle.std.specs.List.Sorted.{IsSorted, IsStrictlySortedBy}
use Rattle.std.proofs.Common.{sym, ◌∙◌, subst, arith}
use Rattle.std.proofs.lemmas.List.Elements.{All-weaker}
use Rattle.std.proofs.lemmas.List.Kept.{IsStrictlySortedBy-dedup}
use Rattle.std.proofs.lemmas.List.Sorted.{All-permutation}
use Rattle.tw_rows.specs.Cells.{ArePlaced, read_cells}
use Rattle.tw_rows.specs.Event.{AreEvents, alive}
use Rattle.tw_rows.specs.RowOrder.{row_cmp_total}
use Rattle.tw_rows.specs.Rows.{Row, row_cmp}
use Rattle.tw_rows.specs.declared.cells.Datum.{Datum}
use Rattle.tw_rows.specs.declared.edge.Edge.{Edge}
use Rattle.tw_rows.proofs.Bags.{SameBag-from_IsPermutation, SameBag-sym, SameBag-trans}
use Rattle.edge_history.specs.Balance.{news}
use Rattle.edge_history.specs.History.{CellEvent}
use Rattle.edge_history.specs.Order.{failing}
use Rattle.plan_laws.specs.Places.{read_events, EdgesArePlaced}
use Rattle.egress.specs.declared.moves.Moves.{Moves}
use Rattle.egress.specs.Instants.{AreMoves}
use Rattle.egress.specs.Kept.{are_placed, ends_in, starts_in, rows_of, KeepCells}
use Rattle.egress.specs.Waiting.{SameMoves}
use Rattle.egress.proofs.Gathered.{same}
use Rattle.egress.proofs.Moving.{edges_move, moves_of_same}
use Rattle.egress.proofs.Reading.{placed_if}
use Rattle.egress.proofs.Tallied.{ended_often, started_often}

pub keeps_placed : (texts : List (List ℕ)) (touched : List Moves) → KeepCells (are_placed texts) touched → All (λ m. ArePlaced texts m.cells) touched
keeps_placed texts touched keeps = All-weaker (λ (m : Moves). are_placed texts m.cells ≡ true) (λ (m : Moves). ArePlaced texts m.cells) (λ m e. placed_if texts m.cells e) touched keeps

-- edges that are put in the order of their rows
module _ (es sorted : List Edge) (moved : IsPermutation es sorted) where
  pub sorted_placed : (texts : List (List ℕ)) → EdgesArePlaced texts es → EdgesArePlaced texts sorted
  sorted_placed texts h = All-permutation (λ (e : Edge). ArePlaced texts e.cells) es sorted moved h

  pub sorted_pass : (p : List Datum → Bool) → failing (λ e. p e.cells) es ≡ 0 → failing (λ e. p e.cells) sorted ≡ 0
  sorted_pass p none = sym ((SameBag-from_IsPermutation es sorted moved).weigh _) ∙ none

  sorted_same : (ys : List Edge) → SameMoves es ys → SameMoves sorted ys
  sorted_same ys same =
      let first = moves_of_same sorted es (SameBag-sym es sorted (SameBag-from_IsPermutation es sorted moved)) in
      record { ended = SameBag-trans _ _ _ first.ended same.ended; started = SameBag-trans _ _ _ first.started same.started }

  module _ (texts : List (List ℕ)) (touched : List Moves) where
    -- each row stands once among their moves, in order
    pub gathered_order : IsSorted row_cmp (map (λ e. read_cells texts e.cells) sorted) → rows_of texts touched ≡ dedup same (map (λ e. read_cells texts e.cells) sorted) → IsStrictlySortedBy row_cmp (rows_of texts touched)
    gathered_order in_order rows =
        subst (IsStrictlySortedBy row_cmp) (sym rows) (IsStrictlySortedBy-dedup row_cmp_total {E = same} (λ x y. refl) (map (λ e. read_cells texts e.cells) sorted) in_order)

    -- and they are the moves of the instant
    pub gathered_moves : (events : List CellEvent) (t : ℕ) → ((r : Row) → ends_in texts touched r ≡ ended_often texts r sorted) → ((r : Row) → starts_in texts touched r ≡ started_often texts r sorted) →
        AreEvents events → SameMoves es (news t (suc t) events) → AreMoves (alive (read_events texts events)) t (ends_in texts touched) (starts_in texts touched)
    gathered_moves events t ends starts valid same r =
        let a = edges_move texts events t sorted valid (sorted_same (news t (suc t) events) same) r in
        let b = ends r in
        let c = starts r in
        omega (arith, a, b, c)
