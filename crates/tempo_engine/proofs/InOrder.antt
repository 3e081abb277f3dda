-- The entries of an output, in order.
use Rattle.std.proofs.Common.{◌≡◌, ◌+◌, ◌<◌, ◌≤◌, ℕ, suc, true, List, [], ◌∷◌, ◌++◌, length, get_or, map, refl, sym, ap, subst}
use Rattle.std.specs.Prelude.{filter, All}
use Rattle.std.specs.List.Sorted.{IsNonDecreasing}
use Rattle.std.proofs.lemmas.List.Elements.{All-nil, All-cons, All-append}
use Rattle.tw_rows.specs.SameCells.{same_cells, same_itself}
use Rattle.tw_rows.specs.declared.cells.Datum.{Datum}
use Rattle.edge_stream.specs.declared.saved.SavedEntry.{SavedEntry}
use Rattle.frozen_state.specs.Formed.{NeverFalls, IsInOrder}
use Rattle.tempo_engine.specs.Kept.{KeptView, shard_row, node_row, parts_of}
use Rattle.tempo_engine.proofs.Falling.{passing_rise}

-- among entries of equal cells no time falls, where it does not among those of any cells
pub never_falls : (saved : List SavedEntry) → ((cells : List Datum) → IsNonDecreasing (map (λ e. e.sync) (filter (λ e. same_cells e.cells cells) saved))) →
    ((cells : List Datum) → IsNonDecreasing (map (λ e. e.other) (filter (λ e. same_cells e.cells cells) saved))) → NeverFalls saved
never_falls saved starts others = λ i j d below low same.
    let cells = (get_or saved j d).cells in
    let pi : same_cells (get_or saved i d).cells cells ≡ true = rw same (same_itself cells) in (
      passing_rise (λ (e : SavedEntry). same_cells e.cells cells) (λ e. e.sync) saved (starts cells) i j d below low pi (same_itself cells),
      passing_rise (λ (e : SavedEntry). same_cells e.cells cells) (λ e. e.other) saved (others cells) i j d below low pi (same_itself cells),
    )

-- the parts of nodes are not the output's
shards_in_order : (node shard : ℕ) (es : List (List SavedEntry)) → All IsInOrder (shard_row node shard es)
shards_in_order node shard [] = All-nil IsInOrder
shards_in_order node shard (e ∷ es) = All-cons IsInOrder _ _ (λ is. absurd (cc)) (shards_in_order node (suc shard) es)

nodes_in_order : (node : ℕ) (nodes : List (List (List SavedEntry))) → All IsInOrder (node_row node nodes)
nodes_in_order node [] = All-nil IsInOrder
nodes_in_order node (es ∷ nodes) = All-append IsInOrder _ _ (shards_in_order node 0 es) (nodes_in_order (suc node) nodes)

pub parts_in_order : (k : KeptView) → NeverFalls k.output → All IsInOrder (parts_of k)
parts_in_order k falls =
    All-cons IsInOrder _ _ (λ is. absurd (cc)) (All-append IsInOrder _ _ (nodes_in_order 0 k.nodes) (All-cons IsInOrder _ [] (λ is. falls) (All-nil IsInOrder)))
