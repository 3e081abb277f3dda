-- What operators side by side save, and from what they go on.
use Rattle.std.specs.Prelude.{◌≡◌, ℕ, ◌<◌, nat_eq, Bool, true, false, Option, Some, None, List, length, All, slice_index_or}
use Rattle.std.specs.List.{range_with_len}
use Rattle.tw_rows.specs.Bag.{SameBag}
use Rattle.tw_rows.specs.declared.cells.Datum.{Datum}
use Rattle.tw_rows.specs.declared.edge.Edge.{Edge}
use Rattle.key_nodes.specs.Shards.{over_shards}
use Rattle.edge_history.specs.Order.{failing, is_below, Rises, IsHistory}
use Rattle.edge_stream.specs.Shards.{shard_by, edges_in_shard}
use Rattle.edge_stream.specs.declared.saved.PartRow.{PartRow}
use Rattle.edge_stream.specs.declared.saved.PartRow.TheVariants.{Left, Right, Own, KeyFirst}
use Rattle.edge_stream.specs.declared.saved.SavedEntry.{SavedEntry}
use Rattle.plan_model.specs.Meaning.{node_closes}
use Rattle.plan_laws.specs.Places.{EdgesArePlaced}
use Rattle.edge_stream.specs.Standing.{Standing, Keeping, Implies}
use Rattle.shard_apply.specs.Whole.{Whole, standing_in}

-- the columns of the key in such a row, where `first` are the first columns, as many as the left key has
abbrev pub key_of_row : List ℕ → List ℕ → List ℕ → PartRow → List ℕ
key_of_row left right first Left = left
key_of_row left right first Right = right
key_of_row left right first Own = left
key_of_row left right first KeyFirst = first

-- the cells are of a row of the shard of that number, of so many. Those of no row are of no shard
abbrev pub is_row_of : ℕ → List ℕ → List ℕ → List ℕ → ℕ → List Datum → Option PartRow → Bool
is_row_of count left right first number cells None = false
is_row_of count left right first number cells (Some row) = nat_eq (shard_by count (key_of_row left right first row) cells) number

-- the entries are of rows of the shard of that number
abbrev pub AreRowsOf : (ℕ → Option PartRow) → ℕ → List ℕ → List ℕ → List ℕ → ℕ → List SavedEntry → Type 0
AreRowsOf row_of_part count left right first number saved =
    All (λ e. is_row_of count left right first number e.cells (row_of_part e.part) ≡ true) saved

-- each operator can have the state of its entries, on sides that are closed up to x and y
abbrev pub AreSound : {O : Type 0} → (O → List SavedEntry → ℕ → ℕ → Type 0) → Whole O → List (List SavedEntry) → ℕ → ℕ → Type 0
AreSound {O} sound w saved x y = (s : ℕ) (d : O) (e : List SavedEntry) → s < length w.operators →
    sound (slice_index_or w.operators s d) (slice_index_or saved s e) x y

-- the entries of each operator are of rows of its shard
abbrev pub AreOwn : {O : Type 0} → (ℕ → Option PartRow) → Whole O → List (List SavedEntry) → Type 0
AreOwn row_of_part w saved = (s : ℕ) (e : List SavedEntry) → s < length w.operators →
    AreRowsOf row_of_part (length w.operators) w.left_key w.right_key (range_with_len 0 (length w.left_key)) s (slice_index_or saved s e)

-- such entries are what is kept of the edges, as in ShardsKeep
pub record ShardsResume {O : Type 0} (standing : O → Standing) (resumes : O → List SavedEntry → ℕ → ℕ → Keeping) (w : Whole O)
    (saved : List (List SavedEntry)) (x y : ℕ) (texts : List (List ℕ)) (hl hr out : List Edge) : Type 0 where
  pub left_history : IsHistory hl
  pub right_history : IsHistory hr
  pub left_placed : EdgesArePlaced texts hl
  pub right_placed : EdgesArePlaced texts hr
  pub outs : ℕ → List Edge
  pub shards : (s : ℕ) (d : O) (e : List SavedEntry) → s < length w.operators →
      resumes (slice_index_or w.operators s d) (slice_index_or saved s e) x y texts
      (edges_in_shard (length w.operators) w.left_key s hl) (edges_in_shard (length w.operators) w.right_key s hr) (outs s)
  pub below : (s : ℕ) → s < length w.operators → failing (is_below (node_closes (standing_in standing w).node x y)) (outs s) ≡ 0
  pub order : Rises 0 out
  pub same : SameBag out (over_shards outs (length w.operators))

-- what an operator that took up entries owes: it goes on from them, they were sound and its own, it works, and its sides are
-- closed up to x and y
pub record HasLoaded (resumes keeps : Keeping) (sound own : Type 0) (new : Standing) (x y : ℕ) : Type 0 where
  pub resumed : Implies resumes keeps
  pub is_sound : sound
  pub is_own : own
  pub left_to : new.left_closed ≡ x
  pub right_to : new.right_closed ≡ y
  pub works : new.has_failed ≡ false
