-- Pools keep their capacity and their limit, whatever is taken and given.
use Rattle.std.specs.Prelude.{◌≡◌, ℕ, zero, suc, ◌+◌, ◌-◌, min, List}
use Rattle.std.proofs.Common.{◌∙◌, ap, refl, take}
use Rattle.tw_rows.specs.declared.kind.CellKind.{CellKind}
use Rattle.batch.specs.PoolsView.{PoolsView, batch_given, batch_taken, IsPartTaken}
use Rattle.batch.proofs.PoolLaws.{NoMore-all}
use Rattle.edge_stream.specs.Listing.{EdgeListView, cells_of, where_full}
use Rattle.edge_stream.specs.Taking.{batches_taken, batches_given, room_taken, AreBatchesTaken}
use Rattle.edge_stream.proofs.Filling.{batches_taken-capacity, all_given-limit}

pub part-capacity : (old new : PoolsView) (kinds : List CellKind) → IsPartTaken old new kinds → new.capacity ≡ old.capacity
part-capacity old new kinds part =
    ap (λ s. s.capacity) part.is
    ∙ (NoMore-all (record old { words = old.words - min part.count 4; occupancies = old.occupancies - min (part.count - 4) 1 }) (take (part.count - 5) kinds)).capacity

pub some-capacity : (old new : PoolsView) (kinds : List CellKind) → AreBatchesTaken old new kinds → new.capacity ≡ old.capacity
some-capacity old new kinds some = part-capacity (batches_taken some.whole old kinds) new kinds some.part ∙ batches_taken-capacity some.whole old kinds

pub part-limit : (old new : PoolsView) (kinds : List CellKind) → IsPartTaken old new kinds → new.limit ≡ old.limit
part-limit old new kinds part =
    ap (λ s. s.limit) part.is
    ∙ (NoMore-all (record old { words = old.words - min part.count 4; occupancies = old.occupancies - min (part.count - 4) 1 }) (take (part.count - 5) kinds)).limit

pub batches_taken-limit : (n : ℕ) (s : PoolsView) (ks : List CellKind) → (batches_taken n s ks).limit ≡ s.limit
batches_taken-limit zero s ks = refl
batches_taken-limit (suc n) s ks =
    let before : PoolsView = batches_taken n s ks in
    (NoMore-all (record before { words = before.words - 4; occupancies = before.occupancies - 1 }) ks).limit ∙ batches_taken-limit n s ks

pub some-limit : (old new : PoolsView) (kinds : List CellKind) → AreBatchesTaken old new kinds → new.limit ≡ old.limit
some-limit old new kinds some = part-limit (batches_taken some.whole old kinds) new kinds some.part ∙ batches_taken-limit some.whole old kinds

pub room_taken-limit : (l : EdgeListView) (s : PoolsView) → (room_taken l s).limit ≡ s.limit
room_taken-limit l s = pick l.room
  where
    pick : (r : ℕ) → (where_full r (batch_taken s (cells_of l)) s).limit ≡ s.limit
    pick zero = (NoMore-all (record s { words = s.words - 4; occupancies = s.occupancies - 1 }) (cells_of l)).limit
    pick (suc r) = refl

pub batches_given-limit : (n : ℕ) (s : PoolsView) (ks : List CellKind) → (batches_given n s ks).limit ≡ s.limit
batches_given-limit zero s ks = refl
batches_given-limit (suc n) s ks =
    batches_given-limit n (batch_given s ks) ks ∙ all_given-limit (record s { words = min (s.words + 4) s.limit; occupancies = min (s.occupancies + 1) s.limit }) ks
