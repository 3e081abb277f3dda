-- Several shards: what is read of them, and how each takes its part of what comes in.
use Rattle.std.specs.Prelude.{◌≡◌, ℕ, ◌<◌, List, Result, map, length, slice_index_or}
use Rattle.edge_stream.specs.Listing.{EdgeListView}
use Rattle.edge_stream.specs.Shards.{edges_in_shard}
use Rattle.edge_stream.specs.declared.saved.StepFault.{StepFault}
use Rattle.edge_stream.specs.Standing.{Standing, Keeping}
use Rattle.shard_apply.specs.Stepping.{CanStep, HasStepped}
use Rattle.shard_apply.specs.declared.shard.Cut.{Cut}
use Rattle.shard_apply.specs.declared.shard.News.{News}
use Rattle.shard_apply.specs.declared.shard.Shard.{Shard}

-- what is answered of a step
abbrev pub Answer : Type 0
Answer = Result EdgeListView StepFault

-- their operators, in order
abbrev pub operators_of : {O : Type 0} → List (Shard O) → List O
operators_of shards = map (λ s. s.operator) shards

-- how many rows a batch of each has room for
abbrev pub rooms_of : {O : Type 0} → List (Shard O) → List ℕ
rooms_of shards = map (λ s. s.pools.capacity) shards

-- each has as much room as before
abbrev pub KeepRooms : {O : Type 0} → List (Shard O) → List (Shard O) → Type 0
KeepRooms {O} old new = (i : ℕ) (d : Shard O) → i < length old →
    (slice_index_or new i d).pools.capacity ≡ (slice_index_or old i d).pools.capacity

-- a shard can take its part of the news
abbrev pub CanTakeNews : {O : Type 0} → (O → Standing) → Cut → News → Shard O → Type 0
CanTakeNews standing cut news s =
    CanStep (standing s.operator) s.pools.capacity cut.count cut.left_key.now cut.right_key.now
    news.left.now news.right.now news.left_to news.right_to

-- the operator of the shard of that number takes a step with its part of the news, and answers so. With two shards that of
-- number 0 takes the edges whose key is of 0
abbrev pub TakesNews : {O : Type 0} → (O → Standing) → (O → Keeping) → Cut → News → ℕ → O → O → Answer → Type 0
TakesNews standing keeps cut news number old new answer =
    HasStepped (standing old) (standing new) (keeps old) (keeps new)
    (edges_in_shard cut.count cut.left_key.now number news.left.now.edges)
    (edges_in_shard cut.count cut.right_key.now number news.right.now.edges) news.left_to news.right_to answer

-- each shard does so, and keeps its answer
abbrev pub EachTakesNews : {O : Type 0} → (O → Standing) → (O → Keeping) → Cut → News → List (Shard O) → List (Shard O) → Type 0
EachTakesNews {O} standing keeps cut news old new = (i : ℕ) (d : Shard O) → i < length old →
    TakesNews standing keeps cut news i (slice_index_or old i d).operator (slice_index_or new i d).operator (slice_index_or new i d).answer
