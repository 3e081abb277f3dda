-- Events split into shards, each of which is computed by itself.
use Rattle.std.specs.Prelude.{ℕ, zero, suc, nat_eq, List, [], ◌++◌, filter}
use Rattle.tw_rows.specs.Event.{Event}

-- the events of the shard s, by the number of the shard of each row
abbrev pub of_shard : {R : Type 0} → (R → ℕ) → ℕ → List (Event R) → List (Event R)
of_shard shard s es = filter (λ e. nat_eq (shard e.row) s) es

-- what f gives of each shard below n, one after another
abbrev pub over_shards : {X : Type 0} → (ℕ → List X) → ℕ → List X
over_shards f zero = []
over_shards f (suc n) = over_shards f n ++ f n
