-- Shards: the parts into which edges are cut by their keys.
use Rattle.std.specs.Prelude.{ℕ, pos, ◌/◌, ◌%◌, ◌^◌, nat_eq, List, map, fold, filter, slice_index_or}
use Rattle.tw_rows.specs.Words.{word_of, mixed}
use Rattle.tw_rows.specs.declared.cells.Datum.{Datum}
use Rattle.tw_rows.specs.declared.cells.Datum.TheVariants.{Int}
use Rattle.tw_rows.specs.declared.edge.Edge.{Edge}

-- the cells of a row in the key columns, in the order of the key. Of the row 5, 6, 7 and the columns 2 and 0: 7, 5
abbrev pub key_cells : List ℕ → List Datum → List Datum
key_cells key cells = map (λ column. slice_index_or cells column (Int (pos 0))) key

-- the words of these cells, mixed in their order. Of no cell: 14695981039346656037
abbrev pub hash_of_key : List Datum → ℕ
hash_of_key cells = fold (λ hash d. mixed hash (word_of d)) 14695981039346656037 cells

-- of so many shards, the number of the one of the rows with these cells in their key. Of 2 shards and no cell: 0
abbrev pub shard_of : ℕ → List Datum → ℕ
shard_of count cells = (hash_of_key cells / 2 ^ 32) % count

-- the number of the shard of a row, by the columns of its key
abbrev pub shard_by : ℕ → List ℕ → List Datum → ℕ
shard_by count key cells = shard_of count (key_cells key cells)

-- the edges whose row belongs to the shard of that number, in their order
abbrev pub edges_in_shard : ℕ → List ℕ → ℕ → List Edge → List Edge
edges_in_shard count key number edges = filter (λ e. nat_eq (shard_by count key e.cells) number) edges
