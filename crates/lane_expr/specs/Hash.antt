-- The keys and hashes of rows.
use Rattle.std.specs.Prelude.{ℕ, pos, List, [], ◌∷◌, map, fold, slice_index_or}
use Rattle.tw_rows.specs.Words.{word_of, mixed}
use Rattle.tw_rows.specs.declared.cells.Datum.{Datum}
use Rattle.tw_rows.specs.declared.cells.Datum.TheVariants.{Int}
use Rattle.batch.specs.Rows.{Row}

-- the word of a row's cell in a column
abbrev pub word_at : List Datum → ℕ → ℕ
word_at cells column = word_of (slice_index_or cells column (Int (pos 0)))

-- the word of the first key column, or 0 where there is none
abbrev pub key_of : List Datum → List ℕ → ℕ
key_of cells [] = 0
key_of cells (c ∷ cs) = word_at cells c

-- the words of the key columns, mixed in their order. With no key column it is 14695981039346656037
abbrev pub hash_of : List Datum → List ℕ → ℕ
hash_of cells key = fold (λ hash column. mixed hash (word_at cells column)) 14695981039346656037 key

-- the rows, each with its key and its hash
abbrev pub hashed : List ℕ → List Row → List Row
hashed key rows = map {A = Row} {B = Row} (λ r. record r { key = key_of r.cells key; hash = hash_of r.cells key }) rows
