-- What contracts see of `Pools`.
use Rattle.std.specs.Prelude.{◌≡◌, ℕ, ◌+◌, ◌-◌, ◌≤◌, min, List, [], ◌∷◌, take}
use Rattle.tw_rows.specs.declared.kind.CellKind.{CellKind}
use Rattle.tw_rows.specs.declared.kind.CellKind.TheVariants.{Whole, Bit, Place}

-- how many columns of words, of ints and of bits and how many bit vectors are free, how many of each may be, and the capacity of each
pub record PoolsView : Type 0 where
  pub words : ℕ
  pub ints : ℕ
  pub bits : ℕ
  pub occupancies : ℕ
  pub limit : ℕ
  pub capacity : ℕ

-- how many columns for cells that are stored so are free
abbrev pub free_of : PoolsView → CellKind → ℕ
free_of s Whole = s.ints
free_of s Bit = s.bits
free_of s Place = s.words

-- with so many free columns for cells that are stored so
abbrev pub with_free : PoolsView → CellKind → ℕ → PoolsView
with_free s Whole n = record s { ints = n }
with_free s Bit n = record s { bits = n }
with_free s Place n = record s { words = n }

-- once a column is taken, or made where none is free
abbrev pub taken : PoolsView → CellKind → PoolsView
taken s k = with_free s k (free_of s k - 1)

-- once a column is given back, or dropped where the limit is reached
abbrev pub given : PoolsView → CellKind → PoolsView
given s k = with_free s k (min (free_of s k + 1) s.limit)

-- once a column of each kind is taken, in order
abbrev pub all_taken : PoolsView → List CellKind → PoolsView
all_taken s [] = s
all_taken s (k ∷ ks) = all_taken (taken s k) ks

-- once a column of each kind is given back, the last one first
abbrev pub all_given : PoolsView → List CellKind → PoolsView
all_given s [] = s
all_given s (k ∷ ks) = given (all_given s ks) k

-- once the columns of a batch of these kinds are taken: four of words, a bit vector, and one for each kind
abbrev pub batch_taken : PoolsView → List CellKind → PoolsView
batch_taken s kinds = all_taken (record s { words = s.words - 4; occupancies = s.occupancies - 1 }) kinds

-- once the first n of them are taken. With n = 2 two columns of words are taken, and with n = 6 four, a bit vector and the
-- first payload column
abbrev pub first_taken : ℕ → PoolsView → List CellKind → PoolsView
first_taken n s kinds = all_taken (record s { words = s.words - min n 4; occupancies = s.occupancies - min (n - 4) 1 }) (take (n - 5) kinds)

-- new is what is left of old once some first part of a batch of these kinds is taken: none of it, or all, or what lies between
pub record IsPartTaken (old new : PoolsView) (kinds : List CellKind) : Type 0 where
  pub count : ℕ
  pub is : new ≡ first_taken count old kinds

-- new is what is left of old once columns of some first kinds are taken
pub record AreSomeTaken (old new : PoolsView) (kinds : List CellKind) : Type 0 where
  pub count : ℕ
  pub is : new ≡ all_taken old (take count kinds)

-- once the columns of a batch of these kinds are given back
abbrev pub batch_given : PoolsView → List CellKind → PoolsView
batch_given s kinds = all_given (record s { words = min (s.words + 4) s.limit; occupancies = min (s.occupancies + 1) s.limit }) kinds

-- with the limit and the capacity of old, and of each no more free than there were
pub record NoMore (old new : PoolsView) : Type 0 where
  pub words : new.words ≤ old.words
  pub ints : new.ints ≤ old.ints
  pub bits : new.bits ≤ old.bits
  pub occupancies : new.occupancies ≤ old.occupancies
  pub limit : new.limit ≡ old.limit
  pub capacity : new.capacity ≡ old.capacity
