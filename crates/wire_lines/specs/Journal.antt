-- What a wire has taken in and given out, in order.
use Rattle.std.specs.Prelude.{◌≡◌, ℕ, List, [], ◌∷◌, ◌++◌, take, Bool, true, false, Option, Some, Result, MatchResult}
use Rattle.std.specs.List.{All}

-- where the output goes on in its file: behind all that it has, which are so many bytes; or behind so many bytes, and what stood
-- behind them is cut off. Of a file of 25 bytes AtEnd 25 leaves all, and CutAt 20 the first 20
pub data OutputStart : Type 0 where
  AtEnd : ℕ → OutputStart
  CutAt : ℕ → OutputStart

-- what a wire over files does beside reads and writes: the input goes on from that byte, and the output there in its file; all that
-- went out so far is brought to the disk; or the file of a run's state is replaced by these bytes, from here on
pub data Mark : Type 0 where
  Start : ℕ → OutputStart → Mark
  Sync : Mark
  Keep : List ℕ → Mark

-- the bytes that one call took in or gave out, or what else it did; an In without bytes is the end of the input
pub data Entry : Type 0 where
  In : List ℕ → Entry
  Out : List ℕ → Entry
  Did : Mark → Entry

-- the bytes of all its Ins
abbrev pub ins : List Entry → List ℕ
ins [] = []
ins (In bytes ∷ entries) = bytes ++ ins entries
ins (Out bytes ∷ entries) = ins entries
ins (Did mark ∷ entries) = ins entries

-- the bytes of all its Outs
abbrev pub outs : List Entry → List ℕ
outs [] = []
outs (In bytes ∷ entries) = outs entries
outs (Out bytes ∷ entries) = bytes ++ outs entries
outs (Did mark ∷ entries) = outs entries

-- it has an In without bytes
abbrev pub ended : List Entry → Bool
ended [] = false
ended (In [] ∷ entries) = true
ended (In (byte ∷ bytes) ∷ entries) = ended entries
ended (Out bytes ∷ entries) = ended entries
ended (Did mark ∷ entries) = ended entries

-- the entry is an Out
abbrev pub IsOut : Entry → Type 0
IsOut (In bytes) = ⊥
IsOut (Out bytes) = Unit {0}
IsOut (Did mark) = ⊥

-- where the journal was told it still is, and these entries came after
pub record Adds (before now : Option (List Entry)) (entries : List Entry) : Type 0 where
  pub added : (told : List Entry) → before ≡ Some told → now ≡ Some (told ++ entries)

-- what a read does to the journal: Ok n adds an In of the first n bytes of the slice, also where n is 0, and a failure adds nothing
abbrev pub Reads : {E : Type 0} → Option (List Entry) → Option (List Entry) → Result ℕ E → List ℕ → Type 0
Reads before now result into = MatchResult result (λ n. Adds before now (In (take n into) ∷ [])) (λ _. Adds before now [])

-- what a write does to the journal: Ok n adds an Out of the first n bytes of the piece, and a failure adds nothing
abbrev pub Writes : {E : Type 0} → Option (List Entry) → Option (List Entry) → Result ℕ E → List ℕ → Type 0
Writes before now result piece = MatchResult result (λ n. Adds before now (Out (take n piece) ∷ [])) (λ _. Adds before now [])

-- a prefix of the bytes went out, in some Outs and nothing else
pub record SentFront (bytes : List ℕ) (entries : List Entry) : Type 0 where
  pub outs_alone : All IsOut entries
  pub after : List ℕ
  pub front : bytes ≡ outs entries ++ after

-- all of the bytes went out, in some Outs and nothing else
pub record SentAll (bytes : List ℕ) (entries : List Entry) : Type 0 where
  pub outs_alone : All IsOut entries
  pub all : outs entries ≡ bytes

-- where the journal was told it still is, and the entries that came after have the property
pub record Grows (before now : Option (List Entry)) (P : List Entry → Type 0) : Type 0 where
  pub grown : (told : List Entry) → before ≡ Some told → (entries : List Entry) × (now ≡ Some (told ++ entries)) × P entries
