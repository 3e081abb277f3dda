-- Bytes that come in to a cutter.
use Rattle.std.specs.Prelude.{◌≡◌, ℕ, List, [], ◌∷◌, ◌++◌, length, false, Option, Result, Ok, Err, MatchResult}
use Rattle.wire_lines.specs.Journal.{Entry, In, Adds}
use Rattle.wire_lines.specs.Cutter.{CutterState}
use Rattle.wire_lines.specs.Cuts.{Cuts}

-- the cutter once a piece came in: it stands behind the rest. Where the piece is empty all is as it was
abbrev pub fed : CutterState → List ℕ → CutterState
fed s [] = s
fed s (b ∷ bs) = record s { rest = s.rest ++ b ∷ bs; wants_bytes = false }

-- how many bytes a read gave, and 0 where it failed
abbrev pub count_of : {E : Type 0} → Result ℕ E → ℕ
count_of (Ok n) = n
count_of (Err e) = 0

-- a read of a wire, from one cutter to the next: the piece that came in, which the journal tells, stands behind the rest. A read
-- that failed leaves the cutter as it was
pub record HasRead {E : Type 0} (before now : Option (List Entry)) (old new : CutterState) (result : Result ℕ E) : Type 0 where
  pub piece : List ℕ
  pub count : length piece ≡ count_of result
  pub told : MatchResult result (λ _. Adds before now (In piece ∷ [])) (λ _. Adds before now [])
  pub state : new ≡ fed old piece
  pub lines : (bytes : List ℕ) (given : List (List ℕ)) → Cuts bytes old given → Cuts (bytes ++ piece) new given
