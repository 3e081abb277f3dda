-- What a cutter of lines is seen as, and what it may answer.
use Rattle.std.specs.Prelude.{ℕ, List, [], Bool, true}

-- longest: the most bytes of a line; total: the most bytes of the input; passed: how many bytes the lines given so far had, their LFs counted;
-- number: how many lines were given; rest: the bytes fed that are in none of them;
-- wants_bytes: no byte came in since the last answer, which asked for more, or none came in at all
pub record CutterState : Type 0 where
  pub longest : ℕ
  pub total : ℕ
  pub passed : ℕ
  pub number : ℕ
  pub rest : List ℕ
  pub wants_bytes : Bool

-- nothing fed, nothing given
abbrev pub opening : ℕ → ℕ → CutterState
opening longest total = record { longest = longest; total = total; passed = 0; number = 0; rest = []; wants_bytes = true }

-- a line, a line that is too long, more bytes than the input may have, or a wish for more bytes
pub data Next : Type 0 where
  Given : (number : ℕ) (bytes : List ℕ) → Next
  Overlong : (number : ℕ) → Next
  Overfull : Next
  Wanting : Next

-- no more lines are given
abbrev pub IsRefusal : Next → Type 0
IsRefusal (Given number bytes) = ⊥
IsRefusal (Overlong number) = Unit {0}
IsRefusal Overfull = Unit {0}
IsRefusal Wanting = ⊥
