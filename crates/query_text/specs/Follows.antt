-- What may follow a part of a query, and how single words are spelled.
use Rattle.std.specs.Prelude.{◌≡◌, ℕ, suc, Bool, true, false, List, [], ◌∷◌}
use Rattle.query_text.specs.declared.word.Sign.TheVariants as S
use Rattle.query_text.specs.Token.{Token, name, int, fixed}

-- no such token stands first
abbrev pub Lacks : Token → List Token → Type 0
Lacks t ts = (z : List Token) → ts ≡ t ∷ z → ⊥

-- what may follow a pipe: its end, or the end of its let
abbrev pub ends_pipe : List Token → Bool
ends_pipe [] = true
ends_pipe (fixed S.Semicolon ∷ ts) = true
ends_pipe (_ ∷ ts) = false

-- what may follow a step: the end of the pipe, or the next step
abbrev pub ends_step : List Token → Bool
ends_step (fixed S.Bar ∷ ts) = true
ends_step ts = ends_pipe ts

-- what may follow an item: the end of the step, or the next item
abbrev pub ends_item : List Token → Bool
ends_item (fixed S.Comma ∷ ts) = true
ends_item ts = ends_step ts

-- a name, and then more
abbrev pub name_then : List ℕ → List Token → List Token
name_then n z = name n ∷ z

-- a number
abbrev pub int_then : ℕ → List Token → List Token
int_then n z = int n ∷ z

-- a number above 0: the one behind n
abbrev pub pos_then : ℕ → List Token → List Token
pos_then n z = int (suc n) ∷ z
