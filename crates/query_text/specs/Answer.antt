-- The fault that the grammar finds in a text.
use Rattle.std.specs.Prelude.{◌≡◌, ◌<◌, ◌≤◌, ℕ, zero, suc, List, [], ◌∷◌, length, take, drop, Option, Some, None}
use Rattle.query_text.specs.declared.word.Spot.{Spot}
use Rattle.query_text.specs.Words.{words_of}
use Rattle.query_text.specs.Token.{tokens_of}
use Rattle.query_text.specs.Fault.{IsFault}
use Rattle.query_text.specs.Limit.{IsLong, IsShortQuery}
use Rattle.query_text.specs.declared.fault.Fault.{Fault}
use Rattle.query_text.specs.declared.fault.Fault.TheVariants.{Syntax, LongExpr}

-- the offset of the i-th word, or the length of the text behind the last
abbrev pub offset_of : ℕ → List Spot → ℕ → ℕ
offset_of end [] i = end
offset_of end (spot ∷ spots) zero = spot.at
offset_of end (spot ∷ spots) (suc i) = offset_of end spots i

-- At this offset stands the first token with which no query begins, or the text ends there too early;
-- and no prefix of its tokens ends with the 201st token of an expression.
pub record IsSyntaxAt (text : List ℕ) (at : ℕ) : Type 0 where
  pub index : ℕ
  pub within : index ≤ length (tokens_of text)
  pub stands : at ≡ offset_of (length text) (words_of text) index
  pub fault : IsFault (tokens_of text) (drop index (tokens_of text))
  pub short : (n : ℕ) → IsLong (take n (tokens_of text)) → ⊥

-- At this offset stands the first token that is the 201st of an expression of some query that begins so.
pub record IsLongExprAt (text : List ℕ) (at : ℕ) : Type 0 where
  pub index : ℕ
  pub within : index < length (tokens_of text)
  pub stands : at ≡ offset_of (length text) (words_of text) index
  pub long : IsLong (take (suc index) (tokens_of text))
  pub first : (n : ℕ) → n ≤ index → IsLong (take n (tokens_of text)) → ⊥

-- no fault where the text spells a query within the limit
abbrev pub IsAnswer : List ℕ → Option Fault → Type 0
IsAnswer text None = IsShortQuery (tokens_of text)
IsAnswer text (Some (Syntax at)) = IsSyntaxAt text at
IsAnswer text (Some (LongExpr at)) = IsLongExprAt text at
