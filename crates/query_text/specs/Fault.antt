-- Where a list of tokens stops being a prefix of a query.
use Rattle.std.specs.Prelude.{◌≡◌, List, [], ◌∷◌, ◌++◌}
use Rattle.query_text.specs.Token.{Token}
use Rattle.query_text.specs.Grammar.{Query, query_tokens}

-- some query begins so
pub record IsFront (front : List Token) : Type 0 where
  pub query : Query
  pub rest : List Token
  pub begins : query_tokens query ≡ front ++ rest

-- some query has just these tokens
abbrev pub IsQuery : List Token → Type 0
IsQuery tokens = (q : Query) × (query_tokens q ≡ tokens)

-- What is before the rest begins a query. With the first token of the rest it begins none. Where there is no rest, no query ends there.
pub record IsFault (tokens rest : List Token) : Type 0 where
  pub front : List Token
  pub whole : tokens ≡ front ++ rest
  pub good : IsFront front
  pub first : (t : Token) (more : List Token) → rest ≡ t ∷ more → IsFront (front ++ t ∷ []) → ⊥
  pub ended : rest ≡ [] → IsQuery tokens → ⊥
