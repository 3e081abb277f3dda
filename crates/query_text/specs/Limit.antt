-- The limit on the length of an expression: at most 200 tokens.
use Rattle.std.specs.Prelude.{◌≡◌, ◌≤◌, ℕ, suc, List, [], ◌∷◌, ◌++◌, length, get_or, All}
use Rattle.query_text.specs.Token.{Token}
use Rattle.query_text.specs.Grammar.{Expr, expr_then, Item, alone, named, Step, where_, select, step_then, Pipe, Let, stream_then, streams_then, Query, query_tokens}

-- the numbers from n + 1 on, one for each token, and then more
abbrev pub numbered : ℕ → List Token → List ℕ → List ℕ
numbered n [] more = more
numbered n (t ∷ ts) more = suc n ∷ numbered (suc n) ts more

-- 0 for each token, and then more
abbrev pub outside : List Token → List ℕ → List ℕ
outside [] more = more
outside (t ∷ ts) more = 0 ∷ outside ts more

-- the tokens of an expression have the numbers from 1 on, also those of expressions within it
abbrev pub expr_places : Expr → List ℕ → List ℕ
expr_places e more = numbered 0 (expr_then e []) more

abbrev pub item_places : Item → List ℕ → List ℕ
item_places (alone n) more = 0 ∷ more
item_places (named e n) more = expr_places e (0 ∷ 0 ∷ more)

abbrev pub items_places : List Item → List ℕ → List ℕ
items_places [] more = more
items_places (i ∷ is) more = 0 ∷ item_places i (items_places is more)

abbrev pub step_places : Step → List ℕ → List ℕ
step_places (where_ e) more = 0 ∷ expr_places e more
step_places (select i is) more = 0 ∷ item_places i (items_places is more)
step_places s more = outside (step_then s []) more

abbrev pub steps_places : List Step → List ℕ → List ℕ
steps_places [] more = more
steps_places (s ∷ ss) more = 0 ∷ step_places s (steps_places ss more)

abbrev pub pipe_places : Pipe → List ℕ → List ℕ
pipe_places p more = 0 ∷ steps_places p.steps more

abbrev pub lets_places : List Let → List ℕ → List ℕ
lets_places [] more = more
lets_places (l ∷ ls) more = 0 ∷ 0 ∷ 0 ∷ pipe_places l.pipe (0 ∷ lets_places ls more)

-- For each token of a query its number in its outermost expression, and 0 outside of expressions:
-- `.. | where (a) | delay 1` has 0 0 1 2 3 0 0 0 from the sign before `where` on.
abbrev pub query_places : Query → List ℕ
query_places q = outside (stream_then q.stream (streams_then q.streams [])) (lets_places q.lets (pipe_places q.body []))

-- no expression of the query has more than 200 tokens
abbrev pub IsWithin : Query → Type 0
IsWithin q = All (λ n. n ≤ 200) (query_places q)

-- some query within the limit has just these tokens
abbrev pub IsShortQuery : List Token → Type 0
IsShortQuery tokens = (q : Query) × (query_tokens q ≡ tokens) × IsWithin q

-- Some query, the limit left aside, begins so, and the last token of the prefix is there the 201st of an expression.
pub record IsLong (front : List Token) : Type 0 where
  pub query : Query
  pub rest : List Token
  pub begins : query_tokens query ≡ front ++ rest
  pub before : ℕ
  pub last : length front ≡ suc before
  pub place : get_or (query_places query) before 0 ≡ 201
