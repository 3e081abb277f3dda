-- Words as the grammar sees them.
use Rattle.std.specs.Prelude.{ℕ, ◌+◌, ◌-◌, ◌==◌, Bool, true, false, if◌then◌else◌, List, [], ◌∷◌, take, drop, map}
use Rattle.query_text.specs.declared.word.Sign.{Sign}
use Rattle.query_text.specs.declared.word.Sign.TheVariants as S
use Rattle.query_text.specs.declared.word.Word.{Word}
use Rattle.query_text.specs.declared.word.Word.TheVariants as W
use Rattle.query_text.specs.declared.word.Spot.{Spot}
use Rattle.query_text.specs.Words.{words_of}
use Rattle.query_text.specs.declared.kind.Kind.{Kind}
use Rattle.query_text.specs.declared.kind.Kind.TheVariants as K

-- A name with its bytes, a number, a decimal with its units and its places, a text with its bytes, a reserved word or sign, or what is no word.
pub data Token : Type 0 where
  name : List ℕ → Token
  int : ℕ → Token
  dec : ℕ → ℕ → Token
  str : List ℕ → Token
  fixed : Sign → Token
  bad : Token

-- what the grammar asks of a token
abbrev pub kind : Token → Kind
kind (name n) = K.Name
kind (int n) = K.Number n
kind (dec units places) = K.Decimal
kind (str s) = K.Quoted
kind (fixed s) = K.Fixed s
kind bad = K.Bad

-- likewise of a word
abbrev pub word_kind : Word → Kind
word_kind (W.Name n) = K.Name
word_kind (W.Number n) = K.Number n
word_kind (W.Decimal units places) = K.Decimal
word_kind (W.Quoted n) = K.Quoted
word_kind (W.Fixed s) = K.Fixed s
word_kind W.Bad = K.Bad

-- whether expressions may hold such a word
unfoldable pub in_expressions : Kind → Bool
in_expressions K.Name = true
in_expressions (K.Number n) = true
in_expressions K.Decimal = true
in_expressions K.Quoted = true
in_expressions (K.Fixed S.True) = true
in_expressions (K.Fixed S.False) = true
in_expressions (K.Fixed S.Open) = true
in_expressions (K.Fixed S.Close) = true
in_expressions (K.Fixed S.Or) = true
in_expressions (K.Fixed S.And) = true
in_expressions (K.Fixed S.Not) = true
in_expressions (K.Fixed S.Equal) = true
in_expressions (K.Fixed S.Differs) = true
in_expressions (K.Fixed S.Less) = true
in_expressions (K.Fixed S.LessEqual) = true
in_expressions (K.Fixed S.Greater) = true
in_expressions (K.Fixed S.GreaterEqual) = true
in_expressions (K.Fixed S.Plus) = true
in_expressions (K.Fixed S.Minus) = true
in_expressions (K.Fixed S.Star) = true
in_expressions (K.Fixed S.Div) = true
in_expressions (K.Fixed S.Mod) = true
in_expressions _ = false

-- the bytes of a text without its outer quotes: two quotes are one
abbrev pub unquoted : List ℕ → List ℕ
unquoted [] = []
unquoted (b ∷ []) = b ∷ []
unquoted (b ∷ c ∷ bs) = if b == 39 then 39 ∷ unquoted bs else b ∷ unquoted (c ∷ bs)

-- the token that a word of the text is
abbrev pub token_at : List ℕ → ℕ → Word → Token
token_at text at (W.Name n) = name (take n (drop at text))
token_at text at (W.Number n) = int n
token_at text at (W.Decimal units places) = dec units places
token_at text at (W.Quoted n) = str (unquoted (take (n - 2) (drop (at + 1) text)))
token_at text at (W.Fixed s) = fixed s
token_at text at W.Bad = bad

abbrev pub token_of : List ℕ → Spot → Token
token_of text spot = token_at text spot.at spot.word

-- the tokens of a text
abbrev pub tokens_of : List ℕ → List Token
tokens_of text = map (token_of text) (words_of text)
