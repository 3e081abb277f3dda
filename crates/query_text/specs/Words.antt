-- Which words there are, and the words of a text: at each place the longest.
use Rattle.std.specs.Prelude.{ℕ, zero, suc, ◌+◌, ◌-◌, ◌*◌, Bool, true, false, ◌&&◌, ◌||◌, ◌==◌, nat_le, if◌then◌else◌, List, [], ◌∷◌, length, take, drop, codes, Option, Some, None}
use Rattle.std.specs.List.{take_while, starts_with}
use Rattle.query_text.specs.declared.word.Sign.{Sign}
use Rattle.query_text.specs.declared.word.Sign.TheVariants as S
use Rattle.query_text.specs.declared.word.Word.{Word}
use Rattle.query_text.specs.declared.word.Word.TheVariants as W
use Rattle.query_text.specs.declared.word.Spot.{Spot}

-- a space, a tab, LF or CR
abbrev pub is_space : ℕ → Bool
is_space b = b == 32 || b == 9 || b == 10 || b == 13

-- a letter of ASCII or `_`
abbrev pub is_letter : ℕ → Bool
is_letter b = (nat_le 97 b && nat_le b 122) || (nat_le 65 b && nat_le b 90) || b == 95

-- a digit of ASCII
abbrev pub is_digit : ℕ → Bool
is_digit b = nat_le 48 b && nat_le b 57

-- what a name may go on with
abbrev pub is_name_byte : ℕ → Bool
is_name_byte b = is_letter b || is_digit b

-- the reserved words
abbrev pub reserved : List (List ℕ × Sign)
reserved =
    (codes "stream", S.Stream) ∷
    (codes "let", S.Let) ∷
    (codes "where", S.Where) ∷
    (codes "select", S.Select) ∷
    (codes "union", S.Union) ∷
    (codes "delay", S.Delay) ∷
    (codes "hop", S.Hop) ∷
    (codes "tumble", S.Tumble) ∷
    (codes "duration", S.Duration) ∷
    (codes "extend", S.Extend) ∷
    (codes "session", S.Session) ∷
    (codes "clip", S.Clip) ∷
    (codes "join", S.Join) ∷
    (codes "anti", S.Anti) ∷
    (codes "group", S.Group) ∷
    (codes "by", S.By) ∷
    (codes "on", S.On) ∷
    (codes "as", S.As) ∷
    (codes "and", S.And) ∷
    (codes "or", S.Or) ∷
    (codes "not", S.Not) ∷
    (codes "div", S.Div) ∷
    (codes "mod", S.Mod) ∷
    (codes "true", S.True) ∷
    (codes "false", S.False) ∷
    (codes "int", S.IntKind) ∷
    (codes "bool", S.BoolKind) ∷
    (codes "text", S.TextKind) ∷
    (codes "count", S.Count) ∷
    (codes "sum", S.Sum) ∷
    (codes "min", S.Min) ∷
    (codes "max", S.Max) ∷
    (codes "dec", S.DecKind) ∷
    (codes "coalesce", S.Coalesce) ∷
    (codes "left", S.Left) ∷
    (codes "else", S.Else) ∷
    (codes "avg", S.Avg) ∷
    (codes "top", S.Top) ∷
    (codes "per", S.Per) ∷
    (codes "follow", S.Follow) ∷
    (codes "within", S.Within) ∷
    []

-- the signs, the longer ones first
abbrev pub signs : List (List ℕ × Sign)
signs =
    (codes "<>", S.Differs) ∷
    (codes "<=", S.LessEqual) ∷
    (codes ">=", S.GreaterEqual) ∷
    (codes "(", S.Open) ∷
    (codes ")", S.Close) ∷
    (codes ",", S.Comma) ∷
    (codes ";", S.Semicolon) ∷
    (codes "|", S.Bar) ∷
    (codes ":", S.Colon) ∷
    (codes "=", S.Equal) ∷
    (codes "<", S.Less) ∷
    (codes ">", S.Greater) ∷
    (codes "+", S.Plus) ∷
    (codes "-", S.Minus) ∷
    (codes "*", S.Star) ∷
    []

-- the two lists are one
abbrev pub same_bytes : List ℕ → List ℕ → Bool
same_bytes [] [] = true
same_bytes [] (b ∷ bs) = false
same_bytes (a ∷ as_) [] = false
same_bytes (a ∷ as_) (b ∷ bs) = a == b && same_bytes as_ bs

-- what the table has for exactly this word
abbrev pub look_up : List (List ℕ × Sign) → List ℕ → Option Sign
look_up [] word = None
look_up (entry ∷ table) word = if same_bytes entry.0 word then Some entry.1 else look_up table word

-- the first of the table that the bytes begin with, and its length
abbrev pub first_of_table : List (List ℕ × Sign) → List ℕ → Word × ℕ
first_of_table [] bs = (W.Bad, 1)
first_of_table (entry ∷ table) bs = if starts_with ◌==◌ bs entry.0 then (W.Fixed entry.1, length entry.0) else first_of_table table bs

-- a name that isn't reserved, of at most 64 bytes
abbrev pub short_name : Option Sign → ℕ → Word
short_name (Some sign) n = W.Fixed sign
short_name None n = if nat_le n 64 then W.Name n else W.Bad

-- the word that a run of letters and digits is
abbrev pub name_word : List ℕ → Word
name_word run = short_name (look_up reserved run) (length run)

-- the number that digits spell, after those that spell n
abbrev pub decimal_from : ℕ → List ℕ → ℕ
decimal_from n [] = n
decimal_from n (d ∷ ds) = decimal_from (n * 10 + (d - 48)) ds

-- a number that is not past the greatest
abbrev pub within_greatest : ℕ → Option ℕ
within_greatest n = if nat_le n 9223372036854775807 then Some n else None

-- the word that digits are
abbrev pub number_word : List ℕ → Word
number_word ds = if nat_le (decimal_from 0 ds) 9223372036854775807 then W.Number (decimal_from 0 ds) else W.Bad

-- The word that digits are, with a point before the last of them: the whole part, and the fraction.
abbrev pub decimal_word : List ℕ → List ℕ → Word
decimal_word ds fs =
    if nat_le (length fs) 18 && nat_le (decimal_from (decimal_from 0 ds) fs) 9223372036854775807
    then W.Decimal (decimal_from (decimal_from 0 ds) fs) (length fs)
    else W.Bad

-- how many bytes of a name stand first
abbrev pub name_length : List ℕ → ℕ
name_length bs = length (take_while is_name_byte bs)

-- how many bytes the number has that stands first: a 0 stands alone
abbrev pub number_length : List ℕ → ℕ
number_length [] = 0
number_length (b ∷ bs) = if b == 48 then 1 else length (take_while is_digit (b ∷ bs))

-- how many digits follow a point that stands first: 0 also where none stands there
abbrev pub fraction_length : List ℕ → ℕ
fraction_length [] = 0
fraction_length (b ∷ bs) = if b == 46 then length (take_while is_digit bs) else 0

-- the number of n bytes that stands first, or the decimal where f digits follow a point behind it; and its length
abbrev pub numeric_of : ℕ → ℕ → List ℕ → Word × ℕ
numeric_of n zero bs = (number_word (take n bs), n)
numeric_of n (suc f) bs = (decimal_word (take n bs) (take (suc f) (drop (suc n) bs)), suc n + suc f)

-- the number or the decimal that stands first, and its length: of `1.` the number 1
abbrev pub numeric_front : List ℕ → Word × ℕ
numeric_front bs = numeric_of (number_length bs) (fraction_length (drop (number_length bs) bs)) bs

-- the same, with one byte more
abbrev pub after_one : Bool × ℕ → Bool × ℕ
after_one r = (r.0, suc r.1)

-- Behind an opening quote: whether a quote closes the text, and how many bytes there are up to that quote and with it,
-- or up to where the line ends. Two quotes are one quote of the text.
unfoldable pub quoted_rest : List ℕ → Bool × ℕ
quoted_rest [] = (false, 0)
quoted_rest (b ∷ []) = if b == 39 then (true, 1) else if b == 10 || b == 13 then (false, 0) else (false, 1)
quoted_rest (b ∷ c ∷ bs) =
    if b == 39 then (if c == 39 then after_one (after_one (quoted_rest bs)) else (true, 1))
    else if b == 10 || b == 13 then (false, 0)
    else after_one (quoted_rest (c ∷ bs))

-- the word of a text in quotes; a text that does not end is none
abbrev pub quoted_word : Bool × ℕ → Word × ℕ
quoted_word r = (if r.0 then W.Quoted (suc r.1) else W.Bad, suc r.1)

-- The longest word that stands first, and its length. What is no word is one bad byte.
unfoldable pub front_of : List ℕ → Word × ℕ
front_of [] = (W.Bad, 1)
front_of (b ∷ bs) =
    if is_letter b then (name_word (take (name_length (b ∷ bs)) (b ∷ bs)), name_length (b ∷ bs))
    else if is_digit b then numeric_front (b ∷ bs)
    else if b == 39 then quoted_word (quoted_rest bs)
    else first_of_table signs (b ∷ bs)

-- The words from offset `at` on, once `skip` more bytes of the word before are left out.
unfoldable pub words_from : ℕ → ℕ → List ℕ → List Spot
words_from at skip [] = []
words_from at (suc skip) (b ∷ bs) = words_from (suc at) skip bs
words_from at zero (b ∷ bs) =
    if is_space b then words_from (suc at) 0 bs
    else record { at = at; word = (front_of (b ∷ bs)).0 } ∷ words_from (suc at) ((front_of (b ∷ bs)).1 - 1) bs

-- the words of a text
abbrev pub words_of : List ℕ → List Spot
words_of text = words_from 0 0 text
