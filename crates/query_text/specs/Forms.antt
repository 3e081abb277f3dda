-- Which bytes are a word, said of all its bytes and of nothing behind them; and what looks like one at any size.
use Rattle.std.specs.Prelude.{◌≡◌, ℕ, ◌^◌, ◌<◌, ◌≤◌, ◌⊎◌, true, List, [], ◌∷◌, ◌++◌, length, take, get_or, Some, None}
use Rattle.std.specs.List.{list_all}
use Rattle.query_text.specs.declared.word.Sign.{Sign}
use Rattle.query_text.specs.declared.word.Word.{Word}
use Rattle.query_text.specs.declared.word.Word.TheVariants as W
use Rattle.query_text.specs.Words.{is_letter, is_digit, is_name_byte, reserved, signs, look_up, decimal_from}
use Rattle.query_text.specs.Spots.{is_inside}

-- spelled as a name or a reserved word, of any length: `join` and `_1`, and not `1a`
pub record IsNameForm (bs : List ℕ) : Type 0 where
  pub first : is_letter (get_or bs 0 0) ≡ true
  pub all : list_all is_name_byte bs ≡ true

-- spelled as a number, of any size: `0` and `105`, and not `00`
pub record IsNumberForm (bs : List ℕ) : Type 0 where
  pub some : 0 < length bs
  pub all : list_all is_digit bs ≡ true
  pub zero_alone : get_or bs 0 0 ≡ 48 → length bs ≡ 1

-- spelled as a number, a point and digits behind it, of any size: `0.05`, and not `1.`
pub record IsDecimalForm (bs : List ℕ) : Type 0 where
  pub whole : List ℕ
  pub fraction : List ℕ
  pub pointed : bs ≡ whole ++ 46 ∷ fraction
  pub number : IsNumberForm whole
  pub some : 0 < length fraction
  pub digits : list_all is_digit fraction ≡ true

-- the number that its digits spell without the point: of `1.50` it is 150
abbrev pub units_of : {bs : List ℕ} → IsDecimalForm bs → ℕ
units_of form = decimal_from (decimal_from 0 form.whole) form.fraction

-- a text with its quotes: `'it''s'`, and not `'it's'`
pub record IsQuotedForm (bs : List ℕ) : Type 0 where
  pub inner : List ℕ
  pub quoted : bs ≡ 39 ∷ inner ++ 39 ∷ []
  pub inside : is_inside inner ≡ true

-- a text without its closing quote: `'it''s`
pub record IsOpenForm (bs : List ℕ) : Type 0 where
  pub inner : List ℕ
  pub opened : bs ≡ 39 ∷ inner
  pub inside : is_inside inner ≡ true

-- just the bytes of a sign
pub record IsSignForm (bs : List ℕ) : Type 0 where
  pub sign : Sign
  pub found : look_up signs bs ≡ Some sign

-- looks like a word, whatever its limit
abbrev pub HasForm : List ℕ → Type 0
HasForm bs = IsNameForm bs ⊎ IsNumberForm bs ⊎ IsDecimalForm bs ⊎ IsQuotedForm bs ⊎ IsOpenForm bs ⊎ IsSignForm bs

-- a name of n bytes: at most 64, and no reserved word
pub record IsName (bs : List ℕ) (n : ℕ) : Type 0 where
  pub form : IsNameForm bs
  pub size : length bs ≡ n
  pub short : n ≤ 64
  pub free : look_up reserved bs ≡ None

-- the digits of n, at most 9223372036854775807
pub record IsNumber (bs : List ℕ) (n : ℕ) : Type 0 where
  pub form : IsNumberForm bs
  pub spells : decimal_from 0 bs ≡ n
  pub fits : n < 2 ^ 63

-- a decimal with its units and its places: at most 9223372036854775807 and 18
pub record IsDecimal (bs : List ℕ) (units places : ℕ) : Type 0 where
  pub form : IsDecimalForm bs
  pub spells : units_of form ≡ units
  pub size : length form.fraction ≡ places
  pub short : places ≤ 18
  pub fits : units < 2 ^ 63

-- these bytes, and no others with them, are this word
abbrev pub IsWord : List ℕ → Word → Type 0
IsWord bs (W.Name n) = IsName bs n
IsWord bs (W.Number n) = IsNumber bs n
IsWord bs (W.Decimal units places) = IsDecimal bs units places
IsWord bs (W.Quoted n) = IsQuotedForm bs × (length bs ≡ n)
IsWord bs (W.Fixed s) = (look_up reserved bs ≡ Some s) ⊎ (look_up signs bs ≡ Some s)
IsWord bs W.Bad = ⊥

-- a decimal with too many places or too many units
pub record IsPastDecimal (bs : List ℕ) : Type 0 where
  pub form : IsDecimalForm bs
  pub past : (18 < length form.fraction) ⊎ (2 ^ 63 ≤ units_of form)

-- a name, a number or a decimal past its limit, or a text without its end
abbrev pub IsPastLimit : List ℕ → Type 0
IsPastLimit bs =
    (IsNameForm bs × (64 < length bs)) ⊎ (IsNumberForm bs × (2 ^ 63 ≤ decimal_from 0 bs)) ⊎ IsPastDecimal bs ⊎ IsOpenForm bs

-- no prefix of more than n bytes looks like a word
abbrev pub IsLongest : List ℕ → ℕ → Type 0
IsLongest bs n = (m : ℕ) → n < m → m ≤ length bs → HasForm (take m bs) → ⊥

-- no prefix looks like a word
abbrev pub IsFormless : List ℕ → Type 0
IsFormless bs = (m : ℕ) → HasForm (take m bs) → ⊥

-- The first n bytes are past their limit or a text without its end, and no longer prefix looks like a word;
-- or no front looks like a word, and n is 1.
abbrev pub IsBadFront : List ℕ → ℕ → Type 0
IsBadFront bs n = ((n ≤ length bs) × IsPastLimit (take n bs) × IsLongest bs n) ⊎ ((n ≡ 1) × IsFormless bs)

-- What is taken at a place, and how many bytes it has: a word, where no longer front looks like a word; else what is
-- bad. Of `<=b` it is `<=`, with 2 bytes; of `00` the number 0, with 1 byte.
-- Of `'a''` all 4 bytes are taken, and are bad.
abbrev pub IsTaken : List ℕ → Word × ℕ → Type 0
IsTaken bs x =
    ((x.1 ≤ length bs) × IsWord (take x.1 bs) x.0 × IsLongest bs x.1) ⊎ ((x.0 ≡ W.Bad) × IsBadFront bs x.1)
