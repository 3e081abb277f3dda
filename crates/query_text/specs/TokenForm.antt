-- What each token of a text keeps.
use Rattle.std.specs.Prelude.{ℕ, ◌^◌, ◌<◌, ◌≤◌, ◌≢◌, List, length, All, IsUtf8, IsAscii}
use Rattle.query_text.specs.Token.{Token, name, int, dec, str, fixed, bad}

-- the bytes of a name
pub record IsNameText (bytes : List ℕ) : Type 0 where
  pub some : 0 < length bytes
  pub short : length bytes ≤ 64
  pub ascii : IsAscii bytes

-- the bytes of a text: UTF-8 without LF and CR
pub record IsLineText (bytes : List ℕ) : Type 0 where
  pub utf8 : IsUtf8 bytes
  pub line : All (λ b. (b ≢ 10) × (b ≢ 13)) bytes

-- this token can be a text's
abbrev pub IsSound : Token → Type 0
IsSound (name bytes) = IsNameText bytes
IsSound (int n) = n < 2 ^ 63
IsSound (dec units places) = (units < 2 ^ 63) × (places ≤ 18)
IsSound (str bytes) = IsLineText bytes
IsSound (fixed s) = Unit {0}
IsSound bad = Unit {0}
