-- What each word of a text keeps: how many bytes it has, and which.
use Rattle.std.specs.Prelude.{◌≡◌, ℕ, ◌+◌, ◌-◌, ◌^◌, ◌<◌, ◌≤◌, Bool, true, ◌&&◌, ◌||◌, ◌==◌, not, if◌then◌else◌, List, [], ◌∷◌, length, take, drop, get_or, IsUtf8, IsCharBoundary}
use Rattle.std.specs.List.{list_all}
use Rattle.query_text.specs.declared.word.Word.{Word}
use Rattle.query_text.specs.declared.word.Word.TheVariants as W
use Rattle.query_text.specs.declared.word.Spot.{Spot}
use Rattle.query_text.specs.Words.{is_name_byte}

-- n bytes of a name stand at `at`
pub record IsNameAt (text : List ℕ) (at n : ℕ) : Type 0 where
  pub some : 0 < n
  pub short : n ≤ 64
  pub within : at + n ≤ length text
  pub bytes : list_all is_name_byte (take n (drop at text)) ≡ true

-- neither a quote nor LF nor CR
abbrev pub is_plain : ℕ → Bool
is_plain b = not (b == 39 || b == 10 || b == 13)

-- Whether these bytes may stand between quotes: no LF, no CR, and each quote twice. `a''b` may, `a'b` may not.
unfoldable pub is_inside : List ℕ → Bool
is_inside [] = true
is_inside (b ∷ []) = is_plain b
is_inside (b ∷ c ∷ bs) = if b == 39 then c == 39 && is_inside bs else is_plain b && is_inside (c ∷ bs)

-- a text of n bytes with its quotes stands at `at`
pub record IsQuotedAt (text : List ℕ) (at n : ℕ) : Type 0 where
  pub both : 2 ≤ n
  pub within : at + n ≤ length text
  pub opens : get_or text at 0 ≡ 39
  pub closes : get_or text (at + n - 1) 0 ≡ 39
  pub inside : is_inside (take (n - 2) (drop (at + 1) text)) ≡ true

-- this word can stand at `at`
abbrev pub IsSpotAt : List ℕ → ℕ → Word → Type 0
IsSpotAt text at (W.Name n) = IsNameAt text at n
IsSpotAt text at (W.Number n) = (at < length text) × (n < 2 ^ 63)
IsSpotAt text at (W.Decimal units places) = (at < length text) × (units < 2 ^ 63) × (places ≤ 18)
IsSpotAt text at (W.Quoted n) = IsQuotedAt text at n
IsSpotAt text at (W.Fixed s) = at < length text
IsSpotAt text at W.Bad = at < length text

-- the word can stand at its offset
abbrev pub IsSpotIn : List ℕ → Spot → Type 0
IsSpotIn text spot = IsSpotAt text spot.at spot.word

-- the text may be cut before and behind the n bytes at `at`
abbrev pub IsCutAt : List ℕ → ℕ → ℕ → Type 0
IsCutAt text at n = IsCharBoundary text at × IsCharBoundary text (at + n)

-- a name may be cut out of the text, and so may what stands between quotes
abbrev pub IsSpotCutAt : List ℕ → ℕ → Word → Type 0
IsSpotCutAt text at (W.Name n) = IsCutAt text at n × IsUtf8 (take n (drop at text))
IsSpotCutAt text at (W.Quoted n) = IsCutAt text (at + 1) (n - 2) × IsUtf8 (take (n - 2) (drop (at + 1) text))
IsSpotCutAt text at (W.Number n) = Unit {0}
IsSpotCutAt text at (W.Decimal units places) = Unit {0}
IsSpotCutAt text at (W.Fixed s) = Unit {0}
IsSpotCutAt text at W.Bad = Unit {0}

-- the word at its offset may be cut out of the text
abbrev pub IsSpotCut : List ℕ → Spot → Type 0
IsSpotCut text spot = IsSpotCutAt text spot.at spot.word
