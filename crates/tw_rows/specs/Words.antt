-- Data and cells as words of 64 bits, by which they are hashed.
use Rattle.std.specs.Prelude.{◌≡◌, ℕ, ◌*◌, ◌%◌, ◌^◌, true, false, List, fold, bit_xor, refl}
use Rattle.std.proofs.Common.{ap}
use Rattle.std.specs.Bool.{Decides}
use Rattle.std.specs.Int.{cast_unsigned, w64}
use Rattle.std.proofs.lemmas.Bool.Decides.{Decides-int_eq, Decides-eqb}
use Rattle.tw_rows.specs.SameCells.{int_part, place_part}
use Rattle.tw_rows.specs.declared.cells.Datum.{Datum}
use Rattle.tw_rows.specs.declared.cells.Datum.TheVariants.{Int, Bool as Flag, Text}
use Rattle.tw_rows.specs.contracts.cells.DatumPartialEq.TheImpl as datum_block

-- the word of a datum: an int's 64 bits, 1 for a true flag and 0 for a false one, the place of a text
abbrev pub word_of : Datum → ℕ
word_of (Int x) = cast_unsigned w64 x
word_of (Flag false) = 0
word_of (Flag true) = 1
word_of (Text place) = place

-- words once one more is mixed in
abbrev pub mixed : ℕ → ℕ → ℕ
mixed words word = (bit_xor words word * 1099511628211) % 2 ^ 64

-- the words of the cells, mixed in their order. That of no cell is 0
abbrev pub word_of_cells : List Datum → ℕ
word_of_cells cells = fold (λ words d. mixed words (word_of d)) 0 cells

-- `==` on data
pub datum_eq-Decides : (a b : Datum) → Decides (datum_block.ghosts.eq a b) (a ≡ b)
datum_eq-Decides (Int x) (Int y) = let d = Decides-int_eq x y in (λ h. ap Int (d.0 h), λ h. d.1 (ap (λ e. int_part e x) h))
datum_eq-Decides (Int x) (Flag b) = (λ h. absurd (cc), λ h. absurd (cc))
datum_eq-Decides (Int x) (Text t) = (λ h. absurd (cc), λ h. absurd (cc))
datum_eq-Decides (Flag a) (Int y) = (λ h. absurd (cc), λ h. absurd (cc))
datum_eq-Decides (Flag false) (Flag false) = (λ h. refl, λ h. refl)
datum_eq-Decides (Flag false) (Flag true) = (λ h. absurd (cc), λ h. absurd (cc))
datum_eq-Decides (Flag true) (Flag false) = (λ h. absurd (cc), λ h. absurd (cc))
datum_eq-Decides (Flag true) (Flag true) = (λ h. refl, λ h. refl)
datum_eq-Decides (Flag a) (Text t) = (λ h. absurd (cc), λ h. absurd (cc))
datum_eq-Decides (Text s) (Int y) = (λ h. absurd (cc), λ h. absurd (cc))
datum_eq-Decides (Text s) (Flag b) = (λ h. absurd (cc), λ h. absurd (cc))
datum_eq-Decides (Text s) (Text t) = let d = Decides-eqb s t in (λ h. ap Text (d.0 h), λ h. d.1 (ap place_part h))
