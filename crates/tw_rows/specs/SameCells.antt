-- A test of rows of cells that tells whether they are the same.
use Rattle.std.specs.Prelude.{◌≡◌, ℕ, ℤ, Bool, true, false, not, ◌&&◌, cond, nat_eq, List, [], ◌∷◌, refl}
use Rattle.std.proofs.Common.{ap, subst, arith}
use Rattle.std.specs.Bool.{Decides}
use Rattle.std.specs.Cmp.{IsEquivalence, decided}
use Rattle.std.specs.Ordering.{int_eq}
use Rattle.std.proofs.lemmas.Bool.{and_parts}
use Rattle.std.proofs.lemmas.Bool.Decides.{Decides-int_eq, Decides-eqb}
use Rattle.tw_rows.specs.declared.cells.Datum.{Datum}
use Rattle.tw_rows.specs.declared.cells.Datum.TheVariants.{Int, Bool as Flag, Text}

-- the data are of one variant and hold the same
abbrev pub same_datum : Datum → Datum → Bool
same_datum (Int x) (Int y) = int_eq x y
same_datum (Int x) (Flag b) = false
same_datum (Int x) (Text t) = false
same_datum (Flag a) (Int y) = false
same_datum (Flag a) (Flag b) = cond a b (not b)
same_datum (Flag a) (Text t) = false
same_datum (Text s) (Int y) = false
same_datum (Text s) (Flag b) = false
same_datum (Text s) (Text t) = nat_eq s t

-- the rows are equally long and have the same datum at each place
unfoldable pub same_cells : List Datum → List Datum → Bool
same_cells [] [] = true
same_cells [] (b ∷ bs) = false
same_cells (a ∷ rest) [] = false
same_cells (a ∷ rest) (b ∷ bs) = same_datum a b && same_cells rest bs

-- the number of an int, and of others d; the place of a text, and of others 0
abbrev pub int_part : Datum → ℤ → ℤ
int_part (Int x) d = x
int_part (Flag b) d = d
int_part (Text t) d = d

abbrev pub place_part : Datum → ℕ
place_part (Int x) = 0
place_part (Flag b) = 0
place_part (Text t) = t

pub same_datum-Decides : (a b : Datum) → Decides (same_datum a b) (a ≡ b)
same_datum-Decides (Int x) (Int y) =
    let d = Decides-int_eq x y in
    (λ h. ap Int (d.0 h), λ h. d.1 (ap (λ e. int_part e x) h))
same_datum-Decides (Int x) (Flag b) = (λ h. absurd (cc), λ h. absurd (cc))
same_datum-Decides (Int x) (Text t) = (λ h. absurd (cc), λ h. absurd (cc))
same_datum-Decides (Flag a) (Int y) = (λ h. absurd (cc), λ h. absurd (cc))
same_datum-Decides (Flag false) (Flag false) = (λ h. refl, λ h. refl)
same_datum-Decides (Flag false) (Flag true) = (λ h. absurd (cc), λ h. absurd (cc))
same_datum-Decides (Flag true) (Flag false) = (λ h. absurd (cc), λ h. absurd (cc))
same_datum-Decides (Flag true) (Flag true) = (λ h. refl, λ h. refl)
same_datum-Decides (Flag a) (Text t) = (λ h. absurd (cc), λ h. absurd (cc))
same_datum-Decides (Text s) (Int y) = (λ h. absurd (cc), λ h. absurd (cc))
same_datum-Decides (Text s) (Flag b) = (λ h. absurd (cc), λ h. absurd (cc))
same_datum-Decides (Text s) (Text t) = let d = Decides-eqb s t in (λ h. ap Text (d.0 h), λ h. d.1 (ap place_part h))

both_true : (a b : Bool) → a ≡ true → b ≡ true → (a && b) ≡ true
both_true a b h k = grind arith

pub cells_are_same : (xs ys : List Datum) → same_cells xs ys ≡ true → xs ≡ ys
unfolding same_cells
cells_are_same [] [] h = refl
cells_are_same [] (y ∷ ys) h = absurd (cc)
cells_are_same (x ∷ xs) [] h = absurd (cc)
cells_are_same (x ∷ xs) (y ∷ ys) h =
    let p = and_parts (same_datum x y) (same_cells xs ys) h in
    let a = (same_datum-Decides x y).0 p.0 in
    let b = cells_are_same xs ys p.1 in
    λ i. a i ∷ b i

pub same_itself : (xs : List Datum) → same_cells xs xs ≡ true
unfolding same_cells
same_itself [] = refl
same_itself (x ∷ xs) = both_true (same_datum x x) (same_cells xs xs) ((same_datum-Decides x x).1 refl) (same_itself xs)

pub same_cells-Decides : (xs ys : List Datum) → Decides (same_cells xs ys) (xs ≡ ys)
same_cells-Decides xs ys = (cells_are_same xs ys, λ e. subst (λ l. same_cells xs l ≡ true) e (same_itself xs))

pub same_cells_equiv : IsEquivalence same_cells
same_cells_equiv = decided same_cells same_cells-Decides
