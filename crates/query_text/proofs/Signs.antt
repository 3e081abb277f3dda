-- Signs of the table.
use Rattle.std.proofs.Common.{◌≡◌, ℕ, suc, ◌<◌, ◌≤◌, Bool, true, false, List, [], ◌∷◌, length, arith, refl, if◌then◌else◌, lit<, ◌&&◌}
use Rattle.std.specs.Bool.{◌==◌}
use Rattle.std.specs.List.{starts_with}
use Rattle.query_text.specs.declared.word.Sign.{Sign}
use Rattle.query_text.specs.declared.word.Word.{Word}
use Rattle.query_text.specs.Words.{first_of_table, signs}

-- bytes that begin with others are no shorter
pub starts_length : (bs needle : List ℕ) → starts_with ◌==◌ bs needle ≡ true → length needle ≤ length bs
starts_length bs [] e = omega arith
starts_length [] (a ∷ needle) e = cc
starts_length (b ∷ bs) (a ∷ needle) e = here (a == b) (λ f. starts_length bs needle f) e
  where
    here : (x : Bool) → (starts_with ◌==◌ bs needle ≡ true → length needle ≤ length bs) → (x && starts_with ◌==◌ bs needle) ≡ true → suc (length needle) ≤ suc (length bs)
    here true h e = let k = h e in omega arith
    here false h e = cc

-- each entry has a byte
abbrev pub NotEmpty : List (List ℕ × Sign) → Type 0
NotEmpty [] = Unit {0}
NotEmpty (entry ∷ table) = (0 < length entry.0) × NotEmpty table

fits_if : (b : Bool) (w : Word) (n : ℕ) (x : Word × ℕ) (bs : List ℕ) → 0 < n → (b ≡ true → n ≤ length bs) → (0 < x.1) × (x.1 ≤ length bs)
    → (0 < (if b then (w, n) else x).1) × ((if b then (w, n) else x).1 ≤ length bs)
fits_if true w n x bs h k r = (h, k refl)
fits_if false w n x bs h k r = r

table_fits : (table : List (List ℕ × Sign)) (bs : List ℕ) → NotEmpty table → 0 < length bs → (0 < (first_of_table table bs).1) × ((first_of_table table bs).1 ≤ length bs)
table_fits [] bs h l = (omega arith, omega arith)
table_fits (entry ∷ table) bs h l = fits_if (starts_with ◌==◌ bs entry.0) _ (length entry.0) (first_of_table table bs) bs h.0 (λ e. starts_length bs entry.0 e) (table_fits table bs h.1 l)

-- the sign that stands first lies within the bytes
pub sign_fits : (bs : List ℕ) (x : Word × ℕ) → x ≡ first_of_table signs bs → 0 < length bs → (0 < x.1) × (x.1 ≤ length bs)
sign_fits bs x e l = rw e (table_fits signs bs (lit< tt, (lit< tt, (lit< tt, (lit< tt, (lit< tt, (lit< tt, (lit< tt, (lit< tt, (lit< tt, (lit< tt, (lit< tt, (lit< tt, (lit< tt, (lit< tt, (lit< tt, tt))))))))))))))) l)
