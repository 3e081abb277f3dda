-- What the line of a text says.
use Rattle.std.proofs.Common.{◌≡◌, ℕ, List, take, drop, Bool, true, false, Some, None, refl, sym, ◌∙◌, ap}
use Rattle.std.specs.Prelude.{codes}
use Rattle.std.specs.List.{list_any}
use Rattle.std.specs.Str.{IsUtf8, is_utf8}
use Rattle.std.proofs.lemmas.Str.{IsUtf8-from_is_utf8, is_utf8-from_IsUtf8}
use Rattle.row_reader.specs.Number.{same_text}
use Rattle.checkpoint.specs.Reading.{is_break, text_of}

pub text_found : (line text read : List ℕ) → same_text (take 6 line) (codes "#text,") ≡ true → text ≡ drop 6 line → list_any is_break text ≡ false → IsUtf8 text → read ≡ text → text_of line ≡ Some read
unfolding text_of
text_found line text read word is none utf8 same =
    let a : list_any is_break (drop 6 line) ≡ false = ap (list_any is_break) (sym is) ∙ none in
    let u : is_utf8 (drop 6 line) ≡ true = ap is_utf8 (sym is) ∙ is_utf8-from_IsUtf8 text utf8 in
    rw (word, a, u) (ap (λ (l : List ℕ). Some l) (sym (same ∙ is)))

is_false : (text : List ℕ) (b : Bool) → is_utf8 text ≡ b → (IsUtf8 text → ⊥) → is_utf8 text ≡ false
is_false text true e h = absurd (h (IsUtf8-from_is_utf8 text e))
is_false text false e h = e

pub text_missed : (line text : List ℕ) → same_text (take 6 line) (codes "#text,") ≡ true → text ≡ drop 6 line → list_any is_break text ≡ false → (IsUtf8 text → ⊥) → text_of line ≡ None
unfolding text_of
text_missed line text word is none bad =
    let a : list_any is_break (drop 6 line) ≡ false = ap (list_any is_break) (sym is) ∙ none in
    let u : is_utf8 (drop 6 line) ≡ false = ap is_utf8 (sym is) ∙ is_false text (is_utf8 text) refl bad in
    rw (word, a, u) refl

pub text_broken : (line text : List ℕ) → same_text (take 6 line) (codes "#text,") ≡ true → text ≡ drop 6 line → list_any is_break text ≡ true → text_of line ≡ None
unfolding text_of
text_broken line text word is some =
    let a : list_any is_break (drop 6 line) ≡ true = ap (list_any is_break) (sym is) ∙ some in
    rw (word, a) refl

pub text_other : (line : List ℕ) → same_text (take 6 line) (codes "#text,") ≡ false → text_of line ≡ None
unfolding text_of
text_other line word = rw word refl
