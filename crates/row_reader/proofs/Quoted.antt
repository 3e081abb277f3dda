-- A text between double quotes.
use Rattle.std.proofs.Common.{◌≡◌, ◌<◌, ◌+◌, ℕ, zero, suc, List, [], ◌∷◌, ◌++◌, length, drop, get_or, refl, sym, ◌∙◌, ap, arith, append_assoc, Bool, true, false, cond, ◌≤◌}
use Rattle.std.specs.Prelude.{◌==◌}
use Rattle.std.specs.List.{list_any}
use Rattle.std.proofs.lemmas.List.{append-nil}
use Rattle.csv.specs.Writing.{default_writer, field_text, needs_byte, escaped}

by_quote : (t : Bool) (x : ℕ) (more : List ℕ) → cond t (34 ∷ x ∷ more) (x ∷ more) ≡ cond t (34 ∷ x ∷ []) (x ∷ []) ++ more
by_quote true x more = refl
by_quote false x more = refl

escaped_next : (text : List ℕ) (i : ℕ) → i < length text →
    escaped default_writer (drop i text) ≡ escaped default_writer (get_or text i 0 ∷ []) ++ escaped default_writer (drop (i + 1) text)
unfolding escaped
escaped_next [] i h = absurd (omega arith)
escaped_next (x ∷ xs) zero h = by_quote (x == 34) x (escaped default_writer xs)
escaped_next (x ∷ xs) (suc i) h = let z : suc i + 1 ≡ suc (i + 1) = omega arith in rw z (escaped_next xs i (omega arith))

-- what is appended so far, and what is still to be
pub doubled_more : (text out start after : List ℕ) (i : ℕ) → i < length text → out ++ escaped default_writer (drop i text) ≡ start →
    after ≡ out ++ escaped default_writer (get_or text i 0 ∷ []) → after ++ escaped default_writer (drop (i + 1) text) ≡ start
doubled_more text out start after i h e p =
    ap (λ (l : List ℕ). l ++ escaped default_writer (drop (i + 1) text)) p
    ∙ append_assoc out (escaped default_writer (get_or text i 0 ∷ [])) (escaped default_writer (drop (i + 1) text))
    ∙ ap (λ (l : List ℕ). out ++ l) (sym (escaped_next text i h)) ∙ e

drop_end : (text : List ℕ) (i : ℕ) → length text ≤ i → escaped default_writer (drop i text) ≡ []
unfolding escaped
drop_end [] zero h = refl
drop_end [] (suc i) h = refl
drop_end (x ∷ xs) zero h = absurd (omega arith)
drop_end (x ∷ xs) (suc i) h = drop_end xs i (omega arith)

pub doubled_all : (text out start : List ℕ) (i : ℕ) → length text ≤ i → out ++ escaped default_writer (drop i text) ≡ start → out ≡ start
doubled_all text out start i h e = sym (append-nil out) ∙ ap (λ (l : List ℕ). out ++ l) (sym (drop_end text i h)) ∙ e

pub quoted_text : (text start opened doubled closed : List ℕ) → list_any (needs_byte default_writer) text ≡ true → opened ≡ start ++ 34 ∷ [] →
    doubled ≡ opened ++ escaped default_writer text → closed ≡ doubled ++ 34 ∷ [] → closed ≡ start ++ field_text default_writer text
quoted_text text start opened doubled closed h o d e =
    e ∙ ap (λ (l : List ℕ). l ++ 34 ∷ []) (d ∙ ap (λ (l : List ℕ). l ++ escaped default_writer text) o)
    ∙ append_assoc (start ++ 34 ∷ []) (escaped default_writer text) (34 ∷ []) ∙ append_assoc start (34 ∷ []) (escaped default_writer text ++ 34 ∷ []) ∙ rw h refl
