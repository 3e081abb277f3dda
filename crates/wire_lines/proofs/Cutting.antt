-- Bytes cut into lines.
use Rattle.std.proofs.Common.{◌⊎◌, inl, inr, ◌≡◌, ◌≤◌, ◌<◌, ℕ, zero, suc, List, [], ◌∷◌, ◌++◌, length, take, drop, Bool, true, false, cond, refl, sym, ◌∙◌, ap, subst, arith, append_assoc}
use Rattle.std.proofs.lemmas.Bool.Decides.{nat_tests, Decides-ltb, eqb_tells, leb_tells}
use Rattle.std.proofs.lemmas.Bool.{eqb-false}
use Rattle.std.proofs.lemmas.List.Elements.{All-nil, All-cons}
use Rattle.std.specs.List.{All}
use Rattle.std.specs.Prelude.{◌==◌}
use Rattle.std.proofs.lemmas.Grind.{flat_map-append}
use Rattle.std.proofs.lemmas.List.{append-nil, take_all}
use Rattle.std.specs.Prelude.{nat_lt, ◌||◌, ◌≢◌}
use Rattle.wire_lines.specs.Lines.{line_len, IsOneLine, HasNoLf, onto_first, cut, whole, rest, last_of, with_last, lines, joined}
use Rattle.wire_lines.proofs.LineLength.{line_len-le}

free_by : (t : Bool) (n m : ℕ) → cond t 0 (suc n) ≡ suc m → (t ≡ false) × (n ≡ m)
free_by true n m h = absurd (omega arith)
free_by false n m h = (refl, omega arith)

free_cons : (b : ℕ) (bs : List ℕ) → line_len (b ∷ bs) ≡ length (b ∷ bs) → ((b == 10) ≡ false) × (line_len bs ≡ length bs)
free_cons b bs h = free_by (b == 10) (line_len bs) (length bs) h

-- a line, an LF, and more
pub cut_line : (line more : List ℕ) → line_len line ≡ length line → cut (line ++ 10 ∷ more) ≡ (line ∷ (cut more).0, (cut more).1)
cut_line [] more free = refl
cut_line (b ∷ bs) more free =
    let f = free_cons b bs free in
    rw (f.0, cut_line bs more f.1) refl

-- bytes without an LF are all rest
pub cut_free : (xs : List ℕ) → line_len xs ≡ length xs → cut xs ≡ ([], xs)
cut_free [] free = refl
cut_free (b ∷ bs) free =
    let f = free_cons b bs free in
    rw (f.0, cut_free bs f.1) refl

-- lines, each with its LF, and more
pub cut_joined : (given : List (List ℕ)) (more : List ℕ) → All IsOneLine given → cut (joined given ++ more) ≡ (given ++ (cut more).0, (cut more).1)
cut_joined [] more free = refl
cut_joined (line ∷ given) more free =
    let e : joined (line ∷ given) ++ more ≡ line ++ 10 ∷ (joined given ++ more) = simp append_assoc in
    rw (e, cut_line line (joined given ++ more) (free 0 [] (omega arith)), cut_joined given more (λ k d h. free (suc k) d (omega arith))) refl

-- up to the first LF there is none
pub free_take : (xs : List ℕ) → line_len (take (line_len xs) xs) ≡ length (take (line_len xs) xs)
free_take [] = refl
free_take (b ∷ bs) = elim (eqb_tells b 10) [
  | inl t ↦ rw t.0 refl
  | inr t ↦ rw (t.0, t.0) (ap suc (free_take bs))
]

-- nor in a shorter front
pub free_front : (xs : List ℕ) (n : ℕ) → n ≤ line_len xs → line_len (take n xs) ≡ length (take n xs)
free_front [] zero h = refl
free_front [] (suc n) h = refl
free_front (b ∷ bs) zero h = refl
free_front (b ∷ bs) (suc n) h = elim (eqb_tells b 10) [
  | inl t ↦ (let z : suc n ≤ 0 = (rw t.0 at h) in absurd (omega arith))
  | inr t ↦ (let z : suc n ≤ suc (line_len bs) = (rw t.0 at h) in rw t.0 (ap suc (free_front bs n (omega arith))))
]

-- at the first LF
pub at_end_of_line : (xs : List ℕ) → line_len xs < length xs → xs ≡ take (line_len xs) xs ++ 10 ∷ drop (suc (line_len xs)) xs
at_end_of_line [] h = absurd (omega arith)
at_end_of_line (b ∷ bs) h = elim (eqb_tells b 10) [
  | inl t ↦ rw t.0 (ap (λ (x : ℕ). x ∷ bs) t.1)
  | inr t ↦ (let z : suc (line_len bs) < suc (length bs) = (rw t.0 at h) in rw t.0 (ap (λ (x : List ℕ). b ∷ x) (at_end_of_line bs (omega arith))))
]

-- the whole lines and the rest, after the lines given
pub cut_go_on : (bytes more : List ℕ) (given : List (List ℕ)) → bytes ≡ joined given ++ more → All IsOneLine given → cut bytes ≡ (given ++ (cut more).0, (cut more).1)
cut_go_on bytes more given all each = ap cut all ∙ cut_joined given more each

-- the lines, after the lines given
pub lines_go_on : (bytes more : List ℕ) (given : List (List ℕ)) (at_end : Bool) → bytes ≡ joined given ++ more → All IsOneLine given → lines bytes at_end ≡ given ++ lines more at_end
unfolding lines
lines_go_on bytes more given at_end all each =
    ap (λ (p : List (List ℕ) × List ℕ). with_last p at_end) (cut_go_on bytes more given all each) ∙ append_assoc given (cut more).0 (last_of (cut more).1 at_end)

-- the first line and what follows its LF
pub cut_first : (xs : List ℕ) → line_len xs < length xs → cut xs ≡ (take (line_len xs) xs ∷ whole (drop (suc (line_len xs)) xs), rest (drop (suc (line_len xs)) xs))
cut_first xs within = ap cut (at_end_of_line xs within) ∙ cut_line _ _ (free_take xs)

-- the lines begin with the first line
pub lines_first : (xs : List ℕ) (at_end : Bool) → line_len xs < length xs → (others : List (List ℕ)) × (lines xs at_end ≡ take (line_len xs) xs ∷ others)
unfolding lines
lines_first xs at_end within =
    let after : List ℕ = drop (suc (line_len xs)) xs in
    (whole after ++ last_of (rest after) at_end, ap (λ (p : List (List ℕ) × List ℕ). with_last p at_end) (cut_first xs within))

-- bytes without an LF
pub lines_free : (xs : List ℕ) (at_end : Bool) → IsOneLine xs → lines xs at_end ≡ last_of xs at_end
unfolding lines
lines_free xs at_end free = ap (λ (p : List (List ℕ) × List ℕ). with_last p at_end) (cut_free xs free)

-- the rest is a last line where it is too long
pub last_of-long : (xs : List ℕ) (at_end : Bool) → 65536 < length xs → last_of xs at_end ≡ xs ∷ []
last_of-long xs at_end long = let t : nat_lt 65536 (length xs) ≡ true = (Decides-ltb _ _).1 long in rw t refl

-- and is none while the input goes on and it is not
pub last_of-not_yet : (xs : List ℕ) → length xs ≤ 65536 → last_of xs false ≡ []
last_of-not_yet xs short = let t : nat_lt 65536 (length xs) ≡ false = grind (arith, nat_tests) in rw t refl

or_true : (b : Bool) (x : List (List ℕ)) → cond (b || true) x [] ≡ x
or_true true x = refl
or_true false x = refl

-- and is one at the end where it isn't empty
pub last_of-end : (xs : List ℕ) → 0 < length xs → last_of xs true ≡ xs ∷ []
last_of-end xs some = let t : nat_lt 0 (length xs) ≡ true = (Decides-ltb _ _).1 some in rw (t) (or_true (nat_lt 65536 (length xs)) (xs ∷ []))

le_or_lt : (a b : ℕ) → (a ≤ b) ⊎ (b < a)
le_or_lt a b = elim (leb_tells a b) [ inl h ↦ inl h.1 | inr h ↦ inr h.1 ]

-- the first line, where it is too long: the LF that ends it may be still to come
pub lines_long : (xs : List ℕ) (at_end : Bool) → 65536 < line_len xs → (others : List (List ℕ)) × (lines xs at_end ≡ take (line_len xs) xs ∷ others)
lines_long xs at_end long = elim (le_or_lt (length xs) (line_len xs)) [
  | inl all ↦ (
      let free : line_len xs ≡ length xs = omega (arith, line_len-le xs) in
      let same : take (line_len xs) xs ≡ xs = take_all (line_len xs) xs (omega arith) in
      ([], lines_free xs at_end free ∙ last_of-long xs at_end (omega arith) ∙ ap (λ (x : List ℕ). x ∷ []) (sym same)))
  | inr within ↦ lines_first xs at_end within
]

-- one more line
pub joined-push : (given : List (List ℕ)) (line : List ℕ) → joined (given ++ line ∷ []) ≡ joined given ++ (line ++ 10 ∷ [])
joined-push given line = flat_map-append (λ line. line ++ 10 ∷ []) given (line ∷ []) ∙ ap (λ x. joined given ++ x) (append-nil (line ++ 10 ∷ []))

-- the two ways to say that no LF is among the bytes
pub IsOneLine-free : (xs : List ℕ) → HasNoLf xs → IsOneLine xs
IsOneLine-free [] free = refl
IsOneLine-free (b ∷ bs) free = elim (eqb_tells b 10) [
  | inl t ↦ absurd (free 0 b (omega arith) t.1)
  | inr t ↦ rw t.0 (ap suc (IsOneLine-free bs (λ k d h. free (suc k) d (omega arith))))
]

pub HasNoLf-one_line : (xs : List ℕ) → IsOneLine xs → HasNoLf xs
HasNoLf-one_line [] one = All-nil (λ b. b ≢ 10)
HasNoLf-one_line (b ∷ bs) one =
    let f = free_cons b bs one in
    All-cons (λ b. b ≢ 10) b bs (eqb-false b 10 f.0) (HasNoLf-one_line bs f.1)

onto_joined : (b : ℕ) (parts : List (List ℕ) × List ℕ) → joined (onto_first b parts).0 ++ (onto_first b parts).1 ≡ b ∷ (joined parts.0 ++ parts.1)
onto_joined b ([], rest) = refl
onto_joined b (line ∷ lines, rest) = refl

cut_lf : (b : ℕ) (bs : List ℕ) → (b == 10) ≡ true → cut (b ∷ bs) ≡ ([] ∷ whole bs, rest bs)
cut_lf b bs t = rw t refl

cut_other : (b : ℕ) (bs : List ℕ) → (b == 10) ≡ false → cut (b ∷ bs) ≡ onto_first b (cut bs)
cut_other b bs t = rw t refl

abbrev put_together : List (List ℕ) × List ℕ → List ℕ
put_together parts = joined parts.0 ++ parts.1

-- the whole lines and the rest are the bytes
pub joined-whole : (bytes : List ℕ) → joined (whole bytes) ++ rest bytes ≡ bytes
joined-whole [] = refl
joined-whole (b ∷ bs) = elim (eqb_tells b 10) [
  | inl t ↦ ap put_together (cut_lf b bs t.0) ∙ ap (λ (x : List ℕ). 10 ∷ x) (joined-whole bs) ∙ ap (λ (x : ℕ). x ∷ bs) (sym t.1)
  | inr t ↦ ap put_together (cut_other b bs t.0) ∙ onto_joined b (cut bs) ∙ ap (λ (x : List ℕ). b ∷ x) (joined-whole bs)
]

onto_free : (b : ℕ) (parts : List (List ℕ) × List ℕ) → b ≢ 10 → All HasNoLf parts.0 → HasNoLf parts.1 → All HasNoLf (onto_first b parts).0 × HasNoLf (onto_first b parts).1
onto_free b ([], rest) other lines_free rest_free = (All-nil HasNoLf, All-cons (λ b. b ≢ 10) b rest other rest_free)
onto_free b (line ∷ lines, rest) other lines_free rest_free =
    (All-cons HasNoLf (b ∷ line) lines (All-cons (λ b. b ≢ 10) b line other (lines_free 0 [] (omega arith))) (λ k d h. lines_free (suc k) d (omega arith)), rest_free)

-- no LF stands in a line or in the rest
abbrev AreFree : List (List ℕ) × List ℕ → Type 0
AreFree parts = All HasNoLf parts.0 × HasNoLf parts.1

pub cut_is_free : (bytes : List ℕ) → All HasNoLf (whole bytes) × HasNoLf (rest bytes)
cut_is_free [] = (All-nil HasNoLf, All-nil (λ b. b ≢ 10))
cut_is_free (b ∷ bs) = elim (eqb_tells b 10) [
  | inl t ↦ subst AreFree (sym (cut_lf b bs t.0)) (All-cons HasNoLf [] (whole bs) (All-nil (λ b. b ≢ 10)) (cut_is_free bs).0, (cut_is_free bs).1)
  | inr t ↦ subst AreFree (sym (cut_other b bs t.0)) (onto_free b (cut bs) t.1 (cut_is_free bs).0 (cut_is_free bs).1)
]

lines_are_free : (given : List (List ℕ)) → All HasNoLf given → All IsOneLine given
lines_are_free [] free = All-nil IsOneLine
lines_are_free (line ∷ given) free = All-cons IsOneLine line given (IsOneLine-free line (free 0 [] (omega arith))) (lines_are_free given (λ k d h. free (suc k) d (omega arith)))

-- bytes are put together from lines and a rest in one way only
pub whole-joined : (given : List (List ℕ)) (more : List ℕ) → All HasNoLf given → HasNoLf more → whole (joined given ++ more) ≡ given
whole-joined given more free more_free =
    ap (λ (p : List (List ℕ) × List ℕ). p.0) (cut_joined given more (lines_are_free given free) ∙ ap (λ (p : List (List ℕ) × List ℕ). (given ++ p.0, p.1)) (cut_free more (IsOneLine-free more more_free)))
    ∙ append-nil given
