-- Texts in quotes, byte by byte.
use Rattle.std.proofs.Common.{Bool, ◌||◌, ◌≡◌, ◌⊎◌, inl, inr, add-one, ℕ, suc, ◌+◌, ◌<◌, ◌≤◌, true, false, List, [], ◌∷◌, length, drop, get_or, refl, ap, sym, ◌∙◌, arith, drop-cons}
use Rattle.std.proofs.lemmas.List.{drop_all}
use Rattle.std.proofs.lemmas.Bool.{eq-eqb}
use Rattle.std.specs.Bool.{◌==◌}
use Rattle.query_text.specs.Words.{quoted_rest, after_one}
use Rattle.query_text.proofs.Inside.{other_rest, pair_rest}

-- the same, with so many bytes more
abbrev pub onwards : ℕ → Bool × ℕ → Bool × ℕ
onwards at r = (r.0, at + r.1)

cons_at : (bs : List ℕ) (at d : ℕ) → at < length bs → drop at bs ≡ get_or bs at d ∷ drop (at + 1) bs
cons_at bs at d h = rw (drop-cons bs at d h, add-one at) refl

-- where no text goes on
stops : (at : ℕ) (bs : List ℕ) → quoted_rest (drop at bs) ≡ (false, 0) → onwards at (quoted_rest (drop at bs)) ≡ quoted_rest bs → (false, at) ≡ quoted_rest bs
stops at bs n e = let z : at ≡ at + 0 = omega arith in ap (λ k. (false, k)) z ∙ ap (onwards at) (sym n) ∙ e

pub at_end : (at : ℕ) (bs : List ℕ) → length bs ≤ at → onwards at (quoted_rest (drop at bs)) ≡ quoted_rest bs → (false, at) ≡ quoted_rest bs
unfolding quoted_rest
at_end at bs h e = stops at bs (ap quoted_rest (drop_all at bs h)) e

line_rest : (b : ℕ) (bs : List ℕ) → (b ≡ 10) ⊎ (b ≡ 13) → quoted_rest (b ∷ bs) ≡ (false, 0)
unfolding quoted_rest
line_rest b [] h = elim h [ inl e ↦ rw e refl | inr e ↦ rw e refl ]
line_rest b (c ∷ bs) h = elim h [ inl e ↦ rw e refl | inr e ↦ rw e refl ]

pub at_line : (at d : ℕ) (bs : List ℕ) → at < length bs → (get_or bs at d ≡ 10) ⊎ (get_or bs at d ≡ 13) → onwards at (quoted_rest (drop at bs)) ≡ quoted_rest bs → (false, at) ≡ quoted_rest bs
at_line at d bs h l e = stops at bs (ap quoted_rest (cons_at bs at d h) ∙ line_rest (get_or bs at d) (drop (at + 1) bs) l) e

no_line : (b : ℕ) → (b == 10) ≡ false → (b == 13) ≡ false → (b == 10 || b == 13) ≡ false
no_line b e f = rw (e, f) refl

onwards_one : (at : ℕ) (r : Bool × ℕ) → onwards (at + 1) r ≡ onwards at (after_one r)
onwards_one at (x, n) = let e : at + 1 + n ≡ at + suc n = omega arith in ap (λ k. (x, k)) e

pub at_other : (at d : ℕ) (bs : List ℕ) → at < length bs → (get_or bs at d == 39) ≡ false → (get_or bs at d == 10) ≡ false → (get_or bs at d == 13) ≡ false
    → onwards at (quoted_rest (drop at bs)) ≡ quoted_rest bs → onwards (at + 1) (quoted_rest (drop (at + 1) bs)) ≡ quoted_rest bs
at_other at d bs h f g l e =
    onwards_one at (quoted_rest (drop (at + 1) bs)) ∙ ap (onwards at) (sym (other_rest (get_or bs at d) (drop (at + 1) bs) f (no_line _ g l)) ∙ ap quoted_rest (sym (cons_at bs at d h))) ∙ e

last_rest : (b : ℕ) (bs : List ℕ) → b ≡ 39 → ((c : ℕ) (cs : List ℕ) → bs ≡ c ∷ cs → (c == 39) ≡ false) → quoted_rest (b ∷ bs) ≡ (true, 1)
unfolding quoted_rest
last_rest b [] e f = rw e refl
last_rest b (c ∷ bs) e f = let g = f c bs refl in rw (e, g) refl

last_at : (at d : ℕ) (bs : List ℕ) → at < length bs → get_or bs at d ≡ 39 → ((c : ℕ) (cs : List ℕ) → drop (at + 1) bs ≡ c ∷ cs → (c == 39) ≡ false)
    → onwards at (quoted_rest (drop at bs)) ≡ quoted_rest bs → (true, at + 1) ≡ quoted_rest bs
last_at at d bs h q f e = ap (onwards at) (sym (last_rest (get_or bs at d) (drop (at + 1) bs) q f) ∙ ap quoted_rest (sym (cons_at bs at d h))) ∙ e

-- where the bytes end behind the quote
pub at_last : (at d : ℕ) (bs : List ℕ) → at < length bs → get_or bs at d ≡ 39 → length bs ≤ at + 1 → onwards at (quoted_rest (drop at bs)) ≡ quoted_rest bs → (true, at + 1) ≡ quoted_rest bs
at_last at d bs h q l e = last_at at d bs h q (λ c cs f. let g = sym (drop_all (at + 1) bs l) ∙ f in cc) e

-- where another byte stands behind the quote
pub at_closing : (at d : ℕ) (bs : List ℕ) → at + 1 < length bs → get_or bs at d ≡ 39 → (get_or bs (at + 1) d == 39) ≡ false → onwards at (quoted_rest (drop at bs)) ≡ quoted_rest bs → (true, at + 1) ≡ quoted_rest bs
at_closing at d bs h q n e = last_at at d bs (omega arith) q (λ c cs f. let g = sym (cons_at bs (at + 1) d h) ∙ f in let s : get_or bs (at + 1) d ≡ c = cc in rw (← s) n) e

onwards_two : (at : ℕ) (r : Bool × ℕ) → onwards (at + 2) r ≡ onwards at (after_one (after_one r))
onwards_two at (x, n) = let e : at + 2 + n ≡ at + suc (suc n) = omega arith in ap (λ k. (x, k)) e

pub at_both : (at d : ℕ) (bs : List ℕ) → at + 1 < length bs → get_or bs at d ≡ 39 → get_or bs (at + 1) d ≡ 39 → onwards at (quoted_rest (drop at bs)) ≡ quoted_rest bs → onwards (at + 2) (quoted_rest (drop (at + 2) bs)) ≡ quoted_rest bs
at_both at d bs h f g e =
    let s : at + 1 + 1 ≡ at + 2 = omega arith in
    let two : drop at bs ≡ get_or bs at d ∷ get_or bs (at + 1) d ∷ drop (at + 2) bs = cons_at bs at d (omega arith) ∙ ap (λ x. get_or bs at d ∷ x) (cons_at bs (at + 1) d h ∙ ap (λ n. get_or bs (at + 1) d ∷ drop n bs) s) in
    onwards_two at (quoted_rest (drop (at + 2) bs)) ∙ ap (onwards at) (sym (pair_rest _ _ (drop (at + 2) bs) (eq-eqb _ 39 f) (eq-eqb _ 39 g)) ∙ ap quoted_rest (sym two)) ∙ e
