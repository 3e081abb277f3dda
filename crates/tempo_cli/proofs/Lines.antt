-- The lines of bytes, and of the first of them.
use Rattle.std.proofs.Common.{◌≡◌, ◌≤◌, ◌<◌, ◌-◌, ◌+◌, ℕ, zero, suc, List, [], ◌∷◌, ◌++◌, length, take, min, Bool, true, false, cond, ◌∙◌, ap, arith, inl, inr}
use Rattle.std.specs.Prelude.{◌||◌, ◌&&◌, nat_lt}
use Rattle.std.specs.List.{All}
use Rattle.std.proofs.lemmas.List.{length-take}
use Rattle.std.proofs.lemmas.List.Elements.{All-append, All-nil}
use Rattle.std.proofs.lemmas.Bool.Decides.{eqb_tells}
use Rattle.std.proofs.Math.Seq.{take-append-add}
use Rattle.wire_lines.specs.Lines.{line_len, IsOneLine, HasNoLf, whole, rest, lines, last_of, joined}
use Rattle.wire_lines.proofs.Cutting.{cut_is_free, lines_go_on, lines_long}
use Rattle.wire_lines.proofs.LineLength.{line_len-le}
use Rattle.tempo_cli.specs.Table.{limit}

last_is_free : (b : Bool) (xs : List ℕ) → HasNoLf xs → All HasNoLf (cond b (xs ∷ []) [])
last_is_free true xs h = one
  where
    one : All HasNoLf (xs ∷ [])
    one zero d low = h
    one (suc k) d low = absurd (omega arith)
last_is_free false xs h = All-nil HasNoLf

-- no line holds an LF
pub lines_are_free : (bytes : List ℕ) (ended : Bool) → All HasNoLf (lines bytes ended)
unfolding lines
lines_are_free bytes ended =
    let free = cut_is_free bytes in
    All-append HasNoLf (whole bytes) (last_of (rest bytes) ended) free.0 (last_is_free (nat_lt 65536 (length (rest bytes)) || (ended && nat_lt 0 (length (rest bytes)))) (rest bytes) free.1)

-- the lines of the first 2^40 bytes, after lines that all of them hold
pub lines_within : (bytes more : List ℕ) (given : List (List ℕ)) (ended : Bool) → bytes ≡ joined given ++ more → All IsOneLine given → length (joined given) ≤ limit →
    lines (take limit bytes) ended ≡ given ++ lines (take (limit - length (joined given)) more) ended
lines_within bytes more given ended all each low =
    let split : limit ≡ length (joined given) + (limit - length (joined given)) = omega arith in
    let front : take limit bytes ≡ joined given ++ take (limit - length (joined given)) more =
    ap (take limit) all ∙ ap (λ n. take n (joined given ++ more)) split ∙ take-append-add (joined given) more (limit - length (joined given)) in
    lines_go_on (take limit bytes) (take (limit - length (joined given)) more) given ended front each

-- the first line of the first bytes is as long as the first line, as far as they go
line_len-take : (n : ℕ) (xs : List ℕ) → min n (line_len xs) ≤ line_len (take n xs)
line_len-take zero xs = omega arith
line_len-take (suc n) [] = omega arith
line_len-take (suc n) (b ∷ bs) = elim (eqb_tells b 10) [
  | inl t ↦ rw t.0 (omega arith)
  | inr t ↦ (let h = line_len-take n bs in rw t.0 (omega (arith, h)))
]

-- where the first line is too long, it is so among the first bytes as well
pub lines_long_within : (xs : List ℕ) (n : ℕ) (ended : Bool) → 65536 < n → 65536 < line_len xs →
    (line : List ℕ) × (others : List (List ℕ)) × (lines (take n xs) ended ≡ line ∷ others) × (65536 < length line)
lines_long_within xs n ended room long =
    let h = line_len-take n xs in
    let here : 65536 < line_len (take n xs) = omega (arith, h) in
    let f = lines_long (take n xs) ended here in
    (take (line_len (take n xs)) (take n xs), f.0, f.1, omega (arith, length-take (line_len (take n xs)) (take n xs), line_len-le (take n xs), here))
