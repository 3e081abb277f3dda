-- The bytes of a buffer between two places: the rest of a cutter.
use Rattle.std.proofs.Common.{◌≡◌, ◌≤◌, ◌<◌, ℕ, ◌+◌, ◌-◌, List, [], ◌∷◌, ◌++◌, length, take, drop, false, sym, ◌∙◌, ap, arith, slice_range}
use Rattle.std.proofs.lemmas.List.{append-nil, length-take, length-drop, drop-take, drop-drop, take-take, take-append-drop}
use Rattle.wire_lines.specs.Cutter.{CutterState, Given}
use Rattle.wire_lines.specs.Cuts.{Cuts}
use Rattle.wire_lines.specs.Next.{next_of, next, after_found, after_next}
use Rattle.wire_lines.specs.Reading.{fed}
use Rattle.wire_lines.specs.declared.cutter.Found.TheVariants.{Line}
use Rattle.wire_lines.specs.Found.{found}
use Rattle.wire_lines.proofs.CutsFacts.{Cuts-fed}

-- behind a line and its LF
pub rest_after : (xs : List ℕ) (from to n : ℕ) → n < to - from → slice_range xs (from + n + 1) to ≡ drop (n + 1) (slice_range xs from to)
rest_after xs from to n low =
    let m = to - (from + n + 1) in
    let count : to - from ≡ n + 1 + m = omega arith in
    let place : from + n + 1 ≡ from + (n + 1) = omega arith in
    sym (ap (λ k. drop (n + 1) (take k (drop from xs))) count ∙ drop-take (n + 1) m (drop from xs) ∙ ap (take m) (drop-drop (n + 1) from xs) ∙ ap (λ k. take m (drop k xs)) (sym place))

-- the line itself
pub line_at : (xs : List ℕ) (from to n : ℕ) → n < to - from → take (from + n - from) (drop from xs) ≡ take n (slice_range xs from to)
line_at xs from to n low =
    let count : from + n - from ≡ n = omega arith in
    ap (λ k. take k (drop from xs)) count ∙ sym (take-take n (to - from) (drop from xs) (omega arith))

-- a line is given
pub given_next : (s : CutterState) (line : List ℕ) (n : ℕ) → Line n ≡ found s.longest (s.total - s.passed) s.rest → line ≡ take n s.rest → Given (s.number + 1) line ≡ next s
given_next s line n f e = ap (λ (l : List ℕ). Given (s.number + 1) l) e ∙ ap (next_of s) f

pub given_after : (s : CutterState) (rest : List ℕ) (n : ℕ) → Line n ≡ found s.longest (s.total - s.passed) s.rest → rest ≡ drop (n + 1) s.rest →
    record s { passed = s.passed + (n + 1); number = s.number + 1; rest = rest; wants_bytes = false } ≡ after_next s
given_after s rest n f e = ap (λ (r : List ℕ). record s { passed = s.passed + (n + 1); number = s.number + 1; rest = r; wants_bytes = false }) e ∙ ap (after_found s) f

-- a piece that came in
pub piece_length : (xs : List ℕ) (at n : ℕ) → at + n ≤ length xs → length (slice_range xs at (at + n)) ≡ n
piece_length xs at n room = omega (arith, length-take (at + n - at) (drop at xs), length-drop at xs)

pub joined_rest : (xs : List ℕ) (at n : ℕ) → slice_range xs 0 (at + n) ≡ take at xs ++ slice_range xs at (at + n)
joined_rest xs at n =
    let count : at + n - at ≡ n = omega arith in
    let all : at + n - 0 ≡ at + n = omega arith in
    ap (λ k. take k xs) all ∙ sym (take-append-drop at (take (at + n) xs))
    ∙ ap (λ (l : List ℕ). l ++ drop at (take (at + n) xs)) (take-take at (at + n) xs (omega arith))
    ∙ ap (λ (l : List ℕ). take at xs ++ l) (drop-take at n xs ∙ ap (λ k. take k (drop at xs)) (sym count))

pub fed_some : (s : CutterState) (rest piece : List ℕ) → 0 < length piece → rest ≡ s.rest ++ piece → record s { rest = rest; wants_bytes = false } ≡ fed s piece
fed_some s rest [] some e = absurd (omega arith)
fed_some s rest (b ∷ bs) some e = ap (λ (r : List ℕ). record s { rest = r; wants_bytes = false }) e

pub Cuts-came : (bytes piece : List ℕ) (s : CutterState) (given : List (List ℕ)) → Cuts bytes s given → Cuts (bytes ++ piece) (fed s piece) given
Cuts-came bytes [] s given c = rw (append-nil bytes) c
Cuts-came bytes (b ∷ bs) s given c = Cuts-fed bytes (b ∷ bs) s given c
