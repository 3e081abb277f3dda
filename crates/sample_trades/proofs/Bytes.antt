-- One byte more of a text.
use Rattle.std.proofs.Common.{◌≡◌, ◌≢◌, ◌≤◌, ◌<◌, ◌+◌, Bool, ℕ, List, [], ◌∷◌, ◌++◌, length, take, cond, sym, ◌∙◌, ap, arith, append_assoc, append-nil}
use Rattle.std.specs.Prelude.{nat_eq, nat_le, true}
use Rattle.std.proofs.lemmas.Bool.Decides.{nat_tests}
use Rattle.std.specs.List.{starts_with}
use Rattle.std.specs.Cmp.Lexicographic.{pointwise}
use Rattle.std.proofs.lemmas.List.{take-take, take-append-le, take_all, length-take, length-append}
use Rattle.std.proofs.lemmas.List.Elements.{All-append}
use Rattle.std.proofs.lemmas.List.Sums.{sum_by-append}
use Rattle.wire_lines.specs.Lines.{cut, whole, rest, joined, HasNoLf}
use Rattle.wire_lines.proofs.Cutting.{cut_go_on, cut_line, cut_free, cut_is_free, joined-whole, IsOneLine-free}
use Rattle.sample_trades.specs.Summary.{begin_with}
use Rattle.sample_trades.proofs.Free.{one_free}

abbrev Parts : Type 0
Parts = List (List ℕ) × List ℕ

-- the bytes after the last line feed go on
goes_on : (xs more : List ℕ) → cut (xs ++ more) ≡ (let p : Parts = (whole xs ++ (cut (rest xs ++ more)).0, (cut (rest xs ++ more)).1) in p)
goes_on xs more =
    let free = cut_is_free xs in
    cut_go_on (xs ++ more) (rest xs ++ more) (whole xs) (ap (λ t. t ++ more) (sym (joined-whole xs)) ∙ append_assoc (joined (whole xs)) (rest xs) more)
    (λ k d h. IsOneLine-free _ (free.0 k d h))

-- a line feed ends a line
line_ends : (xs : List ℕ) → cut (xs ++ 10 ∷ []) ≡ (let p : Parts = (whole xs ++ rest xs ∷ [], []) in p)
line_ends xs =
    goes_on xs (10 ∷ [])
    ∙ ap (λ (c : Parts). let p : Parts = (whole xs ++ c.0, c.1) in p) (cut_line (rest xs) [] (IsOneLine-free (rest xs) (cut_is_free xs).1))

-- another byte does not
line_goes_on : (xs : List ℕ) (b : ℕ) → b ≢ 10 → cut (xs ++ b ∷ []) ≡ (let p : Parts = (whole xs, rest xs ++ b ∷ []) in p)
line_goes_on xs b other =
    let free : HasNoLf (rest xs ++ b ∷ []) = All-append (λ b. b ≢ 10) (rest xs) (b ∷ []) (cut_is_free xs).1 (one_free b other) in
    goes_on xs (b ∷ [])
    ∙ ap (λ (c : Parts). let p : Parts = (whole xs ++ c.0, c.1) in p) (cut_free (rest xs ++ b ∷ []) (IsOneLine-free (rest xs ++ b ∷ []) free))
    ∙ ap (λ (ls : List (List ℕ)). let p : Parts = (ls, rest xs ++ b ∷ []) in p) (append-nil (whole xs))

pub whole_ends : (xs : List ℕ) → whole (xs ++ 10 ∷ []) ≡ whole xs ++ rest xs ∷ []
whole_ends xs = ap (λ (p : Parts). p.0) (line_ends xs)

pub rest_ends : (xs : List ℕ) → rest (xs ++ 10 ∷ []) ≡ []
rest_ends xs = ap (λ (p : Parts). p.1) (line_ends xs)

pub whole_goes_on : (xs : List ℕ) (b : ℕ) → b ≢ 10 → whole (xs ++ b ∷ []) ≡ whole xs
whole_goes_on xs b other = ap (λ (p : Parts). p.0) (line_goes_on xs b other)

pub rest_goes_on : (xs : List ℕ) (b : ℕ) → b ≢ 10 → rest (xs ++ b ∷ []) ≡ rest xs ++ b ∷ []
rest_goes_on xs b other = ap (λ (p : Parts). p.1) (line_goes_on xs b other)

abbrev one_if : Bool → ℕ
one_if b = cond b 1 0

-- the count of lines with this front, by the first bytes of the line that ends
pub one_line_more : (front first xs : List ℕ) (count n : ℕ) → nat_le (length front) 10 ≡ true → first ≡ take 10 (rest xs) → count ≡ begin_with front (whole xs) →
    n ≡ count + cond (starts_with nat_eq first front) 1 0 → n ≡ begin_with front (whole (xs ++ 10 ∷ []))
one_line_more front first xs count n within is before now =
    let few : length front ≤ 10 = grind (arith, nat_tests) in
    let same : starts_with nat_eq first front ≡ starts_with nat_eq (rest xs) front =
    ap (λ (t : List ℕ). pointwise nat_eq front (take (length front) t)) is ∙ ap (pointwise nat_eq front) (take-take (length front) 10 (rest xs) few) in
    let after : begin_with front (whole (xs ++ 10 ∷ [])) ≡ begin_with front (whole xs) + (0 + cond (starts_with nat_eq (rest xs) front) 1 0) =
    ap (begin_with front) (whole_ends xs) ∙ sum_by-append (λ line. cond (starts_with nat_eq line front) 1 0) (whole xs) (rest xs ∷ []) in
    let e : one_if (starts_with nat_eq first front) ≡ one_if (starts_with nat_eq (rest xs) front) = ap one_if same in
    omega (arith, after, e, before, now)

-- the first bytes of what follows the last line feed, with one byte more
pub first_more : (first xs : List ℕ) (b : ℕ) → first ≡ take 10 xs → length first < 10 → first ++ b ∷ [] ≡ take 10 (xs ++ b ∷ [])
first_more first xs b is low =
    let short : length xs < 10 = omega (arith, ap length is, length-take 10 xs, low) in
    let fits : length (xs ++ b ∷ []) ≤ 10 = omega (arith, length-append xs (b ∷ []), short) in
    ap (λ t. t ++ b ∷ []) (is ∙ take_all 10 xs (omega arith)) ∙ sym (take_all 10 (xs ++ b ∷ []) fits)

pub first_full : (first xs : List ℕ) (b : ℕ) → first ≡ take 10 xs → 10 ≤ length first → first ≡ take 10 (xs ++ b ∷ [])
first_full first xs b is full = is ∙ sym (take-append-le 10 xs (b ∷ []) (omega (arith, ap length is, length-take 10 xs, full)))
