-- Lines that a cutter gives together.
use Rattle.std.proofs.Common.{inl, inr, ◌≡◌, ◌≤◌, ◌<◌, ◌==◌, ◌+◌, ◌-◌, min, ℕ, zero, suc, List, [], ◌∷◌, ◌++◌, length, take, drop, Bool, true, false, refl, sym, ◌∙◌, ap, subst, arith, append_assoc}
use Rattle.std.proofs.lemmas.Bool.{cases_lt, eqb-true}
use Rattle.std.proofs.lemmas.Bool.Decides.{nat_tests, eqb_tells}
use Rattle.std.proofs.lemmas.List.{append-nil, length-append, length-take, length-drop, take-append-drop, take-take, drop-take, drop-drop, get_or-drop}
use Rattle.std.proofs.lemmas.List.Elements.{All-nil, All-cons}
use Rattle.std.proofs.lemmas.List.Splits.{length-slice_split}
use Rattle.std.proofs.lemmas.List.Sums.{sum_by-append}
use Rattle.std.proofs.Math.Seq.{drop-cons}
use Rattle.std.specs.List.{All, count_by, slice_split, onto_first}
use Rattle.std.specs.Prelude.{nat_lt, Option, None, Some, IfSome, IfNone, ◌↔◌}
use Rattle.memchr.specs.Find.{IsLastByte, Nowhere, Passes, is_byte}
use Rattle.wire_lines.specs.Lines.{line_len, IsOneLine, cut, whole, lines, joined}
use Rattle.wire_lines.specs.Lines as Lines
use Rattle.wire_lines.specs.Cutter.{CutterState, Given}
use Rattle.wire_lines.specs.Cuts.{Cuts}
use Rattle.wire_lines.specs.Found.{found}
use Rattle.wire_lines.specs.Next.{next, after_next}
use Rattle.wire_lines.specs.Block.{block_lines, after_answers, after_block, GivesLines}
use Rattle.wire_lines.specs.declared.cutter.Found.TheVariants.{Line}
use Rattle.wire_lines.proofs.LineLength.{line_len-le, line_len-all}
use Rattle.wire_lines.proofs.Cutting.{cut_free, cut_first, joined-whole, lines_go_on}
use Rattle.wire_lines.proofs.NextFacts.{given}
use Rattle.wire_lines.proofs.CutsFacts.{tells_line}
use Rattle.wire_lines.proofs.Limits.{after_next-longest, after_next-total}
use Rattle.wire_lines.proofs.Window.{given_next, given_after}

-- the first LF of a front stands where that of all bytes does
line_len-take : (n : ℕ) (xs : List ℕ) → line_len (take n xs) ≡ min n (line_len xs)
line_len-take zero xs = omega arith
line_len-take (suc n) [] = omega arith
line_len-take (suc n) (b ∷ bs) = elim (eqb_tells b 10) [
  | inl t ↦ rw t.0 (omega arith)
  | inr t ↦ rw t.0 (omega (arith, line_len-take n bs))
]

-- where there is a line, an LF ends the first
first_ends : (xs line : List ℕ) (more : List (List ℕ)) → whole xs ≡ line ∷ more → line_len xs < length xs
first_ends xs line more e = elim (cases_lt (line_len xs) (length xs)) [
  | inl within ↦ within
  | inr all ↦ (
      let none : whole xs ≡ [] = ap (λ (p : List (List ℕ) × List ℕ). p.0) (cut_free xs (omega (arith, line_len-le xs))) in
      absurd (cc))
]

-- of the lines that end in a front: the first, and the others
record FirstIn (xs : List ℕ) (w : ℕ) (line : List ℕ) (more : List (List ℕ)) : Type 0 where
  low : line_len xs < w
  within : line_len xs < length xs
  line_is : line ≡ take (line_len xs) xs
  more_is : whole (take (w - (line_len xs + 1)) (drop (line_len xs + 1) xs)) ≡ more

first_in : (xs : List ℕ) (w : ℕ) (line : List ℕ) (more : List (List ℕ)) → whole (take w xs) ≡ line ∷ more → FirstIn xs w line more
first_in xs w line more e =
    let n = line_len xs in
    let front : List ℕ = take w xs in
    let inside : line_len front < length front = first_ends front line more e in
    let low : n < w = omega (arith, line_len-take w xs, length-take w xs) in
    let same : line_len front ≡ n = omega (arith, line_len-take w xs) in
    let both : line ∷ more ≡ take (line_len front) front ∷ whole (drop (suc (line_len front)) front) =
    sym e ∙ ap (λ (p : List (List ℕ) × List ℕ). p.0) (cut_first front inside) in
    let the_line : line ≡ take (line_len front) front = cc in
    let the_more : more ≡ whole (drop (suc (line_len front)) front) = cc in
    let place : suc (line_len front) ≡ n + 1 = omega arith in
    let count : w ≡ n + 1 + (w - (n + 1)) = omega arith in
    record {
      low = low;
      within = omega (arith, line_len-take w xs, length-take w xs);
      line_is = the_line ∙ ap (λ k. take k front) same ∙ take-take n w xs (omega arith);
      more_is = sym (the_more ∙ ap (λ k. whole (drop k front)) place ∙ ap (λ k. whole (drop (n + 1) (take k xs))) count ∙ ap whole (drop-take (n + 1) (w - (n + 1)) xs));
    }

-- a line that is not too long stands next
found_line : (longest room : ℕ) (xs : List ℕ) → line_len xs ≤ longest → line_len xs < room → line_len xs < length xs → found longest room xs ≡ Line (line_len xs)
found_line longest room xs short low within =
    let not_long : nat_lt longest (min room (line_len xs)) ≡ false = grind (arith, nat_tests) in
    let ends : nat_lt (line_len xs) (min room (length xs)) ≡ true = grind (arith, nat_tests) in
    rw (not_long, ends) refl

-- so many lines of so many bytes have left the rest
abbrev behind : CutterState → ℕ → ℕ → CutterState
behind s bytes count = record s { passed = s.passed + bytes; number = s.number + count; rest = drop bytes s.rest; wants_bytes = false }

behind-same : (s : CutterState) (bytes bytes' count count' : ℕ) → bytes ≡ bytes' → count ≡ count' → behind s bytes count ≡ behind s bytes' count'
behind-same s bytes bytes' count count' e f = rw (e, f) refl

behind-behind : (s : CutterState) (a k b j : ℕ) → behind (behind s a k) b j ≡ behind s (a + b) (k + j)
behind-behind s a k b j =
    let passed : s.passed + a + b ≡ s.passed + (a + b) = omega arith in
    let number : s.number + k + j ≡ s.number + (k + j) = omega arith in
    rw (passed, number, drop-drop b a s.rest) refl

-- these lines have left the rest; without a line all is as it was
abbrev after_lines : CutterState → List (List ℕ) → CutterState
after_lines s [] = s
after_lines s (line ∷ more) = behind s (length (joined (line ∷ more))) (length (line ∷ more))

joined_length : (line : List ℕ) (more : List (List ℕ)) → length (joined (line ∷ more)) ≡ length line + 1 + length (joined more)
joined_length line more = omega (arith, length-append (line ++ 10 ∷ []) (joined more), length-append line (10 ∷ []))

after_first : (s : CutterState) (line : List ℕ) (more : List (List ℕ)) (n : ℕ) → length line ≡ n → after_lines (behind s (n + 1) 1) more ≡ after_lines s (line ∷ more)
after_first s line [] n e = behind-same s _ _ _ _ (omega (arith, joined_length line [])) refl
after_first s line (l ∷ more) n e =
    behind-behind s (n + 1) 1 (length (joined (l ∷ more))) (length (l ∷ more))
    ∙ behind-same s _ _ _ _ (omega (arith, joined_length line (l ∷ more))) (omega arith)

-- what follows where these lines end among the next bytes
record Runs (s : CutterState) (given : List (List ℕ)) : Type 0 where
  gives : GivesLines s given
  after : after_answers (length given) s ≡ after_lines s given

runs : (s : CutterState) (w : ℕ) (given : List (List ℕ)) → w ≤ s.longest + 1 → w ≤ s.total - s.passed → whole (take w s.rest) ≡ given → Runs s given
runs s w [] wide room e = record { gives = tt; after = refl }
runs s w (line ∷ more) wide room e =
    let f = first_in s.rest w line more e in
    let n = line_len s.rest in
    let here : Line n ≡ found s.longest (s.total - s.passed) s.rest = sym (found_line s.longest (s.total - s.passed) s.rest (omega (arith, f.low)) (omega (arith, f.low)) f.within) in
    let after_is : after_next s ≡ behind s (n + 1) 1 = sym (given_after s (drop (n + 1) s.rest) n here refl) in
    let r = runs (behind s (n + 1) 1) (w - (n + 1)) more (omega arith) (omega arith) f.more_is in
    let long : length line ≡ n = omega (arith, ap length f.line_is, length-take n s.rest, f.within) in
    record {
      gives = (sym (given_next s line n here f.line_is), subst (λ t. GivesLines t more) (sym after_is) r.gives);
      after = ap (after_answers (length more)) after_is ∙ r.after ∙ after_first s line more n long;
    }

-- so it is with a block
block_runs : (s : CutterState) → Runs s (block_lines s)
block_runs s = runs s (min (s.longest + 1) (s.total - s.passed)) (block_lines s) (omega arith) (omega arith) refl

pub block_given : (s : CutterState) → GivesLines s (block_lines s)
block_given s = (block_runs s).gives

-- where a block has no line, none is given
pub block_none : (s : CutterState) (number : ℕ) (line : List ℕ) → block_lines s ≡ [] → next s ≡ Given number line → ⊥
block_none s number line none e =
    let g = given s number line (sym e) in
    let w = min (s.longest + 1) (s.total - s.passed) in
    let front : List ℕ = take w s.rest in
    let inside : line_len front < length front = omega (arith, line_len-take w s.rest, length-take w s.rest, g.not_long, g.within, g.room) in
    let some = ap (λ (p : List (List ℕ) × List ℕ). p.0) (cut_first front inside) in
    absurd (cc)

-- no line has more bytes than all of them
lines_short : (given : List (List ℕ)) (most : ℕ) → length (joined given) ≤ most + 1 → All (λ l. length l ≤ most) given
lines_short [] most few = All-nil (λ l. length l ≤ most)
lines_short (line ∷ more) most few =
    All-cons (λ l. length l ≤ most) line more (omega (arith, joined_length line more)) (lines_short more most (omega (arith, joined_length line more)))

-- the bytes of a block
joined_within : (s : CutterState) → length (joined (block_lines s)) ≤ min (min (s.longest + 1) (s.total - s.passed)) (length s.rest)
joined_within s =
    let front : List ℕ = take (min (s.longest + 1) (s.total - s.passed)) s.rest in
    omega (arith, ap length (joined-whole front), length-append (joined (block_lines s)) (Lines.rest front), length-take (min (s.longest + 1) (s.total - s.passed)) s.rest)

-- no line of a block is too long
pub block_short : (s : CutterState) → All (λ l. length l ≤ s.longest) (block_lines s)
block_short s = lines_short (block_lines s) s.longest (omega (arith, joined_within s))

lines_cut : (bytes : List ℕ) (s : CutterState) (given more : List (List ℕ)) → GivesLines s more → Cuts bytes s given → Cuts bytes (after_answers (length more) s) (given ++ more)
lines_cut bytes s given [] g c = rw (append-nil given) c
lines_cut bytes s given (line ∷ more) g c =
    let t = tells_line bytes s given (s.number + 1) line (sym g.0) c in
    subst (λ ls. Cuts bytes (after_answers (length more) (after_next s)) ls) (append_assoc given (line ∷ []) more) (lines_cut bytes (after_next s) (given ++ line ∷ []) more g.1 t.after)

-- the lines of a block are the next ones of the bytes
pub block_cuts : (bytes : List ℕ) (s : CutterState) (given : List (List ℕ)) → Cuts bytes s given → Cuts bytes (after_block s) (given ++ block_lines s)
block_cuts bytes s given c = lines_cut bytes s given (block_lines s) (block_given s) c

pub block_among : (bytes : List ℕ) (s : CutterState) (given : List (List ℕ)) (at_end : Bool) → Cuts bytes s given → (others : List (List ℕ)) × (lines bytes at_end ≡ given ++ block_lines s ++ others)
block_among bytes s given at_end c =
    let d = block_cuts bytes s given c in
    (lines (after_block s).rest at_end, lines_go_on bytes (after_block s).rest (given ++ block_lines s) at_end d.all d.each)

-- the limits of a cutter stay
after_answers-longest : (n : ℕ) (s : CutterState) → (after_answers n s).longest ≡ s.longest
after_answers-longest zero s = refl
after_answers-longest (suc n) s = after_answers-longest n (after_next s) ∙ after_next-longest s

after_answers-total : (n : ℕ) (s : CutterState) → (after_answers n s).total ≡ s.total
after_answers-total zero s = refl
after_answers-total (suc n) s = after_answers-total n (after_next s) ∙ after_next-total s

pub after_block-longest : (s : CutterState) → (after_block s).longest ≡ s.longest
after_block-longest s = after_answers-longest (length (block_lines s)) s

pub after_block-total : (s : CutterState) → (after_block s).total ≡ s.total
after_block-total s = after_answers-total (length (block_lines s)) s

-- the lines between which LFs stand, where an LF ends the last one
onto_same : (b : ℕ) (given : List (List ℕ)) (after : List ℕ) → 0 < length given → Lines.onto_first b (given, after) ≡ (onto_first b given, after)
onto_same b [] after some = absurd (omega arith)
onto_same b (line ∷ given) after some = refl

cut_last : (xs after : List ℕ) → IsOneLine after → cut (xs ++ 10 ∷ after) ≡ (slice_split (λ b. b == 10) xs, after)
cut_last [] after free = rw (cut_free after free) refl
cut_last (b ∷ bs) after free = elim (eqb_tells b 10) [
  | inl t ↦ rw (t.0, cut_last bs after free) refl
  | inr t ↦ rw (t.0, cut_last bs after free) (onto_same b (slice_split (λ x. x == 10) bs) after (omega (arith, length-slice_split (λ x. x == 10) bs)))
]

at_last : (xs : List ℕ) (k : ℕ) → k < length xs → Passes (is_byte 10) xs k → xs ≡ take k xs ++ 10 ∷ drop (suc k) xs
at_last xs k h at = sym (take-append-drop k xs) ∙ ap (λ (l : List ℕ). take k xs ++ l) (drop-cons xs k 0 h ∙ ap (λ (b : ℕ). b ∷ drop (suc k) xs) (eqb-true _ _ at))

-- the last LF is found
pub whole-found : (xs : List ℕ) (k : ℕ) → k < length xs → Passes (is_byte 10) xs k → Nowhere (Passes (is_byte 10) xs) (k + 1) (length xs) → slice_split (λ b. b == 10) (take k xs) ≡ whole xs
whole-found xs k h at after =
    let free : IsOneLine (drop (suc k) xs) = line_len-all (drop (suc k) xs) (λ i low high there.
    after (suc k + i) (omega arith) (omega (arith, length-drop (suc k) xs)) (subst (λ b. (b == 10) ≡ true) (get_or-drop (suc k) xs i 0) there)) in
    sym (ap whole (at_last xs k h at) ∙ ap (λ (p : List (List ℕ) × List ℕ). p.0) (cut_last (take k xs) (drop (suc k) xs) free))

-- there is none
pub whole-none : (xs : List ℕ) → Nowhere (Passes (is_byte 10) xs) 0 (length xs) → whole xs ≡ []
whole-none xs none = ap (λ (p : List (List ℕ) × List ℕ). p.0) (cut_free xs (line_len-all xs none))

-- the search for the last LF among the next bytes
pub feeds_some : (xs front : List ℕ) (w : ℕ) (r : Option ℕ) → front ≡ take w xs → IsLastByte (is_byte 10) front r → IfSome r (λ n. slice_split (λ b. b == 10) (take n xs) ≡ whole (take w xs))
feeds_some xs front w None e last = tt
feeds_some xs front w (Some n) e last =
    ap (slice_split (λ b. b == 10)) (sym (ap (take n) e ∙ take-take n w xs (omega (arith, last.0.high, ap length e, length-take w xs))))
    ∙ whole-found front n last.0.high last.1 last.0.after ∙ ap whole e

pub feeds_none : (xs front : List ℕ) (w : ℕ) (r : Option ℕ) → front ≡ take w xs → IsLastByte (is_byte 10) front r → IfNone r (whole (take w xs) ≡ [])
feeds_none xs front w None e last = ap whole (sym e) ∙ whole-none front last
feeds_none xs front w (Some n) e last = tt

-- so many bytes they have with the LF that ends the last
split_length : (xs : List ℕ) → length (joined (slice_split (λ b. b == 10) xs)) ≡ length xs + 1
split_length xs =
    let e : joined (slice_split (λ b. b == 10) xs) ++ [] ≡ xs ++ 10 ∷ [] = subst (λ (p : List (List ℕ) × List ℕ). joined p.0 ++ p.1 ≡ xs ++ 10 ∷ []) (cut_last xs [] refl) (joined-whole (xs ++ 10 ∷ [])) in
    omega (arith, ap length e, length-append (joined (slice_split (λ b. b == 10) xs)) [], length-append xs (10 ∷ []))

after_some : (s : CutterState) (given : List (List ℕ)) → 0 < length given → after_lines s given ≡ behind s (length (joined given)) (length given)
after_some s [] some = absurd (omega arith)
after_some s (line ∷ more) some = refl

-- the cutter once lines have left the rest, which have so many bytes before the LF of the last one
pub after_block-some : (s : CutterState) (n : ℕ) → n ≤ length s.rest → slice_split (λ b. b == 10) (take n s.rest) ≡ block_lines s →
    after_block s ≡ behind s (n + 1) (count_by (λ b. b == 10) (take n s.rest) + 1)
after_block-some s n within e =
    let count = length-slice_split (λ b. b == 10) (take n s.rest) in
    (block_runs s).after
    ∙ after_some s (block_lines s) (omega (arith, count, ap length e))
    ∙ behind-same s _ _ _ _ (omega (arith, ap (λ ls. length (joined ls)) e, split_length (take n s.rest), length-take n s.rest)) (sym (ap length e) ∙ count)

-- the same of a cutter that is told field by field
pub block_after : (s : CutterState) (after : List ℕ) (n number : ℕ) → n ≤ length s.rest → slice_split (λ b. b == 10) (take n s.rest) ≡ block_lines s →
    number ≡ s.number + 1 + count_by (λ b. b == 10) (take n s.rest) → after ≡ drop (n + 1) s.rest →
    record s { passed = s.passed + (n + 1); number = number; rest = after; wants_bytes = false } ≡ after_block s
block_after s after n number within e count left =
    let total : number ≡ s.number + (count_by (λ b. b == 10) (take n s.rest) + 1) = omega arith in
    rw (total, left) (sym (after_block-some s n within e))

-- lines between which LFs stand are some
pub some_line : (xs : List ℕ) (given : List (List ℕ)) → slice_split (λ b. b == 10) xs ≡ given → (true ≡ false) ↔ (given ≡ [])
some_line xs [] e = absurd (omega (arith, ap length e, length-slice_split (λ b. b == 10) xs))
some_line xs (line ∷ more) e = (λ none. cc, λ no_line. cc)

joined_some : (given : List (List ℕ)) → 0 < length given → 0 < length (joined given)
joined_some [] some = absurd (omega arith)
joined_some (line ∷ more) some = omega (arith, joined_length line more)

-- lines leave fewer bytes
pub after_block-less : (s : CutterState) → 0 < length (block_lines s) → length (after_block s).rest < length s.rest
after_block-less s some =
    let n = length (joined (block_lines s)) in
    let after : after_block s ≡ behind s n (length (block_lines s)) = (block_runs s).after ∙ after_some s (block_lines s) some in
    omega (arith, ap (λ (t : CutterState). length t.rest) after, length-drop n s.rest, joined_some (block_lines s) some, joined_within s)

-- bytes that are counted in two parts
pub count_parts : (n : ℕ) (xs : List ℕ) → count_by (λ b. b == 10) (take n xs) + count_by (λ b. b == 10) (drop n xs) ≡ count_by (λ b. b == 10) xs
count_parts n xs = sym (sum_by-append _ (take n xs) (drop n xs)) ∙ ap (count_by (λ b. b == 10)) (take-append-drop n xs)
