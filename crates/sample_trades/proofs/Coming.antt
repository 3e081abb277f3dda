-- The lines that are still to come of a sample.
use Rattle.std.proofs.Common.{◌≡◌, ◌≤◌, ◌+◌, ◌*◌, ◌%◌, ℕ, zero, suc, Bool, true, false, cond, List, [], ◌∷◌, ◌++◌, length, refl, sym, ◌∙◌, ap, arith}
use Rattle.std.specs.Prelude.{◌==◌}
use Rattle.std.proofs.lemmas.List.{length-append}
use Rattle.sample_trades.specs.Trades.{Draws, first_draws, trade_of, after_trade, punctuation_at, lines_from, sample}
use Rattle.sample_trades.specs.ToCome.{draws, to_come}
use Rattle.sample_trades.specs.declared.line.Trade.{Trade}
use Rattle.sample_trades.specs.declared.line.SampleLine.{SampleLine}
use Rattle.sample_trades.specs.declared.line.SampleLine.TheVariants.{Traded, Punctuated}
use Rattle.sample_trades.specs.declared.sampling.Sample.{Sample}

pub new_comes : (s : Sample) (number events : ℕ) → s.due ≡ false → s.left ≡ events → draws s ≡ first_draws number → to_come s ≡ sample number events
unfolding to_come sample
new_comes s number events due left same =
    ap (λ b. cond b (Punctuated s.time ∷ lines_from s.left (draws s)) (lines_from s.left (draws s))) due
    ∙ (ap (λ n. lines_from n (draws s)) left ∙ ap (lines_from events) same)

pub due_comes : (s t : Sample) → s.due ≡ true → t.due ≡ false → t.left ≡ s.left → draws t ≡ draws s → to_come s ≡ Punctuated s.time ∷ to_come t
unfolding to_come
due_comes s t due done left same =
    ap (λ b. cond b (Punctuated s.time ∷ lines_from s.left (draws s)) (lines_from s.left (draws s))) due
    ∙ ap (λ (x : List SampleLine). Punctuated s.time ∷ x)
    (ap (lines_from s.left) (sym same) ∙ (ap (λ n. lines_from n (draws t)) (sym left)
    ∙ ap (λ b. cond b (Punctuated t.time ∷ lines_from t.left (draws t)) (lines_from t.left (draws t))) (sym done)))

pub nothing_comes : (s : Sample) → s.due ≡ false → s.left ≡ 0 → to_come s ≡ []
unfolding to_come
nothing_comes s due left =
    ap (λ b. cond b (Punctuated s.time ∷ lines_from s.left (draws s)) (lines_from s.left (draws s))) due ∙ ap (λ n. lines_from n (draws s)) left

in_front : (b : Bool) (p : SampleLine) (ls : List SampleLine) → cond b (p ∷ []) [] ++ ls ≡ cond b (p ∷ ls) ls
in_front true p ls = refl
in_front false p ls = refl

pub trade_comes : (s t : Sample) (trade : Trade) → s.due ≡ false → trade ≡ trade_of (draws s) → draws t ≡ after_trade (draws s) → s.left ≡ t.left + 1 → t.due ≡ (t.trades % 100 == 0) →
    to_come s ≡ Traded trade ∷ to_come t
unfolding to_come
trade_comes s t trade due is after left now =
    let n : s.left ≡ suc t.left = omega arith in
    let rest : List SampleLine = lines_from t.left (draws t) in
    let more : List SampleLine = punctuation_at (after_trade (draws s)) ++ lines_from t.left (after_trade (draws s)) in
    let one : cond s.due (Punctuated s.time ∷ lines_from s.left (draws s)) (lines_from s.left (draws s)) ≡ lines_from (suc t.left) (draws s) =
    ap (λ b. cond b (Punctuated s.time ∷ lines_from s.left (draws s)) (lines_from s.left (draws s))) due ∙ ap (λ n. lines_from n (draws s)) n in
    let two : lines_from (suc t.left) (draws s) ≡ Traded trade ∷ more = ap (λ (x : Trade). Traded x ∷ more) (sym is) in
    let three : more ≡ punctuation_at (draws t) ++ rest = ap (λ (d : Draws). punctuation_at d ++ lines_from t.left d) (sym after) in
    let four : punctuation_at (draws t) ++ rest ≡ cond t.due (Punctuated t.time ∷ rest) rest =
    in_front (t.trades % 100 == 0) (Punctuated t.time) rest ∙ ap (λ b. cond b (Punctuated t.time ∷ rest) rest) (sym now) in
    one ∙ (two ∙ ap (λ (x : List SampleLine). Traded trade ∷ x) (three ∙ four))

one_at_most : (b : Bool) (p : SampleLine) → length (cond b (p ∷ []) []) ≤ 1
one_at_most true p = omega arith
one_at_most false p = omega arith

few_lines : (n : ℕ) (d : Draws) → length (lines_from n d) ≤ 2 * n
few_lines zero d = omega arith
few_lines (suc n) d =
    let e : Draws = after_trade d in
    omega (arith, few_lines n e, length-append (punctuation_at e) (lines_from n e), one_at_most (e.trades % 100 == 0) (Punctuated e.time))

pub few_come : (number events : ℕ) → length (sample number events) ≤ 2 * events
unfolding sample
few_come number events = few_lines events (first_draws number)
