-- The whole lines of bytes, and of more bytes.
use Rattle.std.proofs.Common.{◌≡◌, ◌<◌, ◌+◌, ◌-◌, ◌++◌, ℕ, suc, List, [], ◌∷◌, length, take, drop, sym, ◌∙◌, ap, arith, append_assoc}
use Rattle.std.specs.List.{All}
use Rattle.std.proofs.lemmas.List.{length-drop, take_all}
use Rattle.wire_lines.specs.Lines.{line_len, IsOneLine, whole, rest, joined}
use Rattle.wire_lines.specs.Cutter.{CutterState}
use Rattle.wire_lines.proofs.Cutting.{cut_go_on, cut_first, cut_free, cut_is_free, joined-whole, IsOneLine-free}
use Rattle.tempo_cli.specs.Answers.{Answers}
use Rattle.tempo_cli.specs.Feeding.{Within}
use Rattle.tempo_cli.specs.Restoring.{AreFront}

-- behind lines each with its LF
pub whole_on : (bytes more : List ℕ) (given : List (List ℕ)) → bytes ≡ joined given ++ more → All IsOneLine given → whole bytes ≡ given ++ whole more
whole_on bytes more given all each = ap (λ (p : List (List ℕ) × List ℕ). p.0) (cut_go_on bytes more given all each)

-- those that were taken come first
pub taken_front : {a : Answers} {bytes : List ℕ} {given : List (List ℕ)} {c : CutterState} → Within a bytes given c → AreFront given (whole bytes)
taken_front {a} {bytes} {given} {c} w = (whole c.rest, whole_on bytes c.rest given w.cuts.all w.cuts.each)

-- the first line
pub whole_first : (bytes : List ℕ) → line_len bytes < length bytes → whole bytes ≡ take (line_len bytes) bytes ∷ whole (drop (suc (line_len bytes)) bytes)
whole_first bytes within = ap (λ (p : List (List ℕ) × List ℕ). p.0) (cut_first bytes within)

pub whole_none : (bytes : List ℕ) → line_len bytes ≡ length bytes → whole bytes ≡ []
whole_none bytes free = ap (λ (p : List (List ℕ) × List ℕ). p.0) (cut_free bytes free)

-- more bytes have more lines behind them
pub whole_front : (bytes more : List ℕ) → AreFront (whole bytes) (whole (bytes ++ more))
whole_front bytes more =
    let free = (cut_is_free bytes).0 in
    let all : bytes ++ more ≡ joined (whole bytes) ++ (rest bytes ++ more) = ap (λ x. x ++ more) (sym (joined-whole bytes)) ∙ append_assoc (joined (whole bytes)) (rest bytes) more in
    (whole (rest bytes ++ more), whole_on (bytes ++ more) (rest bytes ++ more) (whole bytes) all (λ k d low. IsOneLine-free _ (free k d low)))

-- the bytes before the first LF, and those behind it
pub first_at : (bytes : List ℕ) (at : ℕ) → at < length bytes → line_len bytes ≡ at →
    (whole bytes ≡ take at bytes ∷ whole (take (length bytes - (at + 1)) (drop (at + 1) bytes))) × (length (take (length bytes - (at + 1)) (drop (at + 1) bytes)) < length bytes)
first_at bytes at low is =
    let next : at + 1 ≡ suc at = omega arith in
    let tail : take (length bytes - (at + 1)) (drop (at + 1) bytes) ≡ drop (suc at) bytes =
    ap (λ n. take (length bytes - n) (drop n bytes)) next ∙ take_all (length bytes - suc at) (drop (suc at) bytes) (omega (arith, length-drop (suc at) bytes)) in (
      whole_first bytes (omega (arith, is, low)) ∙ (ap (λ n. take n bytes ∷ whole (drop (suc n) bytes)) is ∙ ap (λ x. take at bytes ∷ whole x) (sym tail)),
      omega (arith, ap length tail, length-drop (suc at) bytes, low),
    )
