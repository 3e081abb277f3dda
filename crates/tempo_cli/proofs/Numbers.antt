-- The numbers of lines.
use Rattle.std.proofs.Common.{◌≡◌, ◌≤◌, ◌+◌, ℕ, List, [], ◌∷◌, ◌++◌, length, arith}
use Rattle.std.proofs.lemmas.List.{length-append}
use Rattle.wire_lines.specs.Lines.{joined}
use Rattle.wire_lines.specs.Cutter.{CutterState}
use Rattle.tempo_cli.specs.Answers.{Answers}
use Rattle.tempo_cli.specs.Table.{limit}
use Rattle.tempo_cli.specs.Feeding.{Asked, Within, Holds, IsNext, IsNumbered}
use Rattle.tempo_cli.specs.declared.answering.Answering.{Answering}
use Rattle.tempo_cli.proofs.Journals.{limit-is}
use Rattle.tempo_cli.proofs.Moves.{given_low}

-- there are no more lines than bytes
lines_low : (ls : List (List ℕ)) → length ls ≤ length (joined ls)
lines_low [] = omega arith
lines_low (l ∷ ls) = omega (arith, lines_low ls, length-append (l ++ 10 ∷ []) (joined ls), length-append l (10 ∷ []))

pub given_few : {a : Answers} {bytes : List ℕ} {given : List (List ℕ)} {c : CutterState} → Within a bytes given c → length given ≤ limit
given_few {a} {bytes} {given} {c} w = omega (arith, given_low w, lines_low given)

-- the number of a line is that of the next one
pub line_number : {a : Answers} {bytes : List ℕ} {given : List (List ℕ)} {c : CutterState} → Within a bytes given c → (number : ℕ) → number ≡ c.number + 1 → number ≡ length given + 1
line_number {a} {bytes} {given} {c} w number is = omega (arith, is, w.cuts.number_is)

-- the engine's number of the next line
pub next_number : {q : Asked} {bytes : List ℕ} {given : List (List ℕ)} {s : Answering} → Holds q bytes given s → (line number : ℕ) → line ≡ length given + 1 → IsNumbered s.base s.skipped line number → IsNext q given number
next_number {q} {bytes} {given} {s} h line number is numbered =
    let few = given_few h.within in
    let n : number + s.skipped ≡ s.base + line = numbered (omega (arith, h.skipped, h.passed, is)) (omega (arith, h.low, few, limit-is, is)) in
    record { passed = h.passed; number_is = omega (arith, n, h.skipped, h.base, is) }
