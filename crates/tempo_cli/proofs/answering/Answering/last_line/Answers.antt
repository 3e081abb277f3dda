use Rattle.std.proofs.Common.{◌≡◌, ◌≤◌, ◌<◌, ◌∷◌, ◌++◌, [], ℕ, List, true, false, length, refl, sym, ◌∙◌, ap, arith, subst}
use Rattle.std.proofs.lemmas.List.{append-nil}
use Rattle.std.proofs.lemmas.Result.{err_from_is_err_and}
use Rattle.wire_lines.specs.Cutter.{CutterState}
use Rattle.wire_lines.specs.Lines.{lines}
use Rattle.wire_lines.proofs.Cutting.{HasNoLf-one_line}
use Rattle.wire_lines.proofs.CutsFacts.{lines_with_last, lines_without_last}
use Rattle.tempo_cli.specs.Answers.{Answers}
use Rattle.tempo_cli.specs.Resumed.{going_on}
use Rattle.tempo_cli.specs.Table.{limit}
use Rattle.tempo_cli.specs.Feeding.{Asked, answers_to, Took, Within, WantsBytes, Ended}
use Rattle.tempo_cli.specs.declared.answering.Answering.{Answering}
use Rattle.tempo_cli.proofs.Fed.{took_fine, took_final}
use Rattle.tempo_cli.proofs.Numbers.{line_number, next_number}
use Rattle.tempo_cli.proofs.Moves.{few_bytes, short, within_going}
use Rattle.tempo_cli.proofs.Stopping.{last_stops, own_at, going_final}
use Rattle.tempo_cli.proofs.Giving.{stops_at}
use Rattle.tempo_cli.proofs.answering.Answering.last_line.Goals as goal

some_bytes : (xs : List ℕ) → (xs ≡ [] → ⊥) → 0 < length xs
some_bytes [] h = absurd (h refl)
some_bytes (x ∷ xs) h = omega arith

never : true ≡ false → ⊥
never e = cc

-- the rest is the last line
with_last : {a : Answers} {bytes : List ℕ} {given : List (List ℕ)} {c : CutterState} (line : List ℕ) → Within a bytes given c → WantsBytes c → (c.rest ≡ [] → ⊥) → line ≡ c.rest → lines bytes true ≡ given ++ line ∷ []
with_last {a} {bytes} {given} {c} line w wants some is = lines_with_last bytes c given w.cuts wants.one_line (some_bytes c.rest some) ∙ ap (λ x. given ++ x ∷ []) (sym is)

-- the input has ended, and its lines are these
ended_by : (q : Asked) (bytes written : List ℕ) (all : List (List ℕ)) (s : Answering) → length bytes ≤ limit → lines bytes true ≡ all → Took q all s.engine → written ≡ (answers_to q).text all false → Ended q bytes written s
ended_by q bytes written all s few is took so_far = record {
  few = few;
  fine = ap (λ ls. (answers_to q).fault ls false) is ∙ took_fine q all s.engine took;
  engine = subst (λ ls. Took q ls s.engine) (sym is) took;
  so_far = so_far ∙ ap (λ ls. (answers_to q).text ls false) (sym is);
}

pub returns-in_default-clause-ok : goal.returns-in_default-clause-ok
returns-in_default-clause-ok g c = λ q bytes given h.
    let all = lines_without_last bytes c.args.self.now.cutter given h.within.cuts (c.in_default.ensures.none.0 refl) in
    ended_by q bytes _ given _ (few_bytes h.within c.requires.wants.wants_bytes) all h.engine (ap (λ x. (answers_to q).text given false ++ x) c.new.ensures.items ∙ append-nil _)

pub feed-requires-clause-short : goal.feed-requires-clause-short
feed-requires-clause-short g c = λ κs k. rw c.in-Some.ensures.some.1 c.requires.wants.short

pub feed-requires-clause-no_feed : goal.feed-requires-clause-no_feed
feed-requires-clause-no_feed g c = λ κs k. HasNoLf-one_line _ (rw c.in-Some.ensures.some.1 c.requires.wants.one_line)

pub returns-clause-ok : goal.returns-clause-ok
returns-clause-ok g c = λ q bytes given h.
    let line = c.in-Some.line.bytes.now in
    let all = with_last line h.within c.requires.wants (λ e. never (c.in-Some.ensures.none.1 e)) c.in-Some.ensures.some.1 in
    let number = line_number h.within c.in-Some.line.number c.in-Some.ensures.some.0 in
    let next = next_number h c.in-Some.line.number c.engine_number.result number c.engine_number.ensures in
    let took = c.in_ok-out.ensures.took q given (sym h.header) next h.engine in
    ended_by q bytes _ (given ++ line ∷ []) _ (few_bytes h.within c.requires.wants.wants_bytes) all took (sym (c.in_ok-out.ensures.text q given (sym h.header) next h.engine))

pub returns-in_err-out-clause-err : goal.returns-in_err-out-clause-err
returns-in_err-out-clause-err g c = let p = err_from_is_err_and c.from_residual.result c.from_residual.ensures.1 in rw (p.1, p.2) (λ q bytes given h.
    let line = c.in-Some.line.bytes.now in
    let all = with_last line h.within c.requires.wants (λ e. never (c.in-Some.ensures.none.1 e)) c.in-Some.ensures.some.1 in
    let number = line_number h.within c.in-Some.line.number c.in-Some.ensures.some.0 in
    let next = next_number h c.in-Some.line.number c.engine_number.result number c.engine_number.ensures in
    last_stops (answers_to q) (took_final q given c.args.self.now.engine h.engine) bytes given line _ (few_bytes h.within c.requires.wants.wants_bytes) all h.within.fine
    (c.in_err-out.ensures.fault q given (sym h.header) next h.engine) (short h.within true))

pub returns-in_err-out-clause-own : goal.returns-in_err-out-clause-own
returns-in_err-out-clause-own g c = let p = err_from_is_err_and c.from_residual.result c.from_residual.ensures.1 in rw (p.1, p.2) (own_at _)

pub returns-in_err-out-clause-err_frozen : goal.returns-in_err-out-clause-err_frozen
returns-in_err-out-clause-err_frozen g c = let p = err_from_is_err_and c.from_residual.result c.from_residual.ensures.1 in rw (p.1, p.2) (λ q bytes given h.
    let line = c.in-Some.line.bytes.now in
    let all = with_last line h.within c.requires.wants (λ e. never (c.in-Some.ensures.none.1 e)) c.in-Some.ensures.some.1 in
    let number = line_number h.within c.in-Some.line.number c.in-Some.ensures.some.0 in
    let next = next_number h c.in-Some.line.number c.engine_number.result number c.engine_number.ensures in
    record {
      fault = c.in_err-out.field-0.0;
      is = refl;
      end = last_stops (going_on (answers_to q)) (going_final (answers_to q) (took_final q given c.args.self.now.engine h.engine)) bytes given line _ (few_bytes h.within c.requires.wants.wants_bytes) all h.within.fine
          (c.in_err-out.ensures.fault q given (sym h.header) next h.engine) (short (within_going h.within) true);
    })

pub returns-in_err-out-clause-reason : goal.returns-in_err-out-clause-reason
returns-in_err-out-clause-reason g c = let p = err_from_is_err_and c.from_residual.result c.from_residual.ensures.1 in rw (p.1, p.2) (λ k bytes given h.
    let line = c.in-Some.line.bytes.now in
    let all = with_last line h.cut c.requires.wants (λ e. never (c.in-Some.ensures.none.1 e)) c.in-Some.ensures.some.1 in
    let number = line_number h.cut c.in-Some.line.number c.in-Some.ensures.some.0 in
    stops_at h _ true c.in-Some.line.number c.engine_number.result line ([], all ∙ sym (append-nil (given ++ line ∷ []))) number c.engine_number.ensures (c.in_err-out.ensures.bad h.fine))
