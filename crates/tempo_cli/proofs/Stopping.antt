-- The status that the engine's fault gives, by the table.
use Rattle.std.proofs.Common.{◌≡◌, ◌≤◌, ℕ, List, [], ◌∷◌, ◌++◌, length, Bool, true, false, Some, None, refl, sym, ◌∙◌, ap, arith, append_assoc, subst}
use Rattle.std.specs.List.{All}
use Rattle.std.proofs.lemmas.List.{append-nil, take_all}
use Rattle.wire_lines.specs.Lines.{HasNoLf, lines}
use Rattle.wire_lines.specs.Cutter.{CutterState}
use Rattle.wire_lines.specs.Cuts.{GivesLine}
use Rattle.admission.specs.Progress.{Fault, fault}
use Rattle.tempo_engine.specs.Faults.{IsFaultOf}
use Rattle.tempo_engine.specs.Output.{plan_text}
use Rattle.tempo_engine.specs.declared.fault.EngineFault.{EngineFault}
use Rattle.tempo_engine.specs.declared.fault.EngineFault.TheVariants.{Bad, Late, Overflow, Memory}
use Rattle.tempo_cli.specs.Answers.{Answers, IsFinal, IsFront}
use Rattle.tempo_cli.specs.Table.{limit, IsDone, IsEnd, IsRefused, IsShort}
use Rattle.tempo_cli.specs.Feeding.{Asked, answers_to, said, status_at, Within, Ended, IsOwn}
use Rattle.tempo_cli.specs.Resumed.{going_on}
use Rattle.tempo_cli.specs.declared.answering.Answering.{Answering}
use Rattle.tempo_cli.proofs.Lines.{lines_are_free}
use Rattle.tempo_cli.proofs.Moves.{refused, short}
use Rattle.tempo_cli.proofs.Fed.{same_fault, same_text, before_low, took_final}
use Rattle.tempo_cli.proofs.Final.{cut_grows}

-- it tells no fault of the words, of the query or of a wire
pub own_at : (f : EngineFault) → IsOwn (status_at f)
own_at (Bad line cause) = tt
own_at (Late line time bound) = tt
own_at (Overflow punctuation node time) = tt
own_at Memory = tt

-- what is asked of an input that goes on is final too
pub going_final : (a : Answers) → IsFinal a → IsFinal (going_on a)
going_final a f = record {
  silent = f.silent;
  front = λ ls more ended free. f.front ls more false free;
  stays = λ ls more ended fault e. f.stays ls more false fault e;
  text_stays = λ ls more ended fault e. f.text_stays ls more false fault e;
  no_more = f.no_more;
  none_at_end = λ ls fault none e. refl;
}

-- at a line
pub line_stops : {a : Answers} {bytes : List ℕ} {given : List (List ℕ)} {c : CutterState} (w : Within a bytes given c) (final : IsFinal a) (number : ℕ) (line : List ℕ) (f : EngineFault) →
    GivesLine bytes c given number line → IsFaultOf f (a.fault (given ++ line ∷ []) false) → (ended : Bool) → IsEnd a (status_at f) bytes (a.text given false) ended
line_stops w final number line (Bad n cause) g is ended = refused w final number line _ g is ended
line_stops w final number line (Late n time bound) g is ended = refused w final number line _ g is ended
line_stops w final number line (Overflow punctuation node time) g is ended = refused w final number line _ g is ended
line_stops w final number line Memory g is ended = short w ended

refused_last : (a : Answers) (final : IsFinal a) (bytes : List ℕ) (given : List (List ℕ)) (line : List ℕ) (f : Fault) → length bytes ≤ limit → lines bytes true ≡ given ++ line ∷ [] →
    a.fault given false ≡ None → a.fault (given ++ line ∷ []) false ≡ Some f → IsRefused a bytes (a.text given false) true f
refused_last a final bytes given line f few all fine is =
    let everything : a.fault (lines bytes true) true ≡ Some f = ap (λ ls. a.fault ls true) (all ∙ sym (append-nil (given ++ line ∷ []))) ∙ final.stays (given ++ line ∷ []) [] true f is in
    record {
      within = ap (λ b. a.fault (lines b true) true) (take_all limit bytes few) ∙ everything;
      first = everything;
      written = sym (ap (λ ls. a.text ls true) (all ∙ sym (append-nil (given ++ line ∷ []))) ∙ final.text_stays (given ++ line ∷ []) [] true f is
          ∙ final.no_more given line f (subst (All HasNoLf) all (lines_are_free bytes true)) fine is);
    }

-- at the last line, which no LF ends
pub last_stops : (a : Answers) (final : IsFinal a) (bytes : List ℕ) (given : List (List ℕ)) (line : List ℕ) (f : EngineFault) → length bytes ≤ limit → lines bytes true ≡ given ++ line ∷ [] →
    a.fault given false ≡ None → IsFaultOf f (a.fault (given ++ line ∷ []) false) → IsShort a bytes (a.text given false) true → IsEnd a (status_at f) bytes (a.text given false) true
last_stops a final bytes given line (Bad n cause) few all fine is s = refused_last a final bytes given line _ few all fine is
last_stops a final bytes given line (Late n time bound) few all fine is s = refused_last a final bytes given line _ few all fine is
last_stops a final bytes given line (Overflow punctuation node time) few all fine is s = refused_last a final bytes given line _ few all fine is
last_stops a final bytes given line Memory few all fine is s = s

refused_end : (a : Answers) (final : IsFinal a) (bytes written : List ℕ) (f : Fault) → length bytes ≤ limit → a.fault (lines bytes true) false ≡ None →
    written ≡ a.text (lines bytes true) false → a.fault (lines bytes true) true ≡ Some f → IsRefused a bytes written true f
refused_end a final bytes written f few fine so_far is = record {
  within = ap (λ b. a.fault (lines b true) true) (take_all limit bytes few) ∙ is;
  first = is;
  written = so_far ∙ sym (final.none_at_end (lines bytes true) f fine is);
}

pub short_end : (a : Answers) (bytes written : List ℕ) → written ≡ a.text (lines bytes true) false → IsShort a bytes written true
short_end a bytes written so_far = record {
  k = length (lines bytes true);
  few = omega arith;
  written = so_far ∙ ap (λ ls. a.text ls false) (sym (take_all (length (lines bytes true)) (lines bytes true) (omega arith)));
}

-- at the end
pub end_stops : (q : Asked) (bytes written : List ℕ) (s : Answering) (e : Ended q bytes written s) (f : EngineFault) → IsFaultOf f (fault q.plan q.policy e.engine.fed true) → IsEnd (answers_to q) (status_at f) bytes written true
end_stops q bytes written s e f is = go f (subst (IsFaultOf f) (same_fault q.plan q.policy e.engine.fed (said q (lines bytes true)) true e.engine.same) is)
  where
    final : IsFinal (answers_to q)
    final = took_final q (lines bytes true) s.engine e.engine

    go : (f : EngineFault) → IsFaultOf f ((answers_to q).fault (lines bytes true) true) → IsEnd (answers_to q) (status_at f) bytes written true
    go (Bad n cause) h = refused_end (answers_to q) final bytes written _ e.few e.fine e.so_far h
    go (Late n time bound) h = refused_end (answers_to q) final bytes written _ e.few e.fine e.so_far h
    go (Overflow punctuation node time) h = refused_end (answers_to q) final bytes written _ e.few e.fine e.so_far h
    go Memory h = short_end (answers_to q) bytes written e.so_far

-- all that is due was written
pub end_done : (q : Asked) (bytes written out : List ℕ) (s : Answering) (e : Ended q bytes written s) → fault q.plan q.policy e.engine.fed true ≡ None →
    plan_text q.plan q.policy e.engine.fed true ≡ plan_text q.plan q.policy e.engine.fed false ++ out → IsDone (answers_to q) bytes (written ++ out) true
end_done q bytes written out s e fine grows =
    let all = said q (lines bytes true) in
    record {
      at_end = refl;
      no_fault = sym (same_fault q.plan q.policy e.engine.fed all true e.engine.same) ∙ fine;
      written = ap (λ x. x ++ out) e.so_far ∙ sym (cut_grows _ (plan_text q.plan q.policy all false) _ out (before_low q (lines bytes true) s.engine e.engine)
          (sym (same_text q.plan q.policy e.engine.fed all true e.engine.same) ∙ (grows ∙ ap (λ x. x ++ out) (same_text q.plan q.policy e.engine.fed all false e.engine.same))));
    }

-- a prefix of what is due for the last line went out
pub end_front : (q : Asked) (bytes before out front : List ℕ) (s : Answering) → Ended q bytes (before ++ out) s → IsFront front out → IsFront (before ++ front) ((answers_to q).text (lines bytes true) true)
end_front q bytes before out front s e some =
    let ls = lines bytes true in
    let final = took_final q ls s.engine e.engine in
    let none = append-nil ls in
    let fin = final.front ls [] true (subst (All HasNoLf) (sym none) (lines_are_free bytes true)) in (
      some.0 ++ fin.0,
      ap (λ x. (answers_to q).text x true) (sym none) ∙ (fin.1 ∙ (ap (λ x. x ++ fin.0) (sym e.so_far ∙ ap (λ x. before ++ x) some.1)
          ∙ (append_assoc before (front ++ some.0) fin.0 ∙ (ap (λ x. before ++ x) (append_assoc front some.0 fin.0) ∙ sym (append_assoc before front (some.0 ++ fin.0)))))),
    )
