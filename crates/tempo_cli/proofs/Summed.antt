-- A query over generated lines, from line to line, and to the end.
use Rattle.std.proofs.Common.{◌≡◌, ◌+◌, ℕ, List, [], ◌∷◌, ◌++◌, map, Bool, true, false, None, refl, sym, ◌∙◌, ap, arith, append_assoc, append-nil, subst}
use Rattle.std.proofs.lemmas.List.{length-append}
use Rattle.sample_trades.specs.Lines.{line_of}
use Rattle.sample_trades.specs.ToCome.{to_come}
use Rattle.sample_trades.specs.Counted.{Counted}
use Rattle.sample_trades.specs.Summary.{summary_of, summary_text}
use Rattle.sample_trades.specs.declared.line.SampleLine.{SampleLine}
use Rattle.plan_model.specs.IsPlan.{PlanParts}
use Rattle.admission.specs.declared.policy.Policy.{Policy}
use Rattle.admission.specs.Progress.{fault}
use Rattle.tempo_engine.specs.Faults.{IsFaultOf}
use Rattle.tempo_engine.specs.Fed.{Fed}
use Rattle.tempo_engine.specs.Output.{plan_text}
use Rattle.tempo_engine.specs.declared.fault.EngineFault.{EngineFault}
use Rattle.tempo_engine.specs.declared.fault.EngineFault.TheVariants.{Bad, Late, Overflow, Memory}
use Rattle.tempo_cli.specs.Answers.{Answers, IsFinal}
use Rattle.tempo_cli.specs.Feeding.{Asked, from_start, answers_to, said, IsNext, status_at, Took}
use Rattle.tempo_cli.specs.Summing.{IsFailed, Sums, summary_for}
use Rattle.tempo_cli.specs.declared.status.Status.{Status}
use Rattle.tempo_cli.specs.declared.status.Status.TheVariants.{Done, WriteFault}
use Rattle.tempo_cli.specs.Sampled.{Sampled}
use Rattle.tempo_cli.specs.declared.sampling.Sampling.{Sampling}
use Rattle.tempo_cli.proofs.Fed.{same_fault, same_text, before_low, took_final}
use Rattle.tempo_cli.proofs.Final.{cut_grows}

fails : (a : Answers) (all : List (List ℕ)) (f : EngineFault) → IsFaultOf f (a.fault all true) → IsFailed a all (status_at f)
fails a all (Bad n cause) is = is
fails a all (Late n time bound) is = is
fails a all (Overflow punctuation node time) is = is
fails a all Memory is = tt

stays : (a : Answers) (final : IsFinal a) (ls more : List (List ℕ)) (f : EngineFault) → IsFaultOf f (a.fault ls false) → IsFaultOf f (a.fault (ls ++ more) true)
stays a final ls more (Bad n cause) is = final.stays ls more true _ is
stays a final ls more (Late n time bound) is = final.stays ls more true _ is
stays a final ls more (Overflow punctuation node time) is = final.stays ls more true _ is
stays a final ls more Memory is = tt

-- before a line, which was written out in bytes
module _ {q : Asked} {all : List (List ℕ)} {s : Sampling} (h : Sampled q all s) (next : SampleLine) (line : List ℕ) (written : line ≡ line_of next) (others : List SampleLine) (is : to_come s.sample ≡ next ∷ others) where
  all_go_on : all ≡ (h.given ++ line ∷ []) ++ map line_of others
  all_go_on =
      h.all_are
      ∙ (ap (λ (x : List SampleLine). h.given ++ map line_of x) is
      ∙ (ap (λ (x : List ℕ). h.given ++ x ∷ map line_of others) (sym written) ∙ sym (append_assoc h.given (line ∷ []) (map line_of others))))

  -- it was fed and counted
  pub sampled_more : (t : Sampling) → t.header ≡ s.header → t.number ≡ s.number + 1 → to_come t.sample ≡ others → Took q (h.given ++ line ∷ []) t.engine →
      Counted ((answers_to q).text (h.given ++ line ∷ []) false) t.counts → Sampled q all t
  sampled_more t header number left took counted = record {
    header = header ∙ h.header;
    none_before = h.none_before;
    none_passed = h.none_passed;
    given = h.given ++ line ∷ [];
    all_are = all_go_on ∙ ap (λ (x : List SampleLine). (h.given ++ line ∷ []) ++ map line_of x) (sym left);
    number = omega (arith, number, h.number, length-append h.given (line ∷ []));
    engine = took;
    counted = counted;
  }

  -- it has a fault
  pub line_fails : (f : EngineFault) → IsFaultOf f ((answers_to q).fault (h.given ++ line ∷ []) false) → IsFailed (answers_to q) all (status_at f)
  line_fails f fault =
      fails (answers_to q) all f (subst (λ (x : List (List ℕ)). IsFaultOf f ((answers_to q).fault x true)) (sym all_go_on)
      (stays (answers_to q) (took_final q h.given s.engine h.engine) (h.given ++ line ∷ []) (map line_of others) f fault))

-- after the last line
module _ {q : Asked} {all : List (List ℕ)} {s : Sampling} (h : Sampled q all s) (is : to_come s.sample ≡ []) where
  all_given : h.given ≡ all
  all_given = sym (h.all_are ∙ (ap (λ (x : List SampleLine). h.given ++ map line_of x) is ∙ append-nil h.given))

  same_end : fault q.plan q.policy h.engine.fed true ≡ (answers_to q).fault all true
  same_end = same_fault q.plan q.policy h.engine.fed (said q h.given) true h.engine.same ∙ ap (λ (x : List (List ℕ)). (answers_to q).fault x true) all_given

  pub end_fails : (f : EngineFault) → IsFaultOf f (fault q.plan q.policy h.engine.fed true) → IsFailed (answers_to q) all (status_at f)
  end_fails f fault = fails (answers_to q) all f (subst (IsFaultOf f) same_end fault)

  pub end_fine : fault q.plan q.policy h.engine.fed true ≡ None → (answers_to q).fault all true ≡ None
  end_fine fine = sym same_end ∙ fine

  -- the text of all lines, and its end
  pub all_text : (out : List ℕ) → plan_text q.plan q.policy h.engine.fed true ≡ plan_text q.plan q.policy h.engine.fed false ++ out → (answers_to q).text h.given false ++ out ≡ (answers_to q).text all true
  all_text out grows =
      let all_said = said q h.given in
      sym (cut_grows _ (plan_text q.plan q.policy all_said false) _ out (before_low q h.given s.engine h.engine)
      (sym (same_text q.plan q.policy h.engine.fed all_said true h.engine.same) ∙ (grows ∙ ap (λ (x : List ℕ). x ++ out) (same_text q.plan q.policy h.engine.fed all_said false h.engine.same))))
      ∙ ap (λ (x : List (List ℕ)). (answers_to q).text x true) all_given

  pub summary_is : (text bytes : List ℕ) → text ≡ (answers_to q).text all true → bytes ≡ summary_text (summary_of text) → bytes ≡ summary_for (answers_to q) all
  summary_is text bytes e is = is ∙ ap (λ (x : List ℕ). summary_text (summary_of x)) e

-- the number of the next line
pub next_is : {q : Asked} {all : List (List ℕ)} {s : Sampling} (h : Sampled q all s) → IsNext q h.given (s.number + 1)
next_is {q} {all} {s} h = record { passed = omega (arith, h.none_passed); number_is = omega (arith, h.none_passed, h.none_before, h.number) }

-- before the first line
pub sampled_none : (plan : PlanParts) (policy : Policy) (header : Bool) (all : List (List ℕ)) (s : Sampling) → s.header ≡ header → s.number ≡ 0 → map line_of (to_come s.sample) ≡ all → Fed plan policy [] s.engine → Counted [] s.counts →
    Sampled (from_start plan policy header) all s
sampled_none plan policy header all s header_is number come fed counted = record {
  header = header_is;
  none_before = refl;
  none_passed = refl;
  given = [];
  all_are = sym come;
  number = number;
  engine = record { fed = []; is = refl; took = fed; same = refl };
  counted = counted;
}

-- without a summary nothing was written
pub failed_sums : (a : Answers) (lines : List (List ℕ)) (status : Status) → IsFailed a lines status → Sums a lines status []
failed_sums a lines Done failed = absurd failed
failed_sums a lines WriteFault failed = absurd failed
failed_sums a lines status failed = (refl, failed)
