-- What is known of a run whatever the engine is: the lines that were given, and a bad one among them.
use Rattle.std.proofs.Common.{◌≡◌, ◌≤◌, ◌+◌, ℕ, List, [], ◌∷◌, ◌++◌, length, Bool, false, None, inl, inr, refl, sym, ◌∙◌, ap, arith, append_assoc, subst}
use Rattle.std.proofs.lemmas.List.{length-append, append_cancel_left}
use Rattle.wire_lines.specs.Lines.{lines}
use Rattle.wire_lines.specs.Cutter.{Overlong}
use Rattle.wire_lines.specs.Next.{next}
use Rattle.plan_model.specs.IsPlan.{PlanParts}
use Rattle.row_reader.specs.declared.entry.BadLine.{BadLine}
use Rattle.row_reader.specs.declared.entry.BadLine.TheVariants.{TooLong}
use Rattle.tempo_engine.specs.Faults.{IsBadOf, IsFaultAtEnd}
use Rattle.tempo_engine.specs.declared.fault.EngineFault.{EngineFault}
use Rattle.tempo_engine.specs.declared.fault.EngineFault.TheVariants.{Bad, Late, Overflow, Memory}
use Rattle.tempo_cli.specs.Restoring.{AreFront, IsCause, IsBadLine}
use Rattle.tempo_cli.specs.Feeding.{LineRules, rules_of, HasGiven, HasBad, HasCut, TellsLine, StopsFor, IsNumbered, status_at}
use Rattle.tempo_cli.specs.declared.answering.Answering.{Answering}
use Rattle.tempo_cli.proofs.Fed.{plain, long_is_bad}
use Rattle.tempo_cli.proofs.Fronts.{shorter_front}
use Rattle.tempo_cli.proofs.Journals.{limit-is}
use Rattle.tempo_cli.proofs.Moves.{long_fronts}
use Rattle.tempo_cli.proofs.Numbers.{given_few}

-- as many lines were given, or more, by the same rules
pub given_on : {k : LineRules} {bytes bytes' : List ℕ} {given given' : List (List ℕ)} {s t : Answering} → HasGiven k bytes given s → HasCut bytes' given' t.cutter → t.engine.fault ≡ None →
    t.base ≡ s.base → t.skipped ≡ s.skipped → t.engine.parts.dataflow.plan ≡ s.engine.parts.dataflow.plan → length given ≤ length given' → HasGiven k bytes' given' t
given_on {k} {bytes} {bytes'} {given} {given'} {s} {t} h cut fine base skipped plan more = record {
  cut = cut;
  fine = fine;
  rules = same t.base t.skipped t.engine.parts.dataflow.plan base skipped plan ∙ h.rules;
  low = h.low;
  passed = omega (arith, h.passed, more);
}
  where
    of : ℕ → ℕ → PlanParts → LineRules
    of base skipped plan = record { streams = plan.streams; base = base; skipped = skipped }

    same : (b n : ℕ) (p : PlanParts) → b ≡ s.base → n ≡ s.skipped → p ≡ s.engine.parts.dataflow.plan → of b n p ≡ rules_of s
    same b n p e f g = ap (λ x. of x n p) e ∙ (ap (λ x. of s.base x p) f ∙ ap (of s.base s.skipped) g)

-- a line that the engine tells as bad is bad for its cause
pub told_bad : (plan : PlanParts) (number : ℕ) (line : List ℕ) (f : EngineFault) → length line ≤ 65536 → IsBadOf plan number line f → TellsLine plan.streams number line f
told_bad plan number line (Bad n cause) short h = (h.0, elim h.1 [ inl none ↦ inl none | inr read ↦ inr (plain plan.streams false number line refl short ∙ read) ])
told_bad plan number line (Late n time bound) short h = tt
told_bad plan number line (Overflow punctuation node time) short h = tt
told_bad plan number line Memory short h = tt

-- a line is bad behind others, of which some more than were given may be
pub bad_behind_more : {k : LineRules} {bytes : List ℕ} {given : List (List ℕ)} {s : Answering} → HasGiven k bytes given s → (before ls : List (List ℕ)) (n : ℕ) (line : List ℕ) (cause : BadLine) →
    AreFront (before ++ line ∷ []) ls → length given ≤ length before → n + s.skipped ≡ s.base + length before + 1 → IsCause s.engine.parts.dataflow.plan.streams n line cause → HasBad k ls n cause
bad_behind_more {k} {bytes} {given} {s} h before ls n line cause front more number why =
    let base : s.base ≡ k.base = ap (λ (x : LineRules). x.base) h.rules in
    let skipped : s.skipped ≡ k.skipped = ap (λ (x : LineRules). x.skipped) h.rules in
    record {
      before = before;
      line = line;
      front = front;
      passed = omega (arith, h.passed, more);
      number = omega (arith, number, base, skipped);
      cause_is = subst (λ (x : LineRules). IsCause x.streams n line cause) h.rules why;
    }

-- where it is told as bad it is so
pub stops_behind : {k : LineRules} {bytes : List ℕ} {given : List (List ℕ)} {s : Answering} → HasGiven k bytes given s → (f : EngineFault) (ended : Bool) (before : List (List ℕ)) (n : ℕ) (line : List ℕ) →
    AreFront (before ++ line ∷ []) (lines bytes ended) → length given ≤ length before → n + s.skipped ≡ s.base + length before + 1 →
    TellsLine s.engine.parts.dataflow.plan.streams n line f → StopsFor k (status_at f) bytes ended
stops_behind {k} {bytes} h (Bad m cause) ended before n line front more number why =
    subst (λ x. HasBad k (lines bytes ended) x cause) (sym why.0) (bad_behind_more h before (lines bytes ended) n line cause front more number why.1)
stops_behind h (Late m time bound) ended before n line front more number why = tt
stops_behind h (Overflow punctuation node time) ended before n line front more number why = tt
stops_behind h Memory ended before n line front more number why = tt

module _ {k : LineRules} {bytes : List ℕ} {given : List (List ℕ)} {s : Answering} (h : HasGiven k bytes given s) where
  -- the engine's number of a line, the first of some behind those given
  pub numbered_behind : (at n : ℕ) → at ≡ length given + 1 → IsNumbered s.base s.skipped at n → n + s.skipped ≡ s.base + length given + 1
  numbered_behind at n is numbered =
      let base : s.base ≡ k.base = ap (λ (x : LineRules). x.base) h.rules in
      let skipped : s.skipped ≡ k.skipped = ap (λ (x : LineRules). x.skipped) h.rules in
      let few = given_few h.cut in
      let number : n + s.skipped ≡ s.base + at = numbered (omega (arith, skipped, h.passed, is)) (omega (arith, base, h.low, few, limit-is, is)) in
      omega (arith, number, is)

  -- the next line is bad
  pub bad_next : (ls : List (List ℕ)) (at n : ℕ) (line : List ℕ) (cause : BadLine) → AreFront (given ++ line ∷ []) ls → at ≡ length given + 1 → IsNumbered s.base s.skipped at n →
      IsCause s.engine.parts.dataflow.plan.streams n line cause → HasBad k ls n cause
  bad_next ls at n line cause front is numbered why = bad_behind_more h given ls n line cause front (omega arith) (numbered_behind at n is numbered) why

  pub stops_at : (f : EngineFault) (ended : Bool) (at n : ℕ) (line : List ℕ) → AreFront (given ++ line ∷ []) (lines bytes ended) → at ≡ length given + 1 → IsNumbered s.base s.skipped at n →
      TellsLine s.engine.parts.dataflow.plan.streams n line f → StopsFor k (status_at f) bytes ended
  stops_at f ended at n line front is numbered why = stops_behind h f ended given n line front (omega arith) (numbered_behind at n is numbered) why

  -- or it is too long
  pub stops_long : (at n : ℕ) (ended : Bool) → Overlong at ≡ next s.cutter → at ≡ length given + 1 → IsNumbered s.base s.skipped at n → HasBad k (lines bytes ended) n TooLong
  stops_long at n ended is number numbered =
      let f = (long_fronts h.cut at is ended).0 in
      bad_next (lines bytes ended) at n f.0 TooLong f.1 number numbered (inr (long_is_bad s.engine.parts.dataflow.plan.streams false n f.0 f.2))

-- no line is told at the end
pub stops_never : (k : LineRules) (f : EngineFault) (bytes : List ℕ) (ended : Bool) → IsFaultAtEnd f → StopsFor k (status_at f) bytes ended
stops_never k (Bad n cause) bytes ended h = absurd h
stops_never k (Late n time bound) bytes ended h = absurd h
stops_never k (Overflow punctuation node time) bytes ended h = tt
stops_never k Memory bytes ended h = tt

-- behind the lines of a checkpoint
pub bad_behind : (k : LineRules) (C behind ls : List (List ℕ)) (n : ℕ) (cause : BadLine) → ls ≡ C ++ behind → k.skipped ≡ length C → HasBad k ls n cause → IsBadLine k.streams k.base behind n cause
bad_behind k C behind ls n cause are is h =
    let front : AreFront C ls = (behind, are) in
    let f = shorter_front C h.before ls front (h.line ∷ h.front.0, h.front.1 ∙ append_assoc h.before (h.line ∷ []) h.front.0) (omega (arith, is, h.passed)) in
    record {
      before = f.0;
      line = h.line;
      front = (
        h.front.0,
        append_cancel_left C behind ((f.0 ++ h.line ∷ []) ++ h.front.0) (sym are ∙ (h.front.1 ∙ (ap (λ x. (x ++ h.line ∷ []) ++ h.front.0) f.1
            ∙ (ap (λ x. x ++ h.front.0) (append_assoc C f.0 (h.line ∷ [])) ∙ append_assoc C (f.0 ++ h.line ∷ []) h.front.0)))),
      );
      number = omega (arith, h.number, is, ap length f.1, length-append C f.0);
      cause_is = h.cause_is;
    }
