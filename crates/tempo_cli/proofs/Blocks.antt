-- Lines that an engine takes together.
use Rattle.std.proofs.Common.{◌≡◌, ◌≤◌, ◌<◌, ◌+◌, ◌^◌, ℕ, suc, List, [], ◌∷◌, ◌++◌, length, take, Bool, true, false, Option, Some, None, refl, sym, ◌∙◌, ap, arith, append_assoc, append-nil, subst}
use Rattle.std.specs.Prelude.{◌&&◌, ◌==◌, nat_eq}
use Rattle.std.specs.List.{All, slice_split}
use Rattle.std.proofs.lemmas.Bool.Decides.{nat_tests}
use Rattle.std.proofs.lemmas.List.{length-append}
use Rattle.std.proofs.lemmas.List.Elements.{All-take}
use Rattle.std.proofs.lemmas.List.Splits.{length-slice_split}
use Rattle.std.proofs.Math.Seq.{take-append_seam}
use Rattle.wire_lines.specs.Lines.{HasNoLf, lines, joined}
use Rattle.wire_lines.specs.Cutter.{CutterState}
use Rattle.wire_lines.specs.Block.{block_lines, after_answers, after_block}
use Rattle.wire_lines.proofs.Blocks.{block_short, block_cuts, after_block-longest, after_block-total, after_block-less}
use Rattle.admission.specs.Entries.{Told}
use Rattle.admission.specs.Progress.{Fault, start, steps, fault}
use Rattle.tempo_engine.specs.Block.{number_at, told_from, GrowsWith, StopsIn, BadIn}
use Rattle.tempo_engine.specs.Faults.{IsFaultOf}
use Rattle.tempo_engine.specs.Fed.{Fed}
use Rattle.tempo_engine.specs.Output.{plan_text, told}
use Rattle.tempo_engine.specs.Went.{EngineView}
use Rattle.tempo_engine.specs.declared.block.FedBlock.{FedBlock}
use Rattle.tempo_engine.specs.declared.fault.EngineFault.{EngineFault}
use Rattle.tempo_engine.specs.declared.fault.EngineFault.TheVariants.{Bad, Late, Overflow, Memory}
use Rattle.tempo_cli.specs.Answers.{Answers, IsFinal, IsFront}
use Rattle.tempo_cli.specs.Restoring.{AreFront}
use Rattle.tempo_cli.specs.Feeding.{Asked, answers_to, said, fed_by, IsNext, IsNoHeader, IsNumbered, Took, Within, HasCut, Holds, status_at}
use Rattle.tempo_cli.specs.Feeding.{LineRules, HasGiven, BlockComes, BlockGives, header_may_come}
use Rattle.tempo_cli.specs.declared.answering.Answering.{Answering}
use Rattle.tempo_cli.specs.Table.{limit, IsEnd, IsRefused, IsShort}
use Rattle.tempo_cli.proofs.Fed.{same_more, fed_more, same_fault, same_text, before_low, took_fine, took_final}
use Rattle.tempo_cli.proofs.Final.{cut_grows}
use Rattle.tempo_cli.proofs.Lines.{lines_are_free, lines_within}
use Rattle.tempo_cli.proofs.Giving.{given_on, numbered_behind, stops_behind, told_bad}
use Rattle.tempo_cli.proofs.Journals.{limit-is}
use Rattle.tempo_cli.proofs.Moves.{lines_after, given_low}
use Rattle.tempo_cli.proofs.Numbers.{given_few, next_number}

-- no line behind the first one is a header
late_line : (header : Bool) (n : ℕ) → 2 ≤ n → (header && nat_eq n 1) ≡ false
late_line true n low = grind (arith, nat_tests)
late_line false n low = refl

next_behind : (q : Asked) (given : List (List ℕ)) (line : List ℕ) (n : ℕ) → IsNext q given n → IsNext q (given ++ line ∷ []) (n + 1)
next_behind q given line n next = record {
  passed = omega (arith, next.passed, length-append given (line ∷ []));
  number_is = omega (arith, next.number_is, length-append given (line ∷ []));
}

low_number : (q : Asked) (given : List (List ℕ)) (n : ℕ) → IsNext q given n → 1 ≤ n
low_number q given n next = omega (arith, next.passed, next.number_is)

-- what was fed is what the lines are fed as, and comes to what they say
record Says (q : Asked) (given : List (List ℕ)) (fed : List Told) : Type 0 where
  pub is : fed ≡ fed_by q given
  pub same : steps q.plan q.policy start fed ≡ steps q.plan q.policy start (said q given)

-- lines more, which are told one after the other
says_more : (q : Asked) (given ls : List (List ℕ)) (n : ℕ) (fed : List Told) → IsNext q given n → IsNoHeader q n → All (λ l. length l ≤ 65536) ls → n + length ls < 2 ^ 64 →
    Says q given fed → Says q (given ++ ls) (fed ++ told_from q.plan n ls)
says_more q given [] n fed next plain short few says = record {
  is = append-nil fed ∙ (says.is ∙ ap (fed_by q) (sym (append-nil given)));
  same = ap (steps q.plan q.policy start) (append-nil fed) ∙ (says.same ∙ ap (λ x. steps q.plan q.policy start (said q x)) (sym (append-nil given)));
}
says_more q given (line ∷ ls) n fed next plain short few says =
    let head : length line ≤ 65536 = short 0 line (omega arith) in
    let one : Says q (given ++ line ∷ []) (fed ++ told q.plan n line ∷ []) = record {
      is = fed_more q given line n fed next plain head says.is;
      same = same_more q given line n fed next plain head says.same;
    } in
    let rest = says_more q (given ++ line ∷ []) ls (n + 1) (fed ++ told q.plan n line ∷ []) (next_behind q given line n next) (late_line q.header (n + 1) (omega (arith, low_number q given n next)))
    (λ k d h. short (suc k) d (omega arith)) (omega arith) one in
    let number : n + 1 ≡ number_at n 1 = omega arith in
    let behind : (fed ++ told q.plan n line ∷ []) ++ told_from q.plan (n + 1) ls ≡ fed ++ told_from q.plan n (line ∷ ls) =
    append_assoc fed (told q.plan n line ∷ []) (told_from q.plan (n + 1) ls) ∙ ap (λ k. fed ++ told q.plan n line ∷ told_from q.plan k ls) number in
    let all : (given ++ line ∷ []) ++ ls ≡ given ++ line ∷ ls = append_assoc given (line ∷ []) ls in
    subst (λ x. Says q (given ++ line ∷ ls) x) behind (subst (λ x. Says q x ((fed ++ told q.plan n line ∷ []) ++ told_from q.plan (n + 1) ls)) all rest)

-- lines that are taken together, of which the first is the next one
pub record AreNext (q : Asked) (given : List (List ℕ)) (n : ℕ) (ls : List (List ℕ)) : Type 0 where
  pub next : IsNext q given n
  pub plain : IsNoHeader q n
  pub short : All (λ l. length l ≤ 65536) ls
  pub few : n + length ls < 2 ^ 64

-- the first of them are so too
first_next : (q : Asked) (given : List (List ℕ)) (n : ℕ) (xs ys : List (List ℕ)) → AreNext q given n (xs ++ ys) → AreNext q given n xs
first_next q given n xs ys are = record {
  next = are.next;
  plain = are.plain;
  short = subst (All (λ l. length l ≤ 65536)) (take-append_seam xs ys) (All-take (λ l. length l ≤ 65536) (length xs) (xs ++ ys) are.short);
  few = omega (arith, are.few, length-append xs ys);
}

module _ (q : Asked) (given ls : List (List ℕ)) (n : ℕ) (e : EngineView) (t : Took q given e) (are : AreNext q given n ls) where
  says : Says q (given ++ ls) (t.fed ++ told_from q.plan n ls)
  says = says_more q given ls n t.fed are.next are.plain are.short are.few (record { is = t.is; same = t.same })

  pub took_block : (e' : EngineView) → Fed q.plan q.policy (t.fed ++ told_from q.plan n ls) e' → Took q (given ++ ls) e'
  took_block e' f = record { fed = t.fed ++ told_from q.plan n ls; is = says.is; took = f; same = says.same }

  pub text_block : (out : List ℕ) → GrowsWith q.plan q.policy t.fed (told_from q.plan n ls) out → (answers_to q).text (given ++ ls) false ≡ (answers_to q).text given false ++ out
  text_block out grows =
      cut_grows _ (plan_text q.plan q.policy (said q given) false) _ out (before_low q given e t)
      (sym (same_text q.plan q.policy (t.fed ++ told_from q.plan n ls) (said q (given ++ ls)) false says.same)
      ∙ grows ∙ ap (λ x. x ++ out) (same_text q.plan q.policy t.fed (said q given) false t.same))

  pub fault_block : (f : EngineFault) → IsFaultOf f (fault q.plan q.policy (t.fed ++ told_from q.plan n ls) false) → IsFaultOf f ((answers_to q).fault (given ++ ls) false)
  fault_block f h = subst (IsFaultOf f) (same_fault q.plan q.policy (t.fed ++ told_from q.plan n ls) (said q (given ++ ls)) false says.same) h

-- a line that has the fault of the lines up to it adds nothing to the text, also where a line before it has it already
adds_none : (a : Answers) → IsFinal a → (given : List (List ℕ)) (line : List ℕ) (f : Fault) (before : Option Fault) → a.fault given false ≡ before → All HasNoLf (given ++ line ∷ []) →
    a.fault (given ++ line ∷ []) false ≡ Some f → a.text (given ++ line ∷ []) false ≡ a.text given false
adds_none a final given line f None e free is = final.no_more given line f free e is
adds_none a final given line f (Some g) e free is = final.text_stays given (line ∷ []) false g e

-- a line stands behind these lines, among the lines of the bytes and among those of the first 2^40
pub record StandsIn (bytes : List ℕ) (given : List (List ℕ)) (line : List ℕ) (ended : Bool) : Type 0 where
  pub among : AreFront (given ++ line ∷ []) (lines bytes ended)
  pub within : AreFront (given ++ line ∷ []) (lines (take limit bytes) ended)

module _ (a : Answers) (final : IsFinal a) (bytes : List ℕ) (given : List (List ℕ)) (line : List ℕ) (ended : Bool) (in_ : StandsIn bytes given line ended) where
  line_free : All HasNoLf (given ++ line ∷ [])
  line_free = subst (All HasNoLf) (take-append_seam (given ++ line ∷ []) in_.among.0)
      (All-take HasNoLf (length (given ++ line ∷ [])) ((given ++ line ∷ []) ++ in_.among.0) (subst (All HasNoLf) in_.among.1 (lines_are_free bytes ended)))

  refused_in : (f : Fault) → a.fault (given ++ line ∷ []) false ≡ Some f → IsRefused a bytes (a.text given false) ended f
  refused_in f is = record {
    within = ap (λ ls. a.fault ls ended) in_.within.1 ∙ final.stays (given ++ line ∷ []) in_.within.0 ended f is;
    first = ap (λ ls. a.fault ls ended) in_.among.1 ∙ final.stays (given ++ line ∷ []) in_.among.0 ended f is;
    written = sym (ap (λ ls. a.text ls ended) in_.among.1 ∙ (final.text_stays (given ++ line ∷ []) in_.among.0 ended f is ∙ adds_none a final given line f (a.fault given false) refl line_free is));
  }

  short_in : IsShort a bytes (a.text given false) ended
  short_in =
      let all : lines bytes ended ≡ given ++ line ∷ in_.among.0 = in_.among.1 ∙ append_assoc given (line ∷ []) in_.among.0 in
      record {
        k = length given;
        few = omega (arith, ap length all, length-append given (line ∷ in_.among.0));
        written = ap (λ ls. a.text ls false) (sym (ap (take (length given)) all ∙ take-append_seam given (line ∷ in_.among.0)));
      }

  -- the run ends at it
  pub stops_in : (f : EngineFault) → IsFaultOf f (a.fault (given ++ line ∷ []) false) → IsEnd a (status_at f) bytes (a.text given false) ended
  stops_in (Bad n cause) is = refused_in _ is
  stops_in (Late n time bound) is = refused_in _ is
  stops_in (Overflow punctuation node time) is = refused_in _ is
  stops_in Memory is = short_in

-- one of lines that are among all lines
regroup : (g b : List (List ℕ)) (l : List ℕ) (a x : List (List ℕ)) → (g ++ (b ++ l ∷ a)) ++ x ≡ ((g ++ b) ++ l ∷ []) ++ (a ++ x)
regroup g b l a x = simp append_assoc

pub stands_in : {a : Answers} {bytes : List ℕ} {given : List (List ℕ)} {c : CutterState} → Within a bytes given c → (front before : List (List ℕ)) (line : List ℕ) (after : List (List ℕ)) →
    given ≡ front ++ (before ++ line ∷ after) → (ended : Bool) → StandsIn bytes (front ++ before) line ended
stands_in {a} {bytes} {given} {c} w front before line after is ended =
    let all : (x : List (List ℕ)) → given ++ x ≡ ((front ++ before) ++ line ∷ []) ++ (after ++ x) = λ x. ap (λ g. g ++ x) is ∙ regroup front before line after x in
    record {
      among = (after ++ lines c.rest ended, lines_after w ended ∙ all (lines c.rest ended));
      within = (_, lines_within bytes c.rest given ended w.cuts.all w.cuts.each (given_low w) ∙ all _);
    }

-- the text of lines that stand in front of all lines stays
pub text_stays_in : (a : Answers) → IsFinal a → (bytes : List ℕ) (given : List (List ℕ)) (ended : Bool) → AreFront given (lines bytes ended) → IsFront (a.text given false) (a.text (lines bytes ended) ended)
text_stays_in a final bytes given ended front =
    let fin = final.front given front.0 ended (subst (All HasNoLf) front.1 (lines_are_free bytes ended)) in
    (fin.0, ap (λ ls. a.text ls ended) front.1 ∙ fin.1)

-- the cutter has given the lines of a block
block_within : {a : Answers} {bytes : List ℕ} {given : List (List ℕ)} {c : CutterState} → Within a bytes given c → a.fault (given ++ block_lines c) false ≡ None → Within a bytes (given ++ block_lines c) (after_block c)
block_within {a} {bytes} {given} {c} w fine = record { longest = after_block-longest c ∙ w.longest; total = after_block-total c ∙ w.total; cuts = block_cuts bytes c given w.cuts; fine = fine }

-- whatever became of them
block_cut : {a : Answers} {bytes : List ℕ} {given : List (List ℕ)} {c : CutterState} → Within a bytes given c → HasCut bytes (given ++ block_lines c) (after_block c)
block_cut {a} {bytes} {given} {c} w = record { longest = after_block-longest c ∙ w.longest; total = after_block-total c ∙ w.total; cuts = block_cuts bytes c given w.cuts; fine = refl }

-- no line of a block is a header where none may come
header_passed : (header : Bool) (skipped passed number : ℕ) → header_may_come header skipped passed ≡ false → (skipped ≡ 0 → 0 < passed → 2 ≤ number) → (header && nat_eq number 1) ≡ false
header_passed false skipped passed number e late = refl
header_passed true skipped passed number e late =
    let none : skipped ≡ 0 = grind (arith, nat_tests) in
    let some : 0 < passed = grind (arith, nat_tests) in
    late_line true number (late none some)

-- it was asked whether the next line may be one, and it may not
pub no_header_comes : (s : Answering) {passed : ℕ} {may : Bool} → passed ≡ s.cutter.passed → may ≡ header_may_come s.header s.skipped passed → may ≡ false →
    header_may_come s.header s.skipped s.cutter.passed ≡ false
no_header_comes s are is none = ap (header_may_come s.header s.skipped) (sym are) ∙ (sym is ∙ none)

some_given : (given : List (List ℕ)) → 0 < length (joined given) → 0 < length given
some_given [] some = absurd (omega arith)
some_given (line ∷ given) some = omega arith

-- the lines of a block are the next ones
pub are_next : {q : Asked} {bytes : List ℕ} {given : List (List ℕ)} {s : Answering} → Holds q bytes given s → (number n : ℕ) → number ≡ s.cutter.number + 1 → IsNumbered s.base s.skipped number n →
    header_may_come s.header s.skipped s.cutter.passed ≡ false → AreNext q given n (block_lines s.cutter)
are_next {q} {bytes} {given} {s} h number n is numbered passed =
    let next = next_number h number n (omega (arith, is, h.within.cuts.number_is)) numbered in
    let few = given_few (block_cut h.within) in
    let late : s.skipped ≡ 0 → 0 < s.cutter.passed → 2 ≤ n =
    λ none some. omega (arith, next.number_is, h.skipped, none, some_given given (omega (arith, some, h.within.cuts.passed_is))) in
    record {
      next = next;
      plain = ap (λ b. b && nat_eq n 1) (sym h.header) ∙ header_passed s.header s.skipped s.cutter.passed n passed late;
      short = subst (λ m. All (λ l. length l ≤ m) (block_lines s.cutter)) h.within.longest (block_short s.cutter);
      few = omega (arith, next.number_is, h.low, h.base, few, limit-is, length-append given (block_lines s.cutter));
    }

-- what they come to
module _ {q : Asked} {bytes : List ℕ} {given : List (List ℕ)} {s : Answering} (h : Holds q bytes given s) (n : ℕ) (are : AreNext q given n (block_lines s.cutter)) where
  final : IsFinal (answers_to q)
  final = took_final q given s.engine h.engine

  -- all of them were taken
  all_taken : (t : Answering) → t.header ≡ s.header → t.base ≡ s.base → t.skipped ≡ s.skipped → t.cutter ≡ after_block s.cutter →
      Fed q.plan q.policy (h.engine.fed ++ told_from q.plan n (block_lines s.cutter)) t.engine → Holds q bytes (given ++ block_lines s.cutter) t
  all_taken t header base skipped cutter fed =
      let took = took_block q given (block_lines s.cutter) n s.engine h.engine are t.engine fed in
      record {
        header = header ∙ h.header;
        base = base ∙ h.base;
        low = omega (arith, base, h.low);
        skipped = skipped ∙ h.skipped;
        passed = omega (arith, h.passed, length-append given (block_lines s.cutter));
        within = subst (Within (answers_to q) bytes (given ++ block_lines s.cutter)) (sym cutter) (block_within h.within (took_fine q (given ++ block_lines s.cutter) t.engine took));
        engine = took;
      }

  -- one of them has a fault
  module _ (out : List ℕ) (f : EngineFault) (stops : StopsIn q.plan q.policy h.engine.fed n (block_lines s.cutter) out f) where
    stands : (ended : Bool) → StandsIn bytes (given ++ stops.before) stops.line ended
    stands ended = stands_in (block_cut h.within) given stops.before stops.line stops.after (ap (λ ls. given ++ ls) stops.all) ended

    grown_before : (answers_to q).text (given ++ stops.before) false ≡ (answers_to q).text given false ++ out
    grown_before = text_block q given stops.before n s.engine h.engine (first_next q given n stops.before (stops.line ∷ stops.after) (subst (AreNext q given n) stops.all are)) out stops.grown

    stays_before : (ended : Bool) → IsFront ((answers_to q).text (given ++ stops.before) false) ((answers_to q).text (lines bytes ended) ended)
    stays_before ended =
        let among = (stands ended).among in
        text_stays_in (answers_to q) final bytes (given ++ stops.before) ended (stops.line ∷ among.0, among.1 ∙ append_assoc (given ++ stops.before) (stops.line ∷ []) among.0)

    ends_there : (ended : Bool) → IsEnd (answers_to q) (status_at f) bytes ((answers_to q).text (given ++ stops.before) false) ended
    ends_there ended =
        let up_to : List (List ℕ) = stops.before ++ stops.line ∷ [] in
        let all : block_lines s.cutter ≡ up_to ++ stops.after = stops.all ∙ sym (append_assoc stops.before (stops.line ∷ []) stops.after) in
        let told_fault = fault_block q given up_to n s.engine h.engine (first_next q given n up_to stops.after (subst (AreNext q given n) all are)) f stops.first in
        stops_in (answers_to q) final bytes (given ++ stops.before) stops.line ended (stands ended) f
        (subst (λ ls. IsFaultOf f ((answers_to q).fault ls false)) (sym (append_assoc given stops.before (stops.line ∷ []))) told_fault)

no_fault_of : (r : Option EngineFault) (f : EngineFault) → r ≡ None → r ≡ Some f → ⊥
no_fault_of r f none some = cc

same_fault_of : (r : Option EngineFault) (f g : EngineFault) → r ≡ Some f → r ≡ Some g → f ≡ g
same_fault_of r f g one other = cc

pub comes_block : {q : Asked} {bytes : List ℕ} {given : List (List ℕ)} {s : Answering} (h : Holds q bytes given s) (n : ℕ) → AreNext q given n (block_lines s.cutter) →
    (t : Answering) → t.header ≡ s.header → t.base ≡ s.base → t.skipped ≡ s.skipped → t.cutter ≡ after_block s.cutter → (block : FedBlock) →
    (block.fault ≡ None → Fed q.plan q.policy (h.engine.fed ++ told_from q.plan n (block_lines s.cutter)) t.engine) →
    (block.fault ≡ None → GrowsWith q.plan q.policy h.engine.fed (told_from q.plan n (block_lines s.cutter)) block.text.items) →
    ((f : EngineFault) → block.fault ≡ Some f → StopsIn q.plan q.policy h.engine.fed n (block_lines s.cutter) block.text.items f) → BlockComes q bytes given t block
comes_block {q} {bytes} {given} {s} h n are t header base skipped cutter block fed grows stops = go block.fault refl
  where
    go : (r : Option EngineFault) → block.fault ≡ r → BlockComes q bytes given t block
    go None e = record {
      more = given ++ block_lines s.cutter;
      grown = text_block q given (block_lines s.cutter) n s.engine h.engine are block.text.items (grows e);
      front = λ ended. text_stays_in (answers_to q) (final h n are) bytes (given ++ block_lines s.cutter) ended (lines (after_block s.cutter).rest ended, lines_after (block_cut h.within) ended);
      holds = λ none. all_taken h n are t header base skipped cutter (fed e);
      ends = λ f is ended. absurd (no_fault_of block.fault f e is);
    }
    go (Some f) e =
        let at = stops f e in
        record {
          more = given ++ at.before;
          grown = grown_before h n are block.text.items f at;
          front = stays_before h n are block.text.items f at;
          holds = λ none. absurd (no_fault_of block.fault f none e);
          ends = λ other is ended.
              let same = same_fault_of block.fault f other e is in
              subst (λ x. IsEnd (answers_to q) (status_at x) bytes ((answers_to q).text (given ++ at.before) false) ended) same (ends_there h n are block.text.items f at ended);
        }

-- the same, whatever the engine is
at_middle : (P : List ℕ → Type 0) (before : List (List ℕ)) (line : List ℕ) (after : List (List ℕ)) → All P (before ++ line ∷ after) → P line
at_middle P [] line after h = h 0 line (omega arith)
at_middle P (x ∷ xs) line after h = at_middle P xs line after (λ k d low. h (suc k) d (omega arith))

pub gives_block : {k : LineRules} {bytes : List ℕ} {given : List (List ℕ)} {s : Answering} (h : HasGiven k bytes given s) (number n : ℕ) → number ≡ s.cutter.number + 1 → IsNumbered s.base s.skipped number n →
    (t : Answering) → t.base ≡ s.base → t.skipped ≡ s.skipped → t.engine.parts.dataflow.plan ≡ s.engine.parts.dataflow.plan → t.cutter ≡ after_block s.cutter → (block : FedBlock) →
    (block.fault ≡ None → t.engine.fault ≡ None) → ((f : EngineFault) → block.fault ≡ Some f → BadIn s.engine.parts.dataflow.plan n (block_lines s.cutter) f) → BlockGives k bytes t block
gives_block {k} {bytes} {given} {s} h number n is numbered t base skipped plan cutter block fine bad =
    let cut = block_cut h.cut in
    let low : s.base ≡ k.base = ap (λ (x : LineRules). x.base) h.rules in
    let first = numbered_behind h number n (omega (arith, is, h.cut.cuts.number_is)) numbered in
    let few = given_few cut in
    record {
      more = given ++ block_lines s.cutter;
      gives = λ none. given_on h (subst (HasCut bytes (given ++ block_lines s.cutter)) (sym cutter) cut) (fine none) base skipped plan (omega (arith, length-append given (block_lines s.cutter)));
      stops = λ f e ended.
          let b = bad f e in
          let fewer : length b.before < length (block_lines s.cutter) = omega (arith, ap length b.all, length-append b.before (b.line ∷ b.after)) in
          stops_behind h f ended (given ++ b.before) (number_at n (length b.before)) b.line (stands_in cut given b.before b.line b.after (ap (λ ls. given ++ ls) b.all) ended).among
          (omega (arith, length-append given b.before))
          (omega (arith, first, h.low, low, few, limit-is, fewer, length-append given b.before, length-append given (block_lines s.cutter)))
          (told_bad s.engine.parts.dataflow.plan (number_at n (length b.before)) b.line f
          (omega (arith, h.cut.longest, at_middle (λ l. length l ≤ s.cutter.longest) b.before b.line b.after (subst (All (λ l. length l ≤ s.cutter.longest)) b.all (block_short s.cutter)))) b.bad);
    }

-- the same where the lines are told by their bytes
pub comes_lines : {q : Asked} {bytes : List ℕ} {given : List (List ℕ)} {s : Answering} (h : Holds q bytes given s) (n : ℕ) → AreNext q given n (block_lines s.cutter) →
    (t : Answering) → t.header ≡ s.header → t.base ≡ s.base → t.skipped ≡ s.skipped → t.cutter ≡ after_block s.cutter → (block : FedBlock) → (ls : List (List ℕ)) → ls ≡ block_lines s.cutter →
    (block.fault ≡ None → Fed q.plan q.policy (h.engine.fed ++ told_from q.plan n ls) t.engine) → (block.fault ≡ None → GrowsWith q.plan q.policy h.engine.fed (told_from q.plan n ls) block.text.items) →
    ((f : EngineFault) → block.fault ≡ Some f → StopsIn q.plan q.policy h.engine.fed n ls block.text.items f) → BlockComes q bytes given t block
comes_lines {q} {bytes} {given} {s} h n are t header base skipped cutter block ls is fed grows stops = comes_block h n are t header base skipped cutter block
    (λ none. subst (λ x. Fed q.plan q.policy (h.engine.fed ++ told_from q.plan n x) t.engine) is (fed none))
    (λ none. subst (λ x. GrowsWith q.plan q.policy h.engine.fed (told_from q.plan n x) block.text.items) is (grows none))
    (λ f e. subst (λ x. StopsIn q.plan q.policy h.engine.fed n x block.text.items f) is (stops f e))

pub gives_lines : {k : LineRules} {bytes : List ℕ} {given : List (List ℕ)} {s : Answering} (h : HasGiven k bytes given s) (number n : ℕ) → number ≡ s.cutter.number + 1 → IsNumbered s.base s.skipped number n →
    (t : Answering) → t.base ≡ s.base → t.skipped ≡ s.skipped → t.engine.parts.dataflow.plan ≡ s.engine.parts.dataflow.plan → t.cutter ≡ after_block s.cutter → (block : FedBlock) → (ls : List (List ℕ)) → ls ≡ block_lines s.cutter →
    (block.fault ≡ None → t.engine.fault ≡ None) → ((f : EngineFault) → block.fault ≡ Some f → BadIn s.engine.parts.dataflow.plan n ls f) → BlockGives k bytes t block
gives_lines {k} {bytes} {given} {s} h number n at numbered t base skipped plan cutter block ls is fine bad = gives_block h number n at numbered t base skipped plan cutter block fine
    (λ f e. subst (λ x. BadIn s.engine.parts.dataflow.plan n x f) is (bad f e))

-- where there is a line fewer bytes are left
pub fewer_left : (c : CutterState) (xs : List ℕ) → slice_split (λ b. b == 10) xs ≡ block_lines c → length (after_block c).rest < length c.rest
fewer_left c xs is = after_block-less c (omega (arith, length-slice_split (λ b. b == 10) xs, ap length is))

-- where there is none nothing has changed
pub none_taken : (s : Answering) (c : CutterState) → c ≡ after_block s.cutter → block_lines s.cutter ≡ [] → record s { cutter = c } ≡ s
none_taken s c is none = ap (λ x. record s { cutter = x }) (is ∙ ap (λ ls. after_answers (length ls) s.cutter) none)
