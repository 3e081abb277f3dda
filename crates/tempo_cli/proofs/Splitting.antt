-- A run that goes on from a checkpoint says and writes what the run before it would have.
use Rattle.std.proofs.Common.{◌≡◌, ◌<◌, ◌≤◌, ◌+◌, ◌++◌, ℕ, suc, List, [], ◌∷◌, length, drop, Bool, true, false, cond, Option, Some, None, Ok, Err, inl, inr, refl, sym, ◌∙◌, ap, arith, append_assoc, append-nil}
use Rattle.std.specs.Prelude.{nat_eq, nat_lt, ◌&&◌, fold}
use Rattle.std.specs.List.{All}
use Rattle.std.proofs.Math.Seq.{drop-append_seam}
use Rattle.std.proofs.lemmas.Bool.Decides.{nat_tests}
use Rattle.std.proofs.lemmas.List.Sums.{fold-append}
use Rattle.tw_rows.specs.declared.schema.StreamDef.{StreamDef}
use Rattle.plan_model.specs.IsPlan.{PlanParts, IsPlan}
use Rattle.row_reader.specs.Entry.{entry}
use Rattle.row_reader.specs.declared.entry.BadLine.TheVariants.{TooLong}
use Rattle.row_reader.specs.declared.entry.Entry.TheVariants.{Skip}
use Rattle.wire_lines.specs.Lines.{HasNoLf, joined}
use Rattle.admission.specs.Entries.{Told, AreRead}
use Rattle.admission.specs.Progress.{Fault, Malformed, Progress, start, step, steps, fault, unless_fault, reading}
use Rattle.admission.specs.declared.policy.Policy.{Policy}
use Rattle.admission.proofs.Finality.{steps-append}
use Rattle.admission.proofs.Rising.{skip_stays}
use Rattle.admission.proofs.Stays.{progress_stays}
use Rattle.tempo_engine.specs.Fed.{last_number}
use Rattle.tempo_engine.specs.Output.{plan_text}
use Rattle.tempo_cli.specs.Answers.{IsFront}
use Rattle.tempo_cli.specs.Told.{entry_at, told_at, told_from, fed_from}
use Rattle.tempo_cli.specs.Feeding.{said, fed_by}
use Rattle.tempo_cli.proofs.Said.{told-append, are_read, read_parts}
use Rattle.tempo_cli.proofs.Final.{front_low, cut_grows, text_before}
use Rattle.tempo_cli.proofs.Fed.{same_fault, same_text, skipped, long_is_bad, some_stream}
use Rattle.tempo_cli.proofs.Fronts.{le_or_lt}
use Rattle.tempo_cli.specs.Keeping.{Task, query_of, answers_of, task_after}
use Rattle.tempo_cli.specs.Unbroken.{IsNoHeader}

-- NUMBERS
-- where the line is no header
one_entry : (streams : List StreamDef) (h : Bool) (n : ℕ) (line : List ℕ) → (h && nat_eq n 1) ≡ false → told_at streams h n line ≡ told_at streams false n line
unfolding entry_at
one_entry streams h n line other = ap (λ b. record { number = n; read = cond (nat_lt 65536 (length line)) (Err TooLong) (cond b (Ok Skip) (entry streams (nat_eq n 1) line)) }) other

behind_one : (h : Bool) (n : ℕ) → 1 < n → (h && nat_eq n 1) ≡ false
behind_one true n low = grind (arith, nat_tests)
behind_one false n low = refl

-- behind line 1 it is none, and all lines are fed
plain_from : (streams : List StreamDef) (h : Bool) (n : ℕ) (ls : List (List ℕ)) → 1 < n →
    (told_from streams h n ls ≡ told_from streams false n ls) × (fed_from streams h n ls ≡ told_from streams false n ls)
plain_from streams h n [] low = (refl, refl)
plain_from streams h n (l ∷ ls) low =
    let e = behind_one h n low in
    let r = plain_from streams h (suc n) ls (omega (arith, low)) in (
      ap (λ x. x ∷ told_from streams h (suc n) ls) (one_entry streams h n l e) ∙ ap (λ x. told_at streams false n l ∷ x) r.0,
      ap (λ b. cond b (fed_from streams h (suc n) ls) (told_at streams false n l ∷ fed_from streams h (suc n) ls)) e ∙ ap (λ x. told_at streams false n l ∷ x) r.1,
    )

numbers_from : (streams : List StreamDef) (n a : ℕ) (ls : List (List ℕ)) → a + 1 ≡ n → fold (λ (m : ℕ) (t : Told). t.number) a (told_from streams false n ls) ≡ a + length ls
numbers_from streams n a [] e = omega arith
numbers_from streams n a (l ∷ ls) e = let t : n + 1 ≡ suc n = omega arith in omega (arith, numbers_from streams (suc n) n ls t, e)

-- the lines behind these have the same numbers for a run that goes on from a checkpoint
on_from : (streams : List StreamDef) (input : ℕ) (header : Bool) (last : ℕ) (taken more : List (List ℕ)) →
    told_from streams (nat_eq (input + length (joined taken)) 0 && header) (suc (last + length taken)) more ≡ told_from streams (nat_eq input 0 && header) (suc last + length taken) more
on_from streams input header last [] more =
    let i : input + 0 ≡ input = omega arith in
    let n : suc (last + 0) ≡ suc last + 0 = omega arith in
    ap (λ (x : ℕ). told_from streams (nat_eq x 0 && header) (suc (last + 0)) more) i ∙ ap (λ (x : ℕ). told_from streams (nat_eq input 0 && header) x more) n
on_from streams input header last (l ∷ ls) more =
    let n : suc (last + suc (length ls)) ≡ suc last + suc (length ls) = omega arith in
    (plain_from streams (nat_eq (input + length (joined (l ∷ ls))) 0 && header) (suc (last + suc (length ls))) more (omega arith)).0
    ∙ (ap (λ (x : ℕ). told_from streams false x more) n ∙ sym (plain_from streams (nat_eq input 0 && header) (suc last + suc (length ls)) more (omega arith)).0)

-- WHAT THE LINES BEFORE A CHECKPOINT SAY, AS THEY WERE FED
record AreFed (plan : PlanParts) (policy : Policy) (before : List Told) (h : Bool) (taken : List (List ℕ)) : Type 0 where
  same : steps plan policy start (before ++ fed_from plan.streams h (suc (last_number before)) taken) ≡ steps plan policy start (before ++ told_from plan.streams h (suc (last_number before)) taken)
  number : last_number (before ++ fed_from plan.streams h (suc (last_number before)) taken) ≡ last_number before + length taken

module _ (plan : PlanParts) (is : IsPlan plan) (policy : Policy) (before : List Told) where
  -- a line that is bad is a fault of all lines
  bad_some : (g : Option Fault) (w : Progress) (n : ℕ) → w.fault ≡ g → (f : Fault) × ((unless_fault w.fault w (reading plan policy n w (Err TooLong))).fault ≡ Some f)
  bad_some None w n e = (Malformed n TooLong, ap (λ (o : Option Fault). (unless_fault o w (reading plan policy n w (Err TooLong))).fault) e)
  bad_some (Some f) w n e = (f, ap (λ (o : Option Fault). (unless_fault o w (reading plan policy n w (Err TooLong))).fault) e ∙ e)

  none_is_some : (f : Fault) → None ≡ Some f → ⊥
  none_is_some f e = absurd (cc)

  not_long : (n : ℕ) (line : List ℕ) (more : List Told) → fault plan policy (before ++ told_at plan.streams true n line ∷ more) false ≡ None → 65536 < length line → ⊥
  not_long n line more fine long =
      let bad = told_at plan.streams true n line in
      let w = steps plan policy start before in
      let some = bad_some w.fault w n refl in
      let at : fault plan policy (before ++ bad ∷ []) false ≡ Some some.0 =
      ap (λ (v : Progress). v.fault) (steps-append plan policy start before (bad ∷ []))
      ∙ (ap (λ r. (step plan policy w (record { number = n; read = r })).fault) (long_is_bad plan.streams true n line long) ∙ some.1) in
      let all = ap (λ (v : Progress). v.fault) (progress_stays plan policy (before ++ bad ∷ []) more false some.0 at) ∙ at in
      none_is_some some.0 (sym fine ∙ (ap (λ ls. fault plan policy ls false) (sym (append_assoc before (bad ∷ []) more)) ∙ all))

  -- the header says nothing, and is not fed
  skips : (n : ℕ) (line : List ℕ) (more : List Told) → nat_eq n 1 ≡ true → length line ≤ 65536 → steps plan policy start (before ++ more) ≡ steps plan policy start (before ++ told_at plan.streams true n line ∷ more)
  skips n line more first short =
      let sk : Told = record { number = n; read = Ok Skip } in
      steps-append plan policy start before more
      ∙ (ap (λ w. steps plan policy w more) (sym (skip_stays plan policy before n (some_stream plan is)))
      ∙ (sym (steps-append plan policy start (before ++ sk ∷ []) more)
      ∙ (ap (steps plan policy start) (append_assoc before (sk ∷ []) more)
      ∙ ap (λ r. steps plan policy start (before ++ record { number = n; read = r } ∷ more)) (sym (skipped plan.streams true n line first short)))))

  fed_none : (h : Bool) → AreFed plan policy before h []
  fed_none h = record { same = refl; number = omega (arith, ap last_number (append-nil before)) }

  -- no line is a header
  fed_plain : (h : Bool) (l : List ℕ) (ls : List (List ℕ)) → (h && nat_eq (suc (last_number before)) 1) ≡ false → AreFed plan policy before h (l ∷ ls)
  fed_plain h l ls other =
      let n = suc (last_number before) in
      let p = plain_from plan.streams h (suc n) ls (omega arith) in
      let all = told_from plan.streams false n (l ∷ ls) in
      let told_is : told_from plan.streams h n (l ∷ ls) ≡ all = ap (λ x. x ∷ told_from plan.streams h (suc n) ls) (one_entry plan.streams h n l other) ∙ ap (λ x. told_at plan.streams false n l ∷ x) p.0 in
      let fed_is : fed_from plan.streams h n (l ∷ ls) ≡ all =
      ap (λ b. cond b (fed_from plan.streams h (suc n) ls) (told_at plan.streams false n l ∷ fed_from plan.streams h (suc n) ls)) other ∙ ap (λ x. told_at plan.streams false n l ∷ x) p.1 in
      let one : last_number before + 1 ≡ n = omega arith in
      record {
        same = ap (λ x. steps plan policy start (before ++ x)) (fed_is ∙ sym told_is);
        number = ap (λ x. last_number (before ++ x)) fed_is ∙ (fold-append (λ (m : ℕ) (t : Told). t.number) 0 before all ∙ numbers_from plan.streams n (last_number before) (l ∷ ls) one);
      }

  -- the first one is, and another one is behind it
  fed_behind_header : (l k : List ℕ) (ls : List (List ℕ)) → nat_eq (suc (last_number before)) 1 ≡ true → fault plan policy (before ++ told_from plan.streams true (suc (last_number before)) (l ∷ k ∷ ls)) false ≡ None → AreFed plan policy before true (l ∷ k ∷ ls)
  fed_behind_header l k ls first fine =
      let n = suc (last_number before) in
      let p = plain_from plan.streams true (suc n) (k ∷ ls) (omega arith) in
      let fed_is : fed_from plan.streams true n (l ∷ k ∷ ls) ≡ told_from plan.streams false (suc n) (k ∷ ls) =
      ap (λ b. cond b (fed_from plan.streams true (suc n) (k ∷ ls)) (told_at plan.streams false n l ∷ fed_from plan.streams true (suc n) (k ∷ ls))) first ∙ p.1 in
      let none : last_number before ≡ 0 = grind (arith, nat_tests) in
      let one : suc n + 1 ≡ suc (suc n) = omega arith in
      record {
        same = elim (le_or_lt (length l) 65536) [
          | inl short ↦ ap (λ x. steps plan policy start (before ++ x)) (fed_is ∙ sym p.0) ∙ skips n l (told_from plan.streams true (suc n) (k ∷ ls)) first short
          | inr long ↦ absurd (not_long n l (told_from plan.streams true (suc n) (k ∷ ls)) fine long)
        ];
        number = ap (λ x. last_number (before ++ x)) fed_is ∙ (fold-append (λ (m : ℕ) (t : Told). t.number) 0 before (told_from plan.streams false (suc n) (k ∷ ls))
            ∙ omega (arith, none, numbers_from plan.streams (suc (suc n)) (suc n) ls one));
      }

  fed_by_first : (b h : Bool) (taken : List (List ℕ)) → (h && nat_eq (suc (last_number before)) 1) ≡ b → (h ≡ true → length taken ≡ 1 → ⊥) →
      fault plan policy (before ++ told_from plan.streams h (suc (last_number before)) taken) false ≡ None → AreFed plan policy before h taken
  fed_by_first b h [] e past fine = fed_none h
  fed_by_first false h (l ∷ ls) e past fine = fed_plain h l ls e
  fed_by_first true false (l ∷ ls) e past fine = absurd (cc)
  fed_by_first true true (l ∷ []) e past fine = absurd (past refl refl)
  fed_by_first true true (l ∷ k ∷ ls) e past fine = fed_behind_header l k ls e fine

-- A RUN IN TWO
module _ (t : Task) (taken : List (List ℕ)) (is : IsPlan t.plan) (read : AreRead (length t.plan.streams) (fed_by (query_of t) taken)) (fine : (answers_of t).fault taken false ≡ None) (past : IsNoHeader t taken) where
  fed : AreFed t.plan t.asked.policy t.before (query_of t).header taken
  fed = fed_by_first t.plan is t.asked.policy t.before ((query_of t).header && nat_eq (suc (last_number t.before)) 1) (query_of t).header taken refl past fine

  -- what is said behind the lines that were taken
  abbrev behind : List (List ℕ) → List Told
  behind more = told_from t.plan.streams (query_of t).header (suc (last_number t.before) + length taken) more

  said_on : (more : List (List ℕ)) → said (query_of (task_after t taken)) more ≡ fed_by (query_of t) taken ++ behind more
  said_on more =
      ap (λ x. fed_by (query_of t) taken ++ x)
      (ap (λ (n : ℕ). told_from t.plan.streams (query_of (task_after t taken)).header (suc n) more) fed.number
      ∙ on_from t.plan.streams t.start.input t.asked.header (last_number t.before) taken more)

  said_all : (more : List (List ℕ)) → said (query_of t) (taken ++ more) ≡ said (query_of t) taken ++ behind more
  said_all more =
      let n = suc (last_number t.before) in
      ap (λ x. t.before ++ x) (told-append t.plan.streams (query_of t).header n taken more)
      ∙ sym (append_assoc t.before (told_from t.plan.streams (query_of t).header n taken) (behind more))

  steps_on : (more : List (List ℕ)) → steps t.plan t.asked.policy start (said (query_of (task_after t taken)) more) ≡ steps t.plan t.asked.policy start (said (query_of t) (taken ++ more))
  steps_on more =
      ap (steps t.plan t.asked.policy start) (said_on more)
      ∙ (steps-append t.plan t.asked.policy start (fed_by (query_of t) taken) (behind more)
      ∙ (ap (λ w. steps t.plan t.asked.policy w (behind more)) fed.same
      ∙ (sym (steps-append t.plan t.asked.policy start (said (query_of t) taken) (behind more)) ∙ ap (steps t.plan t.asked.policy start) (sym (said_all more)))))

  pub fault_on : (more : List (List ℕ)) → (answers_of (task_after t taken)).fault more false ≡ (answers_of t).fault (taken ++ more) false
  fault_on more = same_fault t.plan t.asked.policy (said (query_of (task_after t taken)) more) (said (query_of t) (taken ++ more)) false (steps_on more)

  pub text_on : (more : List (List ℕ)) → All HasNoLf more → (answers_of t).text taken false ++ (answers_of (task_after t taken)).text more false ≡ (answers_of t).text (taken ++ more) false
  text_on more free =
      let T : List Told → List ℕ = λ x. plan_text t.plan t.asked.policy x false in
      let F = fed_by (query_of t) taken in
      let S = said (query_of t) taken in
      let fed_text : T F ≡ T S = same_text t.plan t.asked.policy F S false fed.same in
      let all_text : T (said (query_of (task_after t taken)) more) ≡ T (said (query_of t) (taken ++ more)) =
      same_text t.plan t.asked.policy (said (query_of (task_after t taken)) more) (said (query_of t) (taken ++ more)) false (steps_on more) in
      let parts = read_parts (length t.plan.streams) t.before (fed_from t.plan.streams (query_of t).header (suc (last_number t.before)) taken) read in
      let front : IsFront (T F) (T (F ++ behind more)) = text_before t.plan is t.asked.policy F (behind more) false read (are_read t.plan.streams (query_of t).header (suc (last_number t.before) + length taken) more free) in
      let low : length (T t.before) ≤ length (T S) =
      omega (arith, front_low (T t.before) (T F) (text_before t.plan is t.asked.policy t.before _ false parts.0 parts.1), ap length fed_text) in
      let whole : T (said (query_of t) (taken ++ more)) ≡ T S ++ front.0 = sym all_text ∙ (ap T (said_on more) ∙ (front.1 ∙ ap (λ x. x ++ front.0) fed_text)) in
      let rest : drop (length (T F)) (T (said (query_of (task_after t taken)) more)) ≡ front.0 = ap (drop (length (T F))) (ap T (said_on more) ∙ front.1) ∙ drop-append_seam (T F) front.0 in
      ap (λ x. (answers_of t).text taken false ++ x) rest ∙ sym (cut_grows (length (T t.before)) (T S) (T (said (query_of t) (taken ++ more))) front.0 low whole)
