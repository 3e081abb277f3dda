-- What is written behind a checkpoint, and before it.
use Rattle.std.proofs.Common.{◌≡◌, ◌<◌, ◌+◌, ℕ, suc, List, [], ◌∷◌, ◌++◌, length, drop, Bool, true, false, cond, Some, None, Ok, Err, inl, inr, refl, sym, ◌∙◌, ap, arith, subst}
use Rattle.std.specs.Prelude.{nat_eq, nat_lt, ◌&&◌, fold}
use Rattle.std.specs.List.{All}
use Rattle.std.proofs.Math.Seq.{drop-append_seam}
use Rattle.std.proofs.lemmas.Bool.Decides.{nat_tests}
use Rattle.tw_rows.specs.declared.schema.StreamDef.{StreamDef}
use Rattle.plan_model.specs.IsPlan.{PlanParts, IsPlan}
use Rattle.row_reader.specs.Entry.{entry}
use Rattle.row_reader.specs.declared.entry.BadLine.TheVariants.{TooLong}
use Rattle.row_reader.specs.declared.entry.Entry.TheVariants.{Skip}
use Rattle.wire_lines.specs.Lines.{HasNoLf}
use Rattle.admission.specs.Entries.{Told, AreRead}
use Rattle.admission.specs.Progress.{Malformed, Progress, start, steps, fault}
use Rattle.admission.specs.declared.policy.Policy.{Policy}
use Rattle.admission.proofs.Finality.{steps-append}
use Rattle.admission.proofs.Rising.{skip_stays}
use Rattle.admission.proofs.Stays.{progress_stays}
use Rattle.tempo_engine.specs.Fed.{last_number}
use Rattle.tempo_engine.specs.Output.{plan_text}
use Rattle.tempo_cli.specs.Answers.{IsFinal, IsFront}
use Rattle.tempo_cli.specs.Told.{entry_at, told_at, told_from, told, fed_from, fed, answers}
use Rattle.tempo_cli.specs.Resumed.{later, resumed}
use Rattle.tempo_cli.specs.Feeding.{Asked}
use Rattle.tempo_cli.proofs.Said.{told-append, are_read, behind_read}
use Rattle.tempo_cli.proofs.Final.{text_before, answers_final}
use Rattle.tempo_cli.proofs.Fed.{same_text, skipped, long_is_bad, some_stream}
use Rattle.tempo_cli.proofs.Fronts.{le_or_lt}

-- a run that goes on
abbrev pub behind : PlanParts → Policy → List Told → ℕ → Asked
behind plan policy before k = record { plan = plan; policy = policy; header = false; before = before; passed = k }

pub resumed_final : (plan : PlanParts) → IsPlan plan → (policy : Policy) (before : List Told) → AreRead (length plan.streams) before → (k : ℕ) → IsFinal (resumed plan policy before k)
resumed_final plan is policy before read k = answers_final (behind plan policy before k) is read

front_and_rest : (x y : List ℕ) → IsFront x y → x ++ drop (length x) y ≡ y
front_and_rest x y front = ap (λ z. x ++ z) (ap (drop (length x)) front.1 ∙ drop-append_seam x front.0) ∙ sym front.1

-- what was written before, and what is written behind, is the text of all lines
pub both_texts : (plan : PlanParts) → IsPlan plan → (policy : Policy) (before : List Told) (k : ℕ) (lines : List (List ℕ)) (ended : Bool) → AreRead (length plan.streams) before → All HasNoLf lines →
    plan_text plan policy before false ++ (resumed plan policy before k).text lines ended ≡ plan_text plan policy (before ++ later plan.streams before k lines) ended
both_texts plan is policy before k lines ended read free =
    front_and_rest (plan_text plan policy before false) _ (text_before plan is policy before _ ended read (behind_read (behind plan policy before k) read lines free))

-- only line 1 can be a header
no_header : (header : Bool) (n : ℕ) → 1 < n → (header && nat_eq n 1) ≡ false
no_header true n low = grind (arith, nat_tests)
no_header false n low = refl

same_entry : (streams : List StreamDef) (header : Bool) (n : ℕ) (line : List ℕ) → 1 < n → entry_at streams header n line ≡ entry_at streams false n line
unfolding entry_at
same_entry streams header n line low = ap (λ b. cond (nat_lt 65536 (length line)) (Err TooLong) (cond b (Ok Skip) (entry streams (nat_eq n 1) line))) (no_header header n low)

told_behind : (streams : List StreamDef) (header : Bool) (n : ℕ) (ls : List (List ℕ)) → 1 < n → told_from streams header n ls ≡ told_from streams false n ls
told_behind streams header n [] low = refl
told_behind streams header n (l ∷ ls) low =
    ap (λ r. record { number = n; read = r } ∷ told_from streams header (suc n) ls) (same_entry streams header n l low)
    ∙ ap (λ x. told_at streams false n l ∷ x) (told_behind streams header (suc n) ls (omega arith))

fed_behind : (streams : List StreamDef) (header : Bool) (n : ℕ) (ls : List (List ℕ)) → 1 < n → fed_from streams header n ls ≡ told_from streams false n ls
fed_behind streams header n [] low = refl
fed_behind streams header n (l ∷ ls) low =
    ap (λ b. cond b (fed_from streams header (suc n) ls) (told_at streams false n l ∷ fed_from streams header (suc n) ls)) (no_header header n low)
    ∙ ap (λ x. told_at streams false n l ∷ x) (fed_behind streams header (suc n) ls (omega arith))

fed_plain : (streams : List StreamDef) (n : ℕ) (ls : List (List ℕ)) → fed_from streams false n ls ≡ told_from streams false n ls
fed_plain streams n [] = refl
fed_plain streams n (l ∷ ls) = ap (λ x. told_at streams false n l ∷ x) (fed_plain streams (suc n) ls)

-- the last number
last_from : (streams : List StreamDef) (n a : ℕ) (ls : List (List ℕ)) → a + 1 ≡ n → fold (λ (m : ℕ) (t : Told). t.number) a (told_from streams false n ls) + 1 ≡ n + length ls
last_from streams n a [] e = omega arith
last_from streams n a (l ∷ ls) e = let t : n + 1 ≡ suc n = omega arith in omega (arith, last_from streams (suc n) n ls t)

-- the lines of a run, as they were told to an engine
record AreTold (plan : PlanParts) (policy : Policy) (header : Bool) (A : List (List ℕ)) : Type 0 where
  read : AreRead (length plan.streams) (fed plan.streams header A)
  number : last_number (fed plan.streams header A) ≡ length A
  same : steps plan policy start (fed plan.streams header A) ≡ steps plan policy start (told plan.streams header A)

module _ (plan : PlanParts) (is : IsPlan plan) (policy : Policy) where
  skips : (line : List ℕ) (rest : List (List ℕ)) → fault plan policy (told plan.streams true (line ∷ rest)) false ≡ None →
      steps plan policy start (told_from plan.streams false 2 rest) ≡ steps plan policy start (told plan.streams true (line ∷ rest))
  skips line rest fine = elim (le_or_lt (length line) 65536) [
    | inl short ↦
        let one = skipped plan.streams true 1 line refl short in
        ap (steps plan policy start) (sym (told_behind plan.streams true 2 rest (omega arith)))
        ∙ (ap (λ w. steps plan policy w (told_from plan.streams true 2 rest)) (sym (skip_stays plan policy [] 1 (some_stream plan is)))
        ∙ ap (λ r. steps plan policy start (record { number = 1; read = r } ∷ told_from plan.streams true 2 rest)) (sym one))
    | inr long ↦
        let bad : fault plan policy (told_at plan.streams true 1 line ∷ []) false ≡ Some (Malformed 1 TooLong) = ap (λ r. fault plan policy (record { number = 1; read = r } ∷ []) false) (long_is_bad plan.streams true 1 line long) in
        let stays = progress_stays plan policy (told_at plan.streams true 1 line ∷ []) (told_from plan.streams true 2 rest) false (Malformed 1 TooLong) bad in
        absurd (some_or_none (sym bad ∙ (sym (ap (λ (w : Progress). w.fault) stays) ∙ fine)))
  ]
    where
      some_or_none : Some (Malformed 1 TooLong) ≡ None → ⊥
      some_or_none e = cc

  are_told : (header : Bool) (A : List (List ℕ)) → All HasNoLf A → (header ≡ true → 1 < length A) → fault plan policy (told plan.streams header A) false ≡ None → AreTold plan policy header A
  are_told false A free some fine = record {
    read = subst (AreRead (length plan.streams)) (sym (fed_plain plan.streams 1 A)) (are_read plan.streams false 1 A free);
    number = omega (arith, last_from plan.streams 1 0 A refl, ap last_number (fed_plain plan.streams 1 A));
    same = ap (steps plan policy start) (fed_plain plan.streams 1 A);
  }
  are_told true [] free some fine = absurd (omega (arith, some refl))
  are_told true (h ∷ []) free some fine = absurd (omega (arith, some refl))
  are_told true (h ∷ l ∷ A) free some fine =
      let two : fed plan.streams true (h ∷ l ∷ A) ≡ told_from plan.streams false 2 (l ∷ A) = fed_behind plan.streams true 2 (l ∷ A) (omega arith) in
      record {
        read = subst (AreRead (length plan.streams)) (sym two) (are_read plan.streams false 2 (l ∷ A) (λ k d low. free (suc k) d (omega arith)));
        number = omega (arith, last_from plan.streams 3 2 A refl, ap last_number two);
        same = ap (steps plan policy start) two ∙ skips h (l ∷ A) fine;
      }

  same_behind : (header : Bool) (n : ℕ) (B : List (List ℕ)) → (header ≡ true → 1 < n) → told_from plan.streams header n B ≡ told_from plan.streams false n B
  same_behind false n B some = refl
  same_behind true n B some = told_behind plan.streams true n B (some refl)

  -- a run that is cut in two writes what the whole one does
  pub one_run : (header : Bool) (A B C : List (List ℕ)) (ended : Bool) → All HasNoLf A → All HasNoLf B → (header ≡ true → 1 < length A) → (answers plan policy header).fault A false ≡ None →
      (answers plan policy header).text A false ++ (resumed plan policy (fed plan.streams header A) (length C)).text (C ++ B) ended ≡ (answers plan policy header).text (A ++ B) ended
  one_run header A B C ended free_A free_B some fine =
      let x = fed plan.streams header A in
      let t = are_told header A free_A some fine in
      let y = told_from plan.streams false (suc (length A)) B in
      let behind_is : later plan.streams x (length C) (C ++ B) ≡ y = ap (told_from plan.streams false (suc (last_number x))) (drop-append_seam C B) ∙ ap (λ n. told_from plan.streams false (suc n) B) t.number in
      let read_y : AreRead (length plan.streams) y = are_read plan.streams false (suc (length A)) B free_B in
      let n : suc (length A) ≡ 1 + length A = omega arith in
      let all : told plan.streams header (A ++ B) ≡ told plan.streams header A ++ y =
      told-append plan.streams header 1 A B ∙ ap (λ z. told plan.streams header A ++ z) (ap (λ k. told_from plan.streams header k B) (sym n) ∙ same_behind header (suc (length A)) B (λ e. omega (arith, some e))) in
      let steps_same : steps plan policy start (x ++ y) ≡ steps plan policy start (told plan.streams header (A ++ B)) =
      steps-append plan policy start x y ∙ (ap (λ w. steps plan policy w y) t.same ∙ (sym (steps-append plan policy start (told plan.streams header A) y) ∙ ap (steps plan policy start) (sym all))) in
      let cut = length (plan_text plan policy x false) in
      ap (λ z. z ++ drop cut (plan_text plan policy (x ++ later plan.streams x (length C) (C ++ B)) ended)) (sym (same_text plan policy x (told plan.streams header A) false t.same))
      ∙ (ap (λ z. plan_text plan policy x false ++ drop cut (plan_text plan policy (x ++ z) ended)) behind_is
      ∙ (front_and_rest (plan_text plan policy x false) _ (text_before plan is policy x y ended t.read read_y)
      ∙ same_text plan policy (x ++ y) (told plan.streams header (A ++ B)) ended steps_same))
