-- What an engine says of the lines that it was fed, with a header or without.
use Rattle.std.proofs.Common.{◌≡◌, ◌≤◌, ◌<◌, ℕ, List, [], ◌∷◌, ◌++◌, length, drop, Bool, true, false, cond, Some, None, Ok, Err, refl, sym, ◌∙◌, ap, arith, append-nil, subst}
use Rattle.std.specs.Prelude.{nat_lt, nat_eq, ◌&&◌, flat_map}
use Rattle.std.proofs.lemmas.Bool.Decides.{nat_tests}
use Rattle.tw_rows.specs.declared.schema.StreamDef.{StreamDef}
use Rattle.plan_model.specs.IsPlan.{PlanParts, IsPlan, AreNodes, ReadsStream}
use Rattle.plan_model.specs.Meaning.{HasLower, left_child}
use Rattle.plan_model.specs.declared.node.Node.{Node}
use Rattle.plan_model.specs.declared.node.Node.TheVariants.{Source}
use Rattle.row_reader.specs.Entry.{entry}
use Rattle.row_reader.specs.declared.entry.BadLine.TheVariants.{TooLong}
use Rattle.row_reader.specs.declared.entry.Entry.TheVariants.{Skip}
use Rattle.admission.specs.Entries.{Told, AreRead}
use Rattle.admission.specs.Progress.{Malformed, start, step, steps, at_end, fault, unless_fault, reading}
use Rattle.admission.specs.Text.{written}
use Rattle.admission.specs.declared.policy.Policy.{Policy}
use Rattle.admission.proofs.Finality.{steps-append}
use Rattle.admission.proofs.Rising.{skip_stays}
use Rattle.tempo_engine.specs.Fed.{Fed}
use Rattle.tempo_engine.specs.Faults.{IsFaultOf}
use Rattle.tempo_engine.specs.Output.{item_text, result_kinds, plan_text}
use Rattle.tempo_engine.specs.Output.{told as read_at}
use Rattle.tempo_engine.specs.Went.{EngineView}
use Rattle.tempo_engine.specs.declared.fault.EngineFault.{EngineFault}
use Rattle.tempo_cli.specs.Answers.{IsFinal}
use Rattle.tempo_cli.specs.Told.{entry_at, told_at}
use Rattle.tempo_cli.specs.Feeding.{Asked, answers_to, said, fed_by, IsNext, IsNoHeader, Took}
use Rattle.tempo_cli.proofs.Said.{said_pushed, fed_pushed, read_parts}
use Rattle.tempo_cli.proofs.Final.{front_low, cut_grows, text_before, answers_final}

-- one line more
pub steps_pushed : (q : Asked) (given : List (List ℕ)) (line : List ℕ) (number : ℕ) → IsNext q given number →
    steps q.plan q.policy start (said q (given ++ line ∷ [])) ≡ step q.plan q.policy (steps q.plan q.policy start (said q given)) (told_at q.plan.streams q.header number line)
steps_pushed q given line number next =
    ap (steps q.plan q.policy start) (said_pushed q given line number next)
    ∙ steps-append q.plan q.policy start (said q given) (told_at q.plan.streams q.header number line ∷ [])

pub same_fault : (plan : PlanParts) (policy : Policy) (xs ys : List Told) (ended : Bool) → steps plan policy start xs ≡ steps plan policy start ys → fault plan policy xs ended ≡ fault plan policy ys ended
same_fault plan policy xs ys ended e = ap (λ w. (at_end plan ended w).fault) e

pub same_text : (plan : PlanParts) (policy : Policy) (xs ys : List Told) (ended : Bool) → steps plan policy start xs ≡ steps plan policy start ys → plan_text plan policy xs ended ≡ plan_text plan policy ys ended
same_text plan policy xs ys ended e = ap (λ w. flat_map (item_text (result_kinds plan)) (written plan (at_end plan ended w))) e

-- a line that is no header, and not too long, is read
pub plain : (streams : List StreamDef) (header : Bool) (number : ℕ) (line : List ℕ) → (header && nat_eq number 1) ≡ false → length line ≤ 65536 → entry_at streams header number line ≡ entry streams (nat_eq number 1) line
unfolding entry_at
plain streams header number line not_first short = let t : nat_lt 65536 (length line) ≡ false = grind (arith, nat_tests) in rw (t, not_first) refl

-- the header says nothing
pub skipped : (streams : List StreamDef) (header : Bool) (number : ℕ) (line : List ℕ) → (header && nat_eq number 1) ≡ true → length line ≤ 65536 → entry_at streams header number line ≡ Ok Skip
unfolding entry_at
skipped streams header number line first short = let t : nat_lt 65536 (length line) ≡ false = grind (arith, nat_tests) in rw (t, first) refl

pub long_is_bad : (streams : List StreamDef) (header : Bool) (number : ℕ) (line : List ℕ) → 65536 < length line → entry_at streams header number line ≡ Err TooLong
unfolding entry_at
long_is_bad streams header number line long = let t : nat_lt 65536 (length line) ≡ true = grind (arith, nat_tests) in rw t refl

reads_stream : (streams : List StreamDef) (n : Node) → HasLower 0 (left_child n) → ReadsStream streams n → 0 < length streams
reads_stream streams (Source s) lower reads = omega arith
reads_stream streams n lower reads = absurd (omega (arith, lower))

streams_of : (streams : List StreamDef) (nodes : List Node) (plan : PlanParts) → AreNodes streams nodes plan.schemas → plan.root < length nodes → 0 < length streams
streams_of streams [] plan are low = absurd (omega arith)
streams_of streams (n ∷ nodes) plan are low = let i = are.each 0 n refl in reads_stream streams n i.left_lower i.streamed

pub some_stream : (plan : PlanParts) → IsPlan plan → 0 < length plan.streams
some_stream plan is = streams_of plan.streams plan.nodes plan is.nodes_are is.rooted

-- before a header
module _ (q : Asked) (given : List (List ℕ)) (line : List ℕ) (number : ℕ) (e : EngineView) (t : Took q given e) (next : IsNext q given number)
    (first : (q.header && nat_eq number 1) ≡ true) (short : length line ≤ 65536) where
  header_steps : steps q.plan q.policy start (said q (given ++ line ∷ [])) ≡ steps q.plan q.policy start (said q given)
  header_steps =
      ap (steps q.plan q.policy start) (said_pushed q given line number next ∙ ap (λ r. said q given ++ record { number = number; read = r } ∷ []) (skipped q.plan.streams q.header number line first short))
      ∙ skip_stays q.plan q.policy (said q given) number (some_stream q.plan t.took.by.sound)

  -- it is not fed
  header_fed : fed_by q (given ++ line ∷ []) ≡ fed_by q given
  header_fed =
      fed_pushed q given line number next
      ∙ (ap (λ b. fed_by q given ++ cond b [] (told_at q.plan.streams false number line ∷ [])) first ∙ append-nil (fed_by q given))

  pub took_header : Took q (given ++ line ∷ []) e
  took_header = record { fed = t.fed; is = t.is ∙ sym header_fed; took = t.took; same = t.same ∙ sym header_steps }

  pub text_header : (out : List ℕ) → out ≡ [] → (answers_to q).text (given ++ line ∷ []) false ≡ (answers_to q).text given false ++ out
  text_header out none =
      ap (drop (length (plan_text q.plan q.policy q.before false))) (same_text q.plan q.policy (said q (given ++ line ∷ [])) (said q given) false header_steps)
      ∙ (sym (append-nil _) ∙ ap (λ x. (answers_to q).text given false ++ x) (sym none))

-- the lines before were read
pub before_read : (q : Asked) (given : List (List ℕ)) (e : EngineView) → Took q given e → AreRead (length q.plan.streams) q.before
before_read q given e t = (read_parts (length q.plan.streams) q.before _ (subst (AreRead (length q.plan.streams)) t.is t.took.by.read)).0

-- and what they call for is a prefix of what all lines do
pub before_low : (q : Asked) (given : List (List ℕ)) (e : EngineView) → Took q given e →
    length (plan_text q.plan q.policy q.before false) ≤ length (plan_text q.plan q.policy (said q given) false)
before_low q given e t =
    let parts = read_parts (length q.plan.streams) q.before _ (subst (AreRead (length q.plan.streams)) t.is t.took.by.read) in
    let low = front_low _ _ (text_before q.plan t.took.by.sound q.policy q.before _ false parts.0 parts.1) in
    let e = ap length (sym (ap (λ x. plan_text q.plan q.policy x false) t.is) ∙ same_text q.plan q.policy t.fed (said q given) false t.same) in
    subst (λ n. length (plan_text q.plan q.policy q.before false) ≤ n) e low

-- so what is asked of them is final
pub took_final : (q : Asked) (given : List (List ℕ)) (e : EngineView) → Took q given e → IsFinal (answers_to q)
took_final q given e t = answers_final q t.took.by.sound (before_read q given e t)

-- a line more, which is no header, is said as it is fed
module _ (q : Asked) (given : List (List ℕ)) (line : List ℕ) (number : ℕ) (fed : List Told) (next : IsNext q given number)
    (not_first : IsNoHeader q number) (short : length line ≤ 65536) where
  pub same_more : steps q.plan q.policy start fed ≡ steps q.plan q.policy start (said q given) →
      steps q.plan q.policy start (fed ++ read_at q.plan number line ∷ []) ≡ steps q.plan q.policy start (said q (given ++ line ∷ []))
  same_more same =
      steps-append q.plan q.policy start fed (read_at q.plan number line ∷ [])
      ∙ ap (λ w. step q.plan q.policy w (read_at q.plan number line)) same
      ∙ ap (λ r. step q.plan q.policy (steps q.plan q.policy start (said q given)) (record { number = number; read = r })) (sym (plain q.plan.streams q.header number line not_first short))
      ∙ sym (steps_pushed q given line number next)

  pub fed_more : fed ≡ fed_by q given → fed ++ read_at q.plan number line ∷ [] ≡ fed_by q (given ++ line ∷ [])
  fed_more is =
      ap (λ x. x ++ read_at q.plan number line ∷ []) is
      ∙ (ap (λ r. fed_by q given ++ record { number = number; read = r } ∷ []) (sym (plain q.plan.streams false number line refl short))
      ∙ (ap (λ b. fed_by q given ++ cond b [] (told_at q.plan.streams false number line ∷ [])) (sym not_first) ∙ sym (fed_pushed q given line number next)))

module _ (q : Asked) (given : List (List ℕ)) (line : List ℕ) (number : ℕ) (e : EngineView) (t : Took q given e) (next : IsNext q given number)
    (not_first : IsNoHeader q number) (short : length line ≤ 65536) where
  more_steps : steps q.plan q.policy start (t.fed ++ read_at q.plan number line ∷ []) ≡ steps q.plan q.policy start (said q (given ++ line ∷ []))
  more_steps = same_more q given line number t.fed next not_first short t.same

  -- a line was fed
  pub took_more : (e' : EngineView) → Fed q.plan q.policy (t.fed ++ read_at q.plan number line ∷ []) e' → Took q (given ++ line ∷ []) e'
  took_more e' f = record { fed = t.fed ++ read_at q.plan number line ∷ []; is = fed_more q given line number t.fed next not_first short t.is; took = f; same = more_steps }

  pub text_more : (out : List ℕ) → plan_text q.plan q.policy (t.fed ++ read_at q.plan number line ∷ []) false ≡ plan_text q.plan q.policy t.fed false ++ out →
      (answers_to q).text (given ++ line ∷ []) false ≡ (answers_to q).text given false ++ out
  text_more out grows =
      cut_grows _ (plan_text q.plan q.policy (said q given) false) _ out (before_low q given e t)
      (sym (same_text q.plan q.policy (t.fed ++ read_at q.plan number line ∷ []) (said q (given ++ line ∷ [])) false more_steps)
      ∙ grows ∙ ap (λ x. x ++ out) (same_text q.plan q.policy t.fed (said q given) false t.same))

  pub fault_more : (f : EngineFault) → IsFaultOf f (fault q.plan q.policy (t.fed ++ read_at q.plan number line ∷ []) false) → IsFaultOf f ((answers_to q).fault (given ++ line ∷ []) false)
  fault_more f h = subst (IsFaultOf f) (same_fault q.plan q.policy (t.fed ++ read_at q.plan number line ∷ []) (said q (given ++ line ∷ [])) false more_steps) h

-- the lines that the engine took have no fault
pub took_fine : (q : Asked) (given : List (List ℕ)) (e : EngineView) → Took q given e → (answers_to q).fault given false ≡ None
took_fine q given e t = sym (same_fault q.plan q.policy t.fed (said q given) false t.same) ∙ t.took.by.fine

-- a line that is too long is the first fault
pub long_fault : (q : Asked) (given : List (List ℕ)) (line : List ℕ) (number : ℕ) (e : EngineView) → Took q given e → IsNext q given number → 65536 < length line →
    (answers_to q).fault (given ++ line ∷ []) false ≡ Some (Malformed number TooLong)
long_fault q given line number e t next long =
    let w = steps q.plan q.policy start (said q given) in
    let fine : w.fault ≡ None = took_fine q given e t in
    ap (λ v. v.fault) (steps_pushed q given line number next
    ∙ ap (λ r. step q.plan q.policy w (record { number = number; read = r })) (long_is_bad q.plan.streams q.header number line long)
    ∙ ap (λ f. unless_fault f w (reading q.plan q.policy number w (Err TooLong))) fine)
