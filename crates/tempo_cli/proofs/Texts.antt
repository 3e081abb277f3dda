-- The text of a checkpoint.
use Rattle.std.proofs.Common.{◌≡◌, ◌<◌, ◌+◌, ◌^◌, ◌++◌, ℕ, List, [], ◌∷◌, length, false, sym, ◌∙◌, ap, subst, arith}
use Rattle.std.proofs.lemmas.Grind.{flat_map-append}
use Rattle.wire_lines.specs.Journal.{Entry}
use Rattle.wire_lines.specs.Lines.{joined}
use Rattle.plan_model.specs.IsPlan.{PlanParts, IsPlan}
use Rattle.admission.specs.Entries.{Told}
use Rattle.admission.specs.Progress.{progress}
use Rattle.admission.specs.declared.policy.Policy.{Policy}
use Rattle.frozen_state.specs.Formed.{IsFormed}
use Rattle.frozen_state.specs.Frozen.{FrozenView}
use Rattle.checkpoint.specs.Form.{FormView, form_of}
use Rattle.checkpoint.specs.Text.{checkpoint_lines}
use Rattle.checkpoint.specs.Writing.{bytes_of}
use Rattle.tempo_engine.specs.Fed.{WhateverTook}
use Rattle.tempo_engine.specs.Frozen.{Fits}
use Rattle.tempo_cli.specs.Feeding.{fed_by}
use Rattle.tempo_cli.specs.Freezing.{HasText}
use Rattle.tempo_cli.specs.Jobs.{form_asked}
use Rattle.tempo_cli.proofs.Halting.{froze_of}
use Rattle.tempo_cli.specs.Keeping.{Task, Places, query_of, answers_of, places_after, task_after, place_lines, StartsTask, last_behind}
use Rattle.tempo_cli.specs.Standing.{Stands}
use Rattle.tempo_cli.specs.declared.keeping.Keeper.{Keeper}

bytes_on : (xs ys : List (List ℕ)) → bytes_of (xs ++ ys) ≡ bytes_of xs ++ bytes_of ys
bytes_on xs ys = flat_map-append (λ line. line ++ 10 ∷ []) xs ys

abbrev places_at : ℕ → ℕ → Places
places_at a b = record { input = a; output = b }

same_places : (a b c d : ℕ) → a ≡ c → b ≡ d → places_at a b ≡ places_at c d
same_places a b c d e f = ap (λ (x : ℕ). places_at x b) e ∙ ap (λ (y : ℕ). places_at c y) f

module _ {t : Task} {k : Keeper} {J : List Entry} {given : List (List ℕ)} {counts : List ℕ} (s : Stands t k J given counts) where
  -- the last punctuation of the engine
  pub last_is : (r : ℕ) → WhateverTook k.answering.engine (λ plan policy lines. r ≡ (progress plan policy lines false).last) → r ≡ last_behind t given
  last_is r h =
      let took = s.holds.engine in
      h t.plan t.asked.policy took.fed took.took ∙ ap (λ (ls : List Told). (progress t.plan t.asked.policy ls false).last) took.is

  pub text_starts : (input : ℕ) (frozen : FrozenView) (text : List ℕ) → input ≡ k.input + k.answering.cutter.passed → input < 2 ^ 64 → k.output < 18446744073709551615 →
      WhateverTook k.answering.engine (λ plan policy lines. Fits k.answering.engine.parts.dataflow.workers plan policy lines frozen) →
      ((query : List ℕ) (workers : ℕ) (plan : PlanParts) (policy : Policy) → IsFormed workers plan frozen → IsPlan plan → workers < 2 ^ 64 → policy.lateness < 2 ^ 64 → policy.period < 2 ^ 64 → HasText (form_of query workers policy plan) frozen) →
      text ≡ bytes_of (place_lines (record { input = input; output = k.output })) ++ bytes_of (checkpoint_lines k.form.head frozen) → StartsTask (task_after t given) text
  text_starts input frozen text input_is low short whatever has is =
      let took = s.holds.engine in
      let w = k.answering.engine.parts.dataflow.workers in
      let fits0 = whatever t.plan t.asked.policy took.fed took.took in
      let fits : Fits t.asked.workers t.plan t.asked.policy (fed_by (query_of t) given) frozen =
      subst (λ ls. Fits t.asked.workers t.plan t.asked.policy ls frozen) took.is (subst (λ n. Fits n t.plan t.asked.policy took.fed frozen) s.is_for.workers fits0) in
      let f = s.is_for.form in
      let has0 = has t.asked.query w t.plan t.asked.policy fits0.by.formed fits0.by.sound f.workers_fit f.lateness_fits f.period_fits in
      let text_of : HasText (form_asked t.asked t.plan) frozen = subst (λ n. HasText (form_of t.asked.query n t.asked.policy t.plan) frozen) s.is_for.workers has0 in
      let form : k.form ≡ form_asked t.asked t.plan = f.form_is ∙ ap (λ n. form_of t.asked.query n t.asked.policy t.plan) s.is_for.workers in
      let C : List (List ℕ) = checkpoint_lines (form_asked t.asked t.plan).head frozen in
      let out : k.output ≡ t.start.output + length ((answers_of t).text given false) = omega (arith, s.output, short, ap length s.written) in
      let at : input ≡ t.start.input + length (joined given) = omega (arith, input_is, s.is_for.input, s.holds.within.cuts.passed_is) in
      let places : places_at input k.output ≡ places_after t given = same_places input k.output _ _ at out in
      record {
        C = C;
        froze = froze_of frozen text_of fits;
        low = (omega (arith, at, low), omega (arith, out, short));
        text = is ∙ (ap (λ (p : Places). bytes_of (place_lines p) ++ bytes_of (checkpoint_lines k.form.head frozen)) places
            ∙ (ap (λ (y : FormView). bytes_of (place_lines (places_after t given)) ++ bytes_of (checkpoint_lines y.head frozen)) form
            ∙ sym (bytes_on (place_lines (places_after t given)) C)));
      }
