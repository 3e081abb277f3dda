-- An engine that goes on from what was read back.
use Rattle.std.proofs.Common.{◌≡◌, ◌≤◌, ℕ, suc, List, [], ◌++◌, length, drop, take, Bool, true, false, None, inl, inr, refl, sym, ◌∙◌, ap, arith, append_assoc, append-nil, subst}
use Rattle.std.specs.Prelude.{◌||◌}
use Rattle.std.specs.List.{All}
use Rattle.std.proofs.lemmas.List.{drop_all, take_all}
use Rattle.wire_lines.specs.Journal.{Entry, IsOut, ins, ended}
use Rattle.wire_lines.specs.Cutter.{CutterState}
use Rattle.wire_lines.specs.Cuts.{Cuts}
use Rattle.wire_lines.specs.Lines.{lines}
use Rattle.wire_lines.proofs.Cutting.{lines_go_on}
use Rattle.wire_lines.proofs.Growth.{ins-append}
use Rattle.plan_model.specs.IsPlan.{PlanParts}
use Rattle.plan_model.specs.declared.fault.QueryFault.{QueryFault}
use Rattle.admission.specs.Entries.{Told}
use Rattle.admission.specs.Progress.{start, steps}
use Rattle.admission.specs.declared.policy.Policy.{Policy}
use Rattle.frozen_state.specs.Frozen.{FrozenView}
use Rattle.frozen_state.proofs.Names.{parts_apart}
use Rattle.checkpoint.specs.Form.{FormView, form_of}
use Rattle.checkpoint.specs.Text.{checkpoint_lines}
use Rattle.tempo_engine.specs.Fed.{Fed, last_number}
use Rattle.tempo_engine.specs.Frozen.{Fits, IsState}
use Rattle.tempo_cli.specs.Table.{limit, Ends}
use Rattle.tempo_cli.specs.Told.{told_from, fed_from}
use Rattle.tempo_cli.specs.Freezing.{Froze, IsShort}
use Rattle.tempo_cli.specs.Restoring.{AreFront, IsReadBack, HasRestored, IsUnclaimed, Resumes}
use Rattle.tempo_cli.specs.Feeding.{Asked, answers_to, said, fed_by, Took, HasCut, LineRules, IsAsked}
use Rattle.tempo_cli.specs.Working.{EndsFor}
use Rattle.tempo_cli.specs.Restored.{IsQuiet, CameIn, GoesOnFrom, StandsBehind, GrewBy, IsFitting}
use Rattle.tempo_cli.specs.declared.answering.Answering.{Answering}
use Rattle.tempo_cli.specs.declared.resuming.Restoring.{Restoring}
use Rattle.tempo_cli.specs.declared.status.Status.{Status}
use Rattle.tempo_cli.specs.declared.status.Status.TheVariants as statuses
use Rattle.tempo_cli.proofs.Behind.{behind}
use Rattle.tempo_cli.proofs.Breaking.{quiet_resumed, same_whole}
use Rattle.tempo_cli.proofs.Giving.{bad_behind}
use Rattle.tempo_cli.proofs.Journals.{ended-append, ins_outs}
use Rattle.tempo_cli.proofs.Lines.{lines_within}
use Rattle.tempo_cli.proofs.Moves.{given_low}

-- what fits lines
pub fitting : (query : List ℕ) (workers : ℕ) (plan : PlanParts) (policy : Policy) → ((before : List Told) (f : FrozenView) → Fits workers plan policy before f → IsState workers plan f) →
    IsFitting (form_of query workers policy plan) (Fits workers plan policy) (IsState workers plan) plan policy
fitting query workers plan policy state = record {
  apart = parts_apart workers plan;
  sound = λ before f fits. fits.by.sound;
  read = λ before f fits. fits.by.read;
  fine = λ before f fits. fits.by.fine;
  number = λ before f fits. fits.by.number;
  state = state;
}

rules : PlanParts → ℕ → ℕ → LineRules
rules plan base skipped = record { streams = plan.streams; base = base; skipped = skipped }

same_rules : (p : PlanParts) (b n : ℕ) (plan : PlanParts) (base skipped : ℕ) → p ≡ plan → b ≡ base → n ≡ skipped → rules p b n ≡ rules plan base skipped
same_rules p b n plan base skipped e f g = ap (λ x. rules x b n) e ∙ (ap (λ x. rules plan x n) f ∙ ap (rules plan base) g)

-- a checkpoint that came in stands in front of all lines, whatever came behind it
module _ {form : FormView} {f : FrozenView} {r : Restoring} {left : ℕ} {over : Bool} {J : List Entry} (k : CameIn form f r left over J) where
  front_of : (b : Bool) → over ≡ b → (K : List Entry) → (over ≡ true → All IsOut K) → AreFront k.given (lines (ins (J ++ K)) (ended (J ++ K)))
  front_of false e K o =
      let cut = k.within e in
      let all : ins (J ++ K) ≡ _ = ins-append J K ∙ (ap (λ x. x ++ ins K) cut.cuts.all ∙ append_assoc _ r.cutter.rest (ins K)) in
      (_, lines_go_on (ins (J ++ K)) (r.cutter.rest ++ ins K) k.given (ended (J ++ K)) all cut.cuts.each)
  front_of true e K o =
      let came : ins (J ++ K) ≡ ins J = ins-append J K ∙ (ap (λ x. ins J ++ x) (ins_outs K (o e)) ∙ append-nil (ins J)) in
      let at_end : ended (J ++ K) ≡ true = ended-append J K ∙ ap (λ x. x || ended K) (k.ended_is ∙ e) in
      ([], ap (λ x. lines x (ended (J ++ K))) came ∙ (ap (lines (ins J)) at_end ∙ ((k.all e).0 ∙ sym (append-nil k.given))))

  -- and in front of those of the first bytes
  front_within : (b : Bool) → over ≡ b → AreFront k.given (lines (take limit (ins J)) (ended J))
  front_within false e =
      let cut = k.within e in
      (_, lines_within (ins J) r.cutter.rest k.given (ended J) cut.cuts.all cut.cuts.each (given_low cut))
  front_within true e =
      ([], ap (λ x. lines x (ended J)) (take_all limit (ins J) (k.all e).1) ∙ (ap (lines (ins J)) (k.ended_is ∙ e) ∙ ((k.all e).0 ∙ sym (append-nil k.given))))

  pub came_front : (K : List Entry) → (over ≡ true → All IsOut K) → AreFront k.given (lines (ins (J ++ K)) (ended (J ++ K)))
  came_front K o = front_of over refl K o

  pub came_read : (ls : List (List ℕ)) → AreFront k.given ls → IsReadBack form f ls
  came_read ls front = record {
    of_form = k.whole.of_form;
    short = subst (All IsShort) k.whole.text k.whole.short;
    front = (front.0, front.1 ∙ ap (λ x. x ++ front.0) k.whole.text);
  }

  came_now : AreFront k.given (lines (ins J) (ended J))
  came_now = let x = came_front [] (λ e i d low. absurd (omega arith)) in subst (λ K. AreFront k.given (lines (ins K) (ended K))) (append-nil J) x

  came_within : AreFront k.given (lines (take limit (ins J)) (ended J))
  came_within = front_within over refl

  pub restored : (IsState : FrozenView → Type 0) → IsState f → (K : List Entry) → HasRestored form IsState (J ++ K)
  restored IsState state K = record { frozen = f; state = state; front = J; back = K; are = refl; read = came_read _ came_now; unwritten = k.heard.unwritten }

  -- how the lines behind it are read
  pub rules_behind : PlanParts → LineRules
  rules_behind plan = record { streams = plan.streams; base = f.lines; skipped = length k.given }

  -- an engine that was made of it goes on from there
  pub stands_behind : (plan : PlanParts) (s : Answering) → s.cutter ≡ r.cutter → s.engine.fault ≡ None → s.engine.parts.dataflow.plan ≡ plan → s.base ≡ f.lines → s.skipped ≡ r.taken →
      StandsBehind (rules_behind plan) s left over J
  unfolding rules rules_behind
  stands_behind plan s cutter fine planned base skipped = record {
    fine = fine;
    may_come = λ e. record {
      given = k.given;
      gives = record {
        cut = subst (HasCut (ins J) k.given) (sym cutter) (k.within e);
        fine = fine;
        rules = same_rules s.engine.parts.dataflow.plan s.base s.skipped plan f.lines (length k.given) planned base (skipped ∙ k.number);
        low = k.whole.of_form.read.times.0;
        passed = omega arith;
      };
      goes_on = k.ended_is ∙ e;
      count = k.count;
    };
  }

  -- whatever is told of what is behind it
  pub behind_unclaimed : (IsState : FrozenView → Type 0) (plan : PlanParts) → IsState f → (status : Status) (K : List Entry) → (over ≡ true → All IsOut K) → EndsFor (rules_behind plan) status (J ++ K) →
      (status ≡ statuses.BadWords → ⊥) → ((fault : QueryFault) → status ≡ statuses.BadQuery fault → ⊥) → IsUnclaimed form IsState plan.streams status (J ++ K)
  unfolding restored rules_behind
  behind_unclaimed IsState plan state statuses.InputTooLong K o why words query = record { long = why; silent = inr (restored IsState state K) }
  behind_unclaimed IsState plan state statuses.ReadFault K o why words query = inr (restored IsState state K)
  behind_unclaimed IsState plan state statuses.Memory K o why words query = inr (restored IsState state K)
  behind_unclaimed IsState plan state statuses.BadWords K o why words query = absurd (words refl)
  behind_unclaimed IsState plan state (statuses.BadQuery fault) K o why words query = absurd (query fault refl)
  behind_unclaimed IsState plan state (statuses.BadCheckpoint line) K o why words query = absurd why
  behind_unclaimed IsState plan state (statuses.Malformed n cause) K o why words query =
      let front = came_front K o in
      record {
        restored = restored IsState state K;
        behind = front.0;
        lines_are = front.1 ∙ ap (λ x. x ++ front.0) k.whole.text;
        bad = bad_behind (rules_behind plan) k.given front.0 (lines (ins (J ++ K)) (ended (J ++ K))) n cause front.1 refl why;
      }
  behind_unclaimed IsState plan state status K o why words query = restored IsState state K

  module _ {Fits : List Told → FrozenView → Type 0} {IsState : FrozenView → Type 0} {plan : PlanParts} {policy : Policy} (fits : IsFitting form Fits IsState plan policy) where
    -- what is asked is asked behind the lines that were read
    same_lines : {before : List Told} {C : List (List ℕ)} (froze : Froze form (Fits before) C) (K : List Entry) → (over ≡ true → All IsOut K) → AreFront C (lines (ins (J ++ K)) (ended (J ++ K))) → (froze.frozen ≡ f) × (C ≡ k.given)
    same_lines {before} {C} froze K o front =
        let c = came_front K o in
        let same = same_whole froze front f fits.apart k.whole.of_form (c.0, c.1 ∙ ap (λ x. x ++ c.0) k.whole.text) in
        (same, froze.text ∙ (ap (checkpoint_lines form.head) same ∙ sym k.whole.text))

    pub behind_resumes : (status : Status) (K : List Entry) → GrewBy (rules_behind plan) over status J K → (status ≡ statuses.BadWords → ⊥) → ((fault : QueryFault) → status ≡ statuses.BadQuery fault → ⊥) → IsState f →
        ((x : (before : List Told) × Fits before f) → Ends (answers_to (behind plan policy x.0 (length k.given))) status (J ++ K)) → Resumes form Fits IsState plan policy status (J ++ K)
    behind_resumes status K grew words query state each = record {
      resumed = λ before C froze front.
          let same = same_lines froze K grew.outs_alone front in
          subst (λ n. Ends (answers_to (behind plan policy before n)) status (J ++ K)) (ap length (sym same.1)) (each (before, subst (Fits before) same.0 froze.fits));
      unclaimed = behind_unclaimed IsState plan state status K grew.outs_alone grew.reason words query;
    }

    -- it is no state
    pub no_state : (n : ℕ) → n ≡ length k.given → (IsState f → ⊥) → Resumes form Fits IsState plan policy (statuses.BadCheckpoint n) J
    no_state n is refused = record {
      resumed = λ before C froze front.
          let same = same_whole froze front f fits.apart k.whole.of_form (came_now.0, came_now.1 ∙ ap (λ x. x ++ came_now.0) k.whole.text) in
          absurd (refused (fits.state before f (subst (Fits before) same froze.fits)));
      unclaimed = record {
        within = inr (record { frozen = f; read = came_read _ came_within; number = is ∙ ap length k.whole.text; refused = refused });
        first = inr (record { frozen = f; read = came_read _ came_now; number = is ∙ ap length k.whole.text; refused = refused });
        unwritten = k.heard.unwritten;
      };
    }

    quiet : (before : List Told) → Fits before f → IsQuiet (answers_to (behind plan policy before (length k.given))) (length k.given)
    quiet before h = quiet_resumed plan policy before (length k.given) (fits.fine before f h)

    -- it was out of memory
    pub no_room : Resumes form Fits IsState plan policy statuses.Memory J
    no_room = record {
      resumed = λ before C froze front.
          let q = quiet_resumed plan policy before (length C) (fits.fine before froze.frozen froze.fits) in
          let same : C ≡ k.given = froze.text ∙ (ap (checkpoint_lines form.head) (same_whole froze front f fits.apart k.whole.of_form (came_now.0, came_now.1 ∙ ap (λ x. x ++ came_now.0) k.whole.text)) ∙ sym k.whole.text) in
          record {
            prompt = k.heard.prompt _ (subst (IsQuiet _) (ap length same) q);
            end = record { k = 0; few = omega arith; written = k.heard.unwritten ∙ sym (q.no_text [] (omega arith)) };
          };
      unclaimed = inl k.heard.unwritten;
    }

    -- an engine that fits goes on from there
    pub goes_on_from : (s : Answering) → s.cutter ≡ r.cutter → s.header ≡ false → s.base ≡ f.lines → s.skipped ≡ r.taken → (before : List Told) → Fits before f → Fed plan policy before s.engine →
        GoesOnFrom (behind plan policy before (length k.given)) s left over J
    goes_on_from s cutter header base skipped before h fed =
        let q : Asked = behind plan policy before (length k.given) in
        let none : drop (length k.given) k.given ≡ [] = drop_all (length k.given) k.given (omega arith) in
        let said_is : said q k.given ≡ before = ap (λ x. before ++ told_from plan.streams false (suc (last_number before)) x) none ∙ append-nil before in
        let fed_is : fed_by q k.given ≡ before = ap (λ x. before ++ fed_from plan.streams false (suc (last_number before)) x) none ∙ append-nil before in
        let took : Took q k.given s.engine = record { fed = before; is = sym fed_is; took = fed; same = ap (steps plan policy start) (sym said_is) } in
        let silent = quiet before h in
        record {
          prompt = k.heard.prompt (answers_to q) silent;
          ended_is = k.ended_is;
          reading = λ e. record {
            prompt = k.heard.prompt (answers_to q) silent;
            goes_on = k.ended_is ∙ e;
            given = k.given;
            holds = record {
              header = header;
              base = base ∙ fits.number before f h;
              low = omega (arith, base, k.whole.of_form.read.times.0);
              skipped = skipped ∙ k.number;
              passed = omega arith;
              within = record {
                longest = ap (λ (c : CutterState). c.longest) cutter ∙ (k.within e).longest;
                total = ap (λ (c : CutterState). c.total) cutter ∙ (k.within e).total;
                cuts = subst (λ c. Cuts (ins J) c k.given) (sym cutter) (k.within e).cuts;
                fine = silent.no_fault k.given (omega arith);
              };
              engine = took;
            };
            written = k.heard.unwritten ∙ sym (silent.no_text k.given (omega arith));
            count = k.count;
          };
          all = λ e.
              let ls = (k.all e).0 in
              let low : length (lines (ins J) true) ≤ length k.given = omega (arith, ap length ls) in
              record {
                few = (k.all e).1;
                fine = silent.no_fault (lines (ins J) true) low;
                engine = subst (λ x. Took q x s.engine) (sym ls) took;
                so_far = k.heard.unwritten ∙ sym (silent.no_text (lines (ins J) true) low);
              };
        }

-- the status tells of no words and of no query
pub no_words : (status : Status) → IsAsked status → status ≡ statuses.BadWords → ⊥
no_words status is e = subst IsAsked e is

pub no_query : (status : Status) → IsAsked status → (fault : QueryFault) → status ≡ statuses.BadQuery fault → ⊥
no_query status is fault e = subst IsAsked e is

-- before anything came in
pub no_room_first : {form : FormView} {Fits : List Told → FrozenView → Type 0} {IsState : FrozenView → Type 0} {plan : PlanParts} {policy : Policy} → IsFitting form Fits IsState plan policy → Resumes form Fits IsState plan policy statuses.Memory []
no_room_first {form} {Fits} {IsState} {plan} {policy} fits = record {
  resumed = λ before C froze front.
      let q = quiet_resumed plan policy before (length C) (fits.fine before froze.frozen froze.fits) in
      record { prompt = tt; end = record { k = 0; few = omega arith; written = sym (q.no_text [] (omega arith)) } };
  unclaimed = inl refl;
}
