-- A checkpoint that is read, from read to read.
use Rattle.std.proofs.Common.{◌≡◌, ◌≤◌, ◌<◌, ◌-◌, ◌+◌, ℕ, List, [], ◌∷◌, ◌++◌, length, true, false, Some, None, Ok, Err, refl, sym, ◌∙◌, ap, arith, append-nil, subst, true≢false}
use Rattle.std.specs.Prelude.{◌||◌}
use Rattle.std.proofs.lemmas.List.{length-append}
use Rattle.wire_lines.specs.Journal.{Entry, In, ins, outs, ended}
use Rattle.wire_lines.specs.Lines.{lines}
use Rattle.wire_lines.proofs.Growth.{ins-append, outs-append}
use Rattle.frozen_state.specs.Frozen.{FrozenView}
use Rattle.checkpoint.specs.Form.{FormView}
use Rattle.tempo_cli.specs.Answers.{Answers}
use Rattle.tempo_cli.specs.Table.{limit, IsReady}
use Rattle.tempo_cli.specs.Feeding.{HasCut, WantsBytes}
use Rattle.tempo_cli.specs.Restored.{Reads, IsWhole, StopsAt, PartsCome, IsQuiet, IsHeard, Awaits, CameIn, BreaksOff}
use Rattle.tempo_cli.specs.declared.resuming.Restoring.{Restoring}
use Rattle.tempo_cli.specs.declared.status.Status.{Status}
use Rattle.tempo_cli.specs.declared.status.Status.TheVariants.{ReadFault}
use Rattle.tempo_cli.proofs.Breaking.{quiet_less}
use Rattle.tempo_cli.proofs.Fronts.{front_length}
use Rattle.tempo_cli.proofs.Journals.{ended-append, prompt_in, read_on}
use Rattle.tempo_cli.proofs.Moves.{lines_after, lines_are, few_bytes}

-- before the first read
pub awaits_first : {form : FormView} {r : Restoring} (left : ℕ) → left ≡ limit + 1 → Reads form [] [] r → Awaits form r left []
awaits_first {form} {r} left is h = record { goes_on = refl; given = []; reads = h; heard = record { unwritten = refl; prompt = λ a q. tt }; count = omega arith }

ins_read : (J : List Entry) (b : List ℕ) → ins (J ++ In b ∷ []) ≡ ins J ++ b
ins_read J b = ins-append J (In b ∷ []) ∙ ap (λ x. ins J ++ x) (append-nil b)

module _ {form : FormView} {r : Restoring} {left : ℕ} {J : List Entry} (wants : WantsBytes r.cutter) (w : Awaits form r left J) where
  quiet_ready : (a : Answers) → IsQuiet a (length w.given) → IsReady a J
  quiet_ready a q =
      let low : length (lines (ins J) false) ≤ length w.given = omega (arith, ap length (lines_are w.reads.within wants.wants_bytes)) in
      record {
        goes_on = w.goes_on;
        few = few_bytes w.reads.within wants.wants_bytes;
        no_fault = q.no_fault (lines (ins J) false) low;
        written = w.heard.unwritten ∙ sym (q.no_text (lines (ins J) false) low);
      }

  -- bytes came in, or none
  heard_more : (b : List ℕ) → length b ≤ 65536 → length b ≤ left → (more : List (List ℕ)) → length w.given ≤ length more → IsHeard more (J ++ In b ∷ [])
  heard_more b piece within more low = record {
    unwritten = outs-append J (In b ∷ []) ∙ (append-nil (outs J) ∙ w.heard.unwritten);
    prompt = λ a q.
        let q' = quiet_less (length more) (length w.given) low q in
        prompt_in a [] J b (w.heard.prompt a q') (quiet_ready a q') (record { short = piece; within = omega (arith, w.count) });
  }

  pub failed : BreaksOff form ReadFault J
  failed =
      let ls : lines (ins J) false ≡ w.given = lines_are w.reads.within wants.wants_bytes in
      let s : StopsAt form ReadFault (ins J) w.given false = record { front = ([], ls ∙ sym (append-nil w.given)); begun = w.reads.begun; end = (refl, ls) } in
      record { given = w.given; stops = subst (StopsAt form ReadFault (ins J) w.given) (sym w.goes_on) s; heard = w.heard }

  pub none_left : left ≡ 0 → ⊥
  none_left e = omega (arith, w.count, few_bytes w.reads.within wants.wants_bytes)

  pub few_read : (b : List ℕ) → length b ≤ left → length (ins J ++ b) ≤ limit + 1
  few_read b within = omega (arith, length-append (ins J) b, w.count)

  module _ (b : List ℕ) (n : ℕ) (is : n ≡ length b) (some : 0 < n) (piece : length b ≤ 65536) (few : n ≤ left) where
    going : ended (J ++ In b ∷ []) ≡ false
    going = read_on J b w.goes_on (omega arith)

    left_over : length (ins (J ++ In b ∷ [])) + (left - n) ≡ limit + 1
    left_over = omega (arith, ap length (ins_read J b), length-append (ins J) b, w.count)

    pub awaits_on : (t : Restoring) → PartsCome form (ins J ++ b) w.given t (Ok None) → Awaits form t (left - n) (J ++ In b ∷ [])
    awaits_on t comes = record {
      goes_on = going;
      given = comes.0;
      reads = subst (λ x. Reads form x comes.0 t) (sym (ins_read J b)) comes.2;
      heard = heard_more b piece (omega arith) comes.0 (front_length w.given comes.0 comes.1);
      count = left_over;
    }

    pub came_in : (t : Restoring) (f : FrozenView) → PartsCome form (ins J ++ b) w.given t (Ok (Some f)) → CameIn form f t (left - n) false (J ++ In b ∷ [])
    came_in t f comes = record {
      ended_is = going;
      given = comes.0;
      number = comes.2.number;
      whole = comes.2.whole;
      within = λ e. subst (λ x. HasCut x comes.0 t.cutter) (sym (ins_read J b)) comes.2.within;
      all = λ e. absurd (true≢false (sym e));
      heard = heard_more b piece (omega arith) comes.0 (front_length w.given comes.0 comes.1);
      count = left_over;
    }

    pub broke_off : (t : Restoring) (status : Status) → PartsCome form (ins J ++ b) w.given t (Err status) → BreaksOff form status (J ++ In b ∷ [])
    broke_off t status comes = record {
      given = comes.0;
      stops = subst (λ x. StopsAt form status x comes.0 (ended (J ++ In b ∷ []))) (sym (ins_read J b)) (comes.2 (ended (J ++ In b ∷ [])));
      heard = heard_more b piece (omega arith) comes.0 (front_length w.given comes.0 comes.1);
    }

  -- the input has ended
  over : ended (J ++ In [] ∷ []) ≡ true
  over = ended-append J (In [] ∷ []) ∙ ap (λ t. t || true) w.goes_on

  none_read : ins (J ++ In [] ∷ []) ≡ ins J
  none_read = ins_read J [] ∙ append-nil (ins J)

  pub came_last : (t : Restoring) (f : FrozenView) → IsWhole form f (lines (ins J) true) → t.taken ≡ length (lines (ins J) true) → CameIn form f t left true (J ++ In [] ∷ [])
  came_last t f whole number = record {
    ended_is = over;
    given = lines (ins J) true;
    number = number;
    whole = whole;
    within = λ e. absurd (true≢false e);
    all = λ e. (ap (λ x. lines x true) none_read, omega (arith, ap length none_read, few_bytes w.reads.within wants.wants_bytes));
    heard = heard_more [] (omega arith) (omega arith) (lines (ins J) true) (front_length w.given (lines (ins J) true) (_, lines_after w.reads.within true));
    count = omega (arith, ap length none_read, w.count);
  }

  pub broke_last : (status : Status) → StopsAt form status (ins J) w.given true → BreaksOff form status (J ++ In [] ∷ [])
  broke_last status s = record {
    given = w.given;
    stops = subst (λ e. StopsAt form status (ins (J ++ In [] ∷ [])) w.given e) (sym over) (subst (λ x. StopsAt form status x w.given true) (sym none_read) s);
    heard = heard_more [] (omega arith) (omega arith) w.given (omega arith);
  }
