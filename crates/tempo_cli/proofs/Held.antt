-- Text that is held while lines are taken.
use Rattle.std.proofs.Common.{◌≡◌, ◌++◌, ◌∷◌, [], List, ℕ, Bool, false, sym, ◌∙◌, ap, append_assoc, subst}
use Rattle.std.proofs.lemmas.List.Elements.{All-append, All-nil}
use Rattle.std.proofs.lemmas.List.{append-nil}
use Rattle.std.specs.List.{All}
use Rattle.wire_lines.specs.Journal.{Entry, IsOut, outs, SentAll, SentFront}
use Rattle.wire_lines.specs.Lines.{lines}
use Rattle.wire_lines.proofs.Growth.{outs-append}
use Rattle.tempo_cli.specs.Answers.{IsFront}
use Rattle.tempo_cli.specs.Feeding.{Asked, answers_to, Holds}
use Rattle.tempo_cli.specs.Table.{IsEnd}
use Rattle.tempo_cli.specs.Holding.{HoldsOn}
use Rattle.tempo_cli.specs.Working.{Worked, Stopped}
use Rattle.tempo_cli.specs.declared.answering.Answering.{Answering}
use Rattle.tempo_cli.specs.declared.status.Status.{Status}
use Rattle.tempo_cli.specs.declared.status.Status.TheVariants.{WriteFault}
use Rattle.tempo_cli.proofs.Fed.{took_final}
use Rattle.tempo_cli.proofs.Moves.{some_written}

-- what was held went out, and then what was due
pub both_out : (held due : List ℕ) (O K : List Entry) → SentAll held O → SentAll due K → HoldsOn held due [] (O ++ K)
both_out held due O K s t = record {
  outs_alone = All-append IsOut O K s.outs_alone t.outs_alone;
  all = append-nil (outs (O ++ K)) ∙ (outs-append O K ∙ (ap (λ x. x ++ outs K) s.all ∙ ap (λ x. held ++ x) t.all));
}

-- or first bytes of what was due
pub due_front : (held due : List ℕ) (O K : List Entry) → SentAll held O → SentFront due K → SentFront (held ++ due) (O ++ K)
due_front held due O K s t = record {
  outs_alone = All-append IsOut O K s.outs_alone t.outs_alone;
  after = t.after;
  front = ap (λ x. held ++ x) t.front ∙ (ap (λ x. x ++ (outs K ++ t.after)) (sym s.all)
      ∙ (sym (append_assoc (outs O) (outs K) t.after) ∙ ap (λ x. x ++ t.after) (sym (outs-append O K))));
}

-- after the lines given, more lines of the bytes were taken, and of what the text grew by some was written, and the rest is held
pub record Holding (q : Asked) (bytes : List ℕ) (given : List (List ℕ)) (s : Answering) (held : List ℕ) (O : List Entry) : Type 0 where
  pub outs_alone : All IsOut O
  pub more : List (List ℕ)
  pub holds : Holds q bytes more s
  pub grown : (answers_to q).text more false ≡ (answers_to q).text given false ++ (outs O ++ held)

-- before the first line
pub none_held : (q : Asked) (bytes : List ℕ) (given : List (List ℕ)) (s : Answering) (held : List ℕ) → held ≡ [] → Holds q bytes given s → Holding q bytes given s held []
none_held q bytes given s held none h = record {
  outs_alone = All-nil IsOut;
  more = given;
  holds = h;
  grown = sym (ap (λ x. (answers_to q).text given false ++ x) none ∙ append-nil ((answers_to q).text given false));
}

-- what was held went out
pub held_out : (a : List ℕ) (held : List ℕ) (O K : List Entry) → outs K ≡ held → a ++ (outs O ++ held) ≡ a ++ outs (O ++ K)
held_out a held O K e = ap (λ x. a ++ x) (ap (λ x. outs O ++ x) (sym e) ∙ sym (outs-append O K))

-- what is held went out behind what was written, or first bytes of it did
pub held_all : {held due after : List ℕ} (O K : List Entry) → HoldsOn held due after O → SentAll after K → SentAll (held ++ due) (O ++ K)
held_all {held} {due} O K on sent = record {
  outs_alone = All-append IsOut O K on.outs_alone sent.outs_alone;
  all = outs-append O K ∙ (ap (λ x. outs O ++ x) sent.all ∙ on.all);
}

pub held_front : {held due after : List ℕ} (O K : List Entry) → HoldsOn held due after O → SentFront after K → SentFront (held ++ due) (O ++ K)
held_front {held} {due} O K on sent = record {
  outs_alone = All-append IsOut O K on.outs_alone sent.outs_alone;
  after = sent.after;
  front = sym on.all ∙ (ap (λ x. outs O ++ x) sent.front ∙ (sym (append_assoc (outs O) (outs K) sent.after) ∙ ap (λ x. x ++ sent.after) (sym (outs-append O K))));
}

-- a text that grew by what is due, behind what was written and held
all_grown : (now before written held due : List ℕ) → now ≡ before ++ (written ++ held) → now ++ due ≡ before ++ (written ++ (held ++ due))
all_grown now before written held due grown =
    ap (λ x. x ++ due) grown ∙ (append_assoc before (written ++ held) due ∙ ap (λ x. before ++ x) (append_assoc written held due))

-- first bytes of a prefix of a text are first bytes of the text
front_of_all : (before written sent after due text all out : List ℕ) → text ≡ before ++ (written ++ due) → due ≡ sent ++ after → out ≡ written ++ sent → IsFront text all → IsFront (before ++ out) all
front_of_all before written sent after due text all out grown front is stays = (
  after ++ stays.0,
  stays.1 ∙ (ap (λ x. x ++ stays.0) (grown ∙ ap (λ x. before ++ (written ++ x)) front) ∙ (regroup before written sent after stays.0 ∙ ap (λ x. (before ++ x) ++ (after ++ stays.0)) (sym is))),
)
  where
    regroup : (a b c d e : List ℕ) → (a ++ (b ++ (c ++ d))) ++ e ≡ (a ++ (b ++ c)) ++ (d ++ e)
    regroup a b c d e = simp append_assoc

module _ {q : Asked} {bytes : List ℕ} {given : List (List ℕ)} {s : Answering} {held : List ℕ} (O K : List Entry) (w : Holding q bytes given s held O) where
  -- more lines were taken, and what they made due is held, or went out with what was held
  pub hold_more : (t : Answering) (more : List (List ℕ)) (due after : List ℕ) → Holds q bytes more t → (answers_to q).text more false ≡ (answers_to q).text w.more false ++ due →
      HoldsOn held due after K → Holding q bytes given t after (O ++ K)
  hold_more t more due after h grows on = record {
    outs_alone = All-append IsOut O K w.outs_alone on.outs_alone;
    more = more;
    holds = h;
    grown = grows ∙ (ap (λ x. x ++ due) w.grown ∙ (append_assoc ((answers_to q).text given false) (outs O ++ held) due ∙ ap (λ x. (answers_to q).text given false ++ x)
        (append_assoc (outs O) held due ∙ (ap (λ x. outs O ++ x) (sym on.all) ∙ (sym (append_assoc (outs O) (outs K) after) ∙ ap (λ x. x ++ after) (sym (outs-append O K)))))));
  }

  -- all lines were taken, and all that was held went out
  pub all_out : (t : Answering) → Holds q bytes w.more t → SentAll held K → Worked q bytes given t (O ++ K)
  all_out t h sent = record {
    outs_alone = All-append IsOut O K w.outs_alone sent.outs_alone;
    more = w.more;
    holds = h;
    grown = w.grown ∙ held_out ((answers_to q).text given false) held O K sent.all;
  }

  -- the run ends so
  pub stop_out : (status : Status) → ((ended : Bool) → IsEnd (answers_to q) status bytes ((answers_to q).text w.more false) ended) → SentAll held K → Stopped q bytes given status (O ++ K)
  stop_out status end sent = record {
    outs_alone = All-append IsOut O K w.outs_alone sent.outs_alone;
    end = λ ended. subst (λ x. IsEnd (answers_to q) status bytes x ended) (w.grown ∙ held_out ((answers_to q).text given false) held O K sent.all) (end ended);
  }

  -- a write failed, and first bytes of what was held went out
  pub front_out : SentFront held K → Stopped q bytes given WriteFault (O ++ K)
  front_out sent = record {
    outs_alone = All-append IsOut O K w.outs_alone sent.outs_alone;
    end = λ ended. subst (λ x. IsFront x ((answers_to q).text (lines bytes ended) ended)) (append_assoc ((answers_to q).text given false) (outs O) (outs K) ∙ ap (λ x. (answers_to q).text given false ++ x) (sym (outs-append O K)))
        (some_written w.holds.within (took_final q w.more _ w.holds.engine) ((answers_to q).text given false ++ outs O) held (outs K)
        (w.grown ∙ sym (append_assoc ((answers_to q).text given false) (outs O) held)) (sent.after, sent.front) ended);
  }

  -- or of that and of what a line more made due
  pub front_more : (t : Answering) (line due : List ℕ) → Holds q bytes (w.more ++ line ∷ []) t → (answers_to q).text (w.more ++ line ∷ []) false ≡ (answers_to q).text w.more false ++ due →
      SentFront (held ++ due) K → Stopped q bytes given WriteFault (O ++ K)
  front_more t line due h grows sent = record {
    outs_alone = All-append IsOut O K w.outs_alone sent.outs_alone;
    end = λ ended. subst (λ x. IsFront x ((answers_to q).text (lines bytes ended) ended)) (append_assoc ((answers_to q).text given false) (outs O) (outs K) ∙ ap (λ x. (answers_to q).text given false ++ x) (sym (outs-append O K)))
        (some_written h.within (took_final q (w.more ++ line ∷ []) _ h.engine) ((answers_to q).text given false ++ outs O) (held ++ due) (outs K)
        (grows ∙ (ap (λ x. x ++ due) (w.grown ∙ sym (append_assoc ((answers_to q).text given false) (outs O) held)) ∙ append_assoc ((answers_to q).text given false ++ outs O) held due)) (sent.after, sent.front) ended);
  }

  -- more lines made due what went out with what was held, and the run ends at the line behind them
  pub stop_more : (more : List (List ℕ)) (due : List ℕ) (status : Status) → (answers_to q).text more false ≡ (answers_to q).text w.more false ++ due →
      ((ended : Bool) → IsEnd (answers_to q) status bytes ((answers_to q).text more false) ended) → SentAll (held ++ due) K → Stopped q bytes given status (O ++ K)
  stop_more more due status grows end sent = record {
    outs_alone = All-append IsOut O K w.outs_alone sent.outs_alone;
    end = λ ended. subst (λ x. IsEnd (answers_to q) status bytes x ended)
        (grows ∙ (all_grown ((answers_to q).text w.more false) ((answers_to q).text given false) (outs O) held due w.grown ∙ ap (λ x. (answers_to q).text given false ++ x) (ap (λ x. outs O ++ x) (sym sent.all) ∙ sym (outs-append O K)))) (end ended);
  }

  -- a write failed, and first bytes of that went out
  pub front_block : (more : List (List ℕ)) (due : List ℕ) → (answers_to q).text more false ≡ (answers_to q).text w.more false ++ due →
      ((ended : Bool) → IsFront ((answers_to q).text more false) ((answers_to q).text (lines bytes ended) ended)) → SentFront (held ++ due) K → Stopped q bytes given WriteFault (O ++ K)
  front_block more due grows stays sent = record {
    outs_alone = All-append IsOut O K w.outs_alone sent.outs_alone;
    end = λ ended. front_of_all ((answers_to q).text given false) (outs O) (outs K) sent.after (held ++ due) _ _ (outs (O ++ K)) (grows ∙ all_grown ((answers_to q).text w.more false) ((answers_to q).text given false) (outs O) held due w.grown) sent.front (outs-append O K) (stays ended);
  }
