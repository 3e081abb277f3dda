-- A run that writes a checkpoint at the end of its input.
use Rattle.std.proofs.Common.{◌≡◌, ◌++◌, List, ℕ, [], Bool, true, false, Option, inl, inr, refl, sym, ◌∙◌, ap, ap₂, arith, append_assoc, append-nil, subst}
use Rattle.std.specs.Prelude.{◌||◌}
use Rattle.std.proofs.lemmas.List.Elements.{All-append}
use Rattle.wire_lines.specs.Journal.{Entry, Grows, IsOut, SentAll, ins, outs, ended}
use Rattle.wire_lines.specs.Lines.{lines}
use Rattle.wire_lines.proofs.Growth.{Grows-grows, ins-append, outs-append}
use Rattle.frozen_state.specs.Frozen.{FrozenView}
use Rattle.checkpoint.specs.Form.{FormView, form_of}
use Rattle.checkpoint.specs.Text.{checkpoint_lines}
use Rattle.checkpoint.specs.Writing.{bytes_of}
use Rattle.tempo_engine.specs.Frozen.{Fits}
use Rattle.tempo_engine.specs.declared.fault.EngineFault.{EngineFault}
use Rattle.tempo_engine.specs.declared.fault.EngineFault.TheVariants as faults
use Rattle.tempo_cli.specs.Answers.{Answers, IsFront}
use Rattle.tempo_cli.specs.Table.{IsEnd, IsShort as IsShortText}
use Rattle.tempo_cli.specs.Resumed.{going_on}
use Rattle.tempo_cli.specs.Freezing.{HasText, Froze, IsFrozen, IsFrontFrozen, IsFreezeEnd, Freezes}
use Rattle.plan_model.specs.IsPlan.{PlanParts}
use Rattle.admission.specs.declared.policy.Policy.{Policy}
use Rattle.command_line.specs.Words.{Asked as Words, AreWithin}
use Rattle.tempo_cli.specs.Told.{answers}
use Rattle.tempo_cli.specs.Jobs.{form_asked, HasFroze}
use Rattle.tempo_cli.specs.Feeding.{Asked, from_start, answers_to, fed_by, status_at, Ended, IsAsked}
use Rattle.tempo_cli.specs.Working.{AtEnd, Stops}
use Rattle.tempo_cli.specs.Halting.{StopsGoing, SendsLines, IsFormFor, FrozeAfter, FreezesWith}
use Rattle.tempo_cli.specs.declared.answering.Answering.{Answering}
use Rattle.tempo_cli.specs.declared.status.Status.{Status}
use Rattle.tempo_cli.specs.declared.status.Status.TheVariants.{Done, BadWords, BadQuery, Malformed, Late, Overflow, InputTooLong, ReadFault, WriteFault, Memory, BadCheckpoint}
use Rattle.tempo_cli.proofs.Stopping.{short_end}
use Rattle.tempo_cli.proofs.Journals.{prompt_outs, ins_outs, ended-append, written_both}

-- what stays over two calls
pub stays_on : {l m n : ℕ} {b d e : Bool} {x y z : PlanParts} → (m ≡ l) × (d ≡ b) × (y ≡ x) → (n ≡ m) × (e ≡ d) × (z ≡ y) → (n ≡ l) × (e ≡ b) × (z ≡ x)
stays_on p q = (q.0 ∙ p.0, q.1 ∙ p.1, q.2 ∙ p.2)

-- a fault of the engine is told as in a run whose input goes on
pub freeze_end_at : (a : Answers) (F : List (List ℕ) → Type 0) (f : EngineFault) (bytes out : List ℕ) (ended : Bool) → IsEnd (going_on a) (status_at f) bytes out ended → IsFreezeEnd a F (status_at f) bytes out ended
freeze_end_at a F (faults.Bad n cause) bytes out ended h = h
freeze_end_at a F (faults.Late n time bound) bytes out ended h = h
freeze_end_at a F (faults.Overflow punctuation node time) bytes out ended h = h
freeze_end_at a F faults.Memory bytes out ended h = h

pub freeze_end_of : (a : Answers) (F : List (List ℕ) → Type 0) (status : Status) (bytes out : List ℕ) (ended : Bool) → StopsGoing a status bytes out ended → IsFreezeEnd a F status bytes out ended
freeze_end_of a F status bytes out ended s = subst (λ x. IsFreezeEnd a F x bytes out ended) (sym s.is) (freeze_end_at a F s.fault bytes out ended s.end)

-- and so is every end of a run while the input goes on
going_end : (a : Answers) (F : List (List ℕ) → Type 0) (status : Status) (bytes out : List ℕ) → IsEnd a status bytes out false → IsFreezeEnd a F status bytes out false
going_end a F Done bytes out h = absurd (let e = h.at_end in cc)
going_end a F BadWords bytes out h = h
going_end a F (BadQuery fault) bytes out h = h
going_end a F (Malformed line cause) bytes out h = record { within = h.within; first = h.first; written = h.written }
going_end a F (Late line time bound) bytes out h = record { within = h.within; first = h.first; written = h.written }
going_end a F (Overflow punct node time) bytes out h = record { within = h.within; first = h.first; written = h.written }
going_end a F InputTooLong bytes out h = record { long = h.long; short = h.short; no_fault = h.no_fault; written = h.written }
going_end a F ReadFault bytes out h = record { goes_on = h.goes_on; no_fault = h.no_fault; written = h.written }
going_end a F WriteFault bytes out h = inl h
going_end a F Memory bytes out h = record { k = h.k; few = h.few; written = h.written }
going_end a F (BadCheckpoint line) bytes out h = h

pub stops_freezing : (a : Answers) (F : List (List ℕ) → List (List ℕ) → Type 0) (status : Status) (J : List Entry) → Stops a status J → Freezes a F status J
stops_freezing a F status J s = record { prompt = s.ends.prompt; end = go (ended J) s.goes_on s.ends.end }
  where
    go : (e : Bool) → e ≡ false → IsEnd a status (ins J) (outs J) e → IsFreezeEnd a (F (lines (ins J) true)) status (ins J) (outs J) e
    go false is h = going_end a (F (lines (ins J) true)) status (ins J) (outs J) h
    go true is h = absurd (cc)

-- the table looks at what came in, what went out and whether the input has ended
same_freeze : (a : Answers) (F : List (List ℕ) → List (List ℕ) → Type 0) (status : Status) (b b' o o' : List ℕ) (e e' : Bool) → b' ≡ b → o' ≡ o → e' ≡ e →
    IsFreezeEnd a (F (lines b true)) status b o e → IsFreezeEnd a (F (lines b' true)) status b' o' e'
same_freeze a F status b b' o o' e e' p q r h = rw (p, q, r) h

-- after all lines came in
pub freezes_all : {form : FormView} {workers : ℕ} {q : Asked} {s : Answering} {J O : List Entry} (status : Status) → (r : AtEnd q s J) → FreezesWith form workers q (ins J) r.given status O →
    Freezes (answers_to q) (FrozeAfter form workers q) status (J ++ O)
freezes_all {form} {workers} {q} {s} {J} {O} status r w = record {
  prompt = prompt_outs (answers_to q) [] J O w.outs_alone r.prompt;
  end = same_freeze (answers_to q) (FrozeAfter form workers q) status _ _ _ _ _ _
      (ins-append J O ∙ (ap (λ x. ins J ++ x) (ins_outs O w.outs_alone) ∙ append-nil (ins J)))
      (outs-append J O ∙ ap (λ x. x ++ outs O) r.written)
      (ended-append J O ∙ ap (λ t. t || ended O) r.at_end)
      w.end;
}

-- a prefix of what is due for the last line went out
pub front_due : (F : List (List ℕ) → Type 0) (q : Asked) (bytes before last front : List ℕ) (s : Answering) → Ended q bytes (before ++ last) s → IsFront front last →
    IsFrontFrozen (answers_to q) F bytes (before ++ front) true
front_due F q bytes before last front s e some = inl (some.0, sym e.so_far ∙ (ap (λ y. before ++ y) some.1 ∙ sym (append_assoc before front some.0)))

-- all that is due was written, and it was out of memory
pub short_frozen : (q : Asked) (bytes before last : List ℕ) (O : List Entry) (s : Answering) → Ended q bytes (before ++ last) s → last ≡ outs O → IsShortText (going_on (answers_to q)) bytes (before ++ outs O) true
short_frozen q bytes before last O s e is = short_end (going_on (answers_to q)) bytes (before ++ outs O) (ap (λ x. before ++ x) (sym is) ∙ e.so_far)

-- of what was frozen and has a text, the lines of the text are a checkpoint
pub froze_of : {form : FormView} {P : FrozenView → Type 0} (f : FrozenView) → HasText form f → P f → Froze form P (checkpoint_lines form.head f)
froze_of {form} {P} f t fits = record { frozen = f; fits = fits; of_form = t.of_form; text = refl; short = t.short }

-- all was written, and the checkpoint
pub frozen_done : (form : FormView) (P : FrozenView → Type 0) (q : Asked) (bytes before last : List ℕ) (f : FrozenView) (O K : List Entry) (s : Answering) → Ended q bytes (before ++ last) s →
    HasText form f → P f → last ≡ outs O → bytes_of (checkpoint_lines form.head f) ≡ outs K → IsFrozen (answers_to q) (Froze form P) bytes (before ++ outs (O ++ K)) true
frozen_done form P q bytes before last f O K s e t fits is all =
    let text = bytes_of (checkpoint_lines form.head f) in
    record {
      at_end = refl;
      no_fault = e.fine;
      C = checkpoint_lines form.head f;
      froze = froze_of f t fits;
      written = sym (written_both before last text O K is all) ∙ ap (λ x. x ++ text) e.so_far;
    }

-- or a prefix of the checkpoint
pub frozen_front : (form : FormView) (P : FrozenView → Type 0) (q : Asked) (bytes before last after : List ℕ) (f : FrozenView) (O K : List Entry) (s : Answering) → Ended q bytes (before ++ last) s →
    HasText form f → P f → last ≡ outs O → bytes_of (checkpoint_lines form.head f) ≡ outs K ++ after → IsFrontFrozen (answers_to q) (Froze form P) bytes (before ++ outs (O ++ K)) true
frozen_front form P q bytes before last after f O K s e t fits is some = inr (
  refl,
  (
    checkpoint_lines form.head f,
    (
      froze_of f t fits,
      (
        after,
        ap (λ x. x ++ bytes_of (checkpoint_lines form.head f)) (sym e.so_far)
            ∙ (ap (λ x. (before ++ last) ++ x) some ∙ (sym (append_assoc (before ++ last) (outs K) after) ∙ ap (λ x. x ++ after) (written_both before last (outs K) O K is refl))),
      ),
    ),
  ),
)

-- the lines of a checkpoint went out behind what is due for the last line
pub checkpoint_sent : {form : FormView} {workers : ℕ} {q : Asked} {bytes last : List ℕ} {given : List (List ℕ)} {f : FrozenView} {s : Answering} {before mid now : Option (List Entry)} (status : Status) →
    Ended q bytes ((answers_to q).text given false ++ last) s → HasText form f → Fits workers q.plan q.policy (fed_by q (lines bytes true)) f →
    Grows before mid (SentAll last) → SendsLines (checkpoint_lines form.head f) mid now status → Grows before now (FreezesWith form workers q bytes given status)
checkpoint_sent {form} {workers} {q} {bytes} {last} {given} {f} {s} Done e t fits sent ends = Grows-grows sent ends (λ O K a b. record {
  outs_alone = All-append IsOut O K a.outs_alone b.outs_alone;
  end = frozen_done form (Fits workers q.plan q.policy (fed_by q (lines bytes true))) q bytes ((answers_to q).text given false) last f O K s e t fits (sym a.all) (sym b.all);
})
checkpoint_sent {form} {workers} {q} {bytes} {last} {given} {f} {s} WriteFault e t fits sent ends = Grows-grows sent ends (λ O K a b. record {
  outs_alone = All-append IsOut O K a.outs_alone b.outs_alone;
  end = frozen_front form (Fits workers q.plan q.policy (fed_by q (lines bytes true))) q bytes ((answers_to q).text given false) last b.after f O K s e t fits (sym a.all) b.front;
})
checkpoint_sent Memory e t fits sent ends = absurd (ends t.short)
checkpoint_sent BadWords e t fits sent ends = absurd ends
checkpoint_sent (BadQuery fault) e t fits sent ends = absurd ends
checkpoint_sent (Malformed line cause) e t fits sent ends = absurd ends
checkpoint_sent (Late line time bound) e t fits sent ends = absurd ends
checkpoint_sent (Overflow punct node time) e t fits sent ends = absurd ends
checkpoint_sent InputTooLong e t fits sent ends = absurd ends
checkpoint_sent ReadFault e t fits sent ends = absurd ends
checkpoint_sent (BadCheckpoint line) e t fits sent ends = absurd ends

pub sends_asked : (lines : List (List ℕ)) (before now : Option (List Entry)) (status : Status) → SendsLines lines before now status → IsAsked status
sends_asked lines before now BadWords ends = ends
sends_asked lines before now (BadQuery fault) ends = ends
sends_asked lines before now status ends = tt

-- the form of the words is that of the run
pub form_for : (asked : Words) (plan : PlanParts) (policy : Policy) (workers : ℕ) (form : FormView) → AreWithin asked → policy ≡ asked.policy → workers ≡ asked.workers → form ≡ form_asked asked plan →
    IsFormFor asked.query workers (from_start plan policy asked.header) form
form_for asked plan policy workers form within p w is = record {
  form_is = is ∙ sym (ap₂ (λ n x. form_of asked.query n x plan) w p);
  workers_fit = omega (arith, w, within.workers);
  lateness_fits = omega (arith, ap (λ (x : Policy). x.lateness) p, within.lateness);
  period_fits = omega (arith, ap (λ (x : Policy). x.period) p, within.period);
}

-- what a run has done is what the words ask for, where plan, policy, workers and form are those of the words
pub frozen_asked : (asked : Words) (plan : PlanParts) (policy : Policy) (workers : ℕ) (form : FormView) (status : Status) (K : List Entry) → policy ≡ asked.policy → workers ≡ asked.workers → form ≡ form_asked asked plan →
    Freezes (answers_to (from_start plan policy asked.header)) (FrozeAfter form workers (from_start plan policy asked.header)) status K →
    Freezes (answers plan asked.policy asked.header) (HasFroze asked plan) status K
frozen_asked asked plan policy workers form status K p w f h =
    let H : Policy → ℕ → FormView → Type 0 = λ x n y. Freezes (answers_to (from_start plan x asked.header)) (FrozeAfter y n (from_start plan x asked.header)) status K in
    subst (λ x. H x asked.workers (form_asked asked plan)) p (subst (λ n. H policy n (form_asked asked plan)) w (subst (λ y. H policy workers y) f h))
