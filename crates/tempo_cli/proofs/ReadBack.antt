-- FILE read back.
use Rattle.std.proofs.Common.{◌≡◌, ◌<◌, ◌+◌, ◌^◌, ◌++◌, ℕ, List, [], ◌∷◌, Option, Some, None, Err, refl, sym, ◌∙◌, ap, subst, append_assoc, append-nil}
use Rattle.frozen_state.specs.Frozen.{FrozenView}
use Rattle.frozen_state.specs.Forms.{AreApart}
use Rattle.checkpoint.specs.Form.{FormView}
use Rattle.checkpoint.specs.Text.{checkpoint_lines, IsOfForm, BeginsText, IsUnfinished}
use Rattle.checkpoint.specs.Taking.{ReaderView, lines_taken}
use Rattle.checkpoint.proofs.Unfinished.{one_front}
use Rattle.checkpoint.specs.Lines.{input_line, output_line}
use Rattle.checkpoint.specs.Reading.{input_of, output_of}
use Rattle.checkpoint.proofs.Both.{input_both, output_both}
use Rattle.tempo_cli.specs.Restored.{TakesLine}
use Rattle.tempo_cli.specs.declared.status.Status.{Status}
use Rattle.tempo_cli.specs.declared.status.Status.TheVariants as statuses
use Rattle.tempo_cli.specs.Standing.{BeginsWith, BeginsState}
use Rattle.tempo_cli.specs.KeptStatus.{IsRefused}
use Rattle.tempo_cli.specs.declared.reading.KeptState.{KeptState}

-- what is known of lines while they are taken
module _ (ls : List (List ℕ)) (old : ReaderView) (line : List ℕ) (rest more : List (List ℕ)) (all : ls ≡ lines_taken old ++ rest) (next : rest ≡ line ∷ more) where
  upto : ls ≡ (lines_taken old ++ line ∷ []) ++ more
  upto = all ∙ (ap (λ x. lines_taken old ++ x) next ∙ sym (append_assoc (lines_taken old) (line ∷ []) more))

  -- they go on
  pub goes_on : (new : ReaderView) → lines_taken new ≡ lines_taken old ++ line ∷ [] → ls ≡ lines_taken new ++ more
  goes_on new taken = upto ∙ ap (λ x. x ++ more) (sym taken)

  -- they begin with a checkpoint
  pub begins : (form : FormView) (g : FrozenView) → old.form ≡ form → checkpoint_lines old.form.head g ≡ lines_taken old ++ line ∷ [] → IsOfForm old.form g → BeginsWith form g ls
  begins form g same text other =
      (subst (λ x. IsOfForm x g) same other, (more, upto ∙ ap (λ x. x ++ more) (sym text ∙ ap (λ (x : FormView). checkpoint_lines x.head g) same)))

-- and of those of a checkpoint
module _ (form : FormView) (f : FrozenView) (old : ReaderView) (line : List ℕ) (rest more : List (List ℕ)) (all : checkpoint_lines form.head f ≡ lines_taken old ++ rest) (next : rest ≡ line ∷ more) (same : old.form ≡ form) where
  -- it has ended
  pub ended_as : IsOfForm form f → AreApart form.parts → (g : FrozenView) → checkpoint_lines old.form.head g ≡ lines_taken old ++ line ∷ [] → IsOfForm old.form g → g ≡ f
  ended_as of_form apart g text other =
      sym (one_front form f g more of_form (subst (λ x. IsOfForm x g) same other) apart (upto (checkpoint_lines form.head f) old line rest more all next ∙ ap (λ x. x ++ more) (sym text ∙ ap (λ (x : FormView). checkpoint_lines x.head g) same)))

  -- a line of it is refused never
  pub not_refused : IsOfForm form f → (BeginsText old.form (lines_taken old ++ line ∷ []) → ⊥) → ⊥
  not_refused of_form refused = refused (subst (λ x. BeginsText x (lines_taken old ++ line ∷ [])) (sym same) (record { frozen = f; rest = more; of_form = of_form; text = upto (checkpoint_lines form.head f) old line rest more all next }))

  pub taken_as : IsOfForm form f → (number : ℕ) (status : Status) (new : ReaderView) → TakesLine old number line (Err status) new → status ≡ statuses.Memory
  taken_as of_form number (statuses.BadCheckpoint n) new h = absurd (not_refused of_form h.1)
  taken_as of_form number statuses.Memory new h = refl
  taken_as of_form number status new h = absurd h

-- a line is refused, or memory is wanting for it
pub line_refused : (old : ReaderView) (number : ℕ) (line : List ℕ) (status : Status) (new : ReaderView) → TakesLine old number line (Err status) new → IsRefused status
line_refused old number line (statuses.BadCheckpoint n) new h = tt
line_refused old number line statuses.Memory new h = tt
line_refused old number line status new h = absurd h

-- not all of it was taken where no line is left
pub none_left : (form : FormView) (f : FrozenView) (r : ReaderView) (rest : List (List ℕ)) → checkpoint_lines form.head f ≡ lines_taken r ++ rest → rest ≡ [] → r.form ≡ form → IsOfForm form f → IsUnfinished r.form (lines_taken r) → ⊥
none_left form f r rest all none same of_form unfinished =
    unfinished.none_whole f [] (subst (λ x. IsOfForm x f) (sym same) of_form)
    (sym (append-nil (lines_taken r)) ∙ (ap (λ x. lines_taken r ++ x) (sym none) ∙ (sym all ∙ (ap (λ (x : FormView). checkpoint_lines x.head f) (sym same) ∙ sym (append-nil _)))))

-- the two lines in front of it
heads : (x y : List ℕ) (xs ys : List (List ℕ)) → x ∷ xs ≡ y ∷ ys → x ≡ y
heads x y xs ys e = cc

tails : (x y : List ℕ) (xs ys : List (List ℕ)) → x ∷ xs ≡ y ∷ ys → xs ≡ ys
tails x y xs ys e = cc

pub input_read : (first : List ℕ) (all rest more : List (List ℕ)) (n : ℕ) → all ≡ first ∷ rest → all ≡ input_line n ∷ more → n < 2 ^ 64 → (input_of first ≡ Some n) × (rest ≡ more)
input_read first all rest more n p q low = let e = sym p ∙ q in ((input_both first n).1 (low, heads first (input_line n) rest more e), tails first (input_line n) rest more e)

pub output_read : (second : List ℕ) (all rest more : List (List ℕ)) (n : ℕ) → all ≡ second ∷ rest → all ≡ output_line n ∷ more → n < 2 ^ 64 → (output_of second ≡ Some n) × (rest ≡ more)
output_read second all rest more n p q low = let e = sym p ∙ q in ((output_both second n).1 (low, heads second (output_line n) rest more e), tails second (output_line n) rest more e)

pub none_read : (o : Option ℕ) (n : ℕ) → None ≡ o → o ≡ Some n → ⊥
none_read o n e f = absurd (let x = e ∙ f in cc)

pub some_read : (o : Option ℕ) (m n : ℕ) → Some m ≡ o → o ≡ Some n → m ≡ n
some_read o m n e f = let x = e ∙ f in cc

pub state_begins : (form : FormView) (state : KeptState) (first second : List ℕ) (all rest more : List (List ℕ)) → all ≡ first ∷ rest → rest ≡ second ∷ more →
    Some state.input ≡ input_of first → Some state.output ≡ output_of second → BeginsWith form state.frozen more → BeginsState form all state
state_begins form state first second all rest more p q i o b =
    let f : first ≡ input_line state.input = ((input_both first state.input).0 (sym i)).1 in
    let s : second ≡ output_line state.output = ((output_both second state.output).0 (sym o)).1 in
    record {
      of_form = b.0;
      front = (b.1.0, p ∙ (ap (λ x. x ∷ rest) f ∙ ap (λ x. input_line state.input ∷ x) (q ∙ (ap (λ x. x ∷ more) s ∙ ap (λ x. output_line state.output ∷ x) b.1.1))));
    }
