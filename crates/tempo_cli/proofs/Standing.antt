-- A run in the midst of its lines.
use Rattle.std.proofs.Common.{◌≡◌, ◌⊎◌, ◌+◌, ◌++◌, ℕ, suc, min, List, [], ◌∷◌, length, Bool, true, false, Option, inl, inr, refl, sym, ◌∙◌, ap, subst, arith, append_assoc, append-nil}
use Rattle.std.specs.Prelude.{◌||◌, nat_le}
use Rattle.std.specs.List.{All}
use Rattle.std.proofs.lemmas.List.{length-append}
use Rattle.wire_lines.specs.Journal.{Entry, In, Out, Did, Start, Sync, Keep, Adds, Grows, SentAll, SentFront, IsOut, ins, outs, ended}
use Rattle.wire_lines.specs.Lines.{whole, lines}
use Rattle.wire_lines.proofs.Growth.{ins-append, outs-append}
use Rattle.tempo_cli.specs.Answers.{Answers, IsFront}
use Rattle.tempo_cli.specs.Restoring.{AreFront}
use Rattle.tempo_cli.specs.Table.{IsPromptAfter, IsEnd, IsShort}
use Rattle.tempo_cli.specs.Feeding.{Holds}
use Rattle.tempo_cli.specs.Holding.{HoldsOn}
use Rattle.tempo_cli.specs.Halting.{IsFormFor}
use Rattle.tempo_cli.specs.declared.answering.Answering.{Answering}
use Rattle.tempo_cli.specs.declared.status.Status.{Status}
use Rattle.tempo_cli.specs.declared.status.Status.TheVariants as statuses
use Rattle.tempo_cli.proofs.Fed.{took_final}
use Rattle.tempo_cli.proofs.Journals.{ended-append, ins_outs, prompt_outs}
use Rattle.tempo_cli.proofs.Moves.{short, some_written}
use Rattle.tempo_cli.specs.Keeping.{Task, Marks, query_of, answers_of, task_after, StartsTask, KeepsAfter, Keeps, IsTimelyAfter, kept_in, due_in, last_behind, all_counts, IsPunctual}
use Rattle.tempo_cli.specs.Standing.{IsFor, StandsAt, Stands, UnderAt, Under, Owes, Fails, IsWanting, IsAsBefore, SaysSame}
use Rattle.tempo_cli.specs.KeptStatus.{IsKeptEnd}
use Rattle.tempo_cli.specs.declared.keeping.Keeper.{Keeper}
use Rattle.tempo_cli.specs.declared.kept_status.KeptStatus.{KeptStatus}
use Rattle.tempo_cli.specs.declared.kept_status.KeptStatus.TheVariants.{Ended}
use Rattle.kept_wire.specs.Calls.{Told}
use Rattle.kept_wire.specs.Kept.{HasNotKept}
use Rattle.tempo_cli.proofs.Adding.{adds_both}
use Rattle.tempo_cli.proofs.Counting.{given_front, due_now, due_not_yet}
use Rattle.tempo_cli.proofs.Wholes.{taken_front}

-- what went out does not end the input
ended_outs : (K : List Entry) → All IsOut K → ended K ≡ false
ended_outs [] a = refl
ended_outs (In b ∷ K) a = absurd (a 0 (In b) (omega arith))
ended_outs (Out b ∷ K) a = ended_outs K (λ k d h. a (suc k) d (omega arith))
ended_outs (Did m ∷ K) a = absurd (a 0 (Did m) (omega arith))

or_false : (b : Bool) → (b || false) ≡ b
or_false true = refl
or_false false = refl

-- what was kept stays so, and more was kept behind it
keeps_on : (t : Task) (K : List Entry) (counts more : List ℕ) (J M : List Entry) → KeepsAfter t K counts J → KeepsAfter t (K ++ J) more M → KeepsAfter t K (counts ++ more) (J ++ M)
keeps_on t K counts more [] M h m = subst (λ c. KeepsAfter t K (c ++ more) M) (sym h) (subst (λ x. KeepsAfter t x more M) (append-nil K) m)
keeps_on t K counts more (In b ∷ J) M h m = keeps_on t (K ++ In b ∷ []) counts more J M h (subst (λ x. KeepsAfter t x more M) (sym (append_assoc K (In b ∷ []) J)) m)
keeps_on t K counts more (Out b ∷ J) M h m = keeps_on t (K ++ Out b ∷ []) counts more J M h (subst (λ x. KeepsAfter t x more M) (sym (append_assoc K (Out b ∷ []) J)) m)
keeps_on t K counts more (Did (Start i o) ∷ J) M h m = absurd h
keeps_on t K counts more (Did Sync ∷ J) M h m = keeps_on t (K ++ Did Sync ∷ []) counts more J M h (subst (λ x. KeepsAfter t x more M) (sym (append_assoc K (Did Sync ∷ []) J)) m)
keeps_on t K [] more (Did (Keep b) ∷ J) M h m = absurd h
keeps_on t K (n ∷ counts) more (Did (Keep b) ∷ J) M h m = (h.0, keeps_on t (K ++ Did (Keep b) ∷ []) counts more J M h.1 (subst (λ x. KeepsAfter t x more M) (sym (append_assoc K (Did (Keep b) ∷ []) J)) m))

pub keeps_more : (t : Task) (counts : List ℕ) (J M : List Entry) → KeepsAfter t [] counts J → KeepsAfter t J [] M → KeepsAfter t [] counts (J ++ M)
keeps_more t counts J M h m = subst (λ c. KeepsAfter t [] c (J ++ M)) (append-nil counts) (keeps_on t [] counts [] J M h m)

keeps_outs : (t : Task) (K O : List Entry) → All IsOut O → KeepsAfter t K [] O
keeps_outs t K [] o = refl
keeps_outs t K (In b ∷ O) o = absurd (o 0 (In b) (omega arith))
keeps_outs t K (Out b ∷ O) o = keeps_outs t (K ++ Out b ∷ []) O (λ k d h. o (suc k) d (omega arith))
keeps_outs t K (Did m ∷ O) o = absurd (o 0 (Did m) (omega arith))

prompt_on : (a : Answers) (K J M : List Entry) → IsPromptAfter a K J → IsPromptAfter a (K ++ J) M → IsPromptAfter a K (J ++ M)
prompt_on a K [] M p m = subst (λ x. IsPromptAfter a x M) (append-nil K) m
prompt_on a K (In b ∷ J) M p m = (p.0, p.1, prompt_on a (K ++ In b ∷ []) J M p.2 (subst (λ x. IsPromptAfter a x M) (sym (append_assoc K (In b ∷ []) J)) m))
prompt_on a K (Out b ∷ J) M p m = prompt_on a (K ++ Out b ∷ []) J M p (subst (λ x. IsPromptAfter a x M) (sym (append_assoc K (Out b ∷ []) J)) m)
prompt_on a K (Did d ∷ J) M p m = prompt_on a (K ++ Did d ∷ []) J M p (subst (λ x. IsPromptAfter a x M) (sym (append_assoc K (Did d ∷ []) J)) m)

pub timely_on : (t : Task) (every : ℕ) (K J M : List Entry) → IsTimelyAfter t every K J → IsTimelyAfter t every (K ++ J) M → IsTimelyAfter t every K (J ++ M)
timely_on t every K [] M p m = subst (λ x. IsTimelyAfter t every x M) (append-nil K) m
timely_on t every K (In b ∷ J) M p m = (p.0, timely_on t every (K ++ In b ∷ []) J M p.1 (subst (λ x. IsTimelyAfter t every x M) (sym (append_assoc K (In b ∷ []) J)) m))
timely_on t every K (Out b ∷ J) M p m = timely_on t every (K ++ Out b ∷ []) J M p (subst (λ x. IsTimelyAfter t every x M) (sym (append_assoc K (Out b ∷ []) J)) m)
timely_on t every K (Did d ∷ J) M p m = timely_on t every (K ++ Did d ∷ []) J M p (subst (λ x. IsTimelyAfter t every x M) (sym (append_assoc K (Did d ∷ []) J)) m)

timely_outs : (t : Task) (every : ℕ) (K O : List Entry) → All IsOut O → IsTimelyAfter t every K O
timely_outs t every K [] o = tt
timely_outs t every K (In b ∷ O) o = absurd (o 0 (In b) (omega arith))
timely_outs t every K (Out b ∷ O) o = timely_outs t every (K ++ Out b ∷ []) O (λ k d h. o (suc k) d (omega arith))
timely_outs t every K (Did m ∷ O) o = absurd (o 0 (Did m) (omega arith))

-- as many checkpoints were kept as lines were counted
pub kept_count : (t : Task) (K : List Entry) (counts : List ℕ) (J : List Entry) → KeepsAfter t K counts J → kept_in J ≡ length counts
kept_count t K counts [] h = ap length (sym h)
kept_count t K counts (In b ∷ J) h = kept_count t (K ++ In b ∷ []) counts J h
kept_count t K counts (Out b ∷ J) h = kept_count t (K ++ Out b ∷ []) counts J h
kept_count t K counts (Did (Start i o) ∷ J) h = absurd h
kept_count t K counts (Did Sync ∷ J) h = kept_count t (K ++ Did Sync ∷ []) counts J h
kept_count t K [] (Did (Keep b) ∷ J) h = absurd h
kept_count t K (n ∷ counts) (Did (Keep b) ∷ J) h = ap suc (kept_count t (K ++ Did (Keep b) ∷ []) counts J h.1)

says : (J M : List Entry) → ins M ≡ [] → outs M ≡ [] → ended M ≡ false → ((t : Task) (every : ℕ) → IsTimelyAfter t every J M) → SaysSame J (J ++ M)
says J M i o e timely = (
  ins-append J M ∙ (ap (λ x. ins J ++ x) i ∙ append-nil (ins J)),
  outs-append J M ∙ (ap (λ x. outs J ++ x) o ∙ append-nil (outs J)),
  ended-append J M ∙ (ap (λ x. ended J || x) e ∙ or_false (ended J)),
  λ t every h. timely_on t every [] J M h (timely t every),
)

pub is_for_again : {t : Task} {k k' : Keeper} → IsFor t k → k'.answering.engine.parts.dataflow.workers ≡ k.answering.engine.parts.dataflow.workers → k'.form ≡ k.form → k'.input ≡ k.input → IsFor t k'
is_for_again {t} {k} {k'} f w form input = record {
  form = subst (λ n. IsFormFor t.asked.query n (query_of t) k'.form) (sym w) (subst (IsFormFor t.asked.query k.answering.engine.parts.dataflow.workers (query_of t)) (sym form) f.form);
  workers = w ∙ f.workers;
  input = input ∙ f.input;
}

-- a checkpoint was kept
pub marks : List ℕ → List Entry
marks bytes = Did Sync ∷ Did (Keep bytes) ∷ []

module _ {t : Task} {k : Keeper} {J : List Entry} {given : List (List ℕ)} {counts : List ℕ} (s : Stands t k J given counts) where
  may_keep : (bytes : List ℕ) → StartsTask (task_after t given) bytes → KeepsAfter t J (length given ∷ []) (Did Sync ∷ Did (Keep bytes) ∷ [])
  may_keep bytes starts =
      let same = says J (Did Sync ∷ []) refl refl refl (λ t every. tt) in (
        (
          given,
          refl,
          record {
            came = subst (λ b. AreFront given (whole b)) (sym same.0) (taken_front s.holds.within);
            fine = s.holds.within.fine;
            written = same.1 ∙ s.written;
            synced = record { front = J; back = []; are = refl; silent = refl };
            starts = starts;
          },
        ),
        refl,
      )

  pub stands_kept : (k' : Keeper) (bytes : List ℕ) → IsAsBefore k k' → StartsTask (task_after t given) bytes →
      SaysSame J (J ++ Did Sync ∷ Did (Keep bytes) ∷ []) × Stands t k' (J ++ Did Sync ∷ Did (Keep bytes) ∷ []) given (counts ++ length given ∷ [])
  stands_kept k' bytes before starts =
      let M : List Entry = Did Sync ∷ Did (Keep bytes) ∷ [] in
      let same = says J M refl refl refl (λ t every. tt) in (
        same,
        record {
          is_for = is_for_again s.is_for (ap (λ (a : Answering). a.engine.parts.dataflow.workers) before.0) before.1 before.3;
          prompt = prompt_on (answers_of t) [] J M s.prompt tt;
          holds = subst (λ b. Holds (query_of t) b given k'.answering) (sym same.0) (subst (Holds (query_of t) (ins J) given) (sym before.0) s.holds);
          written = same.1 ∙ s.written;
          keeps = keeps_on t [] counts (length given ∷ []) J M s.keeps (may_keep bytes starts);
          few = omega (arith, ap length same.0, s.few);
          output = omega (arith, before.4, s.output, ap length same.1);
        },
      )

  -- what is written is the text of the lines taken
  short_now : (M : List Entry) → SaysSame J M → IsShort (answers_of t) (ins M) (outs M) false
  short_now M same = subst (λ b. IsShort (answers_of t) b (outs M) false) (sym same.0) (subst (λ o. IsShort (answers_of t) (ins J) o false) (sym (same.1 ∙ s.written)) (short s.holds.within false))

  -- before it was synced, and before it was kept; and once it was
  pub fails_first : SaysSame J (J ++ []) × Fails t given counts (J ++ [])
  fails_first =
      let same = says J [] refl refl refl (λ t every. tt) in (
        same,
        record {
          prompt = prompt_on (answers_of t) [] J [] s.prompt tt;
          short = short_now (J ++ []) same;
          came = subst (λ b. AreFront given (whole b)) (sym same.0) (taken_front s.holds.within);
          all = counts;
          keeps = keeps_more t counts J [] s.keeps refl;
          one_more = inl refl;
        },
      )

  pub fails_synced : SaysSame J (J ++ Did Sync ∷ []) × Fails t given counts (J ++ Did Sync ∷ [])
  fails_synced =
      let same = says J (Did Sync ∷ []) refl refl refl (λ t every. tt) in (
        same,
        record {
          prompt = prompt_on (answers_of t) [] J (Did Sync ∷ []) s.prompt tt;
          short = short_now (J ++ Did Sync ∷ []) same;
          came = subst (λ b. AreFront given (whole b)) (sym same.0) (taken_front s.holds.within);
          all = counts;
          keeps = keeps_more t counts J (Did Sync ∷ []) s.keeps refl;
          one_more = inl refl;
        },
      )

  pub fails_kept : (bytes : List ℕ) → StartsTask (task_after t given) bytes → SaysSame J (J ++ Did Sync ∷ Did (Keep bytes) ∷ []) × Fails t given counts (J ++ Did Sync ∷ Did (Keep bytes) ∷ [])
  fails_kept bytes starts =
      let M : List Entry = Did Sync ∷ Did (Keep bytes) ∷ [] in
      let same = says J M refl refl refl (λ t every. tt) in (
        same,
        record {
          prompt = prompt_on (answers_of t) [] J M s.prompt tt;
          short = short_now (J ++ M) same;
          came = subst (λ b. AreFront given (whole b)) (sym same.0) (taken_front s.holds.within);
          all = counts ++ length given ∷ [];
          keeps = keeps_on t [] counts (length given ∷ []) J M s.keeps (may_keep bytes starts);
          one_more = inr refl;
        },
      )

-- the call that keeps it failed: it stands in the journal, or it does not
pub failed_keep : {t : Task} {k : Keeper} {J : List Entry} {given : List (List ℕ)} {counts : List ℕ} (s : Stands t k J given counts) {a b d : Option (List Entry)} {x y : Option Told} {bytes : List ℕ} →
    Adds a b (Did Sync ∷ []) → HasNotKept b d x y bytes → StartsTask (task_after t given) bytes → Grows a d (λ K. SaysSame J (J ++ K) × Fails t given counts (J ++ K))
failed_keep s sync (inl kept) starts = adds_both sync kept (fails_kept s _ starts)
failed_keep s sync (inr none) starts = adds_both sync none.0 (fails_synced s)

-- the status is one of the table
pub ends_kept : (a : Answers) (status : Status) (bytes out : List ℕ) (over : Bool) → IsEnd a status bytes out false → IsKeptEnd a (Ended status) bytes out over
ends_kept a statuses.Done bytes out over h = absurd (let e = h.at_end in cc)
ends_kept a status bytes out over h = h

pub ends_punctual : (t : Task) (every : ℕ) (a : Answers) (status : Status) (bytes out counts : List ℕ) (ls : List (List ℕ)) → IsEnd a status bytes out false → IsFront counts (all_counts t every ls) → IsPunctual t every (Ended status) counts ls
ends_punctual t every a statuses.Done bytes out counts ls h f = absurd (let e = h.at_end in cc)
ends_punctual t every a status bytes out counts ls h f = f

wanting_end : (a : Answers) (status : KeptStatus) (bytes out : List ℕ) (over : Bool) → IsWanting status → IsShort a bytes out false → IsKeptEnd a status bytes out over
wanting_end a status bytes out over (inl e) h = subst (λ s. IsKeptEnd a s bytes out over) (sym e) h
wanting_end a status bytes out over (inr e) h = subst (λ s. IsKeptEnd a s bytes out over) (sym e) h

wanting_punctual : (t : Task) (every : ℕ) (status : KeptStatus) (counts : List ℕ) (ls : List (List ℕ)) → IsWanting status → IsFront counts (all_counts t every ls) → IsPunctual t every status counts ls
wanting_punctual t every status counts ls (inl e) f = subst (λ s. IsPunctual t every s counts ls) (sym e) f
wanting_punctual t every status counts ls (inr e) f = subst (λ s. IsPunctual t every s counts ls) (sym e) f

-- a checkpoint failed
pub fails_keeps : {t : Task} {given : List (List ℕ)} {counts : List ℕ} {J : List Entry} (every : ℕ) (status : KeptStatus) → Fails t given counts J → IsWanting status →
    IsFront counts (all_counts t every (whole (ins J))) → IsFront (counts ++ length given ∷ []) (all_counts t every (whole (ins J))) → IsTimelyAfter t every [] J → Keeps t every status J
fails_keeps {t} {given} {counts} {J} every status f w before after timely = record {
  prompt = f.prompt;
  end = wanting_end (answers_of t) status (ins J) (outs J) (ended J) w f.short;
  counts = f.all;
  keeps = f.keeps;
  punctual = wanting_punctual t every status f.all (whole (ins J)) w (front f.one_more);
  timely = timely;
}
  where
    front : (f.all ≡ counts) ⊎ (f.all ≡ counts ++ length given ∷ []) → IsFront f.all (all_counts t every (whole (ins J)))
    front (inl e) = subst (λ c. IsFront c (all_counts t every (whole (ins J)))) (sym e) before
    front (inr e) = subst (λ c. IsFront c (all_counts t every (whole (ins J)))) (sym e) after

-- what went out brought nothing in
ins_same : (J O : List Entry) → All IsOut O → ins (J ++ O) ≡ ins J
ins_same J O alone = ins-append J O ∙ (ap (λ x. ins J ++ x) (ins_outs O alone) ∙ append-nil (ins J))

-- what was held went out
pub all_sent : (J O : List Entry) {held : List ℕ} → SentAll held O → outs (J ++ O) ≡ outs J ++ held
all_sent J O s = outs-append J O ∙ ap (λ x. outs J ++ x) s.all

-- or some of it, and of what was due behind it
pub some_sent : (J O : List Entry) (held due after : List ℕ) → HoldsOn held due after O → outs (J ++ O) ++ after ≡ (outs J ++ held) ++ due
some_sent J O held due after s =
    ap (λ x. x ++ after) (outs-append J O) ∙ (append_assoc (outs J) (outs O) after ∙ (ap (λ x. outs J ++ x) s.all ∙ sym (append_assoc (outs J) held due)))

module _ {t : Task} {k : Keeper} {text : List ℕ} {J : List Entry} {given : List (List ℕ)} {counts : List ℕ} (s : StandsAt t k text J given counts) where
  -- more of the text was written
  stands_out : (O : List Entry) (now : List ℕ) → All IsOut O → now ≡ text → StandsAt t k now (J ++ O) given counts
  stands_out O now alone same =
      let came = ins_same J O alone in
      record {
        is_for = s.is_for;
        prompt = prompt_outs (answers_of t) [] J O alone s.prompt;
        holds = subst (λ b. Holds (query_of t) b given k.answering) (sym came) s.holds;
        written = same ∙ s.written;
        keeps = keeps_more t counts J O s.keeps (keeps_outs t J O alone);
        few = omega (arith, ap length came, s.few);
        output = s.output ∙ ap (λ (x : List ℕ). min (t.start.output + length x) 18446744073709551615) (sym same);
      }

  -- a write of what is held failed
  stands_cut : (every : ℕ) (held : List ℕ) → text ≡ outs J ++ held → IsTimelyAfter t every [] J → IsFront counts (all_counts t every (whole (ins J))) → (O : List Entry) → SentFront held O →
      Keeps t every (Ended statuses.WriteFault) (J ++ O)
  stands_cut every held is timely punctual O sent =
      let same = ins_same J O sent.outs_alone in
      let front = some_written s.holds.within (took_final (query_of t) given k.answering.engine s.holds.engine) (outs J) held (outs O) (sym s.written ∙ is) (sent.after, sent.front) false in
      record {
        prompt = prompt_outs (answers_of t) [] J O sent.outs_alone s.prompt;
        end = subst (λ b. IsFront (outs (J ++ O)) ((answers_of t).text (lines b false) false)) (sym same) (subst (λ o. IsFront o ((answers_of t).text (lines (ins J) false) false)) (sym (outs-append J O)) front);
        counts = counts;
        keeps = keeps_more t counts J O s.keeps (keeps_outs t J O sent.outs_alone);
        punctual = subst (λ b. IsFront counts (all_counts t every (whole b))) (sym same) punctual;
        timely = timely_on t every [] J O timely (timely_outs t every J O sent.outs_alone);
      }

-- a line was taken, and what it calls for is written or held; a checkpoint may be due
pub record AfterLine (t : Task) (every : ℕ) (k : Keeper) (text : List ℕ) (J M : List Entry) : Type 0 where
  pub given : List (List ℕ)
  pub line : List ℕ
  pub stands : StandsAt t k text M (given ++ line ∷ []) (due_in t every given (length given)).counts
  pub at : k.kept_at ≡ (due_in t every given (length given)).punct
  pub goes_on : ended M ≡ false
  pub every_is : k.every ≡ every
  pub same : ins M ≡ ins J
  pub timely : IsTimelyAfter t every [] M

-- a line ended the run
pub line_stops : {t : Task} {every : ℕ} {k : Keeper} {J : List Entry} (u : Under t every k J) (status : Status) → IsEnd (answers_of t) status (ins J) ((answers_of t).text u.given false) false → Keeps t every (Ended status) J
line_stops {t} {every} {k} {J} u status end =
    let now = subst (λ o. IsEnd (answers_of t) status (ins J) o false) (sym u.stands.written) end in
    record {
      prompt = u.stands.prompt;
      end = ends_kept (answers_of t) status (ins J) (outs J) (ended J) now;
      counts = (due_in t every u.given (length u.given)).counts;
      keeps = u.stands.keeps;
      punctual = ends_punctual t every (answers_of t) status (ins J) (outs J) _ (whole (ins J)) now (given_front t every u.given (whole (ins J)) (taken_front u.stands.holds.within));
      timely = u.timely;
    }

module _ {t : Task} {every : ℕ} {k : Keeper} {text : List ℕ} {J : List Entry} (u : UnderAt t every k text J) where
  -- all lines that came in were taken
  under_again : (k' : Keeper) → Holds (query_of t) (ins J) u.given k'.answering → k'.answering.engine.parts.dataflow.workers ≡ k.answering.engine.parts.dataflow.workers → k'.form ≡ k.form → k'.every ≡ k.every →
      k'.input ≡ k.input → k'.output ≡ k.output → k'.kept_at ≡ k.kept_at → UnderAt t every k' text J
  under_again k' holds workers form each input output at = record {
    given = u.given;
    stands = record {
      is_for = is_for_again u.stands.is_for workers form input;
      prompt = u.stands.prompt;
      holds = holds;
      written = u.stands.written;
      keeps = u.stands.keeps;
      few = u.stands.few;
      output = output ∙ u.stands.output;
    };
    at = at ∙ u.at;
    goes_on = u.goes_on;
    every_is = each ∙ u.every_is;
    timely = u.timely;
  }

  -- more of the text was written
  pub under_out : (O : List Entry) (now : List ℕ) → All IsOut O → now ≡ text → UnderAt t every k now (J ++ O) × (ins (J ++ O) ≡ ins J)
  under_out O now alone same = (
    record {
      given = u.given;
      stands = stands_out u.stands O now alone same;
      at = u.at;
      goes_on = ended-append J O ∙ (ap (λ x. x || ended O) u.goes_on ∙ ended_outs O alone);
      every_is = u.every_is;
      timely = timely_on t every [] J O u.timely (timely_outs t every J O alone);
    },
    ins_same J O alone,
  )

  -- a write of what is held failed
  pub under_cut : (held : List ℕ) → text ≡ outs J ++ held → (O : List Entry) → SentFront held O → Keeps t every (Ended statuses.WriteFault) (J ++ O)
  under_cut held is O sent = stands_cut u.stands every held is u.timely (given_front t every u.given (whole (ins J)) (taken_front u.stands.holds.within)) O sent

  -- a line more was taken
  pub after_line : (k' : Keeper) (due : List ℕ) (line : List ℕ) → Holds (query_of t) (ins J) (u.given ++ line ∷ []) k'.answering →
      (answers_of t).text (u.given ++ line ∷ []) false ≡ (answers_of t).text u.given false ++ due → k'.answering.engine.parts.dataflow.workers ≡ k.answering.engine.parts.dataflow.workers → k'.form ≡ k.form →
      k'.every ≡ k.every → k'.input ≡ k.input → k'.output ≡ min (k.output + length due) 18446744073709551615 → k'.kept_at ≡ k.kept_at → AfterLine t every k' (text ++ due) J J
  after_line k' due line holds grows workers form each input output at = record {
    given = u.given;
    line = line;
    stands = record {
      is_for = is_for_again u.stands.is_for workers form input;
      prompt = u.stands.prompt;
      holds = holds;
      written = ap (λ x. x ++ due) u.stands.written ∙ sym grows;
      keeps = u.stands.keeps;
      few = u.stands.few;
      output = omega (arith, output, u.stands.output, length-append text due);
    };
    at = at ∙ u.at;
    goes_on = u.goes_on;
    every_is = each ∙ u.every_is;
    same = refl;
    timely = u.timely;
  }

-- nothing is held
pub none_held : {t : Task} {every : ℕ} {k : Keeper} (J : List Entry) → Under t every k J → Owes t every k [] J
none_held {t} {every} {k} J u = subst (λ x. UnderAt t every k x J) (sym (append-nil (outs J))) u

-- all lines that came in were taken, and what was held still is
pub no_more : {t : Task} {every : ℕ} {k : Keeper} {J : List Entry} (held : List ℕ) (u : Owes t every k held J) (k' : Keeper) → Holds (query_of t) (ins J) u.given k'.answering → k'.answering.engine.parts.dataflow.workers ≡ k.answering.engine.parts.dataflow.workers →
    k'.form ≡ k.form → k'.every ≡ k.every → k'.input ≡ k.input → k'.output ≡ k.output → k'.kept_at ≡ k.kept_at → Owes t every k' held (J ++ []) × (ins (J ++ []) ≡ ins J)
no_more {t} {every} {k} {J} held u k' holds workers form each input output at =
    subst (λ K. Owes t every k' held K × (ins K ≡ ins J)) (sym (append-nil J)) (under_again u k' holds workers form each input output at, refl)

module _ {t : Task} {every : ℕ} {k : Keeper} {text : List ℕ} {J M : List Entry} (l : AfterLine t every k text J M) where
  abbrev given' : List (List ℕ)
  given' = l.given ++ l.line ∷ []

  -- more of the text was written
  pub line_out : (O : List Entry) (now : List ℕ) → All IsOut O → now ≡ text → AfterLine t every k now J (M ++ O)
  line_out O now alone same = record {
    given = l.given;
    line = l.line;
    stands = stands_out l.stands O now alone same;
    at = l.at;
    goes_on = ended-append M O ∙ (ap (λ x. x || ended O) l.goes_on ∙ ended_outs O alone);
    every_is = l.every_is;
    same = ins_same M O alone ∙ l.same;
    timely = timely_on t every [] M O l.timely (timely_outs t every M O alone);
  }

  -- a write of what is held failed
  pub line_cut : (held : List ℕ) → text ≡ outs M ++ held → (O : List Entry) → SentFront held O → Keeps t every (Ended statuses.WriteFault) (M ++ O)
  line_cut held is O sent =
      let came = taken_front l.stands.holds.within in
      stands_cut l.stands every held is l.timely (given_front t every l.given (whole (ins M)) (l.line ∷ came.0, came.1 ∙ append_assoc l.given (l.line ∷ []) came.0)) O sent

  -- the test tells whether a checkpoint is due
  due_as : (b : Bool) → b ≡ nat_le (k.kept_at + k.every) (last_behind t (l.given ++ l.line ∷ [])) → nat_le ((due_in t every l.given (length l.given)).punct + every) (last_behind t (l.given ++ l.line ∷ [])) ≡ b
  due_as b is = ap (λ (n : ℕ). nat_le (n + every) (last_behind t (l.given ++ l.line ∷ []))) (sym l.at) ∙ (ap (λ (n : ℕ). nat_le (k.kept_at + n) (last_behind t (l.given ++ l.line ∷ []))) (sym l.every_is) ∙ sym is)

  pub none_due : (b : Bool) → b ≡ nat_le (k.kept_at + k.every) (last_behind t (l.given ++ l.line ∷ [])) → b ≡ false → UnderAt t every k text M × (ins M ≡ ins J)
  none_due b is isnt =
      let d = due_not_yet t every l.given l.line (due_as b is ∙ isnt) in (
        record {
          given = l.given ++ l.line ∷ [];
          stands = subst (λ (m : Marks). StandsAt t k text M (l.given ++ l.line ∷ []) m.counts) (sym d) l.stands;
          at = l.at ∙ ap (λ (m : Marks). m.punct) (sym d);
          goes_on = l.goes_on;
          every_is = l.every_is;
          timely = l.timely;
        },
        l.same,
      )

  pub one_kept : (b : Bool) → b ≡ nat_le (k.kept_at + k.every) (last_behind t (l.given ++ l.line ∷ [])) → b ≡ true → (k' : Keeper) (N : List Entry) → k'.every ≡ k.every → k'.kept_at ≡ last_behind t (l.given ++ l.line ∷ []) →
      SaysSame M N × Stands t k' N (l.given ++ l.line ∷ []) ((due_in t every l.given (length l.given)).counts ++ length (l.given ++ l.line ∷ []) ∷ []) → Under t every k' N × (ins N ≡ ins J)
  one_kept b is holds k' N each at kept =
      let d = due_now t every l.given l.line (due_as b is ∙ holds) in (
        record {
          given = l.given ++ l.line ∷ [];
          stands = subst (λ (m : Marks). Stands t k' N (l.given ++ l.line ∷ []) m.counts) (sym d) kept.1;
          at = at ∙ ap (λ (m : Marks). m.punct) (sym d);
          goes_on = kept.0.2 ∙ l.goes_on;
          every_is = each ∙ l.every_is;
          timely = kept.0.3 t every l.timely;
        },
        kept.0.0 ∙ l.same,
      )

  pub one_failed : (b : Bool) → b ≡ nat_le (k.kept_at + k.every) (last_behind t (l.given ++ l.line ∷ [])) → b ≡ true → (status : KeptStatus) (N : List Entry) → IsWanting status →
      SaysSame M N × Fails t (l.given ++ l.line ∷ []) (due_in t every l.given (length l.given)).counts N → Keeps t every status N
  one_failed b is holds status N wanting failed =
      let f = failed.1 in
      let d = due_now t every l.given l.line (due_as b is ∙ holds) in
      let all = given_front t every (l.given ++ l.line ∷ []) (whole (ins N)) f.came in
      let front = given_front t every l.given (whole (ins N)) (l.line ∷ f.came.0, f.came.1 ∙ append_assoc l.given (l.line ∷ []) f.came.0) in
      fails_keeps every status f wanting front (subst (λ (m : Marks). IsFront m.counts (all_counts t every (whole (ins N)))) d all) (failed.0.3 t every l.timely)
