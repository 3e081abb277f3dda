-- A run between its reads, at its start and at the end of its input.
use Rattle.std.proofs.Common.{◌≡◌, ◌<◌, ◌≤◌, ◌+◌, ◌-◌, ◌++◌, ℕ, min, List, [], ◌∷◌, length, true, false, refl, sym, ◌∙◌, ap, subst, arith, append-nil}
use Rattle.std.specs.Prelude.{◌||◌}
use Rattle.std.proofs.lemmas.List.{length-append}
use Rattle.wire_lines.specs.Journal.{Entry, In, ins, outs, ended}
use Rattle.wire_lines.specs.Lines.{whole}
use Rattle.wire_lines.proofs.CutsFacts.{whole_are_given}
use Rattle.wire_lines.proofs.Growth.{ins-append, outs-append}
use Rattle.tempo_cli.specs.Answers.{IsFront}
use Rattle.tempo_cli.specs.Table.{limit, IsCutOff}
use Rattle.tempo_cli.specs.Feeding.{Holds, WantsBytes}
use Rattle.tempo_cli.specs.Working.{Reading}
use Rattle.tempo_cli.specs.declared.status.Status.TheVariants as statuses
use Rattle.tempo_cli.proofs.Journals.{ended-append, prompt_in, ready, read_on}
use Rattle.tempo_cli.proofs.Moves.{cut_off, few_bytes}
use Rattle.tempo_cli.specs.Keeping.{Task, query_of, answers_of, Keeps, IsTimelyAfter, due_in, last_behind, all_counts}
use Rattle.tempo_cli.specs.Standing.{Stands, Begun, Under, MayRead, Fails, IsWanting, SaysSame}
use Rattle.tempo_cli.specs.declared.keeping.Keeper.{Keeper}
use Rattle.tempo_cli.specs.declared.kept_status.KeptStatus.{KeptStatus}
use Rattle.tempo_cli.specs.declared.kept_status.KeptStatus.TheVariants.{Ended}
use Rattle.tempo_cli.proofs.Counting.{given_front}
use Rattle.tempo_cli.proofs.Standing.{is_for_again, keeps_more, kept_count, timely_on, line_stops, fails_keeps}

-- it is as it was, but for what answers
abbrev pub OnlyAnswers : Keeper → Keeper → Type 0
OnlyAnswers k k' = (k'.answering.engine.parts.dataflow.workers ≡ k.answering.engine.parts.dataflow.workers) × (k'.form ≡ k.form) × (k'.every ≡ k.every) × (k'.input ≡ k.input)
    × (k'.output ≡ k.output) × (k'.kept_at ≡ k.kept_at)

module _ {t : Task} {every : ℕ} {k : Keeper} {left : ℕ} {J : List Entry} (wants : WantsBytes k.answering.cutter) (r : MayRead t every k left J) where
  reading : Reading (query_of t) k.answering left J
  reading = record { prompt = r.under.stands.prompt; goes_on = r.under.goes_on; given = r.under.given; holds = r.under.stands.holds; written = r.under.stands.written; count = r.count }

  pub read_ends : Keeps t every (Ended statuses.ReadFault) J
  read_ends = line_stops r.under statuses.ReadFault (cut_off r.under.stands.holds.within wants.wants_bytes)

  -- more bytes are never wanted than may come
  pub never_over : left ≡ 0 → ⊥
  never_over none = omega (arith, r.count, few_bytes r.under.stands.holds.within wants.wants_bytes)

  -- bytes came in
  stands_in : (k' : Keeper) (b : List ℕ) → OnlyAnswers k k' → length b ≤ 65536 → length b ≤ left → Holds (query_of t) (ins J ++ b) r.under.given k'.answering →
      Stands t k' (J ++ In b ∷ []) r.under.given (due_in t every r.under.given (length r.under.given)).counts
  stands_in k' b same piece few holds =
      let came : ins (J ++ In b ∷ []) ≡ ins J ++ b = ins-append J (In b ∷ []) ∙ ap (λ x. ins J ++ x) (append-nil b) in
      let out : outs (J ++ In b ∷ []) ≡ outs J = outs-append J (In b ∷ []) ∙ append-nil (outs J) in
      let s = r.under.stands in
      record {
        is_for = is_for_again s.is_for same.0 same.1 same.3;
        prompt = prompt_in (answers_of t) [] J b s.prompt (ready wants reading) (record { short = piece; within = omega (arith, r.count, few) });
        holds = subst (λ x. Holds (query_of t) x r.under.given k'.answering) (sym came) holds;
        written = out ∙ s.written;
        keeps = keeps_more t _ J (In b ∷ []) s.keeps refl;
        few = omega (arith, ap length came, length-append (ins J) b, r.count, few);
        output = same.4 ∙ (s.output ∙ ap (λ (o : List ℕ). min (t.start.output + length o) 18446744073709551615) (sym out));
      }

  -- what is due was kept before the read
  timely_in : (b : List ℕ) → IsTimelyAfter t every [] (J ++ In b ∷ [])
  timely_in b =
      let w = r.under.stands.holds.within in
      let all : whole (ins J) ≡ r.under.given = (whole_are_given (ins J) k.answering.cutter r.under.given w.cuts (w.cuts.settled wants.wants_bytes).one_line).0 in
      timely_on t every [] J (In b ∷ []) r.under.timely (kept_count t [] _ J r.under.stands.keeps ∙ ap (λ ls. length (due_in t every ls (length ls)).counts) (sym all), tt)

  pub came_in : (k' : Keeper) (b : List ℕ) → OnlyAnswers k k' → 0 < length b → length b ≤ 65536 → length b ≤ left → Holds (query_of t) (ins J ++ b) r.under.given k'.answering → Under t every k' (J ++ In b ∷ [])
  came_in k' b same some piece few holds = record {
    given = r.under.given;
    stands = stands_in k' b same piece few holds;
    at = same.5 ∙ r.under.at;
    goes_on = read_on J b r.under.goes_on some;
    every_is = same.2 ∙ r.under.every_is;
    timely = timely_in b;
  }

  pub count_in : (b : List ℕ) (n : ℕ) (N : List Entry) → n ≡ length b → n ≤ left → ins N ≡ ins (J ++ In b ∷ []) → length (ins N) + (left - n) ≡ limit + 1
  count_in b n N is few same =
      let came : ins (J ++ In b ∷ []) ≡ ins J ++ b = ins-append J (In b ∷ []) ∙ ap (λ x. ins J ++ x) (append-nil b) in
      omega (arith, ap length same, ap length came, length-append (ins J) b, r.count)

  -- the input has ended
  pub all_in : (k' : Keeper) → OnlyAnswers k k' → Holds (query_of t) (ins J ++ []) r.under.given k'.answering → Stands t k' (J ++ In [] ∷ []) r.under.given (due_in t every r.under.given (length r.under.given)).counts
  all_in k' same holds = stands_in k' [] same (omega arith) (omega arith) holds

  over : ended (J ++ In [] ∷ []) ≡ true
  over = ended-append J (In [] ∷ []) ∙ ap (λ x. x || true) r.under.goes_on

  -- and a checkpoint was kept
  pub all_kept : (k' : Keeper) (N : List Entry) → WantsBytes k'.answering.cutter →
      SaysSame (J ++ In [] ∷ []) N × Stands t k' N r.under.given ((due_in t every r.under.given (length r.under.given)).counts ++ length r.under.given ∷ []) → Keeps t every (Ended statuses.Done) N
  all_kept k' N done kept =
      let s = kept.1 in
      let settled = s.holds.within.cuts.settled done.wants_bytes in
      let all : whole (ins N) ≡ r.under.given = (whole_are_given (ins N) k'.answering.cutter r.under.given s.holds.within.cuts settled.one_line).0 in
      record {
        prompt = s.prompt;
        end = record {
          at_end = kept.0.2 ∙ over;
          whole = subst (λ o. IsCutOff (answers_of t) (ins N) o false) (sym s.written) (cut_off s.holds.within done.wants_bytes);
        };
        counts = (due_in t every r.under.given (length r.under.given)).counts ++ length r.under.given ∷ [];
        keeps = s.keeps;
        punctual = ap (all_counts t every) (sym all);
        timely = kept.0.3 t every (timely_in []);
      }

  -- or failed
  pub all_failed : (k' : Keeper) (status : KeptStatus) (N : List Entry) → WantsBytes k'.answering.cutter → Holds (query_of t) (ins J ++ []) r.under.given k'.answering → IsWanting status →
      SaysSame (J ++ In [] ∷ []) N × Fails t r.under.given (due_in t every r.under.given (length r.under.given)).counts N → Keeps t every status N
  all_failed k' status N done holds wanting failed =
      let settled = holds.within.cuts.settled done.wants_bytes in
      let came : ins N ≡ ins J ++ [] = failed.0.0 ∙ ins-append J (In [] ∷ []) in
      let all : whole (ins N) ≡ r.under.given = ap whole came ∙ (whole_are_given (ins J ++ []) k'.answering.cutter r.under.given holds.within.cuts settled.one_line).0 in
      fails_keeps every status failed.1 wanting (given_front t every r.under.given (whole (ins N)) failed.1.came)
      (subst (λ ls. IsFront ((due_in t every r.under.given (length r.under.given)).counts ++ length r.under.given ∷ []) (all_counts t every ls)) (sym all) ([], sym (append-nil _)))
      (failed.0.3 t every (timely_in []))

-- the first checkpoint was kept
pub started : {t : Task} {every : ℕ} {k : Keeper} (k' : Keeper) (K : List Entry) → Begun t every k → k'.every ≡ k.every → k'.kept_at ≡ last_behind t [] → SaysSame [] K × Stands t k' K [] (0 ∷ []) → MayRead t every k' (limit + 1) K
started {t} {every} {k} k' K b each at kept = record {
  under = record { given = []; stands = kept.1; at = at; goes_on = kept.0.2; every_is = each ∙ b.1; timely = kept.0.3 t every tt };
  count = omega (arith, ap length kept.0.0);
}

-- or failed
pub unstarted : {t : Task} (every : ℕ) (status : KeptStatus) (K : List Entry) → IsWanting status → SaysSame [] K × Fails t [] [] K → Keeps t every status K
unstarted {t} every status K wanting failed = fails_keeps every status failed.1 wanting (all_counts t every (whole (ins K)), refl) (given_front t every [] (whole (ins K)) (whole (ins K), refl)) (failed.0.3 t every tt)
