-- What a plan answers to lines is final.
use Rattle.std.proofs.Common.{◌≡◌, ◌≤◌, inl, inr, ℕ, zero, suc, List, [], ◌∷◌, ◌++◌, length, drop, Bool, true, false, cond, Option, Some, None, refl, sym, ◌∙◌, ap, arith, append-nil, subst}
use Rattle.std.specs.Prelude.{nat_lt, flat_map}
use Rattle.std.specs.List.{All}
use Rattle.std.proofs.lemmas.List.{drop-append-le, drop_all, length-append}
use Rattle.tw_rows.specs.Instant.{inf}
use Rattle.plan_model.specs.IsPlan.{PlanParts, IsPlan}
use Rattle.plan_model.proofs.Kept.{IsPlan-ordered}
use Rattle.plan_model.proofs.Levels.{IsPlan-levelled}
use Rattle.plan_laws.specs.Undefined.{Overflow, overflow}
use Rattle.wire_lines.specs.Lines.{HasNoLf}
use Rattle.admission.specs.Admission.{rows}
use Rattle.admission.specs.Entries.{Told, AreRead}
use Rattle.admission.specs.Progress.{Fault, Progress, start, judged, unless_fault, steps, fault}
use Rattle.admission.specs.Text.{written}
use Rattle.admission.specs.declared.policy.Policy.{Policy}
use Rattle.admission.proofs.Finality.{text_final}
use Rattle.admission.proofs.Stays.{progress_stays, text_stays}
use Rattle.tempo_engine.specs.Output.{item_text, result_kinds, plan_text}
use Rattle.tempo_cli.specs.Answers.{IsFinal, IsFront}
use Rattle.tempo_cli.specs.Told.{told_at}
use Rattle.tempo_cli.specs.Feeding.{Asked, answers_to, said}
use Rattle.tempo_cli.proofs.Said.{said_more, said-append, said-nil, said_one, behind_read, said_read, more_read}

-- both parts of lines that hold no LF
free_parts : (xs ys : List (List ℕ)) → All HasNoLf (xs ++ ys) → All HasNoLf xs × All HasNoLf ys
free_parts [] ys free = ((λ k d low. absurd (omega arith)), free)
free_parts (x ∷ xs) ys free =
    let r = free_parts xs ys (λ k d h. free (suc k) d (omega arith)) in
    (head_free x xs (free 0 x (omega arith)) r.0, r.1)
  where
    head_free : (x : List ℕ) (xs : List (List ℕ)) → HasNoLf x → All HasNoLf xs → All HasNoLf (x ∷ xs)
    head_free x xs h t zero d low = h
    head_free x xs h t (suc k) d low = t k d (omega arith)

-- a punctuation at which a node is undefined writes nothing
judged_writes : (plan : PlanParts) (w : Progress) (g : Option Fault) (b : Bool) (o : Option Overflow) (f : Fault) → w.fault ≡ None →
    (unless_fault g w (cond b (judged inf w o) w)).fault ≡ Some f → written plan (unless_fault g w (cond b (judged inf w o) w)) ≡ written plan w
judged_writes plan w (Some g) b o f fine e = refl
judged_writes plan w None false o f fine e = refl
judged_writes plan w None true (Some v) f fine e = refl
judged_writes plan w None true None f fine e = absurd (let z : None ≡ Some f = sym fine ∙ e in cc)

-- a prefix of a text is no longer than the text
pub front_low : (x y : List ℕ) → IsFront x y → length x ≤ length y
front_low x y f = omega (arith, ap length f.1, length-append x f.0)

-- what a text grows by, it grows by also where a prefix of it is left out
pub cut_grows : (n : ℕ) (x y out : List ℕ) → n ≤ length x → y ≡ x ++ out → drop n y ≡ drop n x ++ out
cut_grows n x y out low e = ap (drop n) e ∙ drop-append-le n x out low

-- the text of the lines before is a prefix of the text of more lines
pub text_before : (plan : PlanParts) → IsPlan plan → (policy : Policy) (before more : List Told) (ended : Bool) → AreRead (length plan.streams) before → AreRead (length plan.streams) more →
    IsFront (plan_text plan policy before false) (plan_text plan policy (before ++ more) ended)
text_before plan is policy before more ended read more_read =
    text_final plan (IsPlan-ordered plan is) (IsPlan-levelled plan is) policy (item_text (result_kinds plan)) before more ended read more_read

pub answers_final : (q : Asked) → IsPlan q.plan → AreRead (length q.plan.streams) q.before → IsFinal (answers_to q)
answers_final q is before =
    let plan = q.plan in
    let policy = q.policy in
    let print = item_text (result_kinds plan) in
    let ordered = IsPlan-ordered plan is in
    let levelled = IsPlan-levelled plan is in
    let n = length (plan_text plan policy q.before false) in
    record {
      silent = ap (λ x. drop n (plan_text plan policy x false)) (said-nil q) ∙ drop_all n (plan_text plan policy q.before false) (omega arith);
      front = λ ls more ended free.
          let parts = free_parts ls more free in
          let f = text_final plan ordered levelled policy print (said q ls) (said_more q ls more) ended (said_read q before ls parts.0) (more_read q ls more parts.1) in
          let low = front_low _ _ (text_before plan is policy q.before _ false before (behind_read q before ls parts.0)) in
          (f.0, cut_grows n (plan_text plan policy (said q ls) false) _ f.0 low (ap (λ x. plan_text plan policy x ended) (said-append q ls more) ∙ f.1));
      stays = λ ls more ended f e.
          ap (λ x. fault plan policy x ended) (said-append q ls more)
          ∙ (ap (λ (w : Progress). w.fault) (progress_stays plan policy (said q ls) (said_more q ls more) ended f e) ∙ e);
      text_stays = λ ls more ended f e.
          ap (λ x. drop n (plan_text plan policy x ended)) (said-append q ls more)
          ∙ ap (λ (w : Progress). drop n (flat_map print (written plan w))) (progress_stays plan policy (said q ls) (said_more q ls more) ended f e);
      no_more = λ ls line f free fine e. elim (said_one q ls line) [
        | inl one ↦
            let t = told_at plan.streams q.header _ line in
            let all : said q (ls ++ line ∷ []) ≡ said q ls ++ t ∷ [] = said-append q ls (line ∷ []) ∙ ap (λ x. said q ls ++ x) one in
            let valid = subst (AreRead (length plan.streams)) all (said_read q before (ls ++ line ∷ []) free) in
            ap (λ x. drop n (plan_text plan policy x false)) all
            ∙ ap (drop n) (text_stays plan ordered levelled policy print (said q ls) t f valid fine (ap (λ x. fault plan policy x false) (sym all) ∙ e))
        | inr none ↦ ap (λ x. drop n (plan_text plan policy x false)) (said-append q ls (line ∷ []) ∙ (ap (λ x. said q ls ++ x) none ∙ append-nil (said q ls)))
      ];
      none_at_end = λ ls f fine e.
          let w = steps plan policy start (said q ls) in
          ap (λ x. drop n (flat_map print x)) (judged_writes plan w w.fault (nat_lt w.last inf) (overflow (rows w.after) plan.nodes inf) f fine e);
    }
