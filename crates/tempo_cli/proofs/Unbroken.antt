-- However many crashes come, the output's file has the text of one run.
use Rattle.std.proofs.Common.{◌≡◌, ◌≤◌, ◌+◌, ◌++◌, ℕ, List, [], ◌∷◌, length, take, drop, Option, Some, None, false, refl, sym, ◌∙◌, ap, subst, arith, append_assoc, append-nil, length-append, length-take}
use Rattle.std.specs.List.{All}
use Rattle.std.proofs.lemmas.Grind.{flat_map-append}
use Rattle.std.proofs.lemmas.List.{drop_all}
use Rattle.std.proofs.lemmas.List.Elements.{All-nil, All-append}
use Rattle.std.proofs.Math.Seq.{take-append_seam}
use Rattle.wire_lines.specs.Journal.{Entry, ins, outs}
use Rattle.wire_lines.specs.Lines.{HasNoLf, whole, lines, joined}
use Rattle.wire_lines.proofs.Cutting.{cut_is_free, lines_go_on, IsOneLine-free}
use Rattle.tempo_engine.specs.Output.{plan_text}
use Rattle.tempo_cli.specs.Answers.{IsFront}
use Rattle.tempo_cli.specs.declared.status.Status.TheVariants as statuses
use Rattle.tempo_cli.proofs.Said.{said-nil}
use Rattle.tempo_cli.proofs.Final.{front_low}
use Rattle.tempo_cli.proofs.Fronts.{front_all}
use Rattle.tempo_cli.proofs.Lines.{lines_are_free}
use Rattle.tempo_cli.specs.Keeping.{Task, query_of, answers_of, task_after, Keeps, IsRecovered}
use Rattle.tempo_cli.specs.Unbroken.{Crash, HasLeft, IsNoHeader, GoesOn, AreGoneOn, IsUnbroken}
use Rattle.tempo_cli.specs.declared.kept_status.KeptStatus.TheVariants.{Ended}
use Rattle.tempo_cli.proofs.Splitting.{fault_on, text_on}

-- the task u goes on behind these lines as t would have
record GoesAs (t u : Task) (all : List (List ℕ)) : Type 0 where
  text : (more : List (List ℕ)) → All HasNoLf more → (answers_of t).text all false ++ (answers_of u).text more false ≡ (answers_of t).text (all ++ more) false
  fault : (more : List (List ℕ)) → (answers_of u).fault more false ≡ (answers_of t).fault (all ++ more) false

-- and the output's file has their text
record Chained (t u : Task) (file left : List ℕ) (all : List (List ℕ)) : Type 0 where
  input : u.start.input ≡ t.start.input + length (joined all)
  output : take u.start.output left ≡ take t.start.output file ++ (answers_of t).text all false
  goes : GoesAs t u all
  free : All HasNoLf all

none_taken : (t : Task) → (answers_of t).text [] false ≡ []
none_taken t =
    let T = plan_text t.plan t.asked.policy t.before false in
    ap (λ x. drop (length T) (plan_text t.plan t.asked.policy x false)) (said-nil (query_of t)) ∙ drop_all (length T) T (omega arith)

no_crash : (t : Task) (file : List ℕ) → Chained t t file file []
no_crash t file = record {
  input = omega arith;
  output = sym (append-nil (take t.start.output file)) ∙ ap (λ x. take t.start.output file ++ x) (sym (none_taken t));
  goes = record { text = λ more free. ap (λ x. x ++ (answers_of t).text more false) (none_taken t); fault = λ more. refl };
  free = All-nil HasNoLf;
}

take_front : (x y : List ℕ) → IsFront x y → take (length x) y ≡ x
take_front x y front = ap (take (length x)) front.1 ∙ take-append_seam x front.0

joined_on : (xs ys : List (List ℕ)) → joined (xs ++ ys) ≡ joined xs ++ joined ys
joined_on xs ys = flat_map-append (λ line. line ++ 10 ∷ []) xs ys

-- the lines that were taken before a checkpoint
goes_as : (t : Task) (did : List Entry) (bytes : List ℕ) (r : IsRecovered t did bytes) → IsNoHeader t r.taken → GoesAs t (task_after t r.taken) r.taken
goes_as t did bytes r past =
    let fits = r.starts.froze.fits.by in record {
      text = text_on t r.taken fits.sound fits.read r.fine past;
      fault = fault_on t r.taken fits.sound fits.read r.fine past;
    }

goes_again : (t v u : Task) (taken more all : List (List ℕ)) → all ≡ taken ++ more → All HasNoLf more → GoesAs t v taken → GoesAs v u more → GoesAs t u all
goes_again t v u taken more all is free f g = record {
  text = λ m free_m.
      ap (λ ls. (answers_of t).text ls false ++ (answers_of u).text m false) is
      ∙ (ap (λ x. x ++ (answers_of u).text m false) (sym (f.text more free))
      ∙ (append_assoc ((answers_of t).text taken false) ((answers_of v).text more false) ((answers_of u).text m false)
      ∙ (ap (λ x. (answers_of t).text taken false ++ x) (g.text m free_m)
      ∙ (f.text (more ++ m) (All-append HasNoLf more m free free_m) ∙ ap (λ ls. (answers_of t).text ls false) (sym (append_assoc taken more m) ∙ ap (λ ls. ls ++ m) (sym is))))));
  fault = λ m. g.fault m ∙ (f.fault (more ++ m) ∙ ap (λ ls. (answers_of t).fault ls false) (sym (append_assoc taken more m) ∙ ap (λ ls. ls ++ m) (sym is)));
}

module _ (t u : Task) (file left : List ℕ) (c : Crash) (low : t.start.output ≤ length file) (has : HasLeft (take t.start.output file) c) where
  long : length (take t.start.output file) ≡ t.start.output
  long = omega (arith, length-take t.start.output file, low)

  -- FILE is as it was
  same_again : (all : List (List ℕ)) → Chained t u c.output left all → Chained t u file left all
  same_again all x =
      let same : take t.start.output c.output ≡ take t.start.output file = ap (λ (n : ℕ). take n c.output) (sym long) ∙ take_front (take t.start.output file) c.output has.start in
      record { input = x.input; output = x.output ∙ ap (λ y. y ++ (answers_of t).text all false) same; goes = x.goes; free = x.free }

  pub room_again : t.start.output ≤ length c.output
  room_again = omega (arith, long, front_low (take t.start.output file) c.output has.start)

  module _ (bytes : List ℕ) (r : IsRecovered t c.did bytes) where
    synced : IsFront (take t.start.output file ++ outs r.front) c.output
    synced = has.synced r.front r.back r.are

    length_is : length (take t.start.output file ++ outs r.front) ≡ (task_after t r.taken).start.output
    length_is = omega (arith, length-append (take t.start.output file) (outs r.front), long, ap length r.text)

    room_behind : (task_after t r.taken).start.output ≤ length c.output
    room_behind = omega (arith, length_is, front_low (take t.start.output file ++ outs r.front) c.output synced)

    -- FILE is a checkpoint of the run
    gone_on : (more all : List (List ℕ)) → all ≡ r.taken ++ more → IsNoHeader t r.taken → Chained (task_after t r.taken) u c.output left more → Chained t u file left all
    gone_on more all is past x =
        let v = task_after t r.taken in
        let F = take t.start.output file in
        let f = goes_as t c.did bytes r past in
        let cut : take v.start.output c.output ≡ F ++ (answers_of t).text r.taken false =
        ap (λ (n : ℕ). take n c.output) (sym length_is) ∙ (take_front (F ++ outs r.front) c.output synced ∙ ap (λ y. F ++ y) r.text) in
        record {
          input = omega (arith, x.input, ap (λ ls. length (joined ls)) is, ap length (joined_on r.taken more), length-append (joined r.taken) (joined more));
          output = x.output ∙ (ap (λ y. y ++ (answers_of v).text more false) cut ∙ (append_assoc F ((answers_of t).text r.taken false) ((answers_of v).text more false)
              ∙ ap (λ y. F ++ y) (f.text more x.free ∙ ap (λ ls. (answers_of t).text ls false) (sym is))));
          goes = goes_again t v u r.taken more all is x.free f x.goes;
          free = subst (All HasNoLf) (sym is) (All-append HasNoLf r.taken more (front_all HasNoLf r.taken r.came.0 (subst (All HasNoLf) r.came.1 (cut_is_free (ins c.did)).0)) x.free);
        }

  by_kept : (k : Option (List ℕ)) (all : List (List ℕ)) (Next : Task → List (List ℕ) → Type 0) →
      ((v : Task) (more : List (List ℕ)) → v.start.output ≤ length c.output → Next v more → Chained v u c.output left more) → GoesOn t c k all Next → Chained t u file left all
  by_kept None all Next next g = same_again all (next t all room_again g)
  by_kept (Some bytes) all Next next g = gone_on bytes g.kept g.more all g.all_is g.no_header (next (task_after t g.kept.taken) g.more (room_behind bytes g.kept) g.next)

chained : (t : Task) (file : List ℕ) (crashes : List Crash) (u : Task) (left : List ℕ) (all : List (List ℕ)) → t.start.output ≤ length file → AreGoneOn t file crashes u left all → Chained t u file left all
chained t file [] u left all low h =
    subst (λ (x : Task). Chained t x file left all) (sym h.0) (subst (λ (x : List ℕ). Chained t t file x all) (sym h.1) (subst (λ (x : List (List ℕ)). Chained t t file file x) (sym h.2) (no_crash t file)))
chained t file (c ∷ crashes) u left all low h =
    by_kept t u file left c low h.0 c.kept all (λ v more. AreGoneOn v c.output crashes u left more) (λ v more room g. chained v c.output crashes u left more room g) h.1

pub unbroken : (t u : Task) (file left : List ℕ) (crashes : List Crash) (all : List (List ℕ)) → t.start.output ≤ length file → AreGoneOn t file crashes u left all →
    (every : ℕ) (J : List Entry) → Keeps u every (Ended statuses.Done) J → IsUnbroken t u file left all J
unbroken t u file left crashes all low gone every J k =
    let x = chained t file crashes u left all low gone in
    let ls = lines (ins J) false in
    let go : lines (joined all ++ ins J) false ≡ all ++ ls = lines_go_on (joined all ++ ins J) (ins J) all false refl (λ n d h. IsOneLine-free _ (x.free n d h)) in
    let done = k.end.whole in
    record {
      input = x.input;
      out = (answers_of t).text (lines (joined all ++ ins J) false) false;
      output = ap (λ y. y ++ outs J) x.output ∙ (append_assoc (take t.start.output file) ((answers_of t).text all false) (outs J)
          ∙ ap (λ y. take t.start.output file ++ y) (ap (λ y. (answers_of t).text all false ++ y) done.written ∙ (x.goes.text ls (lines_are_free (ins J) false) ∙ ap (λ z. (answers_of t).text z false) (sym go))));
      end = record {
        at_end = k.end.at_end;
        whole = record { goes_on = refl; no_fault = ap (λ z. (answers_of t).fault z false) go ∙ (sym (x.goes.fault ls) ∙ done.no_fault); written = refl };
      };
    }
