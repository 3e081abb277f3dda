use Rattle.std.specs.Prelude.{filter}
use Rattle.std.proofs.Common.{◌∙◌, ◌++◌, sym, ap, map, Some, true≢false, refl}
use Rattle.synopsis.specs.Held.{is_of_key}
use Rattle.anti_join.specs.Free.{free_since, told_since}
use Rattle.anti_join.specs.Rows.{free}
use Rattle.anti_join.proofs.sweep.AntiRows.tell_blocked.Goals as goal

pub returns-then-not-is_free : goal.returns-then-not-is_free
returns-then-not-is_free c =
    let s = c.args.self.now in
    record {
      free = λ by h. absurd (true≢false (sym h ∙ (sym (c.is_free.ensures ∙ ap (free s) c.values-key.ensures) ∙ c.if-not-is_free.true)));
      blocked = λ h. refl;
    }

pub returns : goal.returns
returns c =
    let s = c.args.self.now in
    let v = s.right_key.values in
    let a0 = c.args.answer.now.items in
    record {
      free = λ by h.
          c.in_ok-tell.ensures
          ∙ (ap (λ l. a0 ++ map (told_since (Some c.since.result) c.args.t) l) (c.rows_of.ensures ∙ ap (λ k. filter (is_of_key s.left.key k) s.left.rows) c.values-key.ensures)
          ∙ ap (λ n. a0 ++ map (told_since (Some n) c.args.t) (filter (is_of_key s.left.key v) s.left.rows))
          (c.since.ensures ∙ (ap (λ k. free_since k s.times.rows c.values-key.result.now) by ∙ ap (free_since s.left.key s.times.rows) c.values-key.ensures)));
      blocked = λ h. absurd (true≢false (sym (sym (c.is_free.ensures ∙ ap (free s) c.values-key.ensures) ∙ c.if-not-is_free.false) ∙ h));
    }
