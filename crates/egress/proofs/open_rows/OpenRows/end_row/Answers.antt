use Rattle.std.specs.Prelude.{◌≡◌, ℕ, ◌++◌, map, take, refl}
use Rattle.std.proofs.Common.{sym, ◌∙◌, ap, subst, arith}
use Rattle.std.proofs.lemmas.Bool.{eqb-true}
use Rattle.tw_rows.specs.Cells.{read_cells}
use Rattle.plan_model.specs.Changes.{Line, Ended}
use Rattle.synopsis.specs.Kept.{times_if}
use Rattle.synopsis.proofs.Opened.{none_left, all_ended, some_ended, removed_open}
use Rattle.egress.specs.Print.{print}
use Rattle.egress.proofs.open_rows.OpenRows.end_row.Goals as goal

pub returns-then-is_empty-clause-row : goal.returns-then-is_empty-clause-row
returns-then-is_empty-clause-row c =
    let old = c.args.self.now in
    let ok = c.end_first.new.since.ok in
    let len = eqb-true c.end_first.new.since.len 0 (sym c.is_empty.ensures ∙ c.if-is_empty.true) in
    let f : ℕ → Line = λ s. Ended c.args.at s (read_cells c.args.texts.now c.args.cells.now) in
    record {
      starts = all_ended old.starts c.swap_remove.new.self c.args.cells.now c.in-Some.since c.in-Some.ensures.value c.args.count c.end_first.new.since c.in_ok-end_first.ensures.since
          (none_left c.end_first.new.since.items (omega (arith, len, ok))) c.swap_remove.ensures.updates.0;
      lines = subst (λ ks. c.end_first.new.lines.items ≡ old.lines.items ++ print ks (map f (take c.args.count c.in-Some.since.items))) c.deref.ensures.value c.in_ok-end_first.ensures.lines
          ∙ ap (λ o. old.lines.items ++ print old.kinds.items (map f (take c.args.count (times_if o)))) c.in-Some.ensures.value;
      kept = removed_open old.starts c.swap_remove.new.self c.args.cells.now c.swap_remove.ensures.updates.0;
    }

pub returns-clause-row : goal.returns-clause-row
returns-clause-row c =
    let old = c.args.self.now in
    let f : ℕ → Line = λ s. Ended c.args.at s (read_cells c.args.texts.now c.args.cells.now) in
    record {
      starts = some_ended old.starts c.swap_remove.new.self c.put_back.new.starts c.args.cells.now c.args.cells.now c.in-Some.since c.end_first.new.since c.in-Some.ensures.value refl
          c.args.count c.in_ok-end_first.ensures.since c.swap_remove.ensures.updates.0 c.in_ok-put_back.ensures.since;
      lines = subst (λ ks. c.end_first.new.lines.items ≡ old.lines.items ++ print ks (map f (take c.args.count c.in-Some.since.items))) c.deref.ensures.value c.in_ok-end_first.ensures.lines
          ∙ ap (λ o. old.lines.items ++ print old.kinds.items (map f (take c.args.count (times_if o)))) c.in-Some.ensures.value;
      kept = λ h. c.put_back.ensures.filled (removed_open old.starts c.swap_remove.new.self c.args.cells.now c.swap_remove.ensures.updates.0 h);
    }
