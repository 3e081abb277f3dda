use Rattle.std.proofs.Common.{◌≡◌, ◌∙◌, sym, ap, arith, false, refl, nat_eq, not}
use Rattle.edge_history.specs.Order.{is_end, many}
use Rattle.synopsis.specs.Held.{key_of, is_of_key}
use Rattle.tw_rows.specs.SameCells.{cells_are_same, same_cells}
use Rattle.anti_join.proofs.Changes.{ended_key, forget_same, forget_less, forget_fewer, forget_gone, is_zero, not_zero}
use Rattle.sweep_sides.proofs.Telling.{end_is}
use Rattle.tw_rows.specs.declared.edge.HeldRow.{HeldRow}
use Rattle.anti_join.proofs.RowKeys.{keys_stay}
use Rattle.anti_join.proofs.Begun.{kept_less}
use Rattle.anti_join.proofs.sweep.AntiRows.forget_one.Goals as goal

pub returns-then-not-is_end : goal.returns-then-not-is_end
returns-then-not-is_end c =
    let s = c.args.self.now in
    let x = c.args.edge.now in
    let e : is_end x ≡ false = end_is c.is_end.result x c.is_end.ensures ∙ c.if-not-is_end.true in
    record {
      times = λ by. record { same = λ k _. refl; less = λ k. (omega arith); fewer = λ k. (omega arith) };
      gone = λ by k none some. (let p = (ended_key s.left.key x k some).0 in absurd (cc (p, e)));
      fewer = λ w. (omega arith);
      left = refl;
      right = refl;
      keys = keys_stay s;
    }

pub returns-then-not-has_none : goal.returns-then-not-has_none
returns-then-not-has_none c =
    let s = c.args.self.now in
    let x = c.args.edge.now in
    record {
      times = λ by. record { same = λ k _. refl; less = λ k. (omega arith); fewer = λ k. (omega arith) };
      gone = λ by k none some.
          let v = c.write.ensures.values ∙ (ap (λ l. key_of l c.items.result.now) by.left ∙ ap (key_of s.left.key) c.items.ensures) in
          let same = cells_are_same (key_of s.left.key x.cells) k (ended_key s.left.key x k some).1 in
          let here = c.values.ensures ∙ (v ∙ same) in
          let held = ap (λ l. nat_eq (many (is_of_key s.left.key l) s.left.rows) 0) (sym here) ∙ (sym c.has_none.ensures ∙ c.if-not-has_none.true) in
          absurd (not_zero (many (is_of_key s.left.key k) s.left.rows) held none);
      fewer = λ w. (omega arith);
      left = refl;
      right = refl;
      keys = record { left_key = c.write.ensures.columns; right_key = refl; left = refl; right = refl; times = refl };
    }

pub returns : goal.returns
returns c =
    let s = c.args.self.now in
    let x = c.args.edge.now in
    let cells = c.items-2.result.now in
    let later = c.forget.new.self in
    record {
      times = λ by.
          let v = c.write.ensures.values ∙ (ap (λ l. key_of l c.items.result.now) by.left ∙ ap (key_of s.left.key) (c.items.ensures ∙ sym c.items-2.ensures)) in
          let none = is_zero (many (is_of_key s.left.key (key_of s.left.key cells)) s.left.rows)
          (ap (λ l. nat_eq (many (is_of_key s.left.key l) s.left.rows) 0) (sym (c.values.ensures ∙ v)) ∙ (sym c.has_none.ensures ∙ c.if-not-has_none.false)) in
          record {
            same = forget_same s.left.key s.times.key cells s.left.rows s.times.rows later.rows by.times none c.in_ok-forget.ensures.ok;
            less = forget_less s.left.key s.times.key cells s.left.rows s.times.rows later.rows by.times none c.in_ok-forget.ensures.ok;
            fewer = forget_fewer s.left.key s.times.key cells s.left.rows s.times.rows later.rows by.times none c.in_ok-forget.ensures.ok;
          };
      gone = λ by k none some.
          let v = c.write.ensures.values ∙ (ap (λ l. key_of l c.items.result.now) by.left ∙ ap (key_of s.left.key) (c.items.ensures ∙ sym c.items-2.ensures)) in
          let here = is_zero (many (is_of_key s.left.key (key_of s.left.key cells)) s.left.rows)
          (ap (λ l. nat_eq (many (is_of_key s.left.key l) s.left.rows) 0) (sym (c.values.ensures ∙ v)) ∙ (sym c.has_none.ensures ∙ c.if-not-has_none.false)) in
          forget_gone s.left.key s.times.key cells s.left.rows s.times.rows later.rows by.times here c.in_ok-forget.ensures.ok k
          (ap (λ l. same_cells (key_of s.left.key l) k) c.items-2.ensures ∙ (ended_key s.left.key x k some).1);
      fewer = λ w.
          let q = λ (r : HeldRow). not (is_of_key s.times.key (key_of s.times.key cells) r) in
          let a = c.in_ok-forget.ensures.ok.weigh w in
          let b = kept_less w q s.times.rows in
          omega (arith, a, b);
      left = refl;
      right = refl;
      keys = record { left_key = c.write.ensures.columns; right_key = refl; left = refl; right = refl; times = c.in_ok-forget.ensures.key };
    }
