use Rattle.std.proofs.Common.{◌≡◌, ◌∙◌, ◌∷◌, [], sym, ap, arith, cond, true, false, refl}
use Rattle.tw_rows.specs.Bag.{total}
use Rattle.tw_rows.specs.declared.edge.HeldRow.{HeldRow}
use Rattle.edge_history.specs.Order.{is_end}
use Rattle.anti_join.proofs.Changes.{more_by, row_comes, none_comes}
use Rattle.sweep_sides.proofs.Telling.{end_is}
use Rattle.anti_join.proofs.RowKeys.{keys_stay}
use Rattle.anti_join.proofs.sweep.AntiRows.start_right_one.Goals as goal

pub returns-then-is_end : goal.returns-then-is_end
returns-then-is_end c =
    let s = c.args.self.now in
    let x = c.args.edge.now in
    let row : HeldRow = record { cells = x.cells; start = x.sync } in
    let e : is_end x ≡ true = end_is c.is_end.result x c.is_end.ensures ∙ c.if-is_end.true in
    record {
      started = λ w. (let z = ap (λ b. total w (cond b [] (row ∷ []))) e in omega (arith, z));
      told = λ by. none_comes s.left.key s.right.key c.args.t s.right.rows s.right.rows s.times.rows s.left.rows c.args.answer.now.items refl;
      left = refl;
      times = refl;
      keys = keys_stay s;
    }

pub returns : goal.returns
returns c =
    let s = c.args.self.now in
    let x = c.args.edge.now in
    let row : HeldRow = record { cells = x.cells; start = x.sync } in
    let e : is_end x ≡ false = end_is c.is_end.result x c.is_end.ensures ∙ c.if-is_end.false in
    record {
      started = λ w.
          let a = c.in_ok-add.ensures.ok w in
          let b = ap (λ l. w (record { cells = l; start = x.sync })) c.in_ok-clone.ensures.cases in
          let z = ap (λ b. total w (cond b [] (row ∷ []))) e in
          omega (arith, a, b, z);
      told = λ by.
          row_comes s.left.key s.right.key c.args.t c.write.new.self.values s.right.rows c.add.new.self.rows s.times.rows s.left.rows c.args.answer.now.items c.tell_blocked.new.answer.items
          (more_by s.right.key s.right_key.columns c.write.new.self.values c.items.result.now c.in_ok-clone.field-0 x.sync s.right.rows c.add.new.self.rows by.right c.write.ensures.values
          (c.items.ensures ∙ sym c.in_ok-clone.ensures.cases) c.in_ok-add.ensures.ok)
          (λ h. c.in_ok-tell_blocked.ensures.free by.times h) c.in_ok-tell_blocked.ensures.blocked;
      left = refl;
      times = refl;
      keys = record { left_key = refl; right_key = c.write.ensures.columns; left = refl; right = c.in_ok-add.ensures.key; times = refl };
    }
