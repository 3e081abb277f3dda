use Rattle.std.proofs.Common.{◌≡◌, ◌∙◌, ◌∷◌, ◌++◌, [], ap, arith, cond, true, false, refl}
use Rattle.tw_rows.specs.Bag.{total}
use Rattle.tw_rows.specs.declared.edge.HeldRow.{HeldRow}
use Rattle.edge_history.specs.Order.{is_end}
use Rattle.synopsis.specs.Held.{key_of}
use Rattle.sweep_laws.specs.Antijoining.{begin_of}
use Rattle.anti_join.specs.Free.{is_free_key}
use Rattle.sweep_sides.proofs.Telling.{end_is}
use Rattle.anti_join.proofs.Passes.{begin_told, started_told, no_started}
use Rattle.anti_join.proofs.RowKeys.{keys_stay}
use Rattle.anti_join.proofs.sweep.AntiRows.start_left_one.Goals as goal

pub returns-then-is_end : goal.returns-then-is_end
returns-then-is_end c =
    let s = c.args.self.now in
    let x = c.args.edge.now in
    let row : HeldRow = record { cells = x.cells; start = x.sync } in
    let e : is_end x ≡ true = end_is c.is_end.result x c.is_end.ensures ∙ c.if-is_end.true in
    record {
      started = λ w. (let z = ap (λ b. total w (cond b [] (row ∷ []))) e in omega (arith, z));
      told = λ by. no_started (begin_told c.args.t s.left.key s.right) x c.args.answer.now.items e;
      right = refl;
      times = refl;
      keys = keys_stay s;
    }

pub returns : goal.returns
returns c =
    let s = c.args.self.now in
    let x = c.args.edge.now in
    let row : HeldRow = record { cells = x.cells; start = x.sync } in
    let e : is_end x ≡ false = end_is c.is_end.result x c.is_end.ensures ∙ c.if-is_end.false in
    record {
      started = λ w.
          let a = c.in_ok-add.ensures.ok w in
          let b = ap (λ l. w (record { cells = l; start = x.sync })) c.in_ok-clone.ensures.cases in
          let z = ap (λ b. total w (cond b [] (row ∷ []))) e in
          omega (arith, a, b, z);
      told = λ by.
          started_told (begin_told c.args.t s.left.key s.right) x c.args.answer.now.items c.tell_begun.new.answer.items e
          (c.in_ok-tell_begun.ensures
          ∙ ap (λ k. c.args.answer.now.items ++ begin_of (is_free_key s.right.key s.right.rows k) c.args.t row)
          (c.write.ensures.values ∙ (ap (λ k. key_of k c.items.result.now) by.left ∙ ap (key_of s.left.key) c.items.ensures)));
      right = refl;
      times = refl;
      keys = record { left_key = c.write.ensures.columns; right_key = refl; left = c.in_ok-add.ensures.key; right = refl; times = refl };
    }
