use Rattle.std.proofs.Common.{◌≡◌, ◌∙◌, ◌∷◌, ◌++◌, [], sym, ap, arith, cond, true, false, refl}
use Rattle.tw_rows.specs.Bag.{total}
use Rattle.tw_rows.specs.declared.edge.HeldRow.{HeldRow}
use Rattle.edge_history.specs.Order.{is_end, many}
use Rattle.edge_history.specs.Opens.{is_held}
use Rattle.synopsis.specs.Held.{key_of}
use Rattle.sweep_laws.specs.Antijoining.{end_of}
use Rattle.sweep_sides.proofs.Telling.{end_is}
use Rattle.anti_join.proofs.Passes.{end_told, ended_told, no_ended, same_status}
use Rattle.anti_join.proofs.RowKeys.{keys_stay}
use Rattle.anti_join.proofs.sweep.AntiRows.end_left_one.Goals as goal

pub returns-then-not-is_end : goal.returns-then-not-is_end
returns-then-not-is_end c =
    let s = c.args.self.now in
    let x = c.args.edge.now in
    let row : HeldRow = record { cells = x.cells; start = x.other } in
    let e : is_end x ≡ false = end_is c.is_end.result x c.is_end.ensures ∙ c.if-not-is_end.true in
    record {
      ended = λ _ w. (let z = ap (λ b. total w (cond b (row ∷ []) [])) e in omega (arith, z));
      told = λ by _. no_ended (end_told c.args.t s.left.key s.right s.times) x c.args.answer.now.items e;
      fewer = λ w. (omega arith);
      right = refl;
      times = refl;
      keys = keys_stay s;
    }

pub returns-then-not-take : goal.returns-then-not-take
returns-then-not-take c =
    let s = c.args.self.now in
    let x = c.args.edge.now in
    let n = c.take.ensures.none c.if-not-take.true in
    let i = ap (λ l. many (is_held l x.other) s.left.rows) c.items.ensures in
    let e : is_end x ≡ true = end_is c.is_end.result x c.is_end.ensures ∙ c.if-not-is_end.false in
    record {
      ended = λ held w. (let h = held e in absurd (omega (arith, n, h, i)));
      told = λ by held. (let h = held e in absurd (omega (arith, n, h, i)));
      fewer = λ w. (let z = ap (total w) (c.take.ensures.unchanged c.if-not-take.true) in omega (arith, z));
      right = refl;
      times = refl;
      keys = record { left_key = refl; right_key = refl; left = c.take.ensures.key; right = refl; times = refl };
    }

pub returns : goal.returns
returns c =
    let s = c.args.self.now in
    let x = c.args.edge.now in
    let t = c.args.t in
    let lk = s.left.key in
    let row : HeldRow = record { cells = x.cells; start = x.other } in
    let e : is_end x ≡ true = end_is c.is_end.result x c.is_end.ensures ∙ c.if-not-is_end.false in
    record {
      ended = λ _ w.
          let a = c.take.ensures.taken c.if-not-take.false w in
          let b = ap (λ l. w (record { cells = l; start = x.other })) c.items.ensures in
          let z = ap (λ b. total w (cond b (row ∷ []) [])) e in
          omega (arith, a, b, z);
      told = λ by _.
          ended_told (end_told t lk s.right s.times) x c.args.answer.now.items c.tell_ended.new.answer.items e
          (c.in_ok-tell_ended.ensures (by.times ∙ sym c.take.ensures.key)
          ∙ ap (λ st. c.args.answer.now.items ++ end_of st t row)
          (same_status lk c.take.new.self.key s.right.key s.right.rows s.times.rows c.write.new.self.values (key_of lk x.cells) c.take.ensures.key
          (c.write.ensures.values ∙ (ap (λ k. key_of k c.items-2.result.now) by.left ∙ ap (key_of lk) c.items-2.ensures))));
      fewer = λ w. (let a = c.take.ensures.taken c.if-not-take.false w in omega (arith, a));
      right = refl;
      times = refl;
      keys = record { left_key = c.write.ensures.columns; right_key = refl; left = c.take.ensures.key; right = refl; times = refl };
    }
