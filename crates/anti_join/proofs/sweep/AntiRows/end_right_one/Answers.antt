use Rattle.synopsis.specs.Held.{KeyedRows}
use Rattle.std.proofs.Common.{◌≡◌, ◌∙◌, ◌∷◌, [], sym, ap, arith, cond, not, ◌&&◌, true, false, refl}
use Rattle.tw_rows.specs.Bag.{total}
use Rattle.tw_rows.specs.declared.edge.HeldRow.{HeldRow}
use Rattle.edge_history.specs.Order.{is_end, many}
use Rattle.edge_history.specs.Opens.{is_held}
use Rattle.anti_join.specs.Free.{is_free_key, free_since}
use Rattle.anti_join.proofs.Changes.{more_by, row_goes, row_goes_on, none_goes, since_same, free_by}
use Rattle.sweep_sides.proofs.Telling.{end_is}
use Rattle.anti_join.proofs.Flips.{since_then, since_as}
use Rattle.anti_join.proofs.RowKeys.{keys_stay, starts_by_right}
use Rattle.anti_join.proofs.sweep.AntiRows.end_right_one.Goals as goal

pub returns-then-not-is_end : goal.returns-then-not-is_end
returns-then-not-is_end c =
    let s = c.args.self.now in
    let x = c.args.edge.now in
    let row : HeldRow = record { cells = x.cells; start = x.other } in
    let e : is_end x ≡ false = end_is c.is_end.result x c.is_end.ensures ∙ c.if-not-is_end.true in
    record {
      ended = λ _ w. (let z = ap (λ b. total w (cond b (row ∷ []) [])) e in omega (arith, z));
      fewer = λ w. (omega arith);
      told = λ by. none_goes s.left.key s.right.key c.args.t s.right.rows s.right.rows s.times.rows s.left.rows c.args.answer.now.items refl;
      times = λ by. record {
        since = λ k _. since_same s.left.key s.right.key c.args.t s.right.rows s.right.rows k _ refl;
        early = λ k low. low;
        few = λ k _. (omega arith);
      };
      begun = λ kinds to low left times. times;
      left = refl;
      keys = keys_stay s;
    }

pub returns-then-not-take : goal.returns-then-not-take
returns-then-not-take c =
    let s = c.args.self.now in
    let x = c.args.edge.now in
    let same = c.take.ensures.unchanged c.if-not-take.true in
    let e : is_end x ≡ true = end_is c.is_end.result x c.is_end.ensures ∙ c.if-not-is_end.false in
    record {
      ended = λ held w.
          let n = c.take.ensures.none c.if-not-take.true in
          let h = held e in
          let i = ap (λ l. many (is_held l x.other) s.right.rows) c.items.ensures in
          absurd (omega (arith, n, h, i));
      fewer = λ w. (let z = ap (total w) same in omega (arith, z));
      told = λ by. none_goes s.left.key s.right.key c.args.t s.right.rows c.take.new.self.rows s.times.rows s.left.rows c.args.answer.now.items same;
      times = λ by. record {
        since = λ k _. since_same s.left.key s.right.key c.args.t s.right.rows c.take.new.self.rows k _ same;
        early = λ k low. low;
        few = λ k _. (omega arith);
      };
      begun = λ kinds to low left times. times;
      left = refl;
      keys = record { left_key = refl; right_key = refl; left = refl; right = c.take.ensures.key; times = refl };
    }

pub returns-then-not-is_free : goal.returns-then-not-is_free
returns-then-not-is_free c =
    let s = c.args.self.now in
    let x = c.args.edge.now in
    let row : HeldRow = record { cells = x.cells; start = x.other } in
    let e : is_end x ≡ true = end_is c.is_end.result x c.is_end.ensures ∙ c.if-not-is_end.false in
    let right2 = c.take.new.self in
    let v = c.write.new.self.values in
    let blocked = free_by s.right.key right2.key right2.rows c.values.result.now v c.is_free.result c.take.ensures.key c.values.ensures c.is_free.ensures ∙ c.if-not-is_free.true in
    record {
      ended = λ _ w.
          let a = c.take.ensures.taken c.if-not-take.false w in
          let b = ap (λ l. w (record { cells = l; start = x.other })) c.items.ensures in
          let z = ap (λ b. total w (cond b (row ∷ []) [])) e in
          omega (arith, a, b, z);
      fewer = λ w. (let a = c.take.ensures.taken c.if-not-take.false w in omega (arith, a));
      told = λ by.
          let one = more_by s.right.key s.right_key.columns v c.items-2.result.now c.items.result.now x.other right2.rows s.right.rows by.right c.write.ensures.values
          (c.items-2.ensures ∙ sym c.items.ensures) (c.take.ensures.taken c.if-not-take.false) in
          row_goes_on s.left.key s.right.key c.args.t v s.right.rows right2.rows s.times.rows s.left.rows c.args.answer.now.items one blocked;
      times = λ by.
          let one = more_by s.right.key s.right_key.columns v c.items-2.result.now c.items.result.now x.other right2.rows s.right.rows by.right c.write.ensures.values
          (c.items-2.ensures ∙ sym c.items.ensures) (c.take.ensures.taken c.if-not-take.false) in
          record {
            since = λ k _. since_as s.left.key s.right.key v right2.rows s.right.rows one k c.args.t _ (λ z. blocked);
            early = λ k low. low;
            few = λ k _. (omega arith);
          };
      begun = λ kinds to low left times. times;
      left = refl;
      keys = record { left_key = refl; right_key = c.write.ensures.columns; left = refl; right = c.take.ensures.key; times = refl };
    }

pub returns : goal.returns
returns c =
    let s = c.args.self.now in
    let x = c.args.edge.now in
    let row : HeldRow = record { cells = x.cells; start = x.other } in
    let e : is_end x ≡ true = end_is c.is_end.result x c.is_end.ensures ∙ c.if-not-is_end.false in
    let right2 = c.take.new.self in
    let v = c.write.new.self.values in
    let later = c.tell_free.new.self in
    let f = c.in_ok-tell_free.ensures in
    let free = free_by s.right.key right2.key right2.rows c.values.result.now v c.is_free.result c.take.ensures.key c.values.ensures c.is_free.ensures ∙ c.if-not-is_free.false in
    record {
      ended = λ _ w.
          let a = c.take.ensures.taken c.if-not-take.false w in
          let b = ap (λ l. w (record { cells = l; start = x.other })) c.items.ensures in
          let z = ap (λ b. total w (cond b (row ∷ []) [])) e in
          let r = ap (λ (k : KeyedRows). total w k.rows) f.right in
          omega (arith, a, b, z, r);
      fewer = λ w. (let a = c.take.ensures.taken c.if-not-take.false w in let r = ap (λ (k : KeyedRows). total w k.rows) f.right in omega (arith, a, r));
      told = λ by.
          let one = more_by s.right.key s.right_key.columns v c.items-2.result.now c.items.result.now x.other right2.rows s.right.rows by.right c.write.ensures.values
          (c.items-2.ensures ∙ sym c.items.ensures) (c.take.ensures.taken c.if-not-take.false) in
          starts_by_right c.args.t s right2 later.right c.args.answer.now.items c.tell_free.new.answer.items f.right
          (row_goes s.left.key s.right.key c.args.t v s.right.rows right2.rows s.times.rows s.left.rows c.args.answer.now.items c.tell_free.new.answer.items one free f.told);
      times = λ by.
          let one = more_by s.right.key s.right_key.columns v c.items-2.result.now c.items.result.now x.other right2.rows s.right.rows by.right c.write.ensures.values
          (c.items-2.ensures ∙ sym c.items.ensures) (c.take.ensures.taken c.if-not-take.false) in
          let g = f.times by.times in
          record {
            since = λ k some.
                since_then s.left.key s.right.key v right2.rows s.right.rows one k c.args.t _ _ free (g.since k some)
                ∙ ap (λ (r : KeyedRows). cond (not (is_free_key s.right.key s.right.rows k) && is_free_key s.right.key r.rows k) c.args.t (free_since s.left.key s.times.rows k)) (sym f.right);
            early = g.early;
            few = g.few;
          };
      begun = f.begun;
      left = f.left;
      keys = record { left_key = f.keys.left_key; right_key = f.keys.right_key ∙ c.write.ensures.columns; left = f.keys.left; right = f.keys.right ∙ c.take.ensures.key; times = f.keys.times };
    }
