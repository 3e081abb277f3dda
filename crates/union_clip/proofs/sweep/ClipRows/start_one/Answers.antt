use Rattle.std.proofs.Common.{◌≡◌, ◌∙◌, ◌∷◌, [], ap, arith, cond, true, false, refl}
use Rattle.tw_rows.specs.Bag.{total}
use Rattle.tw_rows.specs.declared.edge.HeldRow.{HeldRow}
use Rattle.edge_history.specs.Order.{is_end}
use Rattle.union_clip.proofs.KeyRules.{keys_stay}
use Rattle.sweep_sides.proofs.Telling.{end_is, no_start, start_told}
use Rattle.union_clip.proofs.sweep.ClipRows.start_one.Goals as goal

pub returns-then-is_end : goal.returns-then-is_end
returns-then-is_end c =
    let x = c.args.edge.now in
    let row : HeldRow = record { cells = x.cells; start = x.sync } in
    let e : is_end x ≡ true = end_is c.is_end.result x c.is_end.ensures ∙ c.if-is_end.true in
    record {
      started = λ w. (let z = ap (λ b. total w (cond b [] (row ∷ []))) e in omega (arith, z));
      told = no_start c.args.t x c.args.answer.now.items e;
      keys = keys_stay c.args.self.now;
    }

pub returns : goal.returns
returns c =
    let x = c.args.edge.now in
    let row : HeldRow = record { cells = x.cells; start = x.sync } in
    let e : is_end x ≡ false = end_is c.is_end.result x c.is_end.ensures ∙ c.if-is_end.false in
    record {
      started = λ w.
          let a = c.in_ok-add.ensures.ok w in
          let b = ap (λ l. w (record { cells = l; start = x.sync })) c.in_ok-clone-2.ensures.cases in
          let z = ap (λ b. total w (cond b [] (row ∷ []))) e in
          omega (arith, a, b, z);
      told = start_told c.args.t x c.args.answer.now.items c.push.new.self.items c.bounds.result.1 c.in_ok-clone.field-0 e c.bounds.ensures.infinity c.in_ok-clone.ensures.cases c.in_ok-push.ensures.items;
      keys = record { left = c.in_ok-add.ensures.key; right = refl };
    }
