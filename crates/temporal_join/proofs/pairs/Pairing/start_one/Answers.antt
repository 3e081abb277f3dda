use Rattle.std.proofs.Common.{◌≡◌, ◌∙◌, ◌∷◌, [], sym, ap, subst, arith, cond, true, false, refl}
use Rattle.tw_rows.specs.Bag.{total}
use Rattle.tw_rows.specs.declared.edge.HeldRow.{HeldRow}
use Rattle.edge_history.specs.Order.{is_end}
use Rattle.sweep_laws.specs.Moves.{Adds}
use Rattle.sweep_laws.proofs.Adding.{adds_none}
use Rattle.temporal_join.specs.Pairing.{told_pairs}
use Rattle.sweep_sides.proofs.Telling.{end_is}
use Rattle.temporal_join.proofs.pairs.Pairing.start_one.Goals as goal

pub returns-then-is_end : goal.returns-then-is_end
returns-then-is_end c =
    let x = c.args.edge.now in
    let row : HeldRow = record { cells = x.cells; start = x.sync } in
    let e : is_end x ≡ true = end_is c.is_end.result x c.is_end.ensures ∙ c.if-is_end.true in
    record {
      started = λ w. (let z = ap (λ t. total w (cond t [] (row ∷ []))) e in omega (arith, z));
      told = λ k.
          subst (λ l. Adds c.args.answer.now.items c.args.answer.now.items (told_pairs c.args.self.now true l c.args.others.now.rows))
          (sym (ap (λ t. cond t [] (row ∷ [])) e)) (adds_none c.args.answer.now.items);
      key = refl;
    }

pub returns : goal.returns
returns c =
    let x = c.args.edge.now in
    let row : HeldRow = record { cells = x.cells; start = x.sync } in
    let e : is_end x ≡ false = end_is c.is_end.result x c.is_end.ensures ∙ c.if-is_end.false in
    record {
      started = λ w.
          let a = c.in_ok-add.ensures.ok w in
          let b = ap (λ l. w (record { cells = l; start = x.sync })) c.replace.ensures.value in
          let z = ap (λ t. total w (cond t [] (row ∷ []))) e in
          omega (arith, a, b, z);
      told = λ k.
          subst (λ l. Adds c.args.answer.now.items c.tell_row.new.answer.items (told_pairs c.args.self.now true l c.args.others.now.rows))
          (ap (λ l. record row { cells = l } ∷ []) c.items.ensures ∙ sym (ap (λ t. cond t [] (row ∷ [])) e)) (c.in_ok-tell_row.ensures k);
      key = c.in_ok-add.ensures.key;
    }
