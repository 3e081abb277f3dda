use Rattle.std.proofs.Common.{◌≡◌, ◌∙◌, ◌∷◌, [], sym, ap, subst, arith, cond, true, false}
use Rattle.tw_rows.specs.Bag.{total}
use Rattle.tw_rows.specs.declared.edge.HeldRow.{HeldRow}
use Rattle.edge_history.specs.Order.{is_end}
use Rattle.sweep_laws.specs.Moves.{Adds}
use Rattle.temporal_join.specs.Pairing.{told_pairs}
use Rattle.sweep_sides.proofs.Telling.{end_is}
use Rattle.temporal_join.proofs.pairs.Pairing.end_one.Goals as goal

pub returns : goal.returns
returns c =
    let x = c.args.edge.now in
    let row : HeldRow = record { cells = x.cells; start = x.other } in
    let e : is_end x ≡ true = end_is c.is_end.result x c.is_end.ensures ∙ c.if-not-is_end.false in
    record {
      ended = λ _ w.
          let a = c.take.ensures.taken c.if-not-take.false w in
          let b = ap (λ l. w (record { cells = l; start = x.other })) c.items-cells.ensures in
          let z = ap (λ t. total w (cond t (row ∷ []) [])) e in
          omega (arith, a, b, z);
      fewer = λ w. (let a = c.take.ensures.taken c.if-not-take.false w in omega (arith, a));
      told = λ k _.
          subst (λ l. Adds c.args.answer.now.items c.tell_row.new.answer.items (told_pairs c.args.self.now false l c.args.others.now.rows))
          (ap (λ l. record row { cells = l } ∷ []) c.items-cells.ensures ∙ sym (ap (λ t. cond t (row ∷ []) []) e)) (c.in_ok-tell_row.ensures k);
      key = c.take.ensures.key;
    }
