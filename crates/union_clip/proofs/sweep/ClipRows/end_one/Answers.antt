use Rattle.std.proofs.Common.{◌≡◌, ◌+◌, ◌∙◌, ◌∷◌, ◌++◌, [], sym, ap, arith, true, false, refl}
use Rattle.tw_rows.specs.Bag.{total}
use Rattle.tw_rows.specs.declared.edge.Edge.{Edge}
use Rattle.edge_history.specs.Order.{is_end, many}
use Rattle.edge_history.specs.Opens.{is_held}
use Rattle.sweep_laws.specs.Moves.{told_at}
use Rattle.union_clip.specs.Leaving.{row_named}
use Rattle.union_clip.proofs.KeyRules.{keys_stay}
use Rattle.sweep_sides.proofs.Telling.{end_is}
use Rattle.union_clip.proofs.Leaving.{end_none, end_missing, end_found}
use Rattle.union_clip.proofs.sweep.ClipRows.end_one.Goals as goal

pub returns-then-not-is_end : goal.returns-then-not-is_end
returns-then-not-is_end c =
    let s = c.args.self.now in
    let x = c.args.edge.now in
    let e : is_end x ≡ false = end_is c.is_end.result x c.is_end.ensures ∙ c.if-not-is_end.true in
    record {
      ended = λ clipped h. end_none clipped c.args.t x s.left.rows c.args.answer.now.items e;
      fewer = λ w. (omega arith);
      keys = keys_stay s;
    }

pub returns-then-not-take : goal.returns-then-not-take
returns-then-not-take c =
    let s = c.args.self.now in
    let x = c.args.edge.now in
    let e : is_end x ≡ true = end_is c.is_end.result x c.is_end.ensures ∙ c.if-not-is_end.false in
    record {
      ended = λ clipped h.
          end_missing clipped c.args.t x s.left.rows c.take.new.self.rows c.args.answer.now.items e
          (sym (ap (λ l. many (is_held l x.other) s.left.rows) c.items.ensures) ∙ c.take.ensures.none c.if-not-take.true) (c.take.ensures.unchanged c.if-not-take.true) h;
      fewer = λ w. (let z = ap (total w) (c.take.ensures.unchanged c.if-not-take.true) in omega (arith, z));
      keys = record { left = c.take.ensures.key; right = refl };
    }

pub returns : goal.returns
returns c =
    let s = c.args.self.now in
    let x = c.args.edge.now in
    let t = c.args.t in
    let e : is_end x ≡ true = end_is c.is_end.result x c.is_end.ensures ∙ c.if-not-is_end.false in
    let k = c.in_ok-clone.ensures.cases in
    let it : record { sync = t; other = x.other; cells = c.in_ok-clone.field-0 } ≡ told_at false t (row_named x) = λ i. record { sync = t; other = x.other; cells = k i } in
    record {
      ended = λ clipped h.
          end_found clipped t x s.left.rows c.take.new.self.rows c.args.answer.now.items c.push.new.self.items e
          (λ w. c.take.ensures.taken c.if-not-take.false w ∙ ap (λ l. total w c.take.new.self.rows + w (record { cells = l; start = x.other })) c.items.ensures)
          (c.in_ok-push.ensures.items ∙ ap (λ (y : Edge). c.args.answer.now.items ++ y ∷ []) it) h;
      fewer = λ w. (let a = c.take.ensures.taken c.if-not-take.false w in omega (arith, a));
      keys = record { left = c.take.ensures.key; right = refl };
    }
