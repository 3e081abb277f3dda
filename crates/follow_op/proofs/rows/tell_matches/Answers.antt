use Rattle.std.specs.Prelude.{cond, map, filter}
use Rattle.std.proofs.Common.{◌≡◌, ◌∙◌, ◌++◌, ap, arith}
use Rattle.std.proofs.lemmas.List.{take_all}
use Rattle.tw_rows.specs.Bag.{total}
use Rattle.tw_rows.specs.declared.edge.Edge.{Edge}
use Rattle.tw_rows.proofs.Fronts.{total_more}
use Rattle.synopsis.specs.Held.{key_of, is_of_key}
use Rattle.follow_op.specs.Followed.{match_told, is_met}
use Rattle.follow_op.proofs.Taken.{matches_order, matches_weigh}
use Rattle.follow_op.proofs.rows.tell_matches.Goals as goal

pub loop-edge-preserved : goal.loop-edge-preserved
loop-edge-preserved c =
    let k = c.loop-edge.invariant in
    let x = c.edge-item.result in
    let i = c.loop-edge.edge-index in
    let rows = c.args.left.now.rows in
    let lk = c.args.left.now.key in
    let rk = c.args.room.now.columns in
    let t = c.args.t in
    let within = c.args.within in
    let before = c.loop-edge.answer.items in
    let after = c.tell_rows.new.answer.items in
    let columns = c.columns.ensures ∙ c.write.ensures.columns ∙ k.columns in
    let values = c.values.ensures ∙ c.write.ensures.values ∙ ap (λ cs. key_of cs c.items.result.now) k.columns ∙ ap (key_of rk) c.items.ensures in
    let told : after ≡ before ++ map (match_told rk within t x.cells) (filter (is_met lk rk x) rows) =
    c.in_ok-tell_rows.ensures
    ∙ ap (λ cs. before ++ map (match_told cs within t c.items-in-loop-edge.result.now) c.rows_of.result.now) columns
    ∙ ap (λ l. before ++ map (match_told rk within t l) c.rows_of.result.now) c.items-in-loop-edge.ensures
    ∙ ap (λ l. before ++ map (match_told rk within t x.cells) l) (c.rows_of.ensures ∙ ap (λ v. filter (is_of_key lk v) rows) values) in
    record {
      told = λ w.
          let a = k.told w in
          let b = matches_weigh w (match_told rk within t x.cells) (is_met lk rk x) rows before after told in
          let d = total_more (λ z. total (λ r. cond (is_met lk rk z r) (w (match_told rk within t z.cells r)) 0) rows) c.args.now.now i x c.loop-edge-test.true in
          let e = ap (λ (z : Edge). total (λ r. cond (is_met lk rk z r) (w (match_told rk within t z.cells r)) 0) rows) c.edge-item.is in
          omega (arith, a, b, d, e);
      order = λ waits up. matches_order rk within t x.cells (is_met lk rk x) rows before after told waits (k.order waits up);
      columns = c.write.ensures.columns ∙ k.columns;
    }

pub returns-clause-told : goal.returns-clause-told
returns-clause-told c = λ w.
    let lk = c.args.left.now.key in
    let rk = c.args.room.now.columns in
    let a = c.loop-edge.invariant.told w in
    let b = ap (total (λ z. total (λ r. cond (is_met lk rk z r) (w (match_told rk c.args.within c.args.t z.cells r)) 0) c.args.left.now.rows)) (take_all c.loop-edge.edge-index c.args.now.now c.loop-edge-test.false) in
    omega (arith, a, b)
