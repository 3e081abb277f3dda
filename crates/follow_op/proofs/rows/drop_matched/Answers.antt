use Rattle.std.specs.Prelude.{cond, take}
use Rattle.std.proofs.Common.{◌≡◌, ◌∙◌, ◌||◌, ◌+◌, ℕ, sym, ap}
use Rattle.std.proofs.lemmas.List.Folds.{list_any_more}
use Rattle.tw_rows.specs.Bag.{total}
use Rattle.tw_rows.specs.declared.edge.Edge.{Edge}
use Rattle.tw_rows.specs.declared.edge.HeldRow.{HeldRow}
use Rattle.synopsis.specs.Held.{key_of, is_of_key}
use Rattle.follow_op.specs.Followed.{is_met, is_followed}
use Rattle.follow_op.proofs.Taken.{others_more}
use Rattle.follow_op.proofs.rows.drop_matched.Goals as goal

pub loop-edge-preserved : goal.loop-edge-preserved
loop-edge-preserved c =
    let k = c.loop-edge.invariant in
    let f = c.in_ok-drop_key.ensures in
    let x = c.edge-item.result in
    let i = c.loop-edge.edge-index in
    let es = c.args.now.now in
    let lk = c.args.left.now.key in
    let rk = c.args.room.now.columns in
    let now = c.loop-edge.left.rows in
    let later = c.drop_key.new.left.rows in
    let values = c.values.ensures ∙ c.write.ensures.values ∙ ap (λ cs. key_of cs c.items.result.now) k.columns ∙ ap (key_of rk) c.items.ensures in
    let step : (w : HeldRow → ℕ) → total w later ≡ total (λ r. cond (is_met lk rk x r) 0 (w r)) now = λ w.
    f.rows w
    ∙ ap (λ l. total (λ r. cond (is_of_key l c.values.result.now r) 0 (w r)) now) k.key
    ∙ ap (λ v. total (λ r. cond (is_of_key lk v r) 0 (w r)) now) values in
    record {
      rows = others_more (is_followed lk rk (take i es)) (is_met lk rk x) (is_followed lk rk (take (i + 1) es)) c.args.left.now.rows now later
          (λ r. list_any_more (λ (y : Edge). is_met lk rk y r) es i x c.loop-edge-test.true ∙ ap (λ (y : Edge). is_followed lk rk (take i es) r || is_met lk rk y r) (sym c.edge-item.is))
          k.rows step;
      key = f.key ∙ k.key;
      columns = c.write.ensures.columns ∙ k.columns;
    }
