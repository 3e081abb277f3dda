use Rattle.std.proofs.Common.{◌∙◌, ap, arith}
use Rattle.std.proofs.lemmas.List.{take_all}
use Rattle.std.proofs.lemmas.Option.{get_or_from_slice_get}
use Rattle.tw_rows.specs.Bag.{total}
use Rattle.tw_rows.proofs.Bags.{total-flat_map}
use Rattle.tw_rows.proofs.Fronts.{total_more}
use Rattle.session_window.proofs.Likes.{like_stays, like_then, one_like}
use Rattle.session_window.proofs.saving.put_rows.Goals as goal

pub loop-k-init : goal.loop-k-init
loop-k-init c = record { rows = λ w. (omega arith); one = λ h. h; at = λ h. h; like = like_stays c.args.sessions.now }

pub loop-k-preserved : goal.loop-k-preserved
loop-k-preserved c =
    let s = c.args.sessions.now in
    let now = c.loop-k.sessions in
    let new = c.put_block.new.sessions in
    let k = c.loop-k.invariant in
    let f = c.in_ok-put_block.ensures in
    let b = c.block.result.now in
    record {
      rows = λ w.
          let x = k.rows w in
          let y = f.rows w in
          let low = c.loop-k-test.true in
          let n = c.block_count-k-end.ensures.count in
          let d = total_more (λ l. total w l) c.args.rows.now.blocks c.loop-k.k b (omega (arith, low, n)) in
          let e = ap (λ l. total w l) (get_or_from_slice_get c.args.rows.now.blocks c.loop-k.k b b c.block.ensures) in
          omega (arith, x, y, d, e);
      one = λ h. one_like s now new k.like (k.one h) f.one;
      at = λ h. f.at (k.at h);
      like = like_then s now new k.like f.like;
    }

pub returns-clause-rows : goal.returns-clause-rows
returns-clause-rows c = λ w.
    let low = c.loop-k-test.false in
    let n = c.block_count-k-end.ensures.count in
    let x = c.loop-k.invariant.rows w in
    let t = ap (total (λ l. total w l)) (take_all c.loop-k.k c.args.rows.now.blocks (omega (arith, low, n))) in
    let e = ap (total w) c.block_count-k-end.ensures.rows ∙ total-flat_map w (λ b. b) c.args.rows.now.blocks in
    omega (arith, x, t, e)
