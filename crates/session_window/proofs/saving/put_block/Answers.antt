use Rattle.std.proofs.Common.{ap, refl, arith}
use Rattle.tw_rows.specs.declared.edge.HeldRow.{HeldRow}
use Rattle.tw_rows.proofs.Fronts.{total_more}
use Rattle.end_queue.specs.Pending.{Pending}
use Rattle.synopsis.specs.Held.{key_of}
use Rattle.session_window.proofs.Awaiting.{one_opened, placed_opened}
use Rattle.session_window.proofs.Likes.{like_stays, like_then, one_like}
use Rattle.session_window.proofs.saving.put_block.Goals as goal

pub loop-row-init : goal.loop-row-init
loop-row-init c = record { rows = λ w. (omega arith); one = λ h. h; at = λ h. h; like = like_stays c.args.sessions.now }

pub loop-row-preserved : goal.loop-row-preserved
loop-row-preserved c =
    let s = c.args.sessions.now in
    let now = c.loop-row.sessions in
    let new = c.put_in.new.self in
    let k = c.loop-row.invariant in
    let f = c.in_ok-put_in.ensures in
    let x = c.row-item.result in
    let row : HeldRow = record { cells = c.in_ok-clone.field-0; start = x.start } in
    let p : Pending = record { at = c.args.at; edge = record { sync = c.args.at; other = c.args.at; cells = key_of now.rows.key c.in_ok-clone.field-0 } } in
    record {
      rows = λ w.
          let a = k.rows w in
          let b = f.rows w in
          let d = total_more w c.args.rows.now c.loop-row.row-index x c.loop-row-test.true in
          let e = ap w c.row-item.is in
          let g = ap (λ l. w (record { cells = l; start = x.start })) c.in_ok-clone.ensures.cases in
          omega (arith, a, b, d, e, g);
      one = λ h. one_like s now new k.like (k.one h) (one_opened now.timeout now.rows.key now.rows.rows new.rows.rows now.ends new.ends row p refl f.rows f.ends);
      at = λ h. placed_opened now.timeout now.rows.key now.rows.rows new.rows.rows now.ends new.ends row p refl f.rows f.ends c.args.at refl (k.at h);
      like = like_then s now new k.like f.like;
    }
