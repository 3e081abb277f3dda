use Rattle.std.proofs.Common.{◌≡◌, suc, subst, arith}
use Rattle.std.specs.Prelude.{nat_le}
use Rattle.edge_history.specs.Order.{failing}
use Rattle.tw_rows.specs.Instant.{later}
use Rattle.session_window.specs.Kept.{waits_from}
use Rattle.session_window.proofs.Instants.{instant_held, instant_tells}
use Rattle.session_window.proofs.Likes.{like_then, await_like, next_from, next_is, by_now}
use Rattle.session_window.proofs.sessions.Sessions.pass.Goals as goal

pub returns : goal.returns
returns c =
    let s0 = c.args.self.now in
    let s1 = c.end_due.new.self in
    let s2 = c.start_all.new.self in
    let a0 = c.args.answer.now.items in
    let a1 = c.end_due.new.answer.items in
    let a2 = c.start_all.new.answer.items in
    let f1 = c.in_ok-end_due.ensures in
    let f2 = c.in_ok-start_all.ensures in
    let t = c.args.t in
    let now = c.args.now.now in
    record {
      swept = λ a pos low events is h.
          let w1 = f1.awaits h.awaits in
          let w2 = await_like s0 s1 s2 f1.like w1 f2.awaits in
          let from2 = f2.later (suc t) (by_now (λ n l. failing (λ e. nat_le (suc t) (later n e.sync)) now ≡ 0) s0 s1 f1.like (next_from s0.timeout t a now pos low is))
          (subst (λ n. failing (waits_from n) s1.ends ≡ 0) (next_is t low) f1.later) in (
            instant_held s0.rows.key s0.timeout t a now s0.rows.rows s1.rows.rows s2.rows.rows s0.ends s1.ends s2.ends a0 a1 a2 pos low events is h f1.ended w1 f1.later f2.rows f2.told w2 from2,
            instant_tells s0.rows.key s0.timeout t a now s0.rows.rows s1.rows.rows s2.rows.rows s0.ends s1.ends s2.ends a0 a1 a2 pos low events is h f1.ended w1 f1.later f2.rows f2.told w2 from2,
          );
      rows = λ w. (let a = f1.ended.split w in let b = f2.rows w in omega (arith, a, b));
      like = like_then s0 s1 s2 f1.like f2.like;
    }
