use Rattle.std.proofs.Common.{◌≡◌, ◌∙◌, sym, subst}
use Rattle.edge_history.specs.Order.{failing}
use Rattle.tw_rows.specs.Instant.{later}
use Rattle.session_window.specs.Kept.{waits_from}
use Rattle.session_window.proofs.Awaiting.{ends_none, all_from, popped_fewer}
use Rattle.session_window.proofs.Likes.{like_stays, ends_like, await_like}
use Rattle.session_window.proofs.sessions.Sessions.end_due.Goals as goal

pub loop-entry-init : goal.loop-entry-init
loop-entry-init c =
    let s = c.args.self.now in
    record { ended = ends_none s.timeout s.rows.key c.args.t s.rows.rows c.args.answer.now.items; awaits = λ h. h; like = like_stays s }

pub loop-entry-preserved : goal.loop-entry-preserved
loop-entry-preserved c =
    let s = c.args.self.now in
    let now = c.loop-entry.self in
    let k = c.loop-entry.invariant in
    let f = c.in_ok-end_one.ensures in
    let p = c.in-Some.ensures.some in
    record {
      ended = ends_like s now c.end_one.new.self c.args.t c.args.answer.now.items c.loop-entry.answer.items c.end_one.new.answer.items k.like k.ended f.ended;
      awaits = λ h. await_like s now c.end_one.new.self k.like (k.awaits h) (f.awaits p.0 now.ends p.1 p.3);
      like = record { timeout = f.like.timeout ∙ k.like.timeout; key = f.like.key ∙ k.like.key };
    }

pub loop-entry-smaller : goal.loop-entry-smaller
loop-entry-smaller c =
    let p = c.in-Some.ensures.some in
    popped_fewer c.args.t c.plus-below.result c.loop-entry.self.ends c.pop_due.new.self c.end_one.new.self.ends p.0 c.plus-below.ensures p.3 p.2 c.in_ok-end_one.ensures.fewer

pub returns-clause-later : goal.returns-clause-later
returns-clause-later c =
    subst (λ q. failing (waits_from (later 1 c.args.t)) q ≡ 0) (sym c.in_default.ensures.unchanged)
    (subst (λ n. failing (waits_from n) c.loop-entry.self.ends ≡ 0) c.plus-below.ensures (all_from c.plus-below.result c.loop-entry.self.ends c.in_default.ensures.none))
