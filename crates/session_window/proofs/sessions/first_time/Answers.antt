use Rattle.std.proofs.Common.{inl, inr, arith}
use Rattle.session_window.proofs.Awaiting.{first_entry, no_entry}
use Rattle.session_window.proofs.sessions.first_time.Goals as goal

pub returns-then-len-eq0 : goal.returns-then-len-eq0
returns-then-len-eq0 c = record {
  first = no_entry c.bounds.result.1 c.args.ends.now (let a = c.len.ensures.len in let b = c.if-len-eq0.true in omega (arith, a, b));
  found = inl c.bounds.ensures.infinity;
}

pub returns : goal.returns
returns c =
    let a = c.len.ensures.len in
    let b = c.if-len-eq0.false in
    let x = first_entry c.time_at.result c.args.ends.now (omega (arith, a, b)) c.len.ensures.order c.time_at.ensures in
    record { first = x.0; found = inr x.1 }
