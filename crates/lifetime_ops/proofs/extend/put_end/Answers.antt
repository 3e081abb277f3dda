use Rattle.std.proofs.Common.{◌≡◌, ◌∙◌, true, sym}
use Rattle.std.specs.Prelude.{nat_lt}
use Rattle.tw_rows.specs.Instant.{inf}
use Rattle.lifetime_ops.proofs.Waiting.{moved_end, end_put, end_passed, end_waits, all_wait}
use Rattle.lifetime_ops.proofs.extend.put_end.Goals as goal

pub returns-then-not-is_instant-clause-ends : goal.returns-then-not-is_instant-clause-ends
returns-then-not-is_instant-clause-ends c = end_passed c.args.by c.plus-at.result c.args.edge c.args.ends.now c.plus-at.ensures (sym c.is_instant.ensures ∙ c.if-not-is_instant.true)

pub returns-clause-ends : goal.returns-clause-ends
returns-clause-ends c =
    end_put c.args.by c.plus-at.result c.args.edge c.args.ends.now c.put.new.self c.plus-at.ensures (sym c.is_instant.ensures ∙ c.if-not-is_instant.false) c.requires.end c.in_ok-put.ensures.ok

pub returns-clause-waiting : goal.returns-clause-waiting
returns-clause-waiting c = λ kinds cells all.
    let fit : nat_lt c.plus-at.result inf ≡ true = sym c.is_instant.ensures ∙ c.if-not-is_instant.false in
    all_wait kinds (record { at = c.plus-at.result; edge = moved_end c.plus-at.result c.args.edge }) c.args.ends.now c.put.new.self c.in_ok-put.ensures.ok
    (end_waits kinds c.args.by c.plus-at.result c.args.edge c.plus-at.ensures fit c.requires.end c.requires.real cells) all
