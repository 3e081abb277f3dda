-- What is answered by hand of the proof of ranked::Ranked::take_shown.
use Rattle.std.proofs.Common.{arith}
use Rattle.outer_top.proofs.Moving.{one_more, shown_cut}
use Rattle.outer_top.proofs.ranked.Ranked.take_shown.Goals as goal

pub overflow_sub-self : goal.overflow_sub-self
overflow_sub-self c =
    let s = c.args.self.now in
    let n = one_more c.take_row-gone.new.groups.entries s.shown.entries (record { cells = c.items.result.now; start = c.args.start }) (c.take_row-gone.ensures.taken c.if-gone.true) in
    let k = s.counted in
    omega (arith, n, k)

pub invariant_of-self : goal.invariant_of-self
invariant_of-self c =
    let s = c.args.self.now in
    let n = one_more c.take_row-gone.new.groups.entries s.shown.entries (record { cells = c.items.result.now; start = c.args.start }) (c.take_row-gone.ensures.taken c.if-gone.true) in
    let k = s.counted in
    record { apart = shown_cut s.shown.entries c.take_row-gone.new.groups.entries s.hidden.entries c.take_row-gone.ensures.keys s.apart; counted = omega (arith, n, k) }
