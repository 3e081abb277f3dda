use Rattle.std.proofs.Common.{ap}
use Rattle.outer_top.proofs.Changing.{end_changes, start_changes, ends_there, starts_there}
use Rattle.outer_top.proofs.ranked.Ranked.change.Goals as goal

pub returns-then-is_end : goal.returns-then-is_end
returns-then-is_end c =
    let t = c.in_ok-take.ensures in
    end_changes c.args.rank c.args.edge.now c.args.lost.now.items c.take.new.lost.items c.args.won.now.items c.args.self.now c.take.new.self c.in_ok-take.field-0
    (ends_there c.args.edge.now c.is_end.result c.if-is_end.true c.is_end.ensures.0) t.rows t.lost t.ranked t.missing t.none

pub returns : goal.returns
returns c =
    let s = c.in_ok-add.ensures in
    start_changes c.args.rank c.args.edge.now c.args.lost.now.items c.args.won.now.items c.add.new.won.items (record { cells = c.in_ok-clone.field-0; start = c.args.edge.now.sync }) c.args.self.now c.add.new.self
    (starts_there c.args.edge.now c.is_end.result c.if-is_end.false c.is_end.ensures.1)
    (ap (λ cells. record { cells = cells; start = c.args.edge.now.sync }) c.in_ok-clone.ensures.cases) s.rows s.won s.ranked
