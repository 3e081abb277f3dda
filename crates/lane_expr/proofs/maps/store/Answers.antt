use Rattle.std.proofs.Common.{◌∙◌, ap}
use Rattle.lane_expr.proofs.Results.{next_before, next_long, next_values}
use Rattle.lane_expr.proofs.maps.store.Goals as goal

pub loop-j-preserved : goal.loop-j-preserved
loop-j-preserved g c =
    let lane = g.C.Lane in
    let i = c.loop-j.invariant in
    let n = c.loop-j.j in
    let f = lane.cell_at c.args.from.now in
    let old = c.args.out.now.items in
    let now = c.loop-j.out.items in
    let new = c.push.new.self.items in
    let x = c.cell.result in
    let pushed = ap (λ o. o.items) c.push.ensures in
    let is = c.cell.ensures in
    record {
      before = next_before lane.blank f old now new x n i.long pushed is i.before;
      long = next_long lane.blank f old now new x n i.long pushed is;
      values = next_values lane.blank f old now new x n i.long pushed is i.values;
      room = ap (λ o. o.capacity) c.push.ensures ∙ i.room;
    }
