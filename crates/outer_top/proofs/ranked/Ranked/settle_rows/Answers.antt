use Rattle.outer_top.proofs.Changing.{has_settled}
use Rattle.outer_top.proofs.ranked.Ranked.settle_rows.Goals as goal

pub returns : goal.returns
returns c =
    let s = c.in_ok-settle.ensures in
    has_settled c.args.most c.args.lost.now.items c.settle.new.lost.items c.args.won.now.items c.settle.new.won.items c.args.self.now c.settle.new.self s.rows s.moved s.ranked s.fits s.few s.enough
