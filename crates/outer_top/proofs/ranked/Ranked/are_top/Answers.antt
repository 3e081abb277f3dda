-- What is answered by hand of the proof of ranked::Ranked::are_top.
use Rattle.outer_top.proofs.Topping.{shown_are_top}
use Rattle.outer_top.proofs.ranked.Ranked.are_top.Goals as goal

pub returns : goal.returns
returns c = λ value own_s own_h few enough.
    let s = c.args.self.now in
    shown_are_top value c.args.most s.shown.entries s.hidden.entries own_s own_h s.apart few enough
