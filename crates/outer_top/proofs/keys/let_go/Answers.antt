use Rattle.outer_top.proofs.TopKeys.{let_go}
use Rattle.outer_top.proofs.keys.let_go.Goals as goal

pub returns-in-Some : goal.returns-in-Some
returns-in-Some c = λ r there empty.
    let_go c.args.key.now c.args.keys.now.entries c.swap_remove_index.new.self.entries c.in-Some.place c.swap_remove_index.result r
    c.in-Some.ensures.value c.swap_remove_index.ensures.entry c.swap_remove_index.ensures.entries there empty
