use Rattle.std.proofs.Common.{ap}
use Rattle.std.specs.Option.{option_to_list}
use Rattle.temporal_join.specs.Lives.{LivesView}
use Rattle.temporal_join.proofs.Living.{popped, front_are}
use Rattle.temporal_join.proofs.lives.Lives.pop.Goals as goal

pub invariant_of-self : goal.invariant_of-self
invariant_of-self c = front_are c.self.inside.columns.items c.self.inside.lives.items c.pop.new.self.items (option_to_list c.pop.result) c.self.inside.next c.pop.ensures.items c.self.invariant

pub returns-clause-some : goal.returns-clause-some
returns-clause-some c = popped c.pop.result c.self.inside.lives.items c.args.self.now.lives c.pop.new.self.items (ap (λ (l : LivesView). l.lives) c.self.view_is) c.pop.ensures.items
