use Rattle.sweep_sides.proofs.TakenIn.{first_out, none_out}
use Rattle.sweep_sides.proofs.taking.next_edge.Goals as goal

pub returns : goal.returns
returns c = record {
  some = first_out c.pop_front.result c.args.waited.now.items c.pop_front.new.self.items c.pop_front.ensures.items;
  none = none_out c.pop_front.result c.args.waited.now.items c.pop_front.new.self.items c.pop_front.ensures.items;
}
