use Rattle.sweep_sides.proofs.TakenIn.{Popped, popped, taken_more}
use Rattle.sweep_sides.proofs.taking.pop_before.Goals as goal

pub returns : goal.returns
returns c =
    let t = c.in_ok-pop_all.ensures in
    let few = c.in_ok-pop_few.ensures in
    let k : Popped c.args.below c.pop_few.new.queue c.pop_all.new.self c.pop_few.new.due.items c.pop_all.new.due.items =
    popped c.args.below c.pop_few.new.queue c.pop_all.new.self t.0 c.pop_few.new.due.items c.pop_all.new.due.items t.1 t.2 t.3 t.4 in
    let whole = taken_more c.args.below c.args.queue.now c.pop_few.new.queue c.pop_all.new.self c.args.due.now.items c.pop_few.new.due.items c.pop_all.new.due.items
    (record { parts = few.parts; early = few.early; timed = few.timed }) k.out in
    record { parts = whole.parts; early = whole.early; rest = λ timed. k.rest (few.timed timed); timed = whole.timed }
