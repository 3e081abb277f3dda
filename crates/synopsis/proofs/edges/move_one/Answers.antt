use Rattle.std.proofs.Common.{rules, ◌≡◌, true, false}
use Rattle.edge_history.specs.Order.{is_end}
use Rattle.synopsis.proofs.Moving.{moved_end, moved_start}
use Rattle.synopsis.proofs.edges.move_one.Goals as goal

pub returns-then-is_end-clause-moved : goal.returns-then-is_end-clause-moved
returns-then-is_end-clause-moved c =
    let e : is_end c.args.edge.now ≡ true = search rules in
    moved_end c.args.at c.args.edge.now c.args.held.now c.end_one.new.held c.args.answer.now.items c.end_one.new.answer.items e c.in_ok-end_one.ensures.since c.in_ok-end_one.ensures.told

pub returns-clause-moved : goal.returns-clause-moved
returns-clause-moved c =
    let e : is_end c.args.edge.now ≡ false = search rules in
    moved_start c.args.at c.args.edge.now c.args.held.now c.start_one.new.held c.args.answer.now.items c.start_one.new.answer.items e c.in_ok-start_one.ensures.since c.in_ok-start_one.ensures.told
