use Rattle.std.specs.Prelude.{◌++◌}
use Rattle.std.proofs.Common.{◌∙◌, ap}
use Rattle.synopsis.specs.Counted.{each_moves}
use Rattle.synopsis.proofs.Compared.{few_ends, few_starts}
use Rattle.synopsis.proofs.few_moves.few_moves.Goals as goal

pub returns-clause-ends : goal.returns-clause-ends
returns-clause-ends c = λ q.
    few_ends c.args.lost.now c.args.won.now c.push_each-2.new.moves.items q
    (c.in_ok-push_each-2.ensures ∙ ap (λ l. l ++ each_moves 0 1 c.args.won.now) (c.in_ok-push_each.ensures ∙ ap (λ l. l ++ each_moves 1 0 c.args.lost.now) c.new-moves.ensures.items))

pub returns-clause-starts : goal.returns-clause-starts
returns-clause-starts c = λ q.
    few_starts c.args.lost.now c.args.won.now c.push_each-2.new.moves.items q
    (c.in_ok-push_each-2.ensures ∙ ap (λ l. l ++ each_moves 0 1 c.args.won.now) (c.in_ok-push_each.ensures ∙ ap (λ l. l ++ each_moves 1 0 c.args.lost.now) c.new-moves.ensures.items))
