use Rattle.std.specs.Prelude.{◌≡◌, true, false}
use Rattle.std.proofs.Common.{arith}
use Rattle.std.proofs.lemmas.Bool.Decides.{nat_tests}
use Rattle.edge_history.specs.Order.{is_end}
use Rattle.snapshot_agg.proofs.PuttingOff.{later_behind, behind_end, start_behind}
use Rattle.snapshot_agg.proofs.waiting.comes_behind.Goals as goal

pub returns-then-ne : goal.returns-then-ne
returns-then-ne c = λ e. later_behind c.args.last.now c.args.edge.now (grind (arith, nat_tests, c.lt.ensures, e))

pub returns-then-is_end : goal.returns-then-is_end
returns-then-is_end c = λ e.
    let same : c.args.last.now.sync ≡ c.args.edge.now.sync = grind (arith, nat_tests, c.ne.ensures, c.if-ne.false) in
    let ends : is_end c.args.last.now ≡ true = grind (arith, nat_tests, c.is_end.ensures, c.if-is_end.true) in
    behind_end c.args.last.now c.args.edge.now same ends

pub returns : goal.returns
returns c = λ e.
    let same : c.args.last.now.sync ≡ c.args.edge.now.sync = grind (arith, nat_tests, c.ne.ensures, c.if-ne.false) in
    let starts : is_end c.args.edge.now ≡ false = grind (arith, nat_tests, c.is_end-2.ensures, e) in
    start_behind c.args.last.now c.args.edge.now same starts
