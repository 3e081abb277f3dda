use Rattle.std.proofs.Common.{◌<◌, arith}
use Rattle.std.proofs.lemmas.Bool.Decides.{nat_tests}
use Rattle.sweep_sides.proofs.KeptStarts.{ending_weighs, early_ending}
use Rattle.sweep_sides.proofs.taking.place_end.Goals as goal

pub returns-then-is_near-clause-parts : goal.returns-then-is_near-clause-parts
returns-then-is_near-clause-parts c = λ w.
    let a = ending_weighs w c.args.due.now c.args.ends.now c.put.new.self c.args.end c.in_ok-put.ensures in
    omega (arith, a)

pub returns-then-is_near-clause-early : goal.returns-then-is_near-clause-early
returns-then-is_near-clause-early c = λ h.
    let low : c.args.end.sync < c.args.to = grind (arith, nat_tests) in
    early_ending c.args.to c.args.due.now c.args.ends.now c.put.new.self c.args.end c.in_ok-put.ensures low h
