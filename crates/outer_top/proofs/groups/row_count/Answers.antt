use Rattle.std.proofs.Common.{◌∙◌, ap, length, arith}
use Rattle.std.proofs.lemmas.List.{length-append}
use Rattle.outer_top.specs.Ranks.{rows_in}
use Rattle.outer_top.proofs.groups.row_count.Goals as goal

pub loop-group-init : goal.loop-group-init
loop-group-init c =
    let e = ap (λ es. length (rows_in es)) (c.into_iter-group-iterator.ensures.into_iter_gives ∙ c.iter-group-items.ensures.rest) in
    record { count = omega (arith, e); within = omega arith }

pub loop-group-preserved : goal.loop-group-preserved
loop-group-preserved c =
    let here = c.in-Some.group.now in
    let rest = rows_in c.next.new.self in
    let e = ap (λ it. length (rows_in it)) c.in-Some.ensures.steps in
    let l = length-append here rest in
    let g = ap length c.rows.ensures in
    let so = c.loop-group.invariant in
    record { count = omega (arith, e, l, g, so); within = omega arith }

pub returns : goal.returns
returns c = let e = ap (λ it. length (rows_in it)) c.in-None.ensures.steps.0 in omega (arith, e)
