use Rattle.std.proofs.Common.{◌∙◌, ap, length, arith}
use Rattle.std.proofs.lemmas.List.{length-append}
use Rattle.outer_top.specs.TopKeys.{kept_rows}
use Rattle.outer_top.specs.Shown.{rows_of}
use Rattle.outer_top.proofs.saving.row_count.Goals as goal

pub loop-ranked-init : goal.loop-ranked-init
loop-ranked-init c =
    let e = ap (λ es. length (kept_rows es)) (c.into_iter-ranked-iterator.ensures.into_iter_gives ∙ c.iter-ranked-items.ensures.rest) in
    record { count = omega (arith, e); within = omega arith }

pub loop-ranked-preserved : goal.loop-ranked-preserved
loop-ranked-preserved c =
    let here = rows_of c.in-Some.ranked.now in
    let rest = kept_rows c.next.new.self in
    let e = ap (λ it. length (kept_rows it)) c.in-Some.ensures.steps in
    let l = length-append here rest in
    let n = c.len.ensures in
    let so = c.loop-ranked.invariant in
    record { count = omega (arith, e, l, n, so); within = omega arith }

pub returns : goal.returns
returns c = let e = ap (λ it. length (kept_rows it)) c.in-None.ensures.steps.0 in omega (arith, e)
