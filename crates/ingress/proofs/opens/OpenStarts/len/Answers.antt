use Rattle.std.specs.Prelude.{map}
use Rattle.std.proofs.Common.{◌∙◌, ap, length, arith}
use Rattle.std.proofs.lemmas.List.{length-append, length-map}
use Rattle.ingress.specs.Keeping.{cell_open, opens_in}
use Rattle.ingress.proofs.opens.OpenStarts.len.Goals as goal

pub loop-starts-init : goal.loop-starts-init
loop-starts-init c =
    let e = ap (λ es. length (opens_in es)) (c.into_iter-starts-iterator.ensures.into_iter_gives ∙ c.iter-starts-items.ensures.rest) in
    record { count = omega (arith, e); within = omega arith }

pub loop-starts-preserved : goal.loop-starts-preserved
loop-starts-preserved c =
    let here = map (cell_open c.in-Some.field-0-0.now) c.in-Some.starts.now.items in
    let rest = opens_in c.next.new.self in
    let e = ap (λ it. length (opens_in it)) c.in-Some.ensures.steps in
    let l = length-append here rest in
    let m = length-map c.in-Some.starts.now.items (cell_open c.in-Some.field-0-0.now) in
    record { count = omega (arith, e, l, m); within = omega arith }

pub returns-clause-count : goal.returns-clause-count
returns-clause-count c = let e = ap (λ it. length (opens_in it)) c.in-None.ensures.steps.0 in omega (arith, e)
