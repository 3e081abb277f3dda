use Rattle.std.proofs.Common.{◌≡◌, ◌∙◌, ap, length, arith}
use Rattle.std.proofs.lemmas.List.{length-append, length-map}
use Rattle.sweep_laws.specs.Queues.{held_with}
use Rattle.synopsis.specs.Kept.{rows_in}
use Rattle.synopsis.proofs.saving.start_count.Goals as goal

pub loop-since-init : goal.loop-since-init
loop-since-init c =
    let e = ap (λ es. length (rows_in es)) (c.into_iter-since-iterator.ensures.into_iter_gives ∙ c.iter-since-items.ensures.rest) in
    record { count = omega (arith, e); within = omega arith }

pub loop-since-preserved : goal.loop-since-preserved
loop-since-preserved c =
    let here = held_with c.in-Some.field-0-0.now c.in-Some.since.now.items in
    let rest = rows_in c.next.new.self in
    let e = ap (λ it. length (rows_in it)) c.in-Some.ensures.steps in
    let l = length-append here rest in
    let m : length here ≡ length c.in-Some.since.now.items = length-map c.in-Some.since.now.items _ in
    record { count = omega (arith, e, l, m); within = omega arith }

pub returns : goal.returns
returns c = let e = ap (λ it. length (rows_in it)) c.in-None.ensures.steps.0 in omega (arith, e)
