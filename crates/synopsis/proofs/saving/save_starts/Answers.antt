use Rattle.std.specs.Prelude.{◌++◌}
use Rattle.std.proofs.Common.{◌∙◌, ap, sym}
use Rattle.std.proofs.lemmas.List.{append_assoc}
use Rattle.edge_stream.specs.Entries.{entries_of}
use Rattle.sweep_laws.specs.Queues.{held_with}
use Rattle.sweep_laws.specs.Saving.{starts_of}
use Rattle.synopsis.specs.Kept.{rows_in}
use Rattle.synopsis.proofs.Saved.{saved_append}
use Rattle.synopsis.proofs.saving.save_starts.Goals as goal

pub loop-cells-init : goal.loop-cells-init
loop-cells-init c =
    ap (λ es. c.args.saved.now ++ entries_of c.args.part (starts_of (rows_in es))) (c.into_iter-cells-iterator.ensures.into_iter_gives ∙ c.iter-cells-items.ensures.rest)

pub loop-cells-preserved : goal.loop-cells-preserved
loop-cells-preserved c =
    let here = held_with c.in-Some.cells.now c.in-Some.since.now.items in
    let rest = rows_in c.next.new.self in
    let part = c.args.part in
    ap (λ l. l ++ entries_of part (starts_of rest)) c.in_ok-save_queue.ensures
    ∙ append_assoc c.loop-cells.saved (entries_of part (starts_of here)) (entries_of part (starts_of rest))
    ∙ ap (λ l. c.loop-cells.saved ++ l) (sym (saved_append part here rest))
    ∙ sym (ap (λ it. c.loop-cells.saved ++ entries_of part (starts_of (rows_in it))) c.in-Some.ensures.steps)
    ∙ c.loop-cells.invariant
