use Rattle.std.specs.Prelude.{◌++◌}
use Rattle.std.proofs.Common.{◌∙◌, ap, sym}
use Rattle.std.proofs.lemmas.List.{append_assoc}
use Rattle.edge_stream.specs.Entries.{entries_of}
use Rattle.sweep_laws.specs.Saving.{starts_of}
use Rattle.synopsis.proofs.Saved.{saved_append}
use Rattle.outer_top.specs.Ranks.{rows_in}
use Rattle.outer_top.proofs.groups.save_groups.Goals as goal

pub loop-group-init : goal.loop-group-init
loop-group-init c =
    ap (λ es. c.args.saved.now ++ entries_of c.args.part (starts_of (rows_in es))) (c.into_iter-group-iterator.ensures.into_iter_gives ∙ c.iter-group-items.ensures.rest)

pub loop-group-preserved : goal.loop-group-preserved
loop-group-preserved c =
    let here = c.in-Some.group.now in
    let rest = rows_in c.next.new.self in
    let part = c.args.part in
    ap (λ l. l ++ entries_of part (starts_of rest)) (c.in_ok-save_block.ensures ∙ ap (λ r. c.loop-group.saved ++ entries_of part (starts_of r)) c.rows.ensures)
    ∙ append_assoc c.loop-group.saved (entries_of part (starts_of here)) (entries_of part (starts_of rest))
    ∙ ap (λ l. c.loop-group.saved ++ l) (sym (saved_append part here rest))
    ∙ sym (ap (λ it. c.loop-group.saved ++ entries_of part (starts_of (rows_in it))) c.in-Some.ensures.steps)
    ∙ c.loop-group.invariant
