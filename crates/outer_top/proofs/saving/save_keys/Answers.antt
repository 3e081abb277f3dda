use Rattle.std.specs.Prelude.{◌++◌}
use Rattle.std.proofs.Common.{◌∙◌, ap, sym}
use Rattle.std.proofs.lemmas.List.{append_assoc}
use Rattle.edge_stream.specs.Entries.{entries_of}
use Rattle.sweep_laws.specs.Saving.{starts_of}
use Rattle.synopsis.proofs.Saved.{saved_append}
use Rattle.outer_top.specs.TopKeys.{kept_rows}
use Rattle.outer_top.specs.Shown.{rows_of}
use Rattle.outer_top.proofs.saving.save_keys.Goals as goal

pub loop-ranked-init : goal.loop-ranked-init
loop-ranked-init c =
    ap (λ es. c.args.saved.now ++ entries_of c.args.part (starts_of (kept_rows es))) (c.into_iter-ranked-iterator.ensures.into_iter_gives ∙ c.iter-ranked-items.ensures.rest)

pub loop-ranked-preserved : goal.loop-ranked-preserved
loop-ranked-preserved c =
    let here = rows_of c.in-Some.ranked.now in
    let rest = kept_rows c.next.new.self in
    let part = c.args.part in
    ap (λ l. l ++ entries_of part (starts_of rest)) c.in_ok-save.ensures
    ∙ append_assoc c.loop-ranked.saved (entries_of part (starts_of here)) (entries_of part (starts_of rest))
    ∙ ap (λ l. c.loop-ranked.saved ++ l) (sym (saved_append part here rest))
    ∙ sym (ap (λ it. c.loop-ranked.saved ++ entries_of part (starts_of (kept_rows it))) c.in-Some.ensures.steps)
    ∙ c.loop-ranked.invariant
