use Rattle.std.specs.Prelude.{◌++◌}
use Rattle.std.proofs.Common.{◌∙◌, ap, sym}
use Rattle.std.proofs.lemmas.List.{append_assoc, map-append}
use Rattle.edge_stream.specs.Entries.{entry_of, entries_of}
use Rattle.ingress.specs.Ranks.{edges_at}
use Rattle.ingress.proofs.by_rank.ByRank.save.Goals as goal

pub loop-edges-init : goal.loop-edges-init
loop-edges-init c =
    ap (λ es. c.args.saved.now ++ entries_of c.args.part es) (ap edges_at (c.into_iter-edges-iterator.ensures.into_iter_gives ∙ c.iter-edges-items.ensures.rest) ∙ c.self.view_is)

-- the entries so far, those of this rank and those to come
pub loop-edges-preserved : goal.loop-edges-preserved
loop-edges-preserved c =
    let here = c.deref.result.now in
    let rest = edges_at c.next.new.self in
    let part = c.args.part in
    ap (λ l. l ++ entries_of part rest) c.in_ok-save_edges.ensures
    ∙ append_assoc c.loop-edges.saved (entries_of part here) (entries_of part rest)
    ∙ ap (λ l. c.loop-edges.saved ++ l) (sym (map-append (entry_of part) here rest))
    ∙ ap (λ x. c.loop-edges.saved ++ entries_of part (x ++ rest)) c.deref.ensures.value
    ∙ sym (ap (λ it. c.loop-edges.saved ++ entries_of part (edges_at it)) c.in-Some.ensures.steps)
    ∙ c.loop-edges.invariant
