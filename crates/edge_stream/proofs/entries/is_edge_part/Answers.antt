use Rattle.std.proofs.Common.{map, drop, rules, subst, sym}
use Rattle.std.specs.Prelude.{◌≡◌, []}
use Rattle.std.proofs.lemmas.List.{drop_all}
use Rattle.tw_rows.specs.Kinds.{cell_kind_of}
use Rattle.edge_stream.specs.Entries.{part_of, MayFollow, IsEdgePart}
use Rattle.edge_stream.proofs.Carrying.{follow_none, follow_whole}
use Rattle.edge_stream.proofs.entries.is_edge_part.Goals as goal

pub loop-entry-init : goal.loop-entry-init
loop-entry-init c = follow_whole (map cell_kind_of c.args.kinds.now) c.args.from (part_of c.args.part c.entries-entries.result.now)

pub returns : goal.returns
returns c =
    let kinds = map cell_kind_of c.args.kinds.now in
    let none : drop c.loop-entry.entry-index c.entries-entries.result.now ≡ [] = drop_all c.loop-entry.entry-index c.entries-entries.result.now c.loop-entry-test.false in
    let whole = c.loop-entry.invariant.0 (subst (λ l. MayFollow kinds c.args.from c.loop-entry.least (part_of c.args.part l)) (sym none) (follow_none kinds c.args.from c.loop-entry.least)) in
    let all = subst (λ l. IsEdgePart kinds c.args.from (part_of c.args.part l)) c.entries-entries.ensures whole in
    ((λ t. all), (λ p. search rules))
