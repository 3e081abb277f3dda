use Rattle.std.proofs.Common.{◌≡◌, ◌∙◌, ◌+◌, ◌<◌, ◌++◌, false, length, get_or, take, drop, sym, ap, arith}
use Rattle.std.proofs.lemmas.List.{length-set}
use Rattle.std.proofs.lemmas.Option.{slice_get-get_or}
use Rattle.batch.specs.Rows.{Row, edges_of}
use Rattle.batch.proofs.Keeping.{no_row}
use Rattle.edge_stream.proofs.Fronts.{edges_parts}
use Rattle.edge_stream.proofs.Gone.{none_cleared, rest_cleared}
use Rattle.edge_stream.proofs.rest.clear_first.Goals as goal

pub loop-i-preserved : goal.loop-i-preserved
loop-i-preserved c =
    let rows = c.loop-i.batch.rows in
    let i = c.loop-i.i in
    let inv = c.loop-i.invariant in
    let lt : i < length rows = omega (arith, c.loop-i-test.true, c.requires, inv.len) in
    let r : Row = get_or rows i no_row in
    let cleared : Row = record r { occupied = false } in
    let new = c.clear_row.ensures r (slice_get-get_or rows i no_row lt) in
    record {
      none = ap (λ b. edges_of (take (i + 1) b.rows)) new ∙ none_cleared rows i r lt inv.none;
      rest = ap (λ b. drop (i + 1) b.rows) new ∙ rest_cleared rows c.args.batch.now.rows i cleared inv.rest;
      len = ap (λ b. length b.rows) new ∙ length-set rows i cleared ∙ inv.len;
      capacity = ap (λ b. b.capacity) new ∙ inv.capacity;
      kinds = ap (λ b. b.kinds) new ∙ inv.kinds;
    }

pub returns-clause-edges : goal.returns-clause-edges
returns-clause-edges c =
    let inv = c.loop-i.invariant in
    let all : c.loop-i.i ≡ c.args.rows = omega (arith, c.loop-i-test.false, c.loop-i.auto.i-end) in
    sym (edges_parts c.loop-i.i c.loop-i.batch.rows) ∙ (λ j. inv.none j ++ edges_of (inv.rest j)) ∙ ap (λ n. edges_of (drop n c.args.batch.now.rows)) all
