use Rattle.std.proofs.Common.{◌≡◌, ◌∙◌, sym, ap, arith}
use Rattle.std.proofs.lemmas.Bool.Decides.{nat_tests}
use Rattle.std.proofs.lemmas.Option.{get_or_from_slice_get}
use Rattle.tw_rows.specs.Instant.{inf}
use Rattle.batch.proofs.Keeping.{no_row}
use Rattle.edge_stream.proofs.Infinity.{inf_is}
use Rattle.edge_stream.proofs.Rows.{sync_is, other_is}
use Rattle.edge_stream.proofs.Gone.{start_test, no_start_other, no_start_sync}
use Rattle.edge_stream.proofs.starts.is_start.Goals as goal

pub returns-then-ne : goal.returns-then-ne
returns-then-ne c r found =
    let rows = c.args.batch.now.rows in
    let i = c.args.i in
    let other : r.other ≡ c.other_at.result = ap (λ q. q.other) (sym (get_or_from_slice_get rows i r no_row found)) ∙ other_is rows i c.other_at.result c.requires c.other_at.ensures in
    no_start_other c.args.cells.now c.args.start r (λ e. grind (arith, nat_tests, c.ne.ensures, c.if-ne.true, other, e, inf_is))

pub returns-then-word : goal.returns-then-word
returns-then-word c r found =
    let rows = c.args.batch.now.rows in
    let i = c.args.i in
    let sync : r.sync ≡ c.sync_at.result = ap (λ q. q.sync) (sym (get_or_from_slice_get rows i r no_row found)) ∙ sync_is rows i c.sync_at.result c.requires c.sync_at.ensures in
    no_start_sync c.args.cells.now c.args.start r (λ e. c.if-word.true (c.word.ensures.word ∙ sym sync ∙ e ∙ sym c.word-2.ensures.word))

pub returns : goal.returns
returns c r found =
    let rows = c.args.batch.now.rows in
    let i = c.args.i in
    let row = sym (get_or_from_slice_get rows i r no_row found) in
    let other : r.other ≡ inf = ap (λ q. q.other) row ∙ other_is rows i c.other_at.result c.requires c.other_at.ensures ∙ grind (arith, nat_tests, c.ne.ensures, c.if-ne.false, inf_is) in
    let sync : r.sync ≡ c.args.start = ap (λ q. q.sync) row ∙ sync_is rows i c.sync_at.result c.requires c.sync_at.ensures ∙ sym c.word.ensures.word ∙ c.if-word.false ∙ c.word-2.ensures.word in
    start_test c.args.cells.now c.args.start r c.has_cells.result other sync c.word-2.ensures.within (c.has_cells.ensures r found)
