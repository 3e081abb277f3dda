use Rattle.std.specs.Prelude.{◌++◌, map}
use Rattle.std.proofs.Common.{◌∙◌, ap, arith, sym}
use Rattle.std.proofs.lemmas.List.{take_all}
use Rattle.std.proofs.lemmas.Simd.{map-map}
use Rattle.edge_stream.specs.Entries.{entry_of}
use Rattle.sweep_laws.specs.Moves.{start_of}
use Rattle.snapshot_agg.specs.KeptRows.{row_ended}
use Rattle.snapshot_agg.proofs.Lined.{saved_more}
use Rattle.snapshot_agg.proofs.saving.save_lives.Goals as goal

pub loop-i-preserved : goal.loop-i-preserved
loop-i-preserved c =
    let q = c.args.ends.now in
    let e = c.len-i-end.ensures in
    let t = c.loop-i-test.true in
    let k = q.ok in
    saved_more (λ r. entry_of c.args.part (start_of (row_ended r))) c.args.saved.now c.loop-i.saved c.save_start.new.saved q.items c.loop-i.i c.index-end.result.now
    (omega (arith, e, t, k)) c.index-end.ensures c.loop-i.invariant c.in_ok-save_start.ensures

pub returns : goal.returns
returns c =
    let q = c.args.ends.now in
    let e = c.len-i-end.ensures in
    let t = c.loop-i-test.false in
    let k = q.ok in
    c.loop-i.invariant ∙ ap (λ l. c.args.saved.now ++ map (λ r. entry_of c.args.part (start_of (row_ended r))) l) (take_all c.loop-i.i q.items (omega (arith, e, t, k)))
    ∙ ap (λ l. c.args.saved.now ++ l) (sym (map-map (entry_of c.args.part) (λ r. start_of (row_ended r)) q.items))
