use Rattle.std.specs.Prelude.{◌+◌}
use Rattle.std.proofs.Common.{◌∙◌, ap, arith}
use Rattle.tw_rows.specs.Bag.{total}
use Rattle.tw_rows.specs.declared.edge.HeldRow.{HeldRow}
use Rattle.snapshot_agg.proofs.Lined.{both_added, one_longer, as_long}
use Rattle.snapshot_agg.proofs.row_queue.RowQueue.add.Goals as goal

pub returns : goal.returns
returns c = λ w.
    let q = c.self.inside in
    let x : HeldRow = record { cells = c.args.cells; start = c.args.start } in
    both_added q.found.rows q.line.items c.put.new.found.rows c.put.new.line.items x c.in_ok-put.ensures.ok w ∙ ap (λ v. total w v.rows + w x) c.self.view_is

pub invariant_of-self-2 : goal.invariant_of-self-2
invariant_of-self-2 c =
    let q = c.self.inside in
    let x : HeldRow = record { cells = c.args.cells; start = c.args.start } in
    let a = one_longer q.found.rows q.line.items c.put.new.found.rows c.put.new.line.items x c.in_ok-put.ensures.ok in
    let n = c.self.invariant in
    let m = c.in-Some.ensures in
    omega (arith, a, n, m)

pub invariant_of-self : goal.invariant_of-self
invariant_of-self c =
    let q = c.self.inside in
    let a = as_long q.found.rows q.line.items c.put.new.found.rows c.put.new.line.items c.in_err-put.ensures.err in
    let n = c.self.invariant in
    omega (arith, a, n)
