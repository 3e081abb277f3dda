use Rattle.std.specs.Prelude.{length}
use Rattle.std.proofs.Common.{ap, arith}
use Rattle.std.proofs.lemmas.List.{length-append}
use Rattle.synopsis.specs.Kept.{rows_in}
use Rattle.synopsis.proofs.row_queues.RowQueues.len.Goals as goal

pub returns : goal.returns
returns c =
    let a = c.start_count.ensures in
    let b = c.len.ensures in
    let s = c.saturating_add.ensures in
    let l = length-append c.self.inside.held.few (rows_in c.self.inside.held.starts.entries) in
    let v = ap (λ rows. length rows) c.self.view_is in
    omega (arith, a, b, s, l, v)
