use Rattle.std.proofs.Common.{arith}
use Rattle.std.proofs.lemmas.List.{length-append}
use Rattle.outer_top.specs.Ranks.{rows_in}
use Rattle.outer_top.proofs.ranked.Ranked.len.Goals as goal

pub returns : goal.returns
returns c =
    let s = c.args.self.now in
    let a = c.row_count.ensures in
    let b = c.row_count-2.ensures in
    let l = length-append (rows_in s.shown.entries) (rows_in s.hidden.entries) in
    omega (arith, a, b, l)
