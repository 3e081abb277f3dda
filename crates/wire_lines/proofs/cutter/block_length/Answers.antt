use Rattle.std.proofs.Common.{◌≡◌, ◌+◌, min, length, take, ◌∙◌, ap, arith}
use Rattle.std.proofs.lemmas.List.{take_min}
use Rattle.wire_lines.proofs.Blocks.{feeds_some, feeds_none}
use Rattle.wire_lines.proofs.cutter.block_length.Goals as goal

pub returns-clause-some : goal.returns-clause-some
returns-clause-some c =
    let xs = c.args.rest.now in
    let w = min (c.args.longest + 1) c.args.room in
    let most = c.min-most-2.result in
    let all : most ≡ min w (length xs) = omega arith in
    feeds_some xs (take most xs) w c.memrchr.result (ap (λ k. take k xs) all ∙ take_min w xs) c.memrchr.ensures

pub returns-clause-none : goal.returns-clause-none
returns-clause-none c =
    let xs = c.args.rest.now in
    let w = min (c.args.longest + 1) c.args.room in
    let most = c.min-most-2.result in
    let all : most ≡ min w (length xs) = omega arith in
    feeds_none xs (take most xs) w c.memrchr.result (ap (λ k. take k xs) all ∙ take_min w xs) c.memrchr.ensures
