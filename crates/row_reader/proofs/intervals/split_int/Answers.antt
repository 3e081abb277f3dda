use Rattle.std.proofs.Common.{◌<◌, ◌^◌, arith}
use Rattle.std.proofs.lemmas.Int.{to_z_pos}
use mir.Syntax.{w64}
use Rattle.row_reader.proofs.OnePass.{int_first}
use Rattle.row_reader.proofs.intervals.split_int.Goals as goal

pub returns-in_ok-number-in-Int : goal.returns-in_ok-number-in-Int
returns-in_ok-number-in-Int c = λ texts.
    let told = c.in_ok-number-in-Int.ensures in
    let low : c.in_ok-number-in-Int.number < 2 ^ 63 = omega (arith, told.small) in
    int_first texts c.args.kind _ _ c.in_ok-number-in-Int.number _ c.in-Int.is told.field told.small (to_z_pos w64 c.in_ok-number-in-Int.number low)
