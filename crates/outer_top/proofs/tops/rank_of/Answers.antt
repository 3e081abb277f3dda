use Rattle.std.proofs.Common.{arith, rules, ◌≡◌, w64, to_z, of_z}
use Rattle.std.proofs.lemmas.Int.{ints}
use Rattle.std.proofs.lemmas.Bool.Decides.{Decides-int_eq}
use Rattle.outer_top.specs.Ranks.{value_at}
use Rattle.outer_top.proofs.tops.rank_of.Goals as goal

pub returns : goal.returns
unfolding value_at
returns c =
    let round : to_z w64 (of_z w64 c.int_at.result) ≡ c.int_at.result = search rules in
    let a = c.int_at.type_inv in let b = c.abs_diff.ensures in let d = c.int_at.ensures in grind (arith, ints, Decides-int_eq)
