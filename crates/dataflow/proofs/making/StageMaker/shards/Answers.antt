use Rattle.std.proofs.Common.{◌≡◌, ◌≤◌, length, ap, ◌∙◌, arith}
use Rattle.std.specs.Prelude.{All}
use Rattle.dataflow.proofs.MadeShards.{first_is, in_step}
use Rattle.dataflow.proofs.making.StageMaker.shards.Goals as goal

pub in_shards-requires-clause-few : goal.in_shards-requires-clause-few
in_shards-requires-clause-few g c κs = let few = c.args.self.now.few in let count = c.in_ok-operators.ensures.count in omega (arith, few, count)

pub in_shards-requires-clause-opening : goal.in_shards-requires-clause-opening
in_shards-requires-clause-opening g c κs = λ _ k d low. c.requires.makes.new _ (c.in_ok-operators.ensures.each k d low)

pub in_shards-requires-clause-in_step : goal.in_shards-requires-clause-in_step
in_shards-requires-clause-in_step g c κs _ =
    let m = c.requires.makes in
    let os = c.in_ok-operators.operators.items in
    let some : 1 ≤ length os = (let some = c.args.self.now.some in let count = c.in_ok-operators.ensures.count in omega (arith, some, count)) in
    in_step _ m.stand os some (λ k d low. m.stands _ (c.in_ok-operators.ensures.each k d low)) c.args.left_key.now c.args.right_key.now
    m.works m.keyed m.left_key_is m.right_key_is m.left_columns m.right_columns

pub in_shards-requires-clause-capacity : goal.in_shards-requires-clause-capacity
in_shards-requires-clause-capacity g c κs _ =
    let m = c.requires.makes in
    let os = c.in_ok-operators.operators.items in
    let some : 1 ≤ length os = (let some = c.args.self.now.some in let count = c.in_ok-operators.ensures.count in omega (arith, some, count)) in
    ap (λ s. s.batch_rows) (first_is _ m.stand os some (λ k d low. m.stands _ (c.in_ok-operators.ensures.each k d low))) ∙ m.batch_rows
