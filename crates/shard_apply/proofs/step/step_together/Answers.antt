use Rattle.std.proofs.Common.{◌≡◌, ◌≤◌, ◌<◌, ◌∙◌, map, length, get_or, ap, sym, subst, arith}
use Rattle.std.proofs.lemmas.List.{length-map}
use Rattle.std.proofs.lemmas.Result.{IfOk-weaker}
use Rattle.edge_stream.specs.Shards.{edges_in_shard}
use Rattle.shard_apply.specs.Stepping.{HasStepped}
use Rattle.shard_apply.proofs.Apart.{shard_stands, can_step, alike_answers, apart, apart_goes_on, maps_same}
use Rattle.shard_apply.proofs.Faults.{with_item}
use Rattle.shard_apply.proofs.step.step_together.Goals as goal

pub step_shards-requires-clause-can : goal.step_shards-requires-clause-can
step_shards-requires-clause-can g c κs within k d low =
    can_step g.O.Operator.standing (λ s. s.operator) c.args.shards.now c.args.cut.now.left_key.now c.args.cut.now.right_key.now c.requires.in_step
    k d c.args.cut.now.count (get_or c.args.shards.now k d).pools.capacity c.args.pools.now.capacity c.args.news.now.left_to c.args.news.now.right_to
    c.args.news.now.left.now c.args.news.now.right.now low c.requires.count (c.requires.capacities k d low) c.requires.can

pub gathered-requires-clause-alike : goal.gathered-requires-clause-alike
gathered-requires-clause-alike g c κs within i j d low other =
    let shards = c.args.shards.now in
    let after = c.step_shards.new.shards in
    let long : length after ≡ length shards = c.step_shards.auto.shards in
    let a : i < length shards = omega (arith, low, long) in
    let b : j < length shards = omega (arith, other, long) in
    let stands = shard_stands g.O.Operator.standing (λ s. s.operator) shards _ _ c.requires.in_step in
    alike_answers (get_or after i d).answer (get_or after j d).answer _ _ _
    (ap (λ x. x.own_kinds) (stands i d a)) (ap (λ x. x.own_kinds) (stands j d b))
    (c.step_shards.ensures.stepped i d a).kinds (c.step_shards.ensures.stepped j d b).kinds

pub gathered-requires-clause-capacities : goal.gathered-requires-clause-capacities
gathered-requires-clause-capacities g c κs within k d low =
    let shards = c.args.shards.now in
    let after = c.step_shards.new.shards in
    let long : length after ≡ length shards = c.step_shards.auto.shards in
    let a : k < length shards = omega (arith, low, long) in
    let stands = shard_stands g.O.Operator.standing (λ s. s.operator) shards _ _ c.requires.in_step k d a in
    let own = c.step_shards.ensures.pools k d a ∙ c.requires.capacities k d a ∙ c.requires.can.own_room in
    IfOk-weaker (get_or after k d).answer _ _ (λ list h. h ∙ ap (λ x. x.batch_rows) stands ∙ sym own) (c.step_shards.ensures.stepped k d a).capacity

pub returns-clause-stepped : goal.returns-clause-stepped
returns-clause-stepped g c =
    let standing = g.O.Operator.standing in
    let keeps = g.O.Operator.keeps in
    let shards = c.args.shards.now in
    let after = c.step_shards.new.shards in
    let left = c.args.news.now.left.now.edges in
    let right = c.args.news.now.right.now.edges in
    let left_key = c.args.cut.now.left_key.now in
    let right_key = c.args.cut.now.right_key.now in
    let long : length after ≡ length shards = c.step_shards.auto.shards in
    let some : 1 ≤ length shards = omega (arith, c.requires.in_step.some, length-map shards (λ s. s.operator), length-map (map (λ s. s.operator) shards) standing) in
    with_item shards some (λ s.
    apart standing keeps (λ x. x.operator) (λ x. x.answer) shards after (map (λ x. x.operator) c.gathered.new.shards) left_key right_key left right c.args.news.now.left_to c.args.news.now.right_to
    c.requires.in_step long c.gathered.ensures.operators
    (λ i d low. subst (λ n. HasStepped (standing (get_or shards i d).operator) (standing (get_or after i d).operator) (keeps (get_or shards i d).operator) (keeps (get_or after i d).operator)
    (edges_in_shard n left_key i left) (edges_in_shard n right_key i right) c.args.news.now.left_to c.args.news.now.right_to (get_or after i d).answer) c.requires.count (c.step_shards.ensures.stepped i d low))
    c.requires.can.left_rises c.requires.can.right_rises s c.gathered.result c.gathered.ensures.ok c.gathered.ensures.edges c.gathered.ensures.order c.gathered.ensures.kinds
    (IfOk-weaker c.gathered.result _ _ (λ list h. h ∙ c.requires.can.own_room) c.gathered.ensures.capacity) c.gathered.ensures.overflow)

pub returns-clause-in_step : goal.returns-clause-in_step
returns-clause-in_step g c =
    let standing = g.O.Operator.standing in
    let keeps = g.O.Operator.keeps in
    let shards = c.args.shards.now in
    let after = c.step_shards.new.shards in
    let left = c.args.news.now.left.now.edges in
    let right = c.args.news.now.right.now.edges in
    let left_key = c.args.cut.now.left_key.now in
    let right_key = c.args.cut.now.right_key.now in
    let long : length after ≡ length shards = c.step_shards.auto.shards in
    let some : 1 ≤ length shards = omega (arith, c.requires.in_step.some, length-map shards (λ s. s.operator), length-map (map (λ s. s.operator) shards) standing) in
    with_item shards some (λ s.
    apart_goes_on standing keeps (λ x. x.operator) (λ x. x.answer) shards after (map (λ x. x.operator) c.gathered.new.shards) left_key right_key left right c.args.news.now.left_to c.args.news.now.right_to
    c.requires.in_step long c.gathered.ensures.operators
    (λ i d low. subst (λ n. HasStepped (standing (get_or shards i d).operator) (standing (get_or after i d).operator) (keeps (get_or shards i d).operator) (keeps (get_or after i d).operator)
    (edges_in_shard n left_key i left) (edges_in_shard n right_key i right) c.args.news.now.left_to c.args.news.now.right_to (get_or after i d).answer) c.requires.count (c.step_shards.ensures.stepped i d low))
    c.requires.can.left_rises c.requires.can.right_rises s c.gathered.result c.gathered.ensures.ok)

pub returns-clause-capacities : goal.returns-clause-capacities
returns-clause-capacities g c =
    let long : length c.step_shards.new.shards ≡ length c.args.shards.now = c.step_shards.auto.shards in
    c.gathered.ensures.capacities
    ∙ maps_same (λ s. s.pools.capacity) c.step_shards.new.shards c.args.shards.now long (λ i d low. c.step_shards.ensures.pools i d (omega (arith, low, long)))
