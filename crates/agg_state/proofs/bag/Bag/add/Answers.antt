use Rattle.std.specs.Prelude.{◌≡◌, ◌∷◌, unwrap_or}
use Rattle.std.specs.BTreeMap.{get}
use Rattle.std.specs.Ordering.{int_cmp}
use Rattle.std.proofs.Common.{arith, refl, subst, ◌+◌}
use Rattle.std.proofs.lemmas.Int.{to_z-of_z}
use mir.Syntax.{w64}
use mir.Val.{to_z, of_z}
use Rattle.agg_state.specs.Amounts.{IsBag}
use Rattle.agg_state.proofs.Bags.{times_within, bag_more, bag_small}
use Rattle.agg_state.proofs.bag.Bag.add.Goals as goal

pub overflow_add-had : goal.overflow_add-had
overflow_add-had c =
    let r = c.requires in
    let u = to_z w64 (of_z w64 c.args.value) in
    let e : c.times-had.result ≡ unwrap_or (get int_cmp c.args.self.now.counts u) 0 = c.times-had.ensures in
    let h = r.1.counted u in
    let w = times_within u r.0 in
    let low = r.2 in
    omega (arith, e, h, w, low)

pub returns-clause-ok : goal.returns-clause-ok
returns-clause-ok c = λ bag h.
    let r = c.requires in
    let u = to_z w64 (of_z w64 c.args.value) in
    let e : u ≡ c.args.value = to_z-of_z w64 c.args.value c.ranges.value in
    subst (λ x. IsBag c.insert.new.self (c.args.self.now.len + 1) (x ∷ bag)) e
    (bag_more c.args.self.now.counts c.insert.new.self c.args.self.now.len (c.args.self.now.len + 1) u bag c.times-had.result
    (bag_small c.args.self.now.counts c.args.self.now.len bag r.0 h r.1 r.2) h c.times-had.ensures c.in_ok-insert.ensures.updates.0 refl)
