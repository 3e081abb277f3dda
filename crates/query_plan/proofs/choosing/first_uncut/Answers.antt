use Rattle.std.proofs.Common.{◌≡◌, ◌<◌, ◌∷◌, [], ap, sym, subst, ◌∙◌, arith, add-one, true, false, length, length-append}
use Rattle.query_plan.specs.Cuts.{cut_places, is_uncut}
use Rattle.query_plan.proofs.Found.{next_is, uncut_is, done_more, first_is, none_more}
use Rattle.query_plan.proofs.choosing.first_uncut.Goals as goal

pub returns-then-is_empty : goal.returns-then-is_empty
returns-then-is_empty c =
    let is : c.in_ok-places.places.items ≡ cut_places c.args.plan.now c.args.columns.now c.loop-i.i =
    next_is c.args.plan.now c.nodes-node-items.ensures.kept c.args.columns.now c.loop-i.i c.node-item.result
    c.nodes-node-items.result.now c.loop-i.done.items c.deref.result.now c.in_ok-places.places.items
    c.nodes-node-items.ensures.nodes c.loop-i-test.true c.node-item.is c.deref.ensures.value c.loop-i.invariant.found
    c.in_ok-places.ensures in
    sym (first_is (is_uncut c.args.plan.now c.args.columns.now) c.loop-i.i (length c.args.plan.now.nodes) c.loop-i.invariant.none
    (uncut_is c.args.plan.now c.args.columns.now c.loop-i.i c.items.result.now true
    (c.items.ensures ∙ (c.from_vec-cut.ensures ∙ is)) (sym c.is_empty.ensures ∙ c.if-is_empty.true))
    (subst (λ l. c.loop-i.i < length l) c.nodes-node-items.ensures.nodes c.loop-i-test.true))

pub loop-i-preserved : goal.loop-i-preserved
loop-i-preserved c =
    let is : c.in_ok-places.places.items ≡ cut_places c.args.plan.now c.args.columns.now c.loop-i.i =
    next_is c.args.plan.now c.nodes-node-items.ensures.kept c.args.columns.now c.loop-i.i c.node-item.result
    c.nodes-node-items.result.now c.loop-i.done.items c.deref.result.now c.in_ok-places.places.items
    c.nodes-node-items.ensures.nodes c.loop-i-test.true c.node-item.is c.deref.ensures.value c.loop-i.invariant.found
    c.in_ok-places.ensures in
    record {
      counted =
          let e = ap length c.in_ok-push.ensures.items in
          let a = length-append c.loop-i.done.items (c.from_vec-cut.result ∷ []) in
          let n = c.loop-i.invariant.counted in omega (arith, e, a, n);
      found = done_more (cut_places c.args.plan.now c.args.columns.now) c.loop-i.i c.loop-i.done.items c.push.new.self.items
          c.from_vec-cut.result c.loop-i.invariant.counted c.in_ok-push.ensures.items c.loop-i.invariant.found
          (c.from_vec-cut.ensures ∙ is);
      none = rw (add-one c.loop-i.i)
          (none_more (is_uncut c.args.plan.now c.args.columns.now) c.loop-i.i c.loop-i.invariant.none
          (uncut_is c.args.plan.now c.args.columns.now c.loop-i.i c.items.result.now false
          (c.items.ensures ∙ (c.from_vec-cut.ensures ∙ is)) (sym c.is_empty.ensures ∙ c.if-is_empty.false)));
    }
