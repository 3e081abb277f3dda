use Rattle.std.proofs.Common.{◌≡◌, ◌<◌, ◌∙◌, [], length, refl, ap, sym, subst, arith, inl}
use Rattle.std.specs.Prelude.{◌+◌, Some, slice_set}
use Rattle.std.proofs.lemmas.List.{length_push, get_or-set_other, length-set}
use Rattle.plan_laws.specs.Places.{EdgesArePlaced}
use Rattle.edge_stream.specs.Lists.{edges_at}
use Rattle.dataflow.specs.Flows.{parts_of}
use Rattle.dataflow.specs.Below.{StopsUnder}
use Rattle.dataflow.specs.Held.{HeldBefore}
use Rattle.dataflow.proofs.HeldLists.{with_list, held_first, held_next}
use Rattle.dataflow.proofs.Flowing.{Progress, no_progress}
use Rattle.dataflow.proofs.Stepping.{reads, stage_there, node_there, can_take, answer_is, ready_out, ready_next, undefined_found, progress_made, answer_placed, next_progress, has_flowed, can_again, stopped_can, stopped_flow}
use Rattle.dataflow.proofs.Running.{next_runs}
use Rattle.dataflow.proofs.Sure.{sure_or_tested, fault_of_overflow, of_memory}
use Rattle.dataflow.proofs.steps.step_nodes.Goals as goal

pub loop-i-init : goal.loop-i-init
loop-i-init g c = record {
  more = λ k. [];
  held = subst (HeldBefore c.args.texts.now c.args.pools.now.capacity c.args.plan.now 0 (edges_at c.args.given.items) (λ k. []) c.args.given.items) (sym c.new-made.ensures.items) (held_first c.args.texts.now c.args.pools.now.capacity c.args.plan.now c.args.given.items (λ k. []) c.requires.given);
  count = ap length c.new-made.ensures.items;
  streams = refl;
  long = refl;
  behind = λ j d low. refl;
  ready = λ j n d low there. absurd (omega (arith, low));
  progress = λ last old lists source distinct flows later from begun. no_progress c.args.texts.now c.args.plan.now last c.args.p source old (edges_at c.args.given.items) lists (λ k. []) c.args.stages.now.items;
  runs = λ workers all. all;
  pools = refl;
  limit = refl;
}

pub step-requires-clause-ready : goal.step-requires-clause-ready
step-requires-clause-ready g c κs lives =
    let before = c.loop-i.invariant in
    let texts = c.args.texts.now in
    let plan = c.args.plan.now in
    let capacity = c.args.pools.now.capacity in
    let given = edges_at c.args.given.items in
    let i = c.loop-i.i in
    let test = c.loop-i-test.true in
    let few = c.requires.count in
    let low : i < length plan.nodes = omega (arith, test, few) in
    let here = node_there plan.nodes i low in
    let n = here.0 in
    let left = c.in_ok-left.left in
    let right = c.in_ok-right.right in
    let read = reads texts capacity c.loop-i.pools.capacity c.left_list.new.pools.capacity plan i given before.more n here.1 c.loop-i.given.items c.loop-i.made.items c.left_list.new.streams.items c.left_list.new.made.items c.right_list.new.made.items left right before.pools c.left_list.ensures.pools before.held c.in_ok-left.ensures.list c.in_ok-left.ensures.held c.in_ok-right.ensures.list c.in_ok-right.ensures.held in
    let whole = c.nodes-nodes.ensures.kept in
    let stages = c.args.stages.now.items in
    let s = c.index_mut.result.now in
    let may = c.requires.may in
    let can = may.can in
    let each = can.count in
    let at = stage_there c.loop-i.stages.items stages i s (omega (arith, low, each)) c.index_mut.ensures.value (before.behind i s (omega arith)) in
    let u = c.left_closing-left_to.result in
    let v = c.right_closing-right_to.result in
    let eu = c.left_closing-left_to.ensures n here.1 in
    let ev = c.right_closing-right_to.ensures c.args.p n c.closings_at-closings.ensures here.1 in
    let within = c.word.ensures.within in
    can_take texts plan whole capacity c.args.p within i n here.1 given before.more left right read.is_left read.is_right s u v eu ev may.last (can.ready i n s test here.1 at) may.later

pub step-requires-clause-capacity : goal.step-requires-clause-capacity
step-requires-clause-capacity g c κs lives =
    let before = c.loop-i.invariant in
    let texts = c.args.texts.now in
    let plan = c.args.plan.now in
    let capacity = c.args.pools.now.capacity in
    let given = edges_at c.args.given.items in
    let i = c.loop-i.i in
    let test = c.loop-i-test.true in
    let few = c.requires.count in
    let low : i < length plan.nodes = omega (arith, test, few) in
    let here = node_there plan.nodes i low in
    let n = here.0 in
    let left = c.in_ok-left.left in
    let right = c.in_ok-right.right in
    let read = reads texts capacity c.loop-i.pools.capacity c.left_list.new.pools.capacity plan i given before.more n here.1 c.loop-i.given.items c.loop-i.made.items c.left_list.new.streams.items c.left_list.new.made.items c.right_list.new.made.items left right before.pools c.left_list.ensures.pools before.held c.in_ok-left.ensures.list c.in_ok-left.ensures.held c.in_ok-right.ensures.list c.in_ok-right.ensures.held in
    (c.right_list.ensures.pools ∙ c.left_list.ensures.pools ∙ before.pools ∙ sym read.is_left.list.rows, read.is_right.list.rows ∙ sym read.is_left.list.rows)

pub step-requires-clause-placed : goal.step-requires-clause-placed
step-requires-clause-placed g c κs lives =
    let before = c.loop-i.invariant in
    let texts = c.args.texts.now in
    let plan = c.args.plan.now in
    let capacity = c.args.pools.now.capacity in
    let given = edges_at c.args.given.items in
    let i = c.loop-i.i in
    let test = c.loop-i-test.true in
    let few = c.requires.count in
    let low : i < length plan.nodes = omega (arith, test, few) in
    let here = node_there plan.nodes i low in
    let n = here.0 in
    let left = c.in_ok-left.left in
    let right = c.in_ok-right.right in
    let read = reads texts capacity c.loop-i.pools.capacity c.left_list.new.pools.capacity plan i given before.more n here.1 c.loop-i.given.items c.loop-i.made.items c.left_list.new.streams.items c.left_list.new.made.items c.right_list.new.made.items left right before.pools c.left_list.ensures.pools before.held c.in_ok-left.ensures.list c.in_ok-left.ensures.held c.in_ok-right.ensures.list c.in_ok-right.ensures.held in
    (read.is_left.list.placed, read.is_right.list.placed)

pub returns-in-Err-clause-overflow : goal.returns-in-Err-clause-overflow
returns-in-Err-clause-overflow g c = λ node time e last old lists source distinct flows later from begun.
    let before = c.loop-i.invariant in
    let texts = c.args.texts.now in
    let plan = c.args.plan.now in
    let capacity = c.args.pools.now.capacity in
    let given = edges_at c.args.given.items in
    let i = c.loop-i.i in
    let test = c.loop-i-test.true in
    let few = c.requires.count in
    let low : i < length plan.nodes = omega (arith, test, few) in
    let here = node_there plan.nodes i low in
    let n = here.0 in
    let left = c.in_ok-left.left in
    let right = c.in_ok-right.right in
    let read = reads texts capacity c.loop-i.pools.capacity c.left_list.new.pools.capacity plan i given before.more n here.1 c.loop-i.given.items c.loop-i.made.items c.left_list.new.streams.items c.left_list.new.made.items c.right_list.new.made.items left right before.pools c.left_list.ensures.pools before.held c.in_ok-left.ensures.list c.in_ok-left.ensures.held c.in_ok-right.ensures.list c.in_ok-right.ensures.held in
    let whole = c.nodes-nodes.ensures.kept in
    let stages = c.args.stages.now.items in
    let s = c.index_mut.result.now in
    let may = c.requires.may in
    let can = may.can in
    let each = can.count in
    let at = stage_there c.loop-i.stages.items stages i s (omega (arith, low, each)) c.index_mut.ensures.value (before.behind i s (omega arith)) in
    let u = c.left_closing-left_to.result in
    let v = c.right_closing-right_to.result in
    let eu = c.left_closing-left_to.ensures n here.1 in
    let ev = c.right_closing-right_to.ensures c.args.p n c.closings_at-closings.ensures here.1 in
    let within = c.word.ensures.within in
    let f = fault_of_overflow i c.in-Err.fault node time (sym c.fault_of.ensures ∙ e) in
    let so_far = before.progress last old lists source distinct flows later from begun in
    undefined_found texts plan whole capacity c.args.p within i n here.1 given before.more left right read.is_left read.is_right s u v eu ev last source old lists distinct later from begun (flows.can.ready i n s test here.1 at) (flows.kept i n s test here.1 at) c.loop-i.stages.items so_far c.args.count time (c.in-Err.ensures.overflow time f.1) test
    ∙ ap (λ k. Some (record { node = k; time = time })) (sym f.0)

pub loop-i-preserved : goal.loop-i-preserved
loop-i-preserved g c =
    let before = c.loop-i.invariant in
    let texts = c.args.texts.now in
    let plan = c.args.plan.now in
    let capacity = c.args.pools.now.capacity in
    let given = edges_at c.args.given.items in
    let i = c.loop-i.i in
    let test = c.loop-i-test.true in
    let few = c.requires.count in
    let low : i < length plan.nodes = omega (arith, test, few) in
    let here = node_there plan.nodes i low in
    let n = here.0 in
    let left = c.in_ok-left.left in
    let right = c.in_ok-right.right in
    let read = reads texts capacity c.loop-i.pools.capacity c.left_list.new.pools.capacity plan i given before.more n here.1 c.loop-i.given.items c.loop-i.made.items c.left_list.new.streams.items c.left_list.new.made.items c.right_list.new.made.items left right before.pools c.left_list.ensures.pools before.held c.in_ok-left.ensures.list c.in_ok-left.ensures.held c.in_ok-right.ensures.list c.in_ok-right.ensures.held in
    let whole = c.nodes-nodes.ensures.kept in
    let stages = c.args.stages.now.items in
    let s = c.index_mut.result.now in
    let may = c.requires.may in
    let can = may.can in
    let each = can.count in
    let at = stage_there c.loop-i.stages.items stages i s (omega (arith, low, each)) c.index_mut.ensures.value (before.behind i s (omega arith)) in
    let u = c.left_closing-left_to.result in
    let v = c.right_closing-right_to.result in
    let eu = c.left_closing-left_to.ensures n here.1 in
    let ev = c.right_closing-right_to.ensures c.args.p n c.closings_at-closings.ensures here.1 in
    let within = c.word.ensures.within in
    let out = c.in-Ok.list in
    let new = c.step.new.self in
    let told = c.in-Ok.ensures in
    let now = c.loop-i.stages.items in
    let pushed = c.in_ok-push-in-Ok.ensures.items in
    let made = c.right_list.ensures.made ∙ c.left_list.ensures.made ∙ before.count in
    let long = before.long in
    let within_now : i < length now = omega (arith, low, each, long) in
    let placed = sure_or_tested c.args.thawed (EdgesArePlaced texts out.edges)
    (λ fresh.
    let past = may.past fresh in
    answer_placed texts plan whole capacity c.args.p within i n here.1 given before.more left right read.is_left read.is_right s u v eu ev past.last past.source past.old past.lists past.distinct past.later past.stand past.from (past.flows.can.ready i n s test here.1 at) (past.flows.kept i n s test here.1 at) now
    (before.progress past.last past.old past.lists past.source past.distinct past.flows past.later past.stand past.from) new out told.kept told.ready told.defined within_now)
    (λ thawed. c.are_sure.ensures.tested thawed c.if-not-are_sure.false) in
    let list = answer_is texts plan whole capacity c.args.p within i n here.1 given before.more left right read.is_left read.is_right s u v eu ev may.last (can.ready i n s test here.1 at) out told.kinds placed told.capacity in
    record {
      more = with_list before.more i out.edges;
      held = subst (HeldBefore texts capacity plan (i + 1) given (with_list before.more i out.edges) c.left_list.new.streams.items) (sym pushed)
          (held_next texts capacity plan given before.more i c.left_list.new.streams.items c.right_list.new.made.items read.held made out list);
      count = ap length pushed ∙ length_push c.right_list.new.made.items out ∙ ap (λ m. m + 1) made;
      streams = c.left_list.ensures.streams ∙ before.streams;
      long = length-set now i new ∙ before.long;
      behind = λ j d above. get_or-set_other now i j new d (λ e. absurd (omega (arith, above, e))) ∙ before.behind j d (omega (arith, above));
      ready = ready_next texts plan capacity c.args.p now i n here.1 new within_now before.ready (ready_out texts plan whole capacity c.args.p within i n here.1 given before.more left right read.is_left read.is_right s u v eu ev may.last (can.ready i n s test here.1 at) new told.ready);
      progress = λ last old lists source distinct flows later from begun.
          next_progress texts plan last c.args.p source old given lists (with_list before.more i out.edges) (slice_set now i new) i
          (progress_made texts plan whole capacity c.args.p within i n here.1 given before.more left right read.is_left read.is_right s u v eu ev last source old lists distinct later from begun (flows.can.ready i n s test here.1 at) (flows.kept i n s test here.1 at) now
          (before.progress last old lists source distinct flows later from begun) new out told.kept told.ready told.defined within_now);
      runs = λ workers all.
          next_runs workers plan.nodes now i s new within_now c.index_mut.ensures.value (c.step.ensures.runs workers) (before.runs workers all);
      pools = c.step.ensures.pools ∙ c.right_list.ensures.pools ∙ c.left_list.ensures.pools ∙ before.pools;
      limit = c.step.ensures.limit ∙ c.right_list.ensures.limit ∙ c.left_list.ensures.limit ∙ before.limit;
    }

pub returns-clause-flowed : goal.returns-clause-flowed
returns-clause-flowed g c = λ last old lists source distinct flows later from begun.
    let before = c.loop-i.invariant in
    let texts = c.args.texts.now in
    let plan = c.args.plan.now in
    let given = edges_at c.args.given.items in
    let now = c.loop-i.stages.items in
    let test = c.loop-i-test.false in
    let bound = c.loop-i.auto.i-end in
    let end : c.loop-i.i ≡ c.args.count = omega (arith, test, bound) in
    let long = before.count in
    has_flowed texts plan last c.args.p c.args.count later now c.args.pools.now.capacity (before.long ∙ flows.can.count) flows.can.room
    (λ j m d low there. before.ready j m d (omega (arith, low, end)) there) source old given lists before.more
    (subst (Progress texts plan last c.args.p source old given lists before.more now) end (before.progress last old lists source distinct flows later from begun))
    c.args.thawed c.loop-i.made.items
    (λ l rooted. (before.held.of_nodes plan.root l (omega (arith, rooted, long, end)) (inl refl)).same)

pub returns-clause-made : goal.returns-clause-made
returns-clause-made g c =
    let before = c.loop-i.invariant in
    let test = c.loop-i-test.false in
    let bound = c.loop-i.auto.i-end in
    let end : c.loop-i.i ≡ c.args.count = omega (arith, test, bound) in
    let long = before.count in
    record {
      count = long ∙ end;
      root = λ l rooted. (before.held.of_nodes c.args.plan.now.root l (omega (arith, rooted, long, end)) (inl refl)).list;
    }

pub returns-clause-can : goal.returns-clause-can
returns-clause-can g c = λ last can later.
    let before = c.loop-i.invariant in
    let test = c.loop-i-test.false in
    let bound = c.loop-i.auto.i-end in
    let end : c.loop-i.i ≡ c.args.count = omega (arith, test, bound) in
    can_again c.args.texts.now c.args.plan.now last c.args.p c.args.count later c.loop-i.stages.items c.args.pools.now.capacity (before.long ∙ can.count) can.room
    (λ j m d low there. before.ready j m d (omega (arith, low, end)) there)

pub returns-in-Err-clause-stopped : goal.returns-in-Err-clause-stopped
returns-in-Err-clause-stopped g c = λ node time e.
    let before = c.loop-i.invariant in
    let texts = c.args.texts.now in
    let plan = c.args.plan.now in
    let capacity = c.args.pools.now.capacity in
    let given = edges_at c.args.given.items in
    let i = c.loop-i.i in
    let whole = c.nodes-nodes.ensures.kept in
    let within = c.word.ensures.within in
    let now = c.loop-i.stages.items in
    let f = fault_of_overflow i c.in-Err.fault node time (sym c.fault_of.ensures ∙ e) in
    subst (λ k. StopsUnder texts c.args.p c.args.count given k (parts_of plan c.args.stages.now.items capacity c.args.thawed) (parts_of plan (slice_set now i c.step.new.self) capacity c.args.thawed)) (sym f.0)
    (record {
      low = c.loop-i-test.true;
      can = λ last can later. stopped_can texts plan whole last c.args.p i later within now c.step.new.self capacity (before.long ∙ can.count) can.room before.ready;
      flow = λ last old lists source distinct flows later from begun.
          stopped_flow texts plan whole last c.args.p i later within now c.step.new.self capacity (before.long ∙ flows.can.count) flows.can.room before.ready
          c.args.thawed source old given lists before.more distinct from begun (before.progress last old lists source distinct flows later from begun);
    })

pub returns-in_err-push-in-Ok-clause-stopped : goal.returns-in_err-push-in-Ok-clause-stopped
returns-in_err-push-in-Ok-clause-stopped g c = of_memory c.from_residual-in_err-push-in-Ok.result _ c.from_residual-in_err-push-in-Ok.ensures.1 (λ f is node time e. absurd (cc))

pub returns-in_err-push-in-Ok-clause-overflow : goal.returns-in_err-push-in-Ok-clause-overflow
returns-in_err-push-in-Ok-clause-overflow g c = of_memory c.from_residual-in_err-push-in-Ok.result _ c.from_residual-in_err-push-in-Ok.ensures.1 (λ f is node time e. absurd (cc))

pub returns-in-Err-clause-runs : goal.returns-in-Err-clause-runs
returns-in-Err-clause-runs g c = λ workers all.
    next_runs workers c.args.plan.now.nodes c.loop-i.stages.items c.loop-i.i c.index_mut.result.now c.step.new.self
    (let low = c.loop-i-test.true in let few = c.requires.count in let each = c.requires.may.can.count in let long = c.loop-i.invariant.long in omega (arith, low, few, each, long))
    c.index_mut.ensures.value (c.step.ensures.runs workers) (c.loop-i.invariant.runs workers all)

pub returns-then-not-are_sure-clause-runs : goal.returns-then-not-are_sure-clause-runs
returns-then-not-are_sure-clause-runs g c = λ workers all.
    next_runs workers c.args.plan.now.nodes c.loop-i.stages.items c.loop-i.i c.index_mut.result.now c.step.new.self
    (let low = c.loop-i-test.true in let few = c.requires.count in let each = c.requires.may.can.count in let long = c.loop-i.invariant.long in omega (arith, low, few, each, long))
    c.index_mut.ensures.value (c.step.ensures.runs workers) (c.loop-i.invariant.runs workers all)

pub returns-in_err-push-in-Ok-clause-runs : goal.returns-in_err-push-in-Ok-clause-runs
returns-in_err-push-in-Ok-clause-runs g c = λ workers all.
    next_runs workers c.args.plan.now.nodes c.loop-i.stages.items c.loop-i.i c.index_mut.result.now c.step.new.self
    (let low = c.loop-i-test.true in let few = c.requires.count in let each = c.requires.may.can.count in let long = c.loop-i.invariant.long in omega (arith, low, few, each, long))
    c.index_mut.ensures.value (c.step.ensures.runs workers) (c.loop-i.invariant.runs workers all)
