use Rattle.std.proofs.Common.{◌≡◌, ◌<◌, ◌∙◌, suc, sym, ap, subst, arith, refl, drop, take, length, List}
use Rattle.std.proofs.lemmas.List.{drop-drop, length-drop}
use Rattle.tw_rows.specs.Bag.{SameBag}
use Rattle.tw_rows.specs.Event.{AreEvents}
use Rattle.tw_rows.specs.Instant.{inf}
use Rattle.tw_rows.specs.declared.edge.Edge.{Edge}
use Rattle.edge_history.specs.Balance.{news}
use Rattle.sweep_laws.specs.Sweeps.{Tells}
use Rattle.sweep_sides.proofs.Cutting.{drop_past, starts_before, starts_part}
use Rattle.outer_top.specs.TopEvents.{AreSettled, TopHeld, TopReached, tops}
use Rattle.outer_top.proofs.TopSteps.{reach_start, reach_step, reach_end, queues_next_fit, for_like}
use Rattle.outer_top.proofs.sweep.sweep.Goals as goal

pub loop-done-init : goal.loop-done-init
loop-done-init c =
    let s = c.args.tops.now in
    record {
      within = omega arith;
      like = record { key = refl; by = refl; most = refl };
      rows = λ w. (omega arith);
      queues = λ to p below met own begun. begun;
      settled = λ h. h;
      reached = λ a from to d h. (from, reach_start s.key.columns s.by s.most a from to c.args.due.now s.keys.entries c.args.queues.now c.args.answer.now.items d h);
    }

pub pass-requires : goal.pass-requires
pass-requires c = let a = c.loop-done.invariant.like.most in let b = c.requires in omega (arith, a, b)

pub loop-done-preserved : goal.loop-done-preserved
loop-done-preserved c =
    let s = c.args.tops.now in
    let k = c.loop-done.tops in
    let m = c.pass.new.tops in
    let like = c.loop-done.invariant.like in
    let more = c.in_ok-pass.ensures.like in
    let now = c.loop-done.queues in
    let later = c.pass.new.queues in
    let i = c.loop-done.done in
    let n = c.first_instant-n.result in
    let due = c.args.due.now in
    let left = c.rest-left.result.now in
    let el : left ≡ drop i due = c.rest-left.ensures in
    let gl = ap (λ (l : List Edge). length l) el ∙ length-drop i due in
    let wl = c.first_instant-n.ensures.within in
    let hi = c.loop-done.invariant.within in
    let t = c.next_instant-t.result in
    let a0 = c.args.answer.now.items in
    let a1 = c.loop-done.answer.items in
    let a2 = c.pass.new.answer.items in
    record {
      within = omega (arith, gl, wl, hi);
      like = record { key = more.key ∙ like.key; by = more.by ∙ like.by; most = more.most ∙ like.most };
      rows = λ w.
          let a = c.loop-done.invariant.rows w in
          let b = c.in_ok-pass.ensures.rows w in
          let d = starts_before w due left i n el in
          omega (arith, a, b, d);
      queues = queues_next_fit t n i due left s.keys.entries k.keys.entries c.args.queues.now now later el c.next_instant-t.ensures c.loop-done.invariant.rows c.loop-done.invariant.queues c.in_ok-pass.ensures.queues;
      settled = λ h.
          for_like (λ cs b ms. AreSettled cs b ms k.keys.entries → AreSettled cs b ms m.keys.entries) s.key.columns k.key.columns s.by k.by s.most k.most like.key like.by like.most c.in_ok-pass.ensures.settled
          (c.loop-done.invariant.settled h);
      reached = λ a from to d h.
          let r = c.loop-done.invariant.reached a from to d h in
          let r1 = subst (λ l. TopReached s.key.columns s.by s.most a from r.0 to l k.keys.entries now a0 a1) (sym el) r.1 in
          let z = reach_step s.key.columns s.by s.most a from r.0 t to n left k.keys.entries m.keys.entries now later a0 a1 a2 r1 c.next_instant-t.ensures c.first_instant-n.ensures.same c.first_instant-n.ensures.next
          (for_like (λ cs b ms. t < inf → AreEvents a → SameBag (take n left) (news t (suc t) a) → TopHeld cs b ms a t k.keys.entries now →
          TopHeld cs b ms a (suc t) m.keys.entries later × Tells (tops cs b ms a) t (suc t) a1 a2)
          s.key.columns k.key.columns s.by k.by s.most k.most like.key like.by like.most (λ low lives same held. c.in_ok-pass.ensures.swept a low lives same held)) in
          (suc t, subst (λ l. TopReached s.key.columns s.by s.most a from (suc t) to l m.keys.entries later a0 a2) (ap (λ (l : List Edge). drop n l) el ∙ drop-drop n i due) z);
    }

pub returns : goal.returns
returns c =
    let s = c.args.tops.now in
    let k = c.loop-done.tops in
    let p = c.loop-done-test.false in
    record {
      swept = λ a from to d h.
          let r = c.loop-done.invariant.reached a from to d h in
          reach_end s.key.columns s.by s.most a from r.0 to (drop c.loop-done.done c.args.due.now) k.keys.entries c.loop-done.queues c.args.answer.now.items c.loop-done.answer.items
          (drop_past c.args.due.now c.loop-done.done p) r.1;
      rows = λ w. (let a = c.loop-done.invariant.rows w in let b = starts_part w c.args.due.now c.loop-done.done in omega (arith, a, b));
      queues = c.loop-done.invariant.queues;
      settled = c.loop-done.invariant.settled;
      like = c.loop-done.invariant.like;
    }
