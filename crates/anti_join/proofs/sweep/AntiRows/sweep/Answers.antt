use Rattle.std.proofs.Common.{◌≡◌, ◌∙◌, ◌+◌, suc, sym, ap, subst, arith, drop, length, List}
use Rattle.std.proofs.lemmas.List.{drop-drop, length-drop}
use Rattle.tw_rows.specs.declared.edge.Edge.{Edge}
use Rattle.sweep_sides.proofs.Cutting.{drop_past, starts_before, starts_part}
use Rattle.anti_join.specs.Holding.{AntiReached}
use Rattle.anti_join.proofs.RowKeys.{keys_stay, keys_then, by_then, same_swept}
use Rattle.anti_join.proofs.Begun.{next_below, below_rest, begun_so_far}
use Rattle.anti_join.proofs.Steps.{reach_start, reach_step, reach_end}
use Rattle.anti_join.proofs.sweep.AntiRows.sweep.Goals as goal

pub loop-i-init : goal.loop-i-init
loop-i-init c =
    let s = c.args.self.now in
    record {
      within_left = omega arith;
      within_right = omega arith;
      left_rows = λ w. (omega arith);
      right_rows = λ w. (omega arith);
      begun = λ kinds to bl br started left times. times;
      keys = keys_stay s;
      reached = λ a b from to by dl dr h.
          (from, reach_start s.left.key s.right.key a b from to c.args.left_due.now c.args.right_due.now s.left.rows s.right.rows s.times.rows c.args.answer.now.items dl dr h);
    }

pub loop-i-preserved : goal.loop-i-preserved
loop-i-preserved c =
    let s = c.args.self.now in
    let lk = s.left.key in
    let rk = s.right.key in
    let now = c.loop-i.self in
    let later = c.pass.new.self in
    let keys = c.loop-i.invariant.keys in
    let i = c.loop-i.i in
    let j = c.loop-i.j in
    let n = c.first_instant-n.result in
    let m = c.first_instant-m.result in
    let ldue = c.args.left_due.now in
    let rdue = c.args.right_due.now in
    let lrest = c.rest-left_rest.result.now in
    let rrest = c.rest-right_rest.result.now in
    let el : lrest ≡ drop i ldue = c.rest-left_rest.ensures in
    let er : rrest ≡ drop j rdue = c.rest-right_rest.ensures in
    let gl = ap (λ (l : List Edge). length l) el ∙ length-drop i ldue in
    let gr = ap (λ (l : List Edge). length l) er ∙ length-drop j rdue in
    let wl = c.first_instant-n.ensures.within in
    let wr = c.first_instant-m.ensures.within in
    let hi = c.loop-i.invariant.within_left in
    let hj = c.loop-i.invariant.within_right in
    let t = c.next_instant-t.result in
    let a0 = c.args.answer.now.items in
    let a1 = c.loop-i.answer.items in
    let a2 = c.pass.new.answer.items in
    record {
      within_left = omega (arith, gl, wl, hi);
      within_right = omega (arith, gr, wr, hj);
      left_rows = λ w.
          let a = c.loop-i.invariant.left_rows w in
          let b = c.in_ok-pass.ensures.left_rows w in
          let d = starts_before w ldue lrest i n el in
          omega (arith, a, b, d);
      right_rows = λ w.
          let a = c.loop-i.invariant.right_rows w in
          let b = c.in_ok-pass.ensures.right_rows w in
          let d = starts_before w rdue rrest j m er in
          omega (arith, a, b, d);
      begun = λ kinds to bl br started left times.
          c.in_ok-pass.ensures.begun kinds to (next_below t to lrest rrest c.next_instant-t.ensures (below_rest to i ldue lrest el bl) (below_rest to j rdue rrest er br))
          (begun_so_far kinds to i s.left.rows now.left.rows ldue c.loop-i.invariant.left_rows started left) (c.loop-i.invariant.begun kinds to bl br started left times);
      keys = keys_then s now later keys c.in_ok-pass.ensures.keys;
      reached = λ a b from to by dl dr h.
          let r = c.loop-i.invariant.reached a b from to by dl dr h in
          let r1 : AntiReached lk rk a b from r.0 to lrest rrest now.left.rows now.right.rows now.times.rows a0 a1 =
          subst (λ l. AntiReached lk rk a b from r.0 to l rrest now.left.rows now.right.rows now.times.rows a0 a1) (sym el)
          (subst (λ l. AntiReached lk rk a b from r.0 to (drop i ldue) l now.left.rows now.right.rows now.times.rows a0 a1) (sym er) r.1) in
          let z = reach_step lk rk a b from r.0 t to n m lrest rrest now.left.rows now.right.rows now.times.rows later.left.rows later.right.rows later.times.rows a0 a1 a2 r1 c.next_instant-t.ensures
          c.first_instant-n.ensures.same c.first_instant-n.ensures.next c.first_instant-m.ensures.same c.first_instant-m.ensures.next
          (λ low va vb nl nr held.
          same_swept s now a b t later a1 a2 keys held (λ k. c.in_ok-pass.ensures.swept a b (by_then s now keys by) low va vb nl nr k)) in (
            suc t,
            subst (λ l. AntiReached lk rk a b from (suc t) to l (drop (j + m) rdue) later.left.rows later.right.rows later.times.rows a0 a2)
                (ap (λ (l : List Edge). drop n l) el ∙ drop-drop n i ldue)
                (subst (λ l. AntiReached lk rk a b from (suc t) to (drop n lrest) l later.left.rows later.right.rows later.times.rows a0 a2)
                (ap (λ (l : List Edge). drop m l) er ∙ drop-drop m j rdue) z),
          );
    }

pub returns : goal.returns
returns c =
    let s = c.args.self.now in
    record {
      swept = λ a b from to by dl dr h.
          let r = c.loop-i.invariant.reached a b from to by dl dr h in
          let p = c.if-i-left_due.false in
          let q = c.if-j-right_due.false in
          reach_end s.left.key s.right.key a b from r.0 to (drop c.loop-i.i c.args.left_due.now) (drop c.loop-i.j c.args.right_due.now)
          c.loop-i.self.left.rows c.loop-i.self.right.rows c.loop-i.self.times.rows c.args.answer.now.items c.loop-i.answer.items
          (drop_past c.args.left_due.now c.loop-i.i (omega (arith, p))) (drop_past c.args.right_due.now c.loop-i.j (omega (arith, q))) r.1;
      left_rows = λ w. (let a = c.loop-i.invariant.left_rows w in let b = starts_part w c.args.left_due.now c.loop-i.i in omega (arith, a, b));
      right_rows = λ w. (let a = c.loop-i.invariant.right_rows w in let b = starts_part w c.args.right_due.now c.loop-i.j in omega (arith, a, b));
      begun = c.loop-i.invariant.begun;
      keys = c.loop-i.invariant.keys;
    }
