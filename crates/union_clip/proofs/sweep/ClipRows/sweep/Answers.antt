use Rattle.std.proofs.Common.{◌≡◌, ◌∙◌, ◌+◌, suc, sym, ap, subst, arith, drop, length, map, List}
use Rattle.std.proofs.lemmas.List.{drop-drop, length-drop}
use Rattle.tw_rows.specs.declared.edge.Edge.{Edge}
use Rattle.sweep_laws.specs.Unending.{unending}
use Rattle.sweep_sides.proofs.Cutting.{drop_past, starts_before, starts_part}
use Rattle.union_clip.specs.Holding.{ClipReached}
use Rattle.union_clip.proofs.KeyRules.{keys_stay, keys_then, same_swept}
use Rattle.union_clip.proofs.Steps.{reach_start, reach_step, reach_end}
use Rattle.union_clip.proofs.sweep.ClipRows.sweep.Goals as goal

pub loop-i-init : goal.loop-i-init
loop-i-init c =
    let s = c.args.self.now in
    record {
      within_left = omega arith;
      within_right = omega arith;
      rows = λ w. (omega arith);
      keys = keys_stay s;
      reached = λ a b from to dl dr h.
          (from, reach_start s.left.key s.right_key.columns a (map unending b) from to c.args.left_due.now c.args.right_due.now s.left.rows c.args.answer.now.items dl dr h);
    }

pub loop-i-preserved : goal.loop-i-preserved
loop-i-preserved c =
    let s = c.args.self.now in
    let lk = s.left.key in
    let rk = s.right_key.columns in
    let now = c.loop-i.self in
    let later = c.pass.new.self in
    let keys = c.loop-i.invariant.keys in
    let i = c.loop-i.i in
    let j = c.loop-i.j in
    let n = c.first_instant-n.result in
    let m = c.first_instant-m.result in
    let ldue = c.args.left_due.now in
    let rdue = c.args.right_due.now in
    let lrest = c.rest-left_rest.result.now in
    let rrest = c.rest-right_rest.result.now in
    let el : lrest ≡ drop i ldue = c.rest-left_rest.ensures in
    let er : rrest ≡ drop j rdue = c.rest-right_rest.ensures in
    let gl = ap (λ (l : List Edge). length l) el ∙ length-drop i ldue in
    let gr = ap (λ (l : List Edge). length l) er ∙ length-drop j rdue in
    let wl = c.first_instant-n.ensures.within in
    let wr = c.first_instant-m.ensures.within in
    let hi = c.loop-i.invariant.within_left in
    let hj = c.loop-i.invariant.within_right in
    let t = c.next_instant-t.result in
    let a0 = c.args.answer.now.items in
    let a1 = c.loop-i.answer.items in
    let a2 = c.pass.new.answer.items in
    record {
      within_left = omega (arith, gl, wl, hi);
      within_right = omega (arith, gr, wr, hj);
      rows = λ w.
          let a = c.loop-i.invariant.rows w in
          let b = c.in_ok-pass.ensures.rows w in
          let d = starts_before w ldue lrest i n el in
          omega (arith, a, b, d);
      keys = keys_then s now later keys c.in_ok-pass.ensures.keys;
      reached = λ a b from to dl dr h.
          let r = c.loop-i.invariant.reached a b from to dl dr h in
          let r1 : ClipReached lk rk a (map unending b) from r.0 to lrest rrest now.left.rows a0 a1 =
          subst (λ l. ClipReached lk rk a (map unending b) from r.0 to l rrest now.left.rows a0 a1) (sym el)
          (subst (λ l. ClipReached lk rk a (map unending b) from r.0 to (drop i ldue) l now.left.rows a0 a1) (sym er) r.1) in
          let z = reach_step lk rk a (map unending b) from r.0 t to n m lrest rrest now.left.rows later.left.rows a0 a1 a2 r1 c.next_instant-t.ensures
          c.first_instant-n.ensures.same c.first_instant-n.ensures.next c.first_instant-m.ensures.same c.first_instant-m.ensures.next
          (λ low va vb nl nr held.
          same_swept s now a (map unending b) t (suc t) now.left.rows later.left.rows a1 a2 keys held (λ k. c.in_ok-pass.ensures.swept a b low va nl nr k)) in (
            suc t,
            subst (λ l. ClipReached lk rk a (map unending b) from (suc t) to l (drop (j + m) rdue) later.left.rows a0 a2)
                (ap (λ (l : List Edge). drop n l) el ∙ drop-drop n i ldue)
                (subst (λ l. ClipReached lk rk a (map unending b) from (suc t) to (drop n lrest) l later.left.rows a0 a2)
                (ap (λ (l : List Edge). drop m l) er ∙ drop-drop m j rdue) z),
          );
    }

pub returns : goal.returns
returns c =
    let s = c.args.self.now in
    record {
      swept = λ a b from to dl dr h.
          let r = c.loop-i.invariant.reached a b from to dl dr h in
          let p = c.if-i-left_due.false in
          let q = c.if-j-right_due.false in
          reach_end s.left.key s.right_key.columns a (map unending b) from r.0 to (drop c.loop-i.i c.args.left_due.now) (drop c.loop-i.j c.args.right_due.now)
          c.loop-i.self.left.rows c.args.answer.now.items c.loop-i.answer.items
          (drop_past c.args.left_due.now c.loop-i.i (omega (arith, p))) (drop_past c.args.right_due.now c.loop-i.j (omega (arith, q))) r.1;
      rows = λ w. (let a = c.loop-i.invariant.rows w in let b = starts_part w c.args.left_due.now c.loop-i.i in omega (arith, a, b));
      keys = c.loop-i.invariant.keys;
    }
