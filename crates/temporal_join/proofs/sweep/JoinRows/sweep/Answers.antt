use Rattle.std.proofs.Common.{◌≡◌, ◌∙◌, ◌+◌, ◌-◌, ◌≤◌, suc, sym, ap, subst, arith, take, drop, length, refl, List}
use Rattle.std.proofs.lemmas.List.{drop-drop, length-drop}
use Rattle.tw_rows.specs.Bag.{SameBag, total}
use Rattle.tw_rows.specs.declared.edge.Edge.{Edge}
use Rattle.edge_history.specs.Balance.{news}
use Rattle.edge_history.specs.Opens.{started_rows}
use Rattle.plan_model.specs.Keys.{paired_row}
use Rattle.sweep_laws.specs.Joining.{JoinReached}
use Rattle.sweep_laws.proofs.Joins.{join_reach_start, join_reach_step, join_reach_end}
use Rattle.sweep_sides.proofs.Cutting.{drop_past}
use Rattle.temporal_join.specs.Joined.{join_meets}
use Rattle.temporal_join.specs.Kept.{AreByKey}
use Rattle.temporal_join.proofs.Partners.{same_tells}
use Rattle.sweep_sides.proofs.Overwriting.{part_is, rest_written}
use Rattle.temporal_join.proofs.Rowing.{rows_past}
use Rattle.temporal_join.proofs.sweep.JoinRows.sweep.Goals as goal

pub loop-i-init : goal.loop-i-init
loop-i-init c =
    let s = c.args.self.now in
    record {
      within_left = omega arith;
      within_right = omega arith;
      rest_left = refl;
      rest_right = refl;
      keys = record { left_key = refl; right_key = refl; left = refl; right = refl };
      left_rows = λ w. omega arith;
      right_rows = λ w. omega arith;
      reached = λ a b from to by dl dr h.
          (from, join_reach_start (join_meets s.left_key.items s.right_key.items) (paired_row s.right_key.items) a b from to c.args.left_due.now c.args.right_due.now s.left.rows s.right.rows c.args.answer.now.items dl dr h);
    }

pub loop-i-preserved : goal.loop-i-preserved
loop-i-preserved c =
    let s = c.args.self.now in
    let lk = s.left_key.items in
    let rk = s.right_key.items in
    let meets = join_meets lk rk in
    let pair = paired_row rk in
    let now = c.loop-i.self in
    let later = c.pass.new.self in
    let keys = c.loop-i.invariant.keys in
    let keys2 = c.in_ok-pass.ensures.keys in
    let i = c.loop-i.i in
    let j = c.loop-i.j in
    let n = c.first_instant-n.result in
    let m = c.first_instant-m.result in
    let ldue = c.args.left_due.now in
    let rdue = c.args.right_due.now in
    let lrest = c.rest-left_rest.result.now in
    let rrest = c.rest-right_rest.result.now in
    let lnow = c.loop-i.left_due in
    let rnow = c.loop-i.right_due in
    let ll = c.loop-i.auto.left_due in
    let lr = c.loop-i.auto.right_due in
    let rl : drop i lnow ≡ drop i ldue = c.loop-i.invariant.rest_left in
    let rr : drop j rnow ≡ drop j rdue = c.loop-i.invariant.rest_right in
    let pl : take ((i + n) - i) (drop i lnow) ≡ take n lrest = part_is lnow lrest i n c.rest-left_rest.ensures in
    let pr : take ((j + m) - j) (drop j rnow) ≡ take m rrest = part_is rnow rrest j m c.rest-right_rest.ensures in
    let el : lrest ≡ drop i ldue = c.rest-left_rest.ensures ∙ rl in
    let er : rrest ≡ drop j rdue = c.rest-right_rest.ensures ∙ rr in
    let gl = ap (λ (l : List Edge). length l) el ∙ length-drop i ldue in
    let gr = ap (λ (l : List Edge). length l) er ∙ length-drop j rdue in
    let wl = c.first_instant-n.ensures.within in
    let wr = c.first_instant-m.ensures.within in
    let hi = c.loop-i.invariant.within_left in
    let hj = c.loop-i.invariant.within_right in
    let t = c.next_instant-t.result in
    let a0 = c.args.answer.now.items in
    let a1 = c.loop-i.answer.items in
    let a2 = c.pass.new.answer.items in
    let left_same : now.left_key.items ≡ lk = ap (λ v. v.items) keys.left_key in
    let right_same : now.right_key.items ≡ rk = ap (λ v. v.items) keys.right_key in
    record {
      within_left = omega (arith, gl, wl, hi);
      within_right = omega (arith, gr, wr, hj);
      rest_left = rest_written lnow c.pass.new.now_left i n (omega (arith, gl, wl, hi, ll)) c.pass.auto.now_left ldue rl;
      rest_right = rest_written rnow c.pass.new.now_right j m (omega (arith, gr, wr, hj, lr)) c.pass.auto.now_right rdue rr;
      keys = record {
        left_key = keys2.left_key ∙ keys.left_key;
        right_key = keys2.right_key ∙ keys.right_key;
        left = keys2.left ∙ keys.left;
        right = keys2.right ∙ keys.right;
      };
      left_rows = λ w.
          rows_past w i n ldue lrest (total w s.left.rows) (total w now.left.rows) (total w later.left.rows) el (c.loop-i.invariant.left_rows w)
          (subst (λ (l : List Edge). total w later.left.rows ≤ total w now.left.rows + total w (started_rows l)) pl (c.in_ok-pass.ensures.left_rows w));
      right_rows = λ w.
          rows_past w j m rdue rrest (total w s.right.rows) (total w now.right.rows) (total w later.right.rows) er (c.loop-i.invariant.right_rows w)
          (subst (λ (l : List Edge). total w later.right.rows ≤ total w now.right.rows + total w (started_rows l)) pr (c.in_ok-pass.ensures.right_rows w));
      reached = λ a b from to by dl dr h.
          let r = c.loop-i.invariant.reached a b from to by dl dr h in
          let by2 : AreByKey now = record { left = keys.left ∙ (by.left ∙ sym left_same); right = keys.right ∙ (by.right ∙ sym right_same) } in
          let r1 : JoinReached meets pair a b from r.0 to lrest rrest now.left.rows now.right.rows a0 a1 =
          subst (λ l. JoinReached meets pair a b from r.0 to l rrest now.left.rows now.right.rows a0 a1) (sym el)
          (subst (λ l. JoinReached meets pair a b from r.0 to (drop i ldue) l now.left.rows now.right.rows a0 a1) (sym er) r.1) in
          let s = join_reach_step meets pair a b from r.0 t to n m lrest rrest now.left.rows now.right.rows later.left.rows later.right.rows a0 a1 a2 r1 c.next_instant-t.ensures
          c.first_instant-n.ensures.same c.first_instant-n.ensures.next c.first_instant-m.ensures.same c.first_instant-m.ensures.next
          (λ low va vb nl nr held.
          let p = c.in_ok-pass.ensures.swept a b by2 low va vb
          (subst (λ (l : List Edge). SameBag l (news t (suc t) a)) (sym pl) nl) (subst (λ (l : List Edge). SameBag l (news t (suc t) b)) (sym pr) nr) held in
          (p.0, same_tells lk rk now.left_key.items now.right_key.items a b t (suc t) a1 a2 left_same right_same p.1)) in (
            suc t,
            subst (λ l. JoinReached meets pair a b from (suc t) to l (drop (j + m) rdue) later.left.rows later.right.rows a0 a2)
                (ap (λ (l : List Edge). drop n l) el ∙ drop-drop n i ldue)
                (subst (λ l. JoinReached meets pair a b from (suc t) to (drop n lrest) l later.left.rows later.right.rows a0 a2)
                (ap (λ (l : List Edge). drop m l) er ∙ drop-drop m j rdue) s),
          );
    }

pub returns : goal.returns
returns c =
    let s = c.args.self.now in
    record {
      swept = λ a b from to by dl dr h.
          let r = c.loop-i.invariant.reached a b from to by dl dr h in
          let p = c.if-i-left_due.false in
          let q = c.if-j-right_due.false in
          join_reach_end (join_meets s.left_key.items s.right_key.items) (paired_row s.right_key.items) a b from r.0 to (drop c.loop-i.i c.args.left_due.now) (drop c.loop-i.j c.args.right_due.now)
          c.loop-i.self.left.rows c.loop-i.self.right.rows c.args.answer.now.items c.loop-i.answer.items
          (sym c.loop-i.invariant.rest_left ∙ drop_past c.loop-i.left_due c.loop-i.i (omega (arith, p))) (sym c.loop-i.invariant.rest_right ∙ drop_past c.loop-i.right_due c.loop-i.j (omega (arith, q))) r.1;
      left_rows = λ w. (let a = c.loop-i.invariant.left_rows w in omega (arith, a));
      right_rows = λ w. (let a = c.loop-i.invariant.right_rows w in omega (arith, a));
      keys = c.loop-i.invariant.keys;
    }
