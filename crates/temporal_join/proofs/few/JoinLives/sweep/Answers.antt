use Rattle.std.proofs.Common.{◌≡◌, ◌<◌, ◌≤◌, ◌∙◌, ◌++◌, suc, max, true, false, ap, sym, subst, arith, rules, refl}
use Rattle.std.proofs.lemmas.Grind.{common_steps}
use Rattle.std.specs.Prelude.{All, List, map}
use Rattle.tw_rows.specs.Cells.{datum_kind}
use Rattle.tw_rows.specs.declared.edge.Edge.{Edge}
use Rattle.edge_history.specs.Order.{failing}
use Rattle.sweep_laws.specs.Sweeps.{SyncsRise}
use Rattle.temporal_join.specs.Few.{SideFrom, InstantPassed}
use Rattle.temporal_join.specs.Lives.{is_begun}
use Rattle.temporal_join.proofs.Ahead.{side_past_of, later_of, rise_behind}
use Rattle.temporal_join.proofs.Going.{gone_start, gone_more, went_same}
use Rattle.temporal_join.proofs.few.JoinLives.sweep.Goals as goal

pub instants-init : goal.instants-init
instants-init c =
    let s = c.args.self.now in
    record {
      none_left = c.clear.ensures.items;
      none_right = c.clear-2.ensures.items;
      left_cells = λ h. h;
      right_cells = λ h. h;
      left_kinds = refl;
      right_kinds = refl;
      keys = record { left_key = refl; right_key = refl; left = refl; right = refl };
      left_up = λ h. h;
      right_up = λ h. h;
      gone = λ from low ul ur fl fr. gone_start s from c.args.to c.args.first c.args.left.now.edges c.args.right.now.edges c.args.answer.now.items low fl fr;
    }

pub instants-smaller : goal.instants-smaller
instants-smaller c =
    let a = c.later-t.ensures in
    let b = c.plus.ensures in
    let d = c.word.ensures.within in
    let e : c.instants.t < c.args.to = first_of (search rules, grind (arith, common_steps)) in
    omega (arith, a, b, d, e)

-- where both sides are cut at an instant
pub pass-requires-clause-left : goal.pass-requires-clause-left
pass-requires-clause-left c = ap (failing (is_begun c.instants.t)) c.deref_mut.ensures.value ∙ c.in_ok-left_whole.ensures.begun (ap (failing (is_begun c.instants.t)) c.instants.invariant.none_left)

pub pass-requires-clause-right : goal.pass-requires-clause-right
pass-requires-clause-right c = ap (failing (is_begun c.instants.t)) c.deref_mut-in-instants.ensures.value ∙ c.in_ok-right_whole.ensures.begun (ap (failing (is_begun c.instants.t)) c.instants.invariant.none_right)

pub instants-preserved : goal.instants-preserved
instants-preserved c =
    let s = c.args.self.now in
    let now = c.instants.self in
    let new = c.pass.new.self in
    let i = c.instants.invariant in
    let t = c.instants.t in
    let to = c.args.to in
    let t2 = c.later-t.result in
    let pl = c.in_ok-left_whole.ensures in
    let pr = c.in_ok-right_whole.ensures in
    let nl = c.pull.new.now.items in
    let nr = c.pull-in-instants.new.now.items in
    let es = c.instants.left.edges in
    let fs = c.instants.right.edges in
    let es2 = c.pull.new.cursor.edges in
    let fs2 = c.pull-in-instants.new.cursor.edges in
    let cut_l : nl ++ es2 ≡ es = pl.edges ∙ ap (λ (l : List Edge). l ++ es) i.none_left in
    let cut_r : nr ++ fs2 ≡ fs = pr.edges ∙ ap (λ (l : List Edge). l ++ fs) i.none_right in
    let low : t < to = first_of (search rules, grind (arith, common_steps)) in
    let high = c.word.ensures.within in
    let keys = c.in_ok-pass.ensures.keys in
    let plus = c.plus.ensures in
    let most = c.later-t.ensures in
    let up_l : SyncsRise 0 es → SyncsRise 0 es2 = λ up. rise_behind nl es2 0 (subst (SyncsRise 0) (sym cut_l) up) in
    let up_r : SyncsRise 0 fs → SyncsRise 0 fs2 = λ up. rise_behind nr fs2 0 (subst (SyncsRise 0) (sym cut_r) up) in
    record {
      none_left = c.clear-in-instants.ensures.items;
      none_right = c.clear-in-instants-2.ensures.items;
      left_cells = λ h. i.left_cells (subst (λ k. All (λ e. map datum_kind e.cells ≡ k) es2 → All (λ e. map datum_kind e.cells ≡ k) es) i.left_kinds pl.cells h);
      right_cells = λ h. i.right_cells (subst (λ k. All (λ e. map datum_kind e.cells ≡ k) fs2 → All (λ e. map datum_kind e.cells ≡ k) fs) i.right_kinds pr.cells h);
      left_kinds = c.pull.ensures.kinds ∙ i.left_kinds;
      right_kinds = c.pull-in-instants.ensures.kinds ∙ i.right_kinds;
      keys = record {
        left_key = keys.left_key ∙ i.keys.left_key;
        right_key = keys.right_key ∙ i.keys.right_key;
        left = keys.left ∙ i.keys.left;
        right = keys.right ∙ i.keys.right;
      };
      left_up = λ up. up_l (i.left_up up);
      right_up = λ up. up_r (i.right_up up);
      gone = λ from first ul ur fl fr.
          let g = i.gone from first ul ur fl fr in
          let p = subst (λ l. InstantPassed now new t l nr c.instants.answer.items c.pass.new.answer.items) c.deref_mut.ensures.value
          (subst (λ l. InstantPassed now new t c.deref_mut.result.now l c.instants.answer.items c.pass.new.answer.items) c.deref_mut-in-instants.ensures.value (c.in_ok-pass.ensures.passed (omega (arith, low, high)))) in
          let after = c.next_instant.ensures in
          let il = side_past_of t now.left.lives new.left.lives es es2 nl p.left_now cut_l (up_l (i.left_up ul)) (pl.past c.if-not-left_whole.false) c.in_ok-pass.ensures.left_gone g.left.later p.left in
          let ir = side_past_of t now.right.lives new.right.lives fs fs2 nr p.right_now cut_r (up_r (i.right_up ur)) (pr.past c.if-not-right_whole.false) c.in_ok-pass.ensures.right_gone g.right.later p.right in
          let is : t2 ≡ max c.next_instant.result (suc t) = omega (arith, plus, most, low, high) in
          gone_more s now new from to t t2 c.args.left.now.edges es es2 c.args.right.now.edges fs fs2 nl nr c.args.answer.now.items c.instants.answer.items c.pass.new.answer.items i.keys low (omega (arith, is)) cut_l cut_r
          (subst (λ n. SideFrom n new.left.lives es2) (sym is) (later_of (λ n. SideFrom n new.left.lives es2) c.next_instant.result (suc t) (after.left (up_l (i.left_up ul))) il))
          (subst (λ n. SideFrom n new.right.lives fs2) (sym is) (later_of (λ n. SideFrom n new.right.lives fs2) c.next_instant.result (suc t) (after.right (up_r (i.right_up ur))) ir)) g p;
    }

-- where it stops before one
pub returns-then-not-left_whole-clause-went : goal.returns-then-not-left_whole-clause-went
returns-then-not-left_whole-clause-went c = λ from first ul ur fl fr.
    let i = c.instants.invariant in
    let es = c.instants.left.edges in
    let fs = c.instants.right.edges in
    went_same c.args.self.now c.instants.self from c.args.to c.instants.t false c.args.left.now.edges es (c.pull.new.now.items ++ c.pull.new.cursor.edges)
    c.args.right.now.edges fs (c.pull-in-instants.new.now.items ++ c.pull-in-instants.new.cursor.edges) c.args.answer.now.items c.instants.answer.items
    (c.in_ok-left_whole.ensures.edges ∙ ap (λ (l : List Edge). l ++ es) i.none_left) (c.in_ok-right_whole.ensures.edges ∙ ap (λ (l : List Edge). l ++ fs) i.none_right)
    (λ no. absurd (cc (no))) (i.gone from first ul ur fl fr)

pub returns-then-not-left_whole-clause-left_cells : goal.returns-then-not-left_whole-clause-left_cells
returns-then-not-left_whole-clause-left_cells c = λ h.
    let i = c.instants.invariant in
    i.left_cells (subst (λ k. All (λ e. map datum_kind e.cells ≡ k) c.pull.new.cursor.edges → All (λ e. map datum_kind e.cells ≡ k) c.instants.left.edges) i.left_kinds c.in_ok-left_whole.ensures.cells h)

pub returns-then-not-left_whole-clause-right_cells : goal.returns-then-not-left_whole-clause-right_cells
returns-then-not-left_whole-clause-right_cells c = λ h.
    let i = c.instants.invariant in
    i.right_cells (subst (λ k. All (λ e. map datum_kind e.cells ≡ k) c.pull-in-instants.new.cursor.edges → All (λ e. map datum_kind e.cells ≡ k) c.instants.right.edges) i.right_kinds c.in_ok-right_whole.ensures.cells h)

pub returns-then-not-left_whole-clause-left_kinds : goal.returns-then-not-left_whole-clause-left_kinds
returns-then-not-left_whole-clause-left_kinds c = c.pull.ensures.kinds ∙ c.instants.invariant.left_kinds

pub returns-then-not-left_whole-clause-right_kinds : goal.returns-then-not-left_whole-clause-right_kinds
returns-then-not-left_whole-clause-right_kinds c = c.pull-in-instants.ensures.kinds ∙ c.instants.invariant.right_kinds

pub returns-then-not-left_whole-clause-keys : goal.returns-then-not-left_whole-clause-keys
returns-then-not-left_whole-clause-keys c = c.instants.invariant.keys

-- where it comes to its end
pub returns-clause-went : goal.returns-clause-went
returns-clause-went c = λ from first ul ur fl fr.
    let i = c.instants.invariant in
    let es = c.instants.left.edges in
    let fs = c.instants.right.edges in
    let far : c.args.to ≤ c.instants.t = first_of (search rules, grind (arith, common_steps)) in
    went_same c.args.self.now c.instants.self from c.args.to c.instants.t true c.args.left.now.edges es (c.instants.now_left.items ++ es) c.args.right.now.edges fs (c.instants.now_right.items ++ fs)
    c.args.answer.now.items c.instants.answer.items (ap (λ (l : List Edge). l ++ es) i.none_left) (ap (λ (l : List Edge). l ++ fs) i.none_right)
    (λ yes. omega (arith, far)) (i.gone from first ul ur fl fr)

pub returns-clause-left_cells : goal.returns-clause-left_cells
returns-clause-left_cells c = c.instants.invariant.left_cells

pub returns-clause-right_cells : goal.returns-clause-right_cells
returns-clause-right_cells c = c.instants.invariant.right_cells

pub returns-clause-left_kinds : goal.returns-clause-left_kinds
returns-clause-left_kinds c = c.instants.invariant.left_kinds

pub returns-clause-right_kinds : goal.returns-clause-right_kinds
returns-clause-right_kinds c = c.instants.invariant.right_kinds

pub returns-clause-keys : goal.returns-clause-keys
returns-clause-keys c = c.instants.invariant.keys
