use Rattle.std.specs.List.{list_any}
use Rattle.std.proofs.Common.{subst, sym, ap, ◌∙◌, arith}
use Rattle.tw_rows.specs.SameCells.{same_cells}
use Rattle.snapshot_agg.specs.Totaled.{IsTotalOf, TellTouched, totals_of}
use Rattle.snapshot_agg.proofs.Keyed.{stands, is_there, own_totals, other_totals}
use Rattle.snapshot_agg.proofs.Totaling.{nothing_taken, all_taken, totals_kept}
use Rattle.snapshot_agg.proofs.Touching.{now_told}
use Rattle.snapshot_agg.proofs.groups.take_from.Goals.{in-Some+in_ok-touch_at+else-count-gt0, in_default}
use Rattle.snapshot_agg.proofs.groups.take_from.Goals as goal

pub touch_at-requires : goal.touch_at-requires
touch_at-requires c =
    subst (λ o. TellTouched o c.args.instant c.args.touched.now.items c.args.key.now) (stands c.args.totals.now c.args.key.now _ c.in-Some.ensures.value) c.requires.tells

pub remove-requires : goal.remove-requires
remove-requires c =
    let r = c.requires.there in
    let e = c.in_ok-touch_at.ensures in (
      r.0,
      r.1,
      r.2,
      totals_kept c.in-Some.there.now c.touch_at.new.self r.0 r.1 e.count (ap (λ v. v.items) e.states)
          (subst (λ o. IsTotalOf o r.0 r.1) (stands c.args.totals.now c.args.key.now _ c.in-Some.ensures.value) r.3).0,
      r.4,
    )

pub returns-then-count-gt0-clause-tells : goal.returns-then-count-gt0-clause-tells
returns-then-count-gt0-clause-tells c =
    let ks2 = c.touch_at.new.touched.items in
    subst (λ o. TellTouched o c.args.instant ks2 c.args.key.now) (sym (own_totals _ c.args.key.now ((c.get_mut.follows.holds c.remove.new.self).3 (is_there c.in-Some.ensures.value)).1))
    (now_told c.remove.new.self c.args.instant c.args.touched.now.items ks2 c.args.key.now (c.remove.ensures.instant ∙ c.in_ok-touch_at.ensures.instant) c.in_ok-touch_at.ensures.touched)

pub returns-clause-tells : goal.returns-clause-tells
returns-clause-tells c = subst (λ o. TellTouched o c.args.instant c.match-get_mut.touched.items c.args.key.now) (sym (own_totals _ c.args.key.now c.swap_remove.ensures.updates.1)) tt

pub returns-then-count-gt0-clause-others : goal.returns-then-count-gt0-clause-others
returns-then-count-gt0-clause-others c = λ q e. other_totals _ _ c.args.key.now ((c.get_mut.follows.holds c.remove.new.self).3 (is_there c.in-Some.ensures.value)).3 q e

pub returns-then-count-gt0-clause-own : goal.returns-then-count-gt0-clause-own
returns-then-count-gt0-clause-own c = λ aggs rows rest h same.
    let e = c.in_ok-touch_at.ensures in
    let z = totals_kept c.in-Some.there.now c.touch_at.new.self aggs rows e.count (ap (λ v. v.items) e.states)
    (subst (λ o. IsTotalOf o aggs rows) (stands c.args.totals.now c.args.key.now _ c.in-Some.ensures.value) h).0 in
    subst (λ o. IsTotalOf o aggs rest) (sym (own_totals _ c.args.key.now ((c.get_mut.follows.holds c.remove.new.self).3 (is_there c.in-Some.ensures.value)).1))
    (c.remove.ensures.own aggs rows rest z same, let e = c.count.ensures in let z = c.if-count-gt0.true in omega (arith, e, z))

pub returns-clause-others : goal.returns-clause-others
returns-clause-others c = λ q e. elim c.match-get_mut.branch [
  | in-Some+in_ok-touch_at+else-count-gt0 w ↦
      other_totals _ _ c.args.key.now c.swap_remove.ensures.updates.3 q e ∙ ap (λ m. totals_of m q) w.totals-is ∙ other_totals _ _ c.args.key.now ((c.get_mut.follows.holds w.remove.new.self).3 (is_there w.in-Some.ensures.value)).3 q e
  | in_default w ↦
      let r = c.requires.there in
      absurd (nothing_taken r.0 r.1 r.2 c.args.cells.now (subst (λ o. IsTotalOf o r.0 r.1) (stands c.args.totals.now c.args.key.now _ w.in_default.ensures.value) r.3) r.4)
]

pub returns-clause-own : goal.returns-clause-own
returns-clause-own c = λ aggs rows rest h same. elim c.match-get_mut.branch [
  | in-Some+in_ok-touch_at+else-count-gt0 w ↦
      subst (λ o. IsTotalOf o aggs rest) (sym (own_totals _ c.args.key.now c.swap_remove.ensures.updates.1))
      (all_taken w.in-Some.there.now w.remove.new.self aggs rows rest (subst (λ o. IsTotalOf o aggs rows) (stands c.args.totals.now c.args.key.now _ w.in-Some.ensures.value) h)
      (λ k. w.remove.ensures.own aggs rows rest (totals_kept w.in-Some.there.now w.touch_at.new.self aggs rows w.in_ok-touch_at.ensures.count (ap (λ v. v.items) w.in_ok-touch_at.ensures.states) k) same) (let e = w.count.ensures in let z = w.if-count-gt0.false in omega (arith, e, z)))
  | in_default w ↦
      absurd (nothing_taken aggs rows rest c.args.cells.now (subst (λ o. IsTotalOf o aggs rows) (stands c.args.totals.now c.args.key.now _ w.in_default.ensures.value) h) same)
]

pub returns-clause-touched : goal.returns-clause-touched
returns-clause-touched c = λ q. elim c.match-get_mut.branch [
  | in-Some+in_ok-touch_at+else-count-gt0 w ↦ ap (λ t. list_any (same_cells q) t.items) w.touched-is ∙ w.in_ok-touch_at.ensures.touched q
  | in_default w ↦
      let r = c.requires.there in
      absurd (nothing_taken r.0 r.1 r.2 c.args.cells.now (subst (λ o. IsTotalOf o r.0 r.1) (stands c.args.totals.now c.args.key.now _ w.in_default.ensures.value) r.3) r.4)
]
