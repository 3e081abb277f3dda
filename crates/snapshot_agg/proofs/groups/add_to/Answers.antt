use Rattle.std.specs.Prelude.{◌≡◌, None, [], ◌∷◌}
use Rattle.std.proofs.Common.{subst, sym, ◌∙◌, ap}
use Rattle.tw_rows.specs.SameCells.{same_cells}
use Rattle.snapshot_agg.specs.Totaled.{AreTotalsOf, IsTotalOf, TellTouched, totals_of}
use Rattle.snapshot_agg.proofs.Keyed.{stands, is_there, own_totals, other_totals}
use Rattle.snapshot_agg.proofs.Totaling.{some_rows_of, totals_kept}
use Rattle.snapshot_agg.proofs.Touching.{now_told}
use Rattle.snapshot_agg.proofs.groups.add_to.Goals as goal

pub touch_at-requires : goal.touch_at-requires
touch_at-requires c =
    subst (λ o. TellTouched o c.args.instant c.args.touched.now.items c.args.key.now) (stands c.args.totals.now c.args.key.now _ c.in-Some.ensures.value) c.requires.tells

pub add-requires : goal.add-requires
add-requires c =
    let r = c.requires.few in
    let aggs = c.args.aggs.now in
    let t = c.touch_at.new.self in
    let e = c.in_ok-touch_at.ensures in (
      aggs,
      r.0,
      totals_kept c.in-Some.there.now t aggs r.0 e.count (ap (λ v. v.items) e.states) (subst (λ o. IsTotalOf o aggs r.0) (stands c.args.totals.now c.args.key.now _ c.in-Some.ensures.value) r.1).0,
      r.2,
    )

pub returns-in-Some-clause-tells : goal.returns-in-Some-clause-tells
returns-in-Some-clause-tells c =
    let ks2 = c.touch_at.new.touched.items in
    subst (λ o. TellTouched o c.args.instant ks2 c.args.key.now) (sym (own_totals _ c.args.key.now ((c.get_mut.follows.holds c.add.new.self).3 (is_there c.in-Some.ensures.value)).1))
    (now_told c.add.new.self c.args.instant c.args.touched.now.items ks2 c.args.key.now (c.in_ok-add.ensures.instant ∙ c.in_ok-touch_at.ensures.instant) c.in_ok-touch_at.ensures.touched)

pub returns-clause-tells : goal.returns-clause-tells
returns-clause-tells c =
    let ks2 = c.touch.new.touched.items in
    let t = c.add-2.new.self in
    subst (λ o. TellTouched o c.args.instant ks2 c.args.key.now) (sym (ap (totals_of c.insert.new.self) (sym c.in_ok-owned.ensures.items) ∙ own_totals _ c.in_ok-owned.owned.items c.in_ok-insert.ensures.updates.1))
    (now_told t c.args.instant c.args.touched.now.items ks2 c.args.key.now (c.in_ok-add-2.ensures.instant ∙ c.in_ok-new.ensures.instant) c.in_ok-touch.ensures)

pub returns-in-Some-clause-others : goal.returns-in-Some-clause-others
returns-in-Some-clause-others c = λ q e. other_totals _ _ c.args.key.now ((c.get_mut.follows.holds c.add.new.self).3 (is_there c.in-Some.ensures.value)).3 q e

pub returns-in-Some-clause-own : goal.returns-in-Some-clause-own
returns-in-Some-clause-own c = λ rows h.
    let aggs = c.args.aggs.now in
    let e = c.in_ok-touch_at.ensures in
    let z = totals_kept c.in-Some.there.now c.touch_at.new.self aggs rows e.count (ap (λ v. v.items) e.states)
    (subst (λ o. IsTotalOf o aggs rows) (stands c.args.totals.now c.args.key.now _ c.in-Some.ensures.value) h).0 in
    subst (λ o. IsTotalOf o aggs (c.args.cells.now ∷ rows)) (sym (own_totals _ c.args.key.now ((c.get_mut.follows.holds c.add.new.self).3 (is_there c.in-Some.ensures.value)).1))
    (some_rows_of c.add.new.self aggs c.args.cells.now rows (c.in_ok-add.ensures.own aggs rows z))

pub returns-clause-others : goal.returns-clause-others
returns-clause-others c = λ q e.
    let k = c.in_ok-owned.ensures.items in
    other_totals _ _ c.in_ok-owned.owned.items c.in_ok-insert.ensures.updates.3 q (ap (λ l. same_cells l q) k ∙ e) ∙ ap (λ m. totals_of m q) c.get_mut.follows.holds-at-none

pub returns-clause-own : goal.returns-clause-own
returns-clause-own c = λ rows h.
    let aggs = c.args.aggs.now in
    let cells = c.args.cells.now in
    let none : rows ≡ [] = subst (λ o. IsTotalOf o aggs rows) (stands c.args.totals.now c.args.key.now None c.in_default.ensures.value) h in
    let t = c.add-2.new.self in
    subst (λ o. IsTotalOf o aggs (cells ∷ rows)) (sym (ap (totals_of c.insert.new.self) (sym c.in_ok-owned.ensures.items) ∙ own_totals _ c.in_ok-owned.owned.items c.in_ok-insert.ensures.updates.1))
    (some_rows_of t aggs cells rows (c.in_ok-add-2.ensures.own aggs rows (subst (λ l. AreTotalsOf c.in_ok-new.new aggs l) (sym none) c.in_ok-new.ensures.none)))
