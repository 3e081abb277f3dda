use Rattle.std.specs.Prelude.{◌≡◌, ◌∷◌, ◌||◌}
use Rattle.std.specs.List.{list_any}
use Rattle.std.proofs.Common.{subst, sym, ◌∙◌, ap, arith}
use Rattle.tw_rows.specs.SameCells.{same_cells}
use Rattle.snapshot_agg.specs.Words.{key_data}
use Rattle.synopsis.specs.Held.{key_of}
use Rattle.snapshot_agg.specs.Totaled.{IsTotalOf, totals_of}
use Rattle.snapshot_agg.proofs.Totaling.{of_key, totaled_added, few_of_key}
use Rattle.snapshot_agg.proofs.Touching.{all_told}
use Rattle.snapshot_agg.proofs.groups.Groups.keep.Goals as goal

pub add_to-requires : goal.add_to-requires
add_to-requires c =
    let g = c.args.self.now in
    let k = c.values.result.now in
    record {
      few = (
        of_key g.key.items k g.rows.rows.held,
        subst (λ b. IsTotalOf (totals_of g.totals k) b (of_key g.key.items k g.rows.rows.held)) (sym c.deref.ensures.value) (c.requires.counted.totals.of_key k),
        let f = few_of_key g.key.items k g.rows.rows.held in let e = c.len.ensures in let z = c.if-len.false in omega (arith, f, e, z),
      );
      tells = c.requires.counted.touched k;
    }

pub returns-clause-touched : goal.returns-clause-touched
returns-clause-touched c = λ q.
    let g = c.args.self.now in
    let cells = c.args.end.cells in
    let k = c.values.result.now in
    let is : k ≡ key_data g.key.items cells =
    c.values.ensures ∙ c.write.ensures.values ∙ ap (λ l. key_of l c.items.result.now) c.requires.counted.room ∙ ap (key_of g.key.items) c.items.ensures in
    c.in_ok-add_to.ensures.touched q ∙ ap (λ l. list_any (same_cells q) g.touched.items || same_cells q l) is

pub returns-clause-counted : goal.returns-clause-counted
returns-clause-counted c =
    let g = c.args.self.now in
    let rows2 = c.keep.new.self.rows.held in
    let cells = c.args.end.cells in
    let k = c.values.result.now in
    let b = c.deref.result.now in
    let is : k ≡ key_data g.key.items cells =
    c.values.ensures ∙ c.write.ensures.values ∙ ap (λ l. key_of l c.items.result.now) c.requires.counted.room ∙ ap (key_of g.key.items) c.items.ensures in
    record {
      room = c.write.ensures.columns ∙ c.requires.counted.room;
      touched = all_told g.totals c.add_to.new.totals g.instant g.touched.items c.add_to.new.touched.items k c.in_ok-add_to.ensures.others c.in_ok-add_to.ensures.touched c.in_ok-add_to.ensures.tells
          c.requires.counted.touched;
      totals =
          totaled_added g.key.items g.rows.rows.held rows2 cells c.args.end.other c.in_ok-keep.ensures.held g.aggs.items g.totals c.add_to.new.totals k is c.requires.counted.totals c.in_ok-add_to.ensures.others
          (λ rs h. let z = c.in_ok-add_to.ensures.own rs (subst (λ x. IsTotalOf (totals_of g.totals k) x rs) (sym c.deref.ensures.value) h) in
          subst (λ x. IsTotalOf (totals_of c.add_to.new.totals k) x (cells ∷ rs)) c.deref.ensures.value
          (subst (λ l. IsTotalOf (totals_of c.add_to.new.totals k) b (l ∷ rs)) c.items-2.ensures z));
    }
