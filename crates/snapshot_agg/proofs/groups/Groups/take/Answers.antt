use Rattle.std.specs.Prelude.{◌≡◌, ◌+◌, ℕ, ◌∷◌, ◌||◌}
use Rattle.std.specs.List.{list_any}
use Rattle.std.proofs.Common.{subst, sym, ◌∙◌, ap, arith}
use Rattle.tw_rows.specs.Bag.{SameBag, total}
use Rattle.tw_rows.specs.SameCells.{same_cells}
use Rattle.tw_rows.specs.declared.edge.HeldRow.{HeldRow}
use Rattle.edge_history.specs.Order.{many}
use Rattle.edge_history.specs.Opens.{is_held}
use Rattle.synopsis.specs.Held.{key_of}
use Rattle.snapshot_agg.specs.Words.{key_data}
use Rattle.snapshot_agg.proofs.Totaling.{of_key, own_key, totaled_taken, totaled_same}
use Rattle.snapshot_agg.specs.Totaled.{totals_of}
use Rattle.snapshot_agg.proofs.Touching.{all_told, still_told}
use Rattle.snapshot_agg.proofs.groups.Groups.take.Goals as goal

pub take_from-requires : goal.take_from-requires
take_from-requires c =
    let g = c.args.self.now in
    let rows2 = c.take.new.self.rows.held in
    let cells = c.args.cells.now in
    let k = c.values-key.result.now in
    let is : k ≡ key_data g.key.items cells =
    c.values-key.ensures ∙ c.write.ensures.values ∙ ap (λ l. key_of l c.items.result.now) c.requires.counted.room ∙ ap (key_of g.key.items) c.items.ensures in
    let more : (w : HeldRow → ℕ) → total w g.rows.rows.held ≡ total w rows2 + w (record { cells = cells; start = c.args.start }) =
    λ w. c.in_ok-taken.ensures.taken c.if-taken.true w ∙ ap (λ l. total w rows2 + w (record { cells = l; start = c.args.start })) c.items-2.ensures in
    record {
      there = (
        g.aggs.items,
        of_key g.key.items k g.rows.rows.held,
        of_key g.key.items k rows2,
        c.requires.counted.totals.of_key k,
        subst (λ l. SameBag (of_key g.key.items k g.rows.rows.held) (l ∷ of_key g.key.items k rows2)) (sym c.items-then-taken.ensures)
            (own_key g.key.items rows2 g.rows.rows.held cells c.args.start more k is),
      );
      tells = c.requires.counted.touched k;
    }

pub returns-then-taken-clause-counted : goal.returns-then-taken-clause-counted
returns-then-taken-clause-counted c =
    let g = c.args.self.now in
    let rows2 = c.take.new.self.rows.held in
    let cells = c.args.cells.now in
    let k = c.values-key.result.now in
    let is : k ≡ key_data g.key.items cells =
    c.values-key.ensures ∙ c.write.ensures.values ∙ ap (λ l. key_of l c.items.result.now) c.requires.counted.room ∙ ap (key_of g.key.items) c.items.ensures in
    let more : (w : HeldRow → ℕ) → total w g.rows.rows.held ≡ total w rows2 + w (record { cells = cells; start = c.args.start }) =
    λ w. c.in_ok-taken.ensures.taken c.if-taken.true w ∙ ap (λ l. total w rows2 + w (record { cells = l; start = c.args.start })) c.items-2.ensures in
    record {
      room = c.write.ensures.columns ∙ c.requires.counted.room;
      touched = all_told g.totals c.take_from.new.totals g.instant g.touched.items c.take_from.new.touched.items k c.in_ok-take_from.ensures.others c.in_ok-take_from.ensures.touched
          c.in_ok-take_from.ensures.tells c.requires.counted.touched;
      totals =
          totaled_taken g.key.items rows2 g.rows.rows.held cells c.args.start more g.aggs.items g.totals c.take_from.new.totals k is c.requires.counted.totals c.in_ok-take_from.ensures.others
          (λ rs rest h same. c.in_ok-take_from.ensures.own g.aggs.items rs rest h (subst (λ l. SameBag rs (l ∷ rest)) (sym c.items-then-taken.ensures) same));
    }

pub returns-then-taken-clause-taken : goal.returns-then-taken-clause-taken
returns-then-taken-clause-taken c = λ some w.
    c.in_ok-taken.ensures.taken c.if-taken.true w ∙ ap (λ l. total w c.take.new.self.rows.held + w (record { cells = l; start = c.args.start })) c.items-2.ensures

pub returns-then-taken-clause-fewer : goal.returns-then-taken-clause-fewer
returns-then-taken-clause-fewer c = λ w. let z = c.in_ok-taken.ensures.taken c.if-taken.true w in omega (arith, z)

pub returns-then-taken-clause-touched : goal.returns-then-taken-clause-touched
returns-then-taken-clause-touched c = λ q.
    let g = c.args.self.now in
    let cells = c.args.cells.now in
    let k = c.values-key.result.now in
    let is : k ≡ key_data g.key.items cells =
    c.values-key.ensures ∙ c.write.ensures.values ∙ ap (λ l. key_of l c.items.result.now) c.requires.counted.room ∙ ap (key_of g.key.items) c.items.ensures in
    c.in_ok-take_from.ensures.touched q ∙ ap (λ l. list_any (same_cells q) g.touched.items || same_cells q l) is

pub returns-clause-counted : goal.returns-clause-counted
returns-clause-counted c =
    let g = c.args.self.now in
    record {
      room = c.write.ensures.columns ∙ c.requires.counted.room;
      touched = λ q. still_told (totals_of g.totals q) g.instant g.touched.items c.touch.new.touched.items c.values-key.result.now q c.in_ok-touch.ensures (c.requires.counted.touched q);
      totals = totaled_same g.key.items g.aggs.items g.rows.rows.held c.take.new.self.rows.held g.totals (c.in_ok-taken.ensures.same c.if-taken.false) c.requires.counted.totals;
    }

pub returns-clause-taken : goal.returns-clause-taken
returns-clause-taken c = λ some.
    let g = c.args.self.now in
    let none = c.in_ok-taken.ensures.none c.if-taken.false in
    let same = ap (λ l. many (is_held l c.args.start) g.rows.rows.held) c.items-2.ensures in
    absurd (omega (arith, some, none, same))

pub returns-clause-fewer : goal.returns-clause-fewer
returns-clause-fewer c = λ w. let z = (c.in_ok-taken.ensures.same c.if-taken.false).weigh w in omega (arith, z)

pub returns-clause-touched : goal.returns-clause-touched
returns-clause-touched c = λ q.
    let g = c.args.self.now in
    let cells = c.args.cells.now in
    let k = c.values-key.result.now in
    let is : k ≡ key_data g.key.items cells =
    c.values-key.ensures ∙ c.write.ensures.values ∙ ap (λ l. key_of l c.items.result.now) c.requires.counted.room ∙ ap (key_of g.key.items) c.items.ensures in
    c.in_ok-touch.ensures q ∙ ap (λ l. list_any (same_cells q) g.touched.items || same_cells q l) is
