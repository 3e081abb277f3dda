use Rattle.std.specs.Prelude.{◌≡◌, ◌+◌, ℕ, ◌∷◌}
use Rattle.std.proofs.Common.{subst, sym, ◌∙◌, ap}
use Rattle.tw_rows.specs.Bag.{SameBag, total}
use Rattle.tw_rows.specs.declared.edge.HeldRow.{HeldRow}
use Rattle.synopsis.specs.Held.{key_of}
use Rattle.snapshot_agg.specs.Words.{key_data}
use Rattle.snapshot_agg.proofs.Totaling.{of_key, own_key, totaled_taken}
use Rattle.snapshot_agg.proofs.Touching.{all_told}
use Rattle.snapshot_agg.proofs.groups.Groups.end_first.Goals as goal

pub take_from-requires : goal.take_from-requires
take_from-requires c =
    let g = c.args.self.now in
    let rows2 = c.end_first.new.self.rows.held in
    let e = c.in-Some.end in
    let cells = e.cells in
    let k = c.values-key.result.now in
    let is : k ≡ key_data g.key.items cells =
    c.values-key.ensures ∙ c.write.ensures.values ∙ ap (λ l. key_of l c.items.result.now) c.requires.counted.room ∙ ap (key_of g.key.items) c.items.ensures in
    let more : (w : HeldRow → ℕ) → total w g.rows.rows.held ≡ total w rows2 + w (record { cells = cells; start = e.other }) =
    c.in-Some.ensures.held in
    record {
      there = (
        g.aggs.items,
        of_key g.key.items k g.rows.rows.held,
        of_key g.key.items k rows2,
        c.requires.counted.totals.of_key k,
        subst (λ l. SameBag (of_key g.key.items k g.rows.rows.held) (l ∷ of_key g.key.items k rows2)) (sym c.items-2.ensures)
            (own_key g.key.items rows2 g.rows.rows.held cells e.other more k is),
      );
      tells = c.requires.counted.touched k;
    }

pub returns-clause-counted : goal.returns-clause-counted
returns-clause-counted c =
    let g = c.args.self.now in
    let rows2 = c.end_first.new.self.rows.held in
    let e = c.in-Some.end in
    let cells = e.cells in
    let k = c.values-key.result.now in
    let is : k ≡ key_data g.key.items cells =
    c.values-key.ensures ∙ c.write.ensures.values ∙ ap (λ l. key_of l c.items.result.now) c.requires.counted.room ∙ ap (key_of g.key.items) c.items.ensures in
    let more : (w : HeldRow → ℕ) → total w g.rows.rows.held ≡ total w rows2 + w (record { cells = cells; start = e.other }) =
    c.in-Some.ensures.held in
    record {
      room = c.write.ensures.columns ∙ c.requires.counted.room;
      touched = all_told g.totals c.take_from.new.totals g.instant g.touched.items c.take_from.new.touched.items k c.in_ok-take_from.ensures.others c.in_ok-take_from.ensures.touched
          c.in_ok-take_from.ensures.tells c.requires.counted.touched;
      totals =
          totaled_taken g.key.items rows2 g.rows.rows.held cells e.other more g.aggs.items g.totals c.take_from.new.totals k is c.requires.counted.totals c.in_ok-take_from.ensures.others
          (λ rs rest h same. c.in_ok-take_from.ensures.own g.aggs.items rs rest h (subst (λ l. SameBag rs (l ∷ rest)) (sym c.items-2.ensures) same));
    }
