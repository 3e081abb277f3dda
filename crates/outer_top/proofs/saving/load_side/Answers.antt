use Rattle.std.proofs.Common.{◌≡◌, ◌∙◌, subst, true}
use Rattle.tw_rows.specs.Bag.{SameBag}
use Rattle.edge_stream.specs.Entries.{part_of}
use Rattle.edge_stream.proofs.CarriedParts.{none_fails}
use Rattle.synopsis.proofs.OpenRows.{same_rows}
use Rattle.sweep_laws.specs.Saving.{rows_of, is_row_start, are_row_starts}
use Rattle.sweep_laws.proofs.Stored.{rows_started}
use Rattle.sweep_sides.proofs.KeptSides.{side_loaded}
use Rattle.outer_top.specs.TopKeys.{kept_rows}
use Rattle.outer_top.proofs.saving.load_side.Goals as goal

pub returns-clause-side : goal.returns-clause-side
returns-clause-side c = λ kinds to low sound.
    let rows = kept_rows c.in_ok-tops_of.field-0.keys.entries in
    let starts = part_of 0 c.args.saved.now in
    let waits = c.in_ok-load_waiting.ensures in
    let same = subst (λ l. are_row_starts kinds to l ≡ true → SameBag rows (rows_of l)) (c.as_slice.ensures.value ∙ c.in_ok-starts.ensures) (c.in_ok-tops_of.ensures.rows kinds to low) sound.rows in
    side_loaded kinds to rows c.in_ok-load_waiting.field-0 starts (part_of 1 c.args.saved.now) same waits.edges waits.timed sound.rows sound.waiting

pub returns-clause-shown : goal.returns-clause-shown
returns-clause-shown c = λ kinds to sound.
    let shown = part_of 2 c.args.saved.now in
    rows_started kinds to c.in_ok-load.field-0 shown (same_rows c.in_ok-load.field-0 (rows_of shown) c.in_ok-load.ensures) (none_fails (is_row_start kinds to) shown sound.shown)
