use Rattle.std.proofs.Common.{◌≡◌, ◌∙◌, sym, subst, List, ℕ}
use Rattle.edge_stream.specs.declared.saved.LoadFault.TheVariants.{NotState}
use Rattle.edge_stream.specs.Entries.{part_of}
use Rattle.edge_stream.proofs.CarriedParts.{none_fails}
use Rattle.sweep_laws.specs.Saving.{is_row_start}
use Rattle.sweep_laws.proofs.Stored.{rows_started}
use Rattle.sweep_sides.proofs.KeptSides.{side_loaded}
use Rattle.anti_join.specs.Times.{HaveOneTime}
use Rattle.anti_join.proofs.Starting.{handed_on}
use Rattle.anti_join.proofs.sides.AntiSides.take_up.Goals as goal

pub returns-clause-sides : goal.returns-clause-sides
returns-clause-sides c = λ lc rc to sound.
    let entries = c.args.saved.now in
    let left = c.in_ok-left_waiting.ensures in
    let right = c.in_ok-right_waiting.ensures in
    record {
      left = side_loaded lc to c.in_ok-left.left.rows c.in_ok-left_waiting.left_waiting (part_of 0 entries) (part_of 2 entries) c.in_ok-left.ensures.rows left.edges left.timed sound.left sound.left_waiting;
      right = side_loaded rc to c.in_ok-right.right.rows c.in_ok-right_waiting.right_waiting (part_of 1 entries) (part_of 3 entries) c.in_ok-right.ensures.rows right.edges right.timed sound.right sound.right_waiting;
      times = rows_started lc to c.in_ok-times.times.rows (part_of 4 entries) c.in_ok-times.ensures.rows (none_fails (is_row_start lc to) (part_of 4 entries) sound.times);
    }

pub returns-clause-by : goal.returns-clause-by
returns-clause-by c = record {
  left = sym (c.in_ok-left.ensures.key ∙ c.columns-left_key.ensures);
  right = sym (c.in_ok-right.ensures.key ∙ c.columns-right_key.ensures);
  times = c.in_ok-times.ensures.key ∙ sym c.in_ok-left.ensures.key;
}

pub returns-clause-single : goal.returns-clause-single
returns-clause-single c = subst (λ (l : List ℕ). HaveOneTime l (part_of 4 c.args.saved.now)) c.columns-left_key.ensures c.in_ok-times.ensures.single

pub returns-in_err-times-clause-refused : goal.returns-in_err-times-clause-refused
returns-in_err-times-clause-refused c =
    handed_on c.in_err-times.field-0.0 c.from_residual.result
    (λ fault. fault ≡ NotState → HaveOneTime c.args.self.now.rows.left_key.columns (part_of 4 c.args.saved.now) → ⊥)
    c.from_residual.ensures.1 (λ f one. c.in_err-times.ensures.refused f (subst (λ (l : List ℕ). HaveOneTime l (part_of 4 c.args.saved.now)) (sym c.columns-left_key.ensures) one))
