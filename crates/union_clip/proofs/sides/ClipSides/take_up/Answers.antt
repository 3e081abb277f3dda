use Rattle.edge_stream.specs.Entries.{part_of}
use Rattle.sweep_sides.proofs.KeptSides.{side_loaded, waiting_loaded}
use Rattle.sweep_sides.proofs.Starting.{starts_loaded}
use Rattle.union_clip.proofs.sides.ClipSides.take_up.Goals as goal

pub returns-clause-sides : goal.returns-clause-sides
returns-clause-sides c = λ lc rc to sound.
    let entries = c.args.saved.now in
    let left = c.in_ok-left_waiting.ensures in
    let right = c.in_ok-right_waiting.ensures in
    record {
      left = side_loaded lc to c.in_ok-left.left.rows c.in_ok-left_waiting.left_waiting (part_of 0 entries) (part_of 1 entries) c.in_ok-left.ensures.rows left.edges left.timed sound.left sound.left_waiting;
      right = waiting_loaded rc to c.in_ok-right_waiting.right_waiting (part_of 2 entries) right.edges right.timed sound.right_waiting;
      right_starts = starts_loaded c.in_ok-right_waiting.right_waiting (part_of 2 entries) right.edges sound.right_starts;
    }
