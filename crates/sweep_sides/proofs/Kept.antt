-- What the operator of any sweep keeps: before the first step, in longer tables, and what it stands for.
use Rattle.std.specs.Prelude.{◌≡◌, ℕ, false, List, []}
use Rattle.tw_rows.specs.Texts.{BeginsWith}
use Rattle.tw_rows.specs.declared.edge.Edge.{Edge}
use Rattle.edge_history.specs.Balance.{Told}
use Rattle.plan_model.specs.Meaning.{node_closes}
use Rattle.plan_laws.specs.Places.{AreDistinct}
use Rattle.plan_laws.specs.Readings.{has_expressions}
use Rattle.edge_stream.specs.Standing.{StandsFor}
use Rattle.sweep_sides.specs.declared.sweep.Sweep.{Ghosts}
use Rattle.sweep_sides.specs.declared.swept.Swept.{Swept}
use Rattle.sweep_sides.specs.Operating.{standing, left_cells, right_cells, IsNew, IsKept}
use Rattle.sweep_sides.specs.Sweeping.{told_events}
use Rattle.sweep_sides.proofs.Stepped.{none_kept, come_longer, swept_stands}

pub kept_first : {S : Type 0} {g : Ghosts S} (o : Swept S g) (texts : List (List ℕ)) → IsNew o → g.keeps o.sweep (node_closes (g.node o.sweep) 0 0) [] [] [] → IsKept o texts [] [] []
kept_first {g = g} o texts new k = none_kept (g.node o.sweep) (left_cells o) (right_cells o) (g.keeps o.sweep) texts o.left_to o.right_to new.1.left new.1.right k

pub kept_longer : {S : Type 0} {g : Ghosts S} (o : Swept S g) (new old : List (List ℕ)) (hl hr out : List Edge) → BeginsWith new old → IsKept o old hl hr out → IsKept o new hl hr out
kept_longer {g = g} o new old hl hr out b k = record {
  came = come_longer (g.node o.sweep) (left_cells o) (right_cells o) o.left_to o.right_to new old hl hr b k.came;
  kept = k.kept;
}

pub kept_stands : {S : Type 0} {g : Ghosts S} (o : Swept S g) (texts : List (List ℕ)) (hl hr out : List Edge) → has_expressions (g.node o.sweep) ≡ false → AreDistinct texts →
    Told (node_closes (g.node o.sweep) o.left_to o.right_to) out (told_events (g.node o.sweep) hl hr) → IsKept o texts hl hr out → StandsFor (standing o) texts hl hr out
kept_stands {g = g} o texts hl hr out plain apart told k =
    swept_stands (g.node o.sweep) (left_cells o) (right_cells o) o.left_to o.right_to texts hl hr out plain apart k.came told
