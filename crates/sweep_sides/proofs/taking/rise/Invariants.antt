use Rattle.std.proofs.Common.{drop}
use Rattle.sweep_laws.specs.Sweeps.{SyncsRise}
use Rattle.sweep_sides.proofs.taking.rise.Given as goal

abbrev pub invariant-loop-edge : goal.invariant-loop-edge
invariant-loop-edge l = SyncsRise l.last (drop l.edge-index l.edges) → SyncsRise 0 l.edges
