-- The edges are apart exactly where those from this one on are.
use Rattle.std.specs.Prelude.{◌↔◌, drop}
use Rattle.synopsis.specs.Holding.{AreApart}
use Rattle.synopsis.proofs.edges.are_apart.Given as goal

abbrev pub invariant-loop-i : goal.invariant-loop-i
invariant-loop-i l = AreApart (drop l.i l.edges) ↔ AreApart l.edges
