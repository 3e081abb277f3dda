-- The loop invariants and measures of ranked::Ranked::settle.
use Rattle.std.specs.Prelude.{length}
use Rattle.outer_top.specs.Ranks.{AreFew}
use Rattle.outer_top.proofs.Settling.{Moved}
use Rattle.outer_top.proofs.ranked.Ranked.settle.Given as goal

abbrev pub invariant-hide : goal.invariant-hide
invariant-hide l = Moved l.initial.self.shown.entries l.initial.self.hidden.entries l.self.shown.entries l.self.hidden.entries l.initial.lost.items l.initial.won.items l.lost.items l.initial.won.items

abbrev pub decreases-hide : goal.decreases-hide
decreases-hide l = length l.self.shown.entries

abbrev pub invariant-show : goal.invariant-show
invariant-show l = Moved l.fn.self.shown.entries l.fn.self.hidden.entries l.self.shown.entries l.self.hidden.entries l.fn.lost.items l.fn.won.items l.lost.items l.won.items × AreFew l.most l.self.shown.entries

abbrev pub decreases-show : goal.decreases-show
decreases-show l = length l.self.hidden.entries
