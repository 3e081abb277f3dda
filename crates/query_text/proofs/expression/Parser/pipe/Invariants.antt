use Rattle.std.proofs.Common.{◌≡◌, ◌≤◌, true, map, length}
use Rattle.query_text.specs.Grammar as G
use Rattle.query_text.specs.Spelling as M
use Rattle.query_text.specs.Reading.{ends_pipe, Listing}
use Rattle.query_text.proofs.expression.Parser.pipe.Given as goal

abbrev pub invariant-more : goal.invariant-more
invariant-more l = record {
  listing : Listing G.pipe_then (λ z. ends_pipe z ≡ true) (λ p. map M.step_of p.steps) G.steps_then (map M.step_of) l.fn.self.cursor l.self.cursor l.items.items;
  fewer : length l.self.cursor ≤ length l.fn.self.cursor;
}

abbrev pub decreases-more : goal.decreases-more
decreases-more l = length l.self.cursor
