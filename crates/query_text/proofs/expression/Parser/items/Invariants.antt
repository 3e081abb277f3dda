use Rattle.std.proofs.Common.{◌≡◌, ◌≤◌, ◌∷◌, true, map, length}
use Rattle.query_text.specs.Reading as R
use Rattle.query_text.specs.Reading.{Lacks}
use Rattle.query_text.specs.Grammar as G
use Rattle.query_text.specs.Spelling as M
use Rattle.query_text.specs.Reading.{Listing}
use Rattle.query_text.proofs.expression.Parser.items.Given as goal

abbrev pub invariant-more : goal.invariant-more
invariant-more l = record {
  listing : Listing R.select_then (λ z. R.ends_step z ≡ true) (λ p. M.item_of p.0 ∷ map M.item_of p.1) G.items_then (map M.item_of) l.fn.self.cursor l.self.cursor l.items.items;
  fewer : length l.self.cursor ≤ length l.fn.self.cursor;
}

abbrev pub decreases-more : goal.decreases-more
decreases-more l = length l.self.cursor
