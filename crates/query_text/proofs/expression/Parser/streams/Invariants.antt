use Rattle.std.proofs.Common.{◌≤◌, ◌∷◌, map, length}
use Rattle.query_text.specs.declared.word.Sign.TheVariants as S
use Rattle.query_text.specs.Token.{fixed}
use Rattle.query_text.specs.Reading as R
use Rattle.query_text.specs.Reading.{Lacks}
use Rattle.query_text.specs.Grammar as G
use Rattle.query_text.specs.Spelling as M
use Rattle.query_text.specs.Reading.{Listing}
use Rattle.query_text.proofs.expression.Parser.streams.Given as goal

abbrev pub invariant-more : goal.invariant-more
invariant-more l = record {
  listing : Listing R.stream_list_then (Lacks (fixed S.Stream)) (λ p. M.stream_of p.0 ∷ map M.stream_of p.1) G.streams_then (map M.stream_of) l.fn.self.cursor l.self.cursor l.items.items;
  fewer : length l.self.cursor ≤ length l.fn.self.cursor;
}

abbrev pub decreases-more : goal.decreases-more
decreases-more l = length l.self.cursor
