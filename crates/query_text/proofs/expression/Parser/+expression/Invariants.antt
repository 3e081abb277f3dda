use Rattle.std.proofs.Common.{◌<◌, ◌≤◌, ◌+◌, ◌*◌, length}
use Rattle.query_text.specs.Grammar.{expr_then, ors_then, conj_then, ands_then, sum_then, terms_then, prod_then, factors_then}
use Rattle.query_text.specs.Machine.{rank}
use Rattle.query_text.specs.Spelling.{expr_onto, ors_onto, conj_onto, ands_onto, sum_onto, terms_onto, prod_onto, factors_onto}
use Rattle.query_text.specs.Reading.{Going}
use Rattle.query_text.proofs.expression.Parser.+expression.Given as goal

abbrev pub decreases-atom : goal.decreases-atom
decreases-atom l = 8 * length l.self.now.cursor

abbrev pub decreases-unary : goal.decreases-unary
decreases-unary l = 8 * length l.self.now.cursor + 1

abbrev pub decreases-factor : goal.decreases-factor
decreases-factor l = 8 * length l.self.now.cursor

abbrev pub decreases-prod : goal.decreases-prod
decreases-prod l = 8 * length l.self.now.cursor + 2

abbrev pub decreases-term : goal.decreases-term
decreases-term l = 8 * length l.self.now.cursor

abbrev pub decreases-sum : goal.decreases-sum
decreases-sum l = 8 * length l.self.now.cursor + 3

abbrev pub decreases-test : goal.decreases-test
decreases-test l = 8 * length l.self.now.cursor

abbrev pub decreases-neg : goal.decreases-neg
decreases-neg l = 8 * length l.self.now.cursor + 4

abbrev pub decreases-and : goal.decreases-and
decreases-and l = 8 * length l.self.now.cursor

abbrev pub decreases-conj : goal.decreases-conj
decreases-conj l = 8 * length l.self.now.cursor + 5

abbrev pub decreases-or : goal.decreases-or
decreases-or l = 8 * length l.self.now.cursor

abbrev pub decreases-expr : goal.decreases-expr
decreases-expr l = 8 * length l.self.now.cursor + 6

abbrev pub invariant-prod-factors : goal.invariant-prod-factors
invariant-prod-factors l = record {
  going : Going prod_then (λ z. rank z < 5) prod_onto factors_then factors_onto l.fn.self.cursor l.self.cursor l.fn.self.nodes l.self.nodes;
  more : length l.fn.self.nodes < length l.self.nodes;
  fewer : length l.self.cursor ≤ length l.fn.self.cursor;
}

abbrev pub decreases-prod-factors : goal.decreases-prod-factors
decreases-prod-factors l = length l.self.cursor

abbrev pub invariant-sum-terms : goal.invariant-sum-terms
invariant-sum-terms l = record {
  going : Going sum_then (λ z. rank z < 4) sum_onto terms_then terms_onto l.fn.self.cursor l.self.cursor l.fn.self.nodes l.self.nodes;
  more : length l.fn.self.nodes < length l.self.nodes;
  fewer : length l.self.cursor ≤ length l.fn.self.cursor;
}

abbrev pub decreases-sum-terms : goal.decreases-sum-terms
decreases-sum-terms l = length l.self.cursor

abbrev pub invariant-conj-ands : goal.invariant-conj-ands
invariant-conj-ands l = record {
  going : Going conj_then (λ z. rank z < 2) conj_onto ands_then ands_onto l.fn.self.cursor l.self.cursor l.fn.self.nodes l.self.nodes;
  more : length l.fn.self.nodes < length l.self.nodes;
  fewer : length l.self.cursor ≤ length l.fn.self.cursor;
}

abbrev pub decreases-conj-ands : goal.decreases-conj-ands
decreases-conj-ands l = length l.self.cursor

abbrev pub invariant-expr-ors : goal.invariant-expr-ors
invariant-expr-ors l = record {
  going : Going expr_then (λ z. rank z < 1) expr_onto ors_then ors_onto l.fn.self.cursor l.self.cursor l.fn.self.nodes l.self.nodes;
  more : length l.fn.self.nodes < length l.self.nodes;
  fewer : length l.self.cursor ≤ length l.fn.self.cursor;
}

abbrev pub decreases-expr-ors : goal.decreases-expr-ors
decreases-expr-ors l = length l.self.cursor
