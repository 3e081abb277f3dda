use Rattle.std.proofs.Common.{◌+◌, ◌∙◌, arith, false, below_more}
use Rattle.std.proofs.lemmas.List.{get_or_read}
use Rattle.occupancy.proofs.Places.{test-zero}
use Rattle.lane_expr.proofs.words.word_of.Goals as goal

pub loop-j-preserved : goal.loop-j-preserved
loop-j-preserved c =
    let i = c.loop-j.invariant in
    let j = c.loop-j.j in
    record {
      set = below_more _ _ (λ k lt. c.with_mark-word.ensures.others k (omega (arith, c.requires.few)) (λ e. omega arith) ∙ i.set k lt)
          (c.with_mark-word.ensures.same ∙ c.is_set.ensures ∙ get_or_read c.args.bits.now (c.args.first + j) c.index-bits-first.result (omega (arith, c.requires.within)) c.index-bits-first.is false);
      rest = λ k ge lt. c.with_mark-word.ensures.others k lt (λ e. omega arith) ∙ i.rest k (omega arith) lt;
    }

pub with_mark-word-requires-clause-clear : goal.with_mark-word-requires-clause-clear
with_mark-word-requires-clause-clear c = c.loop-j.invariant.rest c.loop-j.j (omega arith) (omega (arith, c.requires.few))

pub loop-j-init : goal.loop-j-init
loop-j-init c = record { set = λ i lt. absurd (omega arith); rest = λ i ge lt. test-zero i }
