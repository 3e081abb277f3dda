use Rattle.std.proofs.Common.{◌≡◌, ◌∙◌, [], true, false, sym, ap, ap₂, arith, below_more}
use Rattle.std.specs.Ordering.{nat_cmp}
use Rattle.std.specs.Cmp.Lexicographic.{slice_cmp}
use Rattle.occupancy.specs.Bits.{test}
use Rattle.occupancy.proofs.Places.{test-zero}
use Rattle.plan_model.specs.Expr.{is_met}
use Rattle.lane_expr.proofs.Operands.{item_is}
use Rattle.lane_expr.proofs.compare.order_texts.Goals as goal
use Rattle.lane_expr.proofs.compare.order_texts.Goals.{then-is_marked, else-is_marked}

pub loop-j-init : goal.loop-j-init
loop-j-init c = record { set = λ i lt. absurd (omega arith); rest = λ i ge lt. test-zero i }

pub loop-j-preserved : goal.loop-j-preserved
loop-j-preserved c =
    let i = c.loop-j.invariant in
    elim c.if-is_marked.branch [
      | then-is_marked w ↦
          let same = w.with_mark-word.ensures.same in
          let others = w.with_mark-word.ensures.others in
          record {
            set = below_more _ _ (λ k lt on. ap (λ x. test x k) w.word-is ∙ others k (omega (arith, c.loop-j-test.true)) (λ e. omega arith) ∙ i.set k lt on)
                (λ on. ap (λ x. test x c.loop-j.j) w.word-is ∙ same ∙ w.is_true_of.ensures ∙ ap (is_met c.args.op) (w.cmp-order.ensures ∙ ap₂ (slice_cmp nat_cmp) (sym (item_is c.args.texts.now _ w.text.result.now [] w.text.ensures)) (sym (item_is c.args.texts.now _ w.text-then-is_marked.result.now [] w.text-then-is_marked.ensures))));
            rest = λ k ge lt. ap (λ x. test x k) w.word-is ∙ others k lt (λ e. omega arith) ∙ i.rest k (omega arith) lt;
          }
      | else-is_marked w ↦ record {
        set = below_more _ _ (λ k lt on. ap (λ x. test x k) w.word-is ∙ i.set k lt on)
            (λ on. let no : true ≡ false = sym on ∙ sym c.is_marked.ensures ∙ w.if-is_marked.false in absurd (cc));
        rest = λ k ge lt. ap (λ x. test x k) w.word-is ∙ i.rest k (omega arith) lt;
      }
    ]
