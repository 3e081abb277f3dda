use Rattle.std.specs.Prelude.{not}
use Rattle.std.proofs.Common.{◌∙◌, ap}
use Rattle.std.specs.Ordering.{is_lt}
use Rattle.tw_rows.specs.Rows.{value_cmp}
use Rattle.plan_model.proofs.Comparing.{is_eq-value_cmp, is_ne-value_cmp, is_gt-turned, is_le-not, is_lt-text, IsTrue-not}
use Rattle.plan_model.proofs.arith_laws.comparisons_agree.Goals as goal

pub returns-clause-equal : goal.returns-clause-equal
returns-clause-equal c = λ row at left right. is_eq-value_cmp (at left) (at right)

pub returns-clause-not_equal : goal.returns-clause-not_equal
returns-clause-not_equal c = λ row at left right. is_ne-value_cmp (at left) (at right)

pub returns-clause-less_text : goal.returns-clause-less_text
returns-clause-less_text c = λ row at left right s t l r. rw (l, r) (is_lt-text s t)

pub returns-clause-greater : goal.returns-clause-greater
returns-clause-greater c = λ row at left right. rw (is_gt-turned (at left) (at right)) (λ e. e, λ e. e)

pub returns-clause-at_most : goal.returns-clause-at_most
returns-clause-at_most c = λ row at left right. rw (is_le-not (value_cmp (at left) (at right)) ∙ ap not (is_gt-turned (at left) (at right))) (IsTrue-not (is_lt (value_cmp (at right) (at left))))
