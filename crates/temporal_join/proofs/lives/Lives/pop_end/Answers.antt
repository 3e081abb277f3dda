use Rattle.std.proofs.Common.{◌≡◌, ◌∙◌, ◌<◌, length, not, sym, ap, subst, arith}
use Rattle.std.proofs.Common.{rules}
use Rattle.std.proofs.lemmas.Grind.{common_steps}
use Rattle.tw_rows.specs.Bag.{total}
use Rattle.edge_history.specs.Order.{failing}
use Rattle.temporal_join.specs.Lives.{LivesView, is_marked, lasts, ends_at, ends_from}
use Rattle.temporal_join.proofs.Living.{lives_fewer, taken_weighs, none_early, passes_at}
use Rattle.temporal_join.proofs.lives.Lives.pop_end.Goals as goal

pub returns-then-lt-clause-gone : goal.returns-then-lt-clause-gone
returns-then-lt-clause-gone c =
    let low : c.args.t < c.self.inside.next = first_of (search rules, grind (arith, common_steps)) in
    ap (λ (v : LivesView). failing (λ l. not (ends_at c.args.t l)) v.lives) (sym c.self.view_is)
    ∙ none_early c.args.t c.self.inside.next c.self.inside.lives.items low c.self.invariant.later

pub returns-in_default-clause-gone : goal.returns-in_default-clause-gone
returns-in_default-clause-gone c = subst (λ l. failing (λ x. not (ends_at c.args.t x)) l ≡ 0) c.as_slice.ensures.value c.in_default.ensures.none

pub invariant_of-self-2 : goal.invariant_of-self-2
invariant_of-self-2 c =
    let lives = c.self.inside.lives.items in
    let lives2 = c.swap_remove-life.new.self.items in
    let i = c.in-Some.i in
    let low : i < length lives = subst (λ l. i < length l) c.as_slice.ensures.value c.in-Some.ensures.found in
    lives_fewer c.self.inside.columns.items lives lives2 c.swap_remove-life.result c.self.inside.next c.least-self-inside-2.result
    (taken_weighs lives lives2 i c.swap_remove-life.result low c.swap_remove-life.ensures.value c.swap_remove-life.ensures.items)
    (subst (λ l. failing (ends_from c.least-self-inside-2.result) l ≡ 0) c.as_slice-2.ensures.value c.least-self-inside-2.ensures.below) c.self.invariant

pub returns-clause-some : goal.returns-clause-some
returns-clause-some c = λ v.
    let lives = c.self.inside.lives.items in
    let i = c.in-Some.i in
    let low : i < length lives = subst (λ l. i < length l) c.as_slice.ensures.value c.in-Some.ensures.found in
    let e = ap (λ (l : LivesView). total v l.lives) c.self.view_is in
    let z = taken_weighs lives c.swap_remove-life.new.self.items i c.swap_remove-life.result low c.swap_remove-life.ensures.value c.swap_remove-life.ensures.items v in
    omega (arith, e, z)

pub returns-clause-word : goal.returns-clause-word
returns-clause-word c =
    let lives = c.self.inside.lives.items in
    let i = c.in-Some.i in
    let x = c.swap_remove-life.result in
    let low : i < length lives = subst (λ l. i < length l) c.as_slice.ensures.value c.in-Some.ensures.found in
    ap (λ (l : LivesView). is_marked l.columns x) (sym c.self.view_is) ∙ passes_at (is_marked c.self.inside.columns.items) lives i x low c.swap_remove-life.ensures.value c.self.invariant.marked

pub returns-clause-lasts : goal.returns-clause-lasts
returns-clause-lasts c =
    let lives = c.self.inside.lives.items in
    let i = c.in-Some.i in
    let low : i < length lives = subst (λ l. i < length l) c.as_slice.ensures.value c.in-Some.ensures.found in
    passes_at lasts lives i c.swap_remove-life.result low c.swap_remove-life.ensures.value c.self.invariant.lasting
