use Rattle.std.specs.Prelude.{◌≡◌, ◌∷◌, cond}
use Rattle.std.proofs.Common.{arith, rules}
use Rattle.tw_rows.proofs.Fronts.{total-push}
use Rattle.tw_rows.specs.declared.edge.Edge.{Edge}
use Rattle.temporal_join.proofs.Ahead.{first_is}
use Rattle.temporal_join.proofs.Living.{test_zero}
use Rattle.temporal_join.proofs.few.JoinLives.pull_one.Goals as goal

pub returns-in_ok-push-clause-passes : goal.returns-in_ok-push-clause-passes
returns-in_ok-push-clause-passes c = λ p h none.
    let x = c.in-Some.edge in
    let s : c.args.cursor.now.edges ≡ x ∷ c.next.new.self.edges = search rules in
    let a = total-push (λ (e : Edge). cond (p e) 0 1) c.args.now.now.items c.push.new.self.items x c.in_ok-push.ensures.items in
    let b = test_zero (p x) (first_is p c.args.cursor.now.edges x c.next.new.self.edges s h) in
    omega (arith, a, b, none)
