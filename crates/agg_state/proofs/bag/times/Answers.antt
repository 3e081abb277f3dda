use Rattle.std.specs.Prelude.{ℕ, Option, unwrap_or}
use Rattle.std.specs.BTreeMap.{get}
use Rattle.std.specs.Ordering.{int_cmp}
use Rattle.std.proofs.Common.{ap, ◌∙◌}
use Rattle.std.proofs.lemmas.Int.{to_z-of_z}
use mir.Syntax.{w64}
use Rattle.agg_state.proofs.bag.times.Goals as goal

pub returns-in-Some : goal.returns-in-Some
returns-in-Some c =
    ap (λ (o : Option ℕ). unwrap_or o 0) c.in-Some.ensures.value
    ∙ ap (λ v. unwrap_or (get int_cmp c.args.counts.now v) 0) (to_z-of_z w64 c.args.value c.ranges.value)

pub returns-in-None : goal.returns-in-None
returns-in-None c =
    ap (λ (o : Option ℕ). unwrap_or o 0) c.in-None.ensures.value
    ∙ ap (λ v. unwrap_or (get int_cmp c.args.counts.now v) 0) (to_z-of_z w64 c.args.value c.ranges.value)
