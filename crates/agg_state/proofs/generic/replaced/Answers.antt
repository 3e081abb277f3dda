use Rattle.std.specs.Prelude.{◌∷◌}
use Rattle.std.proofs.Common.{arith, sym, subst}
use Rattle.std.proofs.lemmas.Int.{to_z-of_z}
use Rattle.tw_rows.specs.Bag.{SameBag}
use mir.Syntax.{w64}
use Rattle.agg_state.proofs.generic.replaced.Goals as goal

pub add-requires : goal.add-requires
add-requires g c =
    let r = c.requires in
    let same = subst (λ x. SameBag r.0 (x ∷ r.1)) (sym (to_z-of_z w64 c.args.old c.ranges.old)) r.3 in
    (r.1, c.remove.ensures r.0 r.1 r.2 same, r.4)

pub value-requires : goal.value-requires
value-requires g c =
    let r = c.requires in
    let same = subst (λ x. SameBag r.0 (x ∷ r.1)) (sym (to_z-of_z w64 c.args.old c.ranges.old)) r.3 in
    (_, c.in_ok-add.ensures.ok r.1 (c.remove.ensures r.0 r.1 r.2 same), omega arith)

pub returns : goal.returns
returns g c = λ bag rest h same0.
    let same = subst (λ x. SameBag bag (x ∷ rest)) (sym (to_z-of_z w64 c.args.old c.ranges.old)) same0 in
    let z = subst (λ x. g.A.Aggregate.stands c.add.new.self (x ∷ rest)) (to_z-of_z w64 c.args.new c.ranges.new) (c.in_ok-add.ensures.ok rest (c.remove.ensures bag rest h same)) in
    (z, c.len.ensures _ z, c.value.ensures _ z)
