use Rattle.std.specs.Prelude.{◌≡◌, ◌-◌, false, true, length}
use Rattle.std.proofs.Common.{get_or, refl, ◌∙◌, ap, arith}
use Rattle.egress.proofs.Entries.{rises_then, last_below, one_rises, nothing}
use Rattle.egress.proofs.loading.is_last.Goals as goal

pub returns-in_default : goal.returns-in_default
returns-in_default c =
    let times = c.args.times.now in let ok = times.ok in
    (λ _. one_rises times.items c.args.time (nothing times.items (λ low. let z : false ≡ true = c.in_default.ensures.variant.1 (omega (arith, low, ok)) in absurd (cc))), λ _. refl)

pub returns-then-next-last : goal.returns-then-next-last
returns-then-next-last c = (
  λ h. absurd (cc),
  λ rises. absurd (
      let times = c.args.times.now in let ok = times.ok in
      let some = c.in-Some.ensures.variant.0 refl in
      let len : times.len ≡ length times.items = omega (arith, ok) in
      let low = last_below times.items c.args.time c.in-Some.back.now (omega (arith, some, len)) (c.in-Some.ensures.lookup ∙ ap (λ n. get_or times.items (n - 1) c.in-Some.back.now) len) rises in
      omega (arith, low)),
)

pub returns : goal.returns
returns c =
    let times = c.args.times.now in let ok = times.ok in
    let some = c.in-Some.ensures.variant.0 refl in
    let len : times.len ≡ length times.items = omega (arith, ok) in
    (λ _. rises_then times.items c.args.time c.in-Some.back.now c.requires (omega (arith, some, len)) (c.in-Some.ensures.lookup ∙ ap (λ n. get_or times.items (n - 1) c.in-Some.back.now) len) (omega arith), λ _. refl)
