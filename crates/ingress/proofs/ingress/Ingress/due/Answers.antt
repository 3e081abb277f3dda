use Rattle.std.specs.Prelude.{◌≡◌, ◌≤◌, ◌<◌, ◌⊎◌, length}
use Rattle.std.proofs.Common.{◌∙◌, sym, arith, inl, inr}
use Rattle.std.proofs.lemmas.Bool.{cases_lt}
use Rattle.std.proofs.lemmas.List.{length-map}
use Rattle.admission.specs.Admission.{allowed}
use Rattle.ingress.proofs.Allowing.{allowed_kept}
use Rattle.ingress.proofs.ingress.Ingress.due.Goals as goal

pub returns-then-is_before-clause-allowed : goal.returns-then-is_before-clause-allowed
returns-then-is_before-clause-allowed c = λ texts a given follows.
    let i = c.args.self.now in (
      allowed_kept i.policy i.watermarks.streams.items (length i.kinds.items) a (i.shape.marks ∙ length-map i.kinds.items _) follows.bounds follows.marks
          ∙ sym c.allowed-allowed.ensures,
      c.is_before.ensures.test.0 c.if-is_before.true,
    )

pub returns-else-is_before-clause-allowed : goal.returns-else-is_before-clause-allowed
returns-else-is_before-clause-allowed c = λ texts a given follows.
    let i = c.args.self.now in
    let e : allowed i.policy (length i.kinds.items) a ≡ c.allowed-allowed.result =
    allowed_kept i.policy i.watermarks.streams.items (length i.kinds.items) a (i.shape.marks ∙ length-map i.kinds.items _) follows.bounds follows.marks
    ∙ sym c.allowed-allowed.ensures in
    let l : c.allowed-allowed.result ≤ i.released = go (cases_lt i.released c.allowed-allowed.result) in
    omega (arith, e, l)
  where
    go : (c.args.self.now.released < c.allowed-allowed.result) ⊎ (c.allowed-allowed.result ≤ c.args.self.now.released) → c.allowed-allowed.result ≤ c.args.self.now.released
    go (inl l) = (let t = c.is_before.ensures.test.1 l in let f = c.if-is_before.false in absurd (cc))
    go (inr l) = l
