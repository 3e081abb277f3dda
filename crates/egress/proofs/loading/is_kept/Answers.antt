use Rattle.std.proofs.Common.{map, sym, ap, ◌∙◌, arith}
use Rattle.tw_rows.specs.Cells.{datum_kind}
use Rattle.egress.proofs.loading.is_kept.Goals as goal

pub returns-then-part-ne0 : goal.returns-then-part-ne0
returns-then-part-ne0 c = (λ h. absurd (cc), λ kept. absurd (let z = kept.part in omega (arith, z)))

pub returns-then-sync-closing : goal.returns-then-sync-closing
returns-then-sync-closing c = (λ h. absurd (cc), λ kept. absurd (let z = kept.begun in omega (arith, z)))

pub returns-then-other-closing : goal.returns-then-other-closing
returns-then-other-closing c = (λ h. absurd (cc), λ kept. absurd (let z = kept.going in omega (arith, z)))

pub returns : goal.returns
returns c = (
  λ h. record {
    part = omega arith;
    cells = ap (map datum_kind) (sym c.items.ensures) ∙ c.is_stored_as.ensures.0 h;
    begun = omega arith;
    going = omega arith;
    bounded = omega arith;
  },
  λ kept. c.is_stored_as.ensures.1 (ap (map datum_kind) c.items.ensures ∙ kept.cells),
)
