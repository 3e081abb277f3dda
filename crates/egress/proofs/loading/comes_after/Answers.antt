use Rattle.std.specs.Prelude.{[], ◌∷◌, ◌++◌}
use Rattle.std.specs.List.Sorted.{IsNonDecreasing}
use Rattle.std.proofs.Common.{refl, sym, ap, subst}
use Rattle.synopsis.specs.Kept.{times_if}
use Rattle.egress.proofs.Entries.{one_rises}
use Rattle.egress.proofs.loading.comes_after.Goals as goal

pub returns-in_default : goal.returns-in_default
returns-in_default c = (λ _. one_rises _ c.args.time (ap times_if (sym c.in_default.ensures.value)), λ _. refl)

pub is_last-requires : goal.is_last-requires
is_last-requires c = subst IsNonDecreasing (sym (ap times_if c.in-Some.ensures.value)) c.requires

pub returns : goal.returns
returns c =
    let same = ap times_if c.in-Some.ensures.value in (
      λ b. subst (λ l. IsNonDecreasing (l ++ c.args.time ∷ [])) same (c.is_last.ensures.0 b),
      λ h. c.is_last.ensures.1 (subst (λ l. IsNonDecreasing (l ++ c.args.time ∷ [])) (sym same) h),
    )
