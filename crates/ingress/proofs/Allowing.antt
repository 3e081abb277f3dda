-- The punctuation that the kept bounds and marks allow is the one that admission allows.
use Rattle.std.specs.Prelude.{◌≡◌, ℕ, zero, suc, ◌<◌, max, min, List, length, refl}
use Rattle.std.proofs.Common.{ap, ◌∙◌, sym, arith}
use Rattle.admission.specs.Admission.{Admission, least, stepped, allowed}
use Rattle.admission.specs.declared.policy.Policy.{Policy}
use Rattle.ingress.specs.Streams.{bound_in, mark_in, allowed_in}
use Rattle.ingress.specs.declared.watermarks.Watermark.{Watermark}

least_same : (n : ℕ) (f g : ℕ → ℕ) → ((s : ℕ) → s < n → f s ≡ g s) → least n f ≡ least n g
least_same zero f g same = refl
least_same (suc n) f g same =
    ap (λ x. min x (least n f)) (same n (omega arith)) ∙ ap (λ x. min (g n) x) (least_same n f g (λ s low. same s (omega arith)))

pub allowed_kept : (policy : Policy) (marks : List Watermark) (n : ℕ) (a : Admission) → length marks ≡ n →
    ((s : ℕ) → s < n → a.bound s ≡ bound_in marks s) → ((s : ℕ) → s < n → a.mark s ≡ mark_in marks s) →
    allowed policy n a ≡ allowed_in policy marks
allowed_kept policy marks n a long bounds marked =
    ap (λ x. max (stepped policy.period x) (least n a.mark)) (least_same n a.bound (bound_in marks) bounds)
    ∙ (ap (λ x. max (stepped policy.period (least n (bound_in marks))) x) (least_same n a.mark (mark_in marks) marked)
    ∙ ap (λ k. max (stepped policy.period (least k (bound_in marks))) (least k (mark_in marks))) (sym long))
