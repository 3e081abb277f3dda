-- Nodes that are no groups are defined at each instant.
use Rattle.std.specs.Prelude.{◌≡◌, ℕ, zero, suc, Bool, false, None, List, refl}
use Rattle.std.proofs.Common.{◌∙◌, ap}
use Rattle.tw_rows.specs.Rows.{Row}
use Rattle.plan_model.specs.declared.node.Node.{Node}
use Rattle.plan_model.specs.Keys.{value_ops}
use Rattle.plan_laws.specs.Undefined.{is_group, undefined_over, or_next, first_below}
use Rattle.plan_laws.proofs.Undefinedness.{undefined_others}

none_below : (p : ℕ → Bool) → ((t : ℕ) → p t ≡ false) → (c : ℕ) → first_below p c ≡ None
none_below p none zero = refl
none_below p none (suc c) = ap (or_next p c) (none_below p none c) ∙ rw (none c) refl

pub never_undefined : (n : Node) → is_group n ≡ false → (rows : ℕ → List Row) (c : ℕ) → first_below (λ t. undefined_over value_ops n (rows t)) c ≡ None
never_undefined n plain rows c = none_below (λ t. undefined_over value_ops n (rows t)) (λ t. undefined_others value_ops n (rows t) plain) c
