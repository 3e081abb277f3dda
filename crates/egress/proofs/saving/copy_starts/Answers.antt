use Rattle.std.specs.Prelude.{◌≡◌}
use Rattle.std.specs.List.{AllZip}
use Rattle.std.specs.VecDeque.{deque_len}
use Rattle.egress.proofs.Copies.{copied_since}
use Rattle.egress.proofs.saving.copy_starts.Goals as goal

pub returns : goal.returns
returns c =
    copied_since c.args.starts.now c.in_ok-copy.copy (λ x y. y ≡ x) (λ v w. AllZip (λ x y. y ≡ x) v.items w.items × (deque_len w ≡ deque_len v))
    (λ x y k. k) (λ v w k. k.0) c.in_ok-copy.ensures.cases
