use Rattle.std.specs.Prelude.{◌≡◌, vec_len}
use Rattle.std.specs.List.{AllZip}
use Rattle.std.proofs.Common.{ap, ◌∙◌}
use Rattle.std.proofs.lemmas.List.Elements.{same_from_all_zip}
use Rattle.egress.specs.Waiting.{with_now, later_in}
use Rattle.egress.proofs.Copies.{copied_waiting}
use Rattle.egress.proofs.waiting.Pending.copy.Goals as goal

pub returns : goal.returns
returns c = λ t.
    let was = c.args.self.now in
    let later : later_in c.in_ok-later.later ≡ later_in was.later = λ i u.
    copied_waiting was.later c.in_ok-later.later (λ x y. y ≡ x) (λ v w. AllZip (λ x y. y ≡ x) v.items w.items × (vec_len w ≡ vec_len v))
    (λ x y k. k) (λ v w k. k.0) c.in_ok-later.ensures.cases u i in
    let first : c.in_ok-at_hand.at_hand.items ≡ was.at_hand.items = same_from_all_zip (λ x y. y ≡ x) was.at_hand.items c.in_ok-at_hand.at_hand.items c.in_ok-at_hand.ensures.cases.0 (λ x y k. k) in
    ap (λ l. with_now was.at c.in_ok-at_hand.at_hand.items l t) later ∙ ap (λ es. with_now was.at es (later_in was.later) t) first
