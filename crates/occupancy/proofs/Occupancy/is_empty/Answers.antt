use Rattle.std.proofs.Common.{◌≡◌, length, sym, ap, ◌∙◌, arith}
use Rattle.std.proofs.lemmas.List.{nil_from_length}
use Rattle.std.proofs.lemmas.Bool.Decides.{nat_tests}
use Rattle.occupancy.proofs.Places.{seen_length}
use Rattle.occupancy.proofs.Occupancy.is_empty.Goals as goal

pub returns : goal.returns
returns c =
    let v = c.self.inside in
    let h = seen_length v.words.items v.len v.capacity _ c.self.view_is in (
      λ t. let z : v.len ≡ 0 = grind (arith, nat_tests) in nil_from_length c.args.self.now.items (h.0 ∙ z),
      λ e. let z : v.len ≡ 0 = sym h.0 ∙ ap length e in grind (arith, nat_tests),
    )
