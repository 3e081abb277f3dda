use Rattle.std.proofs.Common.{◌∙◌, ap}
use Rattle.std.specs.Prelude.{map, length}
use Rattle.tw_rows.specs.Kinds.{cell_kind_of}
use Rattle.ingress.proofs.ingress_laws.fixed_parts_stay.Goals as goal

pub returns : goal.returns
returns c = λ streams rules capacity old new same is. record {
  policy = same.policy ∙ is.policy;
  kinds = ap (λ k. map (λ v. v.items) k.items) same.kinds ∙ is.kinds;
  cells = ap (λ k. map (λ v. map cell_kind_of v) (map (λ v. v.items) k.items)) same.kinds ∙ is.cells;
  count = ap (λ k. length k.items) same.kinds ∙ is.count;
  capacity = same.capacity ∙ is.capacity;
}
