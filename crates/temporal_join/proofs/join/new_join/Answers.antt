use Rattle.std.proofs.Common.{List, ℕ, map, sym, ap, ◌∙◌}
use Rattle.tw_rows.specs.Kinds.{cell_kind_of}
use Rattle.plan_model.specs.Keys.{paired_row}
use Rattle.temporal_join.proofs.Answering.{pair_mapped}
use Rattle.temporal_join.proofs.join.new_join.Goals as goal

pub new-requires-clause-kinds : goal.new-requires-clause-kinds
new-requires-clause-kinds c =
    let l = c.args.left_kinds.now in
    let r = c.args.right_kinds.now in
    ap (map cell_kind_of) (c.as_slice.ensures.value ∙ c.in_ok-own_kinds.ensures)
    ∙ (sym (pair_mapped cell_kind_of c.args.right_key.now l r)
    ∙ ap (λ (k : List ℕ). paired_row k (map cell_kind_of l) (map cell_kind_of r)) (sym c.in_ok-sides.ensures.right_key))
