use Rattle.std.proofs.Common.{◌∙◌, sym, ap, arith, get_or}
use Rattle.tw_rows.specs.Kinds.{cell_kind_of}
use Rattle.tw_rows.specs.declared.kind.Kind.TheVariants.{Int}
use Rattle.where_select.specs.Projects.{is_same_kind}
use Rattle.where_select.proofs.Lacking.{many-next, one-same, one-other}
use Rattle.where_select.proofs.project.count_of.Goals as goal
use Rattle.where_select.proofs.project.count_of.Goals.{then-is_same, else-is_same}

pub overflow_add-count : goal.overflow_add-count
overflow_add-count c = record { fits = omega (arith, c.loop-kind.invariant.few, c.loop-kind-test.true, c.loop-kind.auto.kind-index-end) }

pub loop-kind-preserved : goal.loop-kind-preserved
loop-kind-preserved c =
    let kinds = c.args.kinds.now in
    let i = c.loop-kind.kind-index in
    let k = c.args.stored in
    let n = c.loop-kind.count in
    let j = cell_kind_of (get_or kinds i Int) in
    let seen = ap (is_same_kind k) c.cell_of.ensures in
    elim c.if-is_same.branch [
      | then-is_same w ↦
          let is = one-same k j (sym seen ∙ sym c.is_same.ensures ∙ w.if-is_same.true) in
          record { many = many-next kinds i n c.if-is_same.count Int k c.loop-kind-test.true c.loop-kind.invariant.many (omega (arith, is, w.count-is)); few = omega (arith, w.count-is, c.loop-kind.invariant.few) }
      | else-is_same w ↦
          let is = one-other k j (sym seen ∙ sym c.is_same.ensures ∙ w.if-is_same.false) in
          record { many = many-next kinds i n c.if-is_same.count Int k c.loop-kind-test.true c.loop-kind.invariant.many (omega (arith, is, w.count-is)); few = omega (arith, w.count-is, c.loop-kind.invariant.few) }
    ]
