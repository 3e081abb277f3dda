use Rattle.std.proofs.Common.{◌∙◌, ◌+◌, ◌*◌, pos, map, get_or, ap, sym, arith}
use Rattle.std.proofs.lemmas.List.{take-map}
use Rattle.tw_rows.specs.declared.cells.Datum.TheVariants.{Int}
use Rattle.tw_rows.specs.Cells.{read_datum, read_cells}
use Rattle.plan_model.specs.Expr.{node_value}
use Rattle.lane_expr.specs.Steps.{node_of}
use Rattle.lane_expr.specs.Running.{operand, cells_of}
use Rattle.tw_rows.specs.declared.kind.CellKind.TheVariants.{Whole}
use Rattle.lane_expr.specs.declared.registers.Register.{Register}
use Rattle.lane_expr.specs.Registers.{datum_of, datum_at}
use Rattle.lane_expr.proofs.Operands.{written_at, kind_behind, datum_behind}
use Rattle.lane_expr.proofs.block.run_at.Goals as goal

pub returns-clause-value : goal.returns-clause-value
returns-clause-value c j lt on =
    let texts = c.args.texts.now in
    let front = c.split_at_mut-before.result.0.now in
    let back = c.split_at_mut-before.result.1.now in
    let into = c.run_step.new.into in
    let here = written_at j front back into c.args.to (omega (arith, c.split_at_mut-before.ensures.front_len)) (omega (arith, c.split_at_mut-before.ensures.back_len, c.requires.place)) in
    let kind = c.run_step.ensures.kind ∙ kind_behind front back c.args.to c.index-rest-0.result (omega (arith, c.split_at_mut-before.ensures.front_len)) (omega (arith, c.split_at_mut-before.ensures.back_len, c.requires.place))
    ∙ ap (λ rs. get_or (map (λ (r : Register). r.kind) rs) c.args.to Whole) (sym c.split_at_mut-before.ensures.value) ∙ c.requires.kind in
    ap (read_datum texts) here ∙ ap (λ k. read_datum texts (datum_of k into j)) kind ∙ c.run_step.ensures.value j lt on
    ∙ ap (λ ds. node_value (read_cells texts (cells_of c.args.batch.now.rows (64 * c.args.block + j))) (node_of texts c.args.step.now) (operand texts ds)) (ap (map (datum_at j)) c.split_at_mut-before.ensures.front ∙ sym (take-map (datum_at j) c.args.to c.args.registers.now))

pub run_step-requires-clause-constant : goal.run_step-requires-clause-constant
run_step-requires-clause-constant c d e j lt =
    datum_behind j c.split_at_mut-before.result.0.now c.split_at_mut-before.result.1.now c.args.to c.index-rest-0.result (omega (arith, c.split_at_mut-before.ensures.front_len)) (omega (arith, c.split_at_mut-before.ensures.back_len, c.requires.place))
    ∙ ap (λ rs. get_or (map (datum_at j) rs) c.args.to (Int (pos 0))) (sym c.split_at_mut-before.ensures.value) ∙ c.requires.constant d e j lt
