use Rattle.std.proofs.Common.{sym, ◌∙◌}
use Rattle.row_reader.proofs.Whole.{minus_none, minus_some, plain_none, plain_some, rest_all}
use Rattle.row_reader.proofs.number.read_places.Goals as goal

pub returns-in_err-read_units : goal.returns-in_err-read_units
returns-in_err-read_units c = rw c.from_residual.ensures (sym (minus_none c.args.bytes.now c.args.places (sym c.has_minus.ensures.value ∙ c.if-has_minus.true) (λ n low e. c.in_err-read_units.ensures.none n low (rest_all c.args.bytes.now 1 ∙ e))))

pub returns-then-has_minus : goal.returns-then-has_minus
returns-then-has_minus c = c.negative.ensures ∙ minus_some c.args.bytes.now c.args.places _ (sym c.has_minus.ensures.value ∙ c.if-has_minus.true) c.in_ok-read_units.ensures.small (sym (rest_all c.args.bytes.now 1) ∙ c.in_ok-read_units.ensures.some)

pub returns-in_err-read_units-2 : goal.returns-in_err-read_units-2
returns-in_err-read_units-2 c = rw c.from_residual-in_err-read_units-2.ensures (sym (plain_none c.args.bytes.now c.args.places (sym c.has_minus.ensures.value ∙ c.if-has_minus.false) c.in_err-read_units-2.ensures.none))

pub returns : goal.returns
returns c = c.positive.ensures ∙ plain_some c.args.bytes.now c.args.places _ (sym c.has_minus.ensures.value ∙ c.if-has_minus.false) c.in_ok-read_units-2.ensures.small c.in_ok-read_units-2.ensures.some
