use Rattle.std.specs.Prelude.{[]}
use Rattle.std.proofs.Common.{sym, arith}
use Rattle.std.proofs.lemmas.List.{get_or_past}
use Rattle.std.proofs.lemmas.Option.{get_or_from_slice_get}
use Rattle.egress.proofs.order.text_at.Goals as goal

pub returns-then-place-len : goal.returns-then-place-len
returns-then-place-len c = sym (get_or_from_slice_get c.args.texts.now c.args.place _ [] c.text.ensures)

pub returns-else-place-len : goal.returns-else-place-len
returns-else-place-len c = sym (get_or_past c.args.texts.now c.args.place [] (omega arith))
