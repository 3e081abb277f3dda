use Rattle.std.proofs.Common.{ap, ◌∙◌}
use Rattle.std.specs.Prelude.{Some}
use Rattle.row_reader.proofs.OnePass.{known_text}
use Rattle.row_reader.proofs.intervals.look_up.Goals as goal

pub returns-in-Some-clause-known : goal.returns-in-Some-clause-known
returns-in-Some-clause-known c = λ _. known_text c.args.texts.now c.args.field.now c.in-Some.place (c.in-Some.ensures.some ∙ ap (λ t. Some t) c.as_text.ensures)
