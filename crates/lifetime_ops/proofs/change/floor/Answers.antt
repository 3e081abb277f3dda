use Rattle.std.proofs.Common.{◌∙◌, rules}
use Rattle.lifetime_ops.proofs.change.floor.Goals as goal

pub returns-in-Some : goal.returns-in-Some
returns-in-Some c = c.from_word.ensures ∙ search rules
