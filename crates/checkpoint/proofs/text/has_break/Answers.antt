use Rattle.std.proofs.Common.{rules, tests}
use Rattle.std.proofs.lemmas.Iterator.{YieldsList-from_slice}
use Rattle.std.proofs.lemmas.Iterator.Search.{any_from_yields_List}
use Rattle.checkpoint.specs.Reading.{is_break}
use Rattle.checkpoint.proofs.text.has_break.Goals as goal

pub returns : goal.returns
returns c = any_from_yields_List is_break _ _ _ c.any.ensures.ran (YieldsList-from_slice c.args.bytes.now cc) (λ x b q k. search (rules, tests))
