use Rattle.std.proofs.Common.{◌∙◌}
use Rattle.row_reader.proofs.Reading.{told_by_result}
use Rattle.row_reader.proofs.read.is_text.Goals as goal

pub returns : goal.returns
returns c = c.is_ok.ensures.value ∙ told_by_result c.from_utf8.result c.args.bytes.now _ _ c.from_utf8.ensures.cases
