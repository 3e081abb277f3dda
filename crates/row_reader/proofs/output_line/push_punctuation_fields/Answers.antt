use Rattle.row_reader.proofs.Pieces.{punctuation_text}
use Rattle.row_reader.proofs.output_line.push_punctuation_fields.Goals as goal

pub returns-clause-ok : goal.returns-clause-ok
returns-clause-ok c = punctuation_text c.args.name.now c.args.time _ _ _ _ _ c.in_ok-push_text.ensures.ok c.in_ok-extend_from_slice.ensures.items c.in_ok-push_time.ensures.ok c.in_ok-push.ensures.items
