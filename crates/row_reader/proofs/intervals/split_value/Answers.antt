use Rattle.row_reader.proofs.TextFields.{text_first}
use Rattle.row_reader.proofs.intervals.split_value.Goals as goal

pub look_up-datum-requires : goal.look_up-datum-requires
look_up-datum-requires c = text_first _ _ _ c.requires c.split_field.ensures
