use Rattle.row_reader.proofs.Printing.{records_spell_their_fields}
use Rattle.row_reader.proofs.laws.printed_records_spell_their_fields.Goals as goal

pub returns : goal.returns
returns c = records_spell_their_fields
