use Rattle.row_reader.proofs.Numbers.{number_of-whole}
use Rattle.row_reader.proofs.number.read_whole.Goals as goal

pub returns : goal.returns
returns c = number_of-whole c.read_decimal.result c.args.bytes.now c.read_decimal.ensures.some c.read_decimal.ensures.small c.read_decimal.ensures.none
