use Rattle.std.proofs.Common.{subst, sym}
use Rattle.csv.specs.Records.{AllText}
use Rattle.row_reader.proofs.TextFields.{record_of-AllText}
use Rattle.row_reader.proofs.record.read_record.Goals as goal

pub unreachable-requires : goal.unreachable-requires
unreachable-requires c =
    let refused = c.in-Err.ensures.refused (subst AllText (sym c.in_ok-split.ensures) (record_of-AllText _ c.requires.some c.requires.no_return c.requires.no_feed c.requires.utf8)) in
    absurd (cc)
