use Rattle.std.proofs.Common.{arith}
use Rattle.edge_stream.proofs.Infinity.{inf_is}
use Rattle.edge_stream.proofs.counted.rank_of.Goals as goal

pub overflow_mul-twice : goal.overflow_mul-twice
overflow_mul-twice c = record { fits = omega (arith, c.word-twice.ensures.within, inf_is) }

pub overflow_add-result : goal.overflow_add-result
overflow_add-result c = record { fits = omega (arith, c.word-twice.ensures.within, inf_is) }
