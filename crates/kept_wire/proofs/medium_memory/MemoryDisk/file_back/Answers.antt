use Rattle.std.proofs.Common.{arith}
use Rattle.kept_wire.specs.MediumMemory.{content_of}
use Rattle.kept_wire.proofs.Earlier.{taken_back}
use Rattle.kept_wire.proofs.medium_memory.MemoryDisk.file_back.Goals as goal

pub returns : goal.returns
returns c =
    taken_back c.args.self.earlier.items (content_of c.args.self.file) c.args.back c.remove.result (omega arith) (omega (arith, c.len.ensures)) c.remove.ensures.value
