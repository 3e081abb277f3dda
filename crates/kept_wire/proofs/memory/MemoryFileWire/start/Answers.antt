use Rattle.std.proofs.Common.{◌≡◌, arith, take}
use Rattle.std.proofs.lemmas.Grind.{common_steps}
use Rattle.kept_wire.proofs.memory.MemoryFileWire.start.Goals as goal

pub returns-clause-some : goal.returns-clause-some
returns-clause-some c =
    let cut : c.truncate.new.self.items ≡ take c.args.output c.self.inside.output.items = c.truncate.ensures.items in
    grind (arith, common_steps)
