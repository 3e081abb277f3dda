use Rattle.std.proofs.Common.{◌∙◌, arith}
use Rattle.wire_lines.proofs.Told.{adds_told, told_write}
use Rattle.wire_lines.proofs.memory.MemoryWireWire.write.Goals as goal

pub returns-clause-told : goal.returns-clause-told
returns-clause-told c = rw (← c.self.view_is) (adds_told (rw (c.push_reserved.ensures.items, c.in-Ok.ensures.items) (told_write c.self.inside.input.items c.self.inside.output.items c.args.piece.now c.self.inside.steps.items c.len-from.result (c.len-from.ensures ∙ (omega arith)) c.self.invariant.4)))
