use Rattle.std.specs.Prelude.{nat_eq}
use Rattle.std.proofs.Common.{refl, ◌%◌}
use Rattle.ingress.specs.OpenKeys.{starts_in}
use Rattle.ingress.specs.declared.opens.OpenKey.{OpenKey}
use Rattle.ingress.specs.declared.opens.OpenStart.{OpenStart}
use Rattle.ingress.proofs.LoadedAll.{start_taken}
use Rattle.ingress.proofs.held_streams.HeldStreams.take_up_start.Goals as goal

pub returns-clause-ok : goal.returns-clause-ok
returns-clause-ok c = λ cells last saved l sound.
    let i = c.args.self.now in
    let e = c.args.entry.now in
    let key : OpenKey = record { stream = c.args.stream; given = e.other; cells = c.in_ok-clone.field-0 } in
    let state : OpenStart = record { start = e.sync; dropped = nat_eq (e.part % 3) 2 } in
    start_taken cells last saved i.waiting.items i.waiting.items (starts_in i.opens.starts) (starts_in c.open.new.self.starts) l e sound
    key state (λ j. record { stream = c.requires.stream j; given = e.other; cells = c.in_ok-clone.ensures.cases j }) refl c.requires.role refl c.in_ok-open.ensures.ok
