use Rattle.std.specs.Prelude.{length}
use Rattle.std.proofs.Common.{ap, arith}
use Rattle.std.proofs.lemmas.List.{length-append}
use Rattle.ingress.proofs.waiting.Waiting.len.Goals as goal

pub returns : goal.returns
returns c =
    let l = length-append c.self.inside.queue.edges c.self.inside.others in
    let v = ap length c.self.view_is in
    omega (arith, l, v)
