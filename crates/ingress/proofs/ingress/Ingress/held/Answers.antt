use Rattle.std.specs.Prelude.{◌+◌, ◌-◌, ◌^◌, min, length}
use Rattle.std.proofs.Common.{◌∙◌, ap, arith}
use Rattle.tw_rows.specs.Bag.{total}
use Rattle.ingress.proofs.Counting.{opens_are, held_within}
use Rattle.ingress.proofs.ingress.Ingress.held.Goals as goal

pub returns-clause-count : goal.returns-clause-count
returns-clause-count c = λ texts a given f.
    let i = c.args.self.now in
    c.held.ensures.count ∙ ap (λ n. min (n + total (λ l. length l) i.held.waiting.items) (2 ^ 64 - 1)) (opens_are texts a given i f c.held.ensures.unique)

pub returns-clause-bound : goal.returns-clause-bound
returns-clause-bound c = λ texts a given f.
    let n = c.held.ensures.count in
    let w = held_within texts a given c.args.self.now f c.held.ensures.unique in
    omega (arith, n, w)
