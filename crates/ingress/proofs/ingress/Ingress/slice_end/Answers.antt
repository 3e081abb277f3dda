use Rattle.std.proofs.Common.{arith}
use Rattle.ingress.proofs.Below.{lists_count, lists_below, not_before}
use Rattle.ingress.proofs.EndsFound.{none_before_release}
use Rattle.ingress.specs.Slices.{edges_of}
use Rattle.ingress.proofs.ingress.Ingress.slice_end.Goals as goal

pub returns-then-is_before-clause-end : goal.returns-then-is_before-clause-end
returns-then-is_before-clause-end c = λ texts a given f lists released.
    let w = c.args.self.now.held.waiting.items in
    c.slice_end-end.ensures.end (edges_of lists) (lists_below c.args.p w lists released.edges) (λ x low. lists_count x c.args.p w lists low released.edges)

pub returns-else-is_before-clause-end : goal.returns-else-is_before-clause-end
returns-else-is_before-clause-end c = λ texts a given f lists released.
    let i = c.args.self.now in
    let past = not_before c.is_before.result i.released c.slice_end-end.result c.is_before.ensures.test.1 c.if-is_before.false in
    let less = c.slice_end-end.ensures.later i.released c.requires.later (none_before_release i texts a given f) in
    absurd (omega (arith, past, less))
