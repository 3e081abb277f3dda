use Rattle.std.specs.Prelude.{◌≤◌, ◌∷◌, ◌++◌, []}
use Rattle.std.proofs.Common.{subst, arith, sym}
use Rattle.std.proofs.lemmas.Bool.Decides.{nat_tests}
use Rattle.std.proofs.lemmas.List.Elements.{All-push}
use Rattle.edge_history.specs.Order.{rank, Rises, IsReal}
use Rattle.ingress.proofs.Merged.{last_rises, none_last}
use Rattle.ingress.proofs.waiting.comes_last.Goals as goal

pub returns-in-Some : goal.returns-in-Some
returns-in-Some c = λ up edge is real.
    let q = c.args.queue.now.edges in
    let order = c.in-Some.ensures.order in
    let le : c.in-Some.last ≤ rank edge = grind (arith, nat_tests) in
    record { rises = last_rises 0 q edge c.in-Some.last order.rises c.in-Some.ensures.rank le; real = All-push IsReal q edge order.real real }

pub returns-in-None : goal.returns-in-None
returns-in-None c = λ up edge is real.
    let q = c.args.queue.now.edges in
    record {
      rises = subst (λ es. Rises 0 (es ++ edge ∷ [])) (sym (none_last q c.in-None.ensures.rank)) (omega arith, tt);
      real = All-push IsReal q edge c.in-None.ensures.order.real real;
    }
