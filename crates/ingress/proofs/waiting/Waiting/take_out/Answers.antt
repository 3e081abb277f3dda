use Rattle.std.specs.Prelude.{◌∷◌, ◌++◌}
use Rattle.std.proofs.Common.{subst, sym}
use Rattle.tw_rows.specs.Instant.{inf}
use Rattle.tw_rows.specs.Bag.{SameBag}
use Rattle.tw_rows.specs.declared.edge.Edge.{Edge}
use Rattle.edge_history.specs.Order.{starts_it}
use Rattle.ingress.proofs.Merged.{other_taken, queue_taken, none_in_both}
use Rattle.ingress.proofs.waiting.Waiting.take_out.Goals as goal

pub returns-then-take_out-clause-taken : goal.returns-then-take_out-clause-taken
returns-then-take_out-clause-taken c = λ _.
    let e : Edge = record { sync = c.args.start; other = inf; cells = c.args.cells.now } in
    subst (SameBag (e ∷ c.self.inside.queue.edges ++ c.take_out.new.self)) c.self.view_is
    (other_taken c.self.inside.queue.edges c.self.inside.others e c.take_out.new.self (c.take_out.ensures.taken c.if-take_out.true))

pub returns-clause-taken : goal.returns-clause-taken
returns-clause-taken c = λ t.
    let e : Edge = record { sync = c.args.start; other = inf; cells = c.args.cells.now } in
    subst (SameBag (e ∷ c.take_start.new.self.edges ++ c.take_out.new.self)) c.self.view_is
    (subst (λ o. SameBag (e ∷ c.take_start.new.self.edges ++ o) (c.self.inside.queue.edges ++ c.self.inside.others)) (sym (c.take_out.ensures.kept c.if-take_out.false))
    (queue_taken c.self.inside.queue.edges c.self.inside.others e c.take_start.new.self.edges (c.take_start.ensures.taken t)))

pub returns-clause-none : goal.returns-clause-none
returns-clause-none c = λ f.
    none_in_both c.self.inside.queue.edges c.self.inside.others (starts_it c.args.cells.now c.args.start) c.args.self.now c.self.view_is
    (c.take_start.ensures.none f) (c.take_out.ensures.none c.if-take_out.false)
