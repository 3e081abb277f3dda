use Rattle.std.specs.Prelude.{◌+◌}
use Rattle.std.proofs.Common.{sym, ap}
use Rattle.tw_rows.specs.Instant.{inf}
use Rattle.ingress.proofs.Ranked.{out_ranked, out_taken, out_kept}
use Rattle.ingress.proofs.Starts.{queue_has_none, no_queue}
use Rattle.ingress.proofs.by_rank.ByRank.take_out.Goals as goal

pub invariant_of-self : goal.invariant_of-self
invariant_of-self c = out_ranked (c.end_rank.result + 1) c.self.inside.ranks.entries (c.get_mut.follows.lender c.remove_start.new.edges).entries c.in-Some.edges.now c.remove_start.new.edges c.self.invariant
    c.in-Some.ensures.value (c.get_mut.follows.holds c.remove_start.new.edges).0 (record { sync = c.args.start; other = inf; cells = c.args.cells.now }) c.remove_start.result c.remove_start.ensures.taken c.remove_start.ensures.kept

pub returns-in-Some-clause-taken : goal.returns-in-Some-clause-taken
returns-in-Some-clause-taken c = out_taken (c.end_rank.result + 1) c.self.inside.ranks.entries (c.get_mut.follows.lender c.remove_start.new.edges).entries c.in-Some.edges.now c.remove_start.new.edges c.self.invariant
    c.in-Some.ensures.value (c.get_mut.follows.holds c.remove_start.new.edges).0 (record { sync = c.args.start; other = inf; cells = c.args.cells.now }) c.remove_start.result c.remove_start.ensures.taken c.remove_start.ensures.kept
    c.args.self.now c.self.view_is

pub returns-in-Some-clause-kept : goal.returns-in-Some-clause-kept
returns-in-Some-clause-kept c = out_kept (c.end_rank.result + 1) c.self.inside.ranks.entries (c.get_mut.follows.lender c.remove_start.new.edges).entries c.in-Some.edges.now c.remove_start.new.edges c.self.invariant
    c.in-Some.ensures.value (c.get_mut.follows.holds c.remove_start.new.edges).0 (record { sync = c.args.start; other = inf; cells = c.args.cells.now }) c.remove_start.result c.remove_start.ensures.taken c.remove_start.ensures.kept
    c.args.self.now c.self.view_is

pub returns-in-Some-clause-none : goal.returns-in-Some-clause-none
returns-in-Some-clause-none c = λ f. queue_has_none c.args.cells.now c.args.start (c.end_rank.result + 1) c.self.inside.ranks.entries c.args.self.now c.self.view_is c.self.invariant
    (ap (λ n. n + 1) c.end_rank.ensures.rank) c.in-Some.edges.now c.in-Some.ensures.value (c.remove_start.ensures.none f)

pub returns-clause-none : goal.returns-clause-none
returns-clause-none c = λ _. no_queue c.args.cells.now c.args.start (c.end_rank.result + 1) c.self.inside.ranks.entries c.args.self.now c.self.view_is c.self.invariant
    (ap (λ n. n + 1) c.end_rank.ensures.rank) (sym c.in_default.ensures.value)
