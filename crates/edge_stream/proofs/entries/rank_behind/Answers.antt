use Rattle.std.proofs.Common.{arith, rules, map}
use Rattle.tw_rows.specs.Kinds.{cell_kind_of}
use Rattle.edge_stream.specs.Entries.{saved_edge, MayBeCarried}
use Rattle.edge_stream.proofs.Carrying.{follow_here, follows_low, follows_may}
use Rattle.edge_stream.proofs.entries.rank_behind.Goals as goal

pub returns-then-rank-least-clause-none : goal.returns-then-rank-least-clause-none
returns-then-rank-least-clause-none c = λ rest h.
    let low = follows_low (map cell_kind_of c.args.kinds.now) c.args.from c.args.part c.args.least c.args.entry.now rest c.if-entry-part.false h in
    omega (arith, low, c.rank_of-rank.ensures, c.if-rank-least.true)

pub returns-then-not-may_be_carried-clause-none : goal.returns-then-not-may_be_carried-clause-none
returns-then-not-may_be_carried-clause-none c = λ rest h.
    let may = follows_may (map cell_kind_of c.args.kinds.now) c.args.from c.args.part c.args.least c.args.entry.now rest c.if-entry-part.false h in
    let told = c.may_be_carried.ensures.1 may in search rules

pub returns-clause-some : goal.returns-clause-some
returns-clause-some c = λ rest.
    let may : MayBeCarried (map cell_kind_of c.args.kinds.now) c.args.from (saved_edge c.args.entry.now) = search rules in
    follow_here (map cell_kind_of c.args.kinds.now) c.args.from c.args.part c.args.least c.args.entry.now rest c.if-entry-part.false c.rank_of-rank.result c.rank_of-rank.ensures c.if-rank-least.false may
