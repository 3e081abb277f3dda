use Rattle.std.specs.Prelude.{nat_le, cond}
use Rattle.tw_rows.proofs.Bags.{total-append}
use Rattle.plan_laws.proofs.Holding.{reaching_all, reaching_falls, alive_reaches}
use Rattle.plan_laws.proofs.held_laws.reaching_counts.Goals as goal

pub returns-clause-all : goal.returns-clause-all
returns-clause-all g c = reaching_all

pub returns-clause-later : goal.returns-clause-later
returns-clause-later g c = reaching_falls

pub returns-clause-alive : goal.returns-clause-alive
returns-clause-alive g c = alive_reaches

pub returns-clause-order : goal.returns-clause-order
returns-clause-order g c = λ m a b h. h.weigh (λ e. cond (nat_le m e.end) 1 0)

pub returns-clause-both : goal.returns-clause-both
returns-clause-both g c = λ m a b. total-append (λ e. cond (nat_le m e.end) 1 0) a b
