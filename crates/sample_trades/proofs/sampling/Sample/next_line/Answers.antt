use Rattle.std.proofs.Common.{refl}
use Rattle.sample_trades.proofs.Coming.{due_comes, nothing_comes, trade_comes}
use Rattle.sample_trades.proofs.sampling.Sample.next_line.Goals as goal

pub returns-then-self-clause-given : goal.returns-then-self-clause-given
returns-then-self-clause-given c = due_comes c.args.self.now _ c.if-self.true refl refl refl

pub returns-then-self-eq0-clause-none : goal.returns-then-self-eq0-clause-none
returns-then-self-eq0-clause-none c = nothing_comes c.args.self.now c.if-self.false c.if-self-eq0.true

pub returns-clause-given : goal.returns-clause-given
returns-clause-given c = trade_comes c.args.self.now _ c.draw_trade-trade.result c.if-self.false c.draw_trade-trade.ensures.trade c.draw_trade-trade.ensures.after c.draw_trade-trade.ensures.left refl
