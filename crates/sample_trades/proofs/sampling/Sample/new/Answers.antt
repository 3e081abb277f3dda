use Rattle.std.proofs.Common.{◌≤◌, ◌*◌, length, refl, sym, ap, subst}
use Rattle.rand_pcg.specs.Lcg.{Lcg}
use Rattle.sample_trades.specs.Trades.{Draws}
use Rattle.sample_trades.specs.declared.line.SampleLine.{SampleLine}
use Rattle.std.proofs.Common.{List}
use Rattle.sample_trades.proofs.Coming.{new_comes, few_come}
use Rattle.sample_trades.proofs.sampling.Sample.new.Goals as goal

pub returns-clause-lines : goal.returns-clause-lines
returns-clause-lines c = new_comes _ c.args.number c.args.events refl refl (ap (λ (g : Lcg). let d : Draws = record { words = g; time = 0; trades = 0 } in d) c.words_from.ensures)

pub returns-clause-few : goal.returns-clause-few
returns-clause-few c = subst (λ (x : List SampleLine). length x ≤ 2 * c.args.events) (sym (returns-clause-lines c)) (few_come c.args.number c.args.events)
