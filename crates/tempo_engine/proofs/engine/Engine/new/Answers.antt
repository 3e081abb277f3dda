use Rattle.std.proofs.Common.{[], refl}
use Rattle.tempo_engine.proofs.engine.Engine.new.Goals as goal

pub returns-clause-fed : goal.returns-clause-fed
returns-clause-fed c =
    let fed = c.in_ok-parts.ensures.fed in
    record {
      given = λ s. [];
      lists = λ k. [];
      by = record { sound = fed.sound; read = fed.read; fine = fed.fine; none = refl; going = refl; number = refl; texts = fed.texts; went = fed.went };
    }

pub invariant_of-result : goal.invariant_of-result
invariant_of-result c = record {
  run = c.in_ok-parts.ensures.run;
  took = λ thawed. (c.args.plan, (c.args.options.policy, ([], (λ s. [], (λ k. [], c.in_ok-parts.ensures.fed)))));
}

pub returns-clause-workers : goal.returns-clause-workers
returns-clause-workers c = c.in_ok-parts.ensures.workers
