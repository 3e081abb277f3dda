-- Answers to the goals of saving::save_shards.
use Rattle.std.proofs.Common.{get_or, subst}
use Rattle.shard_apply.specs.Saving.{AreOwn}
use Rattle.dataflow.proofs.saving.save_shards.Goals as goal

pub returns-then-branch-clause-saves : goal.returns-then-branch-clause-saves
returns-then-branch-clause-saves g c =
    let w = c.args.whole.now in
    let saved = c.in_ok-saved.saved.items in
    let told = c.in_ok-saved.ensures in
    record {
      in_step = c.are_own.ensures.in_step;
      many = told.many;
      are_sound = told.sound;
      are_own = subst (AreOwn g.O.Operator.row_of_part w) c.deref.ensures.value (c.in_ok-are_own.ensures.own.0 c.if-branch.true);
      stored = λ s d e low. c.laws.ensures.rows (get_or w.operators s d) (get_or saved s e) _ _ (told.sound s d e low);
      resumed = told.resumes;
    }
