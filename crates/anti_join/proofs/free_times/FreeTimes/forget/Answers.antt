use Rattle.std.proofs.Common.{◌∙◌, sym}
use Rattle.anti_join.proofs.Keys.{few_left}
use Rattle.anti_join.proofs.free_times.FreeTimes.forget.Goals as goal

pub invariant_of-self-2 : goal.invariant_of-self-2
invariant_of-self-2 c =
    let rows = c.self.inside.rows in (
      c.write.ensures.columns ∙ (c.self.invariant.0 ∙ sym c.take_key.ensures.key),
      few_left rows.key c.take_key.new.rows.key c.values.result.now rows.rows c.take_key.new.rows.rows c.take_key.ensures.key c.self.invariant.1 (c.in_ok-take_key.ensures.ok c.self.invariant.1),
    )
