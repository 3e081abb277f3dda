use Rattle.std.proofs.Common.{◌∙◌, sym, ap, subst, List, not}
use Rattle.std.specs.Prelude.{filter}
use Rattle.tw_rows.specs.Bag.{SameBag}
use Rattle.tw_rows.specs.declared.edge.HeldRow.{HeldRow}
use Rattle.synopsis.specs.Held.{key_of, is_of_key}
use Rattle.anti_join.proofs.Keys.{few_left, few_put}
use Rattle.anti_join.proofs.free_times.FreeTimes.set.Goals as goal

pub invariant_of-self-in_err-add : goal.invariant_of-self-in_err-add
invariant_of-self-in_err-add c =
    let rows = c.self.inside.rows in
    let key = c.add.ensures.key ∙ c.take_key.ensures.key in (
      c.write.ensures.columns ∙ (c.self.invariant.0 ∙ sym key),
      few_left rows.key c.add.new.self.key c.values.result.now rows.rows c.add.new.self.rows key c.self.invariant.1
          (subst (λ (l : List HeldRow). SameBag l (filter (λ r. not (is_of_key rows.key c.values.result.now r)) rows.rows)) (sym c.in_err-add.ensures.err) (c.in_ok-take_key.ensures.ok c.self.invariant.1)),
    )

pub invariant_of-self-2 : goal.invariant_of-self-2
invariant_of-self-2 c =
    let rows = c.self.inside.rows in
    let key = c.add.ensures.key ∙ c.take_key.ensures.key in (
      c.write.ensures.columns ∙ (c.self.invariant.0 ∙ sym key),
      few_put rows.key c.add.new.self.key c.values.result.now c.args.cells c.args.at rows.rows c.take_key.new.rows.rows c.add.new.self.rows key
          (c.values.ensures ∙ (c.write.ensures.values ∙ (ap (λ k. key_of k c.items.result.now) c.self.invariant.0 ∙ ap (key_of rows.key) c.items.ensures)))
          c.self.invariant.1 (c.in_ok-take_key.ensures.ok c.self.invariant.1) c.in_ok-add.ensures.ok,
    )
