use Rattle.std.specs.Prelude.{◌≡◌, suc, IfNone}
use Rattle.edge_history.specs.Order.{failing, is_from}
use Rattle.std.proofs.Common.{ap, subst}
use Rattle.snapshot_agg.proofs.Living.{popped_fine, popped_held, popped_late}
use Rattle.snapshot_agg.proofs.lives.Lives.end_first.Goals as goal

pub invariant_of-self : goal.invariant_of-self
invariant_of-self c =
    popped_fine _ (λ d. d.items) c.pop_at.result c.args.t c.self.inside.ends c.pop_at.new.ends c.pop_at.ensures.some c.pop_at.ensures.none c.self.invariant

pub returns-clause-held : goal.returns-clause-held
returns-clause-held c =
    popped_held c.pop_at.result c.args.t c.self.inside.ends.items c.pop_at.new.ends.items c.self.inside.others.rows c.args.self.now.rows.held c.pop_at.ensures.some
    (ap (λ v. v.rows.held) c.self.view_is)

pub returns-clause-late : goal.returns-clause-late
returns-clause-late c =
    subst (λ v. IfNone c.pop_at.result (failing (is_from c.args.t) v.rows.ends ≡ 0 → failing (is_from (suc c.args.t)) v.rows.ends ≡ 0)) c.self.view_is
    (popped_late _ (λ d. d.items) c.pop_at.result c.args.t c.self.inside.ends c.pop_at.ensures.none c.self.invariant.0)
