use Rattle.std.specs.Prelude.{◌≡◌, ◌++◌, [], ◌∷◌, suc, refl}
use Rattle.std.proofs.Common.{◌∙◌, ap, subst, sym}
use Rattle.edge_history.specs.Order.{failing, is_from}
use Rattle.snapshot_agg.specs.Words.{key_data}
use Rattle.snapshot_agg.proofs.Beginning.{touches_none, touches_more, ended_none, ended_more, ended_late}
use Rattle.snapshot_agg.proofs.intervals.end_rows.Goals as goal

pub loop-init : goal.loop-init
loop-init c =
    let g = c.args.groups.now in
    record {
      counted = c.requires.counted;
      gone = ([], ended_none c.args.t g.rows.rows, touches_none (key_data g.key.items) g.touched.items);
      same_key = refl;
      same_aggs = refl;
    }

pub loop-preserved : goal.loop-preserved
loop-preserved c =
    let g = c.args.groups.now in
    let g1 = c.loop.groups in
    let g2 = c.end_first.new.self in
    let x = c.in_ok-end_first.ensures.ended c.if-branch.true in
    let i = c.loop.invariant.gone in
    record {
      counted = c.in_ok-end_first.ensures.counted;
      gone = (
        i.0 ++ x.0 ∷ [],
        ended_more i.0 x.0 c.args.t g.rows.rows g1.rows.rows g2.rows.rows i.1 x.1,
        touches_more (key_data g.key.items) g.touched.items g1.touched.items g2.touched.items i.0 x.0 (key_data g1.key.items x.0.cells)
            (ap (λ k. key_data k.items x.0.cells) c.loop.invariant.same_key) i.2 x.2,
      );
      same_key = c.end_first.ensures.key ∙ c.loop.invariant.same_key;
      same_aggs = c.end_first.ensures.aggs ∙ c.loop.invariant.same_aggs;
    }

pub returns-clause-late : goal.returns-clause-late
returns-clause-late c = λ h.
    let i = c.loop.invariant.gone in
    subst (λ r. failing (is_from (suc c.args.t)) r.rows.ends ≡ 0) (sym (c.in_ok-end_first.ensures.none c.if-branch.false).0)
    (c.in_ok-end_first.ensures.late c.if-branch.false (ended_late i.0 c.args.t c.args.groups.now.rows.rows c.loop.groups.rows.rows i.1 h))
