use Rattle.std.specs.Prelude.{◌≡◌, ◌+◌, map, refl}
use Rattle.std.proofs.Common.{◌∙◌, ap, sym, subst, arith, rules}
use Rattle.tw_rows.specs.Bag.{total}
use Rattle.tw_rows.specs.declared.edge.HeldRow.{HeldRow}
use Rattle.sweep_laws.specs.Sweeps.{SyncsRise}
use Rattle.snapshot_agg.specs.KeptRows.{row_ended}
use Rattle.snapshot_agg.proofs.PuttingOff.{pushed}
use Rattle.snapshot_agg.proofs.Queueing.{later_more}
use Rattle.snapshot_agg.proofs.Living.{ends_more, held_more, others_more}
use Rattle.snapshot_agg.proofs.lives.Lives.keep.Goals as goal

pub invariant_of-self-then-comes_last : goal.invariant_of-self-then-comes_last
invariant_of-self-then-comes_last c =
    let q = c.self.inside.ends.items in (
      subst (SyncsRise 0) (sym c.in_ok-push_back.ensures.items) (c.comes_last.ensures c.if-comes_last.true c.self.invariant.0 c.args.end refl),
      ends_more q c.push_back.new.self.items c.args.end c.in_ok-push_back.ensures.items c.requires.end c.self.invariant.1,
    )

pub returns-then-comes_last-clause-held : goal.returns-then-comes_last-clause-held
returns-then-comes_last-clause-held c = λ w.
    let q = c.self.inside in
    held_more q.ends.items c.push_back.new.self.items c.args.end c.in_ok-push_back.ensures.items w q.others.rows
    ∙ ap (λ v. total w v.rows.held + w (row_ended c.args.end)) c.self.view_is

pub returns-then-comes_last-clause-pending : goal.returns-then-comes_last-clause-pending
returns-then-comes_last-clause-pending c = λ w.
    let a = pushed w c.self.inside.ends.items c.push_back.new.self.items c.args.end c.in_ok-push_back.ensures.items in
    let v = ap (λ v. total w v.rows.ends) c.self.view_is in
    omega (arith, a, v)

pub returns-clause-held : goal.returns-clause-held
returns-clause-held c = λ w.
    let q = c.self.inside in
    let e = c.args.end in
    let same : c.in_ok-clone.field-0 ≡ e.cells = search rules in
    let x : HeldRow = record { cells = c.in_ok-clone.field-0; start = e.other } in
    others_more w q.others.rows c.add.new.self.rows (map row_ended q.ends.items) x (c.in_ok-add.ensures w)
    ∙ ap (λ v. total w v.rows.held + w x) c.self.view_is
    ∙ ap (λ l. total w c.args.self.now.rows.held + w (record { cells = l; start = e.other })) same

pub returns-clause-late : goal.returns-clause-late
returns-clause-late c = λ t low h. later_more c.args.waiting.now c.put.new.self c.args.end c.in_ok-put.ensures.parts t low h
