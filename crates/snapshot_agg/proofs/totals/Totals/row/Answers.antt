use Rattle.std.specs.Prelude.{◌≡◌, length, Some, ◌++◌, ◌∷◌, [], refl}
use Rattle.std.proofs.Common.{arith, rules, sym, subst, ap, ◌∙◌}
use Rattle.std.proofs.lemmas.Int.{to_z-of_z}
use mir.Syntax.{w64}
use mir.Val.{to_z, of_z, SFits}
use Rattle.tw_rows.specs.declared.cells.Datum.TheVariants.{Int}
use Rattle.snapshot_agg.specs.States.{AreStatesOf}
use Rattle.snapshot_agg.proofs.Kept.{row_of_many, states_at, row_more, row_undefined, row_whole, few_rows, some_rows}
use Rattle.snapshot_agg.proofs.totals.Totals.row.Goals as goal

pub returns-then-self-gt-MOST_ROWS : goal.returns-then-self-gt-MOST_ROWS
returns-then-self-gt-MOST_ROWS c = λ aggs rows h. row_of_many c.args.self.now.count c.args.self.now.states.items c.args.key.now aggs rows c.if-self-gt-MOST_ROWS.true h

pub value-requires : goal.value-requires
value-requires c =
    let r = c.requires in
    let l = c.deref-state-items.result.now in
    let at = states_at c.loop-state.state-index l r.0 c.state-item.result r.1 c.loop-state-test.true c.state-item.is
    (subst (λ x. AreStatesOf x r.0 r.1) (sym c.deref-state-items.ensures.value) r.2.are_states) in
    (at.agg, r.1, at.is, r.3)

pub returns-in-None : goal.returns-in-None
returns-in-None c = λ aggs rows h.
    let l = c.deref-state-items.result.now in
    row_undefined c.args.key.now aggs c.loop-state.state-index rows l c.state-item.result
    (states_at c.loop-state.state-index l aggs c.state-item.result rows c.loop-state-test.true c.state-item.is
    (subst (λ x. AreStatesOf x aggs rows) (sym c.deref-state-items.ensures.value) h.are_states))
    (λ a k. c.in-None.ensures a rows k (few_rows c.args.self.now.count c.args.self.now.states.items aggs rows c.if-self-gt-MOST_ROWS.false h))

pub loop-state-preserved : goal.loop-state-preserved
loop-state-preserved c = λ aggs rows h.
    let l = c.deref-state-items.result.now in
    let fits : SFits w64 c.in-Some.x = search rules in
    let same : to_z w64 (of_z w64 c.in-Some.x) ≡ c.in-Some.x = to_z-of_z w64 c.in-Some.x fits in
    let push : c.push.new.self.items ≡ c.loop-state.data.items ++ Int c.in-Some.x ∷ [] = cc c.in_ok-push-in-Some.ensures.ok in
    row_more c.args.key.now aggs c.loop-state.state-index c.loop-state.data.items c.push.new.self.items rows l c.state-item.result c.in-Some.x c.in-Some.x
    (states_at c.loop-state.state-index l aggs c.state-item.result rows c.loop-state-test.true c.state-item.is
    (subst (λ x. AreStatesOf x aggs rows) (sym c.deref-state-items.ensures.value) h.are_states))
    (λ a k. c.in-Some.ensures a rows k (few_rows c.args.self.now.count c.args.self.now.states.items aggs rows c.if-self-gt-MOST_ROWS.false h))
    refl push (c.loop-state.invariant aggs rows h)

pub returns : goal.returns
returns c = λ aggs rows h.
    ap Some (c.in_ok-row.ensures.ok ∙ c.as_slice.ensures)
    ∙ row_whole c.args.self.now.count c.loop-state.state-index c.args.self.now.states.items c.args.key.now aggs c.loop-state.data.items rows c.if-self-gt-MOST_ROWS.false
    (some_rows c.args.self.now.count c.args.self.now.states.items c.requires.0 aggs c.requires.1 rows c.requires.2 c.requires.3 h) (let z = c.loop-state-test.false in let y = ap length c.deref-state-items.ensures.value in omega (arith, z, y)) h (c.loop-state.invariant aggs rows h)
