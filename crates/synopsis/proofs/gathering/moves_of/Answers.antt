-- What is answered by hand of the proof of gathering::moves_of.
use Rattle.std.specs.Prelude.{cond, map, refl}
use Rattle.std.proofs.Common.{sym, ◌∙◌, ap, subst, arith}
use Rattle.std.proofs.lemmas.List.{take_all}
use Rattle.tw_rows.specs.SameCells.{same_cells}
use Rattle.tw_rows.proofs.Bags.{total-map}
use Rattle.synopsis.specs.Kept.{ends_of, starts_of, AreOnce}
use Rattle.synopsis.specs.Counted.{ends_if, starts_if, as_moves}
use Rattle.synopsis.proofs.Counting.{moved_more, once_of, counted_of}
use Rattle.synopsis.proofs.gathering.moves_of.Goals as goal

pub loop-i-preserved : goal.loop-i-preserved
loop-i-preserved c = moved_more c.args.counted.entries c.loop-i.i _ c.loop-i.moves.items c.push_moves.new.moves.items (omega arith) c.get_index.ensures.entry c.in_ok-push_moves.ensures c.loop-i.invariant

pub returns-clause-once : goal.returns-clause-once
returns-clause-once c =
    let es = c.args.counted.entries in
    let f = c.loop-i-test.false in
    let e = c.len-i-end.ensures.len in
    subst AreOnce (sym (c.loop-i.invariant ∙ ap (map as_moves) (take_all c.loop-i.i es (omega (arith, f, e))))) (once_of es c.len-i-end.ensures.unique)

pub returns-clause-ends : goal.returns-clause-ends
returns-clause-ends c = λ q.
    let es = c.args.counted.entries in
    let f = c.loop-i-test.false in
    let e = c.len-i-end.ensures.len in
    ap (λ l. ends_of l q) (c.loop-i.invariant ∙ ap (map as_moves) (take_all c.loop-i.i es (omega (arith, f, e))))
    ∙ (total-map (λ m. cond (same_cells m.cells q) m.ends 0) as_moves es
    ∙ counted_of ends_if (λ k. k.ends) refl (λ k. refl) es q c.len-i-end.ensures.unique)

pub returns-clause-starts : goal.returns-clause-starts
returns-clause-starts c = λ q.
    let es = c.args.counted.entries in
    let f = c.loop-i-test.false in
    let e = c.len-i-end.ensures.len in
    ap (λ l. starts_of l q) (c.loop-i.invariant ∙ ap (map as_moves) (take_all c.loop-i.i es (omega (arith, f, e))))
    ∙ (total-map (λ m. cond (same_cells m.cells q) m.starts 0) as_moves es
    ∙ counted_of starts_if (λ k. k.starts) refl (λ k. refl) es q c.len-i-end.ensures.unique)
