-- What is answered by hand of the proof of queues::open_row.
use Rattle.std.specs.Prelude.{Some, cond, replicate, length}
use Rattle.std.proofs.Common.{◌++◌, refl, sym, ◌∙◌, ap, arith}
use Rattle.indexmap.specs.IndexMap.{get}
use Rattle.tw_rows.specs.SameCells.{same_cells}
use Rattle.std.proofs.lemmas.List.{length-replicate}
use Rattle.synopsis.proofs.Opened.{started_since, new_since, set_open, longer_open}
use Rattle.synopsis.proofs.queues.open_row.Goals as goal

pub returns-in-Some-clause-since : goal.returns-in-Some-clause-since
returns-in-Some-clause-since c =
    started_since c.args.starts.now (c.get_mut.follows.lender c.open_more.new.since) c.args.cells.now c.in-Some.since.now c.in-Some.ensures.value c.args.count c.args.at c.open_more.new.since
    c.in_ok-open_more.ensures.ok
    ((c.get_mut.follows.holds c.open_more.new.since).3 (rw (sym c.in-Some.ensures.value) refl)).0

pub returns-clause-since : goal.returns-clause-since
returns-clause-since c =
    new_since c.args.starts.now c.insert.new.self c.args.cells.now c.args.count c.args.at c.new-since.result c.open_more-2.new.since
    (sym c.in_default.ensures.value) c.new-since.ensures.items c.in_ok-open_more-2.ensures.ok
    c.get_mut.follows.lender-at-none c.get_mut.follows.holds-at-none
    (λ q. c.in_ok-insert.ensures.updates.0 q
    ∙ ap (λ k. cond (same_cells k q) (Some c.open_more-2.new.since) (get same_cells c.get_mut.follows.lender-at-none q)) c.in_ok-kept.ensures.cases)

pub returns-in-Some-clause-filled : goal.returns-in-Some-clause-filled
returns-in-Some-clause-filled c = λ low h.
    longer_open c.args.starts.now (c.get_mut.follows.lender c.open_more.new.since) c.args.cells.now c.in-Some.since.now c.open_more.new.since c.in-Some.ensures.value c.open_more.ensures.kept
    ((c.get_mut.follows.holds c.open_more.new.since).3 (rw (sym c.in-Some.ensures.value) refl)).0 h

pub returns-in_err-open_more-clause-filled : goal.returns-in_err-open_more-clause-filled
returns-in_err-open_more-clause-filled c = λ low h.
    longer_open c.args.starts.now (c.get_mut.follows.lender c.open_more.new.since) c.args.cells.now c.in-Some.since.now c.open_more.new.since c.in-Some.ensures.value c.open_more.ensures.kept
    ((c.get_mut.follows.holds c.open_more.new.since).3 (rw (sym c.in-Some.ensures.value) refl)).0 h

pub returns-clause-filled : goal.returns-clause-filled
returns-clause-filled c = λ low h.
    set_open c.args.starts.now c.insert.new.self c.args.cells.now c.open_more-2.new.since
    (let e = ap length (c.in_ok-open_more-2.ensures.ok ∙ ap (λ l. l ++ replicate c.args.count c.args.at) c.new-since.ensures.items) in let r = length-replicate c.args.count c.args.at in omega (arith, e, r, low))
    (λ q. c.in_ok-insert.ensures.updates.0 q
    ∙ ap (λ k. cond (same_cells k q) (Some c.open_more-2.new.since) (get same_cells c.get_mut.follows.lender-at-none q)) c.in_ok-kept.ensures.cases
    ∙ ap (λ x. cond (same_cells c.args.cells.now q) (Some c.open_more-2.new.since) (get same_cells x q)) c.get_mut.follows.holds-at-none)
    h
