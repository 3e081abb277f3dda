use Rattle.std.specs.Prelude.{◌+◌}
use Rattle.std.specs.Map.{lookup}
use Rattle.std.proofs.Common.{ap, subst, take, drop, arith}
use Rattle.std.proofs.lemmas.Result.{err_from_is_err_and}
use Rattle.tw_rows.specs.SameCells.{same_cells}
use Rattle.synopsis.specs.Kept.{times_if}
use Rattle.egress.specs.Saving.{IsSound}
use Rattle.egress.proofs.Entries.{Loads, loads_first, loads_next, loads_all, starts_rise, ends_rise, sound_start, sound_other, parted, front_is, all_there}
use Rattle.egress.proofs.loading.load_entries.Goals as goal

pub loop-entry-init : goal.loop-entry-init
loop-entry-init c =
    loads_first c.args.kinds.now c.args.closed _
    (λ q. ap (λ es. times_if (lookup (same_cells q) es)) c.new-starts.ensures.empty)
    (λ q. ap (λ es. times_if (lookup (same_cells q) es)) c.new-ends.ensures.empty)
    (λ t. c.new-waiting.ensures t)
    (λ q closed. ap (lookup (same_cells q)) c.new-starts.ensures.empty)

pub load_entry-requires-clause-starts_rise : goal.load_entry-requires-clause-starts_rise
load_entry-requires-clause-starts_rise c =
    starts_rise c.args.kinds.now c.args.closed (take c.loop-entry.entry-index c.args.entries.now) c.loop-entry.loaded c.loop-entry.loaded c.entry-item.result c.loop-entry.invariant

pub load_entry-requires-clause-ends_rise : goal.load_entry-requires-clause-ends_rise
load_entry-requires-clause-ends_rise c =
    ends_rise c.args.kinds.now c.args.closed (take c.loop-entry.entry-index c.args.entries.now) c.loop-entry.loaded c.loop-entry.loaded c.entry-item.result c.loop-entry.invariant

pub loop-entry-preserved : goal.loop-entry-preserved
loop-entry-preserved c =
    let is = c.in_ok-load_entry.ensures in
    subst (λ xs. Loads c.args.kinds.now c.args.closed xs c.load_entry.new.loaded)
    (front_is c.args.entries.now c.loop-entry.entry-index c.entry-item.result c.loop-entry-test.true c.entry-item.is)
    (loads_next c.args.kinds.now c.args.closed (take c.loop-entry.entry-index c.args.entries.now) c.loop-entry.loaded c.load_entry.new.loaded c.entry-item.result c.loop-entry.invariant
    is.taken.starts is.taken.ends is.taken.waiting is.follows is.taken.kept)

pub returns-in_err-load_entry-clause-refused : goal.returns-in_err-load_entry-clause-refused
returns-in_err-load_entry-clause-refused c = let p = err_from_is_err_and c.from_residual.result c.from_residual.ensures.1 in rw (p.1, p.2) (λ is sound.
    let es = c.args.entries.now in
    let i = c.loop-entry.entry-index in
    let e = c.entry-item.result in
    let whole = subst (λ l. IsSound c.args.kinds.now l c.args.closed) (parted es i e c.loop-entry-test.true c.entry-item.is) sound in
    c.in_err-load_entry.ensures.refused is (record {
      kept = all_there c.args.kinds.now c.args.closed es i e c.loop-entry-test.true c.entry-item.is sound.each;
      starts_rise = sound_start c.args.kinds.now c.args.closed (take i es) c.loop-entry.loaded c.loop-entry.loaded e c.loop-entry.invariant (drop (i + 1) es) whole;
      ends_rise = sound_other c.args.kinds.now c.args.closed (take i es) c.loop-entry.loaded c.loop-entry.loaded e c.loop-entry.invariant (drop (i + 1) es) whole;
    }))

pub returns-clause-starts : goal.returns-clause-starts
returns-clause-starts c =
    let l = loads_all c.args.kinds.now c.args.closed c.args.entries.now c.loop-entry.entry-index c.loop-entry.loaded (omega arith) c.loop-entry.invariant in l.opens

pub returns-clause-open : goal.returns-clause-open
returns-clause-open c =
    let l = loads_all c.args.kinds.now c.args.closed c.args.entries.now c.loop-entry.entry-index c.loop-entry.loaded (omega arith) c.loop-entry.invariant in l.kept

pub returns-clause-waiting : goal.returns-clause-waiting
returns-clause-waiting c =
    let l = loads_all c.args.kinds.now c.args.closed c.args.entries.now c.loop-entry.entry-index c.loop-entry.loaded (omega arith) c.loop-entry.invariant in l.put

pub returns-clause-sound : goal.returns-clause-sound
returns-clause-sound c =
    let l = loads_all c.args.kinds.now c.args.closed c.args.entries.now c.loop-entry.entry-index c.loop-entry.loaded (omega arith) c.loop-entry.invariant in
    record { high = omega arith; each = l.each; starts = l.starts; others = l.others }
