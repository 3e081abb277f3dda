use Rattle.std.proofs.Common.{◌∙◌, ap, sym, refl, arith}
use Rattle.admission.specs.Admission.{raised}
use Rattle.ingress.specs.Admits.{cells_of}
use Rattle.tw_rows.specs.Cells.{read_cells}
use Rattle.ingress.specs.OpenKeys.{starts_in}
use Rattle.ingress.specs.Streams.{bound_in}
use Rattle.ingress.specs.declared.entering.EventLine.{EventLine}
use Rattle.ingress.proofs.Keep.{still_kept}
use Rattle.ingress.proofs.Lines.{Known, event_wanted, raised_above, known_line, line_late, event_taken, event_unmatched, follows_kept, cells_kinds, shape_entered}
use Rattle.ingress.proofs.ingress.Ingress.admit_event.Goals as goal

pub invariant_of-self : goal.invariant_of-self
invariant_of-self c = let i = c.args.self.now in record {
  shape = shape_entered _ i.capacity _ _ i.held.waiting.items c.enter.new.self.waiting.items refl c.enter.ensures.len
      (c.enter.ensures.fit (cells_of i) i.shape.fit (cells_kinds c.args.texts.now c.args.row.now ∙ c.requires.cells)) i.shape;
  above = i.above;
}

pub invariant_of-self-in_default-entered : goal.invariant_of-self-in_default-entered
invariant_of-self-in_default-entered c = let i = c.args.self.now in record {
  shape = shape_entered _ i.capacity _ _ i.held.waiting.items c.enter.new.self.waiting.items refl c.enter.ensures.len
      (c.enter.ensures.fit (cells_of i) i.shape.fit (cells_kinds c.args.texts.now c.args.row.now ∙ c.requires.cells)) i.shape;
  above = i.above;
}

pub returns-in_default-clause-err : goal.returns-in_default-clause-err
returns-in_default-clause-err c = λ a given k.
    let i = c.args.self.now in
    record {
      follows = follows_kept c.args.texts.now given a i k.follows _ refl refl refl (still_kept i.held c.enter.new.self c.enter.ensures.len c.in_default.ensures.err i.released k.follows.made k.follows.opens given k.follows.keeps);
      low = k.low;
    }

pub returns-in_default-entered-clause-refused : goal.returns-in_default-entered-clause-refused
returns-in_default-entered-clause-refused c = λ a given k.
    let i = c.args.self.now in
    let texts = c.args.texts.now in
    let line : EventLine = record { stream = c.args.stream; form = c.args.form; sync = c.args.sync; other = c.args.other; at = c.later.result; dropped = c.is_dropped.result } in
    let n : Known i.policy a line = known_line i.policy a line c.bound-bound.result (k.follows.bounds c.args.stream c.requires.stream ∙ sym c.bound-bound.ensures)
    c.is_refused.result c.is_refused.ensures c.if-is_refused.false c.later.ensures c.is_dropped.ensures in
    let h = c.in-Ok.ensures.ok i.released k.follows.made k.follows.opens given (line_late i.policy texts given a i line n c.requires.stream k) k.follows.keeps in
    (event_unmatched i.policy texts c.len-count.ensures.distinct given a i k line c.args.row.now c.requires.placed (read_cells texts c.args.row.now) refl c.requires.stream c.requires.cells n
    c.in-Ok.entered c.in_default-entered.is c.enter.new.self.waiting.items (starts_in c.enter.new.self.opens.starts) h).0

pub returns-in_default-entered-clause-err : goal.returns-in_default-entered-clause-err
returns-in_default-entered-clause-err c = λ a given k.
    let i = c.args.self.now in
    let texts = c.args.texts.now in
    let line : EventLine = record { stream = c.args.stream; form = c.args.form; sync = c.args.sync; other = c.args.other; at = c.later.result; dropped = c.is_dropped.result } in
    let n : Known i.policy a line = known_line i.policy a line c.bound-bound.result (k.follows.bounds c.args.stream c.requires.stream ∙ sym c.bound-bound.ensures)
    c.is_refused.result c.is_refused.ensures c.if-is_refused.false c.later.ensures c.is_dropped.ensures in
    let h = c.in-Ok.ensures.ok i.released k.follows.made k.follows.opens given (line_late i.policy texts given a i line n c.requires.stream k) k.follows.keeps in
    let u = event_unmatched i.policy texts c.len-count.ensures.distinct given a i k line c.args.row.now c.requires.placed (read_cells texts c.args.row.now) refl c.requires.stream c.requires.cells n
    c.in-Ok.entered c.in_default-entered.is c.enter.new.self.waiting.items (starts_in c.enter.new.self.opens.starts) h in
    record {
      follows = follows_kept texts given a i k.follows _ refl refl refl u.1;
      low = k.low;
    }

pub invariant_of-self-2 : goal.invariant_of-self-2
invariant_of-self-2 c = let i = c.args.self.now in record {
  shape = shape_entered _ i.capacity _ _ i.held.waiting.items c.enter.new.self.waiting.items c.raise_bound.ensures.len c.enter.ensures.len
      (c.enter.ensures.fit (cells_of i) i.shape.fit (cells_kinds c.args.texts.now c.args.row.now ∙ c.requires.cells)) i.shape;
  above = λ s.
      let a = i.above s in
      let b = c.raise_bound.ensures.bounds s in
      let m = c.raise_bound.ensures.marks s in
      let u = raised_above c.args.stream c.reduced.result (bound_in i.watermarks.streams.items) s in
      omega (arith, a, b, m, u);
}

pub returns-clause-ok : goal.returns-clause-ok
returns-clause-ok c = λ a given k.
    let i = c.args.self.now in
    let texts = c.args.texts.now in
    let line : EventLine = record { stream = c.args.stream; form = c.args.form; sync = c.args.sync; other = c.args.other; at = c.later.result; dropped = c.is_dropped.result } in
    let n : Known i.policy a line = known_line i.policy a line c.bound-bound.result (k.follows.bounds c.args.stream c.requires.stream ∙ sym c.bound-bound.ensures)
    c.is_refused.result c.is_refused.ensures c.if-is_refused.false c.later.ensures c.is_dropped.ensures in
    let h = c.in-Ok.ensures.ok i.released k.follows.made k.follows.opens given (line_late i.policy texts given a i line n c.requires.stream k) k.follows.keeps in
    event_taken i.policy texts c.len-count.ensures.distinct given a i _ k line c.args.row.now c.requires.placed (read_cells texts c.args.row.now) refl c.requires.stream c.requires.cells n
    c.in-Ok.entered c.in-Some.answer c.in-Some.is h refl refl
    (λ j. c.raise_bound.ensures.bounds j ∙ ap (λ t. raised c.args.stream t (bound_in i.watermarks.streams.items) j) c.reduced.ensures)
    c.raise_bound.ensures.marks

pub returns-in_default-clause-memory : goal.returns-in_default-clause-memory
returns-in_default-clause-memory c = λ is a given k.
    let i = c.args.self.now in
    let texts = c.args.texts.now in
    let line : EventLine = record { stream = c.args.stream; form = c.args.form; sync = c.args.sync; other = c.args.other; at = c.later.result; dropped = c.is_dropped.result } in
    let n : Known i.policy a line = known_line i.policy a line c.bound-bound.result (k.follows.bounds c.args.stream c.requires.stream ∙ sym c.bound-bound.ensures)
    c.is_refused.result c.is_refused.ensures c.if-is_refused.false c.later.ensures c.is_dropped.ensures in
    event_wanted i.policy texts c.len-count.ensures.distinct given a i k line c.args.row.now c.requires.placed c.requires.stream c.requires.cells n c.in_default.ensures.named
