use Rattle.std.proofs.Common.{◌∷◌, ◌++◌, [], length, refl, sym, ap, arith}
use Rattle.wire_lines.specs.Lines.{line_len}
use Rattle.wire_lines.proofs.Cutting.{free_take, HasNoLf-one_line}
use Rattle.wire_lines.proofs.CutsFacts.{tells_line, tells_too_long, tells_too_many, tells_all}
use Rattle.wire_lines.proofs.LineLength.{line_len-le}
use Rattle.wire_lines.proofs.NextFacts.{given, wanting}
use Rattle.std.proofs.lemmas.List.{length-take, length-append}
use Rattle.tempo_cli.proofs.Fed.{took_fine, took_final, long_fault}
use Rattle.tempo_cli.proofs.Numbers.{next_number}
use Rattle.tempo_cli.proofs.Giving.{given_on, stops_at, stops_long}
use Rattle.tempo_cli.proofs.Moves.{within_all, within_more, line_fronts, too_many, refused_long}
use Rattle.tempo_cli.proofs.Stopping.{line_stops, own_at}
use Rattle.tempo_cli.proofs.answering.Answering.next_step.Goals as goal

pub returns-in-More-clause-comes : goal.returns-in-More-clause-comes
returns-in-More-clause-comes g c = λ q bytes lines h few. rw c.next_line.follows.holds-at-none (record {
  header = h.header;
  base = h.base;
  low = h.low;
  skipped = h.skipped;
  passed = h.passed;
  within = within_all h.within (tells_all bytes c.args.self.now.cutter lines c.in-More.ensures.value h.within.cuts);
  engine = h.engine;
})

pub returns-in-More-clause-wants : goal.returns-in-More-clause-wants
returns-in-More-clause-wants g c = λ e.
    let w = wanting c.args.self.now.cutter c.in-More.ensures.value in
    rw (c.next_line.follows.holds-at-none, w.after) (record {
      longest = c.requires.longest;
      wants_bytes = refl;
      one_line = omega (arith, w.no_line, line_len-le c.args.self.now.cutter.rest);
      short = omega (arith, w.no_line, line_len-le c.args.self.now.cutter.rest, w.short, w.room, c.requires.longest);
    })

pub returns-in-TooMany-clause-comes : goal.returns-in-TooMany-clause-comes
returns-in-TooMany-clause-comes g c = λ q bytes lines h few ended. too_many h.within (tells_too_many bytes c.args.self.now.cutter lines c.in-TooMany.ensures.value h.within.cuts) few

pub returns-in-TooLong-clause-comes : goal.returns-in-TooLong-clause-comes
returns-in-TooLong-clause-comes g c = λ q bytes lines h few ended.
    let found = tells_too_long bytes c.args.self.now.cutter lines c.in-TooLong.number c.in-TooLong.ensures.value h.within.cuts in
    let next = next_number h c.in-TooLong.number c.engine_number.result found.number_is c.engine_number.ensures in
    rw c.too_long.ensures (refused_long h.within (took_final q lines c.args.self.now.engine h.engine) c.in-TooLong.number _ c.in-TooLong.ensures.value
    (λ line long. long_fault q lines line c.engine_number.result c.args.self.now.engine h.engine next long) ended)

pub feed-fed-requires-clause-short : goal.feed-fed-requires-clause-short
feed-fed-requires-clause-short g c = λ κs k.
    let s = c.args.self.now.cutter in
    let g = given s c.in-Line.line.number c.in-Line.line.bytes.now c.in-Line.ensures.value in
    omega (arith, ap length g.bytes_is, length-take (line_len s.rest) s.rest, g.not_long, g.room, g.within, c.requires.longest)

pub feed-fed-requires-clause-no_feed : goal.feed-fed-requires-clause-no_feed
feed-fed-requires-clause-no_feed g c = λ κs k.
    let g = given c.args.self.now.cutter c.in-Line.line.number c.in-Line.line.bytes.now c.in-Line.ensures.value in
    HasNoLf-one_line c.in-Line.line.bytes.now (rw g.bytes_is (free_take c.args.self.now.cutter.rest))

pub returns-in-Ok-clause-comes : goal.returns-in-Ok-clause-comes
returns-in-Ok-clause-comes g c = λ q bytes lines h few.
    let line = c.in-Line.line.bytes.now in
    let g = tells_line bytes c.args.self.now.cutter lines c.in-Line.line.number line c.in-Line.ensures.value h.within.cuts in
    let next = next_number h c.in-Line.line.number c.engine_number-in-Line.result g.number_is c.engine_number-in-Line.ensures in
    let took = c.in-Ok.ensures.took q lines (sym h.header) next h.engine in (
      line,
      rw c.next_line.follows.holds-at-none (record {
        header = h.header;
        base = h.base;
        low = h.low;
        skipped = h.skipped;
        passed = omega (arith, h.passed, length-append lines (line ∷ []));
        within = within_more h.within c.in-Line.line.number line g (took_fine q (lines ++ line ∷ []) _ took);
        engine = took;
      }),
      c.in-Ok.ensures.text q lines (sym h.header) next h.engine,
    )

pub returns-in-Err-clause-comes : goal.returns-in-Err-clause-comes
returns-in-Err-clause-comes g c = λ q bytes lines h few ended.
    let line = c.in-Line.line.bytes.now in
    let g = tells_line bytes c.args.self.now.cutter lines c.in-Line.line.number line c.in-Line.ensures.value h.within.cuts in
    let next = next_number h c.in-Line.line.number c.engine_number-in-Line.result g.number_is c.engine_number-in-Line.ensures in
    rw c.from.ensures (line_stops h.within (took_final q lines c.args.self.now.engine h.engine) c.in-Line.line.number line c.in-Err.fault g (c.in-Err.ensures.fault q lines (sym h.header) next h.engine) ended)

pub returns-in-Err-clause-own : goal.returns-in-Err-clause-own
returns-in-Err-clause-own g c = rw c.from.ensures (own_at c.in-Err.fault)

pub returns-in-More-clause-gives : goal.returns-in-More-clause-gives
returns-in-More-clause-gives g c = λ k bytes lines h few. rw c.next_line.follows.holds-at-none
    (given_on h (within_all h.cut (tells_all bytes c.args.self.now.cutter lines c.in-More.ensures.value h.cut.cuts)) h.fine refl refl refl (omega arith))

pub returns-in-TooMany-clause-gives : goal.returns-in-TooMany-clause-gives
returns-in-TooMany-clause-gives g c = λ k bytes lines h few ended. (too_many h.cut (tells_too_many bytes c.args.self.now.cutter lines c.in-TooMany.ensures.value h.cut.cuts) few).long

pub returns-in-TooLong-clause-gives : goal.returns-in-TooLong-clause-gives
returns-in-TooLong-clause-gives g c = λ k bytes lines h few ended.
    let found = tells_too_long bytes c.args.self.now.cutter lines c.in-TooLong.number c.in-TooLong.ensures.value h.cut.cuts in
    rw c.too_long.ensures (stops_long h c.in-TooLong.number c.engine_number.result ended c.in-TooLong.ensures.value found.number_is c.engine_number.ensures)

pub returns-in-Ok-clause-gives : goal.returns-in-Ok-clause-gives
returns-in-Ok-clause-gives g c = λ k bytes lines h few.
    let line = c.in-Line.line.bytes.now in
    let g = tells_line bytes c.args.self.now.cutter lines c.in-Line.line.number line c.in-Line.ensures.value h.cut.cuts in (
      line,
      rw c.next_line.follows.holds-at-none
          (given_on h (within_more h.cut c.in-Line.line.number line g refl) (c.in-Ok.ensures.fine h.fine) refl refl c.in-Ok.ensures.open.2 (omega (arith, length-append lines (line ∷ [])))),
    )

pub returns-in-Err-clause-gives : goal.returns-in-Err-clause-gives
returns-in-Err-clause-gives g c = λ k bytes lines h few ended.
    let line = c.in-Line.line.bytes.now in
    let g = tells_line bytes c.args.self.now.cutter lines c.in-Line.line.number line c.in-Line.ensures.value h.cut.cuts in
    rw c.from.ensures (stops_at h c.in-Err.fault ended c.in-Line.line.number c.engine_number-in-Line.result line (line_fronts h.cut c.in-Line.line.number line g ended).0 g.number_is c.engine_number-in-Line.ensures
    (c.in-Err.ensures.bad h.fine))
