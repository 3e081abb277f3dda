use Rattle.std.proofs.Common.{refl, arith}
use Rattle.wire_lines.proofs.CutsFacts.{tells_line, tells_too_long, tells_too_many, tells_all}
use Rattle.wire_lines.proofs.LineLength.{line_len-le}
use Rattle.wire_lines.proofs.NextFacts.{wanting}
use Rattle.tempo_cli.proofs.Taking.{reads_all, stops_full, stops_long, reads_more, reads_last, stops_line}
use Rattle.tempo_cli.proofs.resuming.Restoring.next_part.Goals as goal

pub returns-in-More-clause-comes : goal.returns-in-More-clause-comes
returns-in-More-clause-comes c = λ form bytes given h few.
    reads_all h _ (tells_all bytes c.args.self.now.cutter given c.in-More.ensures.value h.within.cuts) c.next_line.follows.holds-at-none refl refl

pub returns-in-More-clause-wants : goal.returns-in-More-clause-wants
returns-in-More-clause-wants c = λ e.
    let w = wanting c.args.self.now.cutter c.in-More.ensures.value in
    rw (c.next_line.follows.holds-at-none, w.after) (record {
      longest = c.requires.longest;
      wants_bytes = refl;
      one_line = omega (arith, w.no_line, line_len-le c.args.self.now.cutter.rest);
      short = omega (arith, w.no_line, line_len-le c.args.self.now.cutter.rest, w.short, w.room, c.requires.longest);
    })

pub returns-in-TooMany-clause-comes : goal.returns-in-TooMany-clause-comes
returns-in-TooMany-clause-comes c = λ form bytes given h few ended. stops_full h (tells_too_many bytes c.args.self.now.cutter given c.in-TooMany.ensures.value h.within.cuts) few ended

pub returns-in-TooLong-clause-comes : goal.returns-in-TooLong-clause-comes
returns-in-TooLong-clause-comes c = λ form bytes given h few ended.
    let found = tells_too_long bytes c.args.self.now.cutter given c.in-TooLong.number c.in-TooLong.ensures.value h.within.cuts in
    stops_long h c.in-TooLong.number c.in-TooLong.ensures.value found.number_is ended

pub returns-in-Ok-None-clause-comes : goal.returns-in-Ok-None-clause-comes
returns-in-Ok-None-clause-comes c = λ form bytes given h few.
    let line = c.in-Line.line.bytes.now in
    let g = tells_line bytes c.args.self.now.cutter given c.in-Line.line.number line c.in-Line.ensures.value h.within.cuts in
    let takes = rw (c.in-Ok-None.is, c.in-Ok-None.field-0-is) at c.take_line-taken.ensures.takes in
    (line, reads_more h c.in-Line.line.number line g _ c.next_line.follows.holds-at-none refl takes)

pub returns-in-Ok-Some-clause-comes : goal.returns-in-Ok-Some-clause-comes
returns-in-Ok-Some-clause-comes c = λ form bytes given h few.
    let line = c.in-Line.line.bytes.now in
    let g = tells_line bytes c.args.self.now.cutter given c.in-Line.line.number line c.in-Line.ensures.value h.within.cuts in
    let takes = rw (c.in-Ok-Some.is, c.in-Ok-Some.field-0-is) at c.take_line-taken.ensures.takes in
    (line, reads_last h c.in-Line.line.number line g _ c.in-Ok-Some.frozen c.next_line.follows.holds-at-none refl takes)

pub returns-in-Err-clause-comes : goal.returns-in-Err-clause-comes
returns-in-Err-clause-comes c = λ form bytes given h few ended.
    let line = c.in-Line.line.bytes.now in
    let g = tells_line bytes c.args.self.now.cutter given c.in-Line.line.number line c.in-Line.ensures.value h.within.cuts in
    stops_line h c.in-Line.line.number line g c.in-Err.status c.take_line-taken.new.reader c.in-Err.ensures.takes ended
