use Rattle.std.proofs.Common.{◌≡◌, true, false, refl, arith}
use Rattle.tempo_cli.proofs.Journals.{limit-is}
use Rattle.tempo_cli.proofs.Numbers.{given_few, line_number}
use Rattle.tempo_cli.proofs.Taking.{stops_without, number_last, whole_last, stops_more, stops_last}
use Rattle.tempo_cli.proofs.resuming.Restoring.last_part.Goals as goal

never : true ≡ false → ⊥
never e = cc

pub returns-in_default-clause-stops : goal.returns-in_default-clause-stops
returns-in_default-clause-stops c = λ form bytes given h.
    stops_without h c.requires.wants c.saturating_add.result (c.in_default.ensures.none.0 refl) (omega (arith, c.saturating_add.ensures, h.number, given_few h.within, limit-is))

pub returns-in-Ok-Some-clause-whole : goal.returns-in-Ok-Some-clause-whole
returns-in-Ok-Some-clause-whole c = λ form bytes given h.
    whole_last h c.requires.wants c.in-Some.line.number c.in-Some.line.bytes.now (λ e. never (c.in-Some.ensures.none.1 e)) c.in-Some.ensures.some.1
    (line_number h.within c.in-Some.line.number c.in-Some.ensures.some.0) c.in-Ok-Some.frozen c.take_line.new.reader (rw c.in-Ok-Some.field-0-is at c.in-Ok-Some.ensures.takes)

pub returns-in-Ok-Some-clause-number : goal.returns-in-Ok-Some-clause-number
returns-in-Ok-Some-clause-number c = λ form bytes given h.
    number_last h c.requires.wants c.in-Some.line.number c.in-Some.line.bytes.now (λ e. never (c.in-Some.ensures.none.1 e)) c.in-Some.ensures.some.1
    (line_number h.within c.in-Some.line.number c.in-Some.ensures.some.0)

pub returns-in-Ok-None-clause-stops : goal.returns-in-Ok-None-clause-stops
returns-in-Ok-None-clause-stops c = λ form bytes given h.
    stops_more h c.requires.wants c.in-Some.line.number c.in-Some.line.bytes.now (λ e. never (c.in-Some.ensures.none.1 e)) c.in-Some.ensures.some.1
    (line_number h.within c.in-Some.line.number c.in-Some.ensures.some.0) c.saturating_add-in-Ok-None.result c.take_line.new.reader (rw c.in-Ok-None.field-0-is at c.in-Ok-None.ensures.takes)
    (omega (arith, c.saturating_add-in-Ok-None.ensures, c.in-Some.ensures.some.0, h.within.cuts.number_is, given_few h.within, limit-is))

pub returns-in-Err-clause-stops : goal.returns-in-Err-clause-stops
returns-in-Err-clause-stops c = λ form bytes given h.
    stops_last h c.requires.wants c.in-Some.line.number c.in-Some.line.bytes.now (λ e. never (c.in-Some.ensures.none.1 e)) c.in-Some.ensures.some.1
    (line_number h.within c.in-Some.line.number c.in-Some.ensures.some.0) c.in-Err.status c.take_line.new.reader c.in-Err.ensures.takes
