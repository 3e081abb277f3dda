use Rattle.tempo_cli.proofs.freezing.buffer_for.Goals as goal

pub returns-clause-text : goal.returns-clause-text
returns-clause-text c = λ query workers plan policy formed sound few late often.
    let small = c.is_small.ensures.0 c.if-not-is_small.false in
    record {
      of_form = c.formed_has_text.ensures query workers policy plan formed small.0;
      short = c.lines_are_short.ensures query workers policy plan _ sound few late often (c.formed_has_text.ensures query workers policy plan formed small.0) small.1;
    }
