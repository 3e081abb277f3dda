use Rattle.std.proofs.Common.{◌∙◌, sym}
use Rattle.query_text.proofs.GrammarSteps.{read_word, read_nothing, read_stop, read_empty}
use Rattle.query_text.proofs.stack.Stack.read.Goals as goal

pub returns-in-Word : goal.returns-in-Word
returns-in-Word c = sym c.symbols.invariant ∙ read_word c.in-Some.symbol c.args.kind _ _ _ _ c.in-Some.ensures.some c.in-Word.is c.in_ok-choose.ensures

pub symbols-preserved : goal.symbols-preserved
symbols-preserved c = sym (read_nothing c.in-Some.symbol c.args.kind _ _ _ _ c.in-Some.ensures.some c.in-Nothing.is c.in_ok-choose.ensures) ∙ c.symbols.invariant

pub returns-in-Stop : goal.returns-in-Stop
returns-in-Stop c = sym c.symbols.invariant ∙ read_stop c.in-Some.symbol c.args.kind _ _ _ _ c.in-Some.ensures.some c.in-Stop.is c.in_ok-choose.ensures

pub returns : goal.returns
returns c = sym c.symbols.invariant ∙ read_empty c.args.kind _ c.in_default.ensures.none.0
