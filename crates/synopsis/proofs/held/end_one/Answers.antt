use Rattle.std.specs.Prelude.{◌++◌, drop}
use Rattle.std.specs.Option.{option_to_list}
use Rattle.std.proofs.Common.{◌∙◌, ap}
use Rattle.synopsis.specs.Holding.{since_of}
use Rattle.synopsis.proofs.HeldRows.{no_first, first_told}
use Rattle.synopsis.proofs.Telling.{no_ends}
use Rattle.synopsis.proofs.held.end_one.Goals as goal

pub returns-in_default-clause-told : goal.returns-in_default-clause-told
returns-in_default-clause-told c =
    let since = since_of c.args.held.now c.args.cells.now in
    no_ends c.args.at 1 c.args.cells.now c.args.answer.now.items since (no_first since (c.in_ok-taken.ensures.first ∙ ap (λ o. option_to_list o ++ drop 1 since) c.in_default.is))

pub returns-clause-told : goal.returns-clause-told
returns-clause-told c =
    let since = since_of c.args.held.now c.args.cells.now in
    c.in_ok-push_end.ensures ∙ ap (λ l. c.args.answer.now.items ++ l) (first_told c.args.at c.args.cells.now since c.in-Some.start (c.in_ok-taken.ensures.first ∙ ap (λ o. option_to_list o ++ drop 1 since) c.in-Some.is))
