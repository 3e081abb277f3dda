use Rattle.std.proofs.Common.{sym, ap, ◌∙◌}
use Rattle.tw_rows.specs.declared.cells.Datum.{Datum}
use Rattle.std.specs.Prelude.{List}
use Rattle.synopsis.specs.Held.{key_of, is_of_key}
use Rattle.synopsis.proofs.Together.{words_apart}
use Rattle.temporal_join.specs.Lives.{row_of}
use Rattle.temporal_join.proofs.live_pairs.is_partner.Goals as goal

pub returns-then-other-word : goal.returns-then-other-word
returns-then-other-word c = λ word own.
    let x = c.args.other.now in
    sym (words_apart c.args.columns.now (key_of c.args.own.now c.args.cells.now) (row_of x) x.word c.args.word own word c.if-other-word.true)

pub returns : goal.returns
returns c = λ word own.
    let x = c.args.other.now in
    c.same_key.ensures x.edge.sync ∙ ap (λ (l : List Datum). is_of_key c.args.columns.now (key_of c.args.own.now c.args.cells.now) (record { cells = l; start = x.edge.sync })) c.items.ensures
