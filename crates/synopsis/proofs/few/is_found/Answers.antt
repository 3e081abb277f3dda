use Rattle.std.proofs.Common.{sym}
use Rattle.synopsis.proofs.Together.{words_apart}
use Rattle.synopsis.proofs.few.is_found.Goals as goal

pub returns-then-own-word : goal.returns-then-own-word
returns-then-own-word c = sym (words_apart c.args.columns.now c.args.key.now c.args.row.now c.args.own c.args.word c.requires.own c.requires.word c.if-own-word.true)
