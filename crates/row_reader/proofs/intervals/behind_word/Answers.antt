use Rattle.std.proofs.Common.{◌≡◌, rules}
use Rattle.std.specs.Prelude.{codes}
use Rattle.std.proofs.lemmas.Slice.Eq.{strip_prefix_is}
use Rattle.row_reader.proofs.Numbers.{nat_eq-Decides}
use Rattle.row_reader.proofs.OnePass.{word_told}
use Rattle.row_reader.proofs.intervals.behind_word.Goals as goal

pub returns : goal.returns
returns c =
    let word = c.as_slice.result.now in
    let is : word ≡ codes "interval," = search rules in
    word_told c.args.text.now word c.strip_prefix.result is (strip_prefix_is nat_eq-Decides c.args.text.now word c.strip_prefix.result c.strip_prefix.ensures.cases)
