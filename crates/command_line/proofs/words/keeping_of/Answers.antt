use Rattle.std.proofs.Common.{sym}
use Rattle.clap.specs.Words.{found_of}
use Rattle.command_line.proofs.Clash.{something_kept}
use Rattle.command_line.proofs.words.keeping_of.Goals as goal

pub returns : goal.returns
returns c = λ k shows. something_kept (found_of c.args.matches.now) k c.in_ok-checkpoint.checkpoint.now c.text_of.result.now c.text_of-2.result.now c.number_of.result
    (sym c.in_ok-checkpoint.ensures) c.number_of.ensures c.text_of.ensures c.text_of-2.ensures shows
