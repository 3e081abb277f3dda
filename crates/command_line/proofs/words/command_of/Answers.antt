use Rattle.std.specs.Prelude.{option_map}
use Rattle.command_line.specs.Words.{kept_by}
use Rattle.command_line.proofs.Same.{asked_is}
use Rattle.command_line.proofs.words.command_of.Goals as goal

pub returns : goal.returns
returns c = λ a s. asked_is c.text_of.result.now a.query c.mode_of.result a.mode c.size_of.result a.batch c.size_of-2.result a.workers c.header_of.result a.header c.policy_of.result a.policy c.number_of.result a.number c.number_of-2.result a.events (option_map kept_by c.keeping_of.result) a.keeping
    (c.text_of.ensures a.query s.query) (c.mode_of.ensures a.mode s.mode) (c.size_of.ensures 1 8192 a.batch s.batch) (c.size_of-2.ensures 1 16 a.workers s.workers) (c.header_of.ensures a.header s.header) (c.policy_of.ensures a s)
    (c.number_of.ensures 0 4294967295 a.number s.number) (c.number_of-2.ensures 1 1000000 a.events s.events) (c.keeping_of.ensures a.keeping s.keeping)
