use Rattle.std.proofs.Common.{◌≡◌, map, sym, subst, true}
use Rattle.clap.specs.Words.{found_of, rows_of}
use Rattle.command_line.specs.Words.{AreWithin, SpellsCommand, are_taken, asked_by}
use Rattle.command_line.proofs.Clash.{joined, parted}
use Rattle.command_line.proofs.Spelled.{spelled}
use Rattle.command_line.proofs.words.read_words.Goals as goal

pub returns-in-Some-clause-refused : goal.returns-in-Some-clause-refused
returns-in-Some-clause-refused c = parted (map (λ w. w.now) c.args.words.now) (rows_of (found_of c.in-Ok.matches)) c.in-Ok.ensures.matches c.in-Some.ensures

pub returns-in-Ok-clause-spelled : goal.returns-in-Ok-clause-spelled
returns-in-Ok-clause-spelled c =
    let words = map (λ w. w.now) c.args.words.now in
    let taken : are_taken words ≡ true = joined words (rows_of (found_of c.in-Ok.matches)) c.in-Ok.ensures.taken c.in-Ok.ensures.matches c.in-None.ensures in
    let s = spelled words taken in
    let is : asked_by c.command_of.result ≡ s.asked = c.command_of.ensures s.asked (s.shows (found_of c.in-Ok.matches) c.in-Ok.ensures.matches) in
    subst (SpellsCommand words) (sym is) s.spells

pub returns-in-Ok-clause-within : goal.returns-in-Ok-clause-within
returns-in-Ok-clause-within c =
    let words = map (λ w. w.now) c.args.words.now in
    let taken : are_taken words ≡ true = joined words (rows_of (found_of c.in-Ok.matches)) c.in-Ok.ensures.taken c.in-Ok.ensures.matches c.in-None.ensures in
    let s = spelled words taken in
    let is : asked_by c.command_of.result ≡ s.asked = c.command_of.ensures s.asked (s.shows (found_of c.in-Ok.matches) c.in-Ok.ensures.matches) in
    subst AreWithin (sym is) s.within
