use Rattle.std.proofs.Common.{◌≡◌, ◌∙◌, ◌||◌, Bool, true, false, not, sym, ap, codes, is_some}
use Rattle.clap.specs.Words.{found_of, rows_of}
use Rattle.command_line.specs.Words.{stands}
use Rattle.command_line.proofs.Clash.{more_stands, second_of, third_of, with_file, without_file}
use Rattle.command_line.proofs.words.clash.Goals as goal
use Rattle.command_line.proofs.words.clash.Goals.{then-stands-via-then-stands, then-stands-via-else-stands+then-stands-2, then-stands-via-else-stands+else-stands-2+then-stands-3}

pub returns-then-is_run : goal.returns-then-is_run
returns-then-is_run c =
    sym (with_file (found_of c.args.matches.now) c.get_str.result c.get_str.ensures (sym c.is_some.ensures ∙ c.if-is_some.true) ∙ (sym c.is_run.ensures ∙ c.if-is_run.true))

pub returns-then-is_some : goal.returns-then-is_some
returns-then-is_some c =
    sym (with_file (found_of c.args.matches.now) c.get_str.result c.get_str.ensures (sym c.is_some.ensures ∙ c.if-is_some.true) ∙ (sym c.is_run.ensures ∙ c.if-is_run.false))

pub returns-then-stands : goal.returns-then-stands
returns-then-stands c =
    let rows = rows_of (found_of c.args.matches.now) in
    let every = stands (codes "every") rows in
    let input = stands (codes "input") rows in
    let output = stands (codes "output") rows in
    let more : more_stands rows ≡ true = elim c.then-stands.branch [
      | then-stands-via-then-stands w ↦ ap (λ (b : Bool). b || input || output) (sym c.stands.ensures ∙ w.if-stands.true)
      | then-stands-via-else-stands+then-stands-2 w ↦ second_of every input output (sym w.stands-else-stands.ensures ∙ w.if-stands-2.true)
      | then-stands-via-else-stands+else-stands-2+then-stands-3 w ↦ third_of every input output (sym w.stands-else-stands-2.ensures ∙ w.if-stands-3.true)
    ] in
    sym (without_file (found_of c.args.matches.now) c.get_str.result c.get_str.ensures (sym c.is_some.ensures ∙ c.if-is_some.false) ∙ ap not more)

pub returns : goal.returns
returns c =
    let rows = rows_of (found_of c.args.matches.now) in
    let every : stands (codes "every") rows ≡ false = sym c.stands.ensures ∙ c.if-stands.false in
    let input : stands (codes "input") rows ≡ false = sym c.stands-else-stands.ensures ∙ c.if-stands-2.false in
    let output : stands (codes "output") rows ≡ false = sym c.stands-else-stands-2.ensures ∙ c.if-stands-3.false in
    let none : more_stands rows ≡ false = λ i. every i || input i || output i in
    sym (without_file (found_of c.args.matches.now) c.get_str.result c.get_str.ensures (sym c.is_some.ensures ∙ c.if-is_some.false) ∙ ap not none)
