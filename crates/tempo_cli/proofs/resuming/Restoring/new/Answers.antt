use Rattle.std.proofs.Common.{◌∙◌, refl, sym, ap, subst}
use Rattle.std.proofs.lemmas.List.Elements.{All-nil}
use Rattle.wire_lines.specs.Cutter.{CutterState}
use Rattle.checkpoint.specs.Text.{IsUnfinished}
use Rattle.checkpoint.specs.Taking.{lines_taken}
use Rattle.tempo_cli.specs.Freezing.{IsShort}
use Rattle.tempo_cli.proofs.Journals.{limit-is}
use Rattle.tempo_cli.proofs.resuming.Restoring.new.Goals as goal

pub returns-clause-reads : goal.returns-clause-reads
returns-clause-reads c = record {
  within = record {
    longest = ap (λ (s : CutterState). s.longest) c.in_ok-cutter.ensures.state;
    total = ap (λ (s : CutterState). s.total) c.in_ok-cutter.ensures.state ∙ sym limit-is;
    cuts = c.in_ok-cutter.ensures.lines;
    fine = refl;
  };
  form_is = c.in_ok-reader.ensures.form;
  taken = c.in_ok-reader.ensures.taken;
  number = refl;
  begun = record {
    unfinished = subst (IsUnfinished c.args.form) c.in_ok-reader.ensures.taken
        (subst (λ f. IsUnfinished f (lines_taken c.in_ok-reader.reader)) c.in_ok-reader.ensures.form c.goes_on.ensures);
    short = All-nil IsShort;
  };
}
