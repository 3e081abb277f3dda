use Rattle.std.proofs.Common.{◌≡◌, sym, ◌∙◌, ap, subst}
use Rattle.checkpoint.specs.declared.reading.ReadingStage.TheVariants.{Ended}
use Rattle.checkpoint.specs.Text.{IsUnfinished}
use Rattle.checkpoint.specs.Taking.{ReaderView, lines_taken}
use Rattle.checkpoint.proofs.Stepping.{is_taking}
use Rattle.checkpoint.proofs.Unfinished.{unfinished}
use Rattle.checkpoint.proofs.reader.Reader.goes_on.Goals as goal

pub returns : goal.returns
returns c =
    let r = c.self.inside.reading in
    let going : r.stage ≡ Ended → ⊥ = λ e. c.requires (sym (ap (λ (v : ReaderView). v.stage) c.self.view_is) ∙ e) in
    subst (λ (v : ReaderView). IsUnfinished v.form (lines_taken v)) c.self.view_is
    (unfinished r.form r.frozen r.stage going (is_taking r.form r.frozen r.stage going c.self.invariant))
