use Rattle.std.proofs.Common.{◌≡◌, refl, subst, ap, ◌∙◌}
use Rattle.csv.specs.Records.{AllText}
use Rattle.row_reader.specs.Fields.{left, commas}
use Rattle.row_reader.specs.declared.fields.Fields.TheVariants.{Plain}
use Rattle.row_reader.proofs.TextFields.{texts_behind}
use Rattle.row_reader.proofs.intervals.read_interval.Goals as goal

pub read_short_values-requires : goal.read_short_values-requires
read_short_values-requires c =
    let is : left c.args.fields ≡ commas c.in-Some.text.now = ap left c.in-Plain.is ∙ ap (λ o. left (Plain o)) c.in-Some.is in
    texts_behind _ _ _ (texts_behind _ _ _ (texts_behind _ _ _ (subst AllText is c.requires) c.in-Some-behind_word.ensures) c.in-Some-split_times.ensures.fields) refl
