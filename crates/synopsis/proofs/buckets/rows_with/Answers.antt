use Rattle.std.proofs.Common.{◌∙◌, Some, None}
use Rattle.synopsis.proofs.Keyed.{rows_found}
use Rattle.synopsis.proofs.buckets.rows_with.Goals as goal

pub returns-in-Some : goal.returns-in-Some
returns-in-Some c = λ columns keyed.
    c.rows.ensures ∙ rows_found c.args.buckets.now.entries c.args.key.now (Some c.in-Some.bucket.now) c.in-Some.ensures.value c.len.ensures.unique columns keyed

pub returns-in-None : goal.returns-in-None
returns-in-None c = λ columns keyed. rows_found c.args.buckets.now.entries c.args.key.now None c.in-None.ensures.value c.len.ensures.unique columns keyed
