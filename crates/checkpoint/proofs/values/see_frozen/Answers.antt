use Rattle.std.proofs.Common.{ℕ, ◌≤◌, subst}
use Rattle.std.specs.Prelude.{All}
use Rattle.std.specs.Str.{IsUtf8}
use Rattle.tw_rows.specs.Instant.{inf}
use Rattle.checkpoint.specs.Values.{IsPartValue}
use Rattle.checkpoint.proofs.values.see_frozen.Goals as goal

pub returns : goal.returns
returns c = record {
  last = subst (λ (t : ℕ). t ≤ inf) c.last.ensures c.see_time.ensures;
  bounds = subst (All (λ t. t ≤ inf)) c.bounds.ensures c.see_times.ensures;
  marks = subst (All (λ t. t ≤ inf)) c.marks.ensures c.see_times-2.ensures;
  texts = subst (All IsUtf8) c.texts.ensures c.see_texts.ensures;
  parts = subst (All IsPartValue) c.parts.ensures c.see_parts.ensures;
}
