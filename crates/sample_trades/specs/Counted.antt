-- The counts of a text so far.
use Rattle.std.specs.Prelude.{◌≡◌, ℕ, List, take}
use Rattle.wire_lines.specs.Lines.{rest}
use Rattle.sample_trades.specs.Summary.{summary_of}
use Rattle.sample_trades.specs.declared.counting.LineCounts.{LineCounts}

-- the counts are those of the whole lines of the text, and the first bytes of what follows them are known: after
-- `out,start,1,inf`, a line feed and `out,end,2,1` there is one start line, no end line, and `out,end,2,`
pub record Counted (text : List ℕ) (c : LineCounts) : Type 0 where
  pub starts : c.starts ≡ (summary_of text).starts
  pub ends : c.ends ≡ (summary_of text).ends
  pub puncts : c.puncts ≡ (summary_of text).puncts
  pub first : c.first.items ≡ take 10 (rest text)
