use Rattle.std.proofs.Common.{refl, sym, ◌∙◌, ap, codes, take}
use Rattle.sample_trades.proofs.Bytes.{one_line_more, rest_ends}
use Rattle.sample_trades.proofs.counting.LineCounts.end_line.Goals as goal

pub returns : goal.returns
returns c = λ text h.
    let first = c.as_slice-first.ensures.value ∙ h.first in
    record {
      starts = one_line_more (codes "out,start,") c.as_slice-first.result.now text c.args.self.now.starts c.in_ok-starts.starts refl first h.starts c.in_ok-starts.ensures;
      ends = one_line_more (codes "out,end,") c.as_slice-first.result.now text c.args.self.now.ends c.in_ok-ends.ends refl first h.ends c.in_ok-ends.ensures;
      puncts = one_line_more (codes "*,punct,") c.as_slice-first.result.now text c.args.self.now.puncts c.in_ok-puncts.puncts refl first h.puncts c.in_ok-puncts.ensures;
      first = c.clear.ensures.items ∙ ap (take 10) (sym (rest_ends text));
    }
