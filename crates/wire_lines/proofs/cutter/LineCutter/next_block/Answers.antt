use Rattle.std.proofs.Common.{◌≡◌, ◌≤◌, ◌+◌, ◌-◌, ◌<◌, ◌==◌, min, List, ℕ, false, refl, subst, ◌∙◌, ap, length, take, drop, slice_range, arith}
use Rattle.std.proofs.lemmas.List.{length-take}
use Rattle.std.specs.List.{count_by, slice_split}
use Rattle.wire_lines.specs.Lines.{whole}
use Rattle.wire_lines.specs.Cutter.{CutterState}
use Rattle.wire_lines.specs.Block.{block_lines, after_block}
use Rattle.wire_lines.proofs.Window.{rest_after, line_at}
use Rattle.wire_lines.proofs.Blocks.{block_after, some_line}
use Rattle.wire_lines.proofs.cutter.LineCutter.next_block.Goals as goal

pub returns : goal.returns
returns c =
    let i = c.self.inside in
    let n = c.in_ok-length.length in
    let xs = i.buffer.items in
    let s : CutterState = record { longest = i.longest; total = i.total; passed = i.passed; number = i.number; rest = slice_range xs i.from i.to; wants_bytes = i.wants_bytes } in
    let low : n < i.to - i.from = omega (arith, c.in_ok-length.ensures.within.1, length-take (i.to - i.from) (drop i.from c.deref.result.now)) in
    let within : n ≤ length s.rest = subst (λ (l : List ℕ). n ≤ length (take (i.to - i.from) (drop i.from l))) c.deref.ensures.value (omega (arith, c.in_ok-length.ensures.within.1)) in
    let here : slice_split (λ b. b == 10) (take n s.rest) ≡ block_lines s =
    subst (λ (l : List ℕ). slice_split (λ b. b == 10) (take n (take (i.to - i.from) (drop i.from l))) ≡ whole (take (min (i.longest + 1) (i.total - i.passed)) (take (i.to - i.from) (drop i.from l))))
    c.deref.ensures.value c.in_ok-length.ensures.some in
    let counted : c.count_feeds.result ≡ count_by (λ b. b == 10) (take n s.rest) =
    c.count_feeds.ensures ∙ ap (λ (l : List ℕ). count_by (λ b. b == 10) (take (i.from + n - i.from) (drop i.from l))) c.deref-2.ensures.value ∙ ap (count_by (λ b. b == 10)) (line_at xs i.from i.to n low) in
    let number : i.number + 1 + c.count_feeds.result ≡ s.number + 1 + count_by (λ b. b == 10) (take n s.rest) = ap (λ k. i.number + 1 + k) counted in
    let after = block_after s (slice_range xs (i.from + n + 1) i.to) n (i.number + 1 + c.count_feeds.result) within here number (rest_after xs i.from i.to n low) in
    let lines : slice_split (λ b. b == 10) (take (i.from + n - i.from) (drop i.from c.deref-3.result.now)) ≡ block_lines s =
    ap (λ (l : List ℕ). slice_split (λ b. b == 10) (take (i.from + n - i.from) (drop i.from l))) c.deref-3.ensures.value ∙ ap (slice_split (λ b. b == 10)) (line_at xs i.from i.to n low) ∙ here in
    let same = lines ∙ ap block_lines c.self.view_is in (
      (refl, λ _. tt, subst (λ (t : CutterState). record s { passed = s.passed + (n + 1); number = i.number + 1 + c.count_feeds.result; rest = slice_range xs (i.from + n + 1) i.to; wants_bytes = false } ≡ after_block t) c.self.view_is after),
      record {
        after = tt;
        some = (ap (λ (t : CutterState). t.number + 1) c.self.view_is, same);
        none = some_line (take (i.from + n - i.from) (drop i.from c.deref-3.result.now)) (block_lines c.args.self.now) same;
      },
    )
