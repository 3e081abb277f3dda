use Rattle.std.proofs.Common.{◌≡◌, ◌+◌, ◌-◌, ◌<◌, false, refl, subst, ◌∙◌, ap, take, drop, slice_range, arith}
use Rattle.std.proofs.lemmas.List.{length-take}
use Rattle.wire_lines.specs.Cutter.{CutterState, Given}
use Rattle.wire_lines.specs.Found.{found}
use Rattle.wire_lines.specs.Next.{next, after_next}
use Rattle.wire_lines.proofs.Window.{rest_after, line_at, given_next, given_after}
use Rattle.wire_lines.proofs.cutter.LineCutter.next_line.Goals as goal

pub returns-in-Line : goal.returns-in-Line
returns-in-Line c =
    let i = c.self.inside in
    let n = c.in-Line.length in
    let xs = i.buffer.items in
    let s : CutterState = record { longest = i.longest; total = i.total; passed = i.passed; number = i.number; rest = slice_range xs i.from i.to; wants_bytes = i.wants_bytes } in
    let here = c.in-Line.ensures.which ∙ ap (λ l. found i.longest (i.total - i.passed) (take (i.to - i.from) (drop i.from l))) c.deref.ensures.value in
    let low : n < i.to - i.from = omega (arith, c.in-Line.ensures.fits.1, length-take (i.to - i.from) (drop i.from c.deref.result.now)) in
    let after = given_after s (slice_range xs (i.from + n + 1) i.to) n here (rest_after xs i.from i.to n low) in
    let line = given_next s (take (i.from + n - i.from) (drop i.from c.deref-in-Line.result.now)) n here (ap (λ l. take (i.from + n - i.from) (drop i.from l)) c.deref-in-Line.ensures.value ∙ line_at xs i.from i.to n low) in (
      (refl, λ _. tt, subst (λ t. record s { passed = s.passed + (n + 1); number = s.number + 1; rest = slice_range xs (i.from + n + 1) i.to; wants_bytes = false } ≡ after_next t) c.self.view_is after),
      record {
        after = tt;
        value = subst (λ t. Given (s.number + 1) (take (i.from + n - i.from) (drop i.from c.deref-in-Line.result.now)) ≡ next t) c.self.view_is line;
      },
    )
