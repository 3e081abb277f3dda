use Rattle.std.proofs.Common.{◌≡◌, ◌≤◌, ◌+◌, ◌++◌, false, sym, subst, ◌∙◌, ap, arith, slice_range, length}
use Rattle.std.specs.Prelude.{IsTrue}
use Rattle.wire_lines.specs.Cutter.{CutterState}
use Rattle.wire_lines.specs.Cuts.{Cuts}
use Rattle.wire_lines.specs.Reading.{fed}
use Rattle.wire_lines.proofs.Window.{piece_length, joined_rest, fed_some, Cuts-came}
use Rattle.wire_lines.proofs.cutter.LineCutter.read_from.Goals as goal

pub returns-then-count-gt0-clause-read : goal.returns-then-count-gt0-clause-read
returns-then-count-gt0-clause-read g c =
    let i = c.self.inside in
    let n = c.in_ok-count.count in
    let at = c.move_to_front-kept.result in
    let xs = c.read_at.new.buffer.items in
    let piece = slice_range xs at (at + n) in
    let m = c.move_to_front-kept.ensures in
    let r = c.in_ok-count.ensures in
    let v = c.self.invariant in
    let wants : IsTrue i.wants_bytes = subst (λ (t : CutterState). IsTrue t.wants_bytes) (sym c.self.view_is) c.requires.wants_bytes in
    let short = v.5 wants in
    let room : at + n ≤ length xs = omega (arith, r.bound, r.len, m.len, m.count, v.0, v.1, v.2, short, c.requires.fits) in
    let long = piece_length xs at n room in
    let s : CutterState = record { longest = i.longest; total = i.total; passed = i.passed; number = i.number; rest = slice_range i.buffer.items i.from i.to; wants_bytes = i.wants_bytes } in
    let came = fed_some s (slice_range xs 0 (at + n)) piece (omega (arith, long, c.if-count-gt0.true)) (joined_rest xs at n ∙ ap (λ l. l ++ piece) (r.kept ∙ m.moved)) in
    let state = subst (λ t. record s { rest = slice_range xs 0 (at + n); wants_bytes = false } ≡ fed t piece) c.self.view_is came in
    record {
      piece = piece;
      count = long;
      told = r.told;
      state = state;
      lines = λ bytes given cuts. subst (λ t. Cuts (bytes ++ piece) t given) (sym state) (Cuts-came bytes piece c.args.self.now given cuts);
    }
