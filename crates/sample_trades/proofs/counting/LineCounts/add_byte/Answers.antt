use Rattle.std.proofs.Common.{◌≡◌, ◌≢◌, ◌<◌, ◌≤◌, ◌∷◌, ◌++◌, [], ℕ, List, refl, sym, ◌∙◌, ap, codes, take, length, arith}
use Rattle.wire_lines.specs.Lines.{rest}
use Rattle.sample_trades.specs.Summary.{begin_with}
use Rattle.sample_trades.specs.Counted.{Counted}
use Rattle.sample_trades.specs.declared.counting.LineCounts.{LineCounts}
use Rattle.sample_trades.proofs.Bytes.{whole_goes_on, rest_goes_on, first_more, first_full}
use Rattle.sample_trades.proofs.counting.LineCounts.add_byte.Goals as goal

-- no line has ended
goes_on : (text : List ℕ) (byte : ℕ) (s t : LineCounts) → byte ≢ 10 → Counted text s → t.starts ≡ s.starts → t.ends ≡ s.ends → t.puncts ≡ s.puncts → t.first.items ≡ take 10 (rest text ++ byte ∷ []) → Counted (text ++ byte ∷ []) t
goes_on text byte s t other h starts ends puncts first =
    let same = sym (whole_goes_on text byte other) in
    record {
      starts = starts ∙ (h.starts ∙ ap (begin_with (codes "out,start,")) same);
      ends = ends ∙ (h.ends ∙ ap (begin_with (codes "out,end,")) same);
      puncts = puncts ∙ (h.puncts ∙ ap (begin_with (codes "*,punct,")) same);
      first = first ∙ ap (take 10) (sym (rest_goes_on text byte other));
    }

pub returns-in_ok-push : goal.returns-in_ok-push
returns-in_ok-push c = λ text h.
    let low : length c.args.self.now.first.items < 10 = omega (arith, ap length c.as_slice.ensures.value, c.if-as_slice-lt-TELLING.true) in
    goes_on text c.args.byte c.args.self.now _ c.if-byte-eq10.false h refl refl refl (c.in_ok-push.ensures.items ∙ first_more c.args.self.now.first.items (rest text) c.args.byte h.first low)

pub returns-else-as_slice-lt-TELLING : goal.returns-else-as_slice-lt-TELLING
returns-else-as_slice-lt-TELLING c = λ text h.
    let full : 10 ≤ length c.args.self.now.first.items = omega (arith, ap length c.as_slice.ensures.value, c.if-as_slice-lt-TELLING.false) in
    goes_on text c.args.byte c.args.self.now c.args.self.now c.if-byte-eq10.false h refl refl refl (first_full c.args.self.now.first.items (rest text) c.args.byte h.first full)
