use Rattle.std.proofs.Common.{◌≡◌, ◌≤◌, ◌+◌, ◌*◌, ◌-◌, drop, length, ap, sym, subst, ◌∙◌, arith}
use Rattle.std.proofs.lemmas.List.{drop-drop, take-take}
use Rattle.row_reader.specs.Line.{AreSimple}
use Rattle.row_reader.proofs.Lines.{both_false, simple_behind, simple_parts}
use Rattle.row_reader.proofs.line.has_special.Goals as goal

pub loop-i-preserved : goal.loop-i-preserved
loop-i-preserved c = record {
  blocks = λ off more.
      let both = both_false c.loop-i.found c.any_special-found-in-loop-i.result off in
      let long = length c.args.line.now in
      let block = drop (c.loop-i.i * 16) c.args.line.now in
      let fits : 16 ≤ long - c.loop-i.i * 16 = omega (arith, c.loop-i-test.true) in
      let simple = subst (λ n. AreSimple n) (take-take 16 (long - c.loop-i.i * 16) block fits) (c.any_special-found-in-loop-i.ensures both.1) in
      let next : (c.loop-i.i + 1) * 16 ≡ c.loop-i.i * 16 + 16 = omega arith in
      c.loop-i.invariant.blocks both.0 (simple_parts 16 block simple (subst (λ n. AreSimple n) (ap (λ n. drop n c.args.line.now) next ∙ sym (drop-drop 16 (c.loop-i.i * 16) c.args.line.now)) more));
  last = λ off. c.loop-i.invariant.last (both_false c.loop-i.found c.any_special-found-in-loop-i.result off).0;
}

-- The blocks end within the last one.
pub returns : goal.returns
returns c = λ off.
    let long = length c.args.line.now in
    let n = c.loop-i.i * 16 in
    let within : long - 16 ≤ n = omega (arith, c.loop-i-test.false, c.if-line-lt-BLOCK.false) in
    let whole : (long - 16) + (n - (long - 16)) ≡ n = omega (arith, within) in
    c.loop-i.invariant.blocks off (subst (λ n. AreSimple n) (drop-drop (n - (long - 16)) (long - 16) c.args.line.now ∙ ap (λ m. drop m c.args.line.now) whole) (simple_behind (n - (long - 16)) (drop (long - 16) c.args.line.now) (c.loop-i.invariant.last off)))
