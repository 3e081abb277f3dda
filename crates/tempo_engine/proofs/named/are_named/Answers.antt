use Rattle.std.proofs.Common.{◌∙◌, add-one, sym}
use Rattle.tempo_engine.proofs.Matching.{named_if, named_then, named_many, named_here, named_on}
use Rattle.tempo_engine.proofs.named.are_named.Goals as goal

pub returns-then-forms-parts : goal.returns-then-forms-parts
returns-then-forms-parts c = (λ h. absurd (cc), λ n. absurd (c.if-forms-parts.true (named_many c.args.forms.now c.args.parts.now n)))

pub returns-then-not-is_of : goal.returns-then-not-is_of
returns-then-not-is_of c = (
  λ h. absurd (cc),
  λ n.
      let f = c.index-forms-i.result in
      let p = c.index-parts-i.result in
      sym c.if-not-is_of.true ∙ c.is_of.ensures ∙ named_then f p (named_here c.args.forms.now c.args.parts.now c.loop-i.i f p c.loop-i-test.true c.index-forms-i.is c.index-parts-i.is n),
)

pub loop-i-preserved : goal.loop-i-preserved
loop-i-preserved c =
    let f = c.index-forms-i.result in
    let p = c.index-parts-i.result in
    rw add-one
    (named_on c.args.forms.now c.args.parts.now c.loop-i.i f p c.loop-i-test.true c.if-forms-parts.false c.index-forms-i.is c.index-parts-i.is (named_if f p (sym c.is_of.ensures ∙ c.if-not-is_of.false)) c.loop-i.invariant)
