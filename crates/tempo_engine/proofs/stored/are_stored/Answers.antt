use Rattle.std.proofs.Common.{add-one, refl, sym, subst, All, take, arith, ap, ◌∙◌}
use Rattle.std.proofs.lemmas.List.{take_all}
use Rattle.frozen_state.specs.Formed.{IsStoredIn, ArePartsOf}
use Rattle.frozen_state.specs.declared.frozen.FrozenPart.{FrozenPart}
use Rattle.tempo_engine.proofs.Matching.{stored_on, stored_here, named_many}
use Rattle.tempo_engine.proofs.stored.are_stored.Goals as goal

pub loop-i-preserved : goal.loop-i-preserved
loop-i-preserved c =
    let f = c.index-forms-i.result in
    let p = c.index-parts-i.result in
    rw add-one (stored_on c.args.forms.now c.args.parts.now c.loop-i.i f p c.loop-i-test.true c.index-forms-i.is c.index-parts-i.is c.requires.named (subst (λ es. All (IsStoredIn f.rows) es) (c.entries.ensures ∙ ap (λ (q : FrozenPart). q.saved) (sym c.index-parts-i.is)) (c.are_entries_stored.ensures.0 c.if-not-are_entries_stored.false)) c.loop-i.invariant)

pub bounds-parts-i : goal.bounds-parts-i
bounds-parts-i c = (let many = named_many c.args.forms.now c.args.parts.now c.requires.named in omega arith)

pub returns : goal.returns
returns c = (
  λ yes.
      let many = named_many c.args.forms.now c.args.parts.now c.requires.named in
      subst (λ fs. ArePartsOf fs c.args.parts.now) (take_all c.loop-i.i c.args.forms.now c.loop-i-test.false)
      (subst (λ ps. ArePartsOf (take c.loop-i.i c.args.forms.now) ps) (take_all c.loop-i.i c.args.parts.now (omega arith)) c.loop-i.invariant),
  λ all. refl,
)

pub returns-then-not-are_entries_stored : goal.returns-then-not-are_entries_stored
returns-then-not-are_entries_stored c = (
  λ h. absurd (cc),
  λ h.
      let f = c.index-forms-i.result in
      let p = c.index-parts-i.result in
      let here = stored_here c.args.forms.now c.args.parts.now c.loop-i.i f p c.loop-i-test.true c.index-forms-i.is c.index-parts-i.is h in
      sym c.if-not-are_entries_stored.true ∙ c.are_entries_stored.ensures.1
      (subst (λ es. All (IsStoredIn f.rows) es) (sym (c.entries.ensures ∙ ap (λ (q : FrozenPart). q.saved) (sym c.index-parts-i.is))) here),
)
