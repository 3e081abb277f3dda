use Rattle.std.proofs.Common.{◌≡◌, ◌≤◌, ◌∙◌, true, ap, length, map, sym, subst}
use Rattle.plan_model.specs.IsPlan.{PlanParts}
use Rattle.frozen_state.specs.Frozen.{FrozenView}
use Rattle.frozen_state.specs.Forms.{part_forms}
use Rattle.frozen_state.specs.Formed.{ArePartsOf}
use Rattle.tempo_engine.specs.Kept.{node_counts, frozen_of}
use Rattle.tempo_engine.specs.Named.{AreNamed}
use Rattle.tempo_engine.proofs.Naming.{parts_named}
use Rattle.tempo_engine.specs.Entries.{entries_of}
use Rattle.tempo_engine.specs.Freezing.{kept_at_most}
use Rattle.tempo_engine.proofs.Fitting.{fits_parts}
use Rattle.tempo_engine.proofs.parts.Parts.freeze.Goals as goal

pub has_form-requires : goal.has_form-requires
has_form-requires c =
    let e = c.args.self.now in
    let named = parts_named e.dataflow.workers e.dataflow.plan c.in_ok-kept.kept c.in_ok-kept.ensures.shards in
    let here = subst (λ (f : FrozenView). AreNamed (part_forms e.dataflow.workers e.dataflow.plan) f.parts) (sym c.in_ok-frozen.ensures) named in
    record {
      named = subst (λ n. AreNamed (part_forms n c.plan.result.now) c.in_ok-frozen.frozen.parts) (sym c.workers-workers.ensures)
          (subst (λ (q : PlanParts). AreNamed (part_forms e.dataflow.workers q) c.in_ok-frozen.frozen.parts) (sym c.plan.ensures) here);
    }

pub returns-then-formed-clause-fits : goal.returns-then-formed-clause-fits
returns-then-formed-clause-fits c = λ plan policy w given lists whole going went.
    let e = c.args.self.now in
    let k = c.in_ok-kept.kept in
    let f = c.in_ok-frozen.frozen in
    let is = c.in_ok-frozen.ensures ∙ ap (λ t. frozen_of c.args.lines t k) c.in_ok-texts.ensures in
    let yes : c.in_ok-formed.formed ≡ true = cc in
    let form = c.in_ok-formed.ensures.0 yes in
    let parts = subst (λ n. ArePartsOf (part_forms n c.plan.result.now) f.parts) c.workers-workers.ensures form.parts in
    fits_parts e.dataflow.workers plan w given lists c.args.lines e.texts k f is
    (subst (λ (q : PlanParts). map (λ shards. length shards) k.nodes ≡ node_counts e.dataflow.workers q) went.planned c.in_ok-kept.ensures.shards)
    (c.in_ok-kept.ensures.bounds ∙ ap (λ (q : PlanParts). length q.streams) went.planned) (c.in_ok-kept.ensures.marks ∙ ap (λ (q : PlanParts). length q.streams) went.planned)
    c.each_text_once.ensures (subst (λ (q : PlanParts). ArePartsOf (part_forms e.dataflow.workers q) f.parts) (c.plan.ensures ∙ went.planned) parts)
    form.placed form.one_line (c.in_ok-kept.ensures.fits plan policy w given lists whole going went)

pub returns-then-formed-clause-few : goal.returns-then-formed-clause-few
returns-then-formed-clause-few c = λ plan policy w given lists whole going went.
    let e = c.args.self.now in
    subst (λ (f : FrozenView). entries_of f.parts ≤ kept_at_most plan w lists e) (sym c.in_ok-frozen.ensures)
    (c.in_ok-kept.ensures.few plan policy w given lists whole going went)
