use Rattle.std.proofs.Common.{◌∙◌, sym, ap, subst, set, List, length, ◌<◌}
use Rattle.edge_stream.specs.declared.saved.SavedEntry.{SavedEntry}
use Rattle.frozen_state.specs.declared.frozen.FrozenPart.{FrozenPart}
use Rattle.frozen_state.specs.Frozen.{FrozenView, with_entry}
use Rattle.frozen_state.proofs.Adding.{set_entry}
use Rattle.frozen_state.proofs.frozen.Frozen.push_entry.Goals as goal

pub returns-clause-ok : goal.returns-clause-ok
returns-clause-ok c =
    let v = c.self.inside in
    let p = c.index_mut.result.now in
    let parts = ap (λ (f : FrozenView). f.parts) c.self.view_is in
    let low : c.args.at < length v.parts.items = subst (λ (l : List FrozenPart). c.args.at < length l) (sym parts) c.requires in
    let put = ap (λ (s : List SavedEntry). set v.parts.items c.args.at (record p { saved = s })) c.in_ok-push.ensures.ok ∙ set_entry v.parts.items c.args.at c.args.entry p low c.index_mut.ensures.value in
    (λ i. record { lines = v.lines; last = v.last; bounds = v.bounds.items; marks = v.marks.items; texts = v.texts.items; parts = put i })
    ∙ ap (λ (f : FrozenView). record f { parts = with_entry c.args.at c.args.entry f.parts }) c.self.view_is
