use Rattle.std.specs.Prelude.{map, ◌/◌}
use Rattle.std.proofs.Common.{◌∙◌, ap, sym, arith}
use Rattle.std.proofs.lemmas.List.{length-map}
use Rattle.tw_rows.specs.Kinds.{cell_kind_of}
use Rattle.tw_rows.specs.Cells.{datum_kind}
use Rattle.ingress.proofs.LoadedAll.{kinds_at}
use Rattle.ingress.proofs.loading.is_sound_entry.Goals as goal

pub returns-then-not-is_stored_as-clause-no : goal.returns-then-not-is_stored_as-clause-no
returns-then-not-is_stored_as-clause-no c = λ f sound.
    let k = kinds_at (λ k. k.items) c.args.kinds.now (c.args.entry.now.part / 3) c.index-kinds-stream.result c.deref.result.now (omega arith) c.index-kinds-stream.is c.deref.ensures.value in
    let t = c.is_stored_as.ensures.1 (ap (map datum_kind) c.items.ensures ∙ sound.kinds ∙ k) in
    let n = c.if-not-is_stored_as.true in
    absurd (cc)

pub returns-clause-yes : goal.returns-clause-yes
returns-clause-yes c = λ t.
    let k = kinds_at (λ k. k.items) c.args.kinds.now (c.args.entry.now.part / 3) c.index-kinds-stream.result c.deref.result.now (omega arith) c.index-kinds-stream.is c.deref.ensures.value in
    let a = length-map (map (λ k. k.items) c.args.kinds.now) (λ k. map cell_kind_of k) in
    let b = length-map c.args.kinds.now (λ k. k.items) in
    record {
      declared = omega (arith, a, b);
      kinds = ap (map datum_kind) (sym c.items.ensures) ∙ c.is_stored_as.ensures.0 c.if-not-is_stored_as.false ∙ sym k;
      times = c.has_event_times.ensures.0 c.if-not-has_event_times.false;
      edge = (c.are_sound_times.ensures.yes t).0;
      dropped = (c.are_sound_times.ensures.yes t).1;
    }
