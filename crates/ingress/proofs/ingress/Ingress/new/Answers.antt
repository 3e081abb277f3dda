use Rattle.std.specs.Prelude.{◌≤◌, length, map, get_or, All, []}
use Rattle.std.proofs.Common.{◌∙◌, ap, sym, subst, refl, arith}
use Rattle.std.proofs.lemmas.List.{length-map, take_all}
use Rattle.tw_rows.specs.Kinds.{cell_kind_of}
use Rattle.ingress.specs.Fits.{stream_kinds}
use Rattle.ingress.proofs.FirstShape.{plain_cells, shape_first, width_at, all_narrow}
use Rattle.ingress.proofs.ingress.Ingress.new.Goals as goal

pub new-requires-clause-width : goal.new-requires-clause-width
new-requires-clause-width c =
    let streams = c.args.streams.now in
    let all = c.loop-stream.invariant ∙ ap stream_kinds (take_all c.loop-stream.stream-index streams c.loop-stream-test.false) in
    subst (λ ks. All (λ k. length k.items ≤ 32) ks) (sym c.deref.ensures.value)
    (all_narrow c.loop-stream.kinds.items (λ s. subst (λ k. length (get_or k s []) ≤ 32) (sym all) (width_at streams s c.requires.width)))

pub invariant_of-result-2 : goal.invariant_of-result-2
invariant_of-result-2 c =
    let streams = c.args.streams.now in
    let all = c.loop-stream.invariant ∙ ap stream_kinds (take_all c.loop-stream.stream-index streams c.loop-stream-test.false) in
    record {
      shape = shape_first streams _ c.args.capacity _ c.in_ok-held.held.waiting.items all c.requires.width c.requires.capacity c.in_ok-new.ensures.len
          (c.in_ok-held.ensures.len ∙ ap length c.deref.ensures.value ∙ sym (length-map c.loop-stream.kinds.items (λ k. k.items)) ∙ ap length all ∙ length-map streams _) c.in_ok-held.ensures.empty;
      above = λ s. let b = c.in_ok-new.ensures.bounds s in let m = c.in_ok-new.ensures.marks s in omega (arith, b, m);
    }

pub returns-clause-fixed : goal.returns-clause-fixed
returns-clause-fixed c =
    let streams = c.args.streams.now in
    let all = c.loop-stream.invariant ∙ ap stream_kinds (take_all c.loop-stream.stream-index streams c.loop-stream-test.false) in
    record {
      policy = refl;
      kinds = all;
      cells = ap (map (λ k. map cell_kind_of k)) all ∙ plain_cells streams;
      count = sym (length-map c.loop-stream.kinds.items (λ k. k.items)) ∙ ap length all ∙ length-map streams _;
      capacity = refl;
    }
