use Rattle.std.specs.Prelude.{◌≡◌, ◌≤◌, [], length, map, get_or}
use Rattle.std.proofs.Common.{◌∙◌, ap, refl, sym, subst, arith}
use Rattle.std.proofs.lemmas.List.{length-map, get_or-map, get_or_default}
use Rattle.tw_rows.specs.Kinds.{cell_kind_of}
use Rattle.edge_history.specs.Order.{failing}
use Rattle.edge_stream.specs.Listing.{cells_of}
use Rattle.edge_stream.specs.Taking.{batches_taken}
use Rattle.ingress.specs.Fits.{is_fit}
use Rattle.ingress.specs.Admits.{kinds_of}
use Rattle.ingress.proofs.ingress.Ingress.copy_stream.Goals as goal

pub new-requires-clause-width : goal.new-requires-clause-width
new-requires-clause-width c =
    let i = c.args.self.now in
    subst (λ l. length l ≤ 32)
    (get_or-map (λ k. k.items) i.kinds.items c.args.stream c.index.result.now [] c.requires.stream ∙ ap (λ k. k.items) (sym c.index.ensures) ∙ sym c.deref.ensures.value)
    (i.shape.width c.args.stream)

pub copy_below-requires-clause-fit : goal.copy_below-requires-clause-fit
copy_below-requires-clause-fit c =
    let i = c.args.self.now in
    let l = length-map i.kinds.items (λ k. k.items) in
    let w = i.shape.waiting in
    let r = c.requires.stream in
    let ks = get_or-map (map cell_kind_of) (kinds_of i) c.args.stream [] [] (omega (arith, r, l))
    ∙ ap (map cell_kind_of) (get_or-map (λ k. k.items) i.kinds.items c.args.stream c.index.result.now [] c.requires.stream ∙ ap (λ k. k.items) (sym c.index.ensures) ∙ sym c.deref.ensures.value)
    ∙ sym (ap (λ v. map cell_kind_of v.kinds) c.in_ok-list.ensures) in
    let es = get_or_default i.held.waiting.items c.args.stream [] c.index-2.result.now (omega (arith, r, l, w)) ∙ sym c.index-2.ensures in
    subst (λ k. failing (is_fit k) c.index-2.result.now ≡ 0) ks
    (subst (λ e. failing (is_fit (get_or (map (map cell_kind_of) (kinds_of i)) c.args.stream [])) e ≡ 0) es (i.shape.fit c.args.stream))

pub returns-clause-taken : goal.returns-clause-taken
returns-clause-taken c =
    let fresh = c.in_ok-list.list in
    let first = c.args.pools.now in
    let none = sym (ap (λ v. batches_taken v.batches first (cells_of fresh)) c.in_ok-list.ensures) in
    c.in_ok-copy_below.ensures.taken first (cells_of fresh) refl none
    ∙ ap (λ k. batches_taken c.copy_below.new.list.batches first (map cell_kind_of k)) (sym c.copy_below.ensures.shape.kinds)
