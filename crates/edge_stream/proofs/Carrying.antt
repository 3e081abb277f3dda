-- Edges of a part that a list may hold, entry by entry.
use Rattle.std.specs.Prelude.{◌≡◌, ℕ, ◌≤◌, ◌↔◌, nat_eq, true, false, cond, List, [], ◌∷◌, map, All, refl}
use Rattle.std.proofs.Common.{sym, arith, subst}
use Rattle.std.proofs.lemmas.Bool.Decides.{nat_tests}
use Rattle.std.proofs.lemmas.List.Elements.{All-nil, All-cons, All-head, All-tail}
use Rattle.tw_rows.specs.Cells.{datum_kind}
use Rattle.tw_rows.specs.declared.edge.Edge.{Edge}
use Rattle.tw_rows.specs.declared.kind.CellKind.{CellKind}
use Rattle.edge_history.specs.Order.{failing, is_from, rank, IsReal}
use Rattle.edge_stream.specs.declared.saved.SavedEntry.{SavedEntry}
use Rattle.edge_stream.specs.Entries.{saved_edge, part_of, MayBeCarried, MayFollow, IsEdgePart}

module _ (kinds : List CellKind) (from : ℕ) where
  pub follow_none : (least : ℕ) → MayFollow kinds from least []
  follow_none least = record { rises = tt; may = All-nil (MayBeCarried kinds from) }

  follow_cons : (least : ℕ) (e : Edge) (es : List Edge) → least ≤ rank e → MayBeCarried kinds from e →
      MayFollow kinds from (rank e) es ↔ MayFollow kinds from least (e ∷ es)
  follow_cons least e es le may = (
    λ h. record { rises = (le, h.rises); may = All-cons (MayBeCarried kinds from) e es may h.may },
    λ h. record { rises = h.rises.1; may = All-tail (MayBeCarried kinds from) e es h.may },
  )

  -- the entry belongs to another part
  pub follow_other : (part least : ℕ) (s : SavedEntry) (rest : List SavedEntry) → (s.part ≡ part → ⊥) →
      MayFollow kinds from least (part_of part rest) ↔ MayFollow kinds from least (part_of part (s ∷ rest))
  follow_other part least s rest apart =
      let other : nat_eq s.part part ≡ false = grind (arith, nat_tests) in
      rw other ((λ h. h), (λ h. h))

  -- the entry belongs to the part
  module _ (part least : ℕ) (s : SavedEntry) (rest : List SavedEntry) (same : s.part ≡ part) where
    here : part_of part (s ∷ rest) ≡ saved_edge s ∷ part_of part rest
    here = let is : nat_eq s.part part ≡ true = grind (arith, nat_tests) in rw is refl

    pub follow_here : (n : ℕ) → n ≡ rank (saved_edge s) → least ≤ n → MayBeCarried kinds from (saved_edge s) →
        MayFollow kinds from n (part_of part rest) ↔ MayFollow kinds from least (part_of part (s ∷ rest))
    follow_here n is le may =
        let both = follow_cons least (saved_edge s) (part_of part rest) (subst (λ m. least ≤ m) is le) may in (
          λ h. subst (MayFollow kinds from least) (sym here) (both.0 (subst (λ m. MayFollow kinds from m (part_of part rest)) is h)),
          λ h. subst (λ m. MayFollow kinds from m (part_of part rest)) (sym is) (both.1 (subst (MayFollow kinds from least) here h)),
        )

    pub follows_low : MayFollow kinds from least (part_of part (s ∷ rest)) → least ≤ rank (saved_edge s)
    follows_low h = (subst (MayFollow kinds from least) here h).rises.0

    pub follows_may : MayFollow kinds from least (part_of part (s ∷ rest)) → MayBeCarried kinds from (saved_edge s)
    follows_may h = All-head (MayBeCarried kinds from) (saved_edge s) (part_of part rest) (subst (MayFollow kinds from least) here h).may

  all_real : (es : List Edge) → All (MayBeCarried kinds from) es → All IsReal es
  all_real [] h = All-nil IsReal
  all_real (e ∷ es) h = All-cons IsReal e es (All-head (MayBeCarried kinds from) e es h).real (all_real es (All-tail (MayBeCarried kinds from) e es h))

  all_stored : (es : List Edge) → All (MayBeCarried kinds from) es → All (λ e. map datum_kind e.cells ≡ kinds) es
  all_stored [] h = All-nil (λ (e : Edge). map datum_kind e.cells ≡ kinds)
  all_stored (e ∷ es) h =
      All-cons (λ (x : Edge). map datum_kind x.cells ≡ kinds) e es (All-head (MayBeCarried kinds from) e es h).cells (all_stored es (All-tail (MayBeCarried kinds from) e es h))

  all_late : (es : List Edge) → All (MayBeCarried kinds from) es → failing (is_from from) es ≡ 0
  all_late [] h = refl
  all_late (e ∷ es) h =
      let le = (All-head (MayBeCarried kinds from) e es h).late in
      let here : cond {A = ℕ} (is_from from e) 0 1 ≡ 0 = grind (arith, nat_tests) in
      let rest = all_late es (All-tail (MayBeCarried kinds from) e es h) in
      omega (arith, here, rest)

  all_may : (es : List Edge) → All IsReal es → All (λ e. map datum_kind e.cells ≡ kinds) es → failing (is_from from) es ≡ 0 → All (MayBeCarried kinds from) es
  all_may [] real cells late = All-nil (MayBeCarried kinds from)
  all_may (e ∷ es) real cells late =
      let le : from ≤ e.sync = grind (arith, nat_tests) in
      let rest : failing (is_from from) es ≡ 0 = omega (arith, late) in
      All-cons (MayBeCarried kinds from) e es
      (record { real = All-head IsReal e es real; cells = All-head (λ (x : Edge). map datum_kind x.cells ≡ kinds) e es cells; late = le })
      (all_may es (All-tail IsReal e es real) (All-tail (λ (x : Edge). map datum_kind x.cells ≡ kinds) e es cells) rest)

  pub follow_whole : (es : List Edge) → MayFollow kinds from 0 es ↔ IsEdgePart kinds from es
  follow_whole es = (
    λ h. record { order = record { rises = h.rises; real = all_real es h.may }; cells = all_stored es h.may; late = all_late es h.may },
    λ h. record { rises = h.order.rises; may = all_may es h.order.real h.cells h.late },
  )
