-- What is answered batch by batch, and what a step keeps.
use Rattle.std.specs.Prelude.{◌≡◌, ℕ, ◌≤◌, List, [], ◌∷◌, ◌++◌, map, filter, refl}
use Rattle.std.proofs.Common.{sym, ◌∙◌, ap, subst}
use Rattle.std.proofs.lemmas.List.{append_assoc, map-append}
use Rattle.std.proofs.lemmas.List.Elements.{filter-append}
use Rattle.tw_rows.specs.Instant.{inf}
use Rattle.tw_rows.specs.Bag.{SameBag}
use Rattle.tw_rows.specs.declared.edge.Edge.{Edge}
use Rattle.edge_history.specs.Order.{KeepsOrder, failing, is_below, is_from}
use Rattle.edge_history.proofs.Keeping.{KeepsOrder-front}
use Rattle.edge_history.proofs.Agreeing.{same_order}
use Rattle.plan_model.specs.Meaning.{node_closes}
use Rattle.edge_stream.specs.Steps.{MayCome, ComeBetween}
use Rattle.plan_laws.specs.Answers.{is_answered, answered, answered_below, answered_at}
use Rattle.plan_laws.specs.LifeKeeping.{KeepsLives}
use Rattle.plan_laws.proofs.Lives.{new_lives}
use Rattle.plan_laws.proofs.LifeSteps.{answered_in_order, lives_from, lives_below, lives_step}
use Rattle.lifetime_ops.specs.declared.change.Change.{Change}
use Rattle.tw_rows.specs.declared.kind.CellKind.{CellKind}
use Rattle.lifetime_ops.specs.declared.change.Change.TheVariants.{Delay, Hop, Duration, Mean}
use Rattle.lifetime_ops.specs.Nodes.{node_of, answer_kinds, known}
use Rattle.lifetime_ops.specs.Times.{retimed_edge, retimed}

-- a mean keeps the times of all edges
means_retimed : (at : List ℕ) (h : List Edge) → retimed (node_of (Mean at)) h ≡ h
means_retimed at [] = refl
means_retimed at (e ∷ es) = ap (λ h. e ∷ h) (means_retimed at es)

-- what changes no cells is answered with its new times
pub lives_retimed : (change : Change) → ((at : List ℕ) → change ≡ Mean at → ⊥) → (h : List Edge) → retimed (node_of change) h ≡ answered (node_of change) h
lives_retimed (Delay by) other h = refl
lives_retimed (Hop size period) other h = refl
lives_retimed (Duration by) other h = refl
lives_retimed (Mean at) other h = absurd (other at refl)

pub lives_kinds : (change : Change) → ((at : List ℕ) → change ≡ Mean at → ⊥) → (kinds : List CellKind) → kinds ≡ answer_kinds change kinds
lives_kinds (Delay by) other kinds = refl
lives_kinds (Hop size period) other kinds = refl
lives_kinds (Duration by) other kinds = refl
lives_kinds (Mean at) other kinds = absurd (other at refl)

pub answered_order : (change : Change) (h : List Edge) → KeepsOrder h → KeepsOrder (answered (node_of change) h)
answered_order change h order = let old = (same_order h).0 order in
    (same_order (answered (node_of change) h)).1 (answered_in_order (node_of change) (new_lives (node_of change) (known change)) h old.0 old.1)

retimed_order : (change : Change) (h : List Edge) → KeepsOrder h → KeepsOrder (retimed (node_of change) h)
retimed_order (Delay by) h order = answered_order (Delay by) h order
retimed_order (Hop size period) h order = answered_order (Hop size period) h order
retimed_order (Duration by) h order = answered_order (Duration by) h order
retimed_order (Mean at) h order = subst KeepsOrder (sym (means_retimed at h)) order

module _ (change : Change) where
  retimed_both : (h k : List Edge) → retimed (node_of change) (h ++ k) ≡ retimed (node_of change) h ++ retimed (node_of change) k
  retimed_both h k =
      ap (map (retimed_edge (node_of change))) (filter-append (is_answered (node_of change)) h k)
      ∙ map-append (retimed_edge (node_of change)) (filter (is_answered (node_of change)) h) (filter (is_answered (node_of change)) k)

  -- one batch more: `new` is answered of it, and `rest` is still to come
  pub batch_next : (done due batch rest new : List Edge) → due ≡ batch ++ rest → new ≡ retimed (node_of change) batch →
      done ++ retimed (node_of change) due ≡ (done ++ new) ++ retimed (node_of change) rest
  batch_next done due batch rest new is answer =
      ap (λ h. done ++ retimed (node_of change) h) is
      ∙ ap (λ h. done ++ h) (retimed_both batch rest)
      ∙ sym (append_assoc done (retimed (node_of change) batch) (retimed (node_of change) rest))
      ∙ ap (λ h. (done ++ h) ++ retimed (node_of change) rest) (sym answer)

  pub batch_order : (whole done due batch rest new : List Edge) → KeepsOrder whole → done ++ retimed (node_of change) due ≡ retimed (node_of change) whole →
      due ≡ batch ++ rest → new ≡ retimed (node_of change) batch → KeepsOrder (done ++ new)
  batch_order whole done due batch rest new order all is answer =
      KeepsOrder-front (done ++ new) (retimed (node_of change) rest)
      (subst KeepsOrder (sym all ∙ batch_next done due batch rest new is answer) (retimed_order change whole order))

  -- a step: what was carried and what came is parted at a time, and what is below it is answered
  module _ (x y u v t : ℕ) (carried l all due answer : List Edge) (xu : x ≤ u) (lu : u ≤ inf) (cut : t ≡ answered_below (node_of change) u)
      (same : SameBag all (carried ++ l)) (is_due : due ≡ filter (is_below t) all) (is_answer : answer ≡ answered (node_of change) due) where
    answer_is : answer ≡ answered_at (node_of change) u all
    answer_is = is_answer ∙ ap (answered (node_of change)) (is_due ∙ ap (λ z. filter (is_below z) all) cut)

    pub between : failing (is_from (answered_below (node_of change) x)) carried ≡ 0 → failing (is_from x) l ≡ 0 →
        ComeBetween (node_closes (node_of change) x y) (node_closes (node_of change) u v) answer
    between late come = rw answer_is (record {
      from = lives_from (node_of change) (new_lives (node_of change) (known change)) x y u carried l all xu lu same late come;
      below = lives_below (node_of change) (new_lives (node_of change) (known change)) u v all lu;
    })

    pub advanced : (texts : List (List ℕ)) (left right out r rest : List Edge) → y ≤ v → v ≤ inf →
        KeepsLives (node_of change) texts x y carried left right out → MayCome texts x left l → MayCome texts y right r → KeepsOrder all → rest ≡ filter (is_from t) all →
        KeepsLives (node_of change) texts u v rest (left ++ l) (right ++ r) (out ++ answer)
    advanced texts left right out r rest yv lv k ml mr order is_rest =
        rw (is_rest, answer_is, cut) (lives_step (node_of change) (new_lives (node_of change) (known change)) texts x y u v carried left right out l r all xu lu yv lv k
        ml.history mr.history ml.placed mr.placed ml.from order.rises same)
