-- What is told of the pairs of one row after another.
use Rattle.std.specs.Prelude.{◌≡◌, ℕ, ◌+◌, ◌<◌, Bool, List, [], ◌∷◌, ◌++◌, length, get_or, take, map, flat_map}
use Rattle.std.proofs.Common.{◌∙◌, ap, arith}
use Rattle.tw_rows.specs.Bag.{total}
use Rattle.tw_rows.specs.declared.cells.Datum.{Datum}
use Rattle.tw_rows.specs.declared.edge.Edge.{Edge}
use Rattle.tw_rows.specs.declared.edge.HeldRow.{HeldRow}
use Rattle.tw_rows.proofs.Bags.{total-append, total-map, total-flat_map, total_same, SameBag-refl}
use Rattle.tw_rows.proofs.Fronts.{total_more}
use Rattle.sweep_laws.specs.Moves.{Adds, told_at}
use Rattle.sweep_laws.specs.Pairs.{sided, partners, all_partners, pairs_told}
use Rattle.sweep_laws.proofs.Adding.{adds_then, adds_bag}

module _ (meets : List Datum → List Datum → Bool) (pair : List Datum → List Datum → List Datum) where
  pub pairs_weigh : (w : Edge → ℕ) (right starts : Bool) (t : ℕ) (xs ys : List HeldRow) →
      total w (pairs_told meets pair right starts t xs ys) ≡ total (λ x. total (λ y. total (λ r. w (told_at starts t r)) (sided meets pair right x y)) ys) xs
  pairs_weigh w right starts t xs ys =
      let v : HeldRow → ℕ = λ r. w (told_at starts t r) in
      total-map w (told_at starts t) (all_partners meets pair right xs ys)
      ∙ total-flat_map v (λ x. partners meets pair right x ys) xs ∙ total_same _ _ xs (λ x. total-flat_map v (sided meets pair right x) ys)

  pub told_more : (right starts : Bool) (t : ℕ) (x y : HeldRow) (others : List HeldRow) (i : ℕ) (answer0 answer1 answer2 : List Edge) → i < length others → y ≡ get_or others i y →
      answer2 ≡ answer1 ++ map (told_at starts t) (sided meets pair right x y) → Adds answer0 answer1 (pairs_told meets pair right starts t (x ∷ []) (take i others)) →
      Adds answer0 answer2 (pairs_told meets pair right starts t (x ∷ []) (take (i + 1) others))
  told_more right starts t x y others i answer0 answer1 answer2 low is pushed h =
      adds_bag answer0 answer2 _ _
      (adds_then answer0 answer1 answer2 _ (map (told_at starts t) (sided meets pair right x y)) h (record { added = map (told_at starts t) (sided meets pair right x y); is = pushed; bag = SameBag-refl _ }))
      (record {
        weigh = λ w.
            let f : HeldRow → ℕ = λ z. total (λ r. w (told_at starts t r)) (sided meets pair right x z) in
            let a = total-append w (pairs_told meets pair right starts t (x ∷ []) (take i others)) (map (told_at starts t) (sided meets pair right x y)) in
            let b = pairs_weigh w right starts t (x ∷ []) (take i others) in
            let c = pairs_weigh w right starts t (x ∷ []) (take (i + 1) others) in
            let d = total-map w (told_at starts t) (sided meets pair right x y) in
            let e = total_more f others i y low in
            let g = ap f is in
            omega (arith, a, b, c, d, e, g);
      })

  pub rows_told_more : (f : Edge → List HeldRow) (right starts : Bool) (t : ℕ) (x : Edge) (now : List Edge) (others : List HeldRow) (i : ℕ) (answer0 answer1 answer2 : List Edge) →
      i < length now → x ≡ get_or now i x → Adds answer1 answer2 (pairs_told meets pair right starts t (f x) others) → Adds answer0 answer1 (pairs_told meets pair right starts t (flat_map f (take i now)) others) →
      Adds answer0 answer2 (pairs_told meets pair right starts t (flat_map f (take (i + 1) now)) others)
  rows_told_more f right starts t x now others i answer0 answer1 answer2 low is one h =
      adds_bag answer0 answer2 _ _ (adds_then answer0 answer1 answer2 _ _ h one)
      (record {
        weigh = λ w.
            let v : HeldRow → ℕ = λ z. total (λ y. total (λ r. w (told_at starts t r)) (sided meets pair right z y)) others in
            let a = total-append w (pairs_told meets pair right starts t (flat_map f (take i now)) others) (pairs_told meets pair right starts t (f x) others) in
            let b = pairs_weigh w right starts t (flat_map f (take i now)) others in
            let c = pairs_weigh w right starts t (flat_map f (take (i + 1) now)) others in
            let d = pairs_weigh w right starts t (f x) others in
            let b1 = total-flat_map v f (take i now) in
            let c1 = total-flat_map v f (take (i + 1) now) in
            let e = total_more (λ z. total v (f z)) now i x low in
            let g = ap (λ z. total v (f z)) is in
            omega (arith, a, b, c, d, b1, c1, e, g);
      })
