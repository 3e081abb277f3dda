-- Lists of which a part is written over.
use Rattle.std.specs.Prelude.{◌≡◌, ℕ, ◌+◌, ◌-◌, ◌≤◌, List, ◌++◌, length, take, drop}
use Rattle.std.proofs.Common.{◌∙◌, sym, ap, arith}
use Rattle.std.proofs.lemmas.List.{drop-drop, length-drop, length-take}
use Rattle.std.proofs.lemmas.Slice.{drop-put_mid, take-put_mid}
use borrow.Rule.Slice.PartMut.{put_mid}

-- lists that are the same from a place on are so from a later one on
pub rest_past : {X : Type 0} (xs ys : List X) (i n : ℕ) → drop i xs ≡ drop i ys → drop (i + n) xs ≡ drop (i + n) ys
rest_past {X} xs ys i n e = sym (drop-drop n i xs) ∙ (ap (λ (l : List X). drop n l) e ∙ drop-drop n i ys)

-- a part of n elements, what stands behind it once it is written over, and what then stands up to its end
pub part_is : {X : Type 0} (xs rest : List X) (i n : ℕ) → rest ≡ drop i xs → take ((i + n) - i) (drop i xs) ≡ take n rest
part_is {X} xs rest i n e = ap (λ k. take k (drop i xs)) (let z : (i + n) - i ≡ n = omega arith in z) ∙ ap (λ (l : List X). take n l) (sym e)

module _ {X : Type 0} (xs part : List X) (i n : ℕ) (within : i + n ≤ length xs) (same : length part ≡ length (take ((i + n) - i) (drop i xs))) where
  part_long : length part ≡ n
  part_long =
      let a = length-take ((i + n) - i) (drop i xs) in
      let b = length-drop i xs in
      omega (arith, within, same, a, b)

  pub rest_written : (ys : List X) → drop i xs ≡ drop i ys → drop (i + n) (put_mid i ((i + n) - i) xs part) ≡ drop (i + n) ys
  rest_written ys e =
      drop-put_mid i ((i + n) - i) xs part (i + n) (omega arith) (omega (arith, within)) (let l = part_long in omega (arith, l)) ∙ rest_past xs ys i n e

  pub part_written : take (i + n) (put_mid i ((i + n) - i) xs part) ≡ take i xs ++ part
  part_written = take-put_mid i ((i + n) - i) xs part (i + n) (let l = part_long in omega (arith, l)) (omega (arith, within))
