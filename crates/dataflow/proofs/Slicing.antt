-- An overflow that is found stays, unless a lower node has one.
use Rattle.std.specs.Prelude.{◌≡◌, ℕ, zero, suc, ◌+◌, ◌-◌, ◌<◌, ◌≤◌, Bool, true, cond, Option, Some, None, is_some, List, length, refl}
use Rattle.std.proofs.Common.{sym, ◌∙◌, ap, arith}
use Rattle.plan_model.specs.declared.node.Node.{Node}
use Rattle.plan_model.specs.Meaning.{Sources, closes}
use Rattle.plan_laws.specs.Undefined.{or_next, first_below, first_undefined, overflow_of, overflow_there, Overflow, overflow}
use Rattle.plan_laws.proofs.Undefinedness.{overflow_some, first_below_some}
use Rattle.dataflow.specs.Slices.{overflow_under, or_this}

-- the least instant below c is the least below any later time
more : (p : ℕ → Bool) (c k t : ℕ) → first_below p c ≡ Some t → first_below p (c + k) ≡ Some t
more p c zero t h = (let e : c + zero ≡ c = omega arith in ap (first_below p) e) ∙ h
more p c (suc k) t h = (let e : c + suc k ≡ suc (c + k) = omega arith in ap (first_below p) e) ∙ ap (or_next p (c + k)) (more p c k t h)

first_more : (p : ℕ → Bool) (c d t : ℕ) → c ≤ d → first_below p c ≡ Some t → first_below p d ≡ Some t
first_more p c d t low h = (let e : d ≡ c + (d - c) = omega (arith, low) in ap (first_below p) e) ∙ more p c (d - c) t h

module _ (first : ℕ → Option ℕ) (count n t : ℕ) (low : n < count) (there : first n ≡ Some t) where
  abbrev test : ℕ → Bool
  test i = is_some (first i)

  lowest : (o : Option ℕ) → first_below test n ≡ o → overflow_there first (first_below test count) ≡ Some (or_this (record { node = n; time = t }) (overflow_there first (first_below test n)))
  lowest (Some m) h = whole ∙ sym (ap (λ x. Some (or_this (record { node = n; time = t }) (overflow_there first x))) h ∙ pick (first m) refl)
    where
      whole : overflow_there first (first_below test count) ≡ overflow_of m (first m)
      whole = ap (overflow_there first) (first_more test n count m (omega (arith, low)) h)

      found : is_some (first m) ≡ true
      found = (first_below_some test n m h).1

      pick : (o : Option ℕ) → first m ≡ o → Some (or_this (record { node = n; time = t }) (overflow_of m (first m))) ≡ overflow_of m (first m)
      pick None e = let none : Option ℕ = None in let z : is_some none ≡ true = ap is_some (sym e) ∙ found in absurd (cc (z))
      pick (Some u) e = ap (λ o. Some (or_this (record { node = n; time = t }) (overflow_of m o))) e ∙ sym (ap (overflow_of m) e)
  lowest None h =
      let a : first_below test (suc n) ≡ Some n = ap (or_next test n) h ∙ ap (λ o. cond (is_some o) (Some n) None) there in
      let b = first_more test (suc n) count n low a in
      ap (overflow_there first) b ∙ (ap (overflow_of n) there ∙ sym (ap (λ o. Some (or_this (record { node = n; time = t }) (overflow_there first o))) h))

pub stays : (source : Sources) (nodes : List Node) (x p : ℕ) (o : Overflow) → ((i : ℕ) → closes nodes i x ≤ closes nodes i p) → overflow source nodes x ≡ Some o →
    overflow source nodes p ≡ Some (or_this o (overflow_under source nodes p o.node))
stays source nodes x p o rise h =
    let f = overflow_some source nodes x o h in
    let there = first_more _ (closes nodes o.node x) (closes nodes o.node p) o.time (rise o.node) f.1 in
    lowest (λ i. first_undefined source nodes i (closes nodes i p)) (length nodes) o.node o.time f.0 there
    (first_below (λ i. is_some (first_undefined source nodes i (closes nodes i p))) o.node) refl
