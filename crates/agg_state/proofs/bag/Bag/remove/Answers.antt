use Rattle.std.specs.Prelude.{◌≡◌, ◌≤◌, ◌+◌, ◌-◌, Some, None, ℕ, Option, ◌∷◌, cond, unwrap_or, refl}
use Rattle.std.specs.BTreeMap.{get, is_at}
use Rattle.std.specs.Ordering.{int_cmp}
use Rattle.std.proofs.Common.{arith, ap, sym, subst, ◌∙◌}
use Rattle.std.proofs.lemmas.Int.{to_z-of_z}
use Rattle.tw_rows.specs.Bag.{SameBag}
use mir.Syntax.{w64}
use mir.Val.{to_z, of_z}
use Rattle.agg_state.proofs.Bags.{one_less, bag_less, stands_there, written, left}
use Rattle.agg_state.proofs.bag.Bag.remove.Goals as goal
use Rattle.agg_state.proofs.bag.Bag.remove.Goals.{in-Some+else-count-gt1, in_default}

pub overflow_sub-self : goal.overflow_sub-self
overflow_sub-self c =
    let r = c.requires in
    let a = r.2.is_len in
    let b = one_less c.args.value r.0 r.1 r.3 in
    omega (arith, a, b)

one : (n : ℕ) → 1 ≤ n → n ≡ (n - 1) + 1
one n h = omega (arith, h)

pub returns-then-count-gt1 : goal.returns-then-count-gt1
returns-then-count-gt1 c = λ bag rest h same.
    let n : ℕ = c.in-Some.count.now in
    let u = to_z w64 (of_z w64 c.args.value) in
    let same2 : SameBag bag (u ∷ rest) = subst (λ x. SameBag bag (x ∷ rest)) (sym (to_z-of_z w64 c.args.value c.ranges.value)) same in
    let at : get int_cmp c.args.self.now.counts u ≡ Some n = sym c.in-Some.ensures.value in
    let more = c.if-count-gt1.true in
    bag_less c.args.self.now.counts (c.get_mut.follows.lender (n - 1)) c.args.self.now.len (c.args.self.now.len - 1) u bag rest h same2 (Some (n - 1))
    (ap (λ o. unwrap_or o 0) at ∙ one n (omega (arith, more)))
    (λ e. let z = ap (λ o. unwrap_or o 0) e in absurd (omega (arith, z, more)))
    (written c.args.self.now.counts (c.get_mut.follows.lender (n - 1)) u n (n - 1) at (c.get_mut.follows.holds (n - 1)))
    refl

pub returns : goal.returns
returns c = λ bag rest h same.
    let u = to_z w64 (of_z w64 c.args.value) in
    let same2 : SameBag bag (u ∷ rest) = subst (λ x. SameBag bag (x ∷ rest)) (sym (to_z-of_z w64 c.args.value c.ranges.value)) same in
    let is = stands_there c.args.self.now.counts c.remove.new.self c.args.self.now.len c.match-get_mut.self.len u bag rest h same2 in
    elim c.match-get_mut.branch [
      | in-Some+else-count-gt1 w ↦
          let n : ℕ = w.in-Some.count.now in
          let at : get int_cmp c.args.self.now.counts u ≡ Some n = sym w.in-Some.ensures.value in
          let few = w.if-count-gt1.false in
          let there = ap (λ o. unwrap_or o 0) at in
          bag_less c.args.self.now.counts c.remove.new.self c.args.self.now.len c.match-get_mut.self.len u bag rest h same2 None
          (let z : unwrap_or (get int_cmp c.args.self.now.counts u) 0 ≡ 0 + 1 = omega (arith, is, there, few) in z)
          (λ e. absurd (cc))
          (λ q. c.remove.ensures.updates.0 q ∙ ap (λ o. cond (is_at (int_cmp u) q) None o)
          (ap (λ b. get int_cmp b.counts q) w.self-is ∙ left c.args.self.now.counts (c.get_mut.follows.lender n) u n at (c.get_mut.follows.holds n) q))
          (ap (λ b. b.len) w.self-is)
      | in_default w ↦
          let there = ap (λ (o : Option ℕ). unwrap_or o 0) w.in_default.ensures.value in absurd (omega (arith, is, there))
    ]
