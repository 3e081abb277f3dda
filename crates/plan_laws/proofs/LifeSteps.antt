-- What operators of nodes with known lives keep, from step to step.
use Rattle.std.specs.Prelude.{◌≡◌, ℕ, ◌+◌, ◌<◌, ◌≤◌, Bool, true, false, cond, List, [], ◌∷◌, ◌++◌, map, filter, refl}
use Rattle.std.proofs.Common.{◌∙◌, ap, arith}
use Rattle.std.proofs.lemmas.Bool.Decides.{nat_tests}
use Rattle.tw_rows.specs.Instant.{inf}
use Rattle.tw_rows.specs.Bag.{SameBag, total}
use Rattle.tw_rows.specs.declared.edge.Edge.{Edge}
use Rattle.tw_rows.proofs.Bags.{total-append, total-map, total-filter, total_same, total_zero, total-add}
use Rattle.edge_history.specs.Order.{failing, is_real, is_below, is_from, rank, Rises, IsHistory}
use Rattle.edge_history.proofs.Sums.{sum_eq, weaker, failing-append, failing-parts, failing-same, failing-filter, failing-kept}
use Rattle.edge_history.proofs.Standing.{rises_filter}
use Rattle.edge_history.proofs.Telling.{order_from}
use Rattle.plan_model.specs.declared.node.Node.{Node}
use Rattle.plan_model.specs.Meaning.{node_closes}
use Rattle.plan_laws.specs.Places.{EdgesArePlaced}
use Rattle.plan_laws.proofs.Steps.{node_rises}
use Rattle.plan_laws.specs.Answers.{new_edge, is_answered, answered, answered_below}
use Rattle.plan_laws.specs.LifeKeeping.{KeepsLives}
use Rattle.plan_laws.proofs.Lives.{NewLives}
use Rattle.plan_laws.proofs.Sides.{sides_step}

-- a test that holds of each edge that is answered
answered_pass : (n : Node) (p q : Edge → Bool) (h : List Edge) → ((e : Edge) → q e ≡ true → is_answered n e ≡ true → p (new_edge n e) ≡ true) →
    failing q h ≡ 0 → failing p (answered n h) ≡ 0
answered_pass n p q h pass none =
    total-map (λ e. cond {A = ℕ} (p e) 0 1) (new_edge n) (filter (is_answered n) h)
    ∙ total-filter (λ e. cond {A = ℕ} (p (new_edge n e)) 0 1) (is_answered n) h
    ∙ sum_eq q (λ e. cond {A = ℕ} (is_answered n e) (cond (p (new_edge n e)) 0 1) 0) (λ e. 0) h (λ e k. one e k (is_answered n e) refl) none
    ∙ total_zero h
  where
    one : (e : Edge) → q e ≡ true → (b : Bool) → is_answered n e ≡ b → cond {A = ℕ} b (cond (p (new_edge n e)) 0 1) 0 ≡ 0
    one e k true i = ap (λ c. cond {A = ℕ} c 0 1) (pass e k i)
    one e k false i = refl

real_head : (e : Edge) (h : List Edge) → failing is_real (e ∷ h) ≡ 0 → (e.sync < inf) × (failing is_real h ≡ 0)
real_head e h none = pick (is_real e) refl none
  where
    pick : (b : Bool) → is_real e ≡ b → cond {A = ℕ} b 0 1 + failing is_real h ≡ 0 → (e.sync < inf) × (failing is_real h ≡ 0)
    pick true i k = ((let low : e.sync < inf = grind (arith, nat_tests) in low), omega (arith, k))
    pick false i k = absurd (omega (arith, k))

answered_rise : (n : Node) → NewLives n → (h : List Edge) (r q : ℕ) → Rises r h → failing is_real h ≡ 0 →
    ((b : Edge) → r ≤ rank b → b.sync < inf → is_answered n b ≡ true → q ≤ rank (new_edge n b)) → Rises q (answered n h)
answered_rise n lives [] r q up none high = tt
answered_rise n lives (e ∷ h) r q up none high = pick (is_answered n e) refl
    (λ a. answered_rise n lives h (rank e) (rank (new_edge n e)) up.1 (real_head e h none).1 (λ b le low t. lives.later e b (real_head e h none).0 low t le a))
    (answered_rise n lives h (rank e) q up.1 (real_head e h none).1 (λ b le low t. high b (let first = up.0 in omega (arith, first, le)) low t))
  where
    pick : (b : Bool) → is_answered n e ≡ b → (is_answered n e ≡ true → Rises (rank (new_edge n e)) (answered n h)) → Rises q (answered n h) →
        Rises q (map (new_edge n) (cond b (e ∷ filter (is_answered n) h) (filter (is_answered n) h)))
    pick true i with_it without = (high e up.0 (real_head e h none).0 i, with_it i)
    pick false i with_it without = without

pub answered_in_order : (n : Node) → NewLives n → (h : List Edge) → Rises 0 h → failing is_real h ≡ 0 → Rises 0 (answered n h) × (failing is_real (answered n h) ≡ 0)
answered_in_order n lives h up none =
    (answered_rise n lives h 0 0 up none (λ b le low t. omega arith), answered_pass n is_real is_real h (λ e r t. lives.real e r t) none)

answered_weigh : (n : Node) (w : Edge → ℕ) (h : List Edge) → total w (answered n h) ≡ total (λ e. cond (is_answered n e) (w (new_edge n e)) 0) h
answered_weigh n w h = total-map w (new_edge n) (filter (is_answered n) h) ∙ total-filter (λ e. w (new_edge n e)) (is_answered n) h

below_parts : (w : Edge → ℕ) (z t : ℕ) (e : Edge) → z ≤ t → cond (is_below t e) (w e) 0 ≡ cond (is_below z e) (w e) 0 + cond (is_from z e) (cond (is_below t e) (w e) 0) 0
below_parts w z t e h = grind (arith, nat_tests)

from_part : (w : Edge → ℕ) (z t : ℕ) (e : Edge) → z ≤ t → cond (is_from z e) (cond (is_from t e) (w e) 0) 0 ≡ cond (is_from t e) (w e) 0
from_part w z t e h = grind (arith, nat_tests)

pub from_earlier : (z x : ℕ) (e : Edge) → z ≤ x → is_from x e ≡ true → is_from z e ≡ true
from_earlier z x e h k = grind (arith, nat_tests)

-- all that came and was carried, parted at a time, is all that came, parted there
module _ (z t : ℕ) (rising : z ≤ t) (carried left l all : List Edge) (waits : SameBag carried (filter (is_from z) left)) (same : SameBag all (carried ++ l)) where
  pub parted_below : (A : Edge → ℕ) → total A (filter (is_below z) left) + total A (filter (is_below t) all) ≡ total A (filter (is_below t) (left ++ l))
  parted_below A =
      let L : Edge → ℕ = λ e. cond (is_below t e) (A e) 0 in
      let a1 = total-filter A (is_below t) all in
      let a2 = same.weigh L in
      let a3 = total-append L carried l in
      let a4 = waits.weigh L in
      let a5 = total-filter L (is_from z) left in
      let a6 = total-filter A (is_below z) left in
      let a7 = total_same L (λ e. cond (is_below z e) (A e) 0 + cond (is_from z e) (cond (is_below t e) (A e) 0) 0) left (λ e. below_parts A z t e rising) in
      let a8 = total-add (λ e. cond (is_below z e) (A e) 0) (λ e. cond (is_from z e) (cond (is_below t e) (A e) 0) 0) left in
      let a9 = total-filter A (is_below t) (left ++ l) in
      let a10 = total-append L left l in
      omega (arith, a1, a2, a3, a4, a5, a6, a7, a8, a9, a10)

  pub parted_from : (w : Edge → ℕ) → total w (filter (is_from t) all) ≡ total w (filter (is_from t) (left ++ l))
  parted_from w =
      let H : Edge → ℕ = λ e. cond (is_from t e) (w e) 0 in
      let a1 = total-filter w (is_from t) all in
      let a2 = same.weigh H in
      let a3 = total-append H carried l in
      let a4 = waits.weigh H in
      let a5 = total-filter H (is_from z) left in
      let a6 = total_same (λ e. cond (is_from z e) (cond (is_from t e) (w e) 0) 0) H left (λ e. from_part w z t e rising) in
      let a7 = total-filter w (is_from t) (left ++ l) in
      let a8 = total-append H left l in
      omega (arith, a1, a2, a3, a4, a5, a6, a7, a8)

-- a step without a history: what is carried and what comes comes so late that what is answered comes at the closing or later
module _ (n : Node) (lives : NewLives n) (x y u : ℕ) (carried l all : List Edge) (xu : x ≤ u) (lu : u ≤ inf) (same : SameBag all (carried ++ l))
    (late : failing (is_from (answered_below n x)) carried ≡ 0) (come : failing (is_from x) l ≡ 0) where
  xl : x ≤ inf
  xl = omega (arith, xu, lu)

  all_late : failing (is_from (answered_below n x)) all ≡ 0
  all_late = failing-same (is_from (answered_below n x)) all (carried ++ l) same (failing-append (is_from (answered_below n x)) carried l late
      (weaker (is_from x) (is_from (answered_below n x)) l (λ e k. from_earlier (answered_below n x) x e (lives.cut_low x xl) k) come))

  pub lives_from : failing (is_from (node_closes n x y)) (answered n (filter (is_below (answered_below n u)) all)) ≡ 0
  lives_from = answered_pass n (is_from (node_closes n x y)) (is_from (answered_below n x)) (filter (is_below (answered_below n u)) all)
      (λ e k a. lives.from x y e xl a k) (failing-filter (is_below (answered_below n u)) (is_from (answered_below n x)) all all_late)

-- and below the new closing
pub lives_below : (n : Node) → NewLives n → (u v : ℕ) (all : List Edge) → u ≤ inf → failing (is_below (node_closes n u v)) (answered n (filter (is_below (answered_below n u)) all)) ≡ 0
lives_below n lives u v all lu = answered_pass n (is_below (node_closes n u v)) (is_below (answered_below n u)) (filter (is_below (answered_below n u)) all)
    (λ e low a. lives.below u v e lu a low) (failing-kept (is_below (answered_below n u)) all)

pub lives_step : (n : Node) → NewLives n → (texts : List (List ℕ)) (x y u v : ℕ) (carried left right out l r all : List Edge) → x ≤ u → u ≤ inf → y ≤ v → v ≤ inf →
    KeepsLives n texts x y carried left right out → IsHistory (left ++ l) → IsHistory (right ++ r) → EdgesArePlaced texts (left ++ l) → EdgesArePlaced texts (right ++ r) →
    failing (is_from x) l ≡ 0 → Rises 0 all → SameBag all (carried ++ l) →
    KeepsLives n texts u v (filter (is_from (answered_below n u)) all) (left ++ l) (right ++ r) (out ++ answered n (filter (is_below (answered_below n u)) all))
lives_step n lives texts x y u v carried left right out l r all xu lu yv lv k hl hr pl pr come up same =
    let c : ℕ = node_closes n x y in
    let d : ℕ = node_closes n u v in
    let z : ℕ = answered_below n x in
    let t : ℕ = answered_below n u in
    let front : List Edge = filter (is_below t) all in
    let answer : List Edge = answered n front in
    let rising : z ≤ t = lives.cut_rises x u xu lu in
    let all_real : failing is_real all ≡ 0 = failing-same is_real all (carried ++ l) same (failing-append is_real carried l
    (failing-same is_real carried (filter (is_from z) left) k.waits (failing-filter (is_from z) is_real left k.sides.left_history.real))
    (failing-parts is_real left l hl.real).1) in
    let late : failing (is_from z) carried ≡ 0 = failing-same (is_from z) carried (filter (is_from z) left) k.waits (failing-kept (is_from z) left) in
    let ordered = answered_in_order n lives front (rises_filter (is_below t) 0 all up) (failing-filter (is_below t) is_real all all_real) in
    record {
      sides = sides_step texts x y u v c d left right out l r answer lu lv (node_rises n x y u v xu yv lu) k.sides hl hr pl pr ordered.0 ordered.1
          (lives_from n lives x y u carried l all xu lu same late come) (lives_below n lives u v all lu);
      told = record {
        weigh = λ w.
            let A : Edge → ℕ = λ e. cond (is_answered n e) (w (new_edge n e)) 0 in
            let a1 = total-append w out answer in
            let a2 = k.told.weigh w in
            let a3 = answered_weigh n w (filter (is_below z) left) in
            let a4 = answered_weigh n w front in
            let a5 = parted_below z t rising carried left l all k.waits same A in
            let a6 = answered_weigh n w (filter (is_below t) (left ++ l)) in
            omega (arith, a1, a2, a3, a4, a5, a6);
      };
      waits = record { weigh = parted_from z t rising carried left l all k.waits same };
    }
