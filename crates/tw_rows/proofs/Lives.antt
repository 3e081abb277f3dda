-- What is alive, and what is known of it below a time.
use Rattle.std.specs.Prelude.{◌≡◌, ℕ, ◌<◌, ◌≤◌, cond, List, [], ◌∷◌, ◌++◌, filter, refl}
use Rattle.std.proofs.Common.{sym, ◌∙◌, arith}
use Rattle.std.proofs.lemmas.Bool.Decides.{nat_tests}
use Rattle.std.proofs.lemmas.List.Concat.{flat_map-append}
use Rattle.tw_rows.specs.Instant.{inf}
use Rattle.tw_rows.specs.Bag.{total, SameBag}
use Rattle.tw_rows.specs.Event.{Event, lives_at, alive, AreEvents, cut_one, cut}
use Rattle.tw_rows.proofs.Bags.{total-map, total-filter, total-flat_map, total_same}

-- the weight of the rows that are alive, event by event
pub total-alive : {R : Type 0} (w : R → ℕ) (es : List (Event R)) (t : ℕ) → total w (alive es t) ≡ total (λ e. cond (lives_at t e) (w e.row) 0) es
total-alive w es t = total-map w (λ e. e.row) (filter (lives_at t) es) ∙ total-filter (λ e. w e.row) (lives_at t) es

-- the weight of what is known
pub total-cut : {R : Type 0} (w : Event R → ℕ) (c : ℕ) (es : List (Event R)) → total w (cut c es) ≡ total (λ e. total w (cut_one c e)) es
total-cut w c es = total-flat_map w (cut_one c) es

pub cut-append : {R : Type 0} (c : ℕ) (a b : List (Event R)) → cut c (a ++ b) ≡ cut c a ++ cut c b
cut-append c a b = flat_map-append (cut_one c) a b

lives_known : {R : Type 0} (w : R → ℕ) (c t : ℕ) (e : Event R) → t < c → c ≤ inf → cond (lives_at t e) (w e.row) 0 ≡ total (λ x. cond (lives_at t x) (w x.row) 0) (cut_one c e)
lives_known w c t e low high = grind (arith, nat_tests)

-- below c the rows that are alive depend on what is known at c alone
pub alive_known : {R : Type 0} (c t : ℕ) (a b : List (Event R)) → t < c → c ≤ inf → SameBag (cut c a) (cut c b) → SameBag (alive a t) (alive b t)
alive_known {R} c t a b low high h = record {
  weigh = λ w.
      let go : (es : List (Event R)) → total w (alive es t) ≡ total (λ x. cond (lives_at t x) (w x.row) 0) (cut c es) = λ es.
      total-alive w es t ∙ (total_same _ _ es (λ e. lives_known w c t e low high) ∙ sym (total-flat_map (λ x. cond (lives_at t x) (w x.row) 0) (cut_one c) es)) in
      go a ∙ (h.weigh (λ x. cond (lives_at t x) (w x.row) 0) ∙ sym (go b));
}

pub AreEvents-append : {R : Type 0} (a b : List (Event R)) → AreEvents a → AreEvents b → AreEvents (a ++ b)
AreEvents-append [] b va vb = vb
AreEvents-append (e ∷ a) b va vb = (va.0, va.1, AreEvents-append a b va.2 vb)

-- a step that takes its events one by one: what is known of its events depends on what is known of those that it takes
causal_by_one : {R : Type 0} (F : List (Event R) → List (Event R)) (one : Event R → List (Event R)) (c d : ℕ) →
    ((w : Event R → ℕ) (es : List (Event R)) → total w (F es) ≡ total (λ e. total w (one e)) es) →
    ((w : Event R → ℕ) (e : Event R) → e.start < inf → total w (cut d (one e)) ≡ total (λ x. total w (cut d (one x))) (cut_one c e)) →
    (w : Event R → ℕ) (es : List (Event R)) → AreEvents es → total w (cut d (F es)) ≡ total (λ x. total w (cut d (one x))) (cut c es)
causal_by_one {R} F one c d by_one known w es valid =
    total-cut w d (F es)
    ∙ (by_one (λ e. total w (cut_one d e)) es
    ∙ (total_same _ _ es (λ e. sym (total-cut w d (one e)))
    ∙ (each es valid
    ∙ sym (total-flat_map (λ x. total w (cut d (one x))) (cut_one c) es))))
  where
    each : (es : List (Event R)) → AreEvents es → total (λ e. total w (cut d (one e))) es ≡ total (λ e. total (λ x. total w (cut d (one x))) (cut_one c e)) es
    each [] v = refl
    each (e ∷ es) v = let a = known w e (omega (arith, v)) in let b = each es v.2 in omega (arith, a, b)

pub causal_from_one : {R : Type 0} (F : List (Event R) → List (Event R)) (one : Event R → List (Event R)) (c d : ℕ) →
    ((w : Event R → ℕ) (es : List (Event R)) → total w (F es) ≡ total (λ e. total w (one e)) es) →
    ((w : Event R → ℕ) (e : Event R) → e.start < inf → total w (cut d (one e)) ≡ total (λ x. total w (cut d (one x))) (cut_one c e)) →
    (a b : List (Event R)) → AreEvents a → AreEvents b → SameBag (cut c a) (cut c b) → SameBag (cut d (F a)) (cut d (F b))
causal_from_one {R} F one c d by_one known a b va vb h = record {
  weigh = λ w.
      causal_by_one F one c d by_one known w a va ∙ (h.weigh (λ x. total w (cut d (one x))) ∙ sym (causal_by_one F one c d by_one known w b vb));
}
