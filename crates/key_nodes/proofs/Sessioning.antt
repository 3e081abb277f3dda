-- The ends of sessions.
use Rattle.std.specs.Prelude.{◌≡◌, ℕ, suc, ◌+◌, ◌<◌, ◌≤◌, nat_lt, nat_le, nat_eq, Bool, true, false, cond, not, ◌&&◌, List, map, filter, refl}
use Rattle.std.proofs.Common.{inl, inr, sym, ◌∙◌, ap, arith, add-zero}
use Rattle.std.proofs.lemmas.Bool.Decides.{nat_tests}
use Rattle.std.proofs.lemmas.Bool.{cases_lt, le-ltb}
use Rattle.tw_rows.specs.Instant.{inf, later}
use Rattle.tw_rows.specs.Bag.{total, SameBag}
use Rattle.tw_rows.specs.Event.{Event, AreEvents, cut_one, cut, Known}
use Rattle.tw_rows.proofs.Bags.{SameBag-refl, total-map, total-filter, total-flat_map, total_same, total_zero}
use Rattle.tw_rows.proofs.Lives.{total-cut}
use Rattle.key_nodes.specs.Sessions.{any_between, last_starts, session_end, key_starts, session, sessions}
use Rattle.key_nodes.proofs.Bags.{any_by_weight}
use Rattle.key_nodes.proofs.Lives.{AreEvents-map, starts_known, cut_early, known_alike, cut_alike}
use Rattle.key_nodes.proofs.Least.{below, least_le, least_at_most, least_above}

-- of two lists of starts the same is known below c
abbrev pub StartsKnown : ℕ → List ℕ → List ℕ → Type 0
StartsKnown c a b = (v : ℕ → ℕ) → ((s : ℕ) → c ≤ s → v s ≡ 0) → total v a ≡ total v b

not_late : (c s a b : ℕ) → b ≤ c → c ≤ s → cond {A = ℕ} (nat_lt a s && nat_lt s b) 1 0 ≡ 0
not_late c s a b low late = grind (arith, nat_tests)

between_known : (c x y : ℕ) (a b : List ℕ) → y ≤ c → StartsKnown c a b → any_between a x y ≡ any_between b x y
between_known c x y a b low h =
    any_by_weight (λ s. nat_lt x s && nat_lt s y) a
    ∙ (ap (nat_lt 0) (h (λ s. cond (nat_lt x s && nat_lt s y) 1 0) (λ s late. not_late c s x y low late))
    ∙ sym (any_by_weight (λ s. nat_lt x s && nat_lt s y) b))

-- what one start adds to the number of ends below t
abbrev pub adds : ℕ → List ℕ → ℕ → ℕ → ℕ → ℕ
adds timeout starts from t s =
    cond (nat_le from s && not (any_between starts s (s + timeout))) (cond (nat_lt (later timeout s) t) 1 0) 0

pub below_is : (timeout : ℕ) (starts : List ℕ) (from t : ℕ) →
    below t (map (later timeout) (last_starts timeout starts from)) ≡ total (adds timeout starts from t) starts
below_is timeout starts from t =
    total-map (λ n. cond (nat_lt n t) 1 0) (later timeout) (last_starts timeout starts from)
    ∙ total-filter (λ s. cond (nat_lt (later timeout s) t) 1 0)
    (λ s. nat_le from s && not (any_between starts s (s + timeout))) starts

adds_known : (timeout from t c s : ℕ) (a b : List ℕ) → t ≤ c → c ≤ inf → StartsKnown c a b →
    adds timeout a from t s ≡ adds timeout b from t s
adds_known timeout from t c s a b low high h = elim (cases_lt (s + timeout) t) [
  | inl before ↦
      ap (λ x. cond (nat_le from s && not x) (cond (nat_lt (later timeout s) t) 1 0) 0)
      (between_known c s (s + timeout) a b (omega arith) h)
  | inr after ↦
      none (nat_le from s && not (any_between a s (s + timeout)))
      (nat_le from s && not (any_between b s (s + timeout))) after
]
  where
    none : (p q : Bool) → t ≤ s + timeout →
        cond {A = ℕ} p (cond (nat_lt (later timeout s) t) 1 0) 0 ≡ cond q (cond (nat_lt (later timeout s) t) 1 0) 0
    none p q after = grind (arith, nat_tests)

adds_late : (timeout from t c s : ℕ) (b : List ℕ) → t ≤ c → c ≤ inf → c ≤ s → adds timeout b from t s ≡ 0
adds_late timeout from t c s b low high late = none (nat_le from s && not (any_between b s (s + timeout)))
  where
    none : (p : Bool) → cond {A = ℕ} p (cond (nat_lt (later timeout s) t) 1 0) 0 ≡ 0
    none p = grind (arith, nat_tests)

pub end_known : (timeout from c : ℕ) (a b : List ℕ) → c ≤ inf → StartsKnown c a b → (t : ℕ) → t ≤ c →
    nat_le t (session_end timeout a from) ≡ nat_le t (session_end timeout b from)
end_known timeout from c a b high h t low =
    least_le t inf (map (later timeout) (last_starts timeout a from))
    ∙ (ap (λ n. nat_le t inf && nat_eq n 0)
    (below_is timeout a from t
    ∙ (total_same _ _ a (λ s. adds_known timeout from t c s a b low high h)
    ∙ (h (adds timeout b from t) (λ s late. adds_late timeout from t c s b low high late)
    ∙ sym (below_is timeout b from t))))
    ∙ sym (least_le t inf (map (later timeout) (last_starts timeout b from))))

pub end_after : (timeout from : ℕ) (starts : List ℕ) → 1 ≤ timeout → from < inf → from < session_end timeout starts from
end_after timeout from starts pos low =
    least_above (suc from) inf (map (later timeout) (last_starts timeout starts from)) (omega arith)
    (below_is timeout starts from (suc from)
    ∙ (total_same _ (λ s. 0) starts (λ s. none s (not (any_between starts s (s + timeout)))) ∙ total_zero starts))
  where
    none : (s : ℕ) (b : Bool) → cond {A = ℕ} (nat_le from s && b) (cond (nat_lt (later timeout s) (suc from)) 1 0) 0 ≡ 0
    none s b = grind (arith, nat_tests)

module _ {R K : Type 0} (key : R → K) (same : K → K → Bool) (timeout : ℕ) where
  pub keyed_total : (v : ℕ → ℕ) (es : List (Event R)) (k : K) →
      total v (key_starts key same es k) ≡ total (λ e. cond (same k (key e.row)) (v e.start) 0) es
  keyed_total v es k =
      total-map v (λ e. e.start) (filter (λ e. same k (key e.row)) es)
      ∙ total-filter (λ e. v e.start) (λ e. same k (key e.row)) es

  pub key_starts_known : (c : ℕ) (a b : List (Event R)) (k : K) → SameBag (cut c a) (cut c b) →
      StartsKnown c (key_starts key same a k) (key_starts key same b k)
  key_starts_known c a b k h v late =
      keyed_total v a k
      ∙ (starts_known (λ r s. cond (same k (key r)) (v s) 0) c a b (λ r s l. none (same k (key r)) (v s) (late s l)) h
      ∙ sym (keyed_total v b k))
    where
      none : (p : Bool) (n : ℕ) → n ≡ 0 → cond p n 0 ≡ 0
      none true n z = z
      none false n z = refl

  one_known : (w : Event R → ℕ) (c : ℕ) (es b : List (Event R)) (e : Event R) → c ≤ inf → SameBag (cut c es) (cut c b) →
      total w (cut_one c (session key same timeout es e))
      ≡ total (λ u. total w (cut_one c (session key same timeout b u))) (cut_one c e)
  one_known w c es b e high h = elim (cases_lt e.start c) [
    | inl early ↦
        let k = key e.row in
        let x = session_end timeout (key_starts key same es k) e.start in
        let y = session_end timeout (key_starts key same b k) e.start in
        cut_alike w c e.start x y e.row
        (known_alike c x y high
        (end_known timeout e.start c (key_starts key same es k) (key_starts key same b k) high
        (key_starts_known c es b k h)))
        ∙ sym (ap (total (λ u. total w (cut_one c (session key same timeout b u)))) (cut_early c e early) ∙ add-zero _)
    | inr late ↦ rw (le-ltb e.start c late) refl
  ]

  by_known : (w : Event R → ℕ) (c : ℕ) (es b : List (Event R)) → c ≤ inf → SameBag (cut c es) (cut c b) →
      total w (cut c (sessions key same timeout es))
      ≡ total (λ u. total w (cut_one c (session key same timeout b u))) (cut c es)
  by_known w c es b high h =
      total-cut w c (sessions key same timeout es)
      ∙ (total-map (λ e. total w (cut_one c e)) (session key same timeout es) es
      ∙ (total_same _ _ es (λ e. one_known w c es b e high h)
      ∙ sym (total-flat_map (λ u. total w (cut_one c (session key same timeout b u))) (cut_one c) es)))

  pub sessions_valid : 1 ≤ timeout → (es : List (Event R)) → AreEvents es → AreEvents (sessions key same timeout es)
  sessions_valid pos es valid = AreEvents-map (session key same timeout es) es (λ e low high. (
    end_after timeout e.start (key_starts key same es (key e.row)) pos (omega arith),
    least_at_most inf (map (later timeout) (last_starts timeout (key_starts key same es (key e.row)) e.start)),
  )) valid

  pub sessions_known : 1 ≤ timeout → (c : ℕ) (a b : List (Event R)) → Known c a b →
      Known c (sessions key same timeout a) (sessions key same timeout b)
  sessions_known pos c a b h = record {
    low = h.low;
    left_valid = sessions_valid pos a h.left_valid;
    right_valid = sessions_valid pos b h.right_valid;
    same = record {
      weigh = λ w.
          by_known w c a b h.low h.same
          ∙ (h.same.weigh (λ u. total w (cut_one c (session key same timeout b u)))
          ∙ sym (by_known w c b b h.low (SameBag-refl (cut c b))));
    };
  }
