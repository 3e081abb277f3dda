-- What is known of followed events, and their lives.
use Rattle.std.specs.Prelude.{◌≡◌, ℕ, ◌+◌, ◌<◌, ◌≤◌, min, nat_lt, Bool, true, false, cond, not, ◌&&◌, List, [], ◌∷◌, flat_map, refl}
use Rattle.std.specs.List.{list_any}
use Rattle.std.proofs.Common.{inl, inr, sym, ◌∙◌, ap, arith}
use Rattle.std.proofs.lemmas.Bool.{cases_lt}
use Rattle.std.proofs.lemmas.Bool.Decides.{nat_tests}
use Rattle.tw_rows.specs.Instant.{inf, later}
use Rattle.tw_rows.specs.Bag.{total, SameBag}
use Rattle.tw_rows.specs.Event.{Event, AreEvents, cut_one, cut, Known}
use Rattle.tw_rows.proofs.Bags.{total-flat_map, total_same, total_zero}
use Rattle.tw_rows.proofs.Lives.{total-cut, AreEvents-append}
use Rattle.key_nodes.specs.Follows.{starts_within, starts_next, followed_one, followed}
use Rattle.key_nodes.proofs.Bags.{any_by_weight}
use Rattle.key_nodes.proofs.Lives.{AreEvents-flat_map, starts_known}

module _ {L R P : Type 0} (meets : L → R → Bool) (pair : L → R → P) (within : ℕ) where
  -- the test whether a pair starts within the time, by rows and starts alone
  abbrev near : L → ℕ → R → ℕ → Bool
  near l s r u = meets l r && (nat_lt s u && nat_lt u (s + within))

  -- a right event starts within the time after a left one, and before u
  abbrev sooner : List (Event R) → L → ℕ → ℕ → Bool
  sooner rs l s u = list_any (λ c. near l s c.row c.start && nat_lt c.start u) rs

  late_zero : (p q : Bool) (s u y : ℕ) → u ≤ y → y ≤ s → cond {A = ℕ} (p && nat_lt s u) 1 0 ≡ 0
  late_zero p q s u y low late = grind (arith, nat_tests)

  sooner_known : (y : ℕ) (b d : List (Event R)) (l : L) (s u : ℕ) → u ≤ y → SameBag (cut y b) (cut y d) →
      sooner b l s u ≡ sooner d l s u
  sooner_known y b d l s u low h =
      any_by_weight (λ c. near l s c.row c.start && nat_lt c.start u) b
      ∙ (ap (nat_lt 0)
      (starts_known (λ r v. cond (near l s r v && nat_lt v u) 1 0) y b d
      (λ r v late. late_zero (near l s r v) true v u y low late) h)
      ∙ sym (any_by_weight (λ c. near l s c.row c.start && nat_lt c.start u) d))

  -- what is known below z of the event of a pair, by rows and starts alone
  abbrev weight : (Event P → ℕ) → ℕ → List (Event R) → L → ℕ → R → ℕ → ℕ
  weight w z rs l s r u =
      cond (near l s r u && not (sooner rs l s u))
      (total w (cut_one z (record { row = pair l r; start = u; end = later within s }))) 0

  one : (w : Event P → ℕ) (z : ℕ) (rs : List (Event R)) (a : Event L) (b : Event R) →
      total (λ e. total w (cut_one z e)) (followed_one meets pair within rs a b)
      ≡ weight w z rs a.row a.start b.row b.start
  one w z rs a b = pick (starts_next meets within rs a b)
    where
      pick : (p : Bool) →
          total (λ e. total w (cut_one z e))
          (cond p (record { row = pair a.row b.row; start = b.start; end = later within a.start } ∷ []) [])
          ≡ cond p (total w
          (cut_one z (record { row = pair a.row b.row; start = b.start; end = later within a.start }))) 0
      pick true = let e : (n : ℕ) → n + 0 ≡ n = λ n. omega arith in e _
      pick false = refl

  weigh_all : (w : Event P → ℕ) (z : ℕ) (ls : List (Event L)) (rs : List (Event R)) →
      total w (cut z (followed meets pair within ls rs))
      ≡ total (λ a. total (λ b. weight w z rs a.row a.start b.row b.start) rs) ls
  weigh_all w z ls rs =
      let W : Event P → ℕ = λ e. total w (cut_one z e) in
      total-cut w z (followed meets pair within ls rs)
      ∙ (total-flat_map W (λ a. flat_map (followed_one meets pair within rs a) rs) ls
      ∙ total_same _ _ ls (λ a.
      total-flat_map W (followed_one meets pair within rs a) rs
      ∙ total_same _ _ rs (λ b. one w z rs a b)))

  -- a pair whose right event starts at z or later is not known below z
  weight_late : (w : Event P → ℕ) (z : ℕ) (rs : List (Event R)) (l : L) (s : ℕ) (r : R) (u : ℕ) → z ≤ u →
      weight w z rs l s r u ≡ 0
  weight_late w z rs l s r u late = pick (near l s r u && not (sooner rs l s u))
    where
      pick : (p : Bool) →
          cond p (total w (cut_one z (record { row = pair l r; start = u; end = later within s }))) 0 ≡ 0
      pick p = grind (arith, nat_tests)

  weight_left : (w : Event P → ℕ) (z : ℕ) (rs : List (Event R)) (l : L) (s : ℕ) (r : R) (u : ℕ) → z ≤ s →
      weight w z rs l s r u ≡ 0
  weight_left w z rs l s r u late = pick (meets l r) (not (sooner rs l s u)) (total w (cut_one z (record { row = pair l r; start = u; end = later within s }))) (λ k. cut_none k)
    where
      cut_none : z ≤ u → total w (cut_one z (record { row = pair l r; start = u; end = later within s })) ≡ 0
      cut_none k = grind (arith, nat_tests)

      pick : (m p : Bool) (n : ℕ) → (z ≤ u → n ≡ 0) → cond ((m && (nat_lt s u && nat_lt u (s + within))) && p) n 0 ≡ 0
      pick m p n h = grind (arith, nat_tests)

  weight_known : (w : Event P → ℕ) (z y : ℕ) (b d : List (Event R)) (l : L) (s : ℕ) (r : R) (u : ℕ) → z ≤ y →
      SameBag (cut y b) (cut y d) → weight w z b l s r u ≡ weight w z d l s r u
  weight_known w z y b d l s r u low h = elim (cases_lt u z) [
    | inl early ↦ ap (λ p. cond (near l s r u && not p)
        (total w (cut_one z (record { row = pair l r; start = u; end = later within s }))) 0)
        (sooner_known y b d l s u (omega (arith, early, low)) h)
    | inr late ↦ weight_late w z b l s r u late ∙ sym (weight_late w z d l s r u late)
  ]

  left_known : (w : Event P → ℕ) (z y : ℕ) (b d : List (Event R)) (l : L) (s : ℕ) → z ≤ y →
      SameBag (cut y b) (cut y d) →
      total (λ e. weight w z b l s e.row e.start) b ≡ total (λ e. weight w z d l s e.row e.start) d
  left_known w z y b d l s low h =
      total_same _ (λ e. weight w z d l s e.row e.start) b
      (λ e. weight_known w z y b d l s e.row e.start low h)
      ∙ starts_known (weight w z d l s) y b d
      (λ r u late. weight_late w z d l s r u (omega (arith, low, late))) h

  followed_cut : (w : Event P → ℕ) (x y : ℕ) (a c : List (Event L)) (b d : List (Event R)) →
      SameBag (cut x a) (cut x c) → SameBag (cut y b) (cut y d) →
      total w (cut (min x y) (followed meets pair within a b))
      ≡ total w (cut (min x y) (followed meets pair within c d))
  followed_cut w x y a c b d h k =
      let z = min x y in
      weigh_all w z a b
      ∙ (total_same _ (λ e. total (λ f. weight w z d e.row e.start f.row f.start) d) a
      (λ e. left_known w z y b d e.row e.start (omega arith) k)
      ∙ (starts_known (λ l s. total (λ f. weight w z d l s f.row f.start) d) x a c
      (λ l s late. total_same _ (λ f. 0) d
      (λ f. weight_left w z d l s f.row f.start (omega (arith, late))) ∙ total_zero d) h
      ∙ sym (weigh_all w z c d)))

  valid_one : (rs : List (Event R)) (a : Event L) (b : Event R) → b.start < inf →
      AreEvents (followed_one meets pair within rs a b)
  valid_one rs a b low = pick (meets a.row b.row)
      (not (list_any (λ c. starts_within meets within a c && nat_lt c.start b.start) rs))
    where
      pick : (m p : Bool) →
          AreEvents (cond ((m && (nat_lt a.start b.start && nat_lt b.start (a.start + within))) && p)
          (record { row = pair a.row b.row; start = b.start; end = later within a.start } ∷ []) [])
      pick m p = go ((m && (nat_lt a.start b.start && nat_lt b.start (a.start + within))) && p) (bound m p)
        where
          bound : (m p : Bool) →
              ((m && (nat_lt a.start b.start && nat_lt b.start (a.start + within))) && p) ≡ true →
              b.start < a.start + within
          bound m p h = grind (arith, nat_tests)

          go : (q : Bool) → (q ≡ true → b.start < a.start + within) →
              AreEvents (cond q
              (record { row = pair a.row b.row; start = b.start; end = later within a.start } ∷ []) [])
          go true h = let k = h refl in (omega (arith, k, low), omega arith, tt)
          go false h = tt

  valid_all : (whole rs : List (Event R)) (a : Event L) → AreEvents rs →
      AreEvents (flat_map (followed_one meets pair within whole a) rs)
  valid_all whole [] a h = tt
  valid_all whole (b ∷ rs) a h =
      AreEvents-append (followed_one meets pair within whole a b) _
      (valid_one whole a b (let l = h.0 in let k = h.1 in omega (arith, l, k))) (valid_all whole rs a h.2)

  pub followed_valid : (ls : List (Event L)) (rs : List (Event R)) → AreEvents rs →
      AreEvents (followed meets pair within ls rs)
  followed_valid ls rs h =
      AreEvents-flat_map (λ a. flat_map (followed_one meets pair within rs a) rs) ls (λ a. valid_all rs rs a h)

  pub followed_known : (x y : ℕ) (a c : List (Event L)) (b d : List (Event R)) → Known x a c → Known y b d →
      Known (min x y) (followed meets pair within a b) (followed meets pair within c d)
  followed_known x y a c b d h k =
      let xl = h.low in
      record {
        low = omega (arith, xl);
        left_valid = followed_valid a b k.left_valid;
        right_valid = followed_valid c d k.right_valid;
        same = record { weigh = λ w. followed_cut w x y a c b d h.same k.same };
      }
