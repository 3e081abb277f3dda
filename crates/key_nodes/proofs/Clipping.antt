-- The ends of clipped events.
use Rattle.std.specs.Prelude.{◌≡◌, ℕ, suc, ◌<◌, ◌≤◌, min, nat_lt, nat_le, nat_eq, Bool, cond, ◌&&◌, List, filter, refl}
use Rattle.std.proofs.Common.{inl, inr, sym, ◌∙◌, ap, arith, add-zero}
use Rattle.std.proofs.lemmas.Bool.Decides.{nat_tests}
use Rattle.std.proofs.lemmas.Bool.{cases_lt, lt-ltb, le-ltb}
use Rattle.tw_rows.specs.Instant.{inf}
use Rattle.tw_rows.specs.Bag.{total, SameBag}
use Rattle.tw_rows.specs.Event.{Event, AreEvents, cut_one, cut, Known}
use Rattle.tw_rows.proofs.Bags.{SameBag-refl, total-map, total-filter, total-flat_map, total_same, total_zero}
use Rattle.tw_rows.proofs.Lives.{total-cut}
use Rattle.key_nodes.specs.Sessions.{least}
use Rattle.key_nodes.specs.Clips.{later_starts, clip, clipped}
use Rattle.key_nodes.proofs.Lives.{AreEvents-map, starts_known, known_alike, cut_alike}
use Rattle.key_nodes.proofs.Least.{below, least_le, least_at_most, least_above}

end_cut : (t x n : ℕ) → t ≤ x → x ≤ inf → nat_le t n ≡ nat_le t (cond (nat_lt n x) n inf)
end_cut t x n low high = grind (arith, nat_tests)

module _ {L R : Type 0} (meets : L → R → Bool) where
  -- what one right event adds to the number of starts below t
  abbrev pub adds : Event L → ℕ → R → ℕ → ℕ
  adds e t r s = cond (meets e.row r && nat_lt e.start s) (cond (nat_lt s t) 1 0) 0

  pub below_is : (e : Event L) (t : ℕ) (rs : List (Event R)) →
      below t (later_starts meets rs e) ≡ total (λ r. adds e t r.row r.start) rs
  below_is e t rs =
      total-map (λ n. cond (nat_lt n t) 1 0) (λ r. r.start)
      (filter (λ r. meets e.row r.row && nat_lt e.start r.start) rs)
      ∙ total-filter (λ r. cond (nat_lt r.start t) 1 0) (λ r. meets e.row r.row && nat_lt e.start r.start) rs

  adds_late : (e : Event L) (t : ℕ) (r : R) (s : ℕ) → t ≤ s → adds e t r s ≡ 0
  adds_late e t r s h = none (meets e.row r)
    where
      none : (p : Bool) → cond {A = ℕ} (p && nat_lt e.start s) (cond (nat_lt s t) 1 0) 0 ≡ 0
      none p = grind (arith, nat_tests)

  pub below_known : (e : Event L) (t y : ℕ) (b d : List (Event R)) → t ≤ y → SameBag (cut y b) (cut y d) →
      below t (later_starts meets b e) ≡ below t (later_starts meets d e)
  below_known e t y b d low h =
      below_is e t b
      ∙ (starts_known (adds e t) y b d (λ r s late. adds_late e t r s (omega arith)) h ∙ sym (below_is e t d))

  clip_end_after : (e : Event L) (rs : List (Event R)) → e.start < e.end →
      e.start < least e.end (later_starts meets rs e)
  clip_end_after e rs low = least_above (suc e.start) e.end (later_starts meets rs e) (omega arith)
      (below_is e (suc e.start) rs ∙ (total_same _ (λ r. 0) rs (λ r. none (meets e.row r.row) r.start) ∙ total_zero rs))
    where
      none : (p : Bool) (s : ℕ) → cond {A = ℕ} (p && nat_lt e.start s) (cond (nat_lt s (suc e.start)) 1 0) 0 ≡ 0
      none p s = grind (arith, nat_tests)

  abbrev known_of : ℕ → Event L → Event L
  known_of x e = record { row = e.row; start = e.start; end = cond (nat_lt e.end x) e.end inf }

  one_known : (w : Event L → ℕ) (x y : ℕ) (e : Event L) (b d : List (Event R)) → x ≤ inf → y ≤ inf →
      SameBag (cut y b) (cut y d) →
      total w (cut_one (min x y) (clip meets b e))
      ≡ total (λ u. total w (cut_one (min x y) (clip meets d u))) (cut_one x e)
  one_known w x y e b d hx hy h = elim (cases_lt e.start x) [
    | inl early ↦ rw (lt-ltb e.start x early)
        (cut_alike w (min x y) e.start (clip meets b e).end (clip meets d (known_of x e)).end e.row
        (known_alike (min x y) (clip meets b e).end (clip meets d (known_of x e)).end (omega arith) (λ t low.
        least_le t e.end (later_starts meets b e)
        ∙ (ap (λ n. nat_le t e.end && nat_eq n 0) (below_known e t y b d (omega arith) h)
        ∙ (ap (λ z. z && nat_eq (below t (later_starts meets d e)) 0) (end_cut t x e.end (omega arith) hx)
        ∙ sym (least_le t (known_of x e).end (later_starts meets d e))))))
        ∙ sym (add-zero _))
    | inr late ↦ rw (le-ltb e.start x late, le-ltb e.start (min x y) (omega arith)) refl
  ]

  by_known : (w : Event L → ℕ) (x y : ℕ) (ls : List (Event L)) (rs d : List (Event R)) → x ≤ inf → y ≤ inf →
      SameBag (cut y rs) (cut y d) →
      total w (cut (min x y) (clipped meets ls rs))
      ≡ total (λ u. total w (cut_one (min x y) (clip meets d u))) (cut x ls)
  by_known w x y ls rs d hx hy h =
      total-cut w (min x y) (clipped meets ls rs)
      ∙ (total-map (λ e. total w (cut_one (min x y) e)) (clip meets rs) ls
      ∙ (total_same _ _ ls (λ e. one_known w x y e rs d hx hy h)
      ∙ sym (total-flat_map (λ u. total w (cut_one (min x y) (clip meets d u))) (cut_one x) ls)))

  pub clipped_valid : (ls : List (Event L)) (rs : List (Event R)) → AreEvents ls → AreEvents (clipped meets ls rs)
  clipped_valid ls rs valid = AreEvents-map (clip meets rs) ls (λ e low high. (
    clip_end_after e rs low,
    (let h = least_at_most e.end (later_starts meets rs e) in omega (arith, h, high)),
  )) valid

  pub clipped_known : (x y : ℕ) (a c : List (Event L)) (b d : List (Event R)) → Known x a c → Known y b d →
      Known (min x y) (clipped meets a b) (clipped meets c d)
  clipped_known x y a c b d h k =
      let xl = h.low in
      let yl = k.low in
      record {
        low = omega (arith, xl, yl);
        left_valid = clipped_valid a b h.left_valid;
        right_valid = clipped_valid c d h.right_valid;
        same = record {
          weigh = λ w.
              by_known w x y a b d xl yl k.same
              ∙ (h.same.weigh (λ u. total w (cut_one (min x y) (clip meets d u)))
              ∙ sym (by_known w x y c d d xl yl (SameBag-refl (cut y d))));
        };
      }
