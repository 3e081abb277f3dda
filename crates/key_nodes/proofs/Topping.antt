-- The rows with the greatest values, and the events of them.
use Rattle.std.specs.Prelude.{ℕ, ◌<◌, ◌≤◌, nat_lt, ℤ, int_lt, Bool, cond, ◌&&◌, List}
use Rattle.std.proofs.Common.{sym, ◌∙◌, ap}
use Rattle.tw_rows.specs.Instant.{inf}
use Rattle.tw_rows.specs.Bag.{SameBag}
use Rattle.tw_rows.specs.Event.{Event, alive, Known}
use Rattle.tw_rows.proofs.Bags.{total-filter, total_same}
use Rattle.tw_rows.proofs.Lives.{alive_known}
use Rattle.key_nodes.specs.Runs.{Tells}
use Rattle.key_nodes.specs.Coalesced.{coalesced}
use Rattle.key_nodes.specs.Tops.{greater, top_rows, top}
use Rattle.key_nodes.proofs.CoalescedKnown.{coalesced_known}
use Rattle.key_nodes.proofs.CoalescedRows.{coalesced_valid}

-- the same is known of coalesced events where the rows below are the same
pub coalesced_known_of : {R : Type 0} (same : R → R → Bool) (f g : ℕ → List R) (c : ℕ) → Tells same → c ≤ inf →
    ((t : ℕ) → t < c → SameBag (f t) (g t)) → Known c (coalesced same f) (coalesced same g)
coalesced_known_of same f g c tells low h = record {
  low = low;
  left_valid = coalesced_valid same tells f;
  right_valid = coalesced_valid same tells g;
  same = coalesced_known same tells f g c low h;
}

module _ {R : Type 0} (meets : R → R → Bool) (value : R → ℤ) (count : ℕ) where
  pub top_rows_same : (xs ys : List R) → SameBag xs ys →
      SameBag (top_rows meets value count xs) (top_rows meets value count ys)
  top_rows_same xs ys h = record {
    weigh = λ w.
        total-filter w (λ r. nat_lt (greater meets value xs r) count) xs
        ∙ (total_same _ (λ r. cond (nat_lt (greater meets value ys r) count) (w r) 0) xs
        (λ r. ap (λ n. cond (nat_lt n count) (w r) 0)
        (h.weigh (λ x. cond (meets r x && int_lt (value r) (value x)) 1 0)))
        ∙ (h.weigh (λ r. cond (nat_lt (greater meets value ys r) count) (w r) 0)
        ∙ sym (total-filter w (λ r. nat_lt (greater meets value ys r) count) ys)));
  }

  pub top_known : (same : R → R → Bool) → Tells same → (c : ℕ) (a b : List (Event R)) → Known c a b →
      Known c (top same meets value count a) (top same meets value count b)
  top_known same tells c a b h =
      coalesced_known_of same (λ t. top_rows meets value count (alive a t))
      (λ t. top_rows meets value count (alive b t)) c tells h.low
      (λ t early. top_rows_same (alive a t) (alive b t) (alive_known c t a b early h.low h.same))
