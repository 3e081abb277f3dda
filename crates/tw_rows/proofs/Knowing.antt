-- What is known of lives below a time, and what is known below lower times.
use Rattle.std.specs.Prelude.{◌≡◌, ℕ, ◌≤◌, List}
use Rattle.std.proofs.Common.{sym, ◌∙◌, arith}
use Rattle.std.proofs.lemmas.Bool.Decides.{nat_tests}
use Rattle.tw_rows.specs.Instant.{inf}
use Rattle.tw_rows.specs.Bag.{total}
use Rattle.tw_rows.specs.Event.{Event, AreEvents, cut_one, cut, seen, Known}
use Rattle.tw_rows.proofs.Bags.{SameBag-refl, SameBag-sym, SameBag-trans, total-flat_map, total_same}
use Rattle.tw_rows.proofs.Lives.{total-cut}

lower_one : {R : Type 0} (w : Event R → ℕ) (c d : ℕ) (e : Event R) → d ≤ c → c ≤ inf → seen w d e ≡ total (seen w d) (cut_one c e)
lower_one w c d e below low = grind (arith, nat_tests)

-- what is known below a time is known below an earlier one
pub Known-lower : {R : Type 0} (c d : ℕ) (a b : List (Event R)) → d ≤ c → Known c a b → Known d a b
Known-lower {R} c d a b below h = record {
  low = (let l = h.low in omega arith);
  left_valid = h.left_valid;
  right_valid = h.right_valid;
  same = record {
    weigh = λ w.
        let go : (es : List (Event R)) → total w (cut d es) ≡ total (seen w d) (cut c es) = λ es.
        total-cut w d es ∙ (total_same _ _ es (λ e. lower_one w c d e below h.low) ∙ sym (total-flat_map (seen w d) (cut_one c) es)) in
        go a ∙ (h.same.weigh (seen w d) ∙ sym (go b));
  };
}

pub Known-refl : {R : Type 0} (c : ℕ) (a : List (Event R)) → c ≤ inf → AreEvents a → Known c a a
Known-refl c a low valid = record { low = low; left_valid = valid; right_valid = valid; same = SameBag-refl _ }

pub Known-sym : {R : Type 0} (c : ℕ) (a b : List (Event R)) → Known c a b → Known c b a
Known-sym c a b h = record { low = h.low; left_valid = h.right_valid; right_valid = h.left_valid; same = SameBag-sym _ _ h.same }

pub Known-trans : {R : Type 0} (c : ℕ) (a b d : List (Event R)) → Known c a b → Known c b d → Known c a d
Known-trans c a b d h k = record { low = h.low; left_valid = h.left_valid; right_valid = k.right_valid; same = SameBag-trans _ _ _ h.same k.same }

-- lists that are seen alike below c are known alike
pub Known-seen : {R : Type 0} (c : ℕ) (a b : List (Event R)) → c ≤ inf → AreEvents a → AreEvents b → ((w : Event R → ℕ) → total (seen w c) a ≡ total (seen w c) b) → Known c a b
Known-seen c a b low va vb h = record { low = low; left_valid = va; right_valid = vb; same = record { weigh = λ w. total-cut w c a ∙ (h w ∙ sym (total-cut w c b)) } }
