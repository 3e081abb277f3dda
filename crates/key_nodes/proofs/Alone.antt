-- The events of an anti-join.
use Rattle.std.specs.Prelude.{◌≡◌, ℕ, ◌<◌, ◌≤◌, min, nat_lt, Bool, true, false, cond, not, ◌&&◌, Some, None, List, refl}
use Rattle.std.proofs.Common.{inl, inr, sym, ◌∙◌, ap, arith, add-zero}
use Rattle.std.proofs.lemmas.Bool.Decides.{nat_tests}
use Rattle.std.proofs.lemmas.Bool.{cases_lt, lt-ltb, le-ltb}
use Rattle.tw_rows.specs.Instant.{inf}
use Rattle.tw_rows.specs.Bag.{total, SameBag}
use Rattle.tw_rows.specs.Event.{Event, lives_at, alive, AreEvents, cut_one, cut, Known}
use Rattle.tw_rows.proofs.Bags.{SameBag-refl, total-filter, total-flat_map, total_same}
use Rattle.tw_rows.proofs.Lives.{total-alive, total-cut, alive_known}
use Rattle.key_nodes.specs.Runs.{Tells, runs}
use Rattle.key_nodes.specs.Antis.{meets_none, alone_rows, alone_at, alone}
use Rattle.key_nodes.proofs.Bags.{any_of_same}
use Rattle.key_nodes.proofs.Lives.{AreEvents-flat_map}
use Rattle.key_nodes.proofs.RunSteps.{runs_valid, runs_known, runs_none, cut_runs, weight_of, alive_runs}

split_weight : {L : Type 0} (w : L → ℕ) (p q : Bool) (r : L) →
    weight_of w (cond (p && q) (Some r) None) ≡ cond p (cond q (w r) 0) 0
split_weight w true true r = refl
split_weight w true false r = refl
split_weight w false q r = refl

not_yet : {L : Type 0} (u : ℕ) (e : Event L) → u < e.start → lives_at u e ≡ false
not_yet u e h = grind (arith, nat_tests)

abbrev known_of : {L : Type 0} → ℕ → Event L → Event L
known_of x e = record { row = e.row; start = e.start; end = cond (nat_lt e.end x) e.end inf }

same_life : {L : Type 0} (u x : ℕ) (e : Event L) → u < x → x ≤ inf → lives_at u e ≡ lives_at u (known_of x e)
same_life u x e low high = grind (arith, nat_tests)

module _ {L R : Type 0} (same_row : L → L → Bool) (meets : L → R → Bool) where
  pub alone_valid : (ls : List (Event L)) (rs : List (Event R)) → AreEvents (alone same_row meets ls rs)
  alone_valid ls rs =
      AreEvents-flat_map (λ e. runs same_row (alone_at meets rs e) inf) ls
      (λ e. runs_valid same_row (alone_at meets rs e) inf (omega arith))

  none_met : (l : L) (xs ys : List R) → SameBag xs ys → meets_none meets xs l ≡ meets_none meets ys l
  none_met l xs ys h = ap not (any_of_same (meets l) xs ys h)

  pub alive_alone : Tells same_row → (ls : List (Event L)) (rs : List (Event R)) (la : List L) (ra : List R) (t : ℕ) →
      t < inf → SameBag (alive ls t) la → SameBag (alive rs t) ra →
      SameBag (alive (alone same_row meets ls rs) t) (alone_rows meets la ra)
  alive_alone tells ls rs la ra t low h k = record {
    weigh = λ w.
        let at : Event L → ℕ = λ e. cond (lives_at t e) (w e.row) 0 in
        let free : L → ℕ = λ l. cond (meets_none meets ra l) (w l) 0 in
        total-alive w (alone same_row meets ls rs) t
        ∙ (total-flat_map at (λ e. runs same_row (alone_at meets rs e) inf) ls
        ∙ (total_same _ (λ e. cond (lives_at t e) (free e.row) 0) ls (λ e.
        sym (total-alive w (runs same_row (alone_at meets rs e) inf) t)
        ∙ (alive_runs same_row w (alone_at meets rs e) inf t tells low
        ∙ (split_weight w (lives_at t e) (meets_none meets (alive rs t) e.row) e.row
        ∙ ap (λ b. cond (lives_at t e) (cond b (w e.row) 0) 0) (none_met e.row (alive rs t) ra k))))
        ∙ (sym (total-alive free ls t)
        ∙ (h.weigh free
        ∙ sym (total-filter w (meets_none meets ra) la)))));
  }

  -- what is known below m of the runs of one left event
  weight_known : (Event L → ℕ) → ℕ → List (Event R) → Event L → ℕ
  weight_known w m rs e = total w (cut m (runs same_row (alone_at meets rs e) inf))

  one_known : (w : Event L → ℕ) (x m : ℕ) (rs qs : List (Event R)) (e : Event L) → m ≤ x → x ≤ inf →
      ((u : ℕ) → u < m → SameBag (alive rs u) (alive qs u)) →
      weight_known w m rs e ≡ total (weight_known w m qs) (cut_one x e)
  unfolding weight_known
  one_known w x m rs qs e low high same = elim (cases_lt e.start x) [
    | inl early ↦ rw (lt-ltb e.start x early)
        (ap (total w)
        (runs_known same_row (alone_at meets rs e) (alone_at meets qs (known_of x e)) m inf (omega arith) (λ u h.
        ap (λ b. cond (b && meets_none meets (alive rs u) e.row) (Some e.row) None) (same_life u x e (omega arith) high)
        ∙ ap (λ b. cond (lives_at u (known_of x e) && b) (Some e.row) None)
        (none_met e.row (alive rs u) (alive qs u) (same u h))))
        ∙ sym (add-zero _))
    | inr late ↦ rw (le-ltb e.start x late)
        (ap (total w) (cut_runs same_row (alone_at meets rs e) m inf (omega arith)
        ∙ ap (cut m)
        (runs_none same_row (alone_at meets rs e) m
        (λ u h. ap (λ b. cond (b && meets_none meets (alive rs u) e.row) (Some e.row) None)
        (not_yet u e (omega arith))))))
  ]

  by_known : (w : Event L → ℕ) (x m : ℕ) (ls : List (Event L)) (rs qs : List (Event R)) → m ≤ x → x ≤ inf →
      ((u : ℕ) → u < m → SameBag (alive rs u) (alive qs u)) →
      total w (cut m (alone same_row meets ls rs)) ≡ total (weight_known w m qs) (cut x ls)
  unfolding weight_known
  by_known w x m ls rs qs low high same =
      total-cut w m (alone same_row meets ls rs)
      ∙ (total-flat_map (λ e. total w (cut_one m e)) (λ e. runs same_row (alone_at meets rs e) inf) ls
      ∙ (total_same _ (λ e. total (weight_known w m qs) (cut_one x e)) ls
      (λ e. sym (total-cut w m (runs same_row (alone_at meets rs e) inf)) ∙ one_known w x m rs qs e low high same)
      ∙ sym (total-flat_map (weight_known w m qs) (cut_one x) ls)))

  pub alone_known : (x y : ℕ) (a c : List (Event L)) (b d : List (Event R)) → Known x a c → Known y b d →
      Known (min x y) (alone same_row meets a b) (alone same_row meets c d)
  alone_known x y a c b d h k =
      let xl = h.low in
      let yl = k.low in
      record {
        low = omega (arith, xl, yl);
        left_valid = alone_valid a b;
        right_valid = alone_valid c d;
        same = record {
          weigh = λ w.
              by_known w x (min x y) a b d (omega arith) xl (λ u low. alive_known y u b d (omega arith) yl k.same)
              ∙ (h.same.weigh (weight_known w (min x y) d)
              ∙ sym (by_known w x (min x y) c d d (omega arith) xl (λ u low. SameBag-refl (alive d u))));
        };
      }

pub alone_rows_same : {L R : Type 0} (meets : L → R → Bool) (xs ys : List L) (us vs : List R) → SameBag xs ys →
    SameBag us vs → SameBag (alone_rows meets xs us) (alone_rows meets ys vs)
alone_rows_same meets xs ys us vs h k = record {
  weigh = λ w.
      total-filter w (meets_none meets us) xs
      ∙ (total_same _ (λ l. cond (meets_none meets vs l) (w l) 0) xs
      (λ l. ap (λ b. cond (not b) (w l) 0) (any_of_same (meets l) us vs k))
      ∙ (h.weigh (λ l. cond (meets_none meets vs l) (w l) 0)
      ∙ sym (total-filter w (meets_none meets vs) ys)));
}
