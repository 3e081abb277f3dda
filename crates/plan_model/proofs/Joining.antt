-- What is alive of the pairs of events that meet, and what is known of them.
use Rattle.std.specs.Prelude.{◌≡◌, ℕ, ◌<◌, ◌≤◌, min, max, Bool, true, false, cond, List, [], ◌∷◌, flat_map, refl}
use Rattle.std.proofs.Common.{sym, ◌∙◌, ap, arith}
use Rattle.std.proofs.lemmas.Bool.Decides.{nat_tests}
use Rattle.tw_rows.specs.Instant.{inf}
use Rattle.tw_rows.specs.Bag.{total, SameBag}
use Rattle.tw_rows.specs.Event.{Event, lives_at, alive, AreEvents, cut_one, cut, Known}
use Rattle.tw_rows.proofs.Bags.{total-flat_map, total_same, total_swap}
use Rattle.tw_rows.proofs.Lives.{total-alive, total-cut}
use Rattle.key_nodes.specs.Joins.{with_life, joined_row, joined_rows, joined_one, joined}
use Rattle.plan_model.proofs.NewLives.{total_cond, AreEvents-each, AreEvents-with_life}

module _ {L R P : Type 0} (meets : L → R → Bool) (pair : L → R → P) where
  both_alive : (w : P → ℕ) (t : ℕ) (a : Event L) (b : Event R) (m : Bool) (p : P) →
      total (λ e. cond (lives_at t e) (w e.row) 0) (cond m (with_life p (max a.start b.start) (min a.end b.end)) [])
      ≡ cond (lives_at t a) (cond (lives_at t b) (total w (cond m (p ∷ []) [])) 0) 0
  both_alive w t a b true p = grind (arith, nat_tests)
  both_alive w t a b false p = grind (arith, nat_tests)

  -- the rows that are alive of the joined events are the joined rows of those that are alive
  pub alive-joined : (xs : List (Event L)) (ys : List (Event R)) (ls : List L) (rs : List R) (t : ℕ) → SameBag (alive xs t) ls → SameBag (alive ys t) rs →
      SameBag (alive (joined meets pair xs ys) t) (joined_rows meets pair ls rs)
  alive-joined xs ys ls rs t h k = record {
    weigh = λ w.
        let at : Event P → ℕ = λ e. cond (lives_at t e) (w e.row) 0 in
        let weight : L → R → ℕ = λ a b. total w (joined_row meets pair a b) in
        total-alive w (joined meets pair xs ys) t
        ∙ (total-flat_map at (λ a. flat_map (joined_one meets pair a) ys) xs
        ∙ (total_same _ (λ a. cond (lives_at t a) (total (weight a.row) rs) 0) xs (λ a.
        total-flat_map at (joined_one meets pair a) ys
        ∙ (total_same _ (λ b. cond (lives_at t a) (cond (lives_at t b) (weight a.row b.row) 0) 0) ys (λ b. both_alive w t a b (meets a.row b.row) (pair a.row b.row))
        ∙ (total_cond (lives_at t a) (λ b. cond (lives_at t b) (weight a.row b.row) 0) ys
        ∙ ap (λ n. cond (lives_at t a) n 0) (sym (total-alive (weight a.row) ys t) ∙ k.weigh (weight a.row)))))
        ∙ (sym (total-alive (λ a. total (weight a) rs) xs t)
        ∙ (h.weigh (λ a. total (weight a) rs)
        ∙ sym (total-flat_map w (λ a. flat_map (joined_row meets pair a) rs) ls
        ∙ total_same _ _ ls (λ a. total-flat_map w (joined_row meets pair a) rs))))));
  }

  both_known : (w : Event P → ℕ) (x y : ℕ) (a : Event L) (b : Event R) (m : Bool) (p : P) → a.start < a.end → b.start < b.end → a.end ≤ inf → b.end ≤ inf → x ≤ inf → y ≤ inf →
      total w (cut (min x y) (cond m (with_life p (max a.start b.start) (min a.end b.end)) []))
      ≡ total (λ u. total (λ v. total w (cut (min x y) (cond m (with_life p (max u.start v.start) (min u.end v.end)) []))) (cut_one y b)) (cut_one x a)
  both_known w x y a b true p la lb ea eb fx fy = grind (arith, nat_tests)
  both_known w x y a b false p la lb ea eb fx fy = grind (arith, nat_tests)

  one_known : (w : Event P → ℕ) (x y : ℕ) (a : Event L) (b : Event R) → a.start < a.end → b.start < b.end → a.end ≤ inf → b.end ≤ inf → x ≤ inf → y ≤ inf →
      total w (cut (min x y) (joined_one meets pair a b)) ≡ total (λ u. total (λ v. total w (cut (min x y) (joined_one meets pair u v))) (cut_one y b)) (cut_one x a)
  one_known w x y a b la lb ea eb fx fy = both_known w x y a b (meets a.row b.row) (pair a.row b.row) la lb ea eb fx fy ∙ same_pairs
    where
      same_pairs :
          total (λ u. total (λ v. total w (cut (min x y) (cond (meets a.row b.row) (with_life (pair a.row b.row) (max u.start v.start) (min u.end v.end)) []))) (cut_one y b)) (cut_one x a)
          ≡ total (λ u. total (λ v. total w (cut (min x y) (joined_one meets pair u v))) (cut_one y b)) (cut_one x a)
      same_pairs = grind (arith, nat_tests)

  total_same_valid : {E : Type 0} (v u : Event E → ℕ) (es : List (Event E)) → AreEvents es → ((e : Event E) → e.start < e.end → e.end ≤ inf → v e ≡ u e) → total v es ≡ total u es
  total_same_valid v u [] valid h = refl
  total_same_valid v u (e ∷ es) valid h = let first = h e valid.0 valid.1 in let rest = total_same_valid v u es valid.2 h in omega (arith, first, rest)

  total-cut-joined : (x y : ℕ) (ls : List (Event L)) (rs : List (Event R)) → AreEvents ls → AreEvents rs → x ≤ inf → y ≤ inf → (w : Event P → ℕ) →
      total w (cut (min x y) (joined meets pair ls rs)) ≡ total (λ u. total (λ v. total w (cut (min x y) (joined_one meets pair u v))) (cut y rs)) (cut x ls)
  total-cut-joined x y ls rs vl vr fx fy w =
      let d = min x y in
      let F : Event L → Event R → ℕ = λ u v. total w (cut d (joined_one meets pair u v)) in
      let W : Event P → ℕ = λ e. total w (cut_one d e) in
      total-cut w d (joined meets pair ls rs)
      ∙ (total-flat_map W (λ a. flat_map (joined_one meets pair a) rs) ls
      ∙ (total_same_valid _ (λ a. total (λ u. total (F u) (cut y rs)) (cut_one x a)) ls vl (λ a la ea.
      total-flat_map W (joined_one meets pair a) rs
      ∙ (total_same _ _ rs (λ b. sym (total-cut w d (joined_one meets pair a b)))
      ∙ (total_same_valid _ (λ b. total (λ u. total (F u) (cut_one y b)) (cut_one x a)) rs vr (λ b lb eb. one_known w x y a b la lb ea eb fx fy)
      ∙ (total_swap (λ b u. total (F u) (cut_one y b)) rs (cut_one x a)
      ∙ total_same _ _ (cut_one x a) (λ u. sym (total-flat_map (F u) (cut_one y) rs))))))
      ∙ sym (total-flat_map (λ u. total (F u) (cut y rs)) (cut_one x) ls)))

  AreEvents-joined : (ls : List (Event L)) (rs : List (Event R)) → AreEvents ls → AreEvents rs → AreEvents (joined meets pair ls rs)
  AreEvents-joined ls rs vl vr = AreEvents-each _ (λ a la ea. AreEvents-each _ (λ b lb eb. picked a b (meets a.row b.row) ea) rs vr) ls vl
    where
      picked : (a : Event L) (b : Event R) (m : Bool) → a.end ≤ inf → AreEvents (cond m (with_life (pair a.row b.row) (max a.start b.start) (min a.end b.end)) [])
      picked a b true ea = AreEvents-with_life (pair a.row b.row) (max a.start b.start) (min a.end b.end) (omega arith)
      picked a b false ea = tt

  pub Known-joined : (x y : ℕ) (a c : List (Event L)) (b d : List (Event R)) → Known x a c → Known y b d → Known (min x y) (joined meets pair a b) (joined meets pair c d)
  Known-joined x y a c b d h k = record {
    low = (let below = h.low in omega arith);
    left_valid = AreEvents-joined a b h.left_valid k.left_valid;
    right_valid = AreEvents-joined c d h.right_valid k.right_valid;
    same = record {
      weigh = λ w.
          let F : Event L → Event R → ℕ = λ u v. total w (cut (min x y) (joined_one meets pair u v)) in
          total-cut-joined x y a b h.left_valid k.left_valid h.low k.low w
          ∙ (h.same.weigh (λ u. total (F u) (cut y b))
          ∙ (total_same _ _ (cut x c) (λ u. k.same.weigh (F u))
          ∙ sym (total-cut-joined x y c d h.right_valid k.right_valid h.low k.low w)));
    };
  }
