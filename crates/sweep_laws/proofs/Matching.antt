-- What the rows that wait give at an instant.
use Rattle.std.specs.Prelude.{◌≡◌, ◌⊎◌, ℕ, ◌+◌, ◌<◌, ◌≤◌, nat_eq, nat_lt, nat_le, Bool, true, false, cond, not, ◌&&◌, ◌||◌, List, [], ◌∷◌, map, flat_map, refl}
use Rattle.std.specs.List.{list_any}
use Rattle.std.proofs.Common.{sym, ◌∙◌, ap, arith, inl, inr}
use Rattle.std.proofs.lemmas.Bool.{cases_lt}
use Rattle.std.proofs.lemmas.Bool.Decides.{nat_tests}
use Rattle.tw_rows.specs.Instant.{inf, later}
use Rattle.tw_rows.specs.Bag.{total}
use Rattle.tw_rows.specs.declared.cells.Datum.{Datum}
use Rattle.tw_rows.specs.declared.edge.HeldRow.{HeldRow}
use Rattle.tw_rows.proofs.Bags.{total-flat_map, total-map, total_same, total_zero}
use Rattle.edge_history.specs.History.{CellEvent}
use Rattle.edge_history.specs.Opens.{open_of}
use Rattle.key_nodes.specs.Follows.{starts_within, starts_next, followed_one, followed}
use Rattle.sweep_laws.specs.Clipping.{is_clipped}
use Rattle.sweep_laws.proofs.ClipSteps.{clips_open}
use Rattle.sweep_laws.specs.Waits.{lasting, waiting, match_of, matches_of}

module _ (meets : List Datum → List Datum → Bool) (pair : List Datum → List Datum → List Datum) (within t : ℕ) (now : t < inf) (v : CellEvent → ℕ) where
  abbrev at_t : CellEvent → ℕ
  at_t e = cond (nat_eq e.start t) (v e) 0

  abbrev held : CellEvent → HeldRow
  held a = record { cells = a.row; start = a.start }

  -- of a right event before t, that it follows within the time is what a clip asks
  sooner_is : (a : CellEvent) (b : List CellEvent) → t ≤ a.start + within →
      list_any (λ c. starts_within meets within a c && nat_lt c.start t) b ≡ is_clipped meets b t (held a)
  sooner_is a [] low = refl
  sooner_is a (x ∷ b) low = one (meets a.row x.row) x.start (list_any (λ c. starts_within meets within a c && nat_lt c.start t) b) (is_clipped meets b t (held a)) (sooner_is a b low)
    where
      one : (m : Bool) (s : ℕ) (p q : Bool) → p ≡ q → (((m && (nat_lt a.start s && nat_lt s (a.start + within))) && nat_lt s t) || p) ≡ ((m && (nat_lt a.start s && nat_lt s t)) || q)
      one m s p q e = grind (arith, nat_tests)

  abbrev given : CellEvent → CellEvent → ℕ
  given a x = total v (match_of meets pair within t (held a) x)

  -- a pair gives at t what the waiting row gives, if it waits and its time is not over
  abbrev waits : CellEvent → List CellEvent → Bool
  waits a b = nat_lt a.start t && (nat_lt t (a.start + within) && not (is_clipped meets b t (held a)))

  one_weighs : {X : Type 0} (w : X → ℕ) (p : Bool) (x : X) → total w (cond p (x ∷ []) []) ≡ cond p (w x) 0
  one_weighs w true x = let e : w x + 0 ≡ w x = omega arith in e
  one_weighs w false x = refl

  none_weigh : {X : Type 0} (w : X → ℕ) (p : Bool) (xs : List X) → total w (cond p xs []) ≡ cond p (total w xs) 0
  none_weigh w true xs = refl
  none_weigh w false xs = refl

  final : (m : Bool) (s u : ℕ) (p q : Bool) (n k : ℕ) → (u ≡ t → t ≤ s + within → p ≡ q) → (u ≡ t → n ≡ k) →
      cond {A = ℕ} ((m && (nat_lt s u && nat_lt u (s + within))) && not p) (cond (nat_eq u t) n 0) 0
      ≡ cond (nat_lt s t && (nat_lt t (s + within) && not q)) (cond (nat_eq u t && m) k 0) 0
  final m s u p q n k h e = elim (cases_lt u t) [
    | inl before ↦ rest (λ z. omega (arith, z, before))
    | inr after ↦ elim (cases_lt t u) [
      | inl late ↦ rest (λ z. omega (arith, z, late))
      | inr at ↦ here (omega (arith, after, at))
    ]
  ]
    where
      rest : (u ≡ t → ⊥) → cond {A = ℕ} ((m && (nat_lt s u && nat_lt u (s + within))) && not p) (cond (nat_eq u t) n 0) 0
          ≡ cond (nat_lt s t && (nat_lt t (s + within) && not q)) (cond (nat_eq u t && m) k 0) 0
      rest z = grind (arith, nat_tests)

      over : (p q : Bool) → s + within < t → cond {A = ℕ} ((m && (nat_lt s t && nat_lt t (s + within))) && not p) k 0 ≡ cond (nat_lt s t && (nat_lt t (s + within) && not q)) (cond m k 0) 0
      over p q l = grind (arith, nat_tests)

      same : (q : Bool) → cond {A = ℕ} ((m && (nat_lt s t && nat_lt t (s + within))) && not q) k 0 ≡ cond (nat_lt s t && (nat_lt t (s + within) && not q)) (cond m k 0) 0
      same q = grind (arith, nat_tests)

      is_now : (u : ℕ) → u ≡ t → nat_eq u t ≡ true
      is_now u z = grind (arith, nat_tests)

      here : u ≡ t → cond {A = ℕ} ((m && (nat_lt s u && nat_lt u (s + within))) && not p) (cond (nat_eq u t) n 0) 0
          ≡ cond (nat_lt s t && (nat_lt t (s + within) && not q)) (cond (nat_eq u t && m) k 0) 0
      here z =
          ap (λ b. cond {A = ℕ} ((m && (nat_lt s u && nat_lt u (s + within))) && not p) (cond b n 0) 0) (is_now u z)
          ∙ (ap (λ x. cond {A = ℕ} ((m && (nat_lt s x && nat_lt x (s + within))) && not p) n 0) z
          ∙ (ap (λ x. cond {A = ℕ} ((m && (nat_lt s t && nat_lt t (s + within))) && not p) x 0) (e z)
          ∙ (by_time (cases_lt (s + within) t)
          ∙ sym (ap (λ b. cond {A = ℕ} (nat_lt s t && (nat_lt t (s + within) && not q)) (cond (b && m) k 0) 0) (is_now u z)))))
        where
          by_time : (s + within < t) ⊎ (t ≤ s + within) → cond {A = ℕ} ((m && (nat_lt s t && nat_lt t (s + within))) && not p) k 0 ≡ cond (nat_lt s t && (nat_lt t (s + within) && not q)) (cond m k 0) 0
          by_time (inl l) = over p q l
          by_time (inr l) = ap (λ b. cond {A = ℕ} ((m && (nat_lt s t && nat_lt t (s + within))) && not b) k 0) (h z l) ∙ same q

  pair_at : (b : List CellEvent) (a x : CellEvent) → total at_t (followed_one meets pair within b a x) ≡ cond (waits a b) (given a x) 0
  pair_at b a x =
      let e : CellEvent = record { row = pair a.row x.row; start = x.start; end = later within a.start } in
      let f : CellEvent = record { row = pair a.row x.row; start = t; end = later within a.start } in
      one_weighs at_t (starts_next meets within b a x) e
      ∙ (final (meets a.row x.row) a.start x.start (list_any (λ c. starts_within meets within a c && nat_lt c.start x.start) b) (is_clipped meets b t (held a)) (v e) (v f)
      (λ z low. ap (λ u. list_any (λ c. starts_within meets within a c && nat_lt c.start u) b) z ∙ sooner_is a b low)
      (λ z. ap (λ u. v (record { row = pair a.row x.row; start = u; end = later within a.start })) z)
      ∙ sym (ap (λ n. cond (waits a b) n 0) (one_weighs v (nat_eq x.start t && meets a.row x.row) f)))

  out_of : (c : Bool) (w : CellEvent → ℕ) (xs : List CellEvent) → total (λ x. cond c (w x) 0) xs ≡ cond c (total w xs) 0
  out_of true w xs = refl
  out_of false w xs = total_zero xs

  -- a left event gives at t what its row gives, if that waits
  left_at : (b : List CellEvent) (a : CellEvent) → total at_t (flat_map (followed_one meets pair within b a) b)
      ≡ cond (waits a b) (total v (flat_map (match_of meets pair within t (held a)) b)) 0
  left_at b a =
      total-flat_map at_t (followed_one meets pair within b a) b
      ∙ (total_same _ (λ x. cond (waits a b) (given a x) 0) b (λ x. pair_at b a x)
      ∙ (out_of (waits a b) (given a) b
      ∙ ap (λ n. cond (waits a b) n 0) (sym (total-flat_map v (match_of meets pair within t (held a)) b))))

  open_at : (b : List CellEvent) (a : CellEvent) →
      total (λ r. cond (is_clipped meets b t r) 0 (total v (matches_of meets pair within t b r))) (open_of t (lasting within a))
      ≡ cond (waits a b) (total v (flat_map (match_of meets pair within t (held a)) b)) 0
  open_at b a =
      one_weighs (λ r. cond (is_clipped meets b t r) 0 (total v (matches_of meets pair within t b r))) (nat_lt a.start t && nat_le t (later within a.start)) (held a)
      ∙ (ap (λ n. cond (nat_lt a.start t && nat_le t (later within a.start)) (cond (is_clipped meets b t (held a)) 0 n) 0) (none_weigh v (nat_lt t (a.start + within)) (flat_map (match_of meets pair within t (held a)) b))
      ∙ last (is_clipped meets b t (held a)) a.start (total v (flat_map (match_of meets pair within t (held a)) b)))
    where
      last : (q : Bool) (s n : ℕ) → cond {A = ℕ} (nat_lt s t && nat_le t (later within s)) (cond q 0 (cond (nat_lt t (s + within)) n 0)) 0 ≡ cond (nat_lt s t && (nat_lt t (s + within) && not q)) n 0
      last q s n = grind (arith, nat_tests)

  pub told_at : (a b : List CellEvent) → total at_t (followed meets pair within a b) ≡ total v (flat_map (matches_of meets pair within t b) (waiting meets within a b t))
  told_at a b =
      total-flat_map at_t (λ x. flat_map (followed_one meets pair within b x) b) a
      ∙ (total_same _ (λ x. cond (waits x b) (total v (flat_map (match_of meets pair within t (held x)) b)) 0) a (λ x. left_at b x)
      ∙ sym (total-flat_map v (matches_of meets pair within t b) (waiting meets within a b t)
      ∙ (clips_open meets (λ r. total v (matches_of meets pair within t b r)) t (map (lasting within) a) b
      ∙ (total-flat_map (λ r. cond (is_clipped meets b t r) 0 (total v (matches_of meets pair within t b r))) (open_of t) (map (lasting within) a)
      ∙ (total-map (λ e. total (λ r. cond (is_clipped meets b t r) 0 (total v (matches_of meets pair within t b r))) (open_of t e)) (lasting within) a
      ∙ total_same _ _ a (λ x. open_at b x))))))
