-- One instant of a clip: what right starts meet, what ends there, and the whole of it.
use Rattle.std.specs.Prelude.{◌≡◌, ℕ, suc, ◌+◌, ◌<◌, ◌&&◌, not, nat_eq, nat_lt, nat_le, Bool, true, false, cond, List, [], ◌∷◌, ◌++◌, map, filter, refl}
use Rattle.std.proofs.Common.{sym, ◌∙◌, ap, arith}
use Rattle.std.proofs.lemmas.Bool.{and_parts, eqb-true}
use Rattle.std.proofs.lemmas.Bool.Decides.{nat_tests}
use Rattle.tw_rows.specs.Instant.{inf}
use Rattle.tw_rows.specs.Bag.{SameBag, total}
use Rattle.tw_rows.specs.Event.{AreEvents}
use Rattle.tw_rows.specs.SameCells.{same_cells, cells_are_same}
use Rattle.tw_rows.specs.declared.cells.Datum.{Datum}
use Rattle.tw_rows.specs.declared.edge.Edge.{Edge}
use Rattle.tw_rows.specs.declared.edge.HeldRow.{HeldRow}
use Rattle.tw_rows.proofs.Bags.{total-map, total-filter, total-flat_map, total_same, total_zero, SameBag-refl}
use Rattle.edge_history.specs.History.{CellEvent}
use Rattle.edge_history.specs.Balance.{news_of, news, start_edge, end_edge}
use Rattle.edge_history.specs.Opens.{opens, ended_rows, started_rows, is_held}
use Rattle.edge_history.proofs.Opening.{ends_there}
use Rattle.edge_history.proofs.Retaining.{AreEvents-none_fails}
use Rattle.key_nodes.proofs.Bags.{any_by_weight}
use Rattle.key_nodes.proofs.Clipping.{clipped_valid}
use Rattle.sweep_laws.specs.Clipping.{starts_at, is_clipped}
use Rattle.sweep_laws.specs.Moves.{Adds, told_at}
use Rattle.sweep_laws.specs.Sweeps.{Tells}
use Rattle.sweep_laws.specs.Unending.{unending}
use Rattle.sweep_laws.proofs.ClipTelling.{unclipped, clips_then, clips_told}
use Rattle.union_clip.specs.Clipped.{clip_meets, clips}
use Rattle.union_clip.specs.Holding.{ClipHeld}
use Rattle.union_clip.specs.Leaving.{is_met, Leave, EndsHeld}
use Rattle.union_clip.proofs.Leaving.{unless_clipped}

-- what right starts meet at an instant
module _ (lk rk : List ℕ) (t : ℕ) (b : List CellEvent) (now : List Edge) (low : t < inf) (same : SameBag now (news t (suc t) (map unending b))) where
  one_start : (l : List Datum) (e : CellEvent) → total (λ (x : Edge). cond {A = ℕ} (clip_meets lk rk l x.cells) 1 0) (news_of t (suc t) (unending e)) ≡ cond (clip_meets lk rk l e.row && nat_eq e.start t) 1 0
  one_start l e =
      parts (nat_le t e.start && nat_lt e.start (suc t)) (nat_le t inf && nat_lt inf (suc t)) (nat_eq e.start t) (clip_meets lk rk l e.row) (at e.start) never refl
    where
      at : (s : ℕ) → (nat_le t s && nat_lt s (suc t)) ≡ nat_eq s t
      at s = grind (arith, nat_tests)

      never : (nat_le t inf && nat_lt inf (suc t)) ≡ false
      never = last (nat_le t inf) (nat_lt inf (suc t)) (late inf low)
        where
          late : (n : ℕ) → t < n → nat_lt n (suc t) ≡ false
          late n h = grind (arith, nat_tests)

          last : (p q : Bool) → q ≡ false → (p && q) ≡ false
          last true q h = h
          last false q h = refl

      parts : (p q s m : Bool) → p ≡ s → q ≡ false → clip_meets lk rk l e.row ≡ m →
          total (λ (x : Edge). cond {A = ℕ} (clip_meets lk rk l x.cells) 1 0) (cond p (start_edge (unending e) ∷ []) [] ++ cond q (end_edge (unending e) ∷ []) []) ≡ cond (m && s) 1 0
      parts true false true true h k i = let z = ap (λ b. cond {A = ℕ} b 1 0) i in omega (arith, z)
      parts true false true false h k i = let z = ap (λ b. cond {A = ℕ} b 1 0) i in omega (arith, z)
      parts false false false true h k i = refl
      parts false false false false h k i = refl
      parts true q false m h k i = absurd (cc)
      parts false q true m h k i = absurd (cc)
      parts p true s m h k i = absurd (cc)

  pub met_is : (r : HeldRow) → is_met lk rk now r ≡ starts_at (clip_meets lk rk) (map unending b) r.cells t
  met_is r =
      let v : Edge → ℕ = λ x. cond (clip_meets lk rk r.cells x.cells) 1 0 in
      let u : CellEvent → ℕ = λ e. cond (clip_meets lk rk r.cells e.row && nat_eq e.start t) 1 0 in
      any_by_weight (λ (x : Edge). clip_meets lk rk r.cells x.cells) now
      ∙ (ap (nat_lt 0) (same.weigh v ∙ (total-flat_map v (news_of t (suc t)) (map unending b) ∙ (total-map (λ e. total v (news_of t (suc t) e)) unending b
      ∙ (total_same (λ e. total v (news_of t (suc t) (unending e))) u b (λ e. one_start r.cells e) ∙ sym (total-map u unending b)))))
      ∙ sym (any_by_weight (λ (e : CellEvent). clip_meets lk rk r.cells e.row && nat_eq e.start t) (map unending b)))

-- one instant, from the passes over its edges
module _ (lk rk : List ℕ) (t : ℕ) (a b : List CellEvent) (now_left now_right : List Edge) (r0 r1 r2 r3 : List HeldRow) (a0 a1 a2 a3 : List Edge)
    (low : t < inf) (lives : AreEvents a) (is_left : SameBag now_left (news t (suc t) a)) (is_right : SameBag now_right (news t (suc t) (map unending b)))
    (now : ClipHeld lk rk a (map unending b) t r0)
    (met : Leave (filter (is_met lk rk now_right) r0) t r0 r1 a0 a1)
    (ended : (clipped : HeldRow → Bool) → EndsHeld clipped (ended_rows now_left) r1 → Leave (filter (λ r. not (clipped r)) (ended_rows now_left)) t r1 r2 a1 a2)
    (started : (w : HeldRow → ℕ) → total w r3 ≡ total w r2 + total w (started_rows now_left)) (told : Adds a2 a3 (map (told_at true t) (started_rows now_left))) where
  abbrev c : List CellEvent
  c = map unending b

  abbrev meets : List Datum → List Datum → Bool
  meets = clip_meets lk rk

  abbrev is_gone : HeldRow → Bool
  is_gone r = is_clipped (clip_meets lk rk) (map unending b) (suc t) r

  gone_is : (w : HeldRow → ℕ) → total w (filter (is_met lk rk now_right) r0) ≡ total (λ r. cond (starts_at (clip_meets lk rk) (map unending b) r.cells t) (w r) 0) r0
  gone_is w = total-filter w (is_met lk rk now_right) r0 ∙ total_same _ _ r0 (λ r. ap (λ m. cond m (w r) 0) (met_is lk rk t b now_right low is_right r))

  left_then : (w : HeldRow → ℕ) → total w r1 ≡ total (λ r. cond (is_gone r) 0 (w r)) (opens t a)
  left_then w = unclipped meets t a c r0 r1 (filter (is_met lk rk now_right) r0) now met.rows gone_is w

  -- rows of equal cells and start are clipped together
  alike : (cells : List Datum) (start : ℕ) → is_gone (record { cells = cells; start = start }) ≡ true → (r : HeldRow) → cond {A = ℕ} (is_gone r) 0 (cond (is_held cells start r) 1 0) ≡ 0
  alike cells start k r = pick (is_held cells start r) refl
    where
      zero_either : (p : Bool) → cond {A = ℕ} p 0 0 ≡ 0
      zero_either true = refl
      zero_either false = refl

      pick : (h : Bool) → is_held cells start r ≡ h → cond {A = ℕ} (is_gone r) 0 (cond h 1 0) ≡ 0
      pick false h = zero_either (is_gone r)
      pick true h =
          let p = and_parts (nat_eq r.start start) (same_cells r.cells cells) h in
          let n = eqb-true r.start start p.0 in
          let e = cells_are_same r.cells cells p.1 in
          ap (λ g. cond {A = ℕ} g 0 1) ((λ i. is_gone (record { cells = e i; start = n i })) ∙ k)

  ends : EndsHeld (is_clipped (clip_meets lk rk) (map unending b) (suc t)) (ended_rows now_left) r1
  ends = record {
    held = λ w.
        let v : HeldRow → ℕ = λ r. cond (is_gone r) 0 (w r) in
        let u = left_then w in
        let f = ends_there a t now_left (opens t a) (AreEvents-none_fails a lives) is_left (SameBag-refl (opens t a)) v in
        omega (arith, u, f);
    none = λ cells start k.
        let u = left_then (λ r. cond (is_held cells start r) 1 0) in
        let z = total_same (λ r. cond {A = ℕ} (is_gone r) 0 (cond (is_held cells start r) 1 0)) (λ r. 0) (opens t a) (alike cells start k) ∙ total_zero (opens t a) in
        omega (arith, u, z);
  }

  abbrev leavers : List HeldRow
  leavers = filter (λ r. not (is_gone r)) (ended_rows now_left)

  left : Leave (filter (λ r. not (is_gone r)) (ended_rows now_left)) t r1 r2 a1 a2
  left = ended (is_clipped (clip_meets lk rk) (map unending b) (suc t)) ends

  leavers_are : (w : HeldRow → ℕ) → total w (filter (λ r. not (is_gone r)) (ended_rows now_left)) ≡ total (λ r. cond (is_gone r) 0 (w r)) (ended_rows now_left)
  leavers_are w = unless_clipped (is_clipped (clip_meets lk rk) (map unending b) (suc t)) w (ended_rows now_left)

  pub held_then : ClipHeld lk rk a (map unending b) (suc t) r3
  held_then =
      clips_then meets t a c r0 r1 (filter (is_met lk rk now_right) r0) now met.rows gone_is now_left r2 r3 leavers a0 a1 a2 a3 low (AreEvents-none_fails a lives)
      (AreEvents-none_fails (clips lk rk a c) (clipped_valid meets a c lives)) is_left left.rows leavers_are started met.told left.told told

  pub told_then : Tells (clips lk rk a (map unending b)) t (suc t) a0 a3
  told_then =
      clips_told meets t a c r0 r1 (filter (is_met lk rk now_right) r0) now met.rows gone_is now_left r2 r3 leavers a0 a1 a2 a3 low (AreEvents-none_fails a lives)
      (AreEvents-none_fails (clips lk rk a c) (clipped_valid meets a c lives)) is_left left.rows leavers_are started met.told left.told told
