-- The order in which runs are told.
use Rattle.std.specs.Prelude.{◌≡◌, ℕ, suc, ◌*◌, ◌<◌, nat_eq, Bool, true, false, cond, Option, Some, None, List, [], ◌∷◌, ◌++◌, take, refl}
use Rattle.std.specs.List.{list_any}
use Rattle.std.proofs.Common.{sym, subst, arith}
use Rattle.std.proofs.lemmas.Bool.Decides.{nat_tests}
use Rattle.tw_rows.specs.Instant.{inf}
use Rattle.tw_rows.specs.SameCells.{same_cells}
use Rattle.tw_rows.specs.declared.cells.Datum.{Datum}
use Rattle.tw_rows.specs.declared.edge.Edge.{Edge}
use Rattle.edge_history.specs.History.{CellEvent}
use Rattle.edge_history.specs.Order.{rank}
use Rattle.key_nodes.specs.Runs.{runs}
use Rattle.sweep_laws.specs.Sweeps.{InOrder}
use Rattle.sweep_laws.specs.Running.{Run, last_run, open_at, run_end, run_start, has_row, end_part, kept, start_part}
use Rattle.sweep_laws.specs.Grouping.{keys_of, EndsTold, IsEarly}
use Rattle.sweep_laws.proofs.Ordering.{order_push}
use Rattle.sweep_laws.proofs.Adding.{append_none}
use Rattle.sweep_laws.proofs.RunTells.{Falls, runs_fall}

end_rank : (t : ℕ) (x : Run) → x.start < t → rank (run_end t x) ≡ 2 * t
end_rank t x low = grind (arith, nat_tests)

start_rank : (t : ℕ) (r : List Datum) → t < inf → rank (run_start t r) ≡ suc (2 * t)
start_rank t r low = grind (arith, nat_tests)

end_order : (t : ℕ) (o : Option (List Datum)) (x : Option Run) (es : List Edge) → IsEarly t x → InOrder (2 * t) es → InOrder (2 * t) (es ++ end_part t o x)
end_order t o None es early h = subst (InOrder (2 * t)) (sym (append_none es)) h
end_order t o (Some x) es early h = pick (has_row o x.row)
  where
    pick : (b : Bool) → InOrder (2 * t) (es ++ cond b [] (run_end t x ∷ []))
    pick true = subst (InOrder (2 * t)) (sym (append_none es)) h
    pick false = order_push (2 * t) es (run_end t x) (end_rank t x early) h

early_kept : (t : ℕ) (o : Option (List Datum)) (x : Option Run) → IsEarly t x → IsEarly t (kept o x)
early_kept t o None h = tt
early_kept t o (Some x) h = pick (has_row o x.row)
  where
    pick : (b : Bool) → IsEarly t (cond b (Some x) None)
    pick true = h
    pick false = tt

module _ {K : Type 0} (key : List Datum → K) (same : K → K → Bool) where
  pub ends_order : (t : ℕ) (now : List Edge) (i : ℕ) (k : K) (o : K → Option (List Datum)) (run0 run1 : K → Option Run) (answer0 answer1 answer2 : List Edge) →
      answer2 ≡ answer1 ++ end_part t (o k) (run1 k) → EndsTold key same t (take i now) o run0 run1 answer0 answer1 →
      ((q : K) → IsEarly t (run0 q)) → InOrder (2 * t) answer1 → InOrder (2 * t) answer2
  ends_order t now i k o run0 run1 answer0 answer1 answer2 pushed h early up =
      subst (InOrder (2 * t)) (sym pushed) (end_order t (o k) (run1 k) answer1 (at (list_any (same k) (keys_of key (take i now))) refl) up)
    where
      at : (b : Bool) → list_any (same k) (keys_of key (take i now)) ≡ b → IsEarly t (run1 k)
      at true e = subst (IsEarly t) (sym (h.touched k e)) (early_kept t (o k) (run0 k) (early k))
      at false e = subst (IsEarly t) (sym (h.others k e)) (early k)

pub starts_order : (t : ℕ) (o : Option (List Datum)) (x : Option Run) (answer1 answer2 : List Edge) → t < inf →
    answer2 ≡ answer1 ++ start_part t o x → InOrder (suc (2 * t)) answer1 → InOrder (suc (2 * t)) answer2
starts_order t o x answer1 answer2 low pushed up = subst (InOrder (suc (2 * t))) (sym pushed) (start_order o x)
  where
    start_order : (o : Option (List Datum)) (x : Option Run) → InOrder (suc (2 * t)) (answer1 ++ start_part t o x)
    start_order o (Some x) = subst (InOrder (suc (2 * t))) (sym (append_none answer1)) up
    start_order None None = subst (InOrder (suc (2 * t))) (sym (append_none answer1)) up
    start_order (Some r) None = order_push (suc (2 * t)) answer1 (run_start t r) (start_rank t r low) up

-- a run that is open at a time began before it
last_early : (t : ℕ) (es : List CellEvent) → Falls t es → IsEarly t (last_run t es)
last_early t [] h = tt
last_early t (e ∷ es) h = pick (nat_eq e.end t)
  where
    pick : (b : Bool) → IsEarly t (cond b (Some (record { row = e.row; start = e.start })) None)
    pick true = omega (arith, h)
    pick false = tt

pub open_early : (f : ℕ → Option (List Datum)) (t : ℕ) → IsEarly t (open_at f t)
open_early f t = last_early t (runs same_cells f t) (runs_fall f t)
