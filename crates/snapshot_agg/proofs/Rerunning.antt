-- The runs that are told of the keys.
use Rattle.std.specs.Prelude.{◌≡◌, ℕ, Bool, true, false, cond, Option, Some, None, IsSome, List, refl}
use Rattle.std.proofs.Common.{sym, ◌∙◌, ap, subst}
use Rattle.indexmap.specs.IndexMap.{IndexMap}
use Rattle.tw_rows.specs.SameCells.{same_cells, cells_are_same}
use Rattle.tw_rows.specs.declared.cells.Datum.{Datum}
use Rattle.tw_rows.specs.declared.edge.HeldRow.{HeldRow}
use Rattle.sweep_laws.specs.Running.{Run, has_row, kept, begun_at}
use Rattle.snapshot_agg.specs.Totaled.{run_from, run_of, Reruns}

pub rerun : {S : Type 0} (running : IndexMap (List Datum) HeldRow S) (key : List Datum) (x : Option Run) → run_of running key ≡ x → Reruns running running key x
rerun running key x is k = pick (same_cells key k) refl
  where
    pick : (b : Bool) → same_cells key k ≡ b → run_of running k ≡ cond b x (run_of running k)
    pick true e = ap (run_of running) (sym (cells_are_same key k e)) ∙ is
    pick false e = refl

pub kept_none : (o : Option (List Datum)) (r : Option HeldRow) → None ≡ r → run_from r ≡ kept o (run_from r)
kept_none o None h = refl
kept_none o (Some r) h = absurd (cc)

pub kept_told : (o : Option (List Datum)) (run : HeldRow) (r : Option HeldRow) → Some run ≡ r → has_row o run.cells ≡ true → run_from r ≡ kept o (run_from r)
kept_told o run r is has =
    subst (λ r. run_from r ≡ kept o (run_from r)) is (sym (ap (λ b. cond b (Some (record { row = run.cells; start = run.start })) None) has))

pub begun_some : (t : ℕ) (o : Option (List Datum)) (r : Option HeldRow) → IsSome r → run_from r ≡ begun_at t o (run_from r)
begun_some t o None h = absurd (cc)
begun_some t o (Some r) h = refl

pub begun_none : (t : ℕ) (o : Option (List Datum)) (x : Option Run) → None ≡ o → x ≡ begun_at t o x
begun_none t None None h = refl
begun_none t (Some r) None h = absurd (cc)
begun_none t o (Some x) h = refl
