use Rattle.std.specs.Prelude.{◌++◌, map}
use Rattle.std.specs.List.{IsDistinct}
use Rattle.std.specs.Map.{lookup, keys_of}
use Rattle.std.proofs.Common.{◌∙◌, ap, sym, subst}
use Rattle.tw_rows.specs.Instant.{inf}
use Rattle.tw_rows.specs.SameCells.{same_cells}
use Rattle.synopsis.specs.Kept.{times_if, since_at}
use Rattle.egress.specs.Saved.{entry_at}
use Rattle.egress.proofs.SavedEnds.{RestSo, times_at, rest_first, rest_next, rest_last, last_own, last_others, front_apart}
use Rattle.egress.proofs.saving.save_rest.Goals as goal

pub rows-init : goal.rows-init
rows-init c =
    let is = sym c.iter-rows.ensures.rest in
    record {
      so = subst (λ es. RestSo c.args.saved.now c.args.saved.now (since_at c.args.starts.now) (times_at es)) is (rest_first c.args.saved.now (since_at c.args.starts.now));
      apart = subst (λ es. IsDistinct same_cells (keys_of es)) is c.iter-rows.ensures.unique;
    }

pub rows-preserved : goal.rows-preserved
rows-preserved c =
    let es = c.rows.rows in
    let fs = c.next_back.new.self in
    let k = c.in-Some.cells.now in
    let d = c.in-Some.since.now in
    let last = c.in-Some.ensures.steps in
    let apart = subst (λ l. IsDistinct same_cells (keys_of l)) last c.rows.invariant.apart in
    record {
      so = rest_next c.args.saved.now c.rows.saved c.save_starts.new.saved (since_at c.args.starts.now) (times_at es) (times_at fs) k c.rows.invariant.so
          (c.in_ok-save_starts.ensures
          ∙ ap (λ t. c.rows.saved ++ map (entry_at t k) d.items) c.requires
          ∙ ap (λ l. c.rows.saved ++ map (entry_at inf k) l) (last_own es fs k d last apart))
          (last_others es fs k d last apart);
      apart = front_apart fs k d apart;
    }

pub returns : goal.returns
returns c = rest_last c.args.saved.now c.rows.saved (since_at c.args.starts.now) (times_at c.rows.rows) (λ q. ap (λ es. times_if (lookup (same_cells q) es)) c.in_default.ensures.steps.0) c.rows.invariant.so
