-- What is kept at a time is that of all events of which the same is known below it.
use Rattle.std.specs.Prelude.{◌≡◌, ℕ, ◌<◌, ◌≤◌, ◌&&◌, min, nat_eq, nat_lt, not, Bool, cond, Option, Some, None, List}
use Rattle.std.proofs.Common.{sym, ◌∙◌, ap, subst, arith}
use Rattle.std.proofs.lemmas.Bool.Decides.{nat_tests}
use Rattle.tw_rows.specs.Bag.{SameBag}
use Rattle.tw_rows.specs.Event.{lives_at, alive, Known}
use Rattle.tw_rows.specs.SameCells.{same_cells}
use Rattle.tw_rows.specs.declared.cells.Datum.{Datum}
use Rattle.tw_rows.specs.declared.edge.HeldRow.{HeldRow}
use Rattle.tw_rows.proofs.Bags.{SameBag-trans, SameBag-sym}
use Rattle.tw_rows.proofs.Lives.{alive_known}
use Rattle.edge_history.specs.History.{CellEvent}
use Rattle.edge_history.specs.Opens.{opens}
use Rattle.edge_history.proofs.Opening.{opens_known}
use Rattle.key_nodes.specs.Sessions.{key_starts}
use Rattle.key_nodes.specs.Clips.{clipped}
use Rattle.key_nodes.specs.Antis.{alone_at}
use Rattle.key_nodes.proofs.Bags.{any_by_weight, any_of_same}
use Rattle.key_nodes.proofs.RunSteps.{runs_same}
use Rattle.key_nodes.proofs.Sessioning.{key_starts_known, sessions_known}
use Rattle.key_nodes.proofs.Clipping.{clipped_known}
use Rattle.sweep_laws.specs.Running.{last_run}
use Rattle.sweep_laws.specs.Sessioning.{IsLast, Sessioning}
use Rattle.sweep_laws.specs.Antijoining.{Judging}

late_start : (s n c : ℕ) → s < c → c ≤ n → cond {A = ℕ} (nat_eq s n) 1 0 ≡ 0
late_start s n c low late = grind (arith, nat_tests)

late_between : (s n c : ℕ) → c ≤ n → cond {A = ℕ} (nat_lt s n && nat_lt n c) 1 0 ≡ 0
late_between s n c late = grind (arith, nat_tests)

pub sessions_kept : {K : Type 0} (key : List Datum → K) (same : K → K → Bool) (timeout c : ℕ) (a b : List CellEvent) (rows : List HeldRow) (last : K → Option ℕ) → 1 ≤ timeout →
    Known c a b → Sessioning key same timeout a c rows last → Sessioning key same timeout b c rows last
sessions_kept {K} key same timeout c a b rows last pos known h = record {
  open_rows = SameBag-trans _ _ _ h.open_rows (opens_known c _ _ known.low (sessions_known key same timeout pos c a b known).same);
  lasts = λ k s e. (is_last k s (h.lasts k s e).0, (h.lasts k s e).1);
  all = h.all;
}
  where
    is_last : (k : K) (s : ℕ) → IsLast (key_starts key same a k) c s → IsLast (key_starts key same b k) c s
    is_last k s y =
        let z = key_starts_known key same timeout c a b k known.same in
        record {
          there = any_by_weight (nat_eq s) (key_starts key same b k)
              ∙ ap (nat_lt 0) (sym (z (λ n. cond (nat_eq s n) 1 0) (λ n late. late_start s n c y.low late)))
              ∙ sym (any_by_weight (nat_eq s) (key_starts key same a k)) ∙ y.there;
          low = y.low;
          none_later = any_by_weight (λ n. nat_lt s n && nat_lt n c) (key_starts key same b k)
              ∙ ap (nat_lt 0) (sym (z (λ n. cond (nat_lt s n && nat_lt n c) 1 0) (λ n late. late_between s n c late)))
              ∙ sym (any_by_weight (λ n. nat_lt s n && nat_lt n c) (key_starts key same a k)) ∙ y.none_later;
        }

pub clips_kept : (meets : List Datum → List Datum → Bool) (c : ℕ) (a a2 b b2 : List CellEvent) (rows : List HeldRow) → Known c a a2 → Known c b b2 →
    SameBag rows (opens c (clipped meets a b)) → SameBag rows (opens c (clipped meets a2 b2))
clips_kept meets c a a2 b b2 rows ka kb h =
    let e : min c c ≡ c = omega arith in
    let k = subst (λ n. Known n (clipped meets a b) (clipped meets a2 b2)) e (clipped_known meets c c a a2 b b2 ka kb) in
    SameBag-trans _ _ _ h (opens_known c _ _ k.low k.same)

pub antis_kept : {K : Type 0} (key : List Datum → K) (meets : List Datum → List Datum → Bool) (c : ℕ) (a a2 b b2 : List CellEvent) (left right : List HeldRow) (status : K → Option ℕ) →
    Known c a a2 → Known c b b2 → Judging key meets a b c left right status → Judging key meets a2 b2 c left right status
antis_kept key meets c a a2 b b2 left right status ka kb h = record {
  left_rows = SameBag-trans _ _ _ h.left_rows (opens_known c a a2 ka.low ka.same);
  right_rows = SameBag-trans _ _ _ h.right_rows (opens_known c b b2 kb.low kb.same);
  since = h.since;
  steady = h.steady;
  runs = λ e. ap (last_run c) (runs_same same_cells (alone_at meets b2 e) (alone_at meets b e) c (λ u low. same_row e u low)) ∙ h.runs e;
}
  where
    same_row : (e : CellEvent) (u : ℕ) → u < c → alone_at meets b2 e u ≡ alone_at meets b e u
    same_row e u low =
        ap (λ m. cond (lives_at u e && not m) (Some e.row) None)
        (any_of_same (meets e.row) (alive b2 u) (alive b u) (alive_known c u b2 b low kb.low (SameBag-sym _ _ kb.same)))
