-- A list of edges behind an earlier one.
use Rattle.std.specs.Prelude.{◌≡◌, ℕ, ◌+◌, ◌*◌, ◌≤◌, Bool, true, false, cond, List, [], ◌∷◌, ◌++◌, filter, refl}
use Rattle.std.proofs.Common.{◌∙◌, ap, sym, subst, arith, append_assoc}
use Rattle.std.proofs.lemmas.Bool.Decides.{nat_tests}
use Rattle.std.proofs.lemmas.List.Elements.{All-append}
use Rattle.tw_rows.specs.Bag.{SameBag}
use Rattle.tw_rows.proofs.Bags.{SameBag-refl, SameBag-append}
use Rattle.tw_rows.specs.declared.edge.Edge.{Edge}
use Rattle.edge_history.specs.Order.{failing, is_below, is_end, is_from, rank, IsReal, KeepsOrder, Rises}
use Rattle.edge_history.proofs.Keeping.{KeepsOrder-front}
use Rattle.edge_history.proofs.Sums.{failing-append, failing-kept, failing-same}
use Rattle.edge_history.proofs.Telling.{order_from}

-- one batch more goes over
module _ (whole done due batch rest : List Edge) (all : done ++ due ≡ whole) (is : due ≡ batch ++ rest) where
  pub batch_next : (done ++ batch) ++ rest ≡ whole
  batch_next = append_assoc done batch rest ∙ ap (λ l. done ++ l) (sym is) ∙ all

  pub batch_order : KeepsOrder whole → KeepsOrder (done ++ batch)
  batch_order h = KeepsOrder-front (done ++ batch) rest (subst KeepsOrder (sym batch_next) h)

sync_from : (t : ℕ) (e : Edge) → 2 * t ≤ rank e → t ≤ e.sync
sync_from t e = pick (is_end e)
  where
    pick : (b : Bool) → 2 * t ≤ 2 * e.sync + cond b 0 1 → t ≤ e.sync
    pick true h = omega (arith, h)
    pick false h = omega (arith, h)

from_rank : (t r : ℕ) (es : List Edge) → 2 * t ≤ r → Rises r es → failing (is_from t) es ≡ 0
from_rank t r [] low h = refl
from_rank t r (e ∷ es) low h =
    let high : 2 * t ≤ rank e = omega (arith, low, h.0) in
    let le : t ≤ e.sync = sync_from t e high in
    let here : is_from t e ≡ true = grind (arith, nat_tests) in
    let none = ap (λ b. cond {A = ℕ} b 0 1) here in
    let rest = from_rank t (rank e) es high h.1 in
    omega (arith, none, rest)

low_rank : (e : Edge) → 2 * e.sync ≤ rank e
low_rank e = omega arith

-- no edge comes before the first one
pub from_first : (es : List Edge) (e : Edge) (rest : List Edge) → KeepsOrder es → es ≡ e ∷ rest → failing (is_from e.sync) es ≡ 0
from_first es e rest h is =
    let up : Rises 0 (e ∷ rest) = subst (Rises 0) is h.rises in
    ap (failing (is_from e.sync)) is ∙ from_rank e.sync (2 * e.sync) (e ∷ rest) (omega arith) (low_rank e, up.1)

-- a list is cut at a time, and edges that come from then on stand beside the later part of it
module _ (t : ℕ) (carried earlier later new rest : List Edge) (parts : earlier ++ later ≡ carried) (same : SameBag rest (later ++ new)) where
  pub all_same : SameBag (earlier ++ rest) (carried ++ new)
  all_same =
      subst (SameBag (earlier ++ rest)) (sym (append_assoc earlier later new) ∙ ap (λ l. l ++ new) parts)
      (SameBag-append earlier earlier rest (later ++ new) (SameBag-refl earlier) same)

  pub all_in_order : KeepsOrder carried → KeepsOrder rest → earlier ≡ filter (is_below t) carried → later ≡ filter (is_from t) carried → failing (is_from t) new ≡ 0 → KeepsOrder (earlier ++ rest)
  all_in_order order up is_below_t is_from_t from =
      let first : KeepsOrder earlier = KeepsOrder-front earlier later (subst KeepsOrder (sym parts) order) in
      let low = ap (failing (is_below t)) is_below_t ∙ failing-kept (is_below t) carried in
      let high = ap (failing (is_from t)) is_from_t ∙ failing-kept (is_from t) carried in
      record {
        rises = order_from t earlier rest low first.rises (failing-same (is_from t) rest (later ++ new) same (failing-append (is_from t) later new high from)) up.rises;
        real = All-append IsReal earlier rest first.real up.real;
      }
