-- One instant, and the way from instant to instant, in the form in which code has them.
use Rattle.std.specs.Prelude.{◌≡◌, ℕ, suc, ◌+◌, ◌*◌, ◌<◌, ◌≤◌, true, false, Option, List, length, get_or, take, drop, refl}
use Rattle.std.specs.List.{list_any}
use Rattle.std.proofs.Common.{sym, ◌∙◌, ap, subst, arith, length-drop}
use Rattle.std.proofs.lemmas.List.{drop-drop, get_or-drop}
use Rattle.tw_rows.specs.Instant.{inf}
use Rattle.tw_rows.specs.Bag.{SameBag, total}
use Rattle.tw_rows.specs.Event.{AreEvents}
use Rattle.tw_rows.specs.SameCells.{same_cells}
use Rattle.tw_rows.specs.declared.cells.Datum.{Datum}
use Rattle.tw_rows.specs.declared.edge.Edge.{Edge}
use Rattle.tw_rows.specs.declared.edge.HeldRow.{HeldRow}
use Rattle.edge_history.specs.Order.{failing, is_from}
use Rattle.edge_history.proofs.Telling.{answer_from}
use Rattle.edge_history.specs.History.{CellEvent}
use Rattle.edge_history.specs.Balance.{news}
use Rattle.edge_history.specs.Opens.{ended_rows, started_rows, bare}
use Rattle.key_nodes.specs.Groups.{grouped}
use Rattle.plan_model.specs.declared.agg.Agg.{Agg}
use Rattle.sweep_laws.specs.Sweeps.{is_at, IsPast, IsDue, InOrder, Tells}
use Rattle.sweep_laws.specs.Running.{Run}
use Rattle.sweep_laws.specs.Grouping.{keys_of, EndsTold, StartsTold, IsEarly, GroupSweeping, IsDefined, IsFirstUndefined, GroupReached}
use Rattle.sweep_laws.proofs.GroupReaching.{group_instant, group_instant_undefined, group_reach_start, group_reach_step, group_reach_undefined, group_reach_end}
use Rattle.tw_rows.specs.declared.kind.CellKind.{CellKind}
use Rattle.snapshot_agg.specs.Answering.{group_kinds, is_stored, IsSoFar}
use Rattle.snapshot_agg.specs.Words.{key_data, tell, bad}
use Rattle.snapshot_agg.proofs.Totaling.{keys_tell, tell_is_group, bad_by_key}
use Rattle.sweep_laws.proofs.Instants.{drop_past}
use Rattle.snapshot_agg.proofs.Lists.{starts_at}

abbrev pub Moved : List Edge → List HeldRow → List HeldRow → Type 0
Moved now rows rows2 = ((w : HeldRow → ℕ) → total w (ended_rows now) ≤ total w rows) → (w : HeldRow → ℕ) →
    total w rows2 + total w (ended_rows now) ≡ total w rows + total w (started_rows now)

-- an instant is told
abbrev pub InstantTold : ℕ → List Edge → List HeldRow → List HeldRow → (List Datum → Option Run) → (List Datum → Option Run) → List Edge → List Edge → List ℕ → List Agg → Type 0
InstantTold t now rows rows2 run run2 before after key aggs = (a : List CellEvent) → t < inf → AreEvents a → SameBag now (news t (suc t) a) →
    GroupSweeping (tell key aggs) (bad key aggs) a t rows run →
    GroupSweeping (tell key aggs) (bad key aggs) a (suc t) rows2 run2 × Tells (grouped (key_data key) same_cells same_cells (tell key aggs) a) t (suc t) before after

abbrev pub InstantUndefined : ℕ → List Edge → List HeldRow → (List Datum → Option Run) → List ℕ → List Agg → Type 0
InstantUndefined t now rows run key aggs = (a : List CellEvent) → t < inf → AreEvents a → SameBag now (news t (suc t) a) →
    GroupSweeping (tell key aggs) (bad key aggs) a t rows run → IsFirstUndefined (bad key aggs) a t (suc t) t

-- and the answer goes on
abbrev pub InstantSoFar : List CellKind → ℕ → ℕ → ℕ → List Edge → (List Datum → Option Run) → (List Datum → Option Run) → List Edge → List Edge → List ℕ → List Agg → Type 0
InstantSoFar left from to t now run run2 before after key aggs = from ≤ t → t < to → failing (is_stored left) now ≡ 0 →
    IsSoFar (group_kinds key aggs left) from t to run before → IsSoFar (group_kinds key aggs left) from (suc t) to run2 after

pub instant_told : (key : List ℕ) (aggs : List Agg) (t : ℕ) (now : List Edge) (rows rows2 : List HeldRow) (run0 run1 run2 : List Datum → Option Run) (answer0 answer1 answer2 : List Edge) →
    Moved now rows rows2 →
    ((k : List Datum) → list_any (same_cells k) (keys_of (key_data key) now) ≡ true → bad key aggs k (bare rows2) ≡ false) →
    EndsTold (key_data key) same_cells t now (λ k. tell key aggs k (bare rows2)) run0 run1 answer0 answer1 →
    StartsTold (key_data key) same_cells t now (λ k. tell key aggs k (bare rows2)) run1 run2 answer1 answer2 →
    (((k : List Datum) → IsEarly t (run0 k)) → InOrder (2 * t) answer0 → InOrder (2 * t) answer1) →
    (t < inf → InOrder (suc (2 * t)) answer1 → InOrder (suc (2 * t)) answer2) →
    InstantTold t now rows rows2 run0 run2 answer0 answer2 key aggs
instant_told key aggs t now rows rows2 run0 run1 run2 answer0 answer1 answer2 moved fine ends starts up1 up2 a low lives is s =
    group_instant (key_data key) same_cells keys_tell (tell key aggs) (tell_is_group key aggs) (bad key aggs) (bad_by_key key aggs)
    a t now rows rows2 (λ k. tell key aggs k (bare rows2)) run0 run1 run2 answer0 answer1 answer2 low lives is s moved (λ k. refl) fine ends starts up1 up2

pub instant_undefined : (key : List ℕ) (aggs : List Agg) (t : ℕ) (now : List Edge) (rows rows2 : List HeldRow) (run0 : List Datum → Option Run) →
    Moved now rows rows2 → ((k : List Datum) × (bad key aggs k (bare rows2) ≡ true)) → InstantUndefined t now rows run0 key aggs
instant_undefined key aggs t now rows rows2 run0 moved found a low lives is s =
    group_instant_undefined (key_data key) same_cells keys_tell (tell key aggs) (tell_is_group key aggs) (bad key aggs) (bad_by_key key aggs)
    a t now rows rows2 run0 lives is s moved found

-- the same for equal keys and aggregates
pub for_both : (P : List ℕ → List Agg → Type 0) (key key2 : List ℕ) (aggs aggs2 : List Agg) → key ≡ key2 → aggs ≡ aggs2 → P key aggs → P key2 aggs2
for_both P key key2 aggs aggs2 e f h = subst (λ b. P key2 b) f (subst (λ k. P k aggs) e h)

-- the same at an equal time, of an equal list
pub for_part : (P : ℕ → List Edge → Type 0) (t u : ℕ) (xs ys : List Edge) → t ≡ u → xs ≡ ys → P t xs → P u ys
for_part P t u xs ys e f h = subst (λ l. P u l) f (subst (λ v. P v xs) e h)

-- lists that are the same from a place on have the same edge there
pub same_at : (xs ys : List Edge) (i : ℕ) (d : Edge) → drop i xs ≡ drop i ys → get_or xs i d ≡ get_or ys i d
same_at xs ys i d e =
    let z : i + 0 ≡ i = omega arith in
    ap (λ k. get_or xs k d) (sym z) ∙ sym (get_or-drop i xs 0 d) ∙ ap (λ (l : List Edge). get_or l 0 d) e ∙ get_or-drop i ys 0 d ∙ ap (λ k. get_or ys k d) z

abbrev pub Reached : List ℕ → List Agg → List CellEvent → ℕ → ℕ → List Edge → List HeldRow → (List Datum → Option Run) → List Edge → List Edge → Type 0
Reached key aggs a from to rest rows run before after =
    (u : ℕ) × GroupReached (key_data key) same_cells (tell key aggs) (bad key aggs) a from u to rest rows run before after

module _ (key : List ℕ) (aggs : List Agg) (due left : List Edge) (i n : ℕ) (d : Edge) (low : i < length due) (is_left : left ≡ drop i due) where
  pub within_rest : n ≤ length left → i + n ≤ length due
  within_rest h = let e = ap length is_left in let f = length-drop i due in omega (arith, e, f, h, low)

  module _ (at : failing (is_at (get_or due i d).sync) (take n left) ≡ 0) (past : IsPast (get_or due i d).sync (drop n left)) where
    at_rest : failing (is_at (get_or due i d).sync) (take n (drop i due)) ≡ 0
    at_rest = subst (λ l. failing (is_at (get_or due i d).sync) (take n l) ≡ 0) is_left at

    past_rest : IsPast (get_or due i d).sync (drop n (drop i due))
    past_rest = subst (λ l. IsPast (get_or due i d).sync (drop n l)) is_left past

    pub sweep_more : (a : List CellEvent) (from to : ℕ) (rows rows2 : List HeldRow) (run run2 : List Datum → Option Run) (answer0 answer1 answer2 : List Edge) →
        InstantTold (get_or due i d).sync (take n left) rows rows2 run run2 answer1 answer2 key aggs →
        Reached key aggs a from to (drop i due) rows run answer0 answer1 → Reached key aggs a from to (drop (i + n) due) rows2 run2 answer0 answer2
    sweep_more a from to rows rows2 run run2 answer0 answer1 answer2 step r = (
      suc (get_or due i d).sync,
      subst (λ l. GroupReached (key_data key) same_cells (tell key aggs) (bad key aggs) a from (suc (get_or due i d).sync) to l rows2 run2 answer0 answer2) (drop-drop n i due)
          (group_reach_step (key_data key) same_cells keys_tell (tell key aggs) (tell_is_group key aggs) (bad key aggs) (bad_by_key key aggs)
          a from r.0 (get_or due i d).sync to n (drop i due) rows run answer0 answer1 r.1 (starts_at due i d low) at_rest past_rest rows2 run2 answer2
          (λ early lives same s. step a early lives (subst (λ l. SameBag (take n l) (news (get_or due i d).sync (suc (get_or due i d).sync) a)) (sym is_left) same) s)),
    )

    pub sweep_stops : (a : List CellEvent) (from to : ℕ) (rows : List HeldRow) (run : List Datum → Option Run) (answer0 answer1 : List Edge) →
        InstantUndefined (get_or due i d).sync (take n left) rows run key aggs →
        Reached key aggs a from to (drop i due) rows run answer0 answer1 → IsFirstUndefined (bad key aggs) a from to (get_or due i d).sync
    sweep_stops a from to rows run answer0 answer1 step r =
        group_reach_undefined (key_data key) same_cells keys_tell (tell key aggs) (tell_is_group key aggs) (bad key aggs) (bad_by_key key aggs)
        a from r.0 (get_or due i d).sync to n (drop i due) rows run answer0 answer1 r.1 (starts_at due i d low) at_rest past_rest
        (λ early lives same s. step a early lives (subst (λ l. SameBag (take n l) (news (get_or due i d).sync (suc (get_or due i d).sync) a)) (sym is_left) same) s)

pub sweep_starts : (key : List ℕ) (aggs : List Agg) (a : List CellEvent) (from to : ℕ) (due : List Edge) (rows : List HeldRow) (run : List Datum → Option Run) (answer : List Edge) →
    IsDue a from to due → GroupSweeping (tell key aggs) (bad key aggs) a from rows run → Reached key aggs a from to due rows run answer answer
sweep_starts key aggs a from to due rows run answer d s =
    (from, group_reach_start (key_data key) same_cells keys_tell (tell key aggs) (tell_is_group key aggs) (bad key aggs) (bad_by_key key aggs) a from to due rows run answer d s)

-- no edge comes before the time from which the sweep goes on
pub sweep_from : (key : List ℕ) (aggs : List Agg) (a : List CellEvent) (from to n : ℕ) (due : List Edge) (rows : List HeldRow) (run : List Datum → Option Run) (answer : List Edge) →
    (failing (is_from from) due ≡ 0 → n ≡ 0) → IsDue a from to due → GroupSweeping (tell key aggs) (bad key aggs) a from rows run → Reached key aggs a from to (drop n due) rows run answer answer
sweep_from key aggs a from to n due rows run answer none d s =
    let z = answer_from from to due a d.news_of in
    subst (λ m. Reached key aggs a from to (drop m due) rows run answer answer) (sym (none z)) (sweep_starts key aggs a from to due rows run answer d s)

pub sweep_ends : (key : List ℕ) (aggs : List Agg) (a : List CellEvent) (from to i : ℕ) (due : List Edge) (rows : List HeldRow) (run : List Datum → Option Run) (answer0 answer1 : List Edge) →
    length due ≤ i → Reached key aggs a from to (drop i due) rows run answer0 answer1 →
    GroupSweeping (tell key aggs) (bad key aggs) a to rows run × Tells (grouped (key_data key) same_cells same_cells (tell key aggs) a) from to answer0 answer1 × IsDefined (bad key aggs) a from to
sweep_ends key aggs a from to i due rows run answer0 answer1 high r =
    group_reach_end (key_data key) same_cells keys_tell (tell key aggs) (tell_is_group key aggs) (bad key aggs) (bad_by_key key aggs) a from r.0 to (drop i due) rows run answer0 answer1 (drop_past due i high) r.1
