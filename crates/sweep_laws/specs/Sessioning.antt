-- The open sessions. K is the type of keys; `key` gives the key of a row, and `same` tells whether two keys are equal.
use Rattle.std.specs.Prelude.{◌≡◌, ℕ, ◌+◌, ◌<◌, ◌≤◌, nat_eq, Bool, true, false, cond, not, ◌&&◌, Option, Some, None, List}
use Rattle.std.specs.List.{list_any}
use Rattle.tw_rows.specs.Bag.{SameBag, total}
use Rattle.tw_rows.specs.declared.cells.Datum.{Datum}
use Rattle.tw_rows.specs.declared.edge.HeldRow.{HeldRow}
use Rattle.edge_history.specs.History.{CellEvent}
use Rattle.edge_history.specs.Opens.{opens}
use Rattle.key_nodes.specs.Sessions.{any_between, key_starts, sessions}

-- at t the timeout has passed since one of the starts, with no start in between. With timeout 5 and the starts 1 and 4:
-- at 9, and not at 6
abbrev pub is_gap : ℕ → List ℕ → ℕ → Bool
is_gap timeout starts t = list_any (λ s. nat_eq (s + timeout) t && not (any_between starts s t)) starts

-- the last of the starts before t is this one
pub record IsLast (starts : List ℕ) (t last : ℕ) : Type 0 where
  pub there : list_any (nat_eq last) starts ≡ true
  pub low : last < t
  pub none_later : any_between starts last t ≡ false

-- what is known of each key with an open session: its last start before t, whose timeout has not passed before t
abbrev pub LastIs : {K : Type 0} → (List Datum → K) → (K → K → Bool) → ℕ → List CellEvent → ℕ → (K → Option ℕ) → Type 0
LastIs {K} key same timeout a t last =
    (k : K) (s : ℕ) → last k ≡ Some s → IsLast (key_starts key same a k) t s × (t ≤ s + timeout)

-- the last start of a key at which none starts: none once its timeout has passed at t. With timeout 5 of a start at 4: kept at 8,
-- gone at 9
abbrev pub kept_last : ℕ → ℕ → Option ℕ → Option ℕ
kept_last timeout t None = None
kept_last timeout t (Some s) = cond (nat_eq (s + timeout) t) None (Some s)

-- one of the rows has the key
abbrev pub has_row_of : {K : Type 0} → (List Datum → K) → (K → K → Bool) → List HeldRow → K → Bool
has_row_of key same rows k = list_any (λ r. same k (key r.cells)) rows

-- just before t: the rows of the open sessions, the last start of each key that has one, and no row of any other key
pub record Sessioning {K : Type 0} (key : List Datum → K) (same : K → K → Bool) (timeout : ℕ) (a : List CellEvent) (t : ℕ)
    (rows : List HeldRow) (last : K → Option ℕ) : Type 0 where
  pub open_rows : SameBag rows (opens t (sessions key same timeout a))
  pub lasts : LastIs key same timeout a t last
  pub all : (k : K) → last k ≡ None → total (λ r. cond (same k (key r.cells)) 1 0) rows ≡ 0
