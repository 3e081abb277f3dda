-- The keys of the rows stay, and what is told by keys that are the same.
use Rattle.std.specs.Prelude.{◌≡◌, ℕ, zero, suc, ◌+◌, ◌<◌, ◌≤◌, not, ◌&&◌, cond, List, flat_map, length, get_or, take, refl}
use Rattle.std.proofs.Common.{sym, ◌∙◌, subst, arith}
use Rattle.tw_rows.specs.Bag.{total}
use Rattle.tw_rows.specs.declared.cells.Datum.{Datum}
use Rattle.tw_rows.specs.declared.edge.Edge.{Edge}
use Rattle.tw_rows.specs.declared.edge.HeldRow.{HeldRow}
use Rattle.edge_history.specs.Order.{many}
use Rattle.edge_history.specs.Opens.{ended_of, ended_rows}
use Rattle.edge_history.specs.History.{CellEvent}
use Rattle.synopsis.specs.Held.{KeyedRows, key_of, is_of_key}
use Rattle.sweep_laws.specs.Moves.{Adds}
use Rattle.sweep_laws.specs.Sweeps.{Tells}
use Rattle.sweep_laws.specs.Antijoining.{flip_end, flip_start}
use Rattle.anti_join.specs.declared.sweep.AntiRows.{AntiRows}
use Rattle.anti_join.specs.Free.{KeyTimes, is_free_key, free_since, status_of}
use Rattle.anti_join.specs.AntiJoined.{antis}
use Rattle.anti_join.specs.Holding.{AntiHeld, AntiKeeps}
use Rattle.anti_join.specs.Rows.{AreByKey, SameKeys, SetsTimes, ForgetsTimes, ends_told, starts_told, time_of, times_of, lefts_of}
use Rattle.sweep_laws.proofs.Adding.{rows_more}
use Rattle.anti_join.proofs.Passes.{since_more}

pub keys_stay : (s : AntiRows) → SameKeys s s
keys_stay s = record { left_key = refl; right_key = refl; left = refl; right = refl; times = refl }

pub keys_then : (s now later : AntiRows) → SameKeys s now → SameKeys now later → SameKeys s later
keys_then s now later h k = record {
  left_key = k.left_key ∙ h.left_key;
  right_key = k.right_key ∙ h.right_key;
  left = k.left ∙ h.left;
  right = k.right ∙ h.right;
  times = k.times ∙ h.times;
}

pub by_then : (s now : AntiRows) → SameKeys s now → AreByKey s → AreByKey now
by_then s now k by = record {
  left = k.left_key ∙ (by.left ∙ sym k.left);
  right = k.right_key ∙ (by.right ∙ sym k.right);
  times = k.times ∙ (by.times ∙ sym k.left);
}

-- what is swept by the keys as they are then is swept by those at first
pub same_swept : (s now : AntiRows) (a b : List CellEvent) (t : ℕ) (later : AntiRows) (answer0 answer1 : List Edge) → SameKeys s now →
    AntiHeld s.left.key s.right.key a b t now.left.rows now.right.rows now.times.rows →
    (AntiHeld now.left.key now.right.key a b t now.left.rows now.right.rows now.times.rows →
    AntiHeld now.left.key now.right.key a b (suc t) later.left.rows later.right.rows later.times.rows × Tells (antis now.left.key now.right.key a b) t (suc t) answer0 answer1) →
    AntiHeld s.left.key s.right.key a b (suc t) later.left.rows later.right.rows later.times.rows × Tells (antis s.left.key s.right.key a b) t (suc t) answer0 answer1
same_swept s now a b t later answer0 answer1 k held step =
    back (step (subst (λ (l : List ℕ). AntiHeld l now.right.key a b t now.left.rows now.right.rows now.times.rows) (sym k.left)
    (subst (λ (r : List ℕ). AntiHeld s.left.key r a b t now.left.rows now.right.rows now.times.rows) (sym k.right) held)))
  where
    back : AntiHeld now.left.key now.right.key a b (suc t) later.left.rows later.right.rows later.times.rows × Tells (antis now.left.key now.right.key a b) t (suc t) answer0 answer1 →
        AntiHeld s.left.key s.right.key a b (suc t) later.left.rows later.right.rows later.times.rows × Tells (antis s.left.key s.right.key a b) t (suc t) answer0 answer1
    back p =
        subst (λ (l : List ℕ). AntiHeld l s.right.key a b (suc t) later.left.rows later.right.rows later.times.rows × Tells (antis l s.right.key a b) t (suc t) answer0 answer1) k.left
        (subst (λ (r : List ℕ). AntiHeld now.left.key r a b (suc t) later.left.rows later.right.rows later.times.rows × Tells (antis now.left.key r a b) t (suc t) answer0 answer1) k.right p)

pub kept_by : (s later : AntiRows) (left_waiting right_waiting : List Edge) (to : ℕ) (hl hr out : List Edge) → SameKeys s later →
    AntiKeeps s.left.key s.right.key later.left.rows later.right.rows later.times.rows left_waiting right_waiting to hl hr out →
    AntiKeeps later.left.key later.right.key later.left.rows later.right.rows later.times.rows left_waiting right_waiting to hl hr out
kept_by s later left_waiting right_waiting to hl hr out k h =
    subst (λ (l : List ℕ). AntiKeeps l later.right.key later.left.rows later.right.rows later.times.rows left_waiting right_waiting to hl hr out) (sym k.left)
    (subst (λ (r : List ℕ). AntiKeeps s.left.key r later.left.rows later.right.rows later.times.rows left_waiting right_waiting to hl hr out) (sym k.right) h)

-- what is told by the keys, the left rows and the times as they were at first
pub ends_by : (t : ℕ) (s now later : AntiRows) (a0 a1 : List Edge) → SameKeys s now → now.left ≡ s.left → now.times ≡ s.times → Adds a0 a1 (flat_map (ends_told t now later) now.left.rows) →
    Adds a0 a1 (flat_map (λ r. flip_end (is_free_key s.right.key later.right.rows (key_of s.left.key r.cells)) (status_of s.left.key s.right.key now.right.rows s.times.rows (key_of s.left.key r.cells)) t r) s.left.rows)
ends_by t s now later a0 a1 k left times h =
    subst (λ (x : KeyedRows). Adds a0 a1 (flat_map (λ r. flip_end (is_free_key s.right.key later.right.rows (key_of x.key r.cells)) (status_of x.key s.right.key now.right.rows s.times.rows (key_of x.key r.cells)) t r) x.rows)) left
    (subst (λ (x : KeyTimes). Adds a0 a1 (flat_map (λ r. flip_end (is_free_key s.right.key later.right.rows (key_of now.left.key r.cells)) (status_of now.left.key s.right.key now.right.rows x.rows (key_of now.left.key r.cells)) t r) now.left.rows)) times
    (subst (λ (x : List ℕ). Adds a0 a1 (flat_map (λ r. flip_end (is_free_key x later.right.rows (key_of now.left.key r.cells)) (status_of now.left.key x now.right.rows now.times.rows (key_of now.left.key r.cells)) t r) now.left.rows)) k.right h))

pub starts_by : (t : ℕ) (s now later : AntiRows) (a0 a1 : List Edge) → SameKeys s now → now.left ≡ s.left → Adds a0 a1 (flat_map (starts_told t now later) now.left.rows) →
    Adds a0 a1 (flat_map (λ r. flip_start (is_free_key s.right.key later.right.rows (key_of s.left.key r.cells)) (status_of s.left.key s.right.key now.right.rows now.times.rows (key_of s.left.key r.cells)) t r) s.left.rows)
starts_by t s now later a0 a1 k left h =
    subst (λ (x : KeyedRows). Adds a0 a1 (flat_map (λ r. flip_start (is_free_key s.right.key later.right.rows (key_of x.key r.cells)) (status_of x.key s.right.key now.right.rows now.times.rows (key_of x.key r.cells)) t r) x.rows)) left
    (subst (λ (x : List ℕ). Adds a0 a1 (flat_map (λ r. flip_start (is_free_key x later.right.rows (key_of now.left.key r.cells)) (status_of now.left.key x now.right.rows now.times.rows (key_of now.left.key r.cells)) t r) now.left.rows)) k.right h)

pub starts_by_right : (t : ℕ) (s : AntiRows) (right2 right3 : KeyedRows) (a0 a1 : List Edge) → right3 ≡ right2 →
    Adds a0 a1 (flat_map (λ r. flip_start (is_free_key s.right.key right2.rows (key_of s.left.key r.cells)) (status_of s.left.key s.right.key s.right.rows s.times.rows (key_of s.left.key r.cells)) t r) s.left.rows) →
    Adds a0 a1 (flat_map (λ r. flip_start (is_free_key s.right.key right3.rows (key_of s.left.key r.cells)) (status_of s.left.key s.right.key s.right.rows s.times.rows (key_of s.left.key r.cells)) t r) s.left.rows)
starts_by_right t s right2 right3 a0 a1 e h =
    subst (λ (x : KeyedRows). Adds a0 a1 (flat_map (λ r. flip_start (is_free_key s.right.key x.rows (key_of s.left.key r.cells)) (status_of s.left.key s.right.key s.right.rows s.times.rows (key_of s.left.key r.cells)) t r) s.left.rows)) (sym e) h

-- the times that are set in two steps
pub sets_times : (t : ℕ) (s now later : AntiRows) → SameKeys s now → now.left ≡ s.left → ((w : HeldRow → ℕ) → total w now.right.rows ≤ total w s.right.rows) → ((w : HeldRow → ℕ) → total w later.right.rows ≤ total w now.right.rows) →
    SetsTimes t s now → SetsTimes t now later → SetsTimes t s later
sets_times t s now later k left fit fit2 h g = record {
  since = λ l some.
      since_more s.right.key s.right.rows now.right.rows later.right.rows l t (time_of s s l) (time_of s now l) (time_of s later l) fit fit2 (h.since l some) (there l some);
  early = λ l low. early_there l (h.early l low);
  few = λ l none. few_there l none (h.few l none);
}
  where
    there : (l : List Datum) → 1 ≤ lefts_of s l → time_of s later l ≡ cond (not (is_free_key s.right.key now.right.rows l) && is_free_key s.right.key later.right.rows l) t (time_of s now l)
    there l some =
        subst (λ (x : List ℕ). free_since x later.times.rows l ≡ cond (not (is_free_key s.right.key now.right.rows l) && is_free_key s.right.key later.right.rows l) t (free_since x now.times.rows l)) k.left
        (subst (λ (r : List ℕ). free_since now.left.key later.times.rows l ≡ cond (not (is_free_key r now.right.rows l) && is_free_key r later.right.rows l) t (free_since now.left.key now.times.rows l)) k.right
        (g.since l (subst (λ (x : KeyedRows). 1 ≤ many (is_of_key x.key l) x.rows) (sym left) some)))

    early_there : (l : List Datum) → time_of s now l ≤ t → time_of s later l ≤ t
    early_there l = subst (λ (x : List ℕ). free_since x now.times.rows l ≤ t → free_since x later.times.rows l ≤ t) k.left (g.early l)

    few_there : (l : List Datum) → lefts_of s l ≡ 0 → times_of s now l ≤ times_of s s l → times_of s later l ≤ times_of s s l
    few_there l none low =
        let a : times_of s later l ≤ times_of s now l =
        subst (λ (x : List ℕ). many (is_of_key x l) later.times.rows ≤ many (is_of_key x l) now.times.rows) k.left (g.few l (subst (λ (x : KeyedRows). many (is_of_key x.key l) x.rows ≡ 0) (sym left) none)) in
        omega (arith, a, low)

-- and those that are forgotten
pub forgets_times : (s now later : AntiRows) → SameKeys s now → now.left ≡ s.left → ForgetsTimes s now → ForgetsTimes now later → ForgetsTimes s later
forgets_times s now later k left h g = record {
  same = λ l some. same_there l some ∙ h.same l some;
  less = λ l. (let a = less_there l in let b = h.less l in omega (arith, a, b));
  fewer = λ l. (let a = fewer_there l in let b = h.fewer l in omega (arith, a, b));
}
  where
    same_there : (l : List Datum) → 1 ≤ lefts_of s l → time_of s later l ≡ time_of s now l
    same_there l some = subst (λ (x : List ℕ). free_since x later.times.rows l ≡ free_since x now.times.rows l) k.left (g.same l (subst (λ (x : KeyedRows). 1 ≤ many (is_of_key x.key l) x.rows) (sym left) some))

    less_there : (l : List Datum) → time_of s later l ≤ time_of s now l
    less_there l = subst (λ (x : List ℕ). free_since x later.times.rows l ≤ free_since x now.times.rows l) k.left (g.less l)

    fewer_there : (l : List Datum) → times_of s later l ≤ times_of s now l
    fewer_there l = subst (λ (x : List ℕ). many (is_of_key x l) later.times.rows ≤ many (is_of_key x l) now.times.rows) k.left (g.fewer l)

pub gone_there : (s now later : AntiRows) (l : List Datum) → SameKeys s now → now.left ≡ s.left → lefts_of s l ≡ 0 → (lefts_of now l ≡ 0 → times_of now later l ≡ 0) → times_of s later l ≡ 0
gone_there s now later l k left none h =
    subst (λ (x : List ℕ). many (is_of_key x l) later.times.rows ≡ 0) k.left (h (subst (λ (x : KeyedRows). many (is_of_key x.key l) x.rows ≡ 0) (sym left) none))

pub fewer_there : (s now later : AntiRows) (l : List Datum) → SameKeys s now → ForgetsTimes now later → times_of s later l ≤ times_of s now l
fewer_there s now later l k g = subst (λ (x : List ℕ). many (is_of_key x l) later.times.rows ≤ many (is_of_key x l) now.times.rows) k.left (g.fewer l)

pub gone_more : (s now later : AntiRows) (l : List Datum) (es : List Edge) (i : ℕ) (x : Edge) → i < length es → x ≡ get_or es i x → SameKeys s now → now.left ≡ s.left → lefts_of s l ≡ 0 →
    (1 ≤ many (is_of_key s.left.key l) (ended_rows (take i es)) → times_of s now l ≡ 0) → ForgetsTimes now later →
    (lefts_of now l ≡ 0 → 1 ≤ many (is_of_key now.left.key l) (ended_of x) → times_of now later l ≡ 0) →
    1 ≤ many (is_of_key s.left.key l) (ended_rows (take (i + 1) es)) → times_of s later l ≡ 0
gone_more s now later l es i x low is k left none before g here some = pick (many (is_of_key s.left.key l) (ended_of x)) refl
  where
    pick : (n : ℕ) → many (is_of_key s.left.key l) (ended_of x) ≡ n → times_of s later l ≡ 0
    pick (suc n) e =
        gone_there s now later l k left none
        (λ z. here z (subst (λ (y : List ℕ). 1 ≤ many (is_of_key y l) (ended_of x)) (sym k.left) (omega (arith, e))))
    pick zero e =
        let m = rows_more ended_of (λ r. cond (is_of_key s.left.key l r) 1 0) es i x low is in
        let b = before (omega (arith, m, e, some)) in
        let f = fewer_there s now later l k g in
        omega (arith, b, f)
