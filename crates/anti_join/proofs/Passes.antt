-- The passes over the edges of an instant, edge by edge.
use Rattle.std.specs.Prelude.{◌≡◌, ℕ, ◌+◌, ◌<◌, ◌≤◌, not, ◌&&◌, Bool, true, false, cond, List, [], ◌∷◌, ◌++◌, flat_map, length, get_or, take, refl}
use Rattle.std.proofs.Common.{sym, ◌∙◌, ap, subst, arith}
use Rattle.tw_rows.specs.Bag.{total}
use Rattle.tw_rows.specs.declared.cells.Datum.{Datum}
use Rattle.tw_rows.specs.declared.edge.Edge.{Edge}
use Rattle.tw_rows.specs.declared.edge.HeldRow.{HeldRow}
use Rattle.tw_rows.proofs.Bags.{total-append, total-flat_map}
use Rattle.edge_history.specs.Order.{many, is_end}
use Rattle.edge_history.specs.Opens.{ended_of, started_of}
use Rattle.synopsis.specs.Held.{key_of, is_of_key, KeyedRows}
use Rattle.sweep_laws.specs.Moves.{Adds}
use Rattle.sweep_laws.specs.Antijoining.{end_of, begin_of, flip_end, flip_start}
use Rattle.sweep_laws.proofs.Adding.{adds_none, adds_then, adds_bag, rows_more}
use Rattle.anti_join.specs.Free.{KeyTimes, is_free_key, free_since, status_of}
use Rattle.anti_join.proofs.Flips.{still_free, adds_both, ends_both, starts_both}

one_row : (w : Edge → ℕ) (f : HeldRow → List Edge) (r : HeldRow) → total w (f r) ≡ total w (flat_map f (r ∷ []))
one_row w f r = let a = total-append w (f r) [] in omega (arith, a)

-- what is told of the row of an edge
pub ended_told : (f : HeldRow → List Edge) (x : Edge) (a0 a1 : List Edge) → is_end x ≡ true → a1 ≡ a0 ++ f (record { cells = x.cells; start = x.other }) → Adds a0 a1 (flat_map f (ended_of x))
ended_told f x a0 a1 e is = record {
  added = f (record { cells = x.cells; start = x.other });
  is = is;
  bag = record {
    weigh = λ w. one_row w f (record { cells = x.cells; start = x.other }) ∙ sym (ap (λ b. total w (flat_map f (cond b (record { cells = x.cells; start = x.other } ∷ []) []))) e);
  };
}

pub started_told : (f : HeldRow → List Edge) (x : Edge) (a0 a1 : List Edge) → is_end x ≡ false → a1 ≡ a0 ++ f (record { cells = x.cells; start = x.sync }) → Adds a0 a1 (flat_map f (started_of x))
started_told f x a0 a1 e is = record {
  added = f (record { cells = x.cells; start = x.sync });
  is = is;
  bag = record {
    weigh = λ w. one_row w f (record { cells = x.cells; start = x.sync }) ∙ sym (ap (λ b. total w (flat_map f (cond b [] (record { cells = x.cells; start = x.sync } ∷ [])))) e);
  };
}

-- an edge without a row
pub no_ended : (f : HeldRow → List Edge) (x : Edge) (a : List Edge) → is_end x ≡ false → Adds a a (flat_map f (ended_of x))
no_ended f x a e = subst (λ b. Adds a a (flat_map f (cond b (record { cells = x.cells; start = x.other } ∷ []) []))) (sym e) (adds_none a)

pub no_started : (f : HeldRow → List Edge) (x : Edge) (a : List Edge) → is_end x ≡ true → Adds a a (flat_map f (started_of x))
no_started f x a e = subst (λ b. Adds a a (flat_map f (cond b [] (record { cells = x.cells; start = x.sync } ∷ [])))) (sym e) (adds_none a)

-- one more edge
pub rows_told : (f : HeldRow → List Edge) (g : Edge → List HeldRow) (now : List Edge) (i : ℕ) (x : Edge) (a0 a1 a2 : List Edge) → i < length now → x ≡ get_or now i x →
    Adds a0 a1 (flat_map f (flat_map g (take i now))) → Adds a1 a2 (flat_map f (g x)) → Adds a0 a2 (flat_map f (flat_map g (take (i + 1) now)))
rows_told f g now i x a0 a1 a2 low is h k =
    adds_bag a0 a2 (flat_map f (flat_map g (take i now)) ++ flat_map f (g x)) _ (adds_then a0 a1 a2 _ _ h k)
    (record {
      weigh = λ w.
          let a = total-append w (flat_map f (flat_map g (take i now))) (flat_map f (g x)) in
          let b = total-flat_map w f (flat_map g (take i now)) in
          let c = total-flat_map w f (g x) in
          let d = total-flat_map w f (flat_map g (take (i + 1) now)) in
          let e = rows_more g (λ r. total w (f r)) now i x low is in
          omega (arith, a, b, c, d, e);
    })

-- what is told of rows, by keys, right rows and times
abbrev pub end_told : ℕ → List ℕ → KeyedRows → KeyTimes → HeldRow → List Edge
end_told t lk right times r = end_of (status_of lk right.key right.rows times.rows (key_of lk r.cells)) t r

abbrev pub begin_told : ℕ → List ℕ → KeyedRows → HeldRow → List Edge
begin_told t lk right r = begin_of (is_free_key right.key right.rows (key_of lk r.cells)) t r

-- these are told by what is the same
pub same_ends : (t : ℕ) (lk k : List ℕ) (right right2 : KeyedRows) (times times2 : KeyTimes) (rows : List HeldRow) (a0 a1 : List Edge) → k ≡ lk → right2 ≡ right → times2 ≡ times →
    Adds a0 a1 (flat_map (end_told t k right2 times2) rows) → Adds a0 a1 (flat_map (end_told t lk right times) rows)
same_ends t lk k right right2 times times2 rows a0 a1 e f g h =
    subst (λ (x : List ℕ). Adds a0 a1 (flat_map (end_told t x right times) rows)) e
    (subst (λ (x : KeyedRows). Adds a0 a1 (flat_map (end_told t k x times) rows)) f (subst (λ (x : KeyTimes). Adds a0 a1 (flat_map (end_told t k right2 x) rows)) g h))

pub same_begins : (t : ℕ) (lk k : List ℕ) (right right2 : KeyedRows) (rows : List HeldRow) (a0 a1 : List Edge) → k ≡ lk → right2 ≡ right →
    Adds a0 a1 (flat_map (begin_told t k right2) rows) → Adds a0 a1 (flat_map (begin_told t lk right) rows)
same_begins t lk k right right2 rows a0 a1 e f h =
    subst (λ (x : List ℕ). Adds a0 a1 (flat_map (begin_told t x right) rows)) e (subst (λ (x : KeyedRows). Adds a0 a1 (flat_map (begin_told t k x) rows)) f h)

pub same_status : (lk k rk : List ℕ) (right times : List HeldRow) (v v2 : List Datum) → k ≡ lk → v ≡ v2 → status_of k rk right times v ≡ status_of lk rk right times v2
same_status lk k rk right times v v2 e f = λ i. status_of (e i) rk right times (f i)

-- of right rows of which there are no fewer
fewer_free : (rk : List ℕ) (old new : List HeldRow) (k : List Datum) → ((w : HeldRow → ℕ) → total w old ≤ total w new) → is_free_key rk new k ≡ true → is_free_key rk old k ≡ true
fewer_free rk old new k fit h = still_free (many (is_of_key rk k) old) (many (is_of_key rk k) new) (fit (λ r. cond (is_of_key rk k r) 1 0)) h

-- what is told of the left rows where the right rows go from the first to the second and from there to the third
module _ (lk rk : List ℕ) (t : ℕ) (first second third times times2 left : List HeldRow) (a0 a1 a2 : List Edge) where
  pub ends_more : ((w : HeldRow → ℕ) → total w first ≤ total w second) → ((w : HeldRow → ℕ) → total w second ≤ total w third) →
      Adds a0 a1 (flat_map (λ r. flip_end (is_free_key rk second (key_of lk r.cells)) (status_of lk rk first times (key_of lk r.cells)) t r) left) →
      Adds a1 a2 (flat_map (λ r. flip_end (is_free_key rk third (key_of lk r.cells)) (status_of lk rk second times (key_of lk r.cells)) t r) left) →
      Adds a0 a2 (flat_map (λ r. flip_end (is_free_key rk third (key_of lk r.cells)) (status_of lk rk first times (key_of lk r.cells)) t r) left)
  ends_more fit fit2 h k =
      adds_both left (λ r. flip_end (is_free_key rk second (key_of lk r.cells)) (status_of lk rk first times (key_of lk r.cells)) t r)
      (λ r. flip_end (is_free_key rk third (key_of lk r.cells)) (status_of lk rk second times (key_of lk r.cells)) t r)
      (λ r. flip_end (is_free_key rk third (key_of lk r.cells)) (status_of lk rk first times (key_of lk r.cells)) t r) a0 a1 a2 h k
      (λ w r. ends_both w (is_free_key rk first (key_of lk r.cells)) (is_free_key rk second (key_of lk r.cells)) (is_free_key rk third (key_of lk r.cells)) (free_since lk times (key_of lk r.cells)) t r
      (fewer_free rk first second (key_of lk r.cells) fit) (fewer_free rk second third (key_of lk r.cells) fit2))

  pub starts_more : ((w : HeldRow → ℕ) → total w second ≤ total w first) → ((w : HeldRow → ℕ) → total w third ≤ total w second) →
      Adds a0 a1 (flat_map (λ r. flip_start (is_free_key rk second (key_of lk r.cells)) (status_of lk rk first times (key_of lk r.cells)) t r) left) →
      Adds a1 a2 (flat_map (λ r. flip_start (is_free_key rk third (key_of lk r.cells)) (status_of lk rk second times2 (key_of lk r.cells)) t r) left) →
      Adds a0 a2 (flat_map (λ r. flip_start (is_free_key rk third (key_of lk r.cells)) (status_of lk rk first times (key_of lk r.cells)) t r) left)
  starts_more fit fit2 h k =
      adds_both left (λ r. flip_start (is_free_key rk second (key_of lk r.cells)) (status_of lk rk first times (key_of lk r.cells)) t r)
      (λ r. flip_start (is_free_key rk third (key_of lk r.cells)) (status_of lk rk second times2 (key_of lk r.cells)) t r)
      (λ r. flip_start (is_free_key rk third (key_of lk r.cells)) (status_of lk rk first times (key_of lk r.cells)) t r) a0 a1 a2 h k
      (λ w r. starts_both w (is_free_key rk first (key_of lk r.cells)) (is_free_key rk second (key_of lk r.cells)) (is_free_key rk third (key_of lk r.cells))
      (free_since lk times (key_of lk r.cells)) (free_since lk times2 (key_of lk r.cells)) t r
      (fewer_free rk second first (key_of lk r.cells) fit) (fewer_free rk third second (key_of lk r.cells) fit2))

-- since when a key is free, in two steps
since_steps : (f0 f1 f2 : Bool) (t s0 s1 s2 : ℕ) → (f0 ≡ true → f1 ≡ true) → (f1 ≡ true → f2 ≡ true) → s1 ≡ cond (not f0 && f1) t s0 → s2 ≡ cond (not f1 && f2) t s1 → s2 ≡ cond (not f0 && f2) t s0
since_steps true true true t s0 s1 s2 h k p q = q ∙ p
since_steps false true true t s0 s1 s2 h k p q = q ∙ p
since_steps false false true t s0 s1 s2 h k p q = q
since_steps false false false t s0 s1 s2 h k p q = q ∙ p
since_steps true false f t s0 s1 s2 h k p q = absurd (let e = h refl in cc)
since_steps f true false t s0 s1 s2 h k p q = absurd (let e = k refl in cc)

pub since_more : (rk : List ℕ) (first second third : List HeldRow) (k : List Datum) (t s0 s1 s2 : ℕ) → ((w : HeldRow → ℕ) → total w second ≤ total w first) → ((w : HeldRow → ℕ) → total w third ≤ total w second) →
    s1 ≡ cond (not (is_free_key rk first k) && is_free_key rk second k) t s0 → s2 ≡ cond (not (is_free_key rk second k) && is_free_key rk third k) t s1 →
    s2 ≡ cond (not (is_free_key rk first k) && is_free_key rk third k) t s0
since_more rk first second third k t s0 s1 s2 fit fit2 =
    since_steps (is_free_key rk first k) (is_free_key rk second k) (is_free_key rk third k) t s0 s1 s2 (fewer_free rk second first k fit) (fewer_free rk third second k fit2)
