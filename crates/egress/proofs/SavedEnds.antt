-- Entries that are made one by one, of the edges of an instant and of what is open.
use Rattle.std.specs.Prelude.{◌≡◌, ℕ, zero, suc, ◌+◌, ◌-◌, ◌<◌, ◌≤◌, nat_lt, Bool, true, false, cond, Option, Some, None, List, [], ◌∷◌, ◌++◌, map, length, All, refl}
use Rattle.std.specs.declared.collections.VecDeque.{VecDeque}
use Rattle.std.specs.List.Sorted.{IsNonDecreasingBy}
use Rattle.std.specs.List.{AllByRecursion, IsDistinct}
use Rattle.std.specs.Map.{lookup, keys_of}
use Rattle.std.specs.Option.{option_to_list}
use Rattle.std.proofs.Common.{sym, ◌∙◌, ap, subst, arith, take, drop, get_or}
use Rattle.std.proofs.lemmas.Bool.Decides.{nat_tests}
use Rattle.std.proofs.lemmas.List.{append-nil, append_assoc, map-append, length-drop, take-append-drop, take_more}
use Rattle.std.proofs.lemmas.List.Elements.{All-nil, All-cons, All-head, All-tail, All-append, All-get_or}
use Rattle.std.proofs.lemmas.List.Sorted.{IsNonDecreasingBy-push}
use Rattle.std.proofs.lemmas.Grind.{flat_map-append}
use Rattle.tw_rows.proofs.Bags.{total-append}
use Rattle.tw_rows.specs.Instant.{inf}
use Rattle.tw_rows.specs.SameCells.{same_cells, cells_are_same, same_itself, same_cells_equiv}
use Rattle.tw_rows.specs.declared.cells.Datum.{Datum}
use Rattle.tw_rows.specs.declared.edge.Edge.{Edge}
use Rattle.edge_stream.specs.declared.saved.SavedEntry.{SavedEntry}
use Rattle.edge_history.specs.Order.{failing}
use Rattle.edge_history.proofs.Sums.{failing-append, failing-parts}
use Rattle.synopsis.specs.Kept.{times_if}
use Rattle.egress.specs.Kept.{OpensPass}
use Rattle.egress.specs.Saving.{entries_of, starts_of, end_of, ends_of}
use Rattle.egress.specs.Saved.{entry_at, end_at, count_of, EndAt, Taken, TakenRest}
use Rattle.egress.proofs.Entries.{starts_append}
use Rattle.egress.proofs.Taking.{first_passes}

pub drop_one : {X : Type 0} (n : ℕ) (xs : List X) → drop 1 (drop n xs) ≡ drop (suc n) xs
drop_one zero xs = refl
drop_one (suc n) [] = refl
drop_one (suc n) (x ∷ xs) = drop_one n xs

pub starts_at_one : (other : ℕ) (k c : List Datum) (ts : List ℕ) → starts_of (map (entry_at other k) ts) c ≡ cond (same_cells k c) ts []
starts_at_one other k c ts = pick (same_cells k c) refl ts
  where
    pick : (b : Bool) → same_cells k c ≡ b → (ts : List ℕ) → starts_of (map (entry_at other k) ts) c ≡ cond b ts []
    pick true e [] = refl
    pick false e [] = refl
    pick true e (t ∷ ts) =
        ap (λ b. map (λ (x : SavedEntry). x.sync) (cond b (entry_at other k t ∷ entries_of (map (entry_at other k) ts) c) (entries_of (map (entry_at other k) ts) c))) e
        ∙ ap (λ l. t ∷ l) (pick true e ts)
    pick false e (t ∷ ts) =
        ap (λ b. map (λ (x : SavedEntry). x.sync) (cond b (entry_at other k t ∷ entries_of (map (entry_at other k) ts) c) (entries_of (map (entry_at other k) ts) c))) e
        ∙ pick false e ts

all_at : (other : ℕ) (k : List Datum) (ts : List ℕ) → All (EndAt other) (map (entry_at other k) ts)
all_at other k [] = All-nil (EndAt other)
all_at other k (t ∷ ts) = All-cons (EndAt other) (entry_at other k t) (map (entry_at other k) ts) (refl, refl) (all_at other k ts)

all_pass : (p : List Datum → Bool) (other : ℕ) (k : List Datum) (ts : List ℕ) → p k ≡ true → failing (λ (e : SavedEntry). p e.cells) (map (entry_at other k) ts) ≡ 0
all_pass p other k [] own = refl
all_pass p other k (t ∷ ts) own =
    let one : cond {A = ℕ} (p k) 0 1 ≡ 0 = ap (λ b. cond {A = ℕ} b 0 1) own in
    let rest = all_pass p other k ts own in
    omega (arith, one, rest)

-- entries that end at infinity give no end
pub no_ends : (es : List SavedEntry) → All (EndAt inf) es → ends_of es ≡ []
no_ends [] h = refl
no_ends (e ∷ es) h =
    let other = (All-head (EndAt inf) e es h).1 in
    let last : nat_lt e.other inf ≡ false = grind (arith, nat_tests, other) in
    ap (λ b. cond b (record { sync = e.other; other = 0; cells = e.cells } ∷ []) [] ++ ends_of es) last ∙ no_ends es (All-tail (EndAt inf) e es h)

-- THE EDGES OF AN INSTANT
pub taken_none : (at : ℕ) (old : List SavedEntry) (since : List Datum → List ℕ) → Taken at [] old old since since
taken_none at old since = record {
  added = [];
  is = sym (append-nil old);
  starts = λ c. refl;
  left = λ c. refl;
  ends = λ low enough. refl;
  each = All-nil (EndAt at);
  cells = λ p none. refl;
}

module _ (at : ℕ) (xs : List Edge) (e : Edge) (old mid new : List SavedEntry) (since s1 s2 : List Datum → List ℕ) (t : Taken at xs old mid since s1)
    (is : new ≡ mid ++ map (entry_at at e.cells) (take 1 (s1 e.cells)))
    (step : (c : List Datum) → s2 c ≡ cond (same_cells e.cells c) (drop 1 (s1 c)) (s1 c)) where
  abbrev more : List SavedEntry
  more = map (entry_at at e.cells) (take 1 (s1 e.cells))

  counts : (c : List Datum) → count_of c (xs ++ e ∷ []) ≡ count_of c xs + (cond (same_cells e.cells c) 1 0 + 0)
  counts c = total-append (λ (x : Edge). cond (same_cells x.cells c) 1 0) xs (e ∷ [])

  rest_is : (c : List Datum) → cond (same_cells e.cells c) (take 1 (s1 e.cells)) [] ++ s2 c ≡ s1 c
  rest_is c = ap (λ l. cond (same_cells e.cells c) (take 1 (s1 e.cells)) [] ++ l) (step c) ∙ pick (same_cells e.cells c) refl
    where
      pick : (b : Bool) → same_cells e.cells c ≡ b → cond b (take 1 (s1 e.cells)) [] ++ cond b (drop 1 (s1 c)) (s1 c) ≡ s1 c
      pick true f = ap (λ k. take 1 (s1 k) ++ drop 1 (s1 c)) (cells_are_same e.cells c f) ∙ take-append-drop 1 (s1 c)
      pick false f = refl

  left_is : (c : List Datum) → s2 c ≡ drop (count_of c (xs ++ e ∷ [])) (since c)
  left_is c = step c ∙ pick (same_cells e.cells c) ∙ ap (λ n. drop n (since c)) (sym (counts c))
    where
      pick : (b : Bool) → cond b (drop 1 (s1 c)) (s1 c) ≡ drop (count_of c xs + (cond b 1 0 + 0)) (since c)
      pick true = let n : suc (count_of c xs) ≡ count_of c xs + (1 + 0) = omega arith in ap (drop 1) (t.left c) ∙ drop_one (count_of c xs) (since c) ∙ ap (λ n. drop n (since c)) n
      pick false = let n : count_of c xs ≡ count_of c xs + (0 + 0) = omega arith in t.left c ∙ ap (λ n. drop n (since c)) n

  one_end : at < inf → count_of e.cells (xs ++ e ∷ []) ≤ length (since e.cells) → ends_of more ≡ end_at at e ∷ []
  one_end low enough = pick (s1 e.cells) refl
    where
      known : nat_lt at inf ≡ true
      known = grind (arith, nat_tests, low)

      pick : (l : List ℕ) → s1 e.cells ≡ l → ends_of (map (entry_at at e.cells) (take 1 l)) ≡ end_at at e ∷ []
      pick [] f = absurd (
          let a = counts e.cells in let own = ap (λ b. cond {A = ℕ} b 1 0) (same_itself e.cells) in
          let len = ap length (sym f ∙ t.left e.cells) ∙ length-drop (count_of e.cells xs) (since e.cells) in
          omega (arith, a, own, len, enough))
      pick (x ∷ rest) f = ap (λ b. cond b (end_at at e ∷ []) [] ++ []) known

  pub taken_next : Taken at (xs ++ e ∷ []) old new since s2
  taken_next = record {
    added = t.added ++ more;
    is = is ∙ ap (λ l. l ++ more) t.is ∙ append_assoc old t.added more;
    starts = λ c.
        ap (λ l. l ++ s2 c) (starts_append t.added more c ∙ ap (λ l. starts_of t.added c ++ l) (starts_at_one at e.cells c (take 1 (s1 e.cells))))
        ∙ append_assoc (starts_of t.added c) (cond (same_cells e.cells c) (take 1 (s1 e.cells)) []) (s2 c)
        ∙ ap (λ l. starts_of t.added c ++ l) (rest_is c) ∙ t.starts c;
    left = left_is;
    ends = λ low enough.
        flat_map-append end_of t.added more
        ∙ ap (λ l. l ++ ends_of more) (t.ends low (λ c. let a = counts c in let b = enough c in omega (arith, a, b)))
        ∙ ap (λ l. map (end_at at) xs ++ l) (one_end low (enough e.cells)) ∙ sym (map-append (end_at at) xs (e ∷ []));
    each = All-append (EndAt at) t.added more t.each (all_at at e.cells (take 1 (s1 e.cells)));
    cells = λ p none.
        let parts = failing-parts (λ (x : Edge). p x.cells) xs (e ∷ []) none in
        failing-append (λ (x : SavedEntry). p x.cells) t.added more (t.cells p parts.0) (all_pass p at e.cells (take 1 (s1 e.cells)) (first_passes (p e.cells) 0 parts.1).0);
  }

-- WHAT IS OPEN
pub record RestSo (old mid : List SavedEntry) (since s1 : List Datum → List ℕ) : Type 0 where
  pub added : List SavedEntry
  pub is : mid ≡ old ++ added
  pub starts : (c : List Datum) → starts_of added c ++ s1 c ≡ since c
  pub each : All (EndAt inf) added
  pub cells : (p : List Datum → Bool) → OpensPass p since → failing (λ e. p e.cells) added ≡ 0

pub rest_first : (old : List SavedEntry) (since : List Datum → List ℕ) → RestSo old old since since
rest_first old since = record { added = []; is = sym (append-nil old); starts = λ c. refl; each = All-nil (EndAt inf); cells = λ p h. refl }

pub rest_next : (old mid new : List SavedEntry) (since s1 s2 : List Datum → List ℕ) (k : List Datum) → RestSo old mid since s1 →
    new ≡ mid ++ map (entry_at inf k) (s1 k) → ((c : List Datum) → s2 c ≡ cond (same_cells k c) [] (s1 c)) → RestSo old new since s2
rest_next old mid new since s1 s2 k t is step = record {
  added = t.added ++ map (entry_at inf k) (s1 k);
  is = is ∙ ap (λ l. l ++ map (entry_at inf k) (s1 k)) t.is ∙ append_assoc old t.added (map (entry_at inf k) (s1 k));
  starts = λ c.
      ap (λ l. l ++ s2 c) (starts_append t.added (map (entry_at inf k) (s1 k)) c ∙ ap (λ l. starts_of t.added c ++ l) (starts_at_one inf k c (s1 k)))
      ∙ append_assoc (starts_of t.added c) (cond (same_cells k c) (s1 k) []) (s2 c)
      ∙ ap (λ l. starts_of t.added c ++ l) (rest_is c) ∙ t.starts c;
  each = All-append (EndAt inf) t.added (map (entry_at inf k) (s1 k)) t.each (all_at inf k (s1 k));
  cells = λ p h. failing-append (λ (x : SavedEntry). p x.cells) t.added (map (entry_at inf k) (s1 k)) (t.cells p h) (own p h (s1 k) refl);
}
  where
    rest_is : (c : List Datum) → cond (same_cells k c) (s1 k) [] ++ s2 c ≡ s1 c
    rest_is c = ap (λ l. cond (same_cells k c) (s1 k) [] ++ l) (step c) ∙ pick (same_cells k c) refl
      where
        pick : (b : Bool) → same_cells k c ≡ b → cond b (s1 k) [] ++ cond b [] (s1 c) ≡ s1 c
        pick true f = append-nil (s1 k) ∙ ap s1 (cells_are_same k c f)
        pick false f = refl

    own : (p : List Datum → Bool) → OpensPass p since → (l : List ℕ) → s1 k ≡ l → failing (λ (e : SavedEntry). p e.cells) (map (entry_at inf k) l) ≡ 0
    own p h [] f = refl
    own p h (x ∷ l) f = all_pass p inf k (x ∷ l) (first (starts_of t.added k) refl)
      where
        first : (front : List ℕ) → starts_of t.added k ≡ front → p k ≡ true
        first [] g = h k x l (sym (t.starts k) ∙ ap (λ s. s ++ s1 k) g ∙ f)
        first (y ∷ ys) g = h k y (ys ++ s1 k) (sym (t.starts k) ∙ ap (λ s. s ++ s1 k) g)

pub rest_last : (old new : List SavedEntry) (since s1 : List Datum → List ℕ) → ((c : List Datum) → s1 c ≡ []) → RestSo old new since s1 → TakenRest old new since
rest_last old new since s1 none t = record {
  added = t.added;
  is = t.is;
  starts = λ c. sym (append-nil (starts_of t.added c)) ∙ ap (λ l. starts_of t.added c ++ l) (sym (none c)) ∙ t.starts c;
  each = t.each;
  cells = t.cells;
}

-- the last entry of a map
lookup_last : {K X : Type 0} (test : K → Bool) (es : List (K × X)) (k : K) (x : X) → lookup test es ≡ None → test k ≡ true → lookup test (es ++ (k, x) ∷ []) ≡ Some x
lookup_last test [] k x none own = ap (λ b. cond b (Some x) None) own
lookup_last test (e ∷ es) k x none own = pick (test e.0) refl none (lookup_last test es k x)
  where
    pick : (b : Bool) → test e.0 ≡ b → cond b (Some e.1) (lookup test es) ≡ None → (lookup test es ≡ None → test k ≡ true → lookup test (es ++ (k, x) ∷ []) ≡ Some x) → cond (test e.0) (Some e.1) (lookup test (es ++ (k, x) ∷ [])) ≡ Some x
    pick true f n later = absurd (cc)
    pick false f n later = ap (λ b. cond b (Some e.1) (lookup test (es ++ (k, x) ∷ []))) f ∙ later n own

-- the open starts of a row among the entries of a map
abbrev pub times_at : {S : Type 0} → List (List Datum × VecDeque ℕ S) → List Datum → List ℕ
times_at es c = times_if (lookup (same_cells c) es)

front_all : {X : Type 0} (P : List Datum → Type 0) (fs : List (List Datum × X)) (k : List Datum) (d : X) → AllByRecursion P (keys_of (fs ++ (k, d) ∷ [])) → AllByRecursion P (keys_of fs)
front_all P [] k d h = tt
front_all P (f ∷ fs) k d h = (h.0, front_all P fs k d h.1)

last_all : {X : Type 0} (P : List Datum → Type 0) (fs : List (List Datum × X)) (k : List Datum) (d : X) → AllByRecursion P (keys_of (fs ++ (k, d) ∷ [])) → P k
last_all P [] k d h = h.0
last_all P (f ∷ fs) k d h = last_all P fs k d h.1

-- the keys of the entries before the last one are apart too
pub front_apart : {X : Type 0} (fs : List (List Datum × X)) (k : List Datum) (d : X) → IsDistinct same_cells (keys_of (fs ++ (k, d) ∷ [])) → IsDistinct same_cells (keys_of fs)
unfolding IsDistinct
front_apart [] k d h = tt
front_apart (f ∷ fs) k d h = (front_all (λ y. same_cells f.0 y ≡ false) fs k d h.0, front_apart fs k d h.1)

-- without the last entry its row is gone, and the others are as they were
last_gone : {X : Type 0} (fs : List (List Datum × X)) (k : List Datum) (d : X) → IsDistinct same_cells (keys_of (fs ++ (k, d) ∷ [])) → (c : List Datum) →
    lookup (same_cells c) fs ≡ cond (same_cells k c) None (lookup (same_cells c) (fs ++ (k, d) ∷ []))
unfolding IsDistinct
last_gone [] k d h c = one (same_cells k c) (same_cells c k) (same_cells_equiv.symm k c)
  where
    one : (a b : Bool) → a ≡ b → None ≡ cond a None (cond b (Some d) None)
    one true b e = refl
    one false true e = absurd (cc)
    one false false e = refl
last_gone (f ∷ fs) k d h c = two (same_cells c f.0) refl (last_gone fs k d h.1 c)
  where
    two : (b : Bool) → same_cells c f.0 ≡ b → lookup (same_cells c) fs ≡ cond (same_cells k c) None (lookup (same_cells c) (fs ++ (k, d) ∷ [])) →
        cond b (Some f.1) (lookup (same_cells c) fs) ≡ cond (same_cells k c) None (cond b (Some f.1) (lookup (same_cells c) (fs ++ (k, d) ∷ [])))
    two true e rest =
        let apart : same_cells f.0 k ≡ false = last_all (λ y. same_cells f.0 y ≡ false) fs k d h.0 in
        let other : same_cells k c ≡ false = same_cells_equiv.symm k c ∙ same_cells_equiv.congr c f.0 k e ∙ apart in
        sym (ap (λ b. cond b None (Some f.1)) other)
    two false e rest = rest

module _ {S : Type 0} (es fs : List (List Datum × VecDeque ℕ S)) (k : List Datum) (d : VecDeque ℕ S)
    (last : es ≡ fs ++ (k, d) ∷ []) (apart : IsDistinct same_cells (keys_of (fs ++ (k, d) ∷ []))) where
  pub last_own : d.items ≡ times_at es k
  last_own =
      let none : lookup (same_cells k) fs ≡ None = last_gone fs k d apart k ∙ ap (λ b. cond b None (lookup (same_cells k) (fs ++ (k, d) ∷ []))) (same_itself k) in
      sym (ap times_if (ap (lookup (same_cells k)) last ∙ lookup_last (same_cells k) fs k d none (same_itself k)))

  pub last_others : (c : List Datum) → times_at fs c ≡ cond (same_cells k c) [] (times_at es c)
  last_others c = ap times_if (last_gone fs k d apart c) ∙ pick (same_cells k c) ∙ ap (λ (l : List (List Datum × VecDeque ℕ S)). cond (same_cells k c) [] (times_at l c)) (sym last)
    where
      pick : (b : Bool) → times_if (cond b None (lookup (same_cells c) (fs ++ (k, d) ∷ []))) ≡ cond b [] (times_at (fs ++ (k, d) ∷ []) c)
      pick true = refl
      pick false = refl

-- numbers that do not fall go on with one number that none of them passes
pub order_more : {X : Type 0} (n : X → ℕ) (b : ℕ) (xs ys : List X) → IsNonDecreasingBy n xs → All (λ x. n x ≤ b) xs → All (λ y. n y ≡ b) ys → IsNonDecreasingBy n (xs ++ ys)
order_more n b xs [] up low same = subst (IsNonDecreasingBy n) (sym (append-nil xs)) up
order_more n b xs (y ∷ ys) up low same =
    let own = All-head (λ x. n x ≡ b) y ys same in
    let next : IsNonDecreasingBy n (xs ++ y ∷ []) =
    IsNonDecreasingBy-push n xs y up (λ d some. let k = All-get_or (λ x. n x ≤ b) xs (length xs - 1) d (omega (arith, some)) low in omega (arith, k, own)) in
    subst (IsNonDecreasingBy n) (append_assoc xs (y ∷ []) ys)
    (order_more n b (xs ++ y ∷ []) ys next (All-append (λ x. n x ≤ b) xs (y ∷ []) low (All-cons (λ x. n x ≤ b) y [] (omega (arith, own)) (All-nil (λ x. n x ≤ b)))) (All-tail (λ x. n x ≡ b) y ys same))

-- what is taken out first
pub first_taken : (r : Option ℕ) (xs ys : List ℕ) → xs ≡ option_to_list r ++ ys → ys ≡ drop 1 xs → option_to_list r ≡ take 1 xs
first_taken None [] ys e f = refl
first_taken None (x ∷ xs) ys e f = absurd (let a = ap length e in let b = ap length f in omega (arith, a, b))
first_taken (Some v) xs ys e f = sym (ap (take 1) e)

-- one more start of a row
pub starts_more : (other : ℕ) (cells : List Datum) (since : List ℕ) (i s sync : ℕ) (saved0 saved1 saved2 : List SavedEntry) → i < length since → sync ≡ get_or since i s →
    saved1 ≡ saved0 ++ map (entry_at other cells) (take i since) → saved2 ≡ saved1 ++ record { part = 0; sync = sync; other = other; cells = cells } ∷ [] →
    saved2 ≡ saved0 ++ map (entry_at other cells) (take (i + 1) since)
starts_more other cells since i s sync saved0 saved1 saved2 low at so more =
    let f : ℕ → SavedEntry = entry_at other cells in
    more ∙ ap (λ l. l ++ record { part = 0; sync = sync; other = other; cells = cells } ∷ []) so
    ∙ append_assoc saved0 (map f (take i since)) (record { part = 0; sync = sync; other = other; cells = cells } ∷ [])
    ∙ ap (λ l. saved0 ++ l)
    ((λ j. map f (take i since) ++ record { part = 0; sync = at j; other = other; cells = cells } ∷ [])
    ∙ sym (map-append f (take i since) (get_or since i s ∷ [])) ∙ sym (ap (map f) (take_more since i s low)))
