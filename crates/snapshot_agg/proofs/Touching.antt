-- The keys that an instant touches, and the passes over them.
use Rattle.std.specs.Prelude.{◌≡◌, ℕ, zero, suc, ◌+◌, ◌<◌, ◌||◌, Bool, true, false, Option, Some, None, Vec, List, [], ◌∷◌, ◌++◌, map, length, get_or, take, refl}
use Rattle.snapshot_agg.proofs.Kept.{or_last}
use Rattle.std.specs.List.{list_any}
use Rattle.std.proofs.Common.{sym, ◌∙◌, ap, subst, arith}
use Rattle.std.proofs.lemmas.List.{take_more, get_or-map}
use Rattle.std.proofs.lemmas.List.Folds.{list_any_more}
use Rattle.indexmap.specs.IndexMap.{IndexMap}
use Rattle.tw_rows.specs.SameCells.{same_cells, cells_are_same, same_itself}
use Rattle.tw_rows.specs.declared.cells.Datum.{Datum}
use Rattle.tw_rows.specs.declared.edge.Edge.{Edge}
use Rattle.sweep_laws.specs.Running.{Run, end_part, kept, start_part, begun_at}
use Rattle.sweep_laws.specs.Grouping.{keys_of, PassTold, EndsTold, StartsTold}
use Rattle.snapshot_agg.specs.Words.{key_data}
use Rattle.snapshot_agg.specs.declared.totals.Totals.{Totals}
use Rattle.snapshot_agg.specs.Totaled.{TellTouched, totals_of}
use Rattle.snapshot_agg.specs.Touching.{Touches, edge_of_key, EndsOfKeys, StartsOfKeys}

or_none : (b : Bool) → (b || false) ≡ b
or_none true = refl
or_none false = refl

or_shift : (a b c : Bool) → (a || (b || c)) ≡ ((a || b) || c)
or_shift true b c = refl
or_shift false b c = refl

any_last : {X : Type 0} (p : X → Bool) (xs : List X) (x : X) → list_any p (xs ++ (x ∷ [])) ≡ (list_any p xs || p x)
any_last p [] x = or_none (p x)
any_last p (y ∷ xs) x = ap (λ b. p y || b) (any_last p xs x) ∙ or_shift (p y) (list_any p xs) (p x)

-- a key that is pushed, and one that stands there already
pub pushed_key : (ks ks2 : List (List Datum)) (k q : List Datum) → ks2 ≡ ks ++ (k ∷ []) → list_any (same_cells q) ks2 ≡ (list_any (same_cells q) ks || same_cells q k)
pushed_key ks ks2 k q is = ap (list_any (same_cells q)) is ∙ any_last (same_cells q) ks k

pub key_stands : (ks : List (List Datum)) (k q : List Datum) → list_any (same_cells k) ks ≡ true → list_any (same_cells q) ks ≡ (list_any (same_cells q) ks || same_cells q k)
key_stands ks k q there = pick (same_cells q k) refl
  where
    pick : (b : Bool) → same_cells q k ≡ b → list_any (same_cells q) ks ≡ (list_any (same_cells q) ks || b)
    pick true e =
        let z : list_any (same_cells q) ks ≡ true = ap (λ x. list_any (same_cells x) ks) (cells_are_same q k e) ∙ there in
        z ∙ sym (or_last (list_any (same_cells q) ks) true refl)
    pick false e = sym (or_none (list_any (same_cells q) ks))

-- the totals of a key that is touched now tell so, and those of the others still do, and do once the next instant begins
pub now_told : (t : Totals) (n : ℕ) (ks ks2 : List (List Datum)) (k : List Datum) → t.instant ≡ n → Touches ks ks2 k → TellTouched (Some t) n ks2 k
now_told t n ks ks2 k is more = record {
  within = omega (arith, is);
  there = λ e. more k ∙ or_last (list_any (same_cells k) ks) (same_cells k k) (same_itself k);
}

pub still_told : (o : Option Totals) (n : ℕ) (ks ks2 : List (List Datum)) (k q : List Datum) → Touches ks ks2 k → TellTouched o n ks q → TellTouched o n ks2 q
still_told None n ks ks2 k q more h = tt
still_told (Some t) n ks ks2 k q more h = record { within = h.within; there = λ e. more q ∙ ap (λ b. b || same_cells q k) (h.there e) }

pub later_told : (o : Option Totals) (n m : ℕ) (ks ks2 : List (List Datum)) (k : List Datum) → m ≡ n + 1 → TellTouched o n ks k → TellTouched o m ks2 k
later_told None n m ks ks2 k is h = tt
later_told (Some t) n m ks ks2 k is h = record {
  within = let a = h.within in omega (arith, is, a);
  there = λ e. absurd (let a = h.within in omega (arith, is, a, e));
}

pub all_told : {S T : Type 0} (totals totals2 : IndexMap (Vec Datum S) Totals T) (n : ℕ) (ks ks2 : List (List Datum)) (k : List Datum) →
    ((q : List Datum) → same_cells k q ≡ false → totals_of totals2 q ≡ totals_of totals q) → Touches ks ks2 k → TellTouched (totals_of totals2 k) n ks2 k →
    ((q : List Datum) → TellTouched (totals_of totals q) n ks q) → (q : List Datum) → TellTouched (totals_of totals2 q) n ks2 q
all_told totals totals2 n ks ks2 k others more own h q = pick (same_cells k q) refl
  where
    pick : (b : Bool) → same_cells k q ≡ b → TellTouched (totals_of totals2 q) n ks2 q
    pick true e = subst (λ x. TellTouched (totals_of totals2 x) n ks2 x) (cells_are_same k q e) own
    pick false e = subst (λ o. TellTouched o n ks2 q) (sym (others q e)) (still_told (totals_of totals q) n ks ks2 k q more (h q))

-- one edge more
pub edge_more : (key : List Datum → List Datum) (q : List Datum) (es : List Edge) (x : Edge) →
    list_any (same_cells q) (keys_of key (es ++ (x ∷ []))) ≡ (list_any (same_cells q) (keys_of key es) || same_cells q (key x.cells))
edge_more key q [] x = or_none (same_cells q (key x.cells))
edge_more key q (y ∷ es) x =
    ap (λ b. same_cells q (key y.cells) || b) (edge_more key q es x) ∙ or_shift (same_cells q (key y.cells)) (list_any (same_cells q) (keys_of key es)) (same_cells q (key x.cells))

pub touched_more : (key key2 : List ℕ) (now : List Edge) (i : ℕ) (x : Edge) (ks ks2 : List (List Datum)) → i < length now → x ≡ get_or now i x → key2 ≡ key →
    ((q : List Datum) → list_any (same_cells q) ks2 ≡ (list_any (same_cells q) ks || same_cells q (key_data key2 x.cells))) →
    ((q : List Datum) → list_any (same_cells q) ks ≡ list_any (same_cells q) (keys_of (key_data key) (take i now))) →
    (q : List Datum) → list_any (same_cells q) ks2 ≡ list_any (same_cells q) (keys_of (key_data key) (take (i + 1) now))
touched_more key key2 now i x ks ks2 low is own step h q =
    step q ∙ ap (λ l. list_any (same_cells q) ks || same_cells q (key_data l x.cells)) own
    ∙ ap (λ b. b || same_cells q (key_data key x.cells)) (h q) ∙ sym (edge_more (key_data key) q (take i now) x)
    ∙ ap (λ l. list_any (same_cells q) (keys_of (key_data key) l)) (ap (λ y. take i now ++ (y ∷ [])) is ∙ sym (take_more now i x low))

-- what holds of the keys so far
pub fine_keys : (test : List Datum → Bool) (ks : List (List Datum)) (i : ℕ) (k : List Datum) → i < length ks → k ≡ get_or ks i k → test k ≡ false →
    ((q : List Datum) → list_any (same_cells q) (take i ks) ≡ true → test q ≡ false) →
    (q : List Datum) → list_any (same_cells q) (take (i + 1) ks) ≡ true → test q ≡ false
fine_keys test ks i k low is good h q some =
    at (same_cells q k) refl (ap (λ x. list_any (same_cells q) (take i ks) || same_cells q x) is ∙ sym (list_any_more (same_cells q) ks i k low) ∙ some)
  where
    at : (b : Bool) → same_cells q k ≡ b → (list_any (same_cells q) (take i ks) || b) ≡ true → test q ≡ false
    at true e s = ap test (cells_are_same q k e) ∙ good
    at false e s = h q (sym (or_none (list_any (same_cells q) (take i ks))) ∙ s)

-- the same of equal lists and equal key columns
pub same_keys : (ks ts : List (List Datum)) (key key2 : List ℕ) (now : List Edge) → ks ≡ ts → key2 ≡ key →
    ((q : List Datum) → list_any (same_cells q) ts ≡ list_any (same_cells q) (keys_of (key_data key) now)) →
    (q : List Datum) → list_any (same_cells q) ks ≡ list_any (same_cells q) (keys_of (key_data key2) now)
same_keys ks ts key key2 now is own h q =
    ap (list_any (same_cells q)) is ∙ h q ∙ ap (λ l. list_any (same_cells q) (keys_of (key_data l) now)) (sym own)

-- keys as edges
pub few_edges : (ks : List (List Datum)) → length (map edge_of_key ks) ≡ length ks
few_edges [] = refl
few_edges (k ∷ ks) = let h = few_edges ks in omega (arith, h)

pub edge_at : (ks : List (List Datum)) (i : ℕ) (k : List Datum) → k ≡ get_or ks i k → edge_of_key k ≡ get_or (map edge_of_key ks) i (edge_of_key k)
edge_at [] i k is = refl
edge_at (y ∷ ks) zero k is = ap edge_of_key is
edge_at (y ∷ ks) (suc i) k is = edge_at ks i k is

keys_are : (ks : List (List Datum)) → keys_of (λ k. k) (map edge_of_key ks) ≡ ks
keys_are [] = refl
keys_are (k ∷ ks) = ap (λ l. k ∷ l) (keys_are ks)

-- a pass over the keys of edges is one over the edges
pub pass_over : (key : List Datum → List Datum) (step : List Datum → Option Run → Option Run) (part : List Datum → Option Run → List Edge)
    (now : List Edge) (ks : List (List Datum)) (run0 run1 : List Datum → Option Run) (before after : List Edge) →
    ((q : List Datum) → list_any (same_cells q) ks ≡ list_any (same_cells q) (keys_of key now)) →
    PassTold (λ k. k) same_cells step part (map edge_of_key ks) run0 run1 before after → PassTold key same_cells step part now run0 run1 before after
pass_over key step part now ks run0 run1 before after same h = record {
  others = λ k e. h.others k (all k ∙ e);
  touched = λ k e. h.touched k (all k ∙ e);
  weigh = λ w qs within. h.weigh w qs (λ k e. within k (sym (all k) ∙ e));
}
  where
    all : (q : List Datum) → list_any (same_cells q) (keys_of (λ k. k) (map edge_of_key ks)) ≡ list_any (same_cells q) (keys_of key now)
    all q = ap (list_any (same_cells q)) (keys_are ks) ∙ same q

pub ends_over : (key : List ℕ) (t : ℕ) (now : List Edge) (ks : List (List Datum)) (o : List Datum → Option (List Datum)) (run0 run1 : List Datum → Option Run) (before after : List Edge) →
    ((q : List Datum) → list_any (same_cells q) ks ≡ list_any (same_cells q) (keys_of (key_data key) now)) →
    EndsOfKeys t ks o run0 run1 before after → EndsTold (key_data key) same_cells t now o run0 run1 before after
ends_over key t now ks o run0 run1 before after same h = pass_over (key_data key) (λ k x. kept (o k) x) (λ k x. end_part t (o k) x) now ks run0 run1 before after same h

pub starts_over : (key : List ℕ) (t : ℕ) (now : List Edge) (ks : List (List Datum)) (o : List Datum → Option (List Datum)) (run0 run1 : List Datum → Option Run) (before after : List Edge) →
    ((q : List Datum) → list_any (same_cells q) ks ≡ list_any (same_cells q) (keys_of (key_data key) now)) →
    StartsOfKeys t ks o run0 run1 before after → StartsTold (key_data key) same_cells t now o run0 run1 before after
starts_over key t now ks o run0 run1 before after same h = pass_over (key_data key) (λ k x. begun_at t (o k) x) (λ k x. start_part t (o k) x) now ks run0 run1 before after same h

-- the row that a list has of a key
pub row_here : {X : Type 0} (ks : List (List Datum)) (rows : List X) (row : List Datum → X) (i : ℕ) (k : List Datum) (x : X) → i < length ks → k ≡ get_or ks i k → x ≡ get_or rows i x → rows ≡ map row ks → x ≡ row k
row_here ks rows row i k x low key is same = is ∙ ap (λ l. get_or l i x) same ∙ get_or-map row ks i k x low ∙ ap row (sym key)
