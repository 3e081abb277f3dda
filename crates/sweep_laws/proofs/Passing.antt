-- The passes over the edges of an instant, edge by edge.
use Rattle.std.specs.Prelude.{◌≡◌, ℕ, zero, suc, ◌+◌, ◌<◌, ◌||◌, Bool, true, false, cond, Option, Some, None, List, [], ◌∷◌, ◌++◌, length, get_or, take, refl}
use Rattle.std.specs.List.{list_any}
use Rattle.std.proofs.Common.{sym, ◌∙◌, ap, subst, arith}
use Rattle.std.proofs.lemmas.Bool.{or_parts}
use Rattle.std.proofs.lemmas.List.{take_more}
use Rattle.tw_rows.specs.Bag.{total}
use Rattle.tw_rows.specs.declared.cells.Datum.{Datum}
use Rattle.tw_rows.specs.declared.edge.Edge.{Edge}
use Rattle.tw_rows.proofs.Bags.{total-append}
use Rattle.key_nodes.specs.Runs.{Tells}
use Rattle.sweep_laws.specs.Running.{Run, has_row, end_part, kept, start_part, begun_at}
use Rattle.sweep_laws.specs.Grouping.{keys_of, PassTold, EndsTold, StartsTold}
use Rattle.sweep_laws.proofs.GroupSweeps.{one_key, ended_twice, begun_twice}

kept_twice : (o : Option (List Datum)) (x : Option Run) → kept o (kept o x) ≡ kept o x
kept_twice o None = refl
kept_twice o (Some x) = pick (has_row o x.row) refl
  where
    pick : (b : Bool) → has_row o x.row ≡ b → kept o (cond b (Some x) None) ≡ cond b (Some x) None
    pick true e = rw e refl
    pick false e = refl

begun_again : (t : ℕ) (o : Option (List Datum)) (x : Option Run) → begun_at t o (begun_at t o x) ≡ begun_at t o x
begun_again t o (Some x) = refl
begun_again t None None = refl
begun_again t (Some r) None = refl

module _ {K : Type 0} (key : List Datum → K) (same : K → K → Bool) (decides : Tells same) where
  any_one_more : (k : K) (xs : List Edge) (x : Edge) → list_any (same k) (keys_of key (xs ++ (x ∷ []))) ≡ (list_any (same k) (keys_of key xs) || same k (key x.cells))
  any_one_more k [] x = pick (same k (key x.cells))
    where
      pick : (b : Bool) → (b || false) ≡ (false || b)
      pick true = refl
      pick false = refl
  any_one_more k (y ∷ xs) x =
      ap (λ b. same k (key y.cells) || b) (any_one_more k xs x) ∙ shift (same k (key y.cells)) (list_any (same k) (keys_of key xs)) (same k (key x.cells))
    where
      shift : (a b c : Bool) → (a || (b || c)) ≡ ((a || b) || c)
      shift true b c = refl
      shift false b c = refl

  sym_key : (a b : K) (v : Bool) → same a b ≡ v → same b a ≡ v
  sym_key a b true h = (decides b a).1 (sym ((decides a b).0 h))
  sym_key a b false h = pick (same b a) refl
    where
      pick : (v : Bool) → same b a ≡ v → v ≡ false
      pick true e = let z = (decides a b).1 (sym ((decides b a).0 e)) in absurd (cc)
      pick false e = refl

  true_or : (a b : Bool) → (a || b) ≡ true → a ≡ false → b ≡ true
  true_or true b h n = absurd (cc)
  true_or false b h n = h

  -- one more key is told
  module _ (step : K → Option Run → Option Run) (twice : (k : K) (x : Option Run) → step k (step k x) ≡ step k x)
      (part : K → Option Run → List Edge) (none : (k : K) (x : Option Run) → part k (step k x) ≡ []) where
    pub told_more : (xs : List Edge) (x : Edge) (run0 run1 run2 : K → Option Run) (answer0 answer1 answer2 : List Edge) →
        answer2 ≡ answer1 ++ part (key x.cells) (run1 (key x.cells)) →
        ((k : K) → run2 k ≡ cond (same (key x.cells) k) (step (key x.cells) (run1 (key x.cells))) (run1 k)) →
        PassTold key same step part xs run0 run1 answer0 answer1 → PassTold key same step part (xs ++ (x ∷ [])) run0 run2 answer0 answer2
    told_more xs x run0 run1 run2 answer0 answer1 answer2 pushed moved h = record {
      others = λ k e.
          let p = or_parts (list_any (same k) (keys_of key xs)) (same k q) (sym (any_one_more k xs x) ∙ e) in
          moved k ∙ ap (λ b. cond b (step q (run1 q)) (run1 k)) (sym_key k q false p.1) ∙ h.others k p.0;
      touched = λ k e. at k (same k q) refl (sym (any_one_more k xs x) ∙ e);
      weigh = λ w ks within.
          let a = h.weigh w ks (λ k e. within k (any_one_more k xs x ∙ ap (λ b. b || same k q) e)) in
          let there : list_any (same q) ks ≡ true = within q (any_one_more q xs x ∙ last (list_any (same q) (keys_of key xs)) (same q q) ((decides q q).1 refl)) in
          let b = one_key same decides (λ k. total w (part k (run1 k))) (λ k. total w (part k (run2 k))) q ks there
          (λ k e. ap (λ y. total w (part k y)) (moved k ∙ ap (λ b. cond b (step q (run1 q)) (run1 k)) e)) in
          let z : total w (part q (run2 q)) ≡ 0 = ap (λ y. total w (part q y)) (moved q ∙ ap (λ b. cond b (step q (run1 q)) (run1 q)) ((decides q q).1 refl)) ∙ ap (total w) (none q (run1 q)) in
          let p = ap (total w) pushed ∙ total-append w answer1 (part q (run1 q)) in
          omega (arith, a, b, z, p);
    }
      where
        q : K
        q = key x.cells

        last : (a b : Bool) → b ≡ true → (a || b) ≡ true
        last true b e = refl
        last false b e = e

        before : (k : K) (b : Bool) → list_any (same k) (keys_of key xs) ≡ b → step k (run1 k) ≡ step k (run0 k)
        before k true e = ap (step k) (h.touched k e) ∙ twice k (run0 k)
        before k false e = ap (step k) (h.others k e)

        at : (k : K) (b : Bool) → same k q ≡ b → (list_any (same k) (keys_of key xs) || b) ≡ true → run2 k ≡ step k (run0 k)
        at k true e some =
            let i : k ≡ q = (decides k q).0 e in
            moved k ∙ ap (λ b. cond b (step q (run1 q)) (run1 k)) (sym_key k q true e) ∙ ap (λ j. step j (run1 j)) (sym i) ∙ before k (list_any (same k) (keys_of key xs)) refl
        at k false e some =
            moved k ∙ ap (λ b. cond b (step q (run1 q)) (run1 k)) (sym_key k q false e)
            ∙ h.touched k (flip (list_any (same k) (keys_of key xs)) some)
          where
            flip : (a : Bool) → (a || false) ≡ true → a ≡ true
            flip true e = refl
            flip false e = e

  pub ends_more : (t : ℕ) (now : List Edge) (i : ℕ) (x : Edge) (o : K → Option (List Datum)) (run0 run1 run2 : K → Option Run) (answer0 answer1 answer2 : List Edge) →
      i < length now → x ≡ get_or now i x → answer2 ≡ answer1 ++ end_part t (o (key x.cells)) (run1 (key x.cells)) →
      ((k : K) → run2 k ≡ cond (same (key x.cells) k) (kept (o (key x.cells)) (run1 (key x.cells))) (run1 k)) →
      EndsTold key same t (take i now) o run0 run1 answer0 answer1 → EndsTold key same t (take (i + 1) now) o run0 run2 answer0 answer2
  ends_more t now i x o run0 run1 run2 answer0 answer1 answer2 low is pushed moved h =
      subst (λ l. EndsTold key same t l o run0 run2 answer0 answer2) (ap (λ y. take i now ++ (y ∷ [])) is ∙ sym (take_more now i x low))
      (told_more (λ k y. kept (o k) y) (λ k y. kept_twice (o k) y) (λ k y. end_part t (o k) y) (λ k y. ended_twice t (o k) y)
      (take i now) x run0 run1 run2 answer0 answer1 answer2 pushed moved h)

  pub starts_more : (t : ℕ) (now : List Edge) (i : ℕ) (x : Edge) (o : K → Option (List Datum)) (run0 run1 run2 : K → Option Run) (answer0 answer1 answer2 : List Edge) →
      i < length now → x ≡ get_or now i x → answer2 ≡ answer1 ++ start_part t (o (key x.cells)) (run1 (key x.cells)) →
      ((k : K) → run2 k ≡ cond (same (key x.cells) k) (begun_at t (o (key x.cells)) (run1 (key x.cells))) (run1 k)) →
      StartsTold key same t (take i now) o run0 run1 answer0 answer1 → StartsTold key same t (take (i + 1) now) o run0 run2 answer0 answer2
  starts_more t now i x o run0 run1 run2 answer0 answer1 answer2 low is pushed moved h =
      subst (λ l. StartsTold key same t l o run0 run2 answer0 answer2) (ap (λ y. take i now ++ (y ∷ [])) is ∙ sym (take_more now i x low))
      (told_more (λ k y. begun_at t (o k) y) (λ k y. begun_again t (o k) y) (λ k y. start_part t (o k) y) (λ k y. begun_twice t (o k) y)
      (take i now) x run0 run1 run2 answer0 answer1 answer2 pushed moved h)

  -- the key of an edge is there, and what holds of the keys so far
  pub key_of_edge : (now : List Edge) (i : ℕ) (x : Edge) → i < length now → x ≡ get_or now i x → list_any (same (key x.cells)) (keys_of key now) ≡ true
  key_of_edge [] i x low is = absurd (omega arith)
  key_of_edge (y ∷ now) zero x low is = ap (λ e. same (key x.cells) (key e.cells) || list_any (same (key x.cells)) (keys_of key now)) (sym is) ∙ ap (λ b. b || list_any (same (key x.cells)) (keys_of key now)) ((decides (key x.cells) (key x.cells)).1 refl)
  key_of_edge (y ∷ now) (suc i) x low is = or_last (same (key x.cells) (key y.cells)) (list_any (same (key x.cells)) (keys_of key now)) (key_of_edge now i x (omega arith) is)
    where
      or_last : (a b : Bool) → b ≡ true → (a || b) ≡ true
      or_last true b e = refl
      or_last false b e = e

  pub fine_more : (bad : K → Bool) (now : List Edge) (i : ℕ) (x : Edge) → i < length now → x ≡ get_or now i x → bad (key x.cells) ≡ false →
      ((k : K) → list_any (same k) (keys_of key (take i now)) ≡ true → bad k ≡ false) →
      (k : K) → list_any (same k) (keys_of key (take (i + 1) now)) ≡ true → bad k ≡ false
  fine_more bad now i x low is good h k some =
      at (same k (key x.cells)) refl
      (sym (any_one_more k (take i now) x) ∙ (ap (λ l. list_any (same k) (keys_of key l)) (ap (λ y. take i now ++ (y ∷ [])) is ∙ sym (take_more now i x low)) ∙ some))
    where
      at : (b : Bool) → same k (key x.cells) ≡ b → (list_any (same k) (keys_of key (take i now)) || b) ≡ true → bad k ≡ false
      at true e s = ap bad ((decides k (key x.cells)).0 e) ∙ good
      at false e s = h k (flip (list_any (same k) (keys_of key (take i now))) s)
        where
          flip : (a : Bool) → (a || false) ≡ true → a ≡ true
          flip true e = refl
          flip false e = e

-- of no key nothing is told
pub told_nothing : {K : Type 0} (key : List Datum → K) (same : K → K → Bool) (step : K → Option Run → Option Run) (part : K → Option Run → List Edge)
    (run : K → Option Run) (answer : List Edge) → PassTold key same step part [] run run answer answer
told_nothing key same step part run answer = record { others = λ k e. refl; touched = λ k e. absurd (cc); weigh = λ w ks h. refl }
