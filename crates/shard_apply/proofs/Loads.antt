-- Operators that take up what was saved, side by side.
use Rattle.std.specs.Prelude.{◌≡◌, ℕ, zero, suc, ◌+◌, ◌<◌, ◌≤◌, ◌⊎◌, ◌∷◌, ◌++◌, Bool, false, Option, List, [], map, length, Result, Ok, Err, is_err, OnOk, All, refl}
use Rattle.std.proofs.Common.{◌∙◌, sym, ap, subst, arith, get_or, set, inl, inr}
use Rattle.std.proofs.lemmas.Bool.{cases_lt}
use Rattle.std.specs.List.{range_with_len}
use Rattle.std.proofs.lemmas.List.{get_or-map, length-map, get_or-set_same, get_or-set_other}
use Rattle.tw_rows.specs.Bag.{SameBag}
use Rattle.key_nodes.specs.Shards.{over_shards}
use Rattle.edge_history.specs.Order.{failing, is_below}
use Rattle.edge_stream.specs.Shards.{edges_in_shard}
use Rattle.edge_stream.specs.declared.saved.PartRow.{PartRow}
use Rattle.edge_stream.specs.declared.saved.SavedEntry.{SavedEntry}
use Rattle.plan_laws.specs.Shards.{is_keyed, left_key_of, right_key_of}
use Rattle.edge_stream.specs.Standing.{Standing, Keeping, IsLike, Implies, closing}
use Rattle.shard_apply.specs.Whole.{side_by_side, first_of, standing_in, AreInStep, ShardsKeep}
use Rattle.shard_apply.specs.Saving.{AreRowsOf, AreSound, AreOwn, ShardsResume, HasLoaded}
use Rattle.shard_apply.proofs.Saves.{of_operators}
use Rattle.shard_apply.proofs.WholeSteps.{standing_is, stands_as, all_as, first_as}

pub on_ok_with : {A E P Q : Type 0} (r : Result A E) → OnOk r P → (is_err r ≡ false → P → Q) → OnOk r Q
on_ok_with (Ok a) p f = f refl p
on_ok_with (Err e) p f = tt

module _ {O S : Type 0} (standing : O → Standing) (keeps : O → Keeping) (resumes : O → List SavedEntry → ℕ → ℕ → Keeping)
    (sound : O → List SavedEntry → ℕ → ℕ → Type 0) (row_of_part : ℕ → Option PartRow) (operator : S → O) (before after : List S)
    (saved : List (List SavedEntry)) (left_key right_key : List ℕ) (x y : ℕ)
    (in_step : AreInStep (map standing (map operator before)) left_key right_key) (long : length after ≡ length before)
    (like : (i : ℕ) (d : S) → i < length before → IsLike (standing (operator (get_or before i d))) (standing (operator (get_or after i d)))) (s : S) where
  abbrev os : List O
  os = map operator before

  abbrev ns : List O
  ns = map operator after

  abbrev f : Standing
  f = first_of (map standing os)

  abbrev g : Standing
  g = record f { left_closed = x; right_closed = y }

  many : length os ≡ length before
  many = length-map before operator

  many_now : length ns ≡ length before
  many_now = length-map after operator ∙ long

  some : 1 ≤ length before
  some = omega (arith, in_step.some, length-map os standing, many)

  stood : (i : ℕ) (d : S) → i < length before → standing (operator (get_or before i d)) ≡ f
  stood i d low =
      ap standing (sym (get_or-map operator before i d (operator d) low)) ∙ stands_as standing os f in_step.alike i (operator d) (omega (arith, low, many))

  pub like_together : (failed failed_now : Bool) → IsLike (standing_in standing (side_by_side os left_key right_key failed)) (standing_in standing (side_by_side ns left_key right_key failed_now))
  like_together failed failed_now =
      let l = like 0 s some in
      let o = stood 0 s some in
      let e = first_as standing ns (operator s) (omega (arith, some, many_now)) ∙ ap standing (get_or-map operator after 0 s (operator s) (omega (arith, some, long))) in
      record {
        node = ap (λ z. z.node) e ∙ l.node ∙ ap (λ z. z.node) o;
        left_kinds = ap (λ z. z.left_kinds) e ∙ l.left_kinds ∙ ap (λ z. z.left_kinds) o;
        right_kinds = ap (λ z. z.right_kinds) e ∙ l.right_kinds ∙ ap (λ z. z.right_kinds) o;
        own_kinds = ap (λ z. z.own_kinds) e ∙ l.own_kinds ∙ ap (λ z. z.own_kinds) o;
        batch_rows = ap (λ z. z.batch_rows) e ∙ l.batch_rows ∙ ap (λ z. z.batch_rows) o;
      }

  module _ (loaded : (i : ℕ) (d : S) (e : List SavedEntry) → i < length before →
      HasLoaded (resumes (operator (get_or before i d)) (get_or saved i e) x y) (keeps (operator (get_or after i d))) (sound (operator (get_or before i d)) (get_or saved i e) x y)
      (AreRowsOf row_of_part (length before) left_key right_key (range_with_len 0 (length left_key)) i (get_or saved i e)) (standing (operator (get_or after i d))) x y) where
    stands_now : (i : ℕ) (d : O) → i < length ns → standing (get_or ns i d) ≡ g
    stands_now i d low_ns =
        let low : i < length before = omega (arith, low_ns, many_now) in
        let h = loaded i s [] low in
        let o = stood i s low in
        let moved : Standing → Standing = λ z. record z { left_closed = x; right_closed = y } in
        ap standing (get_or-map operator after i s d (omega (arith, low, long)))
        ∙ standing_is (standing (operator (get_or before i s))) (standing (operator (get_or after i s))) x y (like i s low) h.left_to h.right_to
        (h.works ∙ sym (ap (λ z. z.has_failed) o ∙ in_step.works))
        ∙ ap moved o

    pub first_loaded : first_of (map standing ns) ≡ g
    first_loaded = first_as standing ns (operator s) (omega (arith, some, many_now)) ∙ stands_now 0 (operator s) (omega (arith, some, many_now))

    pub in_step_loaded : AreInStep (map standing ns) left_key right_key
    in_step_loaded = record {
      some = omega (arith, some, many_now, length-map ns standing);
      alike = all_as standing ns (first_of (map standing ns)) (λ i d low. stands_now i d low ∙ sym first_loaded) (operator s);
      works = ap (λ z. z.has_failed) first_loaded ∙ in_step.works;
      keyed = ap (λ z. is_keyed z.node) first_loaded ∙ in_step.keyed;
      left_key_is = in_step.left_key_is ∙ ap (λ z. left_key_of z.node) (sym first_loaded);
      right_key_is = in_step.right_key_is ∙ ap (λ z. right_key_of z.node) (sym first_loaded);
      left_columns = subst (λ z. All (λ column. column < length z.left_kinds) left_key) (sym first_loaded) in_step.left_columns;
      right_columns = subst (λ z. All (λ column. column < length z.right_kinds) right_key) (sym first_loaded) in_step.right_columns;
    }

    pub keeps_loaded : (failed : Bool) → Implies (ShardsResume standing resumes (side_by_side os left_key right_key failed) saved x y)
        (ShardsKeep standing keeps (side_by_side ns left_key right_key false))
    keeps_loaded failed texts hl hr out k = record {
      works = refl;
      in_step = in_step_loaded;
      left_history = k.left_history;
      right_history = k.right_history;
      left_placed = k.left_placed;
      right_placed = k.right_placed;
      outs = k.outs;
      shards = λ i d low_ns. shard_keeps i d (omega (arith, low_ns, many_now)) low_ns;
      below = λ i low_ns. subst (λ z. failing (is_below (closing z)) (k.outs i) ≡ 0) (sym first_loaded) (k.below i (omega (arith, low_ns, many_now, many)));
      order = k.order;
      same = subst (λ m. SameBag out (over_shards k.outs m)) (many ∙ sym many_now) k.same;
    }
      where
        shard_keeps : (i : ℕ) (d : O) → i < length before → i < length ns → keeps (get_or ns i d) texts
            (edges_in_shard (length ns) left_key i hl) (edges_in_shard (length ns) right_key i hr) (k.outs i)
        shard_keeps i d low low_ns =
            let was = k.shards i (operator s) [] (omega (arith, low, many)) in
            let at : resumes (operator (get_or before i s)) (get_or saved i []) x y texts (edges_in_shard (length os) left_key i hl) (edges_in_shard (length os) right_key i hr) (k.outs i) =
            subst (λ o. resumes o (get_or saved i []) x y texts (edges_in_shard (length os) left_key i hl) (edges_in_shard (length os) right_key i hr) (k.outs i))
            (get_or-map operator before i s (operator s) low) was in
            let now = (loaded i s [] low).resumed texts _ _ (k.outs i) at in
            subst (λ m. keeps (get_or ns i d) texts (edges_in_shard m left_key i hl) (edges_in_shard m right_key i hr) (k.outs i)) (many ∙ sym many_now)
            (subst (λ o. keeps o texts (edges_in_shard (length os) left_key i hl) (edges_in_shard (length os) right_key i hr) (k.outs i))
            (sym (get_or-map operator after i s d (omega (arith, low, long)))) now)

    pub sound_loaded : (failed : Bool) → AreSound sound (side_by_side os left_key right_key failed) saved x y
    sound_loaded failed = of_operators operator (λ o e. sound o e x y) before saved s (λ i d e low. (loaded i d e low).is_sound)

    pub own_loaded : (failed : Bool) → AreOwn row_of_part (side_by_side os left_key right_key failed) saved
    own_loaded failed i e low =
        subst (λ m. AreRowsOf row_of_part m left_key right_key (range_with_len 0 (length left_key)) i (get_or saved i e)) (sym many) (loaded i s e (omega (arith, low, many))).is_own

-- an item of a list of which one is replaced
pub at_set : {S : Type 0} (P : S → Type 0) (now : List S) (k : ℕ) (x : S) (i : ℕ) (d : S) → k < length now → (i ≡ k → P x) → ((i ≡ k → ⊥) → P (get_or now i d)) → P (get_or (set now k x) i d)
at_set P now k x i d low same other = less (cases_lt i k)
  where
    apart : (i ≡ k → ⊥) → P (get_or (set now k x) i d)
    apart differs = subst P (sym (get_or-set_other now k i x d differs)) (other differs)

    more : (k < i) ⊎ (i ≤ k) → (k ≤ i) → P (get_or (set now k x) i d)
    more (inl high) le = apart (λ e. absurd (omega (arith, high, e)))
    more (inr high) le =
        let is : i ≡ k = omega (arith, high, le) in
        subst P (sym (ap (λ j. get_or (set now k x) j d) is ∙ get_or-set_same now k x d low)) (same is)

    less : (i < k) ⊎ (k ≤ i) → P (get_or (set now k x) i d)
    less (inl low_i) = apart (λ e. absurd (omega (arith, low_i, e)))
    less (inr high) = more (cases_lt k i) high

pub range_snoc : (a n : ℕ) → range_with_len a n ++ (a + n) ∷ [] ≡ range_with_len a (n + 1)
range_snoc a zero = ap (λ m. m ∷ []) (omega arith)
range_snoc a (suc n) =
    let here : a + suc n ≡ (a + 1) + n = omega arith in
    let next : suc (n + 1) ≡ suc n + 1 = omega arith in
    ap (λ l. a ∷ l) (ap (λ m. range_with_len (a + 1) n ++ m ∷ []) here ∙ range_snoc (a + 1) n) ∙ ap (range_with_len a) next

pub below_other : (k i : ℕ) → k < i + 1 → (k ≡ i → ⊥) → k < i
below_other k i less differs = by_case (cases_lt k i)
  where
    by_case : (k < i) ⊎ (i ≤ k) → k < i
    by_case (inl low) = low
    by_case (inr high) = absurd (differs (omega (arith, high, less)))

pub on_ok_there : {A E P : Type 0} (r : Result A E) → OnOk r P → is_err r ≡ false → P
on_ok_there (Ok a) p is = p
on_ok_there (Err e) p is = absurd (cc)

-- a fact of three things, where they are named otherwise
pub named : {A B C : Type 0} (T : A → B → C → Type 0) (a a' : A) (b b' : B) (c c' : C) → a ≡ a' → b ≡ b' → c ≡ c' → T a b c → T a' b' c'
named T a a' b b' c c' p q r h = subst (λ x. T x b' c') p (subst (λ y. T a y c') q (subst (λ z. T a b z) r h))

abbrev pub LoadedAll : {O S : Type 0} → (O → Standing) → (O → Keeping) → (O → List SavedEntry → ℕ → ℕ → Keeping) → (O → List SavedEntry → ℕ → ℕ → Type 0) →
    (ℕ → Option PartRow) → (S → O) → List S → List S → List (List SavedEntry) → List ℕ → List ℕ → ℕ → ℕ → Type 0
LoadedAll {O} {S} standing keeps resumes sound row_of_part operator before after saved left_key right_key x y =
    (i : ℕ) (d : S) (e : List SavedEntry) → i < length before →
    HasLoaded (resumes (operator (get_or before i d)) (get_or saved i e) x y) (keeps (operator (get_or after i d))) (sound (operator (get_or before i d)) (get_or saved i e) x y)
    (AreRowsOf row_of_part (length before) left_key right_key (range_with_len 0 (length left_key)) i (get_or saved i e)) (standing (operator (get_or after i d))) x y

-- what is refused of shards is refused of the whole
pub refused_together : {O S : Type 0} (sound : O → List SavedEntry → ℕ → ℕ → Type 0) (row_of_part : ℕ → Option PartRow) (operator : S → O) (before : List S)
    (saved : List (List SavedEntry)) (left_key right_key : List ℕ) (failed : Bool) (x y : ℕ) →
    (((i : ℕ) (d : S) (e : List SavedEntry) → i < length before → sound (operator (get_or before i d)) (get_or saved i e) x y) →
    ((i : ℕ) (e : List SavedEntry) → i < length before →
    AreRowsOf row_of_part (length before) left_key right_key (range_with_len 0 (length left_key)) i (get_or saved i e)) → ⊥) →
    AreSound sound (side_by_side (map operator before) left_key right_key failed) saved x y →
    AreOwn row_of_part (side_by_side (map operator before) left_key right_key failed) saved → ⊥
refused_together sound row_of_part operator before saved left_key right_key failed x y refuse are own =
    let many = length-map before operator in
    refuse
    (λ i d e low. subst (λ o. sound o (get_or saved i e) x y) (get_or-map operator before i d (operator d) low) (are i (operator d) e (omega (arith, low, many))))
    (λ i e low. subst (λ m. AreRowsOf row_of_part m left_key right_key (range_with_len 0 (length left_key)) i (get_or saved i e)) many (own i e (omega (arith, low, many))))
