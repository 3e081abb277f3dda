-- A step over all events, by shards.
use Rattle.std.specs.Prelude.{◌≡◌, ℕ, zero, suc, ◌+◌, ◌<◌, nat_eq, nat_lt, Bool, true, false, cond, ◌&&◌, ◌||◌, not, IsTrue, Option, Some, None, List, [], ◌∷◌, map, flat_map, filter, refl}
use Rattle.std.specs.List.{list_any}
use Rattle.std.proofs.Common.{sym, ◌∙◌, ap, arith}
use Rattle.std.proofs.lemmas.Bool.Decides.{nat_tests}
use Rattle.std.proofs.lemmas.Bool.{lt-ltb, eqb-true, eq-eqb, and_parts, false_from_ne_true, or_right}
use Rattle.tw_rows.specs.Instant.{inf}
use Rattle.tw_rows.specs.Bag.{total, SameBag}
use Rattle.tw_rows.specs.Event.{Event, lives_at, alive}
use Rattle.tw_rows.proofs.Bags.{total-append, total-map, total-filter, total-flat_map, total_same, total_zero, total-add}
use Rattle.tw_rows.proofs.Lives.{total-alive}
use Rattle.key_nodes.specs.Runs.{Tells, runs}
use Rattle.key_nodes.specs.Groups.{distinct, has_key, IsGroupRow, grouped}
use Rattle.key_nodes.specs.Antis.{alone_at, alone}
use Rattle.key_nodes.specs.Joins.{joined_one, joined}
use Rattle.key_nodes.specs.Sessions.{least, session_end, session, sessions}
use Rattle.key_nodes.specs.Clips.{clip, clipped}
use Rattle.key_nodes.specs.Shards.{of_shard, over_shards}
use Rattle.key_nodes.proofs.Bags.{any_by_weight, any_map, sum_distinct}
use Rattle.key_nodes.proofs.Lives.{any_alive}
use Rattle.key_nodes.proofs.RunSteps.{runs_same, runs_none}
use Rattle.key_nodes.proofs.Grouping.{none_told}

-- a sum over the shards
pub sum_below : (ℕ → ℕ) → ℕ → ℕ
sum_below f zero = 0
sum_below f (suc n) = sum_below f n + f n

pub total-over_shards : {X : Type 0} (w : X → ℕ) (f : ℕ → List X) (n : ℕ) →
    total w (over_shards f n) ≡ sum_below (λ s. total w (f s)) n
unfolding sum_below
total-over_shards w f zero = refl
total-over_shards w f (suc n) =
    total-append w (over_shards f n) (f n) ∙ ap (λ k. k + total w (f n)) (total-over_shards w f n)

-- each item is of one shard
one_shard : (m k n : ℕ) → sum_below (λ s. cond (nat_eq k s) m 0) n ≡ cond (nat_lt k n) m 0
unfolding sum_below
one_shard m k zero = none k m
  where
    none : (k m : ℕ) → 0 ≡ cond (nat_lt k 0) m 0
    none k m = grind (arith, nat_tests)
one_shard m k (suc n) = ap (λ x. x + cond (nat_eq k n) m 0) (one_shard m k n) ∙ more k n m
  where
    more : (k n m : ℕ) → cond (nat_lt k n) m 0 + cond (nat_eq k n) m 0 ≡ cond (nat_lt k (suc n)) m 0
    more k n m = grind (arith, nat_tests)

sum_total : {X : Type 0} (f : ℕ → X → ℕ) (xs : List X) (n : ℕ) →
    sum_below (λ s. total (f s) xs) n ≡ total (λ x. sum_below (λ s. f s x) n) xs
unfolding sum_below
sum_total f xs zero = sym (total_zero xs)
sum_total f xs (suc n) =
    ap (λ k. k + total (f n) xs) (sum_total f xs n) ∙ sym (total-add (λ x. sum_below (λ s. f s x) n) (f n) xs)

pub sum_same : (f g : ℕ → ℕ) (n : ℕ) → ((s : ℕ) → f s ≡ g s) → sum_below f n ≡ sum_below g n
unfolding sum_below
sum_same f g zero h = refl
sum_same f g (suc n) h = let a = sum_same f g n h in let b = h n in omega (arith, a, b)

pub split_sum : {X : Type 0} (shard : X → ℕ) (n : ℕ) → ((x : X) → shard x < n) → (g : X → ℕ) (xs : List X) →
    total g xs ≡ sum_below (λ s. total (λ x. cond (nat_eq (shard x) s) (g x) 0) xs) n
split_sum shard n low g xs =
    sym (sum_total (λ s x. cond (nat_eq (shard x) s) (g x) 0) xs n
    ∙ total_same _ g xs (λ x. one_shard (g x) (shard x) n ∙ ap (λ b. cond b (g x) 0) (lt-ltb (shard x) n (low x))))

pub cond_swap : (b : Bool) (n m : ℕ) → (b ≡ true → n ≡ m) → cond b n 0 ≡ cond b m 0
cond_swap true n m h = h refl
cond_swap false n m h = refl

-- where each event's part in its own shard weighs as much as its part in the whole, the whole is that of all shards together
pub by_event : {L S : Type 0} (shard : L → ℕ) (n : ℕ) → ((l : L) → shard l < n) →
    (whole : Event L → List S) (part : ℕ → Event L → List S) →
    ((w : S → ℕ) (e : Event L) (s : ℕ) → shard e.row ≡ s → total w (part s e) ≡ total w (whole e)) →
    (ls : List (Event L)) →
    SameBag (flat_map whole ls) (over_shards (λ s. flat_map (part s) (of_shard shard s ls)) n)
by_event shard n low whole part same ls = record {
  weigh = λ w.
      total-flat_map w whole ls
      ∙ (split_sum (λ e. shard e.row) n (λ e. low e.row) (λ e. total w (whole e)) ls
      ∙ (sum_same _ _ n (λ s.
      sym (total-flat_map w (part s) (of_shard shard s ls)
      ∙ (total-filter (λ e. total w (part s e)) (λ e. nat_eq (shard e.row) s) ls
      ∙ total_same _ _ ls
      (λ e. cond_swap (nat_eq (shard e.row) s) (total w (part s e)) (total w (whole e))
      (λ t. same w e s (eqb-true (shard e.row) s t))))))
      ∙ sym (total-over_shards w (λ s. flat_map (part s) (of_shard shard s ls)) n)));
}

pub by_event_map : {L S : Type 0} (shard : L → ℕ) (n : ℕ) → ((l : L) → shard l < n) →
    (whole : Event L → S) (part : ℕ → Event L → S) →
    ((e : Event L) (s : ℕ) → shard e.row ≡ s → part s e ≡ whole e) → (ls : List (Event L)) →
    SameBag (map whole ls) (over_shards (λ s. map (part s) (of_shard shard s ls)) n)
by_event_map shard n low whole part same ls = record {
  weigh = λ w.
      total-map w whole ls
      ∙ (split_sum (λ e. shard e.row) n (λ e. low e.row) (λ e. w (whole e)) ls
      ∙ (sum_same _ _ n (λ s.
      sym (total-map w (part s) (of_shard shard s ls)
      ∙ (total-filter (λ e. w (part s e)) (λ e. nat_eq (shard e.row) s) ls
      ∙ total_same _ _ ls
      (λ e. cond_swap (nat_eq (shard e.row) s) (w (part s e)) (w (whole e))
      (λ t. ap w (same e s (eqb-true (shard e.row) s t)))))))
      ∙ sym (total-over_shards w (λ s. map (part s) (of_shard shard s ls)) n)));
}

-- a filter leaves what passes both
both_step : {X : Type 0} (p : X → Bool) (x : X) (a b : Bool) (rest less : List X) → p x ≡ a → filter p rest ≡ less →
    (a ≡ true → b ≡ true) → filter p (cond b (x ∷ rest) rest) ≡ cond a (x ∷ less) less
both_step p x true true rest less e h k = rw (e) (ap (λ l. x ∷ l) h)
both_step p x false true rest less e h k = rw (e) h
both_step p x true false rest less e h k = let z = k refl in absurd (cc)
both_step p x false false rest less e h k = h

pub filter_both : {X : Type 0} (p q : X → Bool) (xs : List X) → ((x : X) → p x ≡ true → q x ≡ true) →
    filter p (filter q xs) ≡ filter p xs
filter_both p q [] h = refl
filter_both p q (x ∷ xs) h = both_step p x (p x) (q x) (filter q xs) (filter p xs) refl (filter_both p q xs h) (h x)

-- the rows of the shard that are alive and pass a test that only rows of the shard pass
alive_of_shard : {R : Type 0} (p : R → Bool) (shard : R → ℕ) (s : ℕ) (rs : List (Event R)) (t : ℕ) →
    ((r : R) → p r ≡ true → shard r ≡ s) → SameBag (filter p (alive (of_shard shard s rs) t)) (filter p (alive rs t))
alive_of_shard {R} p shard s rs t h = record {
  weigh = λ w.
      let v : R → ℕ = λ r. cond (p r) (w r) 0 in
      total-filter w p (alive (of_shard shard s rs) t)
      ∙ (total-alive v (of_shard shard s rs) t
      ∙ (total-filter (λ e. cond (lives_at t e) (v e.row) 0) (λ e. nat_eq (shard e.row) s) rs
      ∙ (total_same _ (λ e. cond (lives_at t e) (v e.row) 0) rs
      (λ e. one (nat_eq (shard e.row) s) (lives_at t e) (p e.row) (w e.row)
      (λ k. eq-eqb (shard e.row) s (h e.row k)))
      ∙ sym (total-filter w p (alive rs t) ∙ total-alive v rs t))));
}
  where
    one : (a b c : Bool) (n : ℕ) → (c ≡ true → a ≡ true) → cond a (cond b (cond c n 0) 0) 0 ≡ cond b (cond c n 0) 0
    one true b c n k = refl
    one false true true n k = let z = k refl in absurd (cc)
    one false true false n k = refl
    one false false c n k = refl

-- a filter loses no weight where what it drops weighs nothing
pub weighs_all : {X : Type 0} (v : X → ℕ) (p : X → Bool) (xs : List X) → ((x : X) → p x ≡ false → v x ≡ 0) →
    total v (filter p xs) ≡ total v xs
weighs_all v p xs h = total-filter v p xs ∙ total_same _ v xs (λ x. one (p x) (v x) (h x))
  where
    one : (b : Bool) (n : ℕ) → (b ≡ false → n ≡ 0) → cond b n 0 ≡ n
    one true n h = refl
    one false n h = sym (h refl)

any_by_filter : {X : Type 0} (p : X → Bool) (xs ys : List X) → SameBag (filter p xs) (filter p ys) →
    list_any p xs ≡ list_any p ys
any_by_filter p xs ys h =
    any_by_weight p xs
    ∙ (ap (nat_lt 0) (sym (passing xs) ∙ (h.weigh (λ x. 1) ∙ passing ys))
    ∙ sym (any_by_weight p ys))
  where
    passing : (zs : List _) → total (λ x. 1) (filter p zs) ≡ total (λ x. cond (p x) 1 0) zs
    passing zs = total-filter (λ x. 1) p zs

module _ {L R : Type 0} (meets : L → R → Bool) (left_shard : L → ℕ) (right_shard : R → ℕ) (n : ℕ)
    (agree : (l : L) (r : R) → IsTrue (meets l r) → left_shard l ≡ right_shard r)
    (low : (l : L) → left_shard l < n) where
  pub alone_shards : (same_row : L → L → Bool) (ls : List (Event L)) (rs : List (Event R)) →
      SameBag (alone same_row meets ls rs)
      (over_shards (λ s. alone same_row meets (of_shard left_shard s ls) (of_shard right_shard s rs)) n)
  alone_shards same_row ls rs =
      by_event left_shard n low (λ e. runs same_row (alone_at meets rs e) inf)
      (λ s e. runs same_row (alone_at meets (of_shard right_shard s rs) e) inf)
      (λ w e s is. ap (total w) (runs_same same_row (alone_at meets (of_shard right_shard s rs) e) (alone_at meets rs e) inf (λ t _.
      ap (λ b. cond (lives_at t e && not b) (Some e.row) None)
      (any_by_filter (meets e.row) (alive (of_shard right_shard s rs) t) (alive rs t)
      (alive_of_shard (meets e.row) right_shard s rs t (λ r k. sym (agree e.row r k) ∙ is)))))) ls

  -- a right event of another shard makes no pair with the left one
  no_pair : {P : Type 0} (pair : L → R → P) (w : Event P → ℕ) (a : Event L) (b : Event R) (s : ℕ) →
      left_shard a.row ≡ s → nat_eq (right_shard b.row) s ≡ false → (m : Bool) → meets a.row b.row ≡ m →
      total w (joined_one meets pair a b) ≡ 0
  no_pair pair w a b s is other true k =
      absurd (let x = eq-eqb (right_shard b.row) s (sym (agree a.row b.row k) ∙ is) in cc)
  no_pair pair w a b s is other false k = rw (k) refl

  pub joined_shards : {P : Type 0} (pair : L → R → P) (ls : List (Event L)) (rs : List (Event R)) →
      SameBag (joined meets pair ls rs)
      (over_shards (λ s. joined meets pair (of_shard left_shard s ls) (of_shard right_shard s rs)) n)
  joined_shards pair ls rs =
      by_event left_shard n low (λ a. flat_map (joined_one meets pair a) rs)
      (λ s a. flat_map (joined_one meets pair a) (of_shard right_shard s rs))
      (λ w a s is. total-flat_map w (joined_one meets pair a) (of_shard right_shard s rs)
      ∙ (weighs_all (λ b. total w (joined_one meets pair a b)) (λ b. nat_eq (right_shard b.row) s) rs
      (λ b other. no_pair pair w a b s is other (meets a.row b.row) refl)
      ∙ sym (total-flat_map w (joined_one meets pair a) rs))) ls

  pub clipped_shards : (ls : List (Event L)) (rs : List (Event R)) →
      SameBag (clipped meets ls rs)
      (over_shards (λ s. clipped meets (of_shard left_shard s ls) (of_shard right_shard s rs)) n)
  clipped_shards ls rs = by_event_map left_shard n low (clip meets rs) (λ s. clip meets (of_shard right_shard s rs))
      (λ e s is. ap (λ l. record { row = e.row; start = e.start; end = least e.end (map (λ r. r.start) l) })
      (filter_both (λ r. meets e.row r.row && nat_lt e.start r.start) (λ r. nat_eq (right_shard r.row) s) rs
      (λ r k. eq-eqb (right_shard r.row) s
      (sym (agree e.row r.row (and_parts (meets e.row r.row) (nat_lt e.start r.start) k).0) ∙ is)))) ls

module _ {R K : Type 0} (key : R → K) (same : K → K → Bool) (tells : Tells same) (shard : K → ℕ) (n : ℕ)
    (low : (k : K) → shard k < n) where
  pub sessions_shards : (timeout : ℕ) (es : List (Event R)) →
      SameBag (sessions key same timeout es)
      (over_shards (λ s. sessions key same timeout (of_shard (λ r. shard (key r)) s es)) n)
  sessions_shards timeout es =
      by_event_map (λ r. shard (key r)) n (λ r. low (key r)) (session key same timeout es)
      (λ s. session key same timeout (of_shard (λ r. shard (key r)) s es))
      (λ e s is. ap
      (λ l. record { row = e.row; start = e.start; end = session_end timeout (map (λ x. x.start) l) e.start })
      (filter_both (λ x. same (key e.row) (key x.row)) (λ x. nat_eq (shard (key x.row)) s) es
      (λ x k. eq-eqb (shard (key x.row)) s (sym (ap shard ((tells (key e.row) (key x.row)).0 k)) ∙ is)))) es

module _ {R K S : Type 0} (key : R → K) (same : K → K → Bool) (same_row : S → S → Bool)
    (tell : K → List R → Option S) (tells : Tells same) (is : IsGroupRow key same tell) (shard : K → ℕ) where
  abbrev part : ℕ → List (Event R) → List (Event R)
  part s es = of_shard (λ r. shard (key r)) s es

  abbrev keys : List (Event R) → List K
  keys es = map (λ e. key e.row) es

  abbrev group_runs : List (Event R) → K → List (Event S)
  group_runs es k = runs same_row (λ t. tell k (alive es t)) inf

  -- a key of another shard has no row in this one
  no_row : (k : K) (s : ℕ) (es : List (Event R)) → nat_eq (shard k) s ≡ false →
      list_any (λ e. has_key key same k e.row) (part s es) ≡ false
  no_row k s es other =
      any_by_weight (λ e. has_key key same k e.row) (part s es)
      ∙ ap (nat_lt 0)
      (total-filter (λ e. cond (same k (key e.row)) 1 0) (λ e. nat_eq (shard (key e.row)) s) es
      ∙ (total_same _ (λ e. 0) es
      (λ e. none (nat_eq (shard (key e.row)) s) (same k (key e.row))
      (λ t. sym (ap (λ j. nat_eq (shard j) s) ((tells k (key e.row)).0 t)) ∙ other))
      ∙ total_zero es))
    where
      none : (a b : Bool) → (b ≡ true → a ≡ false) → cond {A = ℕ} a (cond b 1 0) 0 ≡ 0
      none true true h = let z = h refl in absurd (cc)
      none true false h = refl
      none false b h = refl

  nothing : (k : K) (es : List (Event R)) → list_any (λ e. has_key key same k e.row) es ≡ false → group_runs es k ≡ []
  nothing k es none =
      runs_none same_row (λ t. tell k (alive es t)) inf (λ t _. none_told key same tell is k (alive es t)
      (false_from_ne_true (list_any (has_key key same k) (alive es t))
      (λ some. let z = any_alive (has_key key same k) es t some in absurd (cc))))

  in_shard : (w : Event S → ℕ) (k : K) (s : ℕ) (es : List (Event R)) (b : Bool) → nat_eq (shard k) s ≡ b →
      total w (group_runs (part s es) k) ≡ cond b (total w (group_runs es k)) 0
  in_shard w k s es true here =
      ap (total w) (runs_same same_row (λ t. tell k (alive (part s es) t)) (λ t. tell k (alive es t)) inf (λ t _.
      is.by_rows_of_key k (alive (part s es) t) (alive es t)
      (alive_of_shard (has_key key same k) (λ r. shard (key r)) s es t
      (λ r h. sym (ap shard ((tells k (key r)).0 h)) ∙ eqb-true (shard k) s here))))
  in_shard w k s es false other = ap (total w) (nothing k (part s es) (no_row k s es other))

  more_or : (a x y : Bool) → (x ≡ true → y ≡ true) → (a || x) ≡ true → (a || y) ≡ true
  more_or true x y g t = refl
  more_or false x y g t = g t

  part_step : (k : K) (e : Event R) (b : Bool) (rest es : List (Event R)) →
      (list_any (same k) (keys rest) ≡ true → list_any (same k) (keys es) ≡ true) →
      list_any (same k) (keys (cond b (e ∷ rest) rest)) ≡ true → list_any (same k) (keys (e ∷ es)) ≡ true
  part_step k e true rest es h t =
      more_or (same k (key e.row)) (list_any (same k) (keys rest)) (list_any (same k) (keys es)) h t
  part_step k e false rest es h t = or_right (same k (key e.row)) (list_any (same k) (keys es)) (h t)

  of_part : (k : K) (s : ℕ) (es : List (Event R)) → list_any (same k) (keys (part s es)) ≡ true →
      list_any (same k) (keys es) ≡ true
  of_part k s [] h = h
  of_part k s (e ∷ es) h = part_step k e (nat_eq (shard (key e.row)) s) (part s es) es (of_part k s es) h

  pub grouped_shards : (n : ℕ) → ((k : K) → shard k < n) → (es : List (Event R)) →
      SameBag (grouped key same same_row tell es)
      (over_shards (λ s. grouped key same same_row tell (of_shard (λ r. shard (key r)) s es)) n)
  grouped_shards n low es = record {
    weigh = λ w.
        total-flat_map w (group_runs es) (distinct same (keys es))
        ∙ (split_sum shard n low (λ k. total w (group_runs es k)) (distinct same (keys es))
        ∙ (sum_same _ _ n (λ s.
        sym (total-flat_map w (group_runs (part s es)) (distinct same (keys (part s es)))
        ∙ (sym (sum_distinct same tells (λ k. total w (group_runs (part s es) k)) (keys es) (keys (part s es))
        (λ k none. ap (total w) (nothing k (part s es) (sym (any_map (same k) (λ e. key e.row) (part s es)) ∙ none)))
        (λ k some. of_part k s es some))
        ∙ total_same _ _ (distinct same (keys es)) (λ k. in_shard w k s es (nat_eq (shard k) s) refl))))
        ∙ sym (total-over_shards w (λ s. grouped key same same_row tell (part s es)) n)));
  }
