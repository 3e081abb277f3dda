-- The first run of words that is too long, and the prefixes of queries that end with the 201st token of an expression.
use Rattle.std.proofs.Common.{◌≡◌, ℕ, zero, suc, ◌+◌, ◌<◌, ◌≤◌, Bool, true, false, if◌then◌else◌, nat_lt, Option, Some, None, option_map, List, [], ◌∷◌, ◌++◌, length, take, drop, map, get_or, inl, inr, refl, ap, sym, subst, ◌∙◌, arith, append_assoc, length-append, take-append-drop, length-take-le, length-drop}
use Rattle.std.proofs.lemmas.Bool.Decides.{nat_tests}
use Rattle.std.proofs.Math.Seq.{take-append_seam}
use Rattle.query_text.specs.Token.{Token, name, int, dec, str, fixed, bad, kind, in_expressions}
use Rattle.query_text.specs.Grammar.{Query, query_tokens}
use Rattle.query_text.specs.Fault.{IsFront, IsFault}
use Rattle.query_text.specs.Limit.{query_places, IsWithin, IsShortQuery, IsLong}
use Rattle.query_text.specs.Parsing.{run_after, first_long}
use Rattle.query_text.proofs.Runs.{is_word, next, runs, Near, Agree, query_agree}

near_at : (ps rs : List ℕ) (i : ℕ) → Agree ps rs → Near (get_or ps i 0) (get_or rs i 0)
near_at [] [] i h = inl refl
near_at [] (r ∷ rs) i h = absurd h
near_at (p ∷ ps) [] i h = absurd h
near_at (p ∷ ps) (r ∷ rs) zero h = h.0
near_at (p ∷ ps) (r ∷ rs) (suc i) h = near_at ps rs i h.1

runs_front : (n : ℕ) (xs ys : List Token) (i : ℕ) → i < length xs → get_or (runs n (xs ++ ys)) i 0 ≡ get_or (runs n xs) i 0
unfolding runs
runs_front n [] ys i h = absurd (omega arith)
runs_front n (x ∷ xs) ys zero h = refl
runs_front n (x ∷ xs) ys (suc i) h = runs_front (next n x) xs ys i (omega arith)

word_of_kind : (t : Token) → in_expressions (kind t) ≡ is_word t
unfolding is_word in_expressions
word_of_kind (name n) = refl
word_of_kind (int n) = refl
word_of_kind (dec u p) = refl
word_of_kind (str s) = refl
word_of_kind (fixed s) = refl
word_of_kind bad = refl

next_of_kind : (n : ℕ) (t : Token) → run_after n (kind t) ≡ next n t
next_of_kind n t = ap (λ b. if b then suc n else 0) (word_of_kind t)

next_le : (n : ℕ) (t : Token) → next n t ≤ suc n
next_le n t = here (is_word t)
  where
    here : (b : Bool) → (if b then suc n else 0) ≤ suc n
    here true = omega arith
    here false = omega arith

-- where the first run of 201 is; where there is none, all are shorter
abbrev pub Finds : ℕ → List Token → Option ℕ → Type 0
Finds n ts None = (i : ℕ) → get_or (runs n ts) i 0 ≤ 200
Finds n ts (Some j) = (j < length ts) × (get_or (runs n ts) j 0 ≡ 201) × ((i : ℕ) → i < j → get_or (runs n ts) i 0 ≤ 200)

none_first : (r : ℕ) (rs : List ℕ) → r ≤ 200 → ((i : ℕ) → get_or rs i 0 ≤ 200) → (i : ℕ) → get_or (r ∷ rs) i 0 ≤ 200
none_first r rs h k zero = h
none_first r rs h k (suc i) = k i

none_before : (r : ℕ) (rs : List ℕ) (j : ℕ) → r ≤ 200 → ((i : ℕ) → i < j → get_or rs i 0 ≤ 200) → (i : ℕ) → i < suc j → get_or (r ∷ rs) i 0 ≤ 200
none_before r rs j h k zero l = h
none_before r rs j h k (suc i) l = k i (omega arith)

finds_more : (n : ℕ) (t : Token) (ts : List Token) (r : Option ℕ) → next n t ≤ 200 → Finds (next n t) ts r → Finds n (t ∷ ts) (option_map (λ i. suc i) r)
unfolding runs
finds_more n t ts None h f = none_first (next n t) (runs (next n t) ts) h f
finds_more n t ts (Some j) h f = (let l = f.0 in omega arith, f.1, none_before (next n t) (runs (next n t) ts) j h f.2)

pub finds : (n : ℕ) (ts : List Token) → n ≤ 200 → Finds n ts (first_long n (map kind ts))
unfolding runs first_long
finds n [] h = λ i. omega arith
finds n (t ∷ ts) h =
    subst (λ r. Finds n (t ∷ ts) (if nat_lt 200 r then Some 0 else option_map (λ i. suc i) (first_long r (map kind ts)))) (sym (next_of_kind n t))
    (here (nat_lt 200 (next n t)) refl (λ l. finds (next n t) ts l))
  where
    here : (x : Bool) → nat_lt 200 (next n t) ≡ x → (next n t ≤ 200 → Finds (next n t) ts (first_long (next n t) (map kind ts)))
        → Finds n (t ∷ ts) (if x then Some 0 else option_map (λ i. suc i) (first_long (next n t) (map kind ts)))
    here true e g = (omega arith, (let l = next_le n t in let m : 200 < next n t = grind (arith, nat_tests) in omega arith), λ i l. absurd (omega arith))
    here false e g = let m : next n t ≤ 200 = grind (arith, nat_tests) in finds_more n t ts _ m (g m)

is_201 : (p r : ℕ) → Near p r → p ≡ 201 → r ≡ 201
is_201 p r h e = elim h [ inl f ↦ sym f ∙ e | inr f ↦ absurd (let g = f.0 in omega arith) ]

-- the last token of a long front is the 201st of a run
long_run : (front : List Token) (l : IsLong front) → get_or (runs 0 front) l.before 0 ≡ 201
long_run front l =
    let near = near_at (query_places l.query) (runs 0 (query_tokens l.query)) l.before (query_agree l.query) in
    let same : get_or (runs 0 (query_tokens l.query)) l.before 0 ≡ get_or (runs 0 front) l.before 0 = rw l.begins (runs_front 0 front l.rest l.before (omega (arith, l.last))) in
    sym same ∙ is_201 _ _ near l.place

take_at_most : (n : ℕ) (ts : List Token) → length (take n ts) ≤ n
take_at_most zero ts = omega arith
take_at_most (suc n) [] = omega arith
take_at_most (suc n) (t ∷ ts) = let h = take_at_most n ts in omega arith

pub record LongTake (ts : List Token) (n : ℕ) : Type 0 where
  pub before : ℕ
  pub below : before < n
  pub within : before < length ts
  pub run : get_or (runs 0 ts) before 0 ≡ 201

pub long_take : (ts : List Token) (n : ℕ) → IsLong (take n ts) → LongTake ts n
long_take ts n l =
    let whole : take n ts ++ drop n ts ≡ ts = take-append-drop n ts in
    let inside : l.before < length (take n ts) = omega (arith, l.last) in
    let here : get_or (runs 0 (take n ts ++ drop n ts)) l.before 0 ≡ 201 = runs_front 0 (take n ts) (drop n ts) l.before inside ∙ long_run (take n ts) l in
    record {
      before = l.before;
      below = omega (arith, take_at_most n ts);
      within = omega (arith, length-append (take n ts) (drop n ts), ap length whole);
      run = ap (λ x. get_or (runs 0 x) l.before 0) (sym whole) ∙ here;
    }

-- where no run is that long, no front is
pub never_long : (ts : List Token) → ((i : ℕ) → get_or (runs 0 ts) i 0 ≤ 200) → (n : ℕ) → IsLong (take n ts) → ⊥
never_long ts h n l = let t = long_take ts n l in absurd (let r = t.run in let g = h t.before in omega arith)

-- no front is that long up to the first such run
pub first_is : (ts : List Token) (j : ℕ) → ((i : ℕ) → i < j → get_or (runs 0 ts) i 0 ≤ 200) → (n : ℕ) → n ≤ j → IsLong (take n ts) → ⊥
first_is ts j h n m l = let t = long_take ts n l in absurd (let r = t.run in let b = t.below in let g = h t.before (omega arith) in omega arith)

same_default : (ps : List ℕ) (k d e : ℕ) → k < length ps → get_or ps k d ≡ get_or ps k e
same_default [] k d e h = absurd (omega arith)
same_default (p ∷ ps) zero d e h = refl
same_default (p ∷ ps) (suc k) d e h = same_default ps k d e (omega arith)

at_most : (p r : ℕ) → Near p r → r ≤ 200 → p ≤ 200
at_most p r h l = elim h [ inl f ↦ rw f l | inr f ↦ let g = f.0 in omega arith ]

-- where no run is that long, a query is within the limit
pub within_short : (q : Query) (ts : List Token) → query_tokens q ≡ ts → ((i : ℕ) → get_or (runs 0 ts) i 0 ≤ 200) → IsWithin q
within_short q ts e h = λ k d i.
    let near = near_at (query_places q) (runs 0 (query_tokens q)) k (query_agree q) in
    rw (same_default (query_places q) k d 0 i) (at_most _ _ near (rw e (h k)))

-- a prefix of a prefix begins a query too
pub front_less : (xs ys : List Token) → IsFront (xs ++ ys) → IsFront xs
front_less xs ys f = record { query = f.query; rest = ys ++ f.rest; begins = f.begins ∙ append_assoc xs ys f.rest }

pub long_front : (front : List Token) → IsLong front → IsFront front
long_front front l = record { query = l.query; rest = l.rest; begins = l.begins }

take_past : (front : List Token) (t : Token) (more : List Token) (n : ℕ) → length front < n → (ws : List Token) × (take n (front ++ t ∷ more) ≡ (front ++ t ∷ []) ++ ws)
take_past front t more zero h = absurd (omega arith)
take_past [] t more (suc n) h = (take n more, refl)
take_past (x ∷ front) t more (suc n) h = let r = take_past front t more n (omega arith) in (r.0, ap (λ z. x ∷ z) r.1)

-- a front goes no further than the fault
pub front_past : (ts rest : List Token) (f : IsFault ts rest) (n : ℕ) → 0 < length rest → length f.front < n → IsFront (take n ts) → ⊥
front_past ts [] f n p l g = absurd (omega arith)
front_past ts (t ∷ more) f n p l g =
    let r = take_past f.front t more n l in
    f.first t more refl (front_less (f.front ++ t ∷ []) r.0 (subst IsFront (ap (take n) f.whole ∙ r.1) g))

pub front_length : (ts : List Token) (i : ℕ) (f : IsFault ts (drop i ts)) → i ≤ length ts → length f.front ≡ i
front_length ts i f l =
    let a : length ts ≡ length f.front + length (drop i ts) = ap length f.whole ∙ length-append f.front (drop i ts) in
    omega (arith, length-append (take i ts) (drop i ts), ap length (take-append-drop i ts), length-take-le i ts l)

-- where a fault comes before the first long run or at it, no front is that long
pub fault_first : (ts : List Token) (i j : ℕ) → IsFault ts (drop i ts) → i < length ts → i ≤ j → ((k : ℕ) → k < j → get_or (runs 0 ts) k 0 ≤ 200) → (n : ℕ) → IsLong (take n ts) → ⊥
fault_first ts i j f w l h n g =
    let t = long_take ts n g in
    let a : length f.front ≡ i = front_length ts i f (omega arith) in
    front_past ts (drop i ts) f n (omega (arith, length-drop i ts)) (here t (t.before) refl a) (long_front (take n ts) g)
  where
    here : (t : LongTake ts n) (b : ℕ) → t.before ≡ b → length f.front ≡ i → length f.front < n
    here t b e a = split (nat_lt b j) refl
      where
        split : (x : Bool) → nat_lt b j ≡ x → length f.front < n
        split true m = absurd (let s : b < j = grind (arith, nat_tests) in let r = t.run in let g = h t.before (omega arith) in omega arith)
        split false m = let s : j ≤ b = grind (arith, nat_tests) in let q = t.below in omega arith

is_place : (p r : ℕ) → Near p r → r ≡ 201 → p ≡ 201
is_place p r h s = elim h [ inl f ↦ f ∙ s | inr f ↦ absurd (let g = f.1 in omega arith) ]

-- where the front with the first long run begins a query, it is long
pub front_long : (ts : List Token) (j : ℕ) → j < length ts → get_or (runs 0 ts) j 0 ≡ 201 → IsFront (take (suc j) ts) → IsLong (take (suc j) ts)
front_long ts j w e f =
    let last : length (take (suc j) ts) ≡ suc j = length-take-le (suc j) ts (omega arith) in
    let whole : take (suc j) ts ++ drop (suc j) ts ≡ ts = take-append-drop (suc j) ts in
    let there : get_or (runs 0 (take (suc j) ts)) j 0 ≡ 201 = sym (runs_front 0 (take (suc j) ts) (drop (suc j) ts) j (omega arith)) ∙ ap (λ x. get_or (runs 0 x) j 0) whole ∙ e in
    let same : get_or (runs 0 (query_tokens f.query)) j 0 ≡ 201 = rw f.begins (runs_front 0 (take (suc j) ts) f.rest j (omega arith) ∙ there) in
    record { query = f.query; rest = f.rest; begins = f.begins; before = j; last = last; place = is_place _ _ (near_at (query_places f.query) (runs 0 (query_tokens f.query)) j (query_agree f.query)) same }

-- what comes before a fault begins a query
pub fault_front : (ts : List Token) (i : ℕ) (f : IsFault ts (drop i ts)) → i ≤ length ts → IsFront (take i ts)
fault_front ts i f l =
    let a = front_length ts i f l in
    let e : take i ts ≡ f.front = ap (take i) f.whole ∙ ap (λ k. take k (f.front ++ drop i ts)) (sym a) ∙ take-append_seam f.front (drop i ts) in
    subst IsFront (sym e) f.good

place_within : (ps : List ℕ) (i : ℕ) → 0 < get_or ps i 0 → i < length ps
place_within [] i h = absurd (omega arith)
place_within (p ∷ ps) zero h = omega arith
place_within (p ∷ ps) (suc i) h = let l = place_within ps i h in omega arith

-- a query within the limit has no long front
pub long_clash : (ts : List Token) → IsShortQuery ts → (n : ℕ) → IsLong (take n ts) → ⊥
long_clash ts q n l =
    let t = long_take ts n l in
    let r : get_or (runs 0 (query_tokens q.0)) t.before 0 ≡ 201 = rw q.1 t.run in
    let p : get_or (query_places q.0) t.before 0 ≡ 201 = is_place _ _ (near_at (query_places q.0) (runs 0 (query_tokens q.0)) t.before (query_agree q.0)) r in
    let w : t.before < length (query_places q.0) = place_within (query_places q.0) t.before (omega arith) in
    absurd (let h = q.2 t.before 0 w in omega arith)
