-- Runs, an instant at a time.
use Rattle.std.specs.Prelude.{◌≡◌, ℕ, zero, suc, ◌+◌, ◌-◌, ◌<◌, ◌≤◌, nat_lt, nat_eq, Bool, true, false, cond, ◌&&◌, Option, Some, None, option_to_list, List, [], ◌∷◌, ◌++◌, flat_map, refl}
use Rattle.std.proofs.Common.{sym, ◌∙◌, ap, arith, zero-add, add-zero, add-suc}
use Rattle.std.proofs.lemmas.Bool.Decides.{nat_tests}
use Rattle.std.proofs.lemmas.Bool.{eqb-true, le-ltb, lt-ltb, and_parts}
use Rattle.tw_rows.specs.Instant.{inf}
use Rattle.tw_rows.specs.Bag.{total, SameBag}
use Rattle.tw_rows.specs.Event.{Event, lives_at, alive, AreEvents, cut_one, cut}
use Rattle.tw_rows.proofs.Lives.{total-alive}
use Rattle.key_nodes.specs.Runs.{Tells, goes_on, runs}

-- each event begins before it ends, and ends by n
abbrev pub Within : {R : Type 0} → ℕ → List (Event R) → Type 0
Within n [] = Unit {0}
Within n (e ∷ es) = (e.start < e.end) × (e.end ≤ n) × Within n es

within_later : {R : Type 0} (n m : ℕ) (es : List (Event R)) → n ≤ m → Within n es → Within m es
within_later n m [] h k = tt
within_later n m (e ∷ es) h k = (k.0, omega (arith, k), within_later n m es h k.2)

goes_on_within : {R : Type 0} (same_row : R → R → Bool) (o : Option R) (n : ℕ) (es : List (Event R)) → Within n es →
    Within (suc n) (goes_on same_row o n es)
goes_on_within same_row None n es k = within_later n (suc n) es (omega arith) k
goes_on_within same_row (Some r) n [] k = (omega arith, omega arith, tt)
goes_on_within same_row (Some r) n (e ∷ es) k = pick (nat_eq e.end n && same_row e.row r)
  where
    pick : (b : Bool) →
        Within (suc n)
        (cond b (record { row = e.row; start = e.start; end = suc n } ∷ es)
        (record { row = r; start = n; end = suc n } ∷ e ∷ es))
    pick true = (omega (arith, k), omega arith, within_later n (suc n) es (omega arith) k.2)
    pick false = (omega arith, omega arith, within_later n (suc n) (e ∷ es) (omega arith) k)

pub runs_within : {R : Type 0} (same_row : R → R → Bool) (f : ℕ → Option R) (n : ℕ) → Within n (runs same_row f n)
runs_within same_row f zero = tt
runs_within same_row f (suc n) = goes_on_within same_row (f n) n (runs same_row f n) (runs_within same_row f n)

within_valid : {R : Type 0} (n : ℕ) (es : List (Event R)) → n ≤ inf → Within n es → AreEvents es
within_valid n [] low k = tt
within_valid n (e ∷ es) low k = (k.0, omega (arith, k), within_valid n es low k.2)

pub runs_valid : {R : Type 0} (same_row : R → R → Bool) (f : ℕ → Option R) (n : ℕ) → n ≤ inf →
    AreEvents (runs same_row f n)
runs_valid same_row f n low = within_valid n (runs same_row f n) low (runs_within same_row f n)

-- what begins or ends at c or later is not known below c
cut_late : {R : Type 0} (c : ℕ) (e : Event R) → c ≤ e.start → cut_one c e ≡ []
cut_late c e h = rw (le-ltb e.start c h) refl

cut_longer : {R : Type 0} (c t : ℕ) (e : Event R) → c ≤ t → e.end ≡ t →
    cut_one c (record { row = e.row; start = e.start; end = suc t }) ≡ cut_one c e
cut_longer c t e h k = grind (arith, nat_tests)

cut_goes_on : {R : Type 0} (same_row : R → R → Bool) (c t : ℕ) (o : Option R) (es : List (Event R)) → c ≤ t →
    cut c (goes_on same_row o t es) ≡ cut c es
cut_goes_on same_row c t None es h = refl
cut_goes_on same_row c t (Some r) [] h = rw (cut_late c (record { row = r; start = t; end = suc t }) h) refl
cut_goes_on same_row c t (Some r) (e ∷ es) h = pick (nat_eq e.end t && same_row e.row r) refl
  where
    pick : (b : Bool) → (nat_eq e.end t && same_row e.row r) ≡ b →
        cut c (cond b (record { row = e.row; start = e.start; end = suc t } ∷ es)
        (record { row = r; start = t; end = suc t } ∷ e ∷ es)) ≡ cut_one c e ++ flat_map (cut_one c) es
    pick true k =
        ap (λ l. l ++ flat_map (cut_one c) es)
        (cut_longer c t e h (eqb-true e.end t (and_parts (nat_eq e.end t) (same_row e.row r) k).0))
    pick false k =
        ap (λ l. l ++ (cut_one c e ++ flat_map (cut_one c) es))
        (cut_late c (record { row = r; start = t; end = suc t }) h)

cut_more : {R : Type 0} (same_row : R → R → Bool) (c d : ℕ) (f : ℕ → Option R) →
    cut c (runs same_row f (c + d)) ≡ cut c (runs same_row f c)
cut_more same_row c zero f = ap (λ n. cut c (runs same_row f n)) (add-zero c)
cut_more same_row c (suc d) f =
    rw (add-suc c d)
    (cut_goes_on same_row c (c + d) (f (c + d)) (runs same_row f (c + d)) (omega arith) ∙ cut_more same_row c d f)

-- the instants from c on leave what is known below c
pub cut_runs : {R : Type 0} (same_row : R → R → Bool) (f : ℕ → Option R) (c n : ℕ) → c ≤ n →
    cut c (runs same_row f n) ≡ cut c (runs same_row f c)
cut_runs same_row f c n low =
    (let e : n ≡ c + (n - c) = omega arith in ap (λ m. cut c (runs same_row f m)) e) ∙ cut_more same_row c (n - c) f

pub runs_same : {R : Type 0} (same_row : R → R → Bool) (f g : ℕ → Option R) (n : ℕ) → ((u : ℕ) → u < n → f u ≡ g u) →
    runs same_row f n ≡ runs same_row g n
runs_same same_row f g zero h = refl
runs_same same_row f g (suc n) h =
    ap (λ o. goes_on same_row o n (runs same_row f n)) (h n (omega arith))
    ∙ ap (goes_on same_row (g n) n) (runs_same same_row f g n (λ u low. h u (omega arith)))

-- what runs tell below c depends on the rows below c alone
pub runs_known : {R : Type 0} (same_row : R → R → Bool) (f g : ℕ → Option R) (c n : ℕ) → c ≤ n →
    ((u : ℕ) → u < c → f u ≡ g u) → cut c (runs same_row f n) ≡ cut c (runs same_row g n)
runs_known same_row f g c n low h =
    cut_runs same_row f c n low ∙ (ap (cut c) (runs_same same_row f g c h) ∙ sym (cut_runs same_row g c n low))

pub runs_none : {R : Type 0} (same_row : R → R → Bool) (f : ℕ → Option R) (n : ℕ) → ((u : ℕ) → u < n → f u ≡ None) →
    runs same_row f n ≡ []
runs_none {R} same_row f n h = runs_same same_row f (λ u. None) n h ∙ none n
  where
    none : (n : ℕ) → runs {R = R} same_row (λ u. None) n ≡ []
    none zero = refl
    none (suc n) = none n

-- the weight of a row that may be there
abbrev pub weight_of : {R : Type 0} → (R → ℕ) → Option R → ℕ
weight_of w None = 0
weight_of w (Some r) = w r

pub weight_of_list : {R : Type 0} (w : R → ℕ) (o : Option R) → total w (option_to_list o) ≡ weight_of w o
weight_of_list w None = refl
weight_of_list w (Some r) = add-zero (w r)

abbrev weigh_at : {R : Type 0} → (R → ℕ) → ℕ → Event R → ℕ
weigh_at w u e = cond (lives_at u e) (w e.row) 0

step_one : {R : Type 0} (same_row : R → R → Bool) (w : R → ℕ) (r : R) (n u : ℕ) (e : Event R) (es : List (Event R)) →
    e.start < e.end → e.end ≤ n → (same_row e.row r ≡ true → w e.row ≡ w r) →
    total (weigh_at w u)
    (cond (nat_eq e.end n && same_row e.row r) (record { row = e.row; start = e.start; end = suc n } ∷ es)
    (record { row = r; start = n; end = suc n } ∷ e ∷ es))
    ≡ (weigh_at w u e + total (weigh_at w u) es) + cond (nat_eq u n) (w r) 0
step_one same_row w r n u e es k l same = grind (arith, nat_tests)

cond_zero : (b : Bool) → cond {A = ℕ} b 0 0 ≡ 0
cond_zero true = refl
cond_zero false = refl

first_one : {R : Type 0} (w : R → ℕ) (r : R) (n u : ℕ) →
    total (weigh_at w u) (record { row = r; start = n; end = suc n } ∷ []) ≡ cond (nat_eq u n) (w r) 0
first_one w r n u = grind (arith, nat_tests)

goes_on_weighs : {R : Type 0} (same_row : R → R → Bool) (w : R → ℕ) (o : Option R) (n u : ℕ) (es : List (Event R)) →
    Tells same_row → Within n es →
    total (weigh_at w u) (goes_on same_row o n es) ≡ total (weigh_at w u) es + cond (nat_eq u n) (weight_of w o) 0
goes_on_weighs same_row w None n u es tells k = let z = cond_zero (nat_eq u n) in omega (arith, z)
goes_on_weighs same_row w (Some r) n u [] tells k = first_one w r n u ∙ sym (zero-add (cond (nat_eq u n) (w r) 0))
goes_on_weighs same_row w (Some r) n u (e ∷ es) tells k =
    step_one same_row w r n u e es k.0 k.1 (λ t. ap w ((tells e.row r).0 t))

one_more : (n u a b : ℕ) → (nat_eq u n ≡ true → a ≡ b) →
    cond (nat_lt u n) b 0 + cond (nat_eq u n) a 0 ≡ cond (nat_lt u (suc n)) b 0
one_more n u a b h = grind (arith, nat_tests)

none_below : (u n : ℕ) → 0 ≡ cond (nat_lt u 0) n 0
none_below u n = grind (arith, nat_tests)

runs_weigh : {R : Type 0} (same_row : R → R → Bool) (w : R → ℕ) (f : ℕ → Option R) (n u : ℕ) → Tells same_row →
    total (weigh_at w u) (runs same_row f n) ≡ cond (nat_lt u n) (weight_of w (f u)) 0
runs_weigh same_row w f zero u tells = none_below u (weight_of w (f u))
runs_weigh same_row w f (suc n) u tells =
    goes_on_weighs same_row w (f n) n u (runs same_row f n) tells (runs_within same_row f n)
    ∙ (ap (λ k. k + cond (nat_eq u n) (weight_of w (f n)) 0) (runs_weigh same_row w f n u tells)
    ∙ one_more n u (weight_of w (f n)) (weight_of w (f u)) (λ t. ap (λ k. weight_of w (f k)) (sym (eqb-true u n t))))

-- at each instant below n the runs have the row that f gives
pub alive_runs : {R : Type 0} (same_row : R → R → Bool) (w : R → ℕ) (f : ℕ → Option R) (n u : ℕ) → Tells same_row →
    u < n → total w (alive (runs same_row f n) u) ≡ weight_of w (f u)
alive_runs same_row w f n u tells low =
    total-alive w (runs same_row f n) u
    ∙ (runs_weigh same_row w f n u tells ∙ ap (λ b. cond b (weight_of w (f u)) 0) (lt-ltb u n low))

pub runs_alive : {R : Type 0} (same_row : R → R → Bool) (f : ℕ → Option R) (n u : ℕ) → Tells same_row → u < n →
    SameBag (alive (runs same_row f n) u) (option_to_list (f u))
runs_alive same_row f n u tells low =
    record { weigh = λ w. alive_runs same_row w f n u tells low ∙ sym (weight_of_list w (f u)) }
