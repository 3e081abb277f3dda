-- How a Delay, a Hop, a Duration and a Mean answer, edge by edge.
use Rattle.std.specs.Prelude.{◌≡◌, ℕ, ◌*◌, ◌/◌, ◌<◌, ◌≤◌, zero, suc, true, false, cond, List, [], ◌∷◌, filter, flat_map, refl}
use Rattle.std.proofs.Common.{arith, ap, subst}
use Rattle.std.proofs.lemmas.Bool.Decides.{nat_tests}
use Rattle.std.proofs.lemmas.Nat.{le-div}
use Rattle.std.proofs.Common.{mul-le-mul_left}
use Rattle.std.proofs.Math.Nat.{mul-div-le}
use Rattle.tw_rows.specs.Instant.{inf, later, floor_to}
use Rattle.tw_rows.specs.Bag.{SameBag, total}
use Rattle.tw_rows.specs.declared.cells.Datum.{Datum}
use Rattle.tw_rows.specs.declared.edge.Edge.{Edge}
use Rattle.edge_history.specs.Order.{failing, is_real, is_below, is_from, rank, Rises}
use Rattle.edge_history.specs.History.{CellEvent}
use Rattle.edge_history.specs.Balance.{news_of}
use Rattle.edge_history.specs.Opens.{singles_of}
use Rattle.edge_history.proofs.Telling.{is_event}
use Rattle.plan_model.specs.declared.node.Node.{Node}
use Rattle.plan_model.specs.declared.node.Node.TheVariants.{Source, Where, Select, Union, Delay, Hop, Duration, Extend, Session, Clip, Group, Join, Anti, Coalesce, Mean, Top, Follow}
use Rattle.plan_model.specs.Lives.{moved_one, hopped_one, lasting_one}
use Rattle.plan_model.proofs.NewLives.{floor_rises, floor_low}
use Rattle.plan_laws.specs.Answers.{new_edge, is_answered, answered, answered_below}
use Rattle.edge_history.specs.Order.{IsHistory}
use Rattle.edge_history.specs.History.{of}
use Rattle.edge_history.specs.Ahead.{ToldAhead}
use Rattle.plan_model.specs.Meaning.{node_closes}
use Rattle.plan_model.specs.Nodes.{node_in, event_to, events_to}
use Rattle.plan_model.specs.Means.{mean_row}
use Rattle.plan_laws.specs.Keeping.{KeepsAhead, plain_cells}
use Rattle.std.proofs.lemmas.List.Elements.{All-nil}
use Rattle.tw_rows.proofs.Bags.{SameBag-refl}
use Rattle.tw_rows.specs.Cells.{ArePlaced}
use Rattle.tw_rows.specs.Texts.{BeginsWith}
use Rattle.plan_model.specs.Meaning.{node_events}
use Rattle.plan_laws.specs.Readings.{has_expressions}
use Rattle.plan_laws.specs.Places.{AreDistinct, read_of}
use Rattle.plan_laws.specs.Standing.{StandsRead}
use Rattle.plan_laws.proofs.Standing.{no_history, placed_longer}
use Rattle.plan_laws.proofs.StepsAhead.{ahead_read}
use Rattle.plan_laws.specs.Answers.{has_known_lives}
use Rattle.plan_laws.specs.LifeKeeping.{KeepsLives}
use Rattle.plan_laws.proofs.Sides.{sides_first, sides_longer}
use Rattle.plan_laws.proofs.Telling.{weight, Answers, answers_tell}

-- DELAYS
delay_parts : (i by : ℕ) (w : Edge → ℕ) (e : Edge) → is_real e ≡ true →
    weight (is_answered (Delay i by)) (new_edge (Delay i by)) (moved_one by) w e ≡ total (weight (is_answered (Delay i by)) (new_edge (Delay i by)) (moved_one by) w) (singles_of e)
delay_parts i by w e real = let whole : later by inf ≡ inf = omega arith in grind (arith, nat_tests)

delay_news : (i by : ℕ) (w : Edge → ℕ) (v : CellEvent) → is_event v ≡ true →
    total w (flat_map (news_of 0 inf) (moved_one by v)) ≡ total (weight (is_answered (Delay i by)) (new_edge (Delay i by)) (moved_one by) w) (news_of 0 inf v)
delay_news i by w v k = let whole : later by inf ≡ inf = omega arith in grind (arith, nat_tests)

delay_late : (i by x : ℕ) (w : Edge → ℕ) (e : Edge) → is_from x e ≡ true →
    weight (is_answered (Delay i by)) (new_edge (Delay i by)) (moved_one by) (λ y. cond (is_below (later by x) y) (w y) 0) e ≡ 0
delay_late i by x w e k = grind (arith, nat_tests)

-- HOPS
hop_parts : (i size period : ℕ) (w : Edge → ℕ) (e : Edge) → is_real e ≡ true →
    weight (is_answered (Hop i size period)) (new_edge (Hop i size period)) (hopped_one size period) w e ≡ total (weight (is_answered (Hop i size period)) (new_edge (Hop i size period)) (hopped_one size period) w) (singles_of e)
hop_parts i size period w e real = grind (arith, nat_tests)

hop_news : (i size period : ℕ) (w : Edge → ℕ) (v : CellEvent) → is_event v ≡ true →
    total w (flat_map (news_of 0 inf) (hopped_one size period v)) ≡ total (weight (is_answered (Hop i size period)) (new_edge (Hop i size period)) (hopped_one size period) w) (news_of 0 inf v)
hop_news i size period w v k = grind (arith, nat_tests)

-- the multiple of a time is no later than that of each time that is not below it
multiple_below : (p c s : ℕ) → p * (c / p) ≤ s → p * (c / p) ≤ p * (s / p)
multiple_below zero c s h = omega arith
multiple_below (suc p) c s h = mul-le-mul_left (suc p) (le-div (c / suc p) s (suc p) (omega arith) (omega (arith, h)))

multiple_rises : (p c s : ℕ) → c ≤ s → p * (c / p) ≤ p * (s / p)
multiple_rises p c s h = multiple_below p c s (let l = mul-div-le c p in omega (arith, l, h))

hop_late : (i size period x : ℕ) → x ≤ inf → (w : Edge → ℕ) (e : Edge) → is_from (floor_to period x) e ≡ true →
    weight (is_answered (Hop i size period)) (new_edge (Hop i size period)) (hopped_one size period) (λ y. cond (is_below (floor_to period x) y) (w y) 0) e ≡ 0
hop_late i size period x low w e k = let rises = multiple_below period x e.sync in let low = mul-div-le x period in grind (arith, nat_tests)

-- DURATIONS
duration_parts : (i by : ℕ) (w : Edge → ℕ) (e : Edge) → is_real e ≡ true →
    weight (is_answered (Duration i by)) (new_edge (Duration i by)) (lasting_one by) w e ≡ total (weight (is_answered (Duration i by)) (new_edge (Duration i by)) (lasting_one by) w) (singles_of e)
duration_parts i by w e real = grind (arith, nat_tests)

duration_news : (i by : ℕ) (w : Edge → ℕ) (v : CellEvent) → is_event v ≡ true →
    total w (flat_map (news_of 0 inf) (lasting_one by v)) ≡ total (weight (is_answered (Duration i by)) (new_edge (Duration i by)) (lasting_one by) w) (news_of 0 inf v)
duration_news i by w v k = grind (arith, nat_tests)

duration_late : (i by x : ℕ) (w : Edge → ℕ) (e : Edge) → is_from x e ≡ true →
    weight (is_answered (Duration i by)) (new_edge (Duration i by)) (lasting_one by) (λ y. cond (is_below x y) (w y) 0) e ≡ 0
duration_late i by x w e k = grind (arith, nat_tests)

-- MEANS
-- the edge with its cells replaced, and the event so
abbrev replaced : (List Datum → List Datum) → Edge → Edge
replaced f e = record { sync = e.sync; other = e.other; cells = f e.cells }

abbrev replaced_one : (List Datum → List Datum) → CellEvent → List CellEvent
replaced_one f v = event_to f v ∷ []

replaced_parts : (f : List Datum → List Datum) (w : Edge → ℕ) (e : Edge) → is_real e ≡ true →
    weight (λ x. true) (replaced f) (replaced_one f) w e ≡ total (weight (λ x. true) (replaced f) (replaced_one f) w) (singles_of e)
replaced_parts f w e real = grind (arith, nat_tests)

replaced_news : (f : List Datum → List Datum) (w : Edge → ℕ) (v : CellEvent) → is_event v ≡ true →
    total w (flat_map (news_of 0 inf) (replaced_one f v)) ≡ total (weight (λ x. true) (replaced f) (replaced_one f) w) (news_of 0 inf v)
replaced_news f w v k = grind (arith, nat_tests)

replaced_late : (f : List Datum → List Datum) (x : ℕ) (w : Edge → ℕ) (e : Edge) → is_from x e ≡ true →
    weight (λ y. true) (replaced f) (replaced_one f) (λ y. cond (is_below x y) (w y) 0) e ≡ 0
replaced_late f x w e k = grind (arith, nat_tests)

each_replaced : (f : List Datum → List Datum) (events : List CellEvent) → flat_map (replaced_one f) events ≡ events_to f events
each_replaced f [] = refl
each_replaced f (v ∷ vs) = ap (λ es. event_to f v ∷ es) (each_replaced f vs)

-- WHAT IS ANSWERED
delay_answers : (i by x : ℕ) → Answers (is_answered (Delay i by)) (new_edge (Delay i by)) (moved_one by) x (later by x)
delay_answers i by x = record { parts = delay_parts i by; news = delay_news i by; late = delay_late i by x }

hop_answers : (i size period x : ℕ) → x ≤ inf → Answers (is_answered (Hop i size period)) (new_edge (Hop i size period)) (hopped_one size period) (floor_to period x) (floor_to period x)
hop_answers i size period x low = record { parts = hop_parts i size period; news = hop_news i size period; late = hop_late i size period x low }

duration_answers : (i by x : ℕ) → Answers (is_answered (Duration i by)) (new_edge (Duration i by)) (lasting_one by) x x
duration_answers i by x = record { parts = duration_parts i by; news = duration_news i by; late = duration_late i by x }

replaced_answers : (f : List Datum → List Datum) (x : ℕ) → Answers (λ y. true) (replaced f) (replaced_one f) x x
replaced_answers f x = record { parts = replaced_parts f; news = replaced_news f; late = replaced_late f x }

-- what the answers of a node owe
pub record NewLives (n : Node) : Type 0 where
  pub tells : (x y : ℕ) → x ≤ inf → (h hr out : List Edge) → IsHistory h → Rises 0 out → failing is_real out ≡ 0 →
      failing (is_below (node_closes n x y)) out ≡ 0 → SameBag out (answered n (filter (is_below (answered_below n x)) h)) →
      ToldAhead (node_closes n x y) out (node_in plain_cells n (of h) (of hr))
  pub later : (a b : Edge) → a.sync < inf → b.sync < inf → is_answered n b ≡ true → rank a ≤ rank b → is_answered n a ≡ true → rank (new_edge n a) ≤ rank (new_edge n b)
  pub real : (e : Edge) → is_real e ≡ true → is_answered n e ≡ true → is_real (new_edge n e) ≡ true
  pub below : (x y : ℕ) (e : Edge) → x ≤ inf → is_answered n e ≡ true → is_below (answered_below n x) e ≡ true → is_below (node_closes n x y) (new_edge n e) ≡ true
  pub from : (x y : ℕ) (e : Edge) → x ≤ inf → is_answered n e ≡ true → is_from (answered_below n x) e ≡ true → is_from (node_closes n x y) (new_edge n e) ≡ true
  pub cut_rises : (x u : ℕ) → x ≤ u → u ≤ inf → answered_below n x ≤ answered_below n u
  pub cut_low : (x : ℕ) → x ≤ inf → answered_below n x ≤ x

delay_lives : (i by : ℕ) → NewLives (Delay i by)
delay_lives i by = record {
  tells = λ x y low h hr out history order real below same. answers_tell (is_answered (Delay i by)) (new_edge (Delay i by)) (moved_one by) x (later by x) (delay_answers i by x) (omega arith) h out history order real below same;
  later = λ a b la lb tb h ta. grind (arith, nat_tests);
  real = λ e r t. grind (arith, nat_tests);
  below = λ x y e low t h. grind (arith, nat_tests);
  from = λ x y e low t h. grind (arith, nat_tests);
  cut_rises = λ x u h low. h;
  cut_low = λ x low. omega arith;
}

hop_lives : (i size period : ℕ) → NewLives (Hop i size period)
hop_lives i size period = record {
  tells = λ x y low h hr out history order real below same.
      answers_tell (is_answered (Hop i size period)) (new_edge (Hop i size period)) (hopped_one size period) (floor_to period x) (floor_to period x) (hop_answers i size period x low) (floor_low period x low) h out history order real below same;
  later = λ a b la lb tb h ta. let rises = multiple_rises period a.sync b.sync in grind (arith, nat_tests);
  real = λ e r t. let low = mul-div-le e.sync period in grind (arith, nat_tests);
  below = λ x y e low t h. let l = mul-div-le e.sync period in let f = mul-div-le x period in grind (arith, nat_tests);
  from = λ x y e low t h. let rises = multiple_below period x e.sync in let f = mul-div-le x period in grind (arith, nat_tests);
  cut_rises = λ x u h low. floor_rises period x u h low;
  cut_low = λ x low. let f = mul-div-le x period in grind (arith, nat_tests);
}

duration_lives : (i by : ℕ) → NewLives (Duration i by)
duration_lives i by = record {
  tells = λ x y low h hr out history order real below same. answers_tell (is_answered (Duration i by)) (new_edge (Duration i by)) (lasting_one by) x x (duration_answers i by x) low h out history order real below same;
  later = λ a b la lb tb h ta. grind (arith, nat_tests);
  real = λ e r t. grind (arith, nat_tests);
  below = λ x y e low t h. grind (arith, nat_tests);
  from = λ x y e low t h. grind (arith, nat_tests);
  cut_rises = λ x u h low. h;
  cut_low = λ x low. omega arith;
}

mean_lives : (i : ℕ) (at : List ℕ) → NewLives (Mean i at)
mean_lives i at = record {
  tells = λ x y low h hr out history order real below same.
      let f : List Datum → List Datum = mean_row plain_cells at in
      subst (ToldAhead x out) (each_replaced f (of h))
      (answers_tell (λ e. true) (replaced f) (replaced_one f) x x (replaced_answers f x) low h out history order real below same);
  later = λ a b la lb tb h ta. h;
  real = λ e r t. r;
  below = λ x y e low t h. h;
  from = λ x y e low t h. h;
  cut_rises = λ x u h low. h;
  cut_low = λ x low. omega arith;
}

pub new_lives : (n : Node) → has_known_lives n ≡ true → NewLives n
new_lives (Delay i by) k = delay_lives i by
new_lives (Hop i size period) k = hop_lives i size period
new_lives (Duration i by) k = duration_lives i by
new_lives (Source a) k = absurd (cc)
new_lives (Where a b) k = absurd (cc)
new_lives (Select a b) k = absurd (cc)
new_lives (Union a b) k = absurd (cc)
new_lives (Extend a b) k = absurd (cc)
new_lives (Session a b c) k = absurd (cc)
new_lives (Clip a b c d) k = absurd (cc)
new_lives (Group a b c) k = absurd (cc)
new_lives (Join a b c d) k = absurd (cc)
new_lives (Anti a b c d) k = absurd (cc)
new_lives (Coalesce a) k = absurd (cc)
new_lives (Mean a b) k = mean_lives a b
new_lives (Top a b c d) k = absurd (cc)
new_lives (Follow a b c d e) k = absurd (cc)

pub lives_ahead : (n : Node) (texts : List (List ℕ)) (x y : ℕ) (carried left right out : List Edge) → has_known_lives n ≡ true →
    KeepsLives n texts x y carried left right out → KeepsAhead plain_cells n texts x y left right out
lives_ahead n texts x y carried left right out k l = record {
  left_history = l.sides.left_history;
  right_history = l.sides.right_history;
  left_placed = l.sides.left_placed;
  right_placed = l.sides.right_placed;
  told = (new_lives n k).tells x y l.sides.left_low left right out l.sides.left_history l.sides.order l.sides.real l.sides.below l.told;
}

pub lives_first : (n : Node) (texts : List (List ℕ)) → KeepsLives n texts 0 0 [] [] [] []
lives_first n texts = record {
  sides = sides_first texts _;
  told = SameBag-refl [];
  waits = SameBag-refl [];
}

pub lives_opening : (n : Node) (texts : List (List ℕ)) (x y : ℕ) (carried : List Edge) → carried ≡ [] → x ≡ 0 → y ≡ 0 → KeepsLives n texts x y carried [] [] []
lives_opening n texts x y carried empty left right = rw (empty, left, right) (lives_first n texts)

pub lives_longer : (n : Node) (new old : List (List ℕ)) (x y : ℕ) (carried left right out : List Edge) → BeginsWith new old →
    KeepsLives n old x y carried left right out → KeepsLives n new x y carried left right out
lives_longer n new old x y carried left right out b k = record {
  sides = sides_longer new old x y (node_closes n x y) left right out b k.sides;
  told = k.told;
  waits = k.waits;
}

plain : (n : Node) → has_known_lives n ≡ true → has_expressions n ≡ false
plain (Delay i by) k = refl
plain (Hop i size period) k = refl
plain (Duration i by) k = refl
plain (Source a) k = refl
plain (Where a b) k = absurd (cc)
plain (Select a b) k = absurd (cc)
plain (Union a b) k = refl
plain (Extend a b) k = refl
plain (Session a b c) k = refl
plain (Clip a b c d) k = refl
plain (Group a b c) k = refl
plain (Join a b c d) k = refl
plain (Anti a b c d) k = refl
plain (Coalesce a) k = refl
plain (Mean a b) k = refl
plain (Top a b c d) k = refl
plain (Follow a b c d e) k = refl

pub lives_rows : (n : Node) (texts : List (List ℕ)) (x y : ℕ) (carried left right out : List Edge) → has_known_lives n ≡ true → AreDistinct texts →
    KeepsLives n texts x y carried left right out → StandsRead texts (node_closes n x y) out (node_events n (read_of texts left) (read_of texts right))
lives_rows n texts x y carried left right out k apart l =
    ahead_read (λ test row. false) (λ items row. row) n texts x y left right out (plain n k) apart l.sides.left_low l.sides.right_low (lives_ahead n texts x y carried left right out k l)
