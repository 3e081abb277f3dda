-- Edges that stand for events, and how they go on to do so.
use Rattle.std.specs.Prelude.{◌≡◌, ℕ, ◌+◌, ◌*◌, ◌≤◌, ◌&&◌, nat_lt, nat_le, Bool, true, false, cond, List, [], ◌∷◌, ◌++◌, map, flat_map, refl}
use Rattle.std.proofs.Common.{sym, ◌∙◌, ap, arith}
use Rattle.std.proofs.lemmas.Bool.Decides.{nat_tests}
use Rattle.tw_rows.specs.Bag.{SameBag, total}
use Rattle.tw_rows.specs.Instant.{inf}
use Rattle.tw_rows.specs.Event.{cut_one, cut}
use Rattle.tw_rows.specs.declared.cells.Datum.{Datum}
use Rattle.tw_rows.specs.declared.edge.Edge.{Edge}
use Rattle.tw_rows.proofs.Bags.{total-append, total-map, total-flat_map, total_same, total-add, total_zero}
use Rattle.edge_history.specs.Order.{failing, rank, Rises, is_real, is_below, is_from, ends_it, starts_it, IsHistory}
use Rattle.edge_history.specs.History.{CellEvent, is_open}
use Rattle.edge_history.specs.Balance.{given, taken, StandsFor, is_settled, is_single, Told, news_of, news}
use Rattle.edge_history.proofs.Sums.{sum_le, sum_eq, weaker}

-- an event's life begins before it ends, and ends at infinity at the latest
abbrev pub is_event : CellEvent → Bool
is_event e = nat_lt e.start e.end && nat_le e.end inf

-- what an edge gives and takes below c, by weight
abbrev pub gain : (CellEvent → ℕ) → ℕ → Edge → ℕ
gain w c e = total w (cut_one c (given e))

abbrev pub loss : (CellEvent → ℕ) → ℕ → Edge → ℕ
loss w c e = total w (flat_map (cut_one c) (taken e))

pub stands_left : (w : CellEvent → ℕ) (c : ℕ) (h : List Edge) (es : List CellEvent) →
    total w (cut c (es ++ flat_map taken h)) ≡ total w (cut c es) + total (loss w c) h
stands_left w c h es =
    total-flat_map w (cut_one c) (es ++ flat_map taken h)
    ∙ (total-append (λ e. total w (cut_one c e)) es (flat_map taken h)
    ∙ (ap (λ n. n + total (λ e. total w (cut_one c e)) (flat_map taken h)) (sym (total-flat_map w (cut_one c) es))
    ∙ ap (λ n. total w (cut c es) + n)
    (total-flat_map (λ e. total w (cut_one c e)) taken h
    ∙ total_same _ _ h (λ e. sym (total-flat_map w (cut_one c) (taken e))))))

pub stands_right : (w : CellEvent → ℕ) (c : ℕ) (h : List Edge) → total w (cut c (map given h)) ≡ total (gain w c) h
stands_right w c h = total-flat_map w (cut_one c) (map given h) ∙ total-map (λ e. total w (cut_one c e)) given h

-- the two forms of standing
pub stands_by_weight : (c : ℕ) (h : List Edge) (es : List CellEvent) →
    ((w : CellEvent → ℕ) → total w (cut c es) + total (loss w c) h ≡ total (gain w c) h) → StandsFor c h es
stands_by_weight c h es k = record { weigh = λ w. stands_left w c h es ∙ (k w ∙ sym (stands_right w c h)) }

pub weight_of_standing : (c : ℕ) (h : List Edge) (es : List CellEvent) → StandsFor c h es → (w : CellEvent → ℕ) →
    total w (cut c es) + total (loss w c) h ≡ total (gain w c) h
weight_of_standing c h es k w = sym (stands_left w c h es) ∙ (k.weigh w ∙ stands_right w c h)

-- what a settled edge says is the same later
settled_gain : (w : CellEvent → ℕ) (c d : ℕ) (e : Edge) → c ≤ d → d ≤ inf → is_settled c e ≡ true →
    gain w c e ≡ gain w d e
settled_gain w c d e low high k = grind (arith, nat_tests)

settled_loss : (w : CellEvent → ℕ) (c d : ℕ) (e : Edge) → c ≤ d → d ≤ inf → is_settled c e ≡ true →
    loss w c e ≡ loss w d e
settled_loss w c d e low high k = grind (arith, nat_tests)

-- one event's news
news_one : (w : CellEvent → ℕ) (c d : ℕ) (e : CellEvent) → c ≤ d → d ≤ inf → is_event e ≡ true →
    total w (cut_one d e) + total (loss w d) (news_of c d e) ≡ total w (cut_one c e) + total (gain w d) (news_of c d e)
news_one w c d e low high s = grind (arith, nat_tests)

pub news_all : (w : CellEvent → ℕ) (c d : ℕ) (es : List CellEvent) → c ≤ d → d ≤ inf → failing is_event es ≡ 0 →
    total w (cut d es) + total (loss w d) (news c d es) ≡ total w (cut c es) + total (gain w d) (news c d es)
news_all w c d es low high v =
    let one = sum_eq is_event (λ e. total w (cut_one d e) + total (loss w d) (news_of c d e))
    (λ e. total w (cut_one c e) + total (gain w d) (news_of c d e)) es (λ e k. news_one w c d e low high k) v in
    let a1 = total-flat_map w (cut_one d) es in
    let a2 = total-flat_map w (cut_one c) es in
    let a3 = total-flat_map (loss w d) (news_of c d) es in
    let a4 = total-flat_map (gain w d) (news_of c d) es in
    let b1 = total-add (λ e. total w (cut_one d e)) (λ e. total (loss w d) (news_of c d e)) es in
    let b2 = total-add (λ e. total w (cut_one c e)) (λ e. total (gain w d) (news_of c d e)) es in
    omega (arith, one, a1, a2, a3, a4, b1, b2)

pub stands_more : (c d : ℕ) (out answer : List Edge) (es : List CellEvent) → c ≤ d → d ≤ inf → failing is_event es ≡ 0 →
    failing (is_settled c) out ≡ 0 → StandsFor c out es → SameBag answer (news c d es) → StandsFor d (out ++ answer) es
stands_more c d out answer es low high v settled h same = stands_by_weight d (out ++ answer) es (λ w.
    let k = weight_of_standing c out es h w in
    let s1 = sum_eq (is_settled c) (gain w c) (gain w d) out (λ e p. settled_gain w c d e low high p) settled in
    let s2 = sum_eq (is_settled c) (loss w c) (loss w d) out (λ e p. settled_loss w c d e low high p) settled in
    let n = news_all w c d es low high v in
    let g = same.weigh (gain w d) in
    let l = same.weigh (loss w d) in
    let ga = total-append (gain w d) out answer in
    let la = total-append (loss w d) out answer in
    omega (arith, k, s1, s2, n, g, l, ga, la))

-- each edge of the news from c to d
news_settled : (c d : ℕ) (e : CellEvent) → c ≤ d → d ≤ inf → is_event e ≡ true →
    failing (is_settled d) (news_of c d e) ≡ 0
news_settled c d e low high k = grind (arith, nat_tests)

news_from : (c d : ℕ) (e : CellEvent) → failing (is_from c) (news_of c d e) ≡ 0
news_from c d e = grind (arith, nat_tests)

news_single : (c d : ℕ) (e : CellEvent) → is_event e ≡ true → failing is_single (news_of c d e) ≡ 0
news_single c d e k = grind (arith, nat_tests)

-- order of two lists, the first below c and the second from it on
pub rises_weaker : (r s : ℕ) (xs : List Edge) → s ≤ r → Rises r xs → Rises s xs
rises_weaker r s [] h k = tt
rises_weaker r s (x ∷ xs) h k = (omega (arith, h, k), k.1)

rises_from_c : (c : ℕ) (xs : List Edge) → failing (is_from c) xs ≡ 0 → Rises 0 xs → Rises (2 * c) xs
rises_from_c c [] h k = tt
rises_from_c c (x ∷ xs) h k = (head (is_from c x) refl, k.1)
  where
    head : (b : Bool) → is_from c x ≡ b → 2 * c ≤ rank x
    head true e = grind (arith, nat_tests)
    head false e = let z = ap (λ b. cond {A = ℕ} b 0 1) e in absurd (omega (arith, h, z))

rises_append : (c r : ℕ) (xs ys : List Edge) → r ≤ 2 * c → failing (is_below c) xs ≡ 0 → Rises r xs → Rises (2 * c) ys →
    Rises r (xs ++ ys)
rises_append c r [] ys low below a b = rises_weaker (2 * c) r ys low b
rises_append c r (x ∷ xs) ys low below a b =
    (a.0, pick (is_below c x) refl (λ l n. rises_append c (rank x) xs ys l n a.1 b))
  where
    pick : (t : Bool) → is_below c x ≡ t → (rank x ≤ 2 * c → failing (is_below c) xs ≡ 0 → Rises (rank x) (xs ++ ys)) →
        Rises (rank x) (xs ++ ys)
    pick true e rest =
        let z = ap (λ b. cond {A = ℕ} b 0 1) e in
        rest (grind (arith, nat_tests)) (omega (arith, below, z))
    pick false e rest = let z = ap (λ b. cond {A = ℕ} b 0 1) e in absurd (omega (arith, below, z))

pub order_from : (c : ℕ) (out answer : List Edge) → failing (is_below c) out ≡ 0 → Rises 0 out →
    failing (is_from c) answer ≡ 0 → Rises 0 answer → Rises 0 (out ++ answer)
order_from c out answer below up from later =
    rises_append c 0 out answer (omega arith) below up (rises_from_c c answer from later)

settled_below : (c : ℕ) (x : Edge) → is_settled c x ≡ true → is_below c x ≡ true
settled_below c x k = grind (arith, nat_tests)

settled_later : (c d : ℕ) (x : Edge) → c ≤ d → is_settled c x ≡ true → is_settled d x ≡ true
settled_later c d x low k = grind (arith, nat_tests)

pub told_below : (c : ℕ) (out : List Edge) → failing (is_settled c) out ≡ 0 → failing (is_below c) out ≡ 0
told_below c out settled = weaker (is_settled c) (is_below c) out (λ x k. settled_below c x k) settled

-- the answer lies at or above the closing before, and has no interval edges
pub answer_from : (c d : ℕ) (answer : List Edge) (es : List CellEvent) → SameBag answer (news c d es) →
    failing (is_from c) answer ≡ 0
answer_from c d answer es same =
    same.weigh (λ x. cond (is_from c x) 0 1)
    ∙ (total-flat_map (λ x. cond (is_from c x) 0 1) (news_of c d) es
    ∙ (total_same _ (λ e. 0) es (λ e. news_from c d e) ∙ total_zero es))

pub answer_single : (c d : ℕ) (answer : List Edge) (es : List CellEvent) → failing is_event es ≡ 0 →
    SameBag answer (news c d es) → failing is_single answer ≡ 0
answer_single c d answer es v same =
    same.weigh (λ x. cond (is_single x) 0 1)
    ∙ (total-flat_map (λ x. cond (is_single x) 0 1) (news_of c d) es
    ∙ (sum_eq is_event _ (λ e. 0) es (λ e k. news_single c d e k) v ∙ total_zero es))

-- an answer in order that is the news, as a multiset
pub told_more : (c d : ℕ) (out answer : List Edge) (es : List CellEvent) → c ≤ d → d ≤ inf → failing is_event es ≡ 0 →
    Told c out es → Rises 0 answer → SameBag answer (news c d es) → Told d (out ++ answer) es
told_more c d out answer es low high v told up same = record {
  order = order_from c out answer (told_below c out told.settled) told.order (answer_from c d answer es same) up;
  settled =
      let a = total-append (λ x. cond {A = ℕ} (is_settled d x) 0 1) out answer in
      let b = weaker (is_settled c) (is_settled d) out (λ x k. settled_later c d x low k) told.settled in
      let e = same.weigh (λ x. cond (is_settled d x) 0 1)
      ∙ (total-flat_map (λ x. cond (is_settled d x) 0 1) (news_of c d) es
      ∙ (sum_eq is_event _ (λ e. 0) es (λ e k. news_settled c d e low high k) v ∙ total_zero es)) in
      omega (arith, a, b, e);
  stands = stands_more c d out answer es low high v told.settled told.stands same;
}

-- the events may be others, of which the same is known
pub stands_same : (c : ℕ) (out : List Edge) (es fs : List CellEvent) → SameBag (cut c es) (cut c fs) →
    StandsFor c out es → StandsFor c out fs
stands_same c out es fs same stands = stands_by_weight c out fs (λ w.
    let k = weight_of_standing c out es stands w in
    let s = same.weigh w in
    omega (arith, k, s))

pub told_same : (c : ℕ) (out : List Edge) (es fs : List CellEvent) → SameBag (cut c es) (cut c fs) → Told c out es →
    Told c out fs
told_same c out es fs same told =
    record { order = told.order; settled = told.settled; stands = stands_same c out es fs same told.stands }

-- an answer is paired, since it stands for events
abbrev opens : List Datum → ℕ → CellEvent → ℕ
opens cells start e = cond (is_open cells start e) 1 0

settled_ends : (cells : List Datum) (start c : ℕ) (e : Edge) → c ≤ inf → is_settled c e ≡ true →
    cond {A = ℕ} (ends_it cells start e) 1 0 ≡ loss (opens cells start) c e
settled_ends cells start c e high k = grind (arith, nat_tests)

settled_starts : (cells : List Datum) (start c : ℕ) (e : Edge) → c ≤ inf → is_settled c e ≡ true →
    gain (opens cells start) c e ≤ cond {A = ℕ} (starts_it cells start e) 1 0
settled_starts cells start c e high k = grind (arith, nat_tests)

pub settled_real : (c : ℕ) (e : Edge) → c ≤ inf → is_settled c e ≡ true → is_real e ≡ true
settled_real c e high k = grind (arith, nat_tests)

pub told_history : (c : ℕ) (out : List Edge) (es : List CellEvent) → c ≤ inf → Told c out es → IsHistory out
told_history c out es high told = record {
  order = told.order;
  real = weaker (is_settled c) is_real out (λ x k. settled_real c x high k) told.settled;
  paired = λ cells start.
      let w = opens cells start in
      let k = weight_of_standing c out es told.stands w in
      let l = sum_eq (is_settled c) (λ e. cond (ends_it cells start e) 1 0) (loss w c) out
      (λ e p. settled_ends cells start c e high p) told.settled in
      let g = sum_le (is_settled c) (gain w c) (λ e. cond (starts_it cells start e) 1 0) out
      (λ e p. settled_starts cells start c e high p) told.settled in
      omega (arith, k, l, g);
}

pub before_all : (w : CellEvent → ℕ) (e : CellEvent) → total w (cut_one 0 e) ≡ 0
before_all w e = grind (arith, nat_tests)

pub told_nothing : (es : List CellEvent) → Told 0 [] es
told_nothing es = record {
  order = tt;
  settled = refl;
  stands = stands_by_weight 0 [] es
      (λ w. let a = total-flat_map w (cut_one 0) es
      ∙ (total_same _ (λ e. 0) es (λ e. before_all w e) ∙ total_zero es) in omega (arith, a));
}

-- news in two parts
split_one : (w : Edge → ℕ) (c t d : ℕ) (e : CellEvent) → c ≤ t → t ≤ d →
    total w (news_of c d e) ≡ total w (news_of c t e) + total w (news_of t d e)
split_one w c t d e low high = grind (arith, nat_tests)

pub news_in_parts : (c t d : ℕ) (es : List CellEvent) → c ≤ t → t ≤ d →
    SameBag (news c d es) (news c t es ++ news t d es)
news_in_parts c t d es low high = record {
  weigh = λ w.
      let a = total-flat_map w (news_of c d) es in
      let b = total_same _ (λ e. total w (news_of c t e) + total w (news_of t d e)) es
      (λ e. split_one w c t d e low high) in
      let n = total-add (λ e. total w (news_of c t e)) (λ e. total w (news_of t d e)) es in
      let x = total-flat_map w (news_of c t) es in
      let y = total-flat_map w (news_of t d) es in
      let z = total-append w (news c t es) (news t d es) in
      omega (arith, a, b, n, x, y, z);
}

none_between : (c : ℕ) (e : CellEvent) → news_of c c e ≡ []
none_between c e = grind (arith, nat_tests)

pub news_none : (c : ℕ) (es : List CellEvent) → news c c es ≡ []
news_none c [] = refl
news_none c (e ∷ es) = ap (λ l. l ++ news c c es) (none_between c e) ∙ news_none c es

-- news depends on what is known of the events alone
news_known : (w : Edge → ℕ) (c d : ℕ) (e : CellEvent) → d ≤ inf → is_event e ≡ true →
    total w (news_of c d e) ≡ total (λ x. total w (news_of c d x)) (cut_one d e)
news_known w c d e high k = grind (arith, nat_tests)

pub news_same : (c d : ℕ) (es fs : List CellEvent) → d ≤ inf → failing is_event es ≡ 0 → failing is_event fs ≡ 0 →
    SameBag (cut d es) (cut d fs) → SameBag (news c d es) (news c d fs)
news_same c d es fs high v u same = record {
  weigh = λ w.
      let go : (es : List CellEvent) → failing is_event es ≡ 0 →
      total w (news c d es) ≡ total (λ x. total w (news_of c d x)) (cut d es) = λ es v.
      total-flat_map w (news_of c d) es
      ∙ (sum_eq is_event _ _ es (λ e k. news_known w c d e high k) v
      ∙ sym (total-flat_map (λ x. total w (news_of c d x)) (cut_one d) es)) in
      go es v ∙ (same.weigh (λ x. total w (news_of c d x)) ∙ sym (go fs u));
}

-- the edges of news are real
news_real : (c d : ℕ) (e : CellEvent) → d ≤ inf → is_event e ≡ true → failing is_real (news_of c d e) ≡ 0
news_real c d e high k = grind (arith, nat_tests)

pub answer_real : (c d : ℕ) (answer : List Edge) (es : List CellEvent) → d ≤ inf → failing is_event es ≡ 0 →
    SameBag answer (news c d es) → failing is_real answer ≡ 0
answer_real c d answer es high v same =
    same.weigh (λ x. cond (is_real x) 0 1)
    ∙ (total-flat_map (λ x. cond (is_real x) 0 1) (news_of c d) es
    ∙ (sum_eq is_event _ (λ e. 0) es (λ e k. news_real c d e high k) v ∙ total_zero es))

news_below : (c d : ℕ) (e : CellEvent) → failing (is_below d) (news_of c d e) ≡ 0
news_below c d e = grind (arith, nat_tests)

pub answer_below : (c d : ℕ) (answer : List Edge) (es : List CellEvent) → SameBag answer (news c d es) →
    failing (is_below d) answer ≡ 0
answer_below c d answer es same =
    same.weigh (λ x. cond (is_below d x) 0 1)
    ∙ (total-flat_map (λ x. cond (is_below d x) 0 1) (news_of c d) es
    ∙ (total_same _ (λ e. 0) es (λ e. news_below c d e) ∙ total_zero es))
