-- Edges that wait: those in a line and the others.
use Rattle.std.specs.Prelude.{◌≡◌, ℕ, zero, suc, ◌+◌, ◌-◌, ◌<◌, ◌≤◌, nat_eq, true, false, cond, List, [], ◌∷◌, ◌++◌, length, map, get_or, take, drop, refl}
use Rattle.std.proofs.Common.{sym, ◌∙◌, ap, subst, arith}
use Rattle.std.proofs.lemmas.Bool.Decides.{nat_tests}
use Rattle.std.proofs.lemmas.List.{take_more, map-append}
use Rattle.tw_rows.specs.Bag.{total}
use Rattle.tw_rows.specs.declared.edge.Edge.{Edge}
use Rattle.tw_rows.proofs.Bags.{total-append, total-map}
use Rattle.edge_history.specs.Order.{failing, is_from, is_below}
use Rattle.end_queue.specs.Pending.{Pending, put_pending}
use Rattle.sweep_laws.specs.Sweeps.{SyncsRise}
use Rattle.sweep_sides.specs.Waiting.{queued, AreTimed}
use Rattle.snapshot_agg.specs.Waiting.{own_pending}
use Rattle.sweep_laws.proofs.Sides.{rise_drop}
use Rattle.tw_rows.proofs.Fronts.{total_more}
use Rattle.snapshot_agg.proofs.PuttingOff.{total-put_pending, pushed, own_test, from_test, below_later, Popped}

-- ONE EDGE MORE
module _ (old new : List Pending) (e : Edge) (more : (w : Pending → ℕ) → total w new ≡ total w old + w (own_pending e)) where
  pub edges_more : (w : Edge → ℕ) → total w (queued new) ≡ total w (queued old) + w e
  edges_more w =
      let a = total-map w (λ (p : Pending). p.edge) new in
      let b = total-map w (λ (p : Pending). p.edge) old in
      let c = more (λ p. w p.edge) in
      omega (arith, a, b, c)

  pub own_more : AreTimed old → AreTimed new
  own_more h =
      let c = more (λ p. cond (nat_eq p.at p.edge.sync) 0 1) in
      let z = own_test e.sync e.sync refl in
      omega (arith, c, z, h)

  pub later_more : (to : ℕ) → to ≤ e.sync → failing (is_from to) (queued old) ≡ 0 → failing (is_from to) (queued new) ≡ 0
  later_more to low h =
      let a = edges_more (λ x. cond (is_from to x) 0 1) in
      let z = from_test to e.sync low in
      omega (arith, a, z, h)

pub more_in_line : (w : Pending → ℕ) (others : List Pending) (line line2 : List Edge) (e : Edge) → line2 ≡ line ++ e ∷ [] →
    total w (others ++ map own_pending line2) ≡ total w (others ++ map own_pending line) + w (own_pending e)
more_in_line w others line line2 e is =
    let a = total-append w others (map own_pending line2) in
    let b = total-append w others (map own_pending line) in
    let c = total-map w own_pending line2 in
    let d = total-map w own_pending line in
    let f = pushed (λ x. w (own_pending x)) line line2 e is in
    omega (arith, a, b, c, d, f)

pub more_others : (w : Pending → ℕ) (others others2 : List Pending) (line : List Edge) (e : Edge) → others2 ≡ put_pending (own_pending e) others →
    total w (others2 ++ map own_pending line) ≡ total w (others ++ map own_pending line) + w (own_pending e)
more_others w others others2 line e is =
    let a = total-append w others2 (map own_pending line) in
    let b = total-append w others (map own_pending line) in
    let c = ap (total w) is ∙ total-put_pending w (own_pending e) others in
    omega (arith, a, b, c)

-- THE LINE
pub last_rises : (xs : List Edge) (last e : Edge) → 0 < length xs → last ≡ get_or xs (length xs - 1) last → last.sync ≤ e.sync → SyncsRise 0 xs → SyncsRise 0 (xs ++ e ∷ [])
last_rises xs last e some is le h = go 0 xs some is h
  where
    go : (r : ℕ) (ys : List Edge) → 0 < length ys → last ≡ get_or ys (length ys - 1) last → SyncsRise r ys → SyncsRise r (ys ++ e ∷ [])
    go r [] more at k = absurd (omega (arith, more))
    go r (y ∷ []) more at k = (k.0, (subst (λ x. x.sync ≤ e.sync) at le, tt))
    go r (y ∷ z ∷ zs) more at k = (k.0, go y.sync (z ∷ zs) (omega arith) (let n : length (y ∷ z ∷ zs) - 1 ≡ suc (length (z ∷ zs) - 1) = omega arith in subst (λ k. last ≡ get_or (y ∷ z ∷ zs) k last) n at) k.1)

pub only_rises : (xs : List Edge) (e : Edge) → (0 < length xs → false ≡ true) → SyncsRise 0 (xs ++ e ∷ [])
only_rises [] e none = (omega arith, tt)
only_rises (x ∷ xs) e none = absurd (let f = none (omega arith) in cc)

pub all_later : (t r : ℕ) (xs : List Edge) → t ≤ r → SyncsRise r xs → failing (is_from t) xs ≡ 0
all_later t r [] low h = refl
all_later t r (x ∷ xs) low h =
    let at : t ≤ x.sync = let a = h.0 in omega (arith, a, low) in
    let z = from_test t x.sync at in
    let rest = all_later t x.sync xs at h.1 in
    omega (arith, z, rest)

pub later_from : (t : ℕ) (xs : List Edge) (i : ℕ) (e : Edge) → i < length xs → e ≡ get_or xs i e → t ≤ e.sync → SyncsRise 0 xs → failing (is_from t) (drop i xs) ≡ 0
later_from t xs i e low is late h = go 0 xs i low is h
  where
    go : (r : ℕ) (ys : List Edge) (i : ℕ) → i < length ys → e ≡ get_or ys i e → SyncsRise r ys → failing (is_from t) (drop i ys) ≡ 0
    go r [] i low at k = absurd (omega (arith, low))
    go r (y ∷ ys) zero low at k =
        let le : t ≤ y.sync = subst (λ x. t ≤ x.sync) at late in
        let z = from_test t y.sync le in
        let rest = all_later t y.sync ys le k.1 in
        omega (arith, z, rest)
    go r (y ∷ ys) (suc i) low at k = go y.sync ys i (omega (arith, low)) at k.1

pub below_next : (t : ℕ) (xs : List Edge) (i : ℕ) (e : Edge) → i < length xs → e ≡ get_or xs i e → e.sync < t → failing (is_below t) (take i xs) ≡ 0 → failing (is_below t) (take (i + 1) xs) ≡ 0
below_next t xs i e less is early h =
    let a = total_more (λ x. cond {A = ℕ} (is_below t x) 0 1) xs i e less in
    let b : is_below t (get_or xs i e) ≡ true = ap (is_below t) (sym is) ∙ grind (arith, nat_tests) in
    let c = ap (λ k. cond {A = ℕ} k 0 1) b in
    omega (arith, a, c, h)

drop_next : (n : ℕ) (xs rest : List Edge) (x : Edge) → drop n xs ≡ x ∷ rest → drop (suc n) xs ≡ rest
drop_next zero [] rest x e = absurd (cc)
drop_next zero (y ∷ xs) rest x e = ap (drop 1) e
drop_next (suc n) [] rest x e = absurd (cc)
drop_next (suc n) (y ∷ xs) rest x e = drop_next n xs rest x e

pub next_dropped : (n : ℕ) (xs rest : List Edge) (x : Edge) → drop n xs ≡ x ∷ rest → drop (n + 1) xs ≡ rest
next_dropped n xs rest x e = let z : n + 1 ≡ suc n = omega arith in ap (λ k. drop k xs) z ∙ drop_next n xs rest x e

take_next : (n : ℕ) (xs rest : List Edge) (x : Edge) → drop n xs ≡ x ∷ rest → take (suc n) xs ≡ take n xs ++ x ∷ []
take_next zero [] rest x e = absurd (cc)
take_next zero (y ∷ xs) rest x e = ap (take 1) e
take_next (suc n) [] rest x e = absurd (cc)
take_next (suc n) (y ∷ xs) rest x e = ap (λ l. y ∷ l) (take_next n xs rest x e)

append_later : (xs ys zs : List Edge) → (xs ++ ys) ++ zs ≡ xs ++ (ys ++ zs)
append_later [] ys zs = refl
append_later (x ∷ xs) ys zs = ap (λ l. x ∷ l) (append_later xs ys zs)

pub next_moved : (n : ℕ) (xs rest old now next : List Edge) (x : Edge) → drop n xs ≡ x ∷ rest → now ≡ old ++ take n xs → next ≡ now ++ x ∷ [] → next ≡ old ++ take (n + 1) xs
next_moved n xs rest old now next x e so_far is =
    let z : n + 1 ≡ suc n = omega arith in
    is ∙ ap (λ l. l ++ x ∷ []) so_far ∙ append_later old (take n xs) (x ∷ []) ∙ ap (λ l. old ++ l) (sym (take_next n xs rest x e)) ∙ ap (λ k. old ++ take k xs) (sym z)

pub rises_on : (n : ℕ) (xs ys : List Edge) → ys ≡ drop n xs → SyncsRise 0 xs → SyncsRise 0 ys
rises_on n xs ys is h = subst (SyncsRise 0) (sym is) (rise_drop n 0 xs h)

-- copies
pub one_copied : (old now next : List Edge) (xs : List Edge) (i : ℕ) (x y : Edge) → i < length xs → x ≡ get_or xs i x → y ≡ x → now ≡ old ++ take i xs → next ≡ now ++ y ∷ [] →
    next ≡ old ++ take (i + 1) xs
one_copied old now next xs i x y low is same so_far push =
    push ∙ ap (λ l. l ++ y ∷ []) so_far ∙ append_later old (take i xs) (y ∷ [])
    ∙ ap (λ l. old ++ l) (ap (λ z. take i xs ++ z ∷ []) (same ∙ is) ∙ sym (take_more xs i x low))

own_edges : (line : List Edge) → queued (map own_pending line) ≡ line
own_edges [] = refl
own_edges (e ∷ line) = ap (λ l. e ∷ l) (own_edges line)

pub edges_both : (others : List Pending) (line : List Edge) → queued (others ++ map own_pending line) ≡ queued others ++ line
edges_both others line = map-append (λ (p : Pending). p.edge) others (map own_pending line) ∙ ap (λ l. queued others ++ l) (own_edges line)

pub length_both : (others : List Pending) (line : List Edge) → length (others ++ map own_pending line) ≡ length others + length line
length_both [] [] = refl
length_both [] (e ∷ line) = let r = length_both [] line in omega (arith, r)
length_both (p ∷ others) line = let r = length_both others line in omega (arith, r)

-- WHAT IS DUE IS TAKEN OUT
own_line : (line : List Edge) → AreTimed (map own_pending line)
own_line [] = refl
own_line (e ∷ line) = let r = own_line line in let z = own_test e.sync e.sync refl in omega (arith, r, z)

own_whole : (others : List Pending) (line : List Edge) → AreTimed others → AreTimed (others ++ map own_pending line)
own_whole others line h =
    let a = total-append (λ (p : Pending). cond {A = ℕ} (nat_eq p.at p.edge.sync) 0 1) others (map own_pending line) in
    let b = own_line line in
    omega (arith, a, b, h)

pub own_others : (others : List Pending) (line : List Edge) → AreTimed (others ++ map own_pending line) → AreTimed others
own_others others line h = let a = total-append (λ (p : Pending). cond {A = ℕ} (nat_eq p.at p.edge.sync) 0 1) others (map own_pending line) in omega (arith, a, h)

split_total : (w : Edge → ℕ) (n : ℕ) (xs : List Edge) → total w xs ≡ total w (take n xs) + total w (drop n xs)
split_total w zero xs = omega arith
split_total w (suc n) [] = omega arith
split_total w (suc n) (x ∷ xs) = let r = split_total w n xs in omega (arith, r)

pub both_popped : (to n : ℕ) (others others2 : List Pending) (line line2 : List Edge) (due0 due1 due2 : List Edge) → Popped to others others2 due0 due1 →
    failing (is_below to) (take n line) ≡ 0 → failing (is_from to) (drop n line) ≡ 0 → line2 ≡ drop n line → due2 ≡ due1 ++ take n line →
    Popped to (others ++ map own_pending line) (others2 ++ map own_pending line2) due0 due2
both_popped to n others others2 line line2 due0 due1 due2 p early late rest moved = record {
  parts = λ w.
      let a = ap (total w) moved ∙ total-append w due1 (take n line) in
      let b = ap (total w) (edges_both others line) ∙ total-append w (queued others) line in
      let c = ap (total w) (edges_both others2 line2) ∙ total-append w (queued others2) line2 in
      let d = ap (total w) rest in
      let e = split_total w n line in
      let f = p.parts w in
      omega (arith, a, b, c, d, e, f);
  below = λ c low k.
      let a = ap (failing (is_below c)) moved ∙ total-append (λ (x : Edge). cond {A = ℕ} (is_below c x) 0 1) due1 (take n line) in
      let b = p.below c low k in
      let z = below_later to c (take n line) low early in
      omega (arith, a, b, z);
  later =
      let a = ap (failing (is_from to)) (edges_both others2 line2) ∙ total-append (λ (x : Edge). cond {A = ℕ} (is_from to x) 0 1) (queued others2) line2 in
      let b = ap (failing (is_from to)) rest in
      let d = p.later in
      omega (arith, a, b, d, late);
  own = own_whole others2 line2 p.own;
}

-- ends that are kept with their rows, and what waits
pub pending_edges : (ends : List Edge) (waiting : List Pending) → queued (map own_pending ends ++ waiting) ≡ ends ++ queued waiting
pending_edges [] waiting = refl
pending_edges (e ∷ ends) waiting = ap (λ l. e ∷ l) (pending_edges ends waiting)

pub pending_length : (ends : List Edge) (waiting : List Pending) → length (map own_pending ends ++ waiting) ≡ length ends + length waiting
pending_length [] waiting = omega arith
pending_length (e ∷ ends) waiting = let r = pending_length ends waiting in omega (arith, r)

pub pending_timed : (ends : List Edge) (waiting : List Pending) → AreTimed waiting → AreTimed (map own_pending ends ++ waiting)
pending_timed [] waiting h = h
pending_timed (e ∷ ends) waiting h = let r = pending_timed ends waiting h in let z = own_test e.sync e.sync refl in omega (arith, r, z)

pub pending_own : (ends : List Edge) (waiting : List Pending) → AreTimed (map own_pending ends ++ waiting) → AreTimed waiting
pending_own [] waiting h = h
pending_own (e ∷ ends) waiting h = pending_own ends waiting (omega (arith, h))
