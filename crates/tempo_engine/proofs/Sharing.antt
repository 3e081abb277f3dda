-- Parts, taken one after another.
use Rattle.std.proofs.Common.{◌≡◌, ◌+◌, ◌<◌, get_or, ℕ, zero, suc, List, [], ◌∷◌, ◌++◌, length, map, take, drop, refl, sym, ◌∙◌, ap, arith}
use Rattle.std.proofs.Common.{Vec}
use Rattle.std.proofs.Math.Seq.{take-suc}
use Rattle.std.proofs.lemmas.List.{map-append}
use Rattle.edge_stream.specs.declared.saved.Saved.{Saved}
use Rattle.edge_stream.specs.declared.saved.SavedEntry.{SavedEntry}
use Rattle.tw_rows.specs.Bag.{total}
use Rattle.frozen_state.specs.declared.frozen.FrozenPart.{FrozenPart}
use Rattle.plan_model.specs.declared.node.Node.{Node}
use Rattle.frozen_state.specs.Forms.{shards_of}
use Rattle.std.specs.Prelude.{All}
use Rattle.tempo_engine.specs.Kept.{first_saved, shared_out}

module _ {X : Type 0} where
  pub drop_next : (n : ℕ) (xs ys : List X) (x : X) → drop n xs ≡ x ∷ ys → drop (suc n) xs ≡ ys
  drop_next zero [] ys x h = absurd (cc)
  drop_next zero (y ∷ xs) ys x h = (let e : xs ≡ ys = cc in e)
  drop_next (suc n) [] ys x h = absurd (cc)
  drop_next (suc n) (y ∷ xs) ys x h = drop_next n xs ys x h

  pub take_next : (n : ℕ) (xs ys : List X) (x : X) → drop n xs ≡ x ∷ ys → take (suc n) xs ≡ take n xs ++ x ∷ []
  take_next zero [] ys x h = absurd (cc)
  take_next zero (y ∷ xs) ys x h = (let e : y ≡ x = cc in ap (λ z. z ∷ []) e)
  take_next (suc n) [] ys x h = absurd (cc)
  take_next (suc n) (y ∷ xs) ys x h = ap (λ l. y ∷ l) (take_next n xs ys x h)

  pub drop_none : (n : ℕ) (xs : List X) → drop n xs ≡ [] → drop (suc n) xs ≡ []
  drop_none zero [] h = refl
  drop_none zero (y ∷ xs) h = absurd (cc)
  drop_none (suc n) [] h = refl
  drop_none (suc n) (y ∷ xs) h = drop_none n xs h

  pub take_none : (n : ℕ) (xs : List X) → drop n xs ≡ [] → take (suc n) xs ≡ take n xs
  take_none zero [] h = refl
  take_none zero (y ∷ xs) h = absurd (cc)
  take_none (suc n) [] h = refl
  take_none (suc n) (y ∷ xs) h = ap (λ l. y ∷ l) (take_none n xs h)

  drop_empty : (n : ℕ) → drop {A = X} n [] ≡ []
  drop_empty zero = refl
  drop_empty (suc n) = refl

  pub drop_drop : (n m : ℕ) (xs : List X) → drop m (drop n xs) ≡ drop (n + m) xs
  drop_drop zero m xs = ap (λ k. drop k xs) (omega arith)
  drop_drop (suc n) m [] = drop_empty m ∙ sym (drop_empty (suc n + m))
  drop_drop (suc n) m (x ∷ xs) = drop_drop n m xs ∙ ap (λ k. drop k (x ∷ xs)) (let e : suc (n + m) ≡ suc n + m = omega arith in e)

-- the entries of one part more
pub next_saved : (n : ℕ) (xs ys : List FrozenPart) (p : FrozenPart) → drop n xs ≡ p ∷ ys → map (λ q. q.saved) (take (suc n) xs) ≡ map (λ q. q.saved) (take n xs) ++ p.saved ∷ []
next_saved n xs ys p h = ap (λ l. map (λ q. q.saved) l) (take_next n xs ys p h) ∙ map-append (λ (q : FrozenPart). q.saved) (take n xs) (p ∷ [])

pub lists_more : {A : Type 0} (lists : List (Vec Saved A)) (one : Vec Saved A) → map (λ v. v.items) (lists ++ one ∷ []) ≡ map (λ v. v.items) lists ++ one.items ∷ []
lists_more [] one = refl
lists_more (l ∷ lists) one = ap (λ r. l.items ∷ r) (lists_more lists one)

-- one node more
pub shared_more : (counts : List ℕ) (n : ℕ) (parts : List FrozenPart) →
    shared_out (counts ++ n ∷ []) parts ≡ shared_out counts parts ++ map (λ p. p.saved) (take n (drop (total (λ k. k) counts) parts)) ∷ []
shared_more [] n parts = refl
shared_more (c ∷ counts) n parts =
    ap (λ l. map (λ p. p.saved) (take c parts) ∷ l) (shared_more counts n (drop c parts)
    ∙ ap (λ (rest : List FrozenPart). shared_out counts (drop c parts) ++ map (λ p. p.saved) (take n rest) ∷ []) (drop_drop c (total (λ k. k) counts) parts))

pub total_more : (counts : List ℕ) (n : ℕ) → total (λ k. k) (counts ++ n ∷ []) ≡ total (λ k. k) counts + n
total_more [] n = omega arith
total_more (c ∷ counts) n = (let e = total_more counts n in omega (arith, e))

-- and of a plan
module _ (workers : ℕ) (nodes : List Node) (i : ℕ) (d : Node) (low : i < length nodes) where
  abbrev counts_of : ℕ → List ℕ
  counts_of k = map (shards_of workers) (take k nodes)

  counts_append : (xs : List Node) → map (shards_of workers) (xs ++ get_or nodes i d ∷ []) ≡ map (shards_of workers) xs ++ shards_of workers (get_or nodes i d) ∷ []
  counts_append [] = refl
  counts_append (x ∷ xs) = ap (λ l. shards_of workers x ∷ l) (counts_append xs)

  counts_more : counts_of (suc i) ≡ counts_of i ++ shards_of workers (get_or nodes i d) ∷ []
  counts_more = ap (λ l. map (shards_of workers) l) (take-suc nodes i d low) ∙ counts_append (take i nodes)

  pub rest_next : (n : ℕ) (parts : List FrozenPart) → n ≡ shards_of workers (get_or nodes i d) →
      drop n (drop (total (λ k. k) (counts_of i)) parts) ≡ drop (total (λ k. k) (counts_of (suc i))) parts
  rest_next n parts is =
      drop_drop (total (λ k. k) (counts_of i)) n parts
      ∙ ap (λ k. drop k parts) (ap (λ k. total (λ m. m) (counts_of i) + k) is ∙ sym (total_more (counts_of i) (shards_of workers (get_or nodes i d))) ∙ ap (λ cs. total (λ k. k) cs) (sym counts_more))

  pub saved_next : (n : ℕ) (parts : List FrozenPart) → n ≡ shards_of workers (get_or nodes i d) →
      shared_out (counts_of i) parts ++ map (λ p. p.saved) (take n (drop (total (λ k. k) (counts_of i)) parts)) ∷ [] ≡ shared_out (counts_of (suc i)) parts
  saved_next n parts is =
      ap (λ k. shared_out (counts_of i) parts ++ map (λ p. p.saved) (take k (drop (total (λ m. m) (counts_of i)) parts)) ∷ []) is
      ∙ sym (shared_more (counts_of i) (shards_of workers (get_or nodes i d)) parts) ∙ ap (λ cs. shared_out cs parts) (sym counts_more)

-- what holds of the entries of all parts holds of those of a first one, if there is one
pub first_all : (P : List SavedEntry → Type 0) → P [] → (n : ℕ) (parts : List FrozenPart) → All (λ p. P p.saved) parts → P (first_saved (drop n parts))
first_all P none zero [] all = none
first_all P none zero (p ∷ parts) all = all 0 p (omega arith)
first_all P none (suc n) [] all = none
first_all P none (suc n) (p ∷ parts) all = first_all P none n parts (λ k d low. all (suc k) d (omega (arith, low)))
