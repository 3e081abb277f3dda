-- A list of batches whose last one changes.
use Rattle.std.proofs.Common.{◌≡◌, ◌<◌, ℕ, zero, suc, ◌+◌, ◌-◌, List, [], ◌∷◌, ◌++◌, length, get_or, set, refl, ap, sym, arith}
use Rattle.std.proofs.lemmas.List.{length_push}
use Rattle.batch.specs.Rows.{Row, Table}
use Rattle.edge_stream.specs.Listing.{last_room}

pub last_room-last : (xs : List Table) (k : ℕ) (b : Table) → suc k ≡ length xs → b ≡ get_or xs k b → last_room xs ≡ b.capacity - length b.rows
last_room-last [] k b last is = absurd (omega (arith, last))
last_room-last (x ∷ []) zero b last is = ap (λ t. t.capacity - length t.rows) (sym is)
last_room-last (x ∷ []) (suc k) b last is = absurd (omega (arith, last))
last_room-last (x ∷ y ∷ ys) zero b last is = absurd (omega (arith, last))
last_room-last (x ∷ y ∷ ys) (suc k) b last is = last_room-last (y ∷ ys) k b (omega (arith, last)) is

pub last_room-set : (xs : List Table) (k : ℕ) (b : Table) → suc k ≡ length xs → last_room (set xs k b) ≡ b.capacity - length b.rows
last_room-set [] k b last = absurd (omega (arith, last))
last_room-set (x ∷ []) zero b last = refl
last_room-set (x ∷ []) (suc k) b last = absurd (omega (arith, last))
last_room-set (x ∷ y ∷ ys) zero b last = absurd (omega (arith, last))
last_room-set (x ∷ y ∷ []) (suc zero) b last = refl
last_room-set (x ∷ y ∷ z ∷ zs) (suc zero) b last = absurd (omega (arith, last))
last_room-set (x ∷ y ∷ ys) (suc (suc k)) b last = last_room-set (y ∷ ys) (suc k) b (omega (arith, last))

pub last_room-push : (xs : List Table) (b : Table) → last_room (xs ++ b ∷ []) ≡ b.capacity - length b.rows
last_room-push [] b = refl
last_room-push (x ∷ []) b = refl
last_room-push (x ∷ y ∷ ys) b = last_room-push (y ∷ ys) b

-- the last batch got a row
module _ (xs : List Table) (k : ℕ) (b new : Table) (r : Row) (last : suc k ≡ length xs) (is : b ≡ get_or xs k b) (more : new ≡ record b { rows = b.rows ++ r ∷ [] }) where
  pub last_room-less : 0 < last_room xs → last_room (set xs k new) + 1 ≡ last_room xs
  last_room-less some =
      let was = last_room-last xs k b last is in
      let now = last_room-set xs k new last in
      let capacity = ap (λ t. t.capacity) more in
      let rows = ap (λ t. length t.rows) more in
      omega (arith, some, was, now, capacity, rows, length_push b.rows r)
