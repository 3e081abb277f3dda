-- What a list and the pools are once an edge is added.
use Rattle.std.proofs.Common.{◌≡◌, ◌≤◌, ◌<◌, ℕ, zero, suc, ◌+◌, ◌-◌, ◌*◌, min, List, [], ◌∷◌, length, take, refl, ap, sym, ◌∙◌, subst, arith}
use Rattle.std.proofs.lemmas.List.{length_push, take_all}
use Rattle.tw_rows.specs.declared.edge.Edge.{Edge}
use Rattle.tw_rows.specs.declared.kind.Kind.{Kind}
use Rattle.tw_rows.specs.declared.kind.CellKind.{CellKind}
use Rattle.tw_rows.specs.declared.kind.CellKind.TheVariants.{Whole, Bit, Place}
use Rattle.batch.specs.PoolsView.{PoolsView, given, all_taken, all_given, batch_taken, batch_given, IsPartTaken, AreSomeTaken}
use Rattle.batch.proofs.PoolLaws.{payload_told, given-capacity, NoMore-all}
use Rattle.edge_stream.specs.Listing.{EdgeListView, cells_of, where_full, with_room, appended, IsFilled}
use Rattle.edge_stream.specs.Taking.{batches_taken, batches_given, room_taken, AreBatchesTaken}

-- a list that is to be opened is the same but for its batches
pub with_room-edges : (l : EdgeListView) → (with_room l).edges ≡ l.edges
with_room-edges l = pick l.room
  where
    pick : (r : ℕ) → (where_full r (record l { batches = l.batches + 1; room = l.capacity }) l).edges ≡ l.edges
    pick zero = refl
    pick (suc r) = refl

pub with_room-kinds : (l : EdgeListView) → (with_room l).kinds ≡ l.kinds
with_room-kinds l = pick l.room
  where
    pick : (r : ℕ) → (where_full r (record l { batches = l.batches + 1; room = l.capacity }) l).kinds ≡ l.kinds
    pick zero = refl
    pick (suc r) = refl

pub with_room-capacity : (l : EdgeListView) → (with_room l).capacity ≡ l.capacity
with_room-capacity l = pick l.room
  where
    pick : (r : ℕ) → (where_full r (record l { batches = l.batches + 1; room = l.capacity }) l).capacity ≡ l.capacity
    pick zero = refl
    pick (suc r) = refl

pub with_room-full : (l : EdgeListView) → l.room ≡ 0 → with_room l ≡ record l { batches = l.batches + 1; room = l.capacity }
with_room-full l none = ap (λ r. where_full r (record l { batches = l.batches + 1; room = l.capacity }) l) none

pub room_taken-full : (l : EdgeListView) (s : PoolsView) → l.room ≡ 0 → room_taken l s ≡ batch_taken s (cells_of l)
room_taken-full l s none = ap (λ r. where_full r (batch_taken s (cells_of l)) s) none

-- the parts of a list that one edge more leaves
pub appended-kinds : (l : EdgeListView) (e : Edge) → (appended l e).kinds ≡ l.kinds
appended-kinds l e = with_room-kinds l

pub appended-capacity : (l : EdgeListView) (e : Edge) → (appended l e).capacity ≡ l.capacity
appended-capacity l e = with_room-capacity l

filled : (es : List Edge) (ks : List Kind) (c n r : ℕ) (e : Edge) → 1 ≤ c → n * c ≡ length es + r → r < c →
    IsFilled (appended (record { edges = es; kinds = ks; capacity = c; batches = n; room = r }) e)
filled es ks c n zero e room count part =
    let next : (n + 1) * c ≡ n * c + c = grind arith in
    record { count = omega (arith, next, count, room, length_push es e); part = omega (arith, room) }
filled es ks c n (suc r) e room count part =
    record { count = omega (arith, count, length_push es e); part = omega (arith, part) }

pub filled_next : (l new : EdgeListView) (e : Edge) → 1 ≤ l.capacity → new ≡ appended l e → IsFilled l → IsFilled new
filled_next l new e room is h = subst IsFilled (sym is) (filled l.edges l.kinds l.capacity l.batches l.room e room h.count h.part)

taken : (es : List Edge) (ks : List Kind) (c n r : ℕ) (e : Edge) (s : PoolsView) →
    room_taken (record { edges = es; kinds = ks; capacity = c; batches = n; room = r }) (batches_taken n s (cells_of (record { edges = es; kinds = ks; capacity = c; batches = n; room = r })))
    ≡ batches_taken (appended (record { edges = es; kinds = ks; capacity = c; batches = n; room = r }) e).batches s (cells_of (record { edges = es; kinds = ks; capacity = c; batches = n; room = r }))
taken es ks c n zero e s =
    let next : suc n ≡ n + 1 = omega arith in
    ap (λ m. batches_taken m s (cells_of (record { edges = es; kinds = ks; capacity = c; batches = n; room = zero }))) next
taken es ks c n (suc r) e s = refl

-- the pools hold what the list's batches leave
pub taken_next : (l new : EdgeListView) (e : Edge) (first before after : PoolsView) (kinds : List CellKind) → cells_of l ≡ kinds → new ≡ appended l e →
    before ≡ batches_taken l.batches first kinds → after ≡ room_taken l before → after ≡ batches_taken new.batches first kinds
taken_next l new e first before after kinds same is so_far one =
    one ∙ ap (room_taken l) (so_far ∙ ap (batches_taken l.batches first) (sym same))
    ∙ taken l.edges l.kinds l.capacity l.batches l.room e first
    ∙ (λ i. batches_taken (sym is i).batches first (same i))

pub part_next : (n : ℕ) (first before after : PoolsView) (kinds k : List CellKind) → k ≡ kinds → before ≡ batches_taken n first kinds → IsPartTaken before after k → AreBatchesTaken first after kinds
part_next n first before after kinds k same so_far part =
    record { whole = n; part = subst (λ s. IsPartTaken s after kinds) so_far (subst (IsPartTaken before after) same part) }

pub none_taken : (s : PoolsView) (kinds : List CellKind) → AreBatchesTaken s s kinds
none_taken s kinds =
    let words_left : s.words - min 0 4 ≡ s.words = omega arith in
    let all_left : s.occupancies - min (0 - 4) 1 ≡ s.occupancies = omega arith in
    let no_kind : 0 - 5 ≡ 0 = omega arith in
    record { whole = 0; part = record { count = 0; is = sym ((λ i. all_taken (record s { words = words_left i; occupancies = all_left i }) (take (no_kind i) kinds))) } }

-- taking changes no capacity
pub room_taken-capacity : (l : EdgeListView) (s : PoolsView) → (room_taken l s).capacity ≡ s.capacity
room_taken-capacity l s = pick l.room
  where
    pick : (r : ℕ) → (where_full r (batch_taken s (cells_of l)) s).capacity ≡ s.capacity
    pick zero = (NoMore-all (record s { words = s.words - 4; occupancies = s.occupancies - 1 }) (cells_of l)).capacity
    pick (suc r) = refl

pub all_given-capacity : (s : PoolsView) (ks : List CellKind) → (all_given s ks).capacity ≡ s.capacity
all_given-capacity s [] = refl
all_given-capacity s (k ∷ ks) = given-capacity (all_given s ks) k ∙ all_given-capacity s ks

-- and no limit
given-limit : (s : PoolsView) (k : CellKind) → (given s k).limit ≡ s.limit
given-limit s Whole = refl
given-limit s Bit = refl
given-limit s Place = refl

pub all_given-limit : (s : PoolsView) (ks : List CellKind) → (all_given s ks).limit ≡ s.limit
all_given-limit s [] = refl
all_given-limit s (k ∷ ks) = given-limit (all_given s ks) k ∙ all_given-limit s ks

pub batch_given-capacity : (s : PoolsView) (ks : List CellKind) → (batch_given s ks).capacity ≡ s.capacity
batch_given-capacity s ks = all_given-capacity (record s { words = min (s.words + 4) s.limit; occupancies = min (s.occupancies + 1) s.limit }) ks

pub batches_given-capacity : (n : ℕ) (s : PoolsView) (ks : List CellKind) → (batches_given n s ks).capacity ≡ s.capacity
batches_given-capacity zero s ks = refl
batches_given-capacity (suc n) s ks = batches_given-capacity n (batch_given s ks) ks ∙ batch_given-capacity s ks

pub batches_taken-capacity : (n : ℕ) (s : PoolsView) (ks : List CellKind) → (batches_taken n s ks).capacity ≡ s.capacity
batches_taken-capacity zero s ks = refl
batches_taken-capacity (suc n) s ks =
    let before : PoolsView = batches_taken n s ks in
    (NoMore-all (record before { words = before.words - 4; occupancies = before.occupancies - 1 }) ks).capacity ∙ batches_taken-capacity n s ks

-- what both lists give is given one after another
pub batches_given-more : (m n : ℕ) (s : PoolsView) (ks : List CellKind) → batches_given n (batches_given m s ks) ks ≡ batches_given (m + n) s ks
batches_given-more zero n s ks = let e : 0 + n ≡ n = omega arith in ap (λ k. batches_given k s ks) (sym e)
batches_given-more (suc m) n s ks =
    let e : suc m + n ≡ suc (m + n) = omega arith in
    batches_given-more m n (batch_given s ks) ks ∙ ap (λ k. batches_given k s ks) (sym e)

-- one batch of those that are to be given
pub given_next : (n m : ℕ) (s after total : PoolsView) (ks k : List CellKind) → m + 1 ≡ n → k ≡ ks → after ≡ batch_given s k → batches_given n s ks ≡ total → batches_given m after ks ≡ total
given_next n m s after total ks k e same one so_far =
    let next : suc m ≡ n = omega (arith, e) in
    ap (λ t. batches_given m t ks) (one ∙ ap (batch_given s) same) ∙ ap (λ j. batches_given j s ks) next ∙ so_far

-- a whole batch is a part too
pub part_whole : (s : PoolsView) (kinds : List CellKind) → IsPartTaken s (batch_taken s kinds) kinds
part_whole s kinds =
    let first : PoolsView = record s { words = s.words - 4; occupancies = s.occupancies - 1 } in
    let some : AreSomeTaken first (batch_taken s kinds) kinds = record { count = length kinds; is = ap (λ ks. batch_taken s ks) (sym (take_all (length kinds) kinds (omega arith))) } in
    payload_told s first (batch_taken s kinds) kinds refl some

-- some batches are taken, and then some more
batches_taken-more : (m n : ℕ) (s : PoolsView) (ks : List CellKind) → batches_taken n (batches_taken m s ks) ks ≡ batches_taken (m + n) s ks
batches_taken-more m zero s ks = let e : m + 0 ≡ m = omega arith in ap (λ k. batches_taken k s ks) (sym e)
batches_taken-more m (suc n) s ks =
    let e : m + suc n ≡ suc (m + n) = omega arith in
    ap (λ r. batch_taken r ks) (batches_taken-more m n s ks) ∙ ap (λ k. batches_taken k s ks) (sym e)

pub taken_after : (old mid new : ℕ) (first before after : PoolsView) (kinds ks : List CellKind) → old ≤ mid → mid ≤ new → ks ≡ kinds → before ≡ batches_taken (mid - old) first kinds →
    after ≡ batches_taken (new - mid) before ks → after ≡ batches_taken (new - old) first kinds
taken_after old mid new first before after kinds ks low high same so_far more =
    let e : (mid - old) + (new - mid) ≡ new - old = omega (arith, low, high) in
    more ∙ (λ i. batches_taken (new - mid) (so_far i) (same i)) ∙ batches_taken-more (mid - old) (new - mid) first kinds ∙ ap (λ k. batches_taken k first kinds) e
