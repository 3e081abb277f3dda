-- What a batch is whose columns lost their first rows, or got those of another batch.
use Rattle.std.proofs.Common.{◌≡◌, ◌+◌, ◌-◌, ◌≤◌, ℕ, true, replicate, List, [], ◌∷◌, ◌++◌, map, length, suc, take, drop, refl, ap, sym, ◌∙◌, subst, arith}
use Rattle.std.specs.Prelude.{All, count_by}
use Rattle.std.specs.List.{refill}
use Rattle.std.proofs.lemmas.List.{drop-replicate, length-map}
use Rattle.column_pool.specs.Contents.{Contents}
use Rattle.occupancy.specs.Bits.{Bits}
use Rattle.batch.specs.declared.payload.Payload.{Payload}
use Rattle.batch.specs.declared.batch.Batch.TheInside.{Inside}
use Rattle.batch.specs.contracts.batch.Batch.{the_view}
use Rattle.batch.specs.Rows.{Table, occupied_rows}
use Rattle.batch.specs.Payloads.{payload_kind, payload_cut, extended, Holds as HoldsCells, HasRoomFor}
use Rattle.batch.specs.Columns.{rows_of, IsColumn, AreColumns}
use Rattle.batch.proofs.FirstRows.{cut_rows, with_first, rows_of-cut, AreColumns-cut, rows_of-first, AreColumns-first, kinds-cut, kinds-extended, all_set}
use Rattle.batch.proofs.Pushing.{refill_whole}
use Rattle.batch.proofs.Views.{columns_of, Holds, table_is, rows_are, capacity_is, kinds_are, length_is, count_of_rows}

-- columns with as many cells have so many first ones, and room for so many more
pub All-Holds : (k count capacity : ℕ) (ps : List Payload) → All (IsColumn count capacity) ps → k ≤ count → All (HoldsCells k) ps
All-Holds k count capacity ps all le = λ i d lt. (let column : IsColumn count capacity _ = all i d lt in omega (arith, column.cells, le))

pub All-HasRoomFor : (k count capacity : ℕ) (ps : List Payload) → All (IsColumn count capacity) ps → count + k ≤ capacity → All (HasRoomFor k) ps
All-HasRoomFor k count capacity ps all le = λ i d lt. (let column : IsColumn count capacity _ = all i d lt in omega (arith, column.cells, column.room, le))

-- where every row is occupied, so many set bits are those that are left
pub bits_cut : (b : Inside) (t : Table) → the_view b ≡ t → Holds b → occupied_rows t.rows ≡ t.rows → (k left : ℕ) → left ≡ length b.occupied.items - k → (none some : Bits) →
    none ≡ record b.occupied { items = [] } → some ≡ record none { items = none.items ++ replicate left true } → some ≡ record b.occupied { items = drop k b.occupied.items }
bits_cut b t is holds full k left e none some cleared added =
    let many : count_by (λ x. x) b.occupied.items ≡ length b.occupied.items = count_of_rows b t is holds ∙ ap length full ∙ length_is b t is holds ∙ sym holds.columns.occupied in
    let rest : replicate left true ≡ drop k b.occupied.items =
    ap (λ n. replicate n true) e ∙ sym (ap (λ bs. drop k bs) (all_set b.occupied.items many) ∙ drop-replicate k (length b.occupied.items) true) in
    added ∙ ap (λ (o : Bits). record o { items = o.items ++ replicate left true }) cleared ∙ ap (λ l. record b.occupied { items = l }) rest

-- a batch whose columns lost their first k rows
module _ (k : ℕ) (b : Inside) (t : Table) (is : the_view b ≡ t) (holds : Holds b) (n : Inside)
    (sync : n.sync ≡ record b.sync { items = drop k b.sync.items }) (other : n.other ≡ record b.other { items = drop k b.other.items })
    (key : n.key ≡ record b.key { items = drop k b.key.items }) (hash : n.hash ≡ record b.hash { items = drop k b.hash.items })
    (payload : n.payload.items ≡ map (payload_cut k) b.payload.items) (occupied : n.occupied ≡ record b.occupied { items = drop k b.occupied.items }) where
  less_are : columns_of n ≡ cut_rows k (columns_of b)
  less_are = λ i. record { sync = (sync i).items; other = (other i).items; key = (key i).items; hash = (hash i).items; payload = payload i; occupied = (occupied i).items }

  same_room : n.sync.capacity ≡ b.sync.capacity
  same_room = ap (λ x. x.capacity) sync

  pub Holds-cut : Holds n
  Holds-cut = record {
    columns = subst (λ c. AreColumns n.sync.capacity c) (sym less_are)
        (subst (λ m. AreColumns m (cut_rows k (columns_of b))) (sym same_room) (AreColumns-cut k b.sync.capacity (columns_of b) holds.columns));
    other_room = ap (λ x. x.capacity) other ∙ holds.other_room ∙ sym same_room;
    key_room = ap (λ x. x.capacity) key ∙ holds.key_room ∙ sym same_room;
    hash_room = ap (λ x. x.capacity) hash ∙ holds.hash_room ∙ sym same_room;
    occupied_room = ap (λ x. x.capacity) occupied ∙ holds.occupied_room ∙ sym same_room;
  }

  pub view-cut : the_view n ≡ record t { rows = drop k t.rows }
  view-cut = table_is _ _ _ (record t { rows = drop k t.rows })
      (ap rows_of less_are ∙ rows_of-cut k (columns_of b) ∙ ap (λ rs. drop k rs) (rows_are b t is holds))
      (same_room ∙ capacity_is b t is holds)
      (ap (map payload_kind) payload ∙ kinds-cut k b.payload.items ∙ kinds_are b t is holds)

-- a column that got the first k items of a slice
pub extended_to : (k : ℕ) (c n : Contents ℕ) (seen items : List ℕ) → n ≡ record c { items = c.items ++ take k seen } → seen ≡ items → n ≡ record c { items = c.items ++ take k items }
extended_to k c n seen items is same = is ∙ ap (λ l. record c { items = c.items ++ take k l }) same

-- a batch whose columns got the first k rows of another one
module _ (k : ℕ) (b f : Inside) (t u : Table) (is : the_view b ≡ t) (holds : Holds b) (from_is : the_view f ≡ u) (from_holds : Holds f) (n : Inside)
    (sync : n.sync ≡ record b.sync { items = b.sync.items ++ take k f.sync.items }) (other : n.other ≡ record b.other { items = b.other.items ++ take k f.other.items })
    (key : n.key ≡ record b.key { items = b.key.items ++ take k f.key.items }) (hash : n.hash ≡ record b.hash { items = b.hash.items ++ take k f.hash.items })
    (payload : n.payload.items ≡ extended k b.payload.items f.payload.items) (occupied : n.occupied ≡ record b.occupied { items = b.occupied.items ++ take k f.occupied.items })
    (kinds : u.kinds ≡ t.kinds) (fits : k ≤ length u.rows) where
  more_are : columns_of n ≡ with_first k (columns_of b) (columns_of f)
  more_are = λ i. record { sync = (sync i).items; other = (other i).items; key = (key i).items; hash = (hash i).items; payload = payload i; occupied = (occupied i).items }

  the_room : n.sync.capacity ≡ b.sync.capacity
  the_room = ap (λ x. x.capacity) sync

  alike : map payload_kind f.payload.items ≡ map payload_kind b.payload.items
  alike = kinds_are f u from_is from_holds ∙ kinds ∙ sym (kinds_are b t is holds)

  there : k ≤ length f.sync.items
  there = omega (arith, fits, length_is f u from_is from_holds)

  pub Holds-first : Holds n
  Holds-first = record {
    columns = subst (λ c. AreColumns n.sync.capacity c) (sym more_are)
        (subst (λ m. AreColumns m (with_first k (columns_of b) (columns_of f))) (sym the_room)
        (AreColumns-first k b.sync.capacity f.sync.capacity (columns_of b) (columns_of f) holds.columns from_holds.columns alike there));
    other_room = ap (λ x. x.capacity) other ∙ holds.other_room ∙ sym the_room;
    key_room = ap (λ x. x.capacity) key ∙ holds.key_room ∙ sym the_room;
    hash_room = ap (λ x. x.capacity) hash ∙ holds.hash_room ∙ sym the_room;
    occupied_room = ap (λ x. x.capacity) occupied ∙ holds.occupied_room ∙ sym the_room;
  }

  pub view-first : the_view n ≡ record t { rows = t.rows ++ take k u.rows }
  view-first = table_is _ _ _ (record t { rows = t.rows ++ take k u.rows })
      (ap rows_of more_are ∙ rows_of-first k b.sync.capacity f.sync.capacity (columns_of b) (columns_of f) holds.columns from_holds.columns alike there
      ∙ (λ i. rows_are b t is holds i ++ take k (rows_are f u from_is from_holds i)))
      (the_room ∙ capacity_is b t is holds)
      (ap (map payload_kind) payload ∙ kinds-extended k b.payload.items f.payload.items ∙ kinds_are b t is holds)

pub refill-cut : (k : ℕ) (ps new seen : List Payload) → new ≡ map (payload_cut k) seen → seen ≡ ps → refill (length ps) ps new ≡ map (payload_cut k) ps
refill-cut k ps new seen e same =
    let is : new ≡ map (payload_cut k) ps = e ∙ ap (map (payload_cut k)) same in
    refill_whole ps new (ap length is ∙ length-map ps (payload_cut k)) ∙ is

length-extended : (k : ℕ) (ps fs : List Payload) → length (extended k ps fs) ≡ length ps
length-extended k [] fs = refl
length-extended k (p ∷ ps) [] = refl
length-extended k (p ∷ ps) (f ∷ fs) = ap suc (length-extended k ps fs)

pub refill-extended : (k : ℕ) (ps new seen fs told : List Payload) → new ≡ extended k seen told → seen ≡ ps → told ≡ fs → refill (length ps) ps new ≡ extended k ps fs
refill-extended k ps new seen fs told e same cells =
    let is : new ≡ extended k ps fs = e ∙ (λ i. extended k (same i) (cells i)) in
    refill_whole ps new (ap length is ∙ length-extended k ps fs) ∙ is
