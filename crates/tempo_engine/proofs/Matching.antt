-- Forms and parts, one by one.
use Rattle.std.proofs.Common.{◌≡◌, ◌<◌, ℕ, zero, suc, Bool, true, false, List, [], ◌∷◌, length, get_or, take, refl, sym, ap, subst, arith}
use Rattle.std.specs.Prelude.{◌&&◌, nat_eq, All}
use Rattle.std.proofs.lemmas.Grind.{common_steps}
use Rattle.tw_rows.specs.Cells.{IsPlaced, ArePlaced}
use Rattle.tw_rows.specs.declared.cells.Datum.{Datum}
use Rattle.frozen_state.specs.declared.owner.Owner.{Owner}
use Rattle.frozen_state.specs.declared.owner.Owner.TheVariants as owners
use Rattle.frozen_state.specs.declared.frozen.FrozenPart.{FrozenPart}
use Rattle.frozen_state.specs.Forms.{PartFormView, is_owner, is_form_of}
use Rattle.frozen_state.specs.Formed.{IsStoredIn, ArePartsOf}
use Rattle.tempo_engine.specs.Named.{IsNamed, AreNamed}

-- the test of names
owner_is : (a b : Owner) → is_owner a b ≡ true → a ≡ b
owner_is owners.In owners.In h = refl
owner_is owners.In (owners.Node b) h = absurd (cc)
owner_is owners.In owners.Out h = absurd (cc)
owner_is (owners.Node a) owners.In h = absurd (cc)
owner_is (owners.Node a) (owners.Node b) h = (let e : a ≡ b = grind (arith, common_steps, h) in ap owners.Node e)
owner_is (owners.Node a) owners.Out h = absurd (cc)
owner_is owners.Out owners.In h = absurd (cc)
owner_is owners.Out (owners.Node b) h = absurd (cc)
owner_is owners.Out owners.Out h = refl

owner_same : (a : Owner) → is_owner a a ≡ true
owner_same owners.In = refl
owner_same (owners.Node a) = grind (arith, common_steps)
owner_same owners.Out = refl

both : (a b : Bool) → (a && b) ≡ true → (a ≡ true) × (b ≡ true)
both true true h = (refl, refl)
both true false h = absurd (cc)
both false b h = absurd (cc)

pub named_if : (f : PartFormView) (p : FrozenPart) → is_form_of p.owner p.shard f ≡ true → IsNamed f p
named_if f p h =
    let parts = both (is_owner f.owner p.owner) (nat_eq f.shard p.shard) h in
    let s = parts.1 in
    record { owner = sym (owner_is f.owner p.owner parts.0); shard = grind (arith, common_steps, s) }

pub named_then : (f : PartFormView) (p : FrozenPart) → IsNamed f p → is_form_of p.owner p.shard f ≡ true
named_then f p n =
    let o : is_owner f.owner p.owner ≡ true = subst (λ w. is_owner f.owner w ≡ true) (sym n.owner) (owner_same f.owner) in
    let s : nat_eq f.shard p.shard ≡ true = (let e = n.shard in grind (arith, common_steps, e)) in
    rw (o, s) refl

-- names, one by one
pub named_many : (fs : List PartFormView) (ps : List FrozenPart) → AreNamed fs ps → length fs ≡ length ps
named_many [] [] h = refl
named_many [] (p ∷ ps) h = absurd h
named_many (f ∷ fs) [] h = absurd h
named_many (f ∷ fs) (p ∷ ps) h = ap suc (named_many fs ps h.1)

pub named_at : (fs : List PartFormView) (ps : List FrozenPart) (i : ℕ) (f : PartFormView) (p : FrozenPart) → i < length fs → AreNamed fs ps → IsNamed (get_or fs i f) (get_or ps i p)
named_at [] ps i f p low h = absurd (omega (arith, low))
named_at (x ∷ fs) [] i f p low h = absurd h
named_at (x ∷ fs) (y ∷ ps) zero f p low h = h.0
named_at (x ∷ fs) (y ∷ ps) (suc i) f p low h = named_at fs ps i f p (omega (arith, low)) h.1

pub named_here : (fs : List PartFormView) (ps : List FrozenPart) (i : ℕ) (f : PartFormView) (p : FrozenPart) → i < length fs → f ≡ get_or fs i f → p ≡ get_or ps i p →
    AreNamed fs ps → IsNamed f p
named_here fs ps i f p low fi pi h = subst (λ g. IsNamed g p) (sym fi) (subst (λ q. IsNamed (get_or fs i f) q) (sym pi) (named_at fs ps i f p low h))

-- what is so of each form and its part is so of all
pub named_more : (fs : List PartFormView) (ps : List FrozenPart) (i : ℕ) (f : PartFormView) (p : FrozenPart) → i < length fs → length fs ≡ length ps →
    IsNamed (get_or fs i f) (get_or ps i p) → AreNamed (take i fs) (take i ps) → AreNamed (take (suc i) fs) (take (suc i) ps)
named_more [] ps i f p low same h so_far = absurd (omega (arith, low))
named_more (x ∷ fs) [] i f p low same h so_far = absurd (omega (arith, same))
named_more (x ∷ fs) (y ∷ ps) zero f p low same h so_far = (h, tt)
named_more (x ∷ fs) (y ∷ ps) (suc i) f p low same h so_far =
    (so_far.0, named_more fs ps i f p (omega (arith, low)) (omega (arith, same)) h so_far.1)

pub named_on : (fs : List PartFormView) (ps : List FrozenPart) (i : ℕ) (f : PartFormView) (p : FrozenPart) → i < length fs → length fs ≡ length ps → f ≡ get_or fs i f →
    p ≡ get_or ps i p → IsNamed f p → AreNamed (take i fs) (take i ps) → AreNamed (take (suc i) fs) (take (suc i) ps)
named_on fs ps i f p low same fi pi h so_far =
    named_more fs ps i f p low same (subst (λ g. IsNamed g (get_or ps i p)) fi (subst (λ q. IsNamed f q) pi h)) so_far

pub stored_more : (fs : List PartFormView) (ps : List FrozenPart) (i : ℕ) (f : PartFormView) (p : FrozenPart) → i < length fs → AreNamed fs ps →
    All (IsStoredIn (get_or fs i f).rows) (get_or ps i p).saved → ArePartsOf (take i fs) (take i ps) → ArePartsOf (take (suc i) fs) (take (suc i) ps)
stored_more [] ps i f p low named h so_far = absurd (omega (arith, low))
stored_more (x ∷ fs) [] i f p low named h so_far = absurd named
stored_more (x ∷ fs) (y ∷ ps) zero f p low named h so_far = (record { owner = named.0.owner; shard = named.0.shard; stored = h }, tt)
stored_more (x ∷ fs) (y ∷ ps) (suc i) f p low named h so_far =
    (so_far.0, stored_more fs ps i f p (omega (arith, low)) named.1 h so_far.1)

pub stored_on : (fs : List PartFormView) (ps : List FrozenPart) (i : ℕ) (f : PartFormView) (p : FrozenPart) → i < length fs → f ≡ get_or fs i f → p ≡ get_or ps i p → AreNamed fs ps →
    All (IsStoredIn f.rows) p.saved → ArePartsOf (take i fs) (take i ps) → ArePartsOf (take (suc i) fs) (take (suc i) ps)
stored_on fs ps i f p low fi pi named h so_far =
    stored_more fs ps i f p low named (subst (λ g. All (IsStoredIn g.rows) (get_or ps i p).saved) fi (subst (λ q. All (IsStoredIn f.rows) q.saved) pi h)) so_far

-- what is so of all is so of each
stored_at : (fs : List PartFormView) (ps : List FrozenPart) (i : ℕ) (f : PartFormView) (p : FrozenPart) → i < length fs → ArePartsOf fs ps →
    All (IsStoredIn (get_or fs i f).rows) (get_or ps i p).saved
stored_at [] ps i f p low h = absurd (omega (arith, low))
stored_at (x ∷ fs) [] i f p low h = absurd h
stored_at (x ∷ fs) (y ∷ ps) zero f p low h = h.0.stored
stored_at (x ∷ fs) (y ∷ ps) (suc i) f p low h = stored_at fs ps i f p (omega (arith, low)) h.1

pub stored_here : (fs : List PartFormView) (ps : List FrozenPart) (i : ℕ) (f : PartFormView) (p : FrozenPart) → i < length fs → f ≡ get_or fs i f → p ≡ get_or ps i p →
    ArePartsOf fs ps → All (IsStoredIn f.rows) p.saved
stored_here fs ps i f p low fi pi h = subst (λ g. All (IsStoredIn g.rows) p.saved) (sym fi) (subst (λ q. All (IsStoredIn (get_or fs i f).rows) q.saved) (sym pi) (stored_at fs ps i f p low h))

-- places, one by one
pub placed_at : (texts : List (List ℕ)) (cells : List Datum) (i : ℕ) (d : Datum) → i < length cells → ArePlaced texts cells → IsPlaced texts (get_or cells i d)
placed_at texts [] i d low h = absurd (omega (arith, low))
placed_at texts (x ∷ cells) zero d low h = h.0
placed_at texts (x ∷ cells) (suc i) d low h = placed_at texts cells i d (omega (arith, low)) h.1

pub placed_more : (texts : List (List ℕ)) (cells : List Datum) (i : ℕ) (d : Datum) → i < length cells → IsPlaced texts (get_or cells i d) → ArePlaced texts (take i cells) →
    ArePlaced texts (take (suc i) cells)
placed_more texts [] i d low h so_far = absurd (omega (arith, low))
placed_more texts (x ∷ cells) zero d low h so_far = (h, tt)
placed_more texts (x ∷ cells) (suc i) d low h so_far = (so_far.0, placed_more texts cells i d (omega (arith, low)) h so_far.1)

-- parts of their forms are named so
pub stored_named : (fs : List PartFormView) (ps : List FrozenPart) → ArePartsOf fs ps → AreNamed fs ps
stored_named [] [] h = tt
stored_named [] (p ∷ ps) h = absurd h
stored_named (f ∷ fs) [] h = absurd h
stored_named (f ∷ fs) (p ∷ ps) h = (record { owner = h.0.owner; shard = h.0.shard }, stored_named fs ps h.1)
