-- Open starts in a map by what end lines name.
use Rattle.std.specs.Prelude.{◌≡◌, nat_eq, Bool, true, false, ◌&&◌, Option, Some, None, List, [], length}
use Rattle.std.specs.Bool.{Decides}
use Rattle.std.specs.declared.collections.VecDeque.{VecDeque}
use Rattle.std.proofs.Common.{ap, ◌∙◌}
use Rattle.std.proofs.lemmas.Bool.{and_parts, eqb-true}
use Rattle.std.proofs.lemmas.Bool.Decides.{Decides-eqb}
use Rattle.indexmap.specs.IndexMap.{IndexMap, get}
use Rattle.tw_rows.specs.SameCells.{same_cells, same_cells-Decides}
use Rattle.ingress.specs.declared.opens.OpenKey.{OpenKey}
use Rattle.ingress.specs.declared.opens.OpenStart.{OpenStart}

-- both name the same stream, start and cells
abbrev pub same_key : OpenKey → OpenKey → Bool
same_key a b = nat_eq a.stream b.stream && (nat_eq a.given b.given && same_cells a.cells b.cells)

both_true : (a b c : Bool) → a ≡ true → b ≡ true → c ≡ true → (a && (b && c)) ≡ true
both_true a b c h k l = ap (λ x. x && (b && c)) h ∙ (ap (λ x. true && (x && c)) k ∙ ap (λ x. true && (true && x)) l)

pub same_key-Decides : (a b : OpenKey) → Decides (same_key a b) (a ≡ b)
same_key-Decides a b = (
  λ h.
      let p = and_parts (nat_eq a.stream b.stream) (nat_eq a.given b.given && same_cells a.cells b.cells) h in
      let q = and_parts (nat_eq a.given b.given) (same_cells a.cells b.cells) p.1 in
      let s = eqb-true a.stream b.stream p.0 in
      let g = eqb-true a.given b.given q.0 in
      let c = (same_cells-Decides a.cells b.cells).0 q.1 in
      λ i. record { stream = s i; given = g i; cells = c i },
  λ e. both_true (nat_eq a.stream b.stream) (nat_eq a.given b.given) (same_cells a.cells b.cells)
      ((Decides-eqb a.stream b.stream).1 (ap (λ k. k.stream) e))
      ((Decides-eqb a.given b.given).1 (ap (λ k. k.given) e))
      ((same_cells-Decides a.cells b.cells).1 (ap (λ k. k.cells) e)),
)

abbrev pub starts_if : {S : Type 0} → Option (VecDeque OpenStart S) → List OpenStart
starts_if None = []
starts_if (Some d) = d.items

-- the open starts that a key names, in the order of their lines; none where the map does not have the key
abbrev pub starts_in : {S T : Type 0} → IndexMap OpenKey (VecDeque OpenStart S) T → OpenKey → List OpenStart
starts_in opens k = starts_if (get same_key opens k)

-- a key stands in the map, and names no open start
abbrev pub names_none : {S : Type 0} → Option (VecDeque OpenStart S) → Bool
names_none None = false
names_none (Some d) = nat_eq (length d.items) 0

-- no key does: that of an ended start does not stay
abbrev pub NoneIsEmpty : {S T : Type 0} → IndexMap OpenKey (VecDeque OpenStart S) T → Type 0
NoneIsEmpty opens = (k : OpenKey) → names_none (get same_key opens k) ≡ false
