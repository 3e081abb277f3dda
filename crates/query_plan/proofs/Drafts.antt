-- Names of a draft.
use Rattle.std.specs.Prelude.{◌≡◌, ℕ, nat_eq, Bool, true, false, ◌||◌, cond, Option, Some, option_map, List, [], ◌∷◌, is_some, refl}
use Rattle.std.specs.List.{find}
use Rattle.std.specs.Cmp.Lexicographic.{pointwise}
use Rattle.query_plan.specs.Draft.{Named, node_named, is_taken}

-- what is found in a list that begins with x, by whether x has the name
abbrev found : Bool → Named → List Named → List ℕ → Option ℕ
found b x xs name = option_map (λ n. n.node) (cond b (Some x) (find (λ n. pointwise nat_eq n.name name) xs))

taken_step : (b : Bool) (x : Named) (xs : List Named) (name : List ℕ) (any : Bool) → is_some (node_named xs name) ≡ any → is_some (found b x xs name) ≡ (b || any)
taken_step true x xs name any h = refl
taken_step false x xs name any h = h

-- a name is taken where it stands for a node
pub taken_is : (names : List Named) (name : List ℕ) → is_some (node_named names name) ≡ is_taken names name
taken_is [] name = refl
taken_is (x ∷ xs) name = taken_step (pointwise nat_eq x.name name) x xs name (is_taken xs name) (taken_is xs name)
