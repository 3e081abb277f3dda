-- What contracts see of a column.
use Rattle.std.specs.Prelude.{ℕ, List, refl}
use Rattle.std.specs.Coded.{Coded, code_by, coded×, coded_list, coded_ℕ}

-- the cells in order, and how many there is room for
pub record Contents (X : Type 0) : Type 0 where
  pub items : List X
  pub capacity : ℕ

-- they are stored as the pair of both
abbrev pub contents_code : {X : Type 0} → Coded X → Coded (Contents X)
contents_code {X} x =
    code_by (List X × ℕ) (coded× (coded_list x) coded_ℕ) (λ c. (c.items, c.capacity)) (λ p. record { items = p.0; capacity = p.1 }) (λ _. refl)
