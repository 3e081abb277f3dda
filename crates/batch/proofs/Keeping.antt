-- The rows that a mask leaves, one after another.
use Rattle.std.proofs.Common.{◌≡◌, ℕ, ◌<◌, ◌&&◌, Bool, true, false, List, [], map, length, get_or, refl, ap, sym, ◌∙◌, arith}
use Rattle.std.proofs.lemmas.List.{get_or-map}
use Rattle.batch.specs.Rows.{Row, kept}
use Rattle.batch.proofs.Tables.{length-kept, get_or-kept}

-- a row for places where there is none
pub no_row : Row
no_row = record { sync = 0; other = 0; key = 0; hash = 0; cells = []; occupied = false }

and_is_first : (a b : Bool) → (a && b) ≡ true → (a && b) ≡ a
and_is_first true b h = h
and_is_first false b h = refl

module _ (rows : List Row) (bits : List Bool) (i : ℕ) (d : Row) (lt : i < length rows) (long : length bits ≡ length rows) where
  pub kept_within : i < length (kept rows bits)
  kept_within = omega (arith, lt, length-kept rows bits long)

  -- whether the row that is left is occupied
  pub kept_bit : (b : Bool) → b ≡ (get_or (map (λ r. r.occupied) rows) i false && get_or bits i false) → (get_or (kept rows bits) i d).occupied ≡ b
  kept_bit b is =
      ap (λ r. r.occupied) (get_or-kept rows bits i d lt long)
      ∙ ap (λ o. o && get_or bits i false) (sym (get_or-map (λ r. r.occupied) rows i d false lt)) ∙ sym is

  -- an occupied row whose bit is set is left as it is
  pub kept_row : (get_or (kept rows bits) i d).occupied ≡ true → get_or (kept rows bits) i d ≡ get_or rows i d
  kept_row set =
      let same = get_or-kept rows bits i d lt long in
      let both : ((get_or rows i d).occupied && get_or bits i false) ≡ true = sym (ap (λ r. r.occupied) same) ∙ set in
      let with_bit : Bool → Row = (λ o. record (get_or rows i d) { occupied = o }) in
      same ∙ ap with_bit (and_is_first (get_or rows i d).occupied (get_or bits i false) both)
