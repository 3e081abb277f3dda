-- The summary of a text of lines.
use Rattle.std.specs.Prelude.{ℕ, List, [], ◌∷◌, codes, decimal, count_by, nat_eq}
use Rattle.std.specs.List.{concat, starts_with}
use Rattle.wire_lines.specs.Lines.{whole}

-- how many of the lines that a line feed ends begin with these bytes. Of the lines `a1`, `b` and `a2`, two begin with `a`
abbrev pub begin_with : List ℕ → List (List ℕ) → ℕ
begin_with front lines = count_by (λ line. starts_with nat_eq line front) lines

-- how many start lines, end lines and punctuations a text has
pub record Summary : Type 0 where
  pub starts : ℕ
  pub ends : ℕ
  pub puncts : ℕ

-- of the lines `out,start,1,inf`, `out,end,2,1` and `*,punct,3`: one of each
abbrev pub summary_of : List ℕ → Summary
summary_of text = record {
  starts = begin_with (codes "out,start,") (whole text);
  ends = begin_with (codes "out,end,") (whole text);
  puncts = begin_with (codes "*,punct,") (whole text);
}

-- three lines, as `starts 1`, `ends 1` and `puncts 1`
abbrev pub summary_text : Summary → List ℕ
summary_text s = concat (codes "starts " ∷ decimal s.starts ∷ codes "\nends " ∷ decimal s.ends ∷ codes "\npuncts " ∷ decimal s.puncts ∷ codes "\n" ∷ [])
