-- A few blocks, worked out.
use Rattle.std.specs.Prelude.{◌≡◌, ℕ, [], ◌∷◌, false, refl}
use Rattle.wire_lines.specs.Cutter.{CutterState}
use Rattle.wire_lines.specs.Block.{block_lines, after_block}

-- a cutter at the start of `ab`, LF, LF, `c`, LF
abbrev fed : ℕ → ℕ → CutterState
fed longest total = record { longest = longest; total = total; passed = 0; number = 0; rest = 97 ∷ 98 ∷ 10 ∷ 10 ∷ 99 ∷ 10 ∷ []; wants_bytes = false }

-- a line has 3 bytes at most: 4 bytes are looked at, so the line `c` is in the next block
two_lines : block_lines (fed 3 100) ≡ (97 ∷ 98 ∷ []) ∷ [] ∷ []
two_lines = refl

behind_two_lines : after_block (fed 3 100) ≡ record { longest = 3; total = 100; passed = 4; number = 2; rest = 99 ∷ 10 ∷ []; wants_bytes = false }
behind_two_lines = refl

-- the input may have 3 bytes
one_line : block_lines (fed 3 3) ≡ (97 ∷ 98 ∷ []) ∷ []
one_line = refl

-- the first line is too long
no_line : block_lines (fed 1 100) ≡ []
no_line = refl

-- then nothing changes
as_it_was : after_block (fed 1 100) ≡ fed 1 100
as_it_was = refl
