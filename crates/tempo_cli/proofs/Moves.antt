-- What the answers of a cutter say of the table, for any faults and any text.
use Rattle.std.proofs.Common.{◌≡◌, ◌≤◌, ◌<◌, ◌-◌, ◌+◌, ℕ, List, [], ◌∷◌, ◌++◌, length, take, Bool, false, Some, None, refl, sym, ◌∙◌, ap, arith, append_assoc, subst}
use Rattle.std.specs.Prelude.{IsTrue}
use Rattle.std.specs.List.{All}
use Rattle.std.proofs.lemmas.List.{length-append}
use Rattle.std.proofs.lemmas.List.Elements.{All-take}
use Rattle.std.proofs.Math.Seq.{take-append_seam}
use Rattle.wire_lines.specs.Lines.{HasNoLf, line_len, whole, lines, joined}
use Rattle.wire_lines.specs.Cutter.{CutterState, Overlong}
use Rattle.wire_lines.specs.Next.{next, after_next}
use Rattle.wire_lines.specs.Cuts.{Cuts, GivesLine, FindsTooMany, HasGivenAll}
use Rattle.wire_lines.proofs.Cutting.{lines_go_on}
use Rattle.wire_lines.proofs.CutsFacts.{lines_so_far, tells_too_long}
use Rattle.wire_lines.proofs.NextFacts.{overlong}
use Rattle.wire_lines.proofs.Limits.{after_next-longest, after_next-total}
use Rattle.admission.specs.Progress.{Fault}
use Rattle.tempo_cli.specs.Answers.{Answers, IsFinal, IsFront}
use Rattle.tempo_cli.specs.Resumed.{going_on}
use Rattle.tempo_cli.specs.Restoring.{AreFront}
use Rattle.tempo_cli.specs.Feeding.{Within}
use Rattle.tempo_cli.specs.Table.{limit, IsRefused, IsTooLong, IsCutOff, IsShort}
use Rattle.tempo_cli.proofs.Lines.{lines_are_free, lines_within, lines_long_within}

-- before the first byte
pub within_none : (a : Answers) (c : CutterState) → c.longest ≡ 65536 → c.total ≡ limit → Cuts [] c [] → a.fault [] false ≡ None → Within a [] [] c
within_none a c longest total cuts fine = record { longest = longest; total = total; cuts = cuts; fine = fine }

module _ {a : Answers} {bytes : List ℕ} {given : List (List ℕ)} {c : CutterState} (w : Within a bytes given c) where
  -- a piece was fed
  pub within_fed : (piece : List ℕ) → Cuts (bytes ++ piece) (record c { rest = c.rest ++ piece; wants_bytes = false }) given → Within a (bytes ++ piece) given (record c { rest = c.rest ++ piece; wants_bytes = false })
  within_fed piece cuts = record { longest = w.longest; total = w.total; cuts = cuts; fine = w.fine }

  -- a line was taken
  pub within_more : (number : ℕ) (line : List ℕ) → GivesLine bytes c given number line → a.fault (given ++ line ∷ []) false ≡ None → Within a bytes (given ++ line ∷ []) (after_next c)
  within_more number line g fine = record { longest = after_next-longest c ∙ w.longest; total = after_next-total c ∙ w.total; cuts = g.after; fine = fine }

  -- all lines were
  pub within_all : HasGivenAll bytes c given → Within a bytes given (after_next c)
  within_all g = record { longest = after_next-longest c ∙ w.longest; total = after_next-total c ∙ w.total; cuts = g.after; fine = w.fine }

  pub lines_after : (ended : Bool) → lines bytes ended ≡ given ++ lines c.rest ended
  lines_after ended = lines_go_on bytes c.rest given ended w.cuts.all w.cuts.each

  pub given_low : length (joined given) ≤ limit
  given_low = omega (arith, w.cuts.passed_is, w.cuts.fits, w.total)

  -- while the input goes on, the lines are those that were given
  pub lines_are : IsTrue c.wants_bytes → lines bytes false ≡ given
  lines_are wants_bytes =
      let settled = w.cuts.settled wants_bytes in
      lines_so_far bytes c given w.cuts settled.one_line (omega (arith, settled.short, w.longest))

  pub few_bytes : IsTrue c.wants_bytes → length bytes ≤ limit
  few_bytes wants_bytes = let settled = w.cuts.settled wants_bytes in omega (arith, settled.few, w.total)

  -- and so they are where more lines are to come
  pub within_going : Within (going_on a) bytes given c
  within_going = record { longest = w.longest; total = w.total; cuts = w.cuts; fine = w.fine }

  -- a line more leaves no more bytes than the input may have
  low_more : (number : ℕ) (line : List ℕ) → GivesLine bytes c given number line → length (joined (given ++ line ∷ [])) ≤ limit
  low_more number line g = omega (arith, g.after.passed_is, g.after.fits, after_next-total c, w.total)

  -- the lines up to the next one are the first ones, of all bytes and of those that the input may have
  pub line_fronts : (number : ℕ) (line : List ℕ) → GivesLine bytes c given number line → (ended : Bool) → AreFront (given ++ line ∷ []) (lines bytes ended) × AreFront (given ++ line ∷ []) (lines (take limit bytes) ended)
  line_fronts number line g ended =
      let others = g.among_lines ended in (
        (others.0, others.1 ∙ sym (append_assoc given (line ∷ []) others.0)),
        (_, lines_within bytes (after_next c).rest (given ++ line ∷ []) ended g.after.all g.after.each (low_more number line g)),
      )

  -- where the next one is too long, there is room for as much of it as shows that
  long_room : (number : ℕ) → Overlong number ≡ next c → (65536 < limit - length (joined given)) × (65536 < line_len c.rest)
  long_room number is = let over = overlong c number is in (omega (arith, over.long, w.longest, w.total, w.cuts.passed_is), omega (arith, over.long, w.longest))

  -- it stands behind the lines given, among all lines
  long_among : (number : ℕ) → Overlong number ≡ next c → (ended : Bool) → (line : List ℕ) × (others : List (List ℕ)) × (lines bytes ended ≡ given ++ line ∷ others) × (65536 < length line)
  long_among number is ended =
      let found = tells_too_long bytes c given number is w.cuts in
      let others = found.among_lines (omega (arith, w.longest)) ended in
      (found.line, others.0, others.1, omega (arith, found.long, w.longest))

  -- and among those of the bytes that the input may have
  long_within : (number : ℕ) → Overlong number ≡ next c → (ended : Bool) → (line : List ℕ) × (others : List (List ℕ)) × (lines (take limit bytes) ended ≡ given ++ line ∷ others) × (65536 < length line)
  long_within number is ended =
      let room = long_room number is in
      let here = lines_long_within c.rest (limit - length (joined given)) ended room.0 room.1 in
      (here.0, here.1, lines_within bytes c.rest given ended w.cuts.all w.cuts.each given_low ∙ ap (λ ls. given ++ ls) here.2, here.3)

  -- so it is too long in both
  pub long_fronts : (number : ℕ) → Overlong number ≡ next c → (ended : Bool) →
      ((line : List ℕ) × AreFront (given ++ line ∷ []) (lines bytes ended) × (65536 < length line)) × ((line : List ℕ) × AreFront (given ++ line ∷ []) (lines (take limit bytes) ended) × (65536 < length line))
  long_fronts number is ended =
      let x = long_among number is ended in
      let y = long_within number is ended in
      ((x.0, (x.1, x.2 ∙ sym (append_assoc given (x.0 ∷ []) x.1)), x.3), (y.0, (y.1, y.2 ∙ sym (append_assoc given (y.0 ∷ []) y.1)), y.3))

  -- it was out of memory
  pub short : (ended : Bool) → IsShort a bytes (a.text given false) ended
  short ended = record {
    k = length given;
    few = omega (arith, ap length (lines_after ended), length-append given (lines c.rest ended));
    written = ap (λ ls. a.text ls false) (sym (ap (take (length given)) (lines_after ended) ∙ take-append_seam given (lines c.rest ended)));
  }

  -- more bytes came than may
  pub too_many : FindsTooMany bytes c given → length bytes ≤ limit + 1 → IsTooLong a bytes (a.text given false)
  too_many found few =
      let more : limit < length bytes = rw (← w.total) found.more in
      let all : whole (take limit bytes) ≡ given = rw (← w.total) found.whole_are in
      record {
        long = omega arith;
        short = rw (← w.total, ← w.longest) found.short;
        no_fault = ap (λ ls. a.fault ls false) all ∙ w.fine;
        written = ap (λ ls. a.text ls false) (sym all);
      }

  -- no call of the wire failed, and the input has ended
  pub cut_off : IsTrue c.wants_bytes → IsCutOff a bytes (a.text given false) false
  cut_off wants_bytes = record { goes_on = refl; no_fault = ap (λ ls. a.fault ls false) (lines_are wants_bytes) ∙ w.fine; written = ap (λ ls. a.text ls false) (sym (lines_are wants_bytes)) }

  module _ (final : IsFinal a) where
    line_is_free : (line : List ℕ) (others : List (List ℕ)) (ended : Bool) → lines bytes ended ≡ given ++ line ∷ others → All HasNoLf ((given ++ line ∷ []) ++ others)
    line_is_free line others ended e = subst (All HasNoLf) (e ∙ sym (append_assoc given (line ∷ []) others)) (lines_are_free bytes ended)

    front_free : (xs ys : List (List ℕ)) → All HasNoLf (xs ++ ys) → All HasNoLf xs
    front_free xs ys h = subst (All HasNoLf) (take-append_seam xs ys) (All-take HasNoLf (length xs) (xs ++ ys) h)

    -- the line has a fault, among the first bytes and among all
    refused_by : (line line' : List ℕ) (others others' : List (List ℕ)) (ended : Bool) (f : Fault) → lines bytes ended ≡ given ++ line ∷ others →
        lines (take limit bytes) ended ≡ given ++ line' ∷ others' → a.fault (given ++ line ∷ []) false ≡ Some f → a.fault (given ++ line' ∷ []) false ≡ Some f →
        IsRefused a bytes (a.text given false) ended f
    refused_by line line' others others' ended f e e' is is' =
        let all : lines bytes ended ≡ (given ++ line ∷ []) ++ others = e ∙ sym (append_assoc given (line ∷ []) others) in
        let all' : lines (take limit bytes) ended ≡ (given ++ line' ∷ []) ++ others' = e' ∙ sym (append_assoc given (line' ∷ []) others') in
        record {
          within = ap (λ ls. a.fault ls ended) all' ∙ final.stays (given ++ line' ∷ []) others' ended f is';
          first = ap (λ ls. a.fault ls ended) all ∙ final.stays (given ++ line ∷ []) others ended f is;
          written = sym (ap (λ ls. a.text ls ended) all ∙ (final.text_stays (given ++ line ∷ []) others ended f is ∙ final.no_more given line f (front_free (given ++ line ∷ []) others (line_is_free line others ended e)) w.fine is));
        }

    pub refused : (number : ℕ) (line : List ℕ) (f : Fault) → GivesLine bytes c given number line → a.fault (given ++ line ∷ []) false ≡ Some f → (ended : Bool) → IsRefused a bytes (a.text given false) ended f
    refused number line f g is ended =
        let others = g.among_lines ended in
        let more = lines (take (limit - length (joined (given ++ line ∷ []))) (after_next c).rest) ended in
        let within = lines_within bytes (after_next c).rest (given ++ line ∷ []) ended g.after.all g.after.each (low_more number line g) in
        refused_by line line others.0 more ended f others.1 (within ∙ append_assoc given (line ∷ []) more) is is

    pub refused_long : (number : ℕ) (f : Fault) → Overlong number ≡ next c → ((line : List ℕ) → 65536 < length line → a.fault (given ++ line ∷ []) false ≡ Some f) →
        (ended : Bool) → IsRefused a bytes (a.text given false) ended f
    refused_long number f is bad ended =
        let x = long_among number is ended in
        let y = long_within number is ended in
        refused_by x.0 y.0 x.1 y.1 ended f x.2 y.2 (bad x.0 x.3) (bad y.0 y.3)

    -- a prefix of what became due last went out
    pub some_written : (before out front : List ℕ) → a.text given false ≡ before ++ out → IsFront front out → (ended : Bool) → IsFront (before ++ front) (a.text (lines bytes ended) ended)
    some_written before out front grows some ended =
        let all = lines_after ended in
        let fin = final.front given (lines c.rest ended) ended (subst (All HasNoLf) all (lines_are_free bytes ended)) in (
          some.0 ++ fin.0,
          ap (λ ls. a.text ls ended) all ∙ (fin.1 ∙ (ap (λ x. x ++ fin.0) (grows ∙ ap (λ x. before ++ x) some.1)
              ∙ (append_assoc before (front ++ some.0) fin.0 ∙ (ap (λ x. before ++ x) (append_assoc front some.0 fin.0) ∙ sym (append_assoc before front (some.0 ++ fin.0)))))),
        )
