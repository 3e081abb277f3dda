-- A cutter keeps its relation to all the bytes that it was fed, and what each answer says of their lines.
use Rattle.std.proofs.Common.{◌≡◌, ◌≤◌, ◌<◌, ℕ, suc, ◌+◌, ◌-◌, List, [], ◌∷◌, ◌++◌, length, take, drop, Bool, true, false, refl, sym, ◌∙◌, ap, arith, append_assoc, add-one}
use Rattle.std.specs.Prelude.{IsTrue}
use Rattle.std.proofs.lemmas.List.{append-nil, length-append, length-take, take-append-drop}
use Rattle.std.proofs.lemmas.List.Elements.{All-push, All-nil}
use Rattle.std.proofs.Math.Seq.{take-append-add}
use Rattle.wire_lines.specs.Lines.{line_len, IsOneLine, cut, whole, rest, lines, last_of, joined}
use Rattle.wire_lines.specs.Cutter.{CutterState, opening, Next, IsRefusal, Given, Overlong, Overfull, Wanting}
use Rattle.wire_lines.specs.Next.{next, after_next}
use Rattle.wire_lines.specs.Cuts.{Cuts, IsSettled, GivesLine, FindsTooLong, FindsTooMany, HasGivenAll, Tells}
use Rattle.wire_lines.proofs.LineLength.{line_len-le}
use Rattle.wire_lines.proofs.NextFacts.{given, overlong, overfull, wanting, IsGiven, IsOverlong, IsOverfull, IsWanting}
use Rattle.wire_lines.proofs.Cutting.{cut_free, cut_go_on, cut_first, free_take, free_front, at_end_of_line, lines_go_on, lines_first, lines_free, lines_long, last_of-end, last_of-not_yet, joined-push}

never : false ≡ true → ⊥
never e = cc

-- nothing was fed
pub Cuts-opening : (longest total : ℕ) → Cuts [] (opening longest total) []
Cuts-opening longest total = record {
  all = refl;
  each = All-nil IsOneLine;
  number_is = refl;
  passed_is = refl;
  fits = omega arith;
  settled = λ _. record { one_line = refl; short = omega arith; few = omega arith };
}

-- after a piece was fed
pub Cuts-fed : (bytes piece : List ℕ) (s : CutterState) (given : List (List ℕ)) → Cuts bytes s given → Cuts (bytes ++ piece) (record s { rest = s.rest ++ piece; wants_bytes = false }) given
Cuts-fed bytes piece s given c = record {
  all = ap (λ x. x ++ piece) c.all ∙ append_assoc (joined given) s.rest piece;
  each = c.each;
  number_is = c.number_is;
  passed_is = c.passed_is;
  fits = c.fits;
  settled = λ t. absurd (never t);
}

-- after a refusal
pub Cuts-stopped : (bytes : List ℕ) (s : CutterState) (given : List (List ℕ)) → Cuts bytes s given → Cuts bytes (record s { wants_bytes = false }) given
Cuts-stopped bytes s given c = record {
  all = c.all;
  each = c.each;
  number_is = c.number_is;
  passed_is = c.passed_is;
  fits = c.fits;
  settled = λ t. absurd (never t);
}

-- after more bytes were asked for
pub Cuts-settled : (bytes : List ℕ) (s : CutterState) (given : List (List ℕ)) → Cuts bytes s given → IsSettled bytes s → Cuts bytes (record s { wants_bytes = true }) given
Cuts-settled bytes s given c settled = record {
  all = c.all;
  each = c.each;
  number_is = c.number_is;
  passed_is = c.passed_is;
  fits = c.fits;
  settled = λ _. record { one_line = settled.one_line; short = settled.short; few = settled.few };
}

-- after a line was given
pub Cuts-line : (bytes : List ℕ) (s : CutterState) (given : List (List ℕ)) → Cuts bytes s given → line_len s.rest < length s.rest → line_len s.rest < s.total - s.passed →
    Cuts bytes (record s { passed = s.passed + (line_len s.rest + 1); number = s.number + 1; rest = drop (line_len s.rest + 1) s.rest; wants_bytes = false }) (given ++ take (line_len s.rest) s.rest ∷ [])
Cuts-line bytes s given c within room = record {
  all = c.all ∙ ap (λ x. joined given ++ x) (at_end_of_line s.rest within)
      ∙ rw (joined-push given (take (line_len s.rest) s.rest), add-one (line_len s.rest)) (simp append_assoc);
  each = All-push IsOneLine given (take (line_len s.rest) s.rest) c.each (free_take s.rest);
  number_is = omega (arith, c.number_is, length-append given (take (line_len s.rest) s.rest ∷ []));
  passed_is = omega (arith, ap length (joined-push given (take (line_len s.rest) s.rest)), length-append (joined given) (take (line_len s.rest) s.rest ++ 10 ∷ []), length-append (take (line_len s.rest) s.rest) (10 ∷ []), length-take (line_len s.rest) s.rest, c.passed_is);
  fits = omega (arith, c.fits, room);
  settled = λ t. absurd (never t);
}

-- a line that is given is the next line of the bytes
gives_line : (bytes : List ℕ) (s : CutterState) (given : List (List ℕ)) (number : ℕ) (line : List ℕ) → Cuts bytes s given → IsGiven s number line → GivesLine bytes s given number line
gives_line bytes s given number line c g = record {
  number_is = omega (arith, g.number_is, c.number_is);
  one_line = rw g.bytes_is (free_take s.rest);
  short = omega (arith, ap length g.bytes_is, length-take (line_len s.rest) s.rest, g.not_long, g.room, g.within);
  among_whole = (
    whole (drop (suc (line_len s.rest)) s.rest),
    ap (λ (p : List (List ℕ) × List ℕ). p.0) (cut_go_on bytes s.rest given c.all c.each) ∙ ap (λ (x : List (List ℕ)). given ++ x) (ap (λ (p : List (List ℕ) × List ℕ). p.0) (cut_first s.rest g.within) ∙ ap (λ (x : List ℕ). x ∷ whole (drop (suc (line_len s.rest)) s.rest)) (sym g.bytes_is)),
  );
  among_lines = λ at_end.
      let f = lines_first s.rest at_end g.within in
      (f.0, lines_go_on bytes s.rest given at_end c.all c.each ∙ ap (λ (x : List (List ℕ)). given ++ x) (f.1 ∙ ap (λ (x : List ℕ). x ∷ f.0) (sym g.bytes_is)));
  after = rw (g.after, g.bytes_is) (Cuts-line bytes s given c g.within g.room);
}

-- a line that is too long is the next line of the bytes, as far as they go
finds_too_long : (bytes : List ℕ) (s : CutterState) (given : List (List ℕ)) (number : ℕ) → Cuts bytes s given → IsOverlong s number → FindsTooLong bytes s given number
finds_too_long bytes s given number c over = record {
  number_is = omega (arith, over.number_is, c.number_is);
  line = take (line_len s.rest) s.rest;
  more = drop (line_len s.rest) s.rest;
  bytes_are = c.all ∙ ap (λ x. joined given ++ x) (sym (take-append-drop (line_len s.rest) s.rest));
  one_line = free_take s.rest;
  long = omega (arith, over.long, length-take (line_len s.rest) s.rest, line_len-le s.rest);
  among_lines = λ wide at_end.
      let f = lines_long s.rest at_end (omega (arith, over.long)) in
      (f.0, lines_go_on bytes s.rest given at_end c.all c.each ∙ ap (λ (x : List (List ℕ)). given ++ x) f.1);
  after = rw over.after (Cuts-stopped bytes s given c);
}

split_total : (total passed : ℕ) → passed ≤ total → total ≡ passed + (total - passed)
split_total total passed h = omega arith

-- what stands among the first bytes, where they end in the rest and before its first LF
front_cut : (bytes : List ℕ) (s : CutterState) (given : List (List ℕ)) → Cuts bytes s given → s.total - s.passed ≤ line_len s.rest → cut (take s.total bytes) ≡ (given ++ [], take (s.total - s.passed) s.rest)
front_cut bytes s given c no_line =
    let room : ℕ = s.total - s.passed in
    let front : take s.total bytes ≡ joined given ++ take room s.rest =
    (ap (take s.total) c.all ∙ ap (λ n. take n (joined given ++ s.rest)) (split_total s.total (length (joined given)) (omega (arith, c.passed_is, c.fits))) ∙ take-append-add (joined given) s.rest (s.total - length (joined given)) ∙ ap (λ n. joined given ++ take (s.total - n) s.rest) (sym c.passed_is)) in
    cut_go_on (take s.total bytes) (take room s.rest) given front c.each ∙ ap (λ (p : List (List ℕ) × List ℕ). (given ++ p.0, p.1)) (cut_free (take room s.rest) (free_front s.rest room no_line))

-- more bytes came than may, and what may come holds the lines given
finds_too_many : (bytes : List ℕ) (s : CutterState) (given : List (List ℕ)) → Cuts bytes s given → IsOverfull s → FindsTooMany bytes s given
finds_too_many bytes s given c o =
    let e = front_cut bytes s given c o.no_line in
    record {
      more = omega (arith, ap length c.all, length-append (joined given) s.rest, o.full, c.passed_is, c.fits);
      whole_are = ap (λ (p : List (List ℕ) × List ℕ). p.0) e ∙ append-nil given;
      short = omega (arith, ap (λ (p : List (List ℕ) × List ℕ). length p.1) e, length-take (s.total - s.passed) s.rest, o.not_long);
      after = rw o.after (Cuts-stopped bytes s given c);
    }

-- where the rest holds no LF, all lines that an LF ends were given
pub whole_are_given : (bytes : List ℕ) (s : CutterState) (given : List (List ℕ)) → Cuts bytes s given → IsOneLine s.rest → (whole bytes ≡ given) × (rest bytes ≡ s.rest)
whole_are_given bytes s given c free =
    let e : cut bytes ≡ (given ++ [], s.rest) = (cut_go_on bytes s.rest given c.all c.each ∙ ap (λ (p : List (List ℕ) × List ℕ). (given ++ p.0, p.1)) (cut_free s.rest free)) in
    (ap (λ (p : List (List ℕ) × List ℕ). p.0) e ∙ append-nil given, ap (λ (p : List (List ℕ) × List ℕ). p.1) e)

-- where more bytes are asked for, the rest holds no LF
settles : (bytes : List ℕ) (s : CutterState) (given : List (List ℕ)) → Cuts bytes s given → IsWanting s → IsSettled bytes s
settles bytes s given c w = record {
  one_line = omega (arith, w.no_line, line_len-le s.rest);
  short = omega (arith, w.no_line, line_len-le s.rest, w.short, w.room);
  few = omega (arith, ap length c.all, length-append (joined given) s.rest, w.room, c.passed_is, c.fits);
}

-- where more bytes are asked for, all whole lines were given
has_given_all : (bytes : List ℕ) (s : CutterState) (given : List (List ℕ)) → Cuts bytes s given → IsWanting s → HasGivenAll bytes s given
has_given_all bytes s given c w =
    let settled = settles bytes s given c w in
    let all = whole_are_given bytes s given c settled.one_line in
    record { whole_are = all.0; rest_is = all.1; settled = settled; asks = ap (λ (x : CutterState). x.wants_bytes) w.after; after = rw w.after (Cuts-settled bytes s given c settled) }

-- what each answer says
pub tells_line : (bytes : List ℕ) (s : CutterState) (lines : List (List ℕ)) (number : ℕ) (line : List ℕ) → Given number line ≡ next s → Cuts bytes s lines → GivesLine bytes s lines number line
tells_line bytes s lines number line e c = gives_line bytes s lines number line c (given s number line e)

pub tells_too_long : (bytes : List ℕ) (s : CutterState) (lines : List (List ℕ)) (number : ℕ) → Overlong number ≡ next s → Cuts bytes s lines → FindsTooLong bytes s lines number
tells_too_long bytes s lines number e c = finds_too_long bytes s lines number c (overlong s number e)

pub tells_too_many : (bytes : List ℕ) (s : CutterState) (lines : List (List ℕ)) → Overfull ≡ next s → Cuts bytes s lines → FindsTooMany bytes s lines
tells_too_many bytes s lines e c = finds_too_many bytes s lines c (overfull s e)

pub tells_all : (bytes : List ℕ) (s : CutterState) (lines : List (List ℕ)) → Wanting ≡ next s → Cuts bytes s lines → HasGivenAll bytes s lines
tells_all bytes s lines e c = has_given_all bytes s lines c (wanting s e)

-- what the next answer says
pub tells_of : (bytes : List ℕ) (s : CutterState) (lines : List (List ℕ)) (answer : Next) → answer ≡ next s → Cuts bytes s lines → Tells bytes s lines answer
tells_of bytes s lines (Given number line) e c = tells_line bytes s lines number line e c
tells_of bytes s lines (Overlong number) e c = tells_too_long bytes s lines number e c
tells_of bytes s lines Overfull e c = tells_too_many bytes s lines e c
tells_of bytes s lines Wanting e c = tells_all bytes s lines e c

-- all lines, where the cutter asks for more bytes
pub lines_settled : (bytes : List ℕ) (s : CutterState) (given : List (List ℕ)) (at_end : Bool) → Cuts bytes s given → IsOneLine s.rest → lines bytes at_end ≡ given ++ last_of s.rest at_end
lines_settled bytes s given at_end c free = lines_go_on bytes s.rest given at_end c.all c.each ∙ ap (λ (x : List (List ℕ)). given ++ x) (lines_free s.rest at_end free)

-- the input goes on
pub lines_so_far : (bytes : List ℕ) (s : CutterState) (given : List (List ℕ)) → Cuts bytes s given → IsOneLine s.rest → length s.rest ≤ 65536 → lines bytes false ≡ given
lines_so_far bytes s given c free short = lines_settled bytes s given false c free ∙ ap (λ (x : List (List ℕ)). given ++ x) (last_of-not_yet s.rest short) ∙ append-nil given

-- the input has ended, and the rest is a last line
pub lines_with_last : (bytes : List ℕ) (s : CutterState) (given : List (List ℕ)) → Cuts bytes s given → IsOneLine s.rest → 0 < length s.rest → lines bytes true ≡ given ++ s.rest ∷ []
lines_with_last bytes s given c free some = lines_settled bytes s given true c free ∙ ap (λ (x : List (List ℕ)). given ++ x) (last_of-end s.rest some)

-- the input has ended right after an LF, or is empty
pub lines_without_last : (bytes : List ℕ) (s : CutterState) (given : List (List ℕ)) → Cuts bytes s given → s.rest ≡ [] → lines bytes true ≡ given
lines_without_last bytes s given c none =
    let free : IsOneLine s.rest = (rw none refl) in
    let no_last : last_of s.rest true ≡ [] = (rw none refl) in
    lines_settled bytes s given true c free ∙ ap (λ (x : List (List ℕ)). given ++ x) no_last ∙ append-nil given

-- where both cutters ask for more bytes
pub Cuts-same : (bytes : List ℕ) (s t : CutterState) (given given' : List (List ℕ)) → Cuts bytes s given → Cuts bytes t given' → IsTrue s.wants_bytes → IsTrue t.wants_bytes → (given ≡ given') × (s.rest ≡ t.rest)
Cuts-same bytes s t given given' c c' h h' =
    let a = whole_are_given bytes s given c (c.settled h).one_line in
    let b = whole_are_given bytes t given' c' (c'.settled h').one_line in
    (sym a.0 ∙ b.0, sym a.1 ∙ b.1)

-- a refusal leaves what the next answer is
pub next-again : (s : CutterState) (answer : Next) → answer ≡ next s → IsRefusal answer → next (after_next s) ≡ next s
next-again s (Given number line) e r = absurd r
next-again s (Overlong number) e r = ap next (overlong s number e).after
next-again s Overfull e r = ap next (overfull s e).after
next-again s Wanting e r = absurd r
