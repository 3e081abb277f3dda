-- Lines that a reader of a checkpoint takes.
use Rattle.std.proofs.Common.{◌≡◌, ◌⊎◌, ◌≤◌, ◌<◌, ◌+◌, ℕ, zero, suc, List, [], ◌∷◌, ◌++◌, length, take, Bool, true, Some, None, Ok, Err, inl, inr, refl, sym, ◌∙◌, ap, arith, append-nil, subst}
use Rattle.std.specs.List.{All}
use Rattle.std.proofs.lemmas.List.{length-append, take_all}
use Rattle.std.proofs.lemmas.List.Elements.{All-append}
use Rattle.wire_lines.specs.Cutter.{CutterState, Overlong}
use Rattle.wire_lines.specs.Lines.{lines}
use Rattle.wire_lines.specs.Next.{next, after_next}
use Rattle.wire_lines.specs.Cuts.{Cuts, GivesLine, HasGivenAll, FindsTooMany}
use Rattle.wire_lines.specs.Reading.{fed}
use Rattle.wire_lines.proofs.CutsFacts.{lines_with_last, lines_without_last}
use Rattle.frozen_state.specs.Frozen.{FrozenView}
use Rattle.checkpoint.specs.Form.{FormView}
use Rattle.checkpoint.specs.Text.{checkpoint_lines, IsOfForm, BeginsText, IsUnfinished}
use Rattle.checkpoint.specs.Taking.{ReaderView, lines_taken}
use Rattle.tempo_cli.specs.Table.{limit}
use Rattle.tempo_cli.specs.Freezing.{IsShort}
use Rattle.tempo_cli.specs.Restoring.{AreFront, IsBegun, IsNotWhole}
use Rattle.tempo_cli.specs.Feeding.{HasCut, WantsBytes}
use Rattle.tempo_cli.specs.Restored.{Reads, IsWhole, HasRead, TakesLine, StopsAt}
use Rattle.tempo_cli.specs.declared.status.Status.{Status}
use Rattle.tempo_cli.specs.declared.status.Status.TheVariants.{InputTooLong, Memory, BadCheckpoint}
use Rattle.tempo_cli.specs.declared.resuming.Restoring.{Restoring}
use Rattle.tempo_cli.proofs.Moves.{within_all, within_more, lines_after, line_fronts, long_fronts, too_many, few_bytes}

some_bytes : (xs : List ℕ) → (xs ≡ [] → ⊥) → 0 < length xs
some_bytes [] h = absurd (h refl)
some_bytes (x ∷ xs) h = omega arith

pub one_short : (line : List ℕ) → length line ≤ 65536 → All IsShort (line ∷ [])
one_short line short zero d low = short
one_short line short (suc k) d low = absurd (omega arith)

-- bytes came in to the cutter
fed_longest : (s : CutterState) (piece : List ℕ) → (fed s piece).longest ≡ s.longest
fed_longest s [] = refl
fed_longest s (b ∷ bs) = refl

fed_total : (s : CutterState) (piece : List ℕ) → (fed s piece).total ≡ s.total
fed_total s [] = refl
fed_total s (b ∷ bs) = refl

pub cut_fed : {bytes : List ℕ} {given : List (List ℕ)} {c d : CutterState} (piece : List ℕ) → HasCut bytes given c → d ≡ fed c piece → Cuts (bytes ++ piece) d given → HasCut (bytes ++ piece) given d
cut_fed {bytes} {given} {c} {d} piece w is cuts = record {
  longest = ap (λ (s : CutterState). s.longest) is ∙ (fed_longest c piece ∙ w.longest);
  total = ap (λ (s : CutterState). s.total) is ∙ (fed_total c piece ∙ w.total);
  cuts = cuts;
  fine = refl;
}

-- line n is refused, in all lines and in the first ones
no_line : {form : FormView} {ls given : List (List ℕ)} (ended : Bool) (n : ℕ) (line : List ℕ) → AreFront (given ++ line ∷ []) ls → n ≡ length given + 1 → IsBegun form given →
    (65536 < length line) ⊎ (BeginsText form (given ++ line ∷ []) → ⊥) → IsNotWhole form ls ended n
no_line {form} {ls} {given} ended n line front number begun refused = inl (record { before = given; line = line; front = front; number = number; begun = begun; refused = refused })

module _ {form : FormView} {bytes : List ℕ} {given : List (List ℕ)} {r : Restoring} (h : Reads form bytes given r) where
  -- more bytes are wanted
  pub reads_all : (t : Restoring) → HasGivenAll bytes r.cutter given → t.cutter ≡ after_next r.cutter → t.reader ≡ r.reader → t.taken ≡ r.taken → Reads form bytes given t
  reads_all t g cutter reader taken = record {
    within = subst (HasCut bytes given) (sym cutter) (within_all h.within g);
    form_is = ap (λ (v : ReaderView). v.form) reader ∙ h.form_is;
    taken = ap lines_taken reader ∙ h.taken;
    number = taken ∙ h.number;
    begun = h.begun;
  }

  -- more bytes came in
  pub reads_fed : (t : Restoring) (piece : List ℕ) → t.cutter ≡ fed r.cutter piece → Cuts (bytes ++ piece) t.cutter given → t.reader ≡ r.reader → t.taken ≡ r.taken → Reads form (bytes ++ piece) given t
  reads_fed t piece cutter cuts reader taken = record {
    within = cut_fed piece h.within cutter cuts;
    form_is = ap (λ (v : ReaderView). v.form) reader ∙ h.form_is;
    taken = ap lines_taken reader ∙ h.taken;
    number = taken ∙ h.number;
    begun = h.begun;
  }

  pub reads_none : (t : Restoring) (piece : List ℕ) → piece ≡ [] → t.cutter ≡ fed r.cutter piece → Cuts (bytes ++ piece) t.cutter given → t.reader ≡ r.reader → t.taken ≡ r.taken → Reads form bytes given t
  reads_none t piece none cutter cuts reader taken =
      subst (λ x. Reads form x given t) (ap (λ b. bytes ++ b) none ∙ append-nil bytes) (reads_fed t piece cutter cuts reader taken)

  -- more bytes came than may
  pub stops_full : FindsTooMany bytes r.cutter given → length bytes ≤ limit + 1 → (ended : Bool) → StopsAt form InputTooLong bytes given ended
  stops_full found few ended =
      let t = too_many h.within found few in
      record { front = (_, lines_after h.within ended); begun = h.begun; end = (t.long, rw (← h.within.total) found.whole_are, t.short) }

  -- the next line is too long
  pub stops_long : (number : ℕ) → Overlong number ≡ next r.cutter → number ≡ length given + 1 → (ended : Bool) → StopsAt form (BadCheckpoint number) bytes given ended
  stops_long number is number_is ended =
      let both = long_fronts h.within number is ended in
      record {
        front = (_, lines_after h.within ended);
        begun = h.begun;
        end = (no_line ended number both.1.0 both.1.1 number_is h.begun (inl both.1.2), no_line ended number both.0.0 both.0.1 number_is h.begun (inl both.0.2));
      }

  -- a line was taken: the checkpoint goes on
  all_taken : (number : ℕ) (line : List ℕ) (t : ReaderView) → TakesLine r.reader number line (Ok None) t → lines_taken t ≡ given ++ line ∷ []
  all_taken number line t takes = takes.0 ∙ ap (λ ls. ls ++ line ∷ []) h.taken

  pub begun_more : (number : ℕ) (line : List ℕ) → length line ≤ 65536 → (t : ReaderView) → TakesLine r.reader number line (Ok None) t → IsBegun form (given ++ line ∷ [])
  begun_more number line short t takes = record {
    unfinished = subst (λ f. IsUnfinished f (given ++ line ∷ [])) h.form_is (subst (IsUnfinished r.reader.form) (all_taken number line t takes) takes.1);
    short = All-append IsShort given (line ∷ []) h.begun.short (one_short line short);
  }

  -- it was the last one
  pub whole_more : (number : ℕ) (line : List ℕ) → length line ≤ 65536 → (f : FrozenView) (t : ReaderView) → TakesLine r.reader number line (Ok (Some f)) t → IsWhole form f (given ++ line ∷ [])
  whole_more number line short f t takes = record {
    of_form = subst (λ v. IsOfForm v f) h.form_is takes.1;
    text = sym (ap (λ (v : FormView). checkpoint_lines v.head f) (sym h.form_is) ∙ (takes.0 ∙ ap (λ ls. ls ++ line ∷ []) h.taken));
    short = All-append IsShort given (line ∷ []) h.begun.short (one_short line short);
  }

  -- it was refused
  pub not_begun : (number : ℕ) (line : List ℕ) {n : ℕ} → (n ≡ number) × (BeginsText r.reader.form (lines_taken r.reader ++ line ∷ []) → ⊥) → BeginsText form (given ++ line ∷ []) → ⊥
  not_begun number line {n} takes b =
      takes.1 (subst (λ f. BeginsText f (lines_taken r.reader ++ line ∷ [])) (sym h.form_is) (subst (λ ls. BeginsText form (ls ++ line ∷ [])) (sym h.taken) b))

  module _ (number : ℕ) (line : List ℕ) (g : GivesLine bytes r.cutter given number line) where
    short_given : length line ≤ 65536
    short_given = omega (arith, g.short, h.within.longest)

    pub reads_more : (t : Restoring) → t.cutter ≡ after_next r.cutter → t.taken ≡ number → TakesLine r.reader number line (Ok None) t.reader → Reads form bytes (given ++ line ∷ []) t
    reads_more t cutter taken takes = record {
      within = subst (HasCut bytes (given ++ line ∷ [])) (sym cutter) (within_more h.within number line g refl);
      form_is = takes.2 ∙ h.form_is;
      taken = all_taken number line t.reader takes;
      number = omega (arith, taken, g.number_is, length-append given (line ∷ []));
      begun = begun_more number line short_given t.reader takes;
    }

    pub reads_last : (t : Restoring) (f : FrozenView) → t.cutter ≡ after_next r.cutter → t.taken ≡ number → TakesLine r.reader number line (Ok (Some f)) t.reader → HasRead form f bytes (given ++ line ∷ []) t
    reads_last t f cutter taken takes = record {
      within = subst (HasCut bytes (given ++ line ∷ [])) (sym cutter) (within_more h.within number line g refl);
      number = omega (arith, taken, g.number_is, length-append given (line ∷ []));
      whole = whole_more number line short_given f t.reader takes;
    }

    pub stops_line : (status : Status) (t : ReaderView) → TakesLine r.reader number line (Err status) t → (ended : Bool) → StopsAt form status bytes given ended
    stops_line (BadCheckpoint n) t takes ended =
        let both = line_fronts h.within number line g ended in
        let refused = not_begun number line takes in
        record {
          front = (_, lines_after h.within ended);
          begun = h.begun;
          end = (no_line ended n line both.1 (takes.0 ∙ g.number_is) h.begun (inr refused), no_line ended n line both.0 (takes.0 ∙ g.number_is) h.begun (inr refused));
        }
    stops_line Memory t takes ended = record { front = (_, lines_after h.within ended); begun = h.begun; end = tt }
    stops_line status t takes ended = absurd takes

-- the input has ended, and all of its bytes but those of a last line were taken
module _ {form : FormView} {bytes : List ℕ} {given : List (List ℕ)} {r : Restoring} (h : Reads form bytes given r) (wants : WantsBytes r.cutter) where
  both_lines : (X : List (List ℕ) → Type 0) → X (lines bytes true) → X (lines (take limit bytes) true) × X (lines bytes true)
  both_lines X x = (subst (λ b. X (lines b true)) (sym (take_all limit bytes (few_bytes h.within wants.wants_bytes))) x, x)

  -- there is none
  pub stops_without : (n : ℕ) → r.cutter.rest ≡ [] → n ≡ length given + 1 → StopsAt form (BadCheckpoint n) bytes given true
  stops_without n none is =
      let all = lines_without_last bytes r.cutter given h.within.cuts none in
      record {
        front = ([], all ∙ sym (append-nil given));
        begun = h.begun;
        end = both_lines (λ ls. IsNotWhole form ls true n) (inr (record { at_end = refl; number = is ∙ ap (λ ls. length ls + 1) (sym all); begun = subst (IsBegun form) (sym all) h.begun }));
      }

  module _ (number : ℕ) (line : List ℕ) (some : r.cutter.rest ≡ [] → ⊥) (is : line ≡ r.cutter.rest) (number_is : number ≡ length given + 1) where
    with_last : lines bytes true ≡ given ++ line ∷ []
    with_last = lines_with_last bytes r.cutter given h.within.cuts wants.one_line (some_bytes r.cutter.rest some) ∙ ap (λ x. given ++ x ∷ []) (sym is)

    short_last : length line ≤ 65536
    short_last = omega (arith, ap length is, wants.short)

    pub number_last : number ≡ length (lines bytes true)
    number_last = omega (arith, number_is, ap length with_last, length-append given (line ∷ []))

    pub whole_last : (f : FrozenView) (t : ReaderView) → TakesLine r.reader number line (Ok (Some f)) t → IsWhole form f (lines bytes true)
    whole_last f t takes = subst (IsWhole form f) (sym with_last) (whole_more h number line short_last f t takes)

    -- it is not the last one of the checkpoint
    pub stops_more : (n : ℕ) (t : ReaderView) → TakesLine r.reader number line (Ok None) t → n ≡ number + 1 → StopsAt form (BadCheckpoint n) bytes given true
    stops_more n t takes e = record {
      front = (line ∷ [], with_last);
      begun = h.begun;
      end = both_lines (λ ls. IsNotWhole form ls true n) (inr (record {
        at_end = refl;
        number = omega (arith, e, number_last);
        begun = subst (IsBegun form) (sym with_last) (begun_more h number line short_last t takes);
      }));
    }

    pub stops_last : (status : Status) (t : ReaderView) → TakesLine r.reader number line (Err status) t → StopsAt form status bytes given true
    stops_last (BadCheckpoint n) t takes = record {
      front = (line ∷ [], with_last);
      begun = h.begun;
      end = both_lines (λ ls. IsNotWhole form ls true n) (no_line true n line ([], with_last ∙ sym (append-nil (given ++ line ∷ []))) (takes.0 ∙ number_is) h.begun (inr (not_begun h number line takes)));
    }
    stops_last Memory t takes = record { front = (line ∷ [], with_last); begun = h.begun; end = tt }
    stops_last status t takes = absurd takes
