-- The lines of a block, one after the other.
use Rattle.std.specs.Prelude.{◌≡◌, ◌≢◌, ◌==◌, ◌<◌, ◌≤◌, ◌+◌, ◌-◌, ◌^◌, ℕ, suc, false, List, [], ◌∷◌, ◌++◌, length, take, drop, slice_index}
use Rattle.std.specs.List.{All}
use Rattle.std.proofs.Common.{refl, sym, ◌∙◌, ap, subst, arith, append_assoc, drop-cons}
use Rattle.std.proofs.lemmas.Bool.{ne_eqb, eq-eqb, eqb-true}
use Rattle.std.proofs.lemmas.Grind.{get_or_default_zero}
use Rattle.std.proofs.lemmas.List.{append-nil, length-append, length-drop, length-take, take_all, take-append-drop, get_or-take}
use Rattle.std.proofs.lemmas.List.Elements.{All-nil, All-cons}
use Rattle.std.proofs.lemmas.List.Splits.{slice_split_none, slice_split_at}
use Rattle.memchr.specs.Find.{Nowhere, Passes, is_byte}
use Rattle.plan_model.specs.IsPlan.{PlanParts}
use Rattle.admission.specs.declared.policy.Policy.{Policy}
use Rattle.admission.specs.Entries.{Told}
use Rattle.admission.specs.Progress.{fault}
use Rattle.tempo_engine.specs.Output.{plan_text, told}
use Rattle.tempo_engine.specs.Faults.{IsFaultOf, IsBadOf}
use Rattle.tempo_engine.specs.Went.{HasFed, Further, WhateverFed, EngineView}
use Rattle.tempo_engine.specs.Fed.{FedBy, WhateverTook, FeedsOn, last_number}
use Rattle.tempo_engine.specs.Block.{between_feeds, number_at, told_from, told_block, Appends, GrowsWith, StopsIn, BadIn, FeedsAllOn}
use Rattle.tempo_engine.specs.declared.fault.EngineFault.{EngineFault}
use Rattle.tempo_engine.specs.declared.parts.Parts.{Parts}
use Rattle.tempo_engine.proofs.Punctuating.{further_on}
use Rattle.tempo_engine.proofs.Keeping.{TakesLines, number_is}

-- no LF stands before the first one
pub none_before : (bytes : List ℕ) (at : ℕ) → at ≤ length bytes → Nowhere (Passes (is_byte 10) bytes) 0 at → All (λ b. b ≢ 10) (take at bytes)
none_before bytes at low none k d there is =
    let here : k < at = (let l = length-take at bytes in omega (arith, l, there)) in
    let same : slice_index bytes k ≡ 10 = sym (get_or_default_zero bytes k d (omega arith)) ∙ sym (get_or-take at bytes k d here) ∙ is in
    none k (omega arith) here (eq-eqb (slice_index bytes k) 10 same)

pub none_at_all : (bytes : List ℕ) → Nowhere (Passes (is_byte 10) bytes) 0 (length bytes) → All (λ b. b ≢ 10) bytes
none_at_all bytes none = subst (All (λ b. b ≢ 10)) (take_all (length bytes) bytes (omega arith)) (none_before bytes (length bytes) (omega arith) none)

no_feed : (line : List ℕ) → All (λ b. b ≢ 10) line → All (λ b. (b == 10) ≡ false) line
no_feed line free = λ k d low. ne_eqb _ 10 (free k d low)

-- bytes without an LF are one line
pub one_line : (line : List ℕ) → All (λ b. b ≢ 10) line → between_feeds line ≡ line ∷ []
one_line line free = slice_split_none (λ b. b == 10) line (no_feed line free)

-- the line before the first LF, and those behind it
pub first_line : (bytes : List ℕ) (at : ℕ) → at < length bytes → Nowhere (Passes (is_byte 10) bytes) 0 at → Passes (is_byte 10) bytes at →
    (length (take (length bytes - (at + 1)) (drop (at + 1) bytes)) < length bytes)
    × (between_feeds bytes ≡ take at bytes ∷ between_feeds (take (length bytes - (at + 1)) (drop (at + 1) bytes)))
first_line bytes at low none is =
    let free = none_before bytes at (omega arith) none in
    let next : at + 1 ≡ suc at = omega arith in
    let tail : take (length bytes - (at + 1)) (drop (at + 1) bytes) ≡ drop (suc at) bytes =
    ap (λ n. take (length bytes - n) (drop n bytes)) next ∙ take_all (length bytes - suc at) (drop (suc at) bytes) (omega (arith, length-drop (suc at) bytes)) in
    let all : bytes ≡ take at bytes ++ 10 ∷ drop (suc at) bytes =
    sym (take-append-drop at bytes) ∙ ap (λ l. take at bytes ++ l) (drop-cons bytes at 0 low ∙ ap (λ b. b ∷ drop (suc at) bytes) (eqb-true (slice_index bytes at) 10 is)) in (
      omega (arith, ap length tail, length-drop (suc at) bytes),
      ap between_feeds all ∙ slice_split_at (λ b. b == 10) (take at bytes) 10 (drop (suc at) bytes) (no_feed (take at bytes) free) refl ∙ ap (λ l. take at bytes ∷ between_feeds l) (sym tail),
    )

-- a piece is put behind
pub appended : (bytes out piece text : List ℕ) → text ≡ bytes ++ piece → piece ≡ out → text ≡ bytes ++ out
appended bytes out piece text is same = is ∙ ap (λ p. bytes ++ p) same

-- some lines of a block are taken, of which the first has the number n: these parts took them behind whatever the old ones took, and
-- the text grew by the bytes. The line behind them has the number `number`
pub record TookFront (old : Parts) (n : ℕ) (block : List (List ℕ)) (new : Parts) (number : ℕ) (rest : List (List ℕ)) (bytes : List ℕ) : Type 0 where
  pub before : List (List ℕ)
  pub all : block ≡ before ++ rest
  pub number_is : number ≡ number_at n (length before)
  pub follow : (plan : PlanParts) (more : List (List ℕ)) → told_from plan n (before ++ more) ≡ told_from plan n before ++ told_from plan number more
  pub fed : TakesLines (λ plan. told_from plan n before) old new
  pub grown : WhateverFed old (λ plan policy lines given lists. GrowsWith plan policy lines (told_from plan n before) bytes)

-- before the first line
pub no_line : (old : Parts) (n : ℕ) (block : List (List ℕ)) → n < 2 ^ 64 → (bytes : List ℕ) → bytes ≡ [] → TookFront old n block old n block bytes
no_line old n block low bytes none = record {
  before = [];
  all = refl;
  number_is = omega arith;
  follow = λ plan more. refl;
  fed = λ plan policy lines given lists fed. record {
    more_given = given;
    more_lists = lists;
    on_given = λ k. ([], sym (append-nil (given k)));
    on_lists = λ k. ([], sym (append-nil (lists k)));
    there = subst (λ l. HasFed plan policy l given lists old) (sym (append-nil lines)) fed;
  };
  grown = λ plan policy lines given lists fed.
      ap (λ l. plan_text plan policy l false) (append-nil lines) ∙ sym (append-nil (plan_text plan policy lines false)) ∙ ap (λ b. plan_text plan policy lines false ++ b) (sym none);
}

module _ (old : Parts) (n : ℕ) (block : List (List ℕ)) (e : Parts) (number : ℕ) (rest : List (List ℕ)) (bytes : List ℕ) (front : TookFront old n block e number rest bytes)
    (line : List ℕ) (after : List (List ℕ)) (rest_is : rest ≡ line ∷ after) where
  told_next : (plan : PlanParts) → told_from plan n (front.before ++ line ∷ []) ≡ told_from plan n front.before ++ told plan number line ∷ []
  told_next plan = front.follow plan (line ∷ [])

  block_is : block ≡ front.before ++ line ∷ after
  block_is = front.all ∙ ap (λ l. front.before ++ l) rest_is

  block_all : after ≡ [] → block ≡ front.before ++ line ∷ []
  block_all last = block_is ∙ ap (λ l. front.before ++ line ∷ l) last

  lines_next : (plan : PlanParts) (lines : List Told) → (lines ++ told_from plan n front.before) ++ told plan number line ∷ [] ≡ lines ++ told_from plan n (front.before ++ line ∷ [])
  lines_next plan lines = append_assoc lines (told_from plan n front.before) (told plan number line ∷ []) ∙ ap (λ l. lines ++ l) (sym (told_next plan))

  module _ (new : Parts) (takes : TakesLines (λ plan. told plan number line ∷ []) e new) where
    fed_next : TakesLines (λ plan. told_from plan n (front.before ++ line ∷ [])) old new
    fed_next plan policy lines given lists fed =
        further_on given lists _ _ (front.fed plan policy lines given lists fed) (λ more_given more_lists there.
        subst (λ l. Further more_given more_lists (λ g l'. HasFed plan policy l g l' new)) (lines_next plan lines)
        (takes plan policy (lines ++ told_from plan n front.before) more_given more_lists there))

    module _ (text : List ℕ) (put : Appends bytes text (λ out. WhateverFed e (λ plan policy lines given lists. GrowsWith plan policy lines (told plan number line ∷ []) out))) where
      grown_next : WhateverFed old (λ plan policy lines given lists. GrowsWith plan policy lines (told_from plan n (front.before ++ line ∷ [])) text)
      grown_next plan policy lines given lists fed =
          let there = front.fed plan policy lines given lists fed in
          ap (λ l. plan_text plan policy l false) (sym (lines_next plan lines))
          ∙ put.holds plan policy (lines ++ told_from plan n front.before) there.more_given there.more_lists there.there
          ∙ ap (λ t. t ++ put.bytes) (front.grown plan policy lines given lists fed)
          ∙ append_assoc (plan_text plan policy lines false) bytes put.bytes
          ∙ ap (λ t. plan_text plan policy lines false ++ t) (sym put.all)

      follow_next : (plan : PlanParts) (more : List (List ℕ)) →
          told_from plan n ((front.before ++ line ∷ []) ++ more) ≡ told_from plan n (front.before ++ line ∷ []) ++ told_from plan (number_at number 1) more
      follow_next plan more =
          ap (told_from plan n) (append_assoc front.before (line ∷ []) more)
          ∙ front.follow plan (line ∷ more)
          ∙ sym (append_assoc (told_from plan n front.before) (told plan number line ∷ []) (told_from plan (number_at number 1) more))
          ∙ ap (λ l. l ++ told_from plan (number_at number 1) more) (sym (told_next plan))

      -- one line more is taken
      pub line_more : (next : ℕ) → next ≡ number_at number 1 → TookFront old n block new next after text
      line_more next next_is = record {
        before = front.before ++ line ∷ [];
        all = block_is ∙ sym (append_assoc front.before (line ∷ []) after);
        number_is = next_is ∙ ap (λ k. number_at k 1) front.number_is ∙ number_next;
        follow = λ plan more. follow_next plan more ∙ ap (λ k. told_from plan n (front.before ++ line ∷ []) ++ told_from plan k more) (sym next_is);
        fed = fed_next;
        grown = grown_next;
      }
        where
          number_next : number_at (number_at n (length front.before)) 1 ≡ number_at n (length (front.before ++ line ∷ []))
          number_next = (let l = length-append front.before (line ∷ []) in omega (arith, l))

      -- and it is the last one
      pub all_grown : after ≡ [] → WhateverFed old (λ plan policy lines given lists. GrowsWith plan policy lines (told_from plan n block) text)
      all_grown last = subst (λ b. WhateverFed old (λ plan policy lines given lists. GrowsWith plan policy lines (told_from plan n b) text)) (sym (block_all last)) grown_next

    pub all_fed : after ≡ [] → TakesLines (λ plan. told_from plan n block) old new
    all_fed last = subst (λ b. TakesLines (λ plan. told_from plan n b) old new) (sym (block_all last)) fed_next

  pub last_told : after ≡ [] → (plan : PlanParts) (lines : List Told) → number ≡ last_number (lines ++ told_from plan n block)
  last_told last plan lines =
      number_is (lines ++ told_from plan n front.before) (told plan number line)
      ∙ ap last_number (lines_next plan lines ∙ ap (λ b. lines ++ told_from plan n b) (sym (block_all last)))

  -- the line has a fault
  pub stops : (text : List ℕ) → text ≡ bytes → (f : EngineFault) → WhateverFed e (λ plan policy lines given lists. IsFaultOf f (fault plan policy (lines ++ told plan number line ∷ []) false)) →
      WhateverFed old (λ plan policy lines given lists. StopsIn plan policy lines n block text f)
  stops text text_is f tells plan policy lines given lists fed =
      let there = front.fed plan policy lines given lists fed in
      record {
        before = front.before;
        line = line;
        after = after;
        all = block_is;
        grown = front.grown plan policy lines given lists fed ∙ ap (λ t. plan_text plan policy lines false ++ t) (sym text_is);
        first = subst (λ l. IsFaultOf f (fault plan policy l false)) (lines_next plan lines)
            (tells plan policy (lines ++ told_from plan n front.before) there.more_given there.more_lists there.there);
      }

  pub bad_there : (plan : PlanParts) (f : EngineFault) → IsBadOf plan number line f → BadIn plan n block f
  bad_there plan f bad = record {
    before = front.before;
    line = line;
    after = after;
    all = block_is;
    bad = subst (λ k. IsBadOf plan k line f) front.number_is bad;
  }

-- a block of one line
module _ (line : List ℕ) (free : All (λ b. b ≢ 10) line) where
  pub one_short : length line ≤ 65536 → All (λ l. length l ≤ 65536) (between_feeds line)
  one_short short = subst (All (λ l. length l ≤ 65536)) (sym (one_line line free)) (All-cons (λ l. length l ≤ 65536) line [] short (All-nil (λ l. length l ≤ 65536)))

  module _ (n : ℕ) where
    one_told : (plan : PlanParts) → told_block plan n line ≡ told plan n line ∷ []
    one_told plan = ap (told_from plan n) (one_line line free)

    pub one_more : (old : EngineView) (P : PlanParts → Policy → List Told → List Told → Type 0) → WhateverTook old (λ plan policy lines. P plan policy lines (told_block plan n line)) →
        WhateverTook old (λ plan policy lines. P plan policy lines (told plan n line ∷ []))
    one_more old P tells plan policy lines took = subst (P plan policy lines) (one_told plan) (tells plan policy lines took)

    pub one_on : (old new : EngineView) → FeedsAllOn old (λ plan. told_block plan n line) new → FeedsOn old (λ plan. told plan n line) new
    one_on old new on plan policy lines given lists took =
        subst (λ more. Further given lists (λ more_given more_lists. FedBy plan policy (lines ++ more) more_given more_lists new)) (one_told plan) (on plan policy lines given lists took)

    alone : (one : List ℕ) (before : List (List ℕ)) (other : List ℕ) (after : List (List ℕ)) → one ∷ [] ≡ before ++ other ∷ after → (before ≡ []) × (other ≡ one)
    alone one [] other after is = (refl, (let i = is in cc))
    alone one (first ∷ before) other after is = absurd (let l = ap length is in let m = length-append before (other ∷ after) in omega (arith, l, m))

    pub one_fault : (plan : PlanParts) (policy : Policy) (lines : List Told) (bytes : List ℕ) (f : EngineFault) → StopsIn plan policy lines n (between_feeds line) bytes f →
        IsFaultOf f (fault plan policy (lines ++ told plan n line ∷ []) false)
    one_fault plan policy lines bytes f s =
        let only = alone line s.before s.line s.after (sym (one_line line free) ∙ s.all) in
        subst (λ l. IsFaultOf f (fault plan policy (lines ++ told plan n l ∷ []) false)) only.1
        (subst (λ b. IsFaultOf f (fault plan policy (lines ++ told_from plan n (b ++ s.line ∷ [])) false)) only.0 s.first)

    pub one_bad : n < 2 ^ 64 → (plan : PlanParts) (f : EngineFault) → BadIn plan n (between_feeds line) f → IsBadOf plan n line f
    one_bad low plan f b =
        let only = alone line b.before b.line b.after (sym (one_line line free) ∙ b.all) in
        let at : number_at n (length b.before) ≡ n = (let z = ap length only.0 in omega (arith, z, low)) in
        subst (λ k. IsBadOf plan k line f) at (subst (λ l. IsBadOf plan (number_at n (length b.before)) l f) only.1 b.bad)
