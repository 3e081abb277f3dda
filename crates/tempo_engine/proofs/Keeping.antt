-- An engine from one line to the next.
use Rattle.std.specs.Prelude.{◌≡◌, ℕ, zero, suc, Bool, true, false, ◌&&◌, Option, Some, None, Result, Ok, Err, OnOk, IfOk, IfErr, List, [], ◌∷◌, ◌++◌, slice_get, refl}
use Rattle.std.specs.List.{list_all}
use Rattle.std.specs.Result.{result_unwrap_or}
use Rattle.std.proofs.Common.{sym, subst, ◌∙◌}
use Rattle.std.proofs.lemmas.List.Sums.{fold-append}
use Rattle.std.proofs.lemmas.Result.{on_ok_weaker}
use Rattle.plan_model.specs.IsPlan.{PlanParts}
use Rattle.admission.specs.Entries.{Told}
use Rattle.tempo_engine.specs.Went.{HasFed, Further, WhateverFed, CanRun, TookLines, EngineView, GoesOn}
use Rattle.tempo_engine.specs.Fed.{Fed, WhateverTook, last_number}
use Rattle.tempo_engine.specs.Block.{FeedsAllOn}
use Rattle.tempo_engine.specs.declared.fault.EngineFault.{EngineFault}
use Rattle.tempo_engine.specs.declared.parts.Parts.{Parts}

-- what is true of all is true of each
pub all_there : {X : Type 0} (p : X → Bool) (xs : List X) (i : ℕ) (x : X) → list_all p xs ≡ true → slice_get xs i ≡ Some x → p x ≡ true
all_there p [] i x all there = absurd (let t = there in cc)
all_there p (y ∷ ys) zero x all there = (let a = parts (p y) (list_all p ys) all in let m : y ≡ x = (let t = there in cc) in subst (λ z. p z ≡ true) m a.0)
  where
    parts : (a b : Bool) → (a && b) ≡ true → (a ≡ true) × (b ≡ true)
    parts true b h = (refl, h)
    parts false b h = absurd (let z = h in cc)
all_there p (y ∷ ys) (suc i) x all there = all_there p ys i x (rest (p y) (list_all p ys) all) there
  where
    rest : (a b : Bool) → (a && b) ≡ true → b ≡ true
    rest true b h = h
    rest false b h = absurd (let z = h in cc)

-- a line's number is the last one
pub number_is : (lines : List Told) (line : Told) → line.number ≡ last_number (lines ++ line ∷ [])
number_is lines line = sym (fold-append (λ (n : ℕ) (l : Told). l.number) 0 lines (line ∷ []))

-- of whatever edges the streams gave
fed_some : (old new : EngineView) (more : PlanParts → List Told) → FeedsAllOn old more new → WhateverTook old (λ plan policy lines. Fed plan policy (lines ++ more plan) new)
fed_some old new more on plan policy lines is =
    let next = on plan policy lines is.given is.lists is.by in
    record { given = next.more_given; lists = next.more_lists; by = next.there }

-- what the parts owe with these lines more
abbrev pub TakesLines : (PlanParts → List Told) → Parts → Parts → Type 0
TakesLines more old new = WhateverFed old (λ plan policy lines given lists.
    Further given lists (λ more_given more_lists. HasFed plan policy (lines ++ more plan) more_given more_lists new))

-- the parts took what others took, and more, if they took up nothing that was saved
pub took_on : (more : PlanParts → List Told) (old new : Parts) → TakesLines more old new → new.dataflow.thawed ≡ old.dataflow.thawed → TookLines old → TookLines new
took_on more old new takes same took = λ thawed.
    let p = took (sym same ∙ thawed) in
    let next = takes p.0 p.1.0 p.1.1.0 p.1.1.1.0 p.1.1.1.1.0 p.1.1.1.1.1 in
    (p.0, (p.1.0, (p.1.1.0 ++ more p.0, (next.more_given, (next.more_lists, next.there)))))

-- the parts took lines, or told a fault
module _ {X : Type 0} (more : PlanParts → List Told) (answer : Result X EngineFault) (old new : Parts) (fault : Option EngineFault) (ended : Bool) (open_yet : ended ≡ false)
    (fed : OnOk answer (TakesLines more old new)) (ok : OnOk answer (fault ≡ None)) where
  pub still_goes_on : OnOk answer (CanRun new) → new.dataflow.thawed ≡ old.dataflow.thawed → IfErr answer (λ f. fault ≡ Some f) → GoesOn None false old → GoesOn fault ended new
  still_goes_on run same err goes = go answer fed ok run err
    where
      go : (a : Result X EngineFault) → OnOk a (TakesLines more old new) → OnOk a (fault ≡ None) → OnOk a (CanRun new) → IfErr a (λ f. fault ≡ Some f) → GoesOn fault ended new
      go (Ok x) takes none runs some =
          subst (λ f. GoesOn f ended new) (sym none) (subst (λ b. GoesOn None b new) (sym open_yet) (record { run = runs; took = took_on more old new takes same goes.took }))
      go (Err f) takes none runs some = subst (λ x. GoesOn x ended new) (sym some) tt

  module _ (before now : ℕ) (first : Option EngineFault) (was : Bool) (last : OnOk answer ((plan : PlanParts) (lines : List Told) → now ≡ last_number (lines ++ more plan))) where
    abbrev view_then : EngineView
    view_then = record { parts = old; lines = before; fault = first; ended = was }

    abbrev view_now : EngineView
    view_now = record { parts = new; lines = now; fault = fault; ended = ended }

    pub feeds_on : OnOk answer (FeedsAllOn view_then more view_now)
    feeds_on = go answer fed ok last
      where
        go : (a : Result X EngineFault) → OnOk a (TakesLines more old new) → OnOk a (fault ≡ None) → OnOk a ((plan : PlanParts) (lines : List Told) → now ≡ last_number (lines ++ more plan)) →
            OnOk a (FeedsAllOn view_then more view_now)
        go (Ok x) takes none last = λ plan policy lines given lists is.
            let next = takes plan policy lines given lists (record { sound = is.sound; read = is.read; fine = is.fine; texts = is.texts; went = is.went }) in
            record {
              more_given = next.more_given;
              more_lists = next.more_lists;
              on_given = next.on_given;
              on_lists = next.on_lists;
              there = record {
                sound = next.there.sound;
                read = next.there.read;
                fine = next.there.fine;
                none = none;
                going = open_yet;
                number = last plan lines;
                texts = next.there.texts;
                went = next.there.went;
              };
            }
        go (Err f) takes none last = tt

    pub fed_next : OnOk answer (WhateverTook view_then (λ plan policy lines. Fed plan policy (lines ++ more plan) view_now))
    fed_next = on_ok_weaker answer (fed_some view_then view_now more) feeds_on

-- where no fault is kept, the answer was none
pub fault_none : {X P : Type 0} (answer : Result X EngineFault) (fault : Option EngineFault) → IfErr answer (λ f. fault ≡ Some f) → OnOk answer P → fault ≡ None → P
fault_none (Ok x) fault err p none = p
fault_none (Err f) fault err p none = absurd (let e = err in cc)

-- and where one is kept, the answer was this one
pub fault_some : {X : Type 0} (P : EngineFault → Type 0) (answer : Result X EngineFault) (fault : Option EngineFault) → OnOk answer (fault ≡ None) → IfErr answer (λ f. fault ≡ Some f) →
    IfErr answer P → (f : EngineFault) → fault ≡ Some f → P f
fault_some P (Ok x) fault ok err p f is = absurd (let e = ok in cc)
fault_some P (Err g) fault ok err p f is = (let e : g ≡ f = (let h = err in cc) in subst P e p)

-- the number that is kept is the one of the answer
pub last_kept : (P : ℕ → Type 0) (answer : Result ℕ EngineFault) (kept other : ℕ) → IfOk answer P → kept ≡ result_unwrap_or answer other → OnOk answer (P kept)
last_kept P (Ok last) kept other p is = subst P (sym is) p
last_kept P (Err f) kept other p is = tt
