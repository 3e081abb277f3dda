-- Words spell one command.
use Rattle.std.proofs.Common.{◌≡◌, Bool, true, false, List, Option, Some, None, refl, sym, ◌∙◌, ap, true≢false, ℕ}
use Rattle.std.specs.Prelude.{codes}
use Rattle.std.specs.Str.{bytes_eq}
use Rattle.std.proofs.lemmas.Slice.Eq.{bytes_eq-Decides}
use Rattle.clap.specs.Values.{bool_text}
use Rattle.clap.specs.Walk.{Text}
use Rattle.admission.specs.declared.policy.Lateness.{Lateness}
use Rattle.admission.specs.declared.policy.Lateness.TheVariants as ways
use Rattle.command_line.specs.Words.{Asked, Kept, SpellsCommand, SpellsKeeping, late_text, mode_text, number_said, value_of}
use Rattle.command_line.specs.declared.words.Mode.{Mode}
use Rattle.command_line.specs.declared.words.Mode.TheVariants.{Run, Freeze, Resume, Explain, Cut, Sample}
use Rattle.command_line.proofs.Same.{asked_is, kept_is, policy_is}

apart : {A : Type 0} (a b : Text) → bytes_eq a b ≡ false → a ≡ b → A
apart a b differs e = absurd (true≢false (sym ((bytes_eq-Decides a b).1 e) ∙ differs))

mode_once : (m n : Mode) → mode_text m ≡ mode_text n → m ≡ n
mode_once Run Run e = refl
mode_once Run Freeze e = apart (codes "run") (codes "freeze") refl e
mode_once Run Resume e = apart (codes "run") (codes "resume") refl e
mode_once Run Explain e = apart (codes "run") (codes "explain") refl e
mode_once Run Cut e = apart (codes "run") (codes "cut") refl e
mode_once Run Sample e = apart (codes "run") (codes "sample") refl e
mode_once Freeze Run e = apart (codes "freeze") (codes "run") refl e
mode_once Freeze Freeze e = refl
mode_once Freeze Resume e = apart (codes "freeze") (codes "resume") refl e
mode_once Freeze Explain e = apart (codes "freeze") (codes "explain") refl e
mode_once Freeze Cut e = apart (codes "freeze") (codes "cut") refl e
mode_once Freeze Sample e = apart (codes "freeze") (codes "sample") refl e
mode_once Resume Run e = apart (codes "resume") (codes "run") refl e
mode_once Resume Freeze e = apart (codes "resume") (codes "freeze") refl e
mode_once Resume Resume e = refl
mode_once Resume Explain e = apart (codes "resume") (codes "explain") refl e
mode_once Resume Cut e = apart (codes "resume") (codes "cut") refl e
mode_once Resume Sample e = apart (codes "resume") (codes "sample") refl e
mode_once Explain Run e = apart (codes "explain") (codes "run") refl e
mode_once Explain Freeze e = apart (codes "explain") (codes "freeze") refl e
mode_once Explain Resume e = apart (codes "explain") (codes "resume") refl e
mode_once Explain Explain e = refl
mode_once Explain Cut e = apart (codes "explain") (codes "cut") refl e
mode_once Explain Sample e = apart (codes "explain") (codes "sample") refl e
mode_once Cut Run e = apart (codes "cut") (codes "run") refl e
mode_once Cut Freeze e = apart (codes "cut") (codes "freeze") refl e
mode_once Cut Resume e = apart (codes "cut") (codes "resume") refl e
mode_once Cut Explain e = apart (codes "cut") (codes "explain") refl e
mode_once Cut Cut e = refl
mode_once Cut Sample e = apart (codes "cut") (codes "sample") refl e
mode_once Sample Run e = apart (codes "sample") (codes "run") refl e
mode_once Sample Freeze e = apart (codes "sample") (codes "freeze") refl e
mode_once Sample Resume e = apart (codes "sample") (codes "resume") refl e
mode_once Sample Explain e = apart (codes "sample") (codes "explain") refl e
mode_once Sample Cut e = apart (codes "sample") (codes "cut") refl e
mode_once Sample Sample e = refl

flag_once : (b d : Bool) → bool_text b ≡ bool_text d → b ≡ d
flag_once true true e = refl
flag_once true false e = cc
flag_once false true e = cc
flag_once false false e = refl

some_once : {X : Type 0} (t : Option X) (a b : X) → t ≡ Some a → t ≡ Some b → a ≡ b
some_once t a b p q = let e : Some a ≡ Some b = sym p ∙ q in cc

late_once : (l m : Lateness) → late_text l ≡ late_text m → l ≡ m
late_once ways.Refuse ways.Refuse e = refl
late_once ways.Refuse ways.Drop e = apart (codes "refuse") (codes "drop") refl e
late_once ways.Refuse ways.Adjust e = apart (codes "refuse") (codes "adjust") refl e
late_once ways.Drop ways.Refuse e = apart (codes "drop") (codes "refuse") refl e
late_once ways.Drop ways.Drop e = refl
late_once ways.Drop ways.Adjust e = apart (codes "drop") (codes "adjust") refl e
late_once ways.Adjust ways.Refuse e = apart (codes "adjust") (codes "refuse") refl e
late_once ways.Adjust ways.Drop e = apart (codes "adjust") (codes "drop") refl e
late_once ways.Adjust ways.Adjust e = refl

keeping_once : (words : List Text) (k l : Option Kept) → SpellsKeeping words k → SpellsKeeping words l → k ≡ l
keeping_once words None None p q = refl
keeping_once words None (Some l) p q = absurd (let e : None ≡ Some l.checkpoint = sym p ∙ q.checkpoint in cc)
keeping_once words (Some k) None p q = absurd (let e : None ≡ Some k.checkpoint = sym q ∙ p.checkpoint in cc)
keeping_once words (Some k) (Some l) p q = ap (λ (x : Kept). Some x) (kept_is k.checkpoint l.checkpoint k.every l.every k.input l.input k.output l.output
    (some_once _ k.checkpoint l.checkpoint p.checkpoint q.checkpoint)
    (some_once _ k.every l.every p.every q.every)
    (some_once _ k.input l.input p.input q.input)
    (some_once _ k.output l.output p.output q.output))

-- words spell one command
pub one_command : (words : List Text) (a b : Asked) → SpellsCommand words a → SpellsCommand words b → a ≡ b
one_command words a b p q = asked_is a.query b.query a.mode b.mode a.batch b.batch a.workers b.workers a.header b.header a.policy b.policy a.number b.number a.events b.events a.keeping b.keeping
    (some_once _ a.query b.query p.query q.query)
    (mode_once a.mode b.mode (some_once _ (mode_text a.mode) (mode_text b.mode) p.mode q.mode))
    (some_once _ a.batch b.batch p.batch q.batch)
    (some_once _ a.workers b.workers p.workers q.workers)
    (flag_once a.header b.header (some_once _ (bool_text a.header) (bool_text b.header) p.header q.header))
    (policy_is a.policy.lateness b.policy.lateness a.policy.late b.policy.late a.policy.period b.policy.period (some_once _ a.policy.lateness b.policy.lateness p.lateness q.lateness)
    (late_once a.policy.late b.policy.late (some_once _ (late_text a.policy.late) (late_text b.policy.late) p.late q.late))
    (some_once _ a.policy.period b.policy.period p.punctuate q.punctuate))
    (some_once _ a.number b.number p.number q.number)
    (some_once _ a.events b.events p.events q.events)
    (keeping_once words a.keeping b.keeping p.keeping q.keeping)
