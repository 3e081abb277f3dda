-- One line, and the end of the lines, over the parts of an engine.
use Rattle.std.specs.Prelude.{◌≡◌, ℕ, ◌<◌, ◌≤◌, true, false, List, [], ◌∷◌, ◌++◌, flat_map, length, Some, None}
use Rattle.std.proofs.Common.{refl, sym, ◌∙◌, ap, subst, inr, arith}
use Rattle.std.proofs.lemmas.List.{append-nil}
use Rattle.std.proofs.lemmas.List.Sums.{fold-append}
use Rattle.tw_rows.specs.Cells.{with_row}
use Rattle.lane_expr.specs.Steps.{with_texts}
use Rattle.row_reader.specs.Interned.{row_read}
use Rattle.dataflow.specs.Held.{nodes_in_all}
use Rattle.tempo_engine.specs.Texts.{texts_of}
use Rattle.tw_rows.specs.Instant.{inf}
use Rattle.tw_rows.specs.declared.edge.Edge.{Edge}
use Rattle.row_reader.specs.Printed.{IsEnd}
use Rattle.plan_model.specs.IsPlan.{PlanParts}
use Rattle.plan_laws.specs.Undefined.{overflow}
use Rattle.admission.specs.declared.policy.Policy.{Policy}
use Rattle.admission.specs.Admission.{rows, allowed}
use Rattle.admission.specs.Entries.{Told, IsRead}
use Rattle.admission.specs.Progress.{Progress, judged, progress, fault}
use Rattle.admission.specs.Text.{written}
use Rattle.admission.proofs.Rising.{lines_going}
use Rattle.admission.proofs.Steps.{allowed_low}
use Rattle.dataflow.specs.declared.fault.PlanFault.{PlanFault}
use Rattle.dataflow.specs.declared.fault.PlanFault.TheVariants.{Overflow}
use Rattle.tempo_engine.specs.Faults.{IsFaultOf, undefined_at}
use Rattle.tempo_engine.specs.Output.{item_text, result_kinds, plan_text}
use Rattle.tempo_engine.specs.Held.{HasWorked}
use Rattle.tempo_engine.specs.Went.{Went, Further, HasFed}
use Rattle.tempo_engine.specs.Working.{HasTaken, IsDue, IsShown}
use Rattle.tempo_engine.specs.declared.parts.Parts.{Parts}
use Rattle.tempo_engine.proofs.Feeding.{read_more, after_going, due_below, quiet_next, loud_next, quiet_text, loud_text, quiet_end, loud_end, end_text}
use Rattle.tempo_engine.proofs.Holding.{worked_of}
use Rattle.tempo_engine.proofs.Telling.{undefined_told, end_told}

-- the texts of one line more come last
pub texts_next : (plan : PlanParts) (lines : List Told) (line : Told) → with_row (texts_of plan lines) (row_read line.read) ≡ texts_of plan (lines ++ line ∷ [])
texts_next plan lines line = sym (fold-append (λ (texts : List (List ℕ)) (l : Told). with_row texts (row_read l.read)) (with_texts [] (nodes_in_all plan.nodes)) lines (line ∷ []))

module _ (plan : PlanParts) (policy : Policy) (lines : List Told) (line : Told) (valid : IsRead (length plan.streams) line.read) (given lists : ℕ → List Edge) (old : Parts) (fed : HasFed plan policy lines given lists old)
    (e : Parts) (taken : HasTaken plan policy lines line given lists e) where
  abbrev before : Progress
  before = progress plan policy lines false

  abbrev after : Progress
  after = record before { after = taken.after }

  abbrev due : ℕ
  due = allowed policy (length plan.streams) taken.after

  abbrev there_due : ℕ
  there_due = allowed e.ingress.policy (length e.ingress.kinds.items) taken.after

  same_due : there_due ≡ due
  same_due = ap (λ rules. allowed rules (length e.ingress.kinds.items) taken.after) taken.went.fixed.policy ∙ ap (λ n. allowed policy n taken.after) taken.went.fixed.count

  none_due : there_due ≤ e.ingress.released → due ≤ before.last
  none_due low = (let s = same_due in let r = taken.went.released in omega (arith, low, s, r))

  pub quiet_fed : there_due ≤ e.ingress.released → Further given lists (λ more_given more_lists. HasFed plan policy (lines ++ line ∷ []) more_given more_lists e)
  quiet_fed low =
      let q = quiet_next plan fed.sound policy lines fed.read fed.fine line valid taken.entry taken.says taken.after taken.takes (none_due low) in
      record {
        more_given = given;
        more_lists = lists;
        on_given = λ k. ([], sym (append-nil (given k)));
        on_lists = λ k. ([], sym (append-nil (lists k)));
        there = record {
          sound = fed.sound;
          read = read_more (length plan.streams) lines line fed.read valid;
          fine = ap (λ w. w.fault) q ∙ fed.fine;
          texts = taken.texts;
          went = subst (λ w. Went plan policy w given lists e) (sym q) taken.went;
        };
      }

  pub quiet_grows : there_due ≤ e.ingress.released → (bytes : List ℕ) → bytes ≡ [] → plan_text plan policy (lines ++ line ∷ []) false ≡ plan_text plan policy lines false ++ bytes
  quiet_grows low bytes is =
      quiet_text plan fed.sound policy lines fed.read fed.fine line valid taken.entry taken.says taken.after taken.takes (item_text (result_kinds plan)) (none_due low)
      ∙ sym (append-nil (plan_text plan policy lines false)) ∙ ap (λ b. plan_text plan policy lines false ++ b) (sym is)

  module _ (p : ℕ) (is : there_due ≡ p) (above : e.ingress.released < p) where
    p_due : due ≡ p
    p_due = sym same_due ∙ is

    p_above : before.last < p
    p_above = (let r = taken.went.released in omega (arith, above, r))

    pub is_due : IsDue p plan policy after given lists e
    is_due = record {
      sound = fed.sound;
      going = after_going plan fed.sound policy lines fed.read fed.fine line valid taken.entry taken.says taken.after taken.takes;
      went = taken.went;
      above = p_above;
      low = subst (λ q. q ≤ inf) p_due (allowed_low policy (length plan.streams) taken.after);
      instant = subst IsEnd p_due taken.instant;
    }

    pub below : (s : ℕ) → s < length plan.streams → p ≤ taken.after.bound s
    below s there = subst (λ q. q ≤ taken.after.bound s) p_due (due_below plan fed.sound policy lines fed.read fed.fine line valid taken.entry taken.says taken.after taken.takes s there)

    pub loud_fed : (bytes : List ℕ) → IsShown p plan after bytes → (new : Parts) → new.texts ≡ e.texts → Further given lists (λ more_given more_lists. Went plan policy (judged p after None) more_given more_lists new) →
        Further given lists (λ more_given more_lists. HasFed plan policy (lines ++ line ∷ []) more_given more_lists new)
    loud_fed bytes shown new same further =
        let q = loud_next plan fed.sound policy lines fed.read fed.fine line valid taken.entry taken.says taken.after taken.takes p None p_due p_above shown.defined in
        record {
          more_given = further.more_given;
          more_lists = further.more_lists;
          on_given = further.on_given;
          on_lists = further.on_lists;
          there = record {
            sound = fed.sound;
            read = read_more (length plan.streams) lines line fed.read valid;
            fine = ap (λ w. w.fault) q ∙ fed.fine;
            texts = same ∙ taken.texts;
            went = subst (λ w. Went plan policy w further.more_given further.more_lists new) (sym q) further.there;
          };
        }

    pub loud_grows : (bytes : List ℕ) → IsShown p plan after bytes → plan_text plan policy (lines ++ line ∷ []) false ≡ plan_text plan policy lines false ++ bytes
    loud_grows bytes shown =
        loud_text plan fed.sound policy lines fed.read fed.fine line valid taken.entry taken.says taken.after taken.takes (item_text (result_kinds plan)) p bytes p_due p_above shown.defined shown.shown

    pub fault_told : (f : PlanFault) → ((node time : ℕ) → f ≡ Overflow node time → overflow (rows taken.after) plan.nodes p ≡ Some (record { node = node; time = time })) →
        IsFaultOf (undefined_at p f) (fault plan policy (lines ++ line ∷ []) false)
    fault_told f tells = undefined_told plan fed.sound policy lines fed.read fed.fine line valid taken.entry taken.says taken.after taken.takes p p_due p_above f tells

module _ (plan : PlanParts) (policy : Policy) (lines : List Told) (given lists : ℕ → List Edge) (e : Parts) (fed : HasFed plan policy lines given lists e) where
  abbrev last : Progress
  last = progress plan policy lines false

  pub closed_fine : inf ≤ e.ingress.released → fault plan policy lines true ≡ None
  closed_fine low = ap (λ w. w.fault) (quiet_end plan fed.sound policy lines fed.fine (let r = fed.went.released in omega (arith, low, r))) ∙ fed.fine

  pub closed_worked : inf ≤ e.ingress.released → HasWorked plan (progress plan policy lines true) e
  closed_worked low = subst (λ w. HasWorked plan w e) (sym (quiet_end plan fed.sound policy lines fed.fine (let r = fed.went.released in omega (arith, low, r)))) (worked_of plan policy last given lists e fed.went)

  pub closed_grows : inf ≤ e.ingress.released → (bytes : List ℕ) → bytes ≡ [] → plan_text plan policy lines true ≡ plan_text plan policy lines false ++ bytes
  closed_grows low bytes is =
      ends_alike (quiet_end plan fed.sound policy lines fed.fine (let r = fed.went.released in omega (arith, low, r)))
      ∙ sym (append-nil (plan_text plan policy lines false)) ∙ ap (λ b. plan_text plan policy lines false ++ b) (sym is)
    where
      ends_alike : progress plan policy lines true ≡ last → plan_text plan policy lines true ≡ plan_text plan policy lines false
      ends_alike q = ap (λ w. flat_map (item_text (result_kinds plan)) (written plan w)) q

  module _ (above : e.ingress.released < inf) where
    end_above : last.last < inf
    end_above = (let r = fed.went.released in omega (arith, above, r))

    pub end_due : IsDue inf plan policy last given lists e
    end_due = record {
      sound = fed.sound;
      going = lines_going plan fed.sound policy lines fed.read;
      went = fed.went;
      above = end_above;
      low = omega arith;
      instant = inr refl;
    }

    pub end_fine : (bytes : List ℕ) → IsShown inf plan last bytes → fault plan policy lines true ≡ None
    end_fine bytes shown = ap (λ w. w.fault) (loud_end plan fed.sound policy lines fed.fine None end_above shown.defined) ∙ fed.fine

    pub end_worked : (bytes : List ℕ) → IsShown inf plan last bytes → (new : Parts) → HasWorked plan (judged inf last None) new → HasWorked plan (progress plan policy lines true) new
    end_worked bytes shown new worked = subst (λ w. HasWorked plan w new) (sym (loud_end plan fed.sound policy lines fed.fine None end_above shown.defined)) worked

    pub end_grows : (bytes : List ℕ) → IsShown inf plan last bytes → plan_text plan policy lines true ≡ plan_text plan policy lines false ++ bytes
    end_grows bytes shown = end_text plan fed.sound policy lines fed.fine (item_text (result_kinds plan)) bytes end_above shown.defined shown.shown

    pub end_fault_told : (f : PlanFault) → ((node time : ℕ) → f ≡ Overflow node time → overflow (rows last.after) plan.nodes inf ≡ Some (record { node = node; time = time })) →
        IsFaultOf (undefined_at inf f) (fault plan policy lines true)
    end_fault_told f tells = end_told plan fed.sound policy lines fed.fine end_above f tells
