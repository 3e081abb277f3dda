-- Words that are taken give each option a value that passes.
use Rattle.std.proofs.Common.{◌≡◌, ◌⊎◌, Bool, None, true, false, inl, inr, refl, sym, ap, subst, true≢false, List, [], ◌∷◌, codes, length, map, nat_le, ◌++◌}
use Rattle.std.specs.Prelude.{option_and_then, slice_get}
use Rattle.std.specs.List.{fold}
use Rattle.clap.specs.Walk.{Row, Rule, Text, finished, first_of, has_row, nothing_held, reading_by, settled_rows, used, walk, walk_from, with_default}
use Rattle.clap.specs.Simple.{Shape, built, filled, help_rule, with_index}
use Rattle.clap.specs.Takes.{is_given, settle_passes, use_passes, walk_passes}
use Rattle.clap.specs.declared.builder.value_parser.ValueParser.{ValueParser}
use Rattle.clap.specs.declared.builder.value_parser.Reading.TheVariants as reading
use Rattle.clap.proofs.WalkLemmas.{both}
use Rattle.command_line.specs.Options.{among, batch_rule, checkpoint_rule, events_rule, every_rule, header_rule, input_rule, late_names, late_rule, lateness_rule, mode_names, mode_rule, number_rule, option_rules, output_rule, punctuate_rule, query_rule, tempo_app_with, workers_rule}
use Rattle.command_line.proofs.Distinct.{Each, are_distinct, defaults_keep, each_in, one_of_id, row_by_default}
use Rattle.command_line.proofs.Kept.{IsIn, settling_keeps, walk_keeps}
use Rattle.command_line.proofs.Rows.{AllFit, Reads, default_fits, flag_use, given_has, no_default, none_found, reads_of, row_found, set_use}

-- ---- the command as clap builds it

abbrev pub modes : ValueParser
modes = among mode_names

abbrev pub ways : ValueParser
ways = among late_names

abbrev pub built_rule : Rule → Rule
built_rule a = with_index 1 (filled a)

abbrev pub query_built : Rule
query_built = built_rule query_rule

abbrev pub mode_built : Rule
mode_built = built_rule (mode_rule modes)

abbrev pub batch_built : Rule
batch_built = built_rule batch_rule

abbrev pub workers_built : Rule
workers_built = built_rule workers_rule

abbrev pub header_built : Rule
header_built = built_rule header_rule

abbrev pub late_built : Rule
late_built = built_rule (late_rule ways)

abbrev pub lateness_built : Rule
lateness_built = built_rule lateness_rule

abbrev pub punctuate_built : Rule
punctuate_built = built_rule punctuate_rule

abbrev pub number_built : Rule
number_built = built_rule number_rule

abbrev pub events_built : Rule
events_built = built_rule events_rule

abbrev pub checkpoint_built : Rule
checkpoint_built = built_rule checkpoint_rule

abbrev pub every_built : Rule
every_built = built_rule every_rule

abbrev pub input_built : Rule
input_built = built_rule input_rule

abbrev pub output_built : Rule
output_built = built_rule output_rule

abbrev pub help_built : Rule
help_built = built_rule help_rule

abbrev pub tempo_rules : List Rule
tempo_rules = map built_rule (option_rules modes ways) ++ help_built ∷ []

abbrev pub shape_with : ValueParser → ValueParser → Shape
shape_with p r = (built (tempo_app_with p r)).top

abbrev pub tempo_shape : Shape
tempo_shape = shape_with modes ways

abbrev K : List Row → Type 0
K = AllFit tempo_rules

-- where each option stands
of_query : IsIn query_built tempo_rules
of_query = inl refl

of_mode : IsIn mode_built tempo_rules
of_mode = inr (inl refl)

of_batch : IsIn batch_built tempo_rules
of_batch = inr (inr (inl refl))

of_workers : IsIn workers_built tempo_rules
of_workers = inr (inr (inr (inl refl)))

of_header : IsIn header_built tempo_rules
of_header = inr (inr (inr (inr (inl refl))))

of_late : IsIn late_built tempo_rules
of_late = inr (inr (inr (inr (inr (inl refl)))))

of_lateness : IsIn lateness_built tempo_rules
of_lateness = inr (inr (inr (inr (inr (inr (inl refl))))))

of_punctuate : IsIn punctuate_built tempo_rules
of_punctuate = inr (inr (inr (inr (inr (inr (inr (inl refl)))))))

of_number : IsIn number_built tempo_rules
of_number = inr (inr (inr (inr (inr (inr (inr (inr (inl refl))))))))

of_events : IsIn events_built tempo_rules
of_events = inr (inr (inr (inr (inr (inr (inr (inr (inr (inl refl)))))))))

of_checkpoint : IsIn checkpoint_built tempo_rules
of_checkpoint = inr (inr (inr (inr (inr (inr (inr (inr (inr (inr (inl refl))))))))))

of_every : IsIn every_built tempo_rules
of_every = inr (inr (inr (inr (inr (inr (inr (inr (inr (inr (inr (inl refl)))))))))))

of_input : IsIn input_built tempo_rules
of_input = inr (inr (inr (inr (inr (inr (inr (inr (inr (inr (inr (inr (inl refl))))))))))))

of_output : IsIn output_built tempo_rules
of_output = inr (inr (inr (inr (inr (inr (inr (inr (inr (inr (inr (inr (inr (inl refl)))))))))))))

-- ---- one use, and one default: a line for each option

Uses : Rule → Type 0
Uses a = (vs : List Text) (rows : List Row) → use_passes false a vs rows ≡ true → K rows → K (used a vs rows)

by_help : (vs : List Text) (rows : List Row) → use_passes false help_built vs rows ≡ true → ⊥
by_help vs rows e =
    let least = both (nat_le 0 (length vs)) _ e in
    let most = both (nat_le (length vs) 0) _ least.1 in
    true≢false (sym most.1)

uses : Each Uses tempo_rules
unfolding Uses
uses = (
  set_use tempo_rules query_built of_query,
  (
    set_use tempo_rules mode_built of_mode,
    (
      set_use tempo_rules batch_built of_batch,
      (
        set_use tempo_rules workers_built of_workers,
        (
          flag_use tempo_rules header_built of_header (codes "true") refl refl,
          (
            set_use tempo_rules late_built of_late,
            (
              set_use tempo_rules lateness_built of_lateness,
              (
                set_use tempo_rules punctuate_built of_punctuate,
                (
                  set_use tempo_rules number_built of_number,
                  (
                    set_use tempo_rules events_built of_events,
                    (
                      set_use tempo_rules checkpoint_built of_checkpoint,
                      (
                        set_use tempo_rules every_built of_every,
                        (
                          set_use tempo_rules input_built of_input,
                          (
                            set_use tempo_rules output_built of_output,
                            (
                              (λ vs rows p k. absurd (by_help vs rows p)),
                              tt,
                            ),
                          ),
                        ),
                      ),
                    ),
                  ),
                ),
              ),
            ),
          ),
        ),
      ),
    ),
  ),
)

use_keeps : (a : Rule) (vs : List Text) (rows : List Row) → IsIn a tempo_rules → use_passes false a vs rows ≡ true → K rows → K (used a vs rows)
unfolding Uses
use_keeps a vs rows of = each_in Uses tempo_rules a of uses vs rows

Keeps : Rule → Type 0
Keeps a = (rows : List Row) → K rows → K (with_default rows a)

keeps_none : (a : Rule) → a.defaults ≡ [] → (rows : List Row) → K rows → K (with_default rows a)
keeps_none a none rows k = subst K (sym (no_default a none rows)) k

keeps : Each Keeps tempo_rules
unfolding Keeps
keeps = (
  keeps_none query_built refl,
  (
    default_fits tempo_rules mode_built of_mode (codes "run") refl refl,
    (
      default_fits tempo_rules batch_built of_batch (codes "1024") refl refl,
      (
        default_fits tempo_rules workers_built of_workers (codes "1") refl refl,
        (
          default_fits tempo_rules header_built of_header (codes "false") refl refl,
          (
            default_fits tempo_rules late_built of_late (codes "refuse") refl refl,
            (
              default_fits tempo_rules lateness_built of_lateness (codes "0") refl refl,
              (
                default_fits tempo_rules punctuate_built of_punctuate (codes "0") refl refl,
                (
                  default_fits tempo_rules number_built of_number (codes "0") refl refl,
                  (
                    default_fits tempo_rules events_built of_events (codes "1000") refl refl,
                    (
                      keeps_none checkpoint_built refl,
                      (
                        default_fits tempo_rules every_built of_every (codes "1") refl refl,
                        (
                          default_fits tempo_rules input_built of_input (codes "-") refl refl,
                          (
                            default_fits tempo_rules output_built of_output (codes "-") refl refl,
                            (
                              keeps_none help_built refl,
                              tt,
                            ),
                          ),
                        ),
                      ),
                    ),
                  ),
                ),
              ),
            ),
          ),
        ),
      ),
    ),
  ),
)

defaults_fit : (rows : List Row) → K rows → K (fold with_default rows tempo_rules)
unfolding Keeps
defaults_fit rows k = defaults_keep K tempo_rules keeps rows k

-- ---- all words

-- what the words hold of the command when they pass
pub record Passes (s : Shape) (words : List Text) : Type 0 where
  pub walks : walk_passes s [] (walk_from nothing_held) words ≡ true
  pub settles : settle_passes s.rules s.args_override_self (walk s.rules [] nothing_held words).held ≡ true
  pub query : is_given (codes "query") (finished s.rules (walk s.rules [] nothing_held words).held) ≡ true

abbrev pub last_rows : Shape → List Text → List Row
last_rows s words = finished s.rules (walk s.rules [] nothing_held words).held

rows_fit : (words : List Text) → Passes tempo_shape words → K (last_rows tempo_shape words)
rows_fit words p =
    let h = (walk tempo_rules [] nothing_held words).held in
    let walked = walk_keeps tempo_shape [] K use_keeps words (walk_from nothing_held) p.walks tt in
    defaults_fit (settled_rows tempo_rules h.pending h.rows) (settling_keeps tempo_rules false K use_keeps h p.settles walked)

-- ---- the value of each option

apart : are_distinct tempo_rules ≡ true
apart = refl

-- the option has a value that passes, or none
abbrev pub MayRead : Rule → Text → List Row → Type 0
MayRead a id rows = (first_of id rows ≡ None) ⊎ Reads a id rows

-- each option has a value that passes, but --checkpoint may have none
pub record Values (rows : List Row) : Type 0 where
  pub query : Reads query_built (codes "query") rows
  pub mode : Reads mode_built (codes "mode") rows
  pub batch : Reads batch_built (codes "batch") rows
  pub workers : Reads workers_built (codes "workers") rows
  pub header : Reads header_built (codes "header") rows
  pub late : Reads late_built (codes "late") rows
  pub lateness : Reads lateness_built (codes "lateness") rows
  pub punctuate : Reads punctuate_built (codes "punctuate") rows
  pub number : Reads number_built (codes "number") rows
  pub events : Reads events_built (codes "events") rows
  pub checkpoint : MayRead checkpoint_built (codes "checkpoint") rows
  pub every : Reads every_built (codes "every") rows
  pub input : Reads input_built (codes "input") rows
  pub output : Reads output_built (codes "output") rows

value_of_rule : (a : Rule) → IsIn a tempo_rules → reading_by a ≡ reading.AsWritten → (rows : List Row) → K rows → has_row a.id rows ≡ true → Reads a a.id rows
value_of_rule a of plain rows k has = reads_of tempo_rules a a.id rows (λ x in_ same. one_of_id tempo_rules apart x a in_ of same) plain (row_found tempo_rules a.id rows k has)

may_read : (a : Rule) → IsIn a tempo_rules → reading_by a ≡ reading.AsWritten → (rows : List Row) → K rows → MayRead a a.id rows
may_read a of plain rows k = go (has_row a.id rows) refl
  where
    go : (b : Bool) → has_row a.id rows ≡ b → MayRead a a.id rows
    go true has = inr (value_of_rule a of plain rows k has)
    go false none = inl (ap (option_and_then (λ (r : Row). slice_get r.values 0)) (none_found a.id rows none))

pub values_of_words : (words : List Text) → Passes tempo_shape words → Values (last_rows tempo_shape words)
values_of_words words p =
    let k = rows_fit words p in
    let rows = last_rows tempo_shape words in
    let h = (walk tempo_rules [] nothing_held words).held in
    let before = settled_rows tempo_rules h.pending h.rows in
    record {
      query = value_of_rule query_built of_query refl rows k (given_has (codes "query") rows p.query);
      mode = value_of_rule mode_built of_mode refl rows k (row_by_default mode_built (codes "run") refl refl tempo_rules of_mode before);
      batch = value_of_rule batch_built of_batch refl rows k (row_by_default batch_built (codes "1024") refl refl tempo_rules of_batch before);
      workers = value_of_rule workers_built of_workers refl rows k (row_by_default workers_built (codes "1") refl refl tempo_rules of_workers before);
      header = value_of_rule header_built of_header refl rows k (row_by_default header_built (codes "false") refl refl tempo_rules of_header before);
      late = value_of_rule late_built of_late refl rows k (row_by_default late_built (codes "refuse") refl refl tempo_rules of_late before);
      lateness = value_of_rule lateness_built of_lateness refl rows k (row_by_default lateness_built (codes "0") refl refl tempo_rules of_lateness before);
      punctuate = value_of_rule punctuate_built of_punctuate refl rows k (row_by_default punctuate_built (codes "0") refl refl tempo_rules of_punctuate before);
      number = value_of_rule number_built of_number refl rows k (row_by_default number_built (codes "0") refl refl tempo_rules of_number before);
      events = value_of_rule events_built of_events refl rows k (row_by_default events_built (codes "1000") refl refl tempo_rules of_events before);
      checkpoint = may_read checkpoint_built of_checkpoint refl rows k;
      every = value_of_rule every_built of_every refl rows k (row_by_default every_built (codes "1") refl refl tempo_rules of_every before);
      input = value_of_rule input_built of_input refl rows k (row_by_default input_built (codes "-") refl refl tempo_rules of_input before);
      output = value_of_rule output_built of_output refl rows k (row_by_default output_built (codes "-") refl refl tempo_rules of_output before);
    }
