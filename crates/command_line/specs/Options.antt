-- The options of the command line, as the rules by which clap reads words.
use Rattle.std.specs.Prelude.{true, List, [], ◌∷◌, map, codes, Some}
use Rattle.std.specs.Borrow.{Bor}
use Rattle.std.specs.List.{fold}
use Rattle.clap.specs.Walk.{Rule, Text}
use Rattle.clap.specs.Simple.{App, new_app, new_rule, with_rule}
use Rattle.clap.specs.declared.builder.action.ArgAction.TheVariants.{Set, SetTrue}
use Rattle.clap.specs.declared.builder.value_parser.ValueParser.{ValueParser}
use Rattle.clap.specs.declared.builder.value_parser.ValueParser.TheVariants as vp

-- a reference to x, since clap keeps names behind references: (behind x).now is x, and where it points is of no account
abbrev pub behind : {X : Type 0} → X → Bor X
behind x = record { ref_ptr = (0, 0); now = x }

-- the values are these texts: among (codes "run" ∷ codes "explain" ∷ []) takes run and explain, and no other
abbrev pub among : List Text → ValueParser
among names = vp.Names (behind (map (λ name. behind name) names))

abbrev pub mode_names : List Text
mode_names = codes "run" ∷ codes "freeze" ∷ codes "resume" ∷ codes "explain" ∷ codes "cut" ∷ codes "sample" ∷ []

abbrev pub late_names : List Text
late_names = codes "refuse" ∷ codes "drop" ∷ codes "adjust" ∷ []

-- an option with a value, which may stand once: option_rule (codes "batch") is --batch 7 or --batch=7
abbrev pub option_rule : Text → Rule
option_rule name = record (new_rule name) { long = Some name; action = Some Set }

-- --query: any text, and it has to stand: --query s, or --query="" for the empty one
abbrev pub query_rule : Rule
query_rule = record (option_rule (codes "query")) { required = true }

-- --mode, of which the values are given by a parser: --mode explain; run where it does not stand
abbrev pub mode_rule : ValueParser → Rule
mode_rule modes = record (option_rule (codes "mode")) { parser = Some modes; defaults = codes "run" ∷ [] }

-- --batch: a whole number from 1 to 8192, as --batch 7 or --batch=+007; 1024 where it does not stand
abbrev pub batch_rule : Rule
batch_rule = record (option_rule (codes "batch")) { parser = Some (vp.Unsigned 1 8192); defaults = codes "1024" ∷ [] }

-- --workers: a whole number from 1 to 16; 1 where it does not stand: --workers 4
abbrev pub workers_rule : Rule
workers_rule = record (option_rule (codes "workers")) { parser = Some (vp.Unsigned 1 16); defaults = codes "1" ∷ [] }

-- --header: it stands, or it does not
abbrev pub header_rule : Rule
header_rule = record (new_rule (codes "header")) { long = Some (codes "header"); action = Some SetTrue }

-- --late, of which the values are given by a parser: --late drop; refuse where it does not stand
abbrev pub late_rule : ValueParser → Rule
late_rule ways = record (option_rule (codes "late")) { parser = Some ways; defaults = codes "refuse" ∷ [] }

-- a whole number from 0 to 2^60 - 1, the greatest time of an event; 0 where it does not stand: --lateness 5
abbrev pub time_rule : Text → Rule
time_rule name = record (option_rule name) { parser = Some (vp.Unsigned 0 1152921504606846975); defaults = codes "0" ∷ [] }

-- --lateness: how much older than the newest line a line may be
abbrev pub lateness_rule : Rule
lateness_rule = time_rule (codes "lateness")

-- --punctuate: the period of punctuations, or 0 for none
abbrev pub punctuate_rule : Rule
punctuate_rule = time_rule (codes "punctuate")

-- --number: a whole number from 0 to 2^32 - 1, from which events are generated; 0 where it does not stand: --number 7
abbrev pub number_rule : Rule
number_rule = record (option_rule (codes "number")) { parser = Some (vp.Unsigned 0 4294967295); defaults = codes "0" ∷ [] }

-- --events: how many events are generated, from 1 to 1000000; 1000 where it does not stand: --events 100
abbrev pub events_rule : Rule
events_rule = record (option_rule (codes "events")) { parser = Some (vp.Unsigned 1 1000000); defaults = codes "1000" ∷ [] }

-- --checkpoint: the file that keeps the state of a run, of which the name is not empty: --checkpoint state; none where it does not stand
abbrev pub checkpoint_rule : Rule
checkpoint_rule = record (option_rule (codes "checkpoint")) { parser = Some vp.NonEmptyString }

-- --every: how many units of time are between two checkpoints at least, from 1 to 2^60 - 1; 1 where it does not stand: --every 60
abbrev pub every_rule : Rule
every_rule = record (option_rule (codes "every")) { parser = Some (vp.Unsigned 1 1152921504606846975); defaults = codes "1" ∷ [] }

-- a file by a name that is not empty; - where it does not stand, which is the standard one: --input lines.csv
abbrev pub file_rule : Text → Rule
file_rule name = record (option_rule name) { parser = Some vp.NonEmptyString; defaults = codes "-" ∷ [] }

-- --input: where lines come from
abbrev pub input_rule : Rule
input_rule = file_rule (codes "input")

-- --output: where lines go to
abbrev pub output_rule : Rule
output_rule = file_rule (codes "output")

-- the options, where the values of --mode and of --late are given by parsers
abbrev pub option_rules : ValueParser → ValueParser → List Rule
option_rules modes ways =
    query_rule ∷ mode_rule modes ∷ batch_rule ∷ workers_rule ∷ header_rule ∷ late_rule ways ∷ lateness_rule ∷ punctuate_rule ∷ number_rule ∷ events_rule
    ∷ checkpoint_rule ∷ every_rule ∷ input_rule ∷ output_rule ∷ []

-- the command tempo with its options; clap adds --help itself
abbrev pub tempo_app_with : ValueParser → ValueParser → App
tempo_app_with modes ways = fold with_rule (new_app (codes "tempo")) (option_rules modes ways)

-- the command tempo, where the values of --mode are run, freeze, resume, explain, cut and sample, and those of --late refuse, drop and adjust
abbrev pub tempo_app : App
tempo_app = tempo_app_with (among mode_names) (among late_names)
