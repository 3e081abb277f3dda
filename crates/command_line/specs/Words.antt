-- What words ask for, by what clap matches for the options.
use Rattle.std.specs.Prelude.{◌≡◌, ◌≤◌, ◌++◌, ◌&&◌, ◌||◌, ℕ, Bool, true, false, not, List, [], ◌∷◌, length, find, codes, decimal, Option, Some, None, is_some, option_map, option_and_then, if◌then◌else◌, ⊤}
use Rattle.std.specs.Option.{option_map_or}
use Rattle.std.specs.Str.{bytes_eq}
use Rattle.std.specs.Str.Parse.{digits_value, without_leading_plus}
use Rattle.clap.specs.Matches.{first_value, one_text}
use Rattle.clap.specs.Values.{IsUnsignedIn, bool_text}
use Rattle.clap.specs.Walk.{Row, Text, first_of}
use Rattle.clap.specs.Simple.{matches_of}
use Rattle.clap.specs.Takes.{takes}
use Rattle.clap.specs.declared.parser.matches.Found.{Found}
use Rattle.clap.specs.declared.parser.matches.ValueSource.{ValueSource}
use Rattle.clap.specs.declared.parser.matches.ValueSource.TheVariants.{CommandLine, DefaultValue}
use Rattle.admission.specs.declared.policy.Policy.{Policy}
use Rattle.admission.specs.declared.policy.Lateness.{Lateness}
use Rattle.admission.specs.declared.policy.Lateness.TheVariants.{Refuse, Drop, Adjust}
use Rattle.command_line.specs.Options.{tempo_app}
use Rattle.command_line.specs.declared.words.Mode.{Mode}
use Rattle.command_line.specs.declared.words.Mode.TheVariants.{Run, Freeze, Resume, Explain, Cut, Sample}
use Rattle.command_line.specs.declared.words.CommandLine.{CommandLine as AskedLine}
use Rattle.command_line.specs.declared.words.Keeping.{Keeping}
use Rattle.command_line.specs.declared.words.WordsFault.{WordsFault}
use Rattle.command_line.specs.declared.words.WordsFault.TheVariants.{Refused, Memory}

-- where the state of a run is kept, how many units of time are between two checkpoints at least, and the files that lines come from
-- and go to: --checkpoint state --every 60 asks for the file state, for 60, and for - and -, the standard input and output
pub record Kept : Type 0 where
  pub checkpoint : Text
  pub every : ℕ
  pub input : Text
  pub output : Text

abbrev pub kept_by : Keeping → Kept
kept_by k = record { checkpoint = k.checkpoint.now; every = k.every; input = k.input.now; output = k.output.now }

-- what is asked for: --query s asks for the query s in the mode Run, with batches of 1024, 1 worker and no header, where no state is
-- kept; in the mode Sample it would be for 1000 events from the number 0
pub record Asked : Type 0 where
  pub query : Text
  pub mode : Mode
  pub batch : ℕ
  pub workers : ℕ
  pub header : Bool
  pub policy : Policy
  pub number : ℕ
  pub events : ℕ
  pub keeping : Option Kept

-- what a command line asks for, with the query as text
abbrev pub asked_by : AskedLine → Asked
asked_by c = record {
  query = c.query.now;
  mode = c.mode;
  batch = c.batch;
  workers = c.workers;
  header = c.header;
  policy = c.policy;
  number = c.number;
  events = c.events;
  keeping = option_map kept_by c.keeping;
}

-- the word for a mode: explain for Explain
abbrev pub mode_text : Mode → Text
mode_text Run = codes "run"
mode_text Freeze = codes "freeze"
mode_text Resume = codes "resume"
mode_text Explain = codes "explain"
mode_text Cut = codes "cut"
mode_text Sample = codes "sample"

-- the word for what becomes of late lines: drop for Drop
abbrev pub late_text : Lateness → Text
late_text Refuse = codes "refuse"
late_text Drop = codes "drop"
late_text Adjust = codes "adjust"

-- the number that a text says: 7 for 7, +7 and 007
abbrev pub number_said : Text → ℕ
number_said text = digits_value 10 (without_leading_plus text)

-- the value that clap matches for an option, by its name: after --mode explain, explain for mode and 1024 for batch
unfoldable pub value_of : List Text → Text → Option Text
value_of words name = first_of name (matches_of tempo_app words)

-- clap takes the words for the command tempo: tempo --query s is read, and tempo --query is not
unfoldable pub are_read : List Text → Bool
are_read words = takes tempo_app words

-- the words give an option its value, and not its default
abbrev pub is_said : Option ValueSource → Bool
is_said None = false
is_said (Some DefaultValue) = false
is_said (Some CommandLine) = true

abbrev pub stands : Text → List Row → Bool
stands name rows = is_said (option_and_then (λ r. r.source) (find (λ r. bytes_eq r.id name) rows))

abbrev pub is_run : Option Text → Bool
is_run mode = option_map_or (λ m. bytes_eq m (codes "run")) mode false

-- the options that were matched go together: --checkpoint goes with the mode run, and --every, --input and --output go with --checkpoint
abbrev pub go_together : List Row → Bool
go_together rows = if is_some (first_of (codes "checkpoint") rows) then is_run (first_of (codes "mode") rows)
    else not (stands (codes "every") rows || stands (codes "input") rows || stands (codes "output") rows)

-- the words are those of the command tempo: tempo --query s --checkpoint state is taken, and tempo --query s --every 60 is not
unfoldable pub are_taken : List Text → Bool
are_taken words = are_read words && go_together (matches_of tempo_app words)

-- the words spell what is kept: --checkpoint state --every 60 does, of the file state and 60
pub record SpellsKept (words : List Text) (k : Kept) : Type 0 where
  pub checkpoint : value_of words (codes "checkpoint") ≡ Some k.checkpoint
  pub every : option_map number_said (value_of words (codes "every")) ≡ Some k.every
  pub input : value_of words (codes "input") ≡ Some k.input
  pub output : value_of words (codes "output") ≡ Some k.output

abbrev pub SpellsKeeping : List Text → Option Kept → Type 0
SpellsKeeping words None = value_of words (codes "checkpoint") ≡ None
SpellsKeeping words (Some k) = SpellsKept words k

-- the words spell what is asked for: tempo --query s --batch 7 asks for the query s in the mode Run, with batches of 7 and no header
pub record SpellsCommand (words : List Text) (a : Asked) : Type 0 where
  pub taken : are_taken words ≡ true
  pub query : value_of words (codes "query") ≡ Some a.query
  pub mode : value_of words (codes "mode") ≡ Some (mode_text a.mode)
  pub batch : option_map number_said (value_of words (codes "batch")) ≡ Some a.batch
  pub workers : option_map number_said (value_of words (codes "workers")) ≡ Some a.workers
  pub header : value_of words (codes "header") ≡ Some (bool_text a.header)
  pub late : value_of words (codes "late") ≡ Some (late_text a.policy.late)
  pub lateness : option_map number_said (value_of words (codes "lateness")) ≡ Some a.policy.lateness
  pub punctuate : option_map number_said (value_of words (codes "punctuate")) ≡ Some a.policy.period
  pub number : option_map number_said (value_of words (codes "number")) ≡ Some a.number
  pub events : option_map number_said (value_of words (codes "events")) ≡ Some a.events
  pub keeping : SpellsKeeping words a.keeping

-- the word --header, where a header is asked for
abbrev pub header_words : Bool → List Text
header_words true = codes "--header" ∷ []
header_words false = []

-- the words for what is kept, where anything is: --checkpoint=state --every=60 --input=- --output=-
abbrev pub keeping_words : Option Kept → List Text
keeping_words None = []
keeping_words (Some k) = (codes "--checkpoint=" ++ k.checkpoint) ∷ (codes "--every=" ++ decimal k.every) ∷ (codes "--input=" ++ k.input)
    ∷ (codes "--output=" ++ k.output) ∷ []

-- words that print what is asked for: tempo --query=s --mode=run --batch=1024 --workers=1 --late=refuse --lateness=0
-- --punctuate=0 --number=0 --events=1000
abbrev pub words_for : Asked → List Text
words_for a =
    codes "tempo" ∷ (codes "--query=" ++ a.query) ∷ (codes "--mode=" ++ mode_text a.mode) ∷ (codes "--batch=" ++ decimal a.batch) ∷ (codes "--workers=" ++ decimal a.workers)
    ∷ (codes "--late=" ++ late_text a.policy.late) ∷ (codes "--lateness=" ++ decimal a.policy.lateness) ∷ (codes "--punctuate=" ++ decimal a.policy.period)
    ∷ (codes "--number=" ++ decimal a.number) ∷ (codes "--events=" ++ decimal a.events) ∷ keeping_words a.keeping ++ header_words a.header

-- the values of what is kept are those that the options take
pub record IsKept (mode : Mode) (k : Kept) : Type 0 where
  pub runs : mode ≡ Run
  pub checkpoint : 1 ≤ length k.checkpoint
  pub some_time : 1 ≤ k.every
  pub every : k.every ≤ 1152921504606846975
  pub input : 1 ≤ length k.input
  pub output : 1 ≤ length k.output

abbrev pub IsKeeping : Mode → Option Kept → Type 0
IsKeeping mode None = ⊤
IsKeeping mode (Some k) = IsKept mode k

-- the values of what is asked for are those that the options take
pub record AreWithin (a : Asked) : Type 0 where
  pub least : 1 ≤ a.batch
  pub most : a.batch ≤ 8192
  pub some_workers : 1 ≤ a.workers
  pub workers : a.workers ≤ 16
  pub lateness : a.policy.lateness ≤ 1152921504606846975
  pub period : a.policy.period ≤ 1152921504606846975
  pub number : a.number ≤ 4294967295
  pub some_events : 1 ≤ a.events
  pub events : a.events ≤ 1000000
  pub keeping : IsKeeping a.mode a.keeping

-- the cause holds of the words: for Refused, they are not taken; Memory may come with any words
abbrev pub HasCause : List Text → WordsFault → Type 0
HasCause words (Refused text) = are_taken words ≡ false
HasCause words Memory = ⊤

-- clap's getters give this number for an option that takes whole numbers from least to most: 7 for batch after --batch 007
pub record ShowsNumber (f : Found) (name : Text) (least most number : ℕ) : Type 0 where
  pub text : Text
  pub one : one_text f name ≡ Some text
  pub in_range : IsUnsignedIn least most text
  pub number_is : number_said text ≡ number

-- clap's getters give what is kept
pub record ShowsKept (f : Found) (k : Kept) : Type 0 where
  pub checkpoint : first_value f (codes "checkpoint") ≡ Some k.checkpoint
  pub every : ShowsNumber f (codes "every") 1 1152921504606846975 k.every
  pub input : first_value f (codes "input") ≡ Some k.input
  pub output : first_value f (codes "output") ≡ Some k.output

abbrev pub ShowsKeeping : Found → Option Kept → Type 0
ShowsKeeping f None = first_value f (codes "checkpoint") ≡ None
ShowsKeeping f (Some k) = ShowsKept f k

-- clap's getters give what is asked for: the first value of query is s where the query s is asked for
pub record ShowsCommand (f : Found) (a : Asked) : Type 0 where
  pub query : first_value f (codes "query") ≡ Some a.query
  pub mode : first_value f (codes "mode") ≡ Some (mode_text a.mode)
  pub batch : ShowsNumber f (codes "batch") 1 8192 a.batch
  pub workers : ShowsNumber f (codes "workers") 1 16 a.workers
  pub header : one_text f (codes "header") ≡ Some (bool_text a.header)
  pub late : first_value f (codes "late") ≡ Some (late_text a.policy.late)
  pub lateness : ShowsNumber f (codes "lateness") 0 1152921504606846975 a.policy.lateness
  pub punctuate : ShowsNumber f (codes "punctuate") 0 1152921504606846975 a.policy.period
  pub number : ShowsNumber f (codes "number") 0 4294967295 a.number
  pub events : ShowsNumber f (codes "events") 1 1000000 a.events
  pub keeping : ShowsKeeping f a.keeping
