-- The words of a command line: hold it against the synopsis of man/dialog.1.
use Rattle.std.specs.Prelude.{ℕ, ◌+◌, ◌*◌, ◌-◌, ◌&&◌, ◌||◌, List, [], ◌∷◌, length, Bool, true, false, not, Option, Some, None, codes, map, string_bytes, String, nat_eq, nat_le, if◌then◌else◌}
use Rattle.std.specs.List.{list_all, slice_split}
use Rattle.std.specs.Option.{option_map, option_and_then, is_some}
use Rattle.std.specs.Str.{bytes_eq}
use Rattle.std.specs.declared.alloc.Global.{Global}
use Rattle.dg_base.specs.declared.run.Limits.{Limits}

-- the bytes of each word
abbrev pub texts : List (String Global) → List (List ℕ)
texts words = map string_bytes words

-- A file's name and what the options say of its run: goals or instructions, cells of the heap, bindings to be undone, and dice in
-- place of those that are handed in.
pub record Task : Type 0 where
  pub name : List ℕ
  pub steps : ℕ
  pub heap : ℕ
  pub trail : ℕ
  pub dice : Option (List ℕ)

-- what is to be done: a source is run, a story is played, a source is built and its story played, the story of a source is stored under another
-- name, the predicates of a source are listed, a source is made of a number and run, the story of a source is listed, that of a listing is stored under
-- another name, or a source is run and its calls are listed
pub data Command : Type 0 where
  debug : Task → Command
  play : Task → Command
  run : Task → Command
  build : List ℕ → List ℕ → Command
  singles : List ℕ → Command
  make : ℕ → Command
  list : List ℕ → Command
  join : List ℕ → List ℕ → Command
  trace : Task → Command

-- a file name isn't empty and doesn't begin with two dashes
abbrev pub is_file_name : List ℕ → Bool
is_file_name [] = false
is_file_name (c ∷ []) = true
is_file_name (c ∷ d ∷ cs) = not (nat_eq c 45 && nat_eq d 45)

-- decimal digits alone
abbrev pub digits_alone : List ℕ → Bool
digits_alone word = list_all (λ c. nat_le 48 c && nat_le c 57) word

-- the value of digits behind a number
abbrev pub value_behind : ℕ → List ℕ → ℕ
value_behind high [] = high
value_behind high (c ∷ cs) = value_behind (10 * high + (c - 48)) cs

-- a number by one digit or more, from the first of these to the second
abbrev pub number_fits : ℕ → ℕ → List ℕ → Bool
number_fits least most word = nat_le 1 (length word) && (digits_alone word && (nat_le least (value_behind 0 word) && nat_le (value_behind 0 word) most))

-- the number that a word writes, where it is from the first of these to the second
abbrev pub number_within : ℕ → ℕ → List ℕ → Option ℕ
number_within least most word = if number_fits least most word then Some (value_behind 0 word) else None

-- ---- options

-- the words behind --steps, --heap, --trail and --dice, where they stand
pub record OptionWords : Type 0 where
  pub steps : Option (List ℕ)
  pub heap : Option (List ℕ)
  pub trail : Option (List ℕ)
  pub dice : Option (List ℕ)

-- no option
abbrev pub no_values : OptionWords
no_values = record { steps = None; heap = None; trail = None; dice = None }

-- a word, where there was none before: no option stands twice
abbrev pub once : Option (List ℕ) → List ℕ → Option (Option (List ℕ))
once None word = Some (Some word)
once (Some before) word = None

-- these options, and one more with its word
abbrev pub with_option : OptionWords → List ℕ → List ℕ → Option OptionWords
with_option values option word =
    if bytes_eq option (codes "--steps") then option_map (λ w. record values { steps = w }) (once values.steps word)
    else if bytes_eq option (codes "--heap") then option_map (λ w. record values { heap = w }) (once values.heap word)
    else if bytes_eq option (codes "--trail") then option_map (λ w. record values { trail = w }) (once values.trail word)
    else if bytes_eq option (codes "--dice") then option_map (λ w. record values { dice = w }) (once values.dice word) else None

-- these options, and those that these words are: in any order, each followed by its word
abbrev pub values_behind : OptionWords → List (List ℕ) → Option OptionWords
values_behind values [] = Some values
values_behind values (option ∷ []) = None
values_behind values (option ∷ word ∷ others) = option_and_then (λ more. values_behind more others) (with_option values option word)

-- the options that these words are
abbrev pub options_of : List (List ℕ) → Option OptionWords
options_of words = values_behind no_values words

-- the number behind an option, or the usual one where the option doesn't stand
abbrev pub number_or : ℕ → ℕ → Option (List ℕ) → Option ℕ
number_or usual most None = Some usual
number_or usual most (Some word) = number_within 1 most word

-- ---- dice

-- the parts of a word between its commas
abbrev pub between_commas : List ℕ → List (List ℕ)
between_commas word = slice_split (λ c. nat_eq c 44) word

-- the dice that a word writes: 1 to 1,024 numbers from 0 to 65,535, separated by single commas
abbrev pub dice_of : List ℕ → Option (List ℕ)
dice_of word =
    if nat_le (length (between_commas word)) 1024 && list_all (number_fits 0 65535) (between_commas word)
    then Some (map (value_behind 0) (between_commas word))
    else None

-- the dice in place of those that are handed in, if any
abbrev pub own_dice : Option (List ℕ) → Option (Option (List ℕ))
own_dice None = Some None
own_dice (Some word) = option_map Some (dice_of word)

-- ---- a task

-- the task of these numbers and dice, where each is one that it may be
abbrev pub task_from : List ℕ → Option ℕ → Option ℕ → Option ℕ → Option (Option (List ℕ)) → Option Task
task_from name (Some steps) (Some heap) (Some trail) (Some dice) = Some (record { name = name; steps = steps; heap = heap; trail = trail; dice = dice })
task_from name steps heap trail dice = None

-- the task that the options name, with so many steps where they name none
abbrev pub task_of : ℕ → List ℕ → OptionWords → Option Task
task_of usual name values =
    task_from name (number_or usual 1000000000000 values.steps) (number_or 1000000 16000000 values.heap)
    (number_or 200000 16000000 values.trail) (own_dice values.dice)

-- a source is run as its options say
abbrev pub debug_with : List ℕ → OptionWords → Option Command
debug_with name values = option_map debug (task_of 100000000 name values)

-- a source is run as its options say, and its calls are listed
abbrev pub trace_with : List ℕ → OptionWords → Option Command
trace_with name values = option_map trace (task_of 100000000 name values)

-- a story is played as its options say; it has limits of heap and trail of its own
abbrev pub story_task : List ℕ → OptionWords → Option Task
story_task name values = if is_some values.heap || is_some values.trail then None else task_of 1000000000 name values

-- the story of a source is stored under a name; there are no options
abbrev pub build_with : List ℕ → List (List ℕ) → Option Command
build_with name [] = None
build_with name (to ∷ []) = if is_file_name to then Some (build name to) else None
build_with name (to ∷ other ∷ others) = None

-- the predicates of a source are listed; there are no options
abbrev pub singles_with : List ℕ → List (List ℕ) → Option Command
singles_with name [] = Some (singles name)
singles_with name (option ∷ others) = None

-- a source is made of a number from 1 to 400; there are no options
abbrev pub make_with : List ℕ → List (List ℕ) → Option Command
make_with word [] = option_map make (number_within 1 400 word)
make_with word (option ∷ others) = None

-- the story of a source is listed; there are no options
abbrev pub list_with : List ℕ → List (List ℕ) → Option Command
list_with name [] = Some (list name)
list_with name (option ∷ others) = None

-- the story of a listing is stored under a name; there are no options
abbrev pub join_with : List ℕ → List (List ℕ) → Option Command
join_with name [] = None
join_with name (to ∷ []) = if is_file_name to then Some (join name to) else None
join_with name (to ∷ other ∷ others) = None

-- the limits of a task
abbrev pub limits_of : Task → Limits
limits_of task = record { steps = task.steps; heap = task.heap; trail = task.trail; aux = 100000; keep = 10000 }

-- a task's own dice, or those that are handed in
abbrev pub task_dice : Option (List ℕ) → List ℕ → List ℕ
task_dice None handed = handed
task_dice (Some dice) handed = dice

-- ---- the words

-- the command of this word, with options
abbrev pub with_options : List ℕ → List ℕ → List (List ℕ) → Option Command
with_options command name options =
    if bytes_eq command (codes "debug") then option_and_then (debug_with name) (options_of options)
    else if bytes_eq command (codes "play") then option_and_then (λ values. option_map play (story_task name values)) (options_of options)
    else if bytes_eq command (codes "run") then option_and_then (λ values. option_map run (story_task name values)) (options_of options)
    else if bytes_eq command (codes "trace") then option_and_then (trace_with name) (options_of options) else None

-- the command of this word
abbrev pub command_named : List ℕ → List ℕ → List (List ℕ) → Option Command
command_named command name options =
    if bytes_eq command (codes "build") then build_with name options
    else if bytes_eq command (codes "singles") then singles_with name options
    else if bytes_eq command (codes "make") then make_with name options
    else if bytes_eq command (codes "list") then list_with name options
    else if bytes_eq command (codes "join") then join_with name options else with_options command name options

-- the command that these words are
abbrev pub command_of : List (List ℕ) → Option Command
command_of [] = None
command_of (command ∷ []) = None
command_of (command ∷ name ∷ options) = if not (is_file_name name) then None else command_named command name options
