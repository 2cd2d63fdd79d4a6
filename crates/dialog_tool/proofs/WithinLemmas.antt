-- A source is made of a number from 1 to 400.
use Rattle.std.proofs.Common.{◌≡◌, ◌≤◌, ℕ, Bool, true, false, ◌&&◌, not, List, [], ◌∷◌, Option, Some, None, codes, length, nat_le, refl, sym, subst}
use Rattle.std.specs.Prelude.{if◌then◌else◌}
use Rattle.std.specs.Option.{option_map, option_and_then, is_some}
use Rattle.std.specs.Str.{bytes_eq}
use Rattle.std.proofs.lemmas.Bool.{and_parts, leb-true}
use Rattle.dialog_tool.specs.Command.{Command, Task, OptionWords, debug, play, run, build, singles, make, list, join, trace, is_file_name, digits_alone, value_behind, number_fits, number_within, options_of, task_of, story_task, debug_with, trace_with, build_with, singles_with, make_with, list_with, join_with, with_options, command_named, command_of}

-- The number of a command that makes a source is one of those.
abbrev IsWithin : Option Command → Type 0
IsWithin None = Unit {0}
IsWithin (Some (debug t)) = Unit {0}
IsWithin (Some (play t)) = Unit {0}
IsWithin (Some (run t)) = Unit {0}
IsWithin (Some (build name to)) = Unit {0}
IsWithin (Some (singles name)) = Unit {0}
IsWithin (Some (make n)) = (1 ≤ n) × (n ≤ 400)
IsWithin (Some (list name)) = Unit {0}
IsWithin (Some (join name to)) = Unit {0}
IsWithin (Some (trace t)) = Unit {0}

either : (b : Bool) (x y : Option Command) → IsWithin x → IsWithin y → IsWithin (if b then x else y)
either true x y h k = h
either false x y h k = k

tasks : (f : Task → Command) → ((t : Task) → IsWithin (Some (f t))) → (o : Option Task) → IsWithin (option_map f o)
tasks f h None = tt
tasks f h (Some t) = h t

behind_options : (f : OptionWords → Option Command) → ((v : OptionWords) → IsWithin (f v)) → (o : Option OptionWords) → IsWithin (option_and_then f o)
behind_options f h None = tt
behind_options f h (Some v) = h v

with_options_within : (command name : List ℕ) (options : List (List ℕ)) → IsWithin (with_options command name options)
with_options_within command name options =
    either (bytes_eq command (codes "debug")) _ _ (behind_options (debug_with name) (λ v. tasks debug (λ t. tt) (task_of 100000000 name v)) (options_of options))
    (either (bytes_eq command (codes "play")) _ _ (behind_options (λ v. option_map play (story_task name v)) (λ v. tasks play (λ t. tt) (story_task name v)) (options_of options))
    (either (bytes_eq command (codes "run")) _ _ (behind_options (λ v. option_map run (story_task name v)) (λ v. tasks run (λ t. tt) (story_task name v)) (options_of options))
    (either (bytes_eq command (codes "trace")) _ None (behind_options (trace_with name) (λ v. tasks trace (λ t. tt) (task_of 100000000 name v)) (options_of options)) tt)))

build_within : (name : List ℕ) (options : List (List ℕ)) → IsWithin (build_with name options)
build_within name [] = tt
build_within name (to ∷ []) = either (is_file_name to) (Some (build name to)) None tt tt
build_within name (to ∷ other ∷ others) = tt

singles_within : (name : List ℕ) (options : List (List ℕ)) → IsWithin (singles_with name options)
singles_within name [] = tt
singles_within name (option ∷ others) = tt

number_is : (word : List ℕ) (b : Bool) → number_fits 1 400 word ≡ b → IsWithin (option_map make (if b then Some (value_behind 0 word) else None))
number_is word true e =
    let long = and_parts (nat_le 1 (length word)) _ e in
    let digits = and_parts (digits_alone word) _ long.1 in
    let bounds = and_parts (nat_le 1 (value_behind 0 word)) (nat_le (value_behind 0 word) 400) digits.1 in
    (leb-true 1 (value_behind 0 word) bounds.0, leb-true (value_behind 0 word) 400 bounds.1)
number_is word false e = tt

make_within : (word : List ℕ) (options : List (List ℕ)) → IsWithin (make_with word options)
make_within word [] = number_is word (number_fits 1 400 word) refl
make_within word (option ∷ others) = tt

list_within : (name : List ℕ) (options : List (List ℕ)) → IsWithin (list_with name options)
list_within name [] = tt
list_within name (option ∷ others) = tt

join_within : (name : List ℕ) (options : List (List ℕ)) → IsWithin (join_with name options)
join_within name [] = tt
join_within name (to ∷ []) = either (is_file_name to) (Some (join name to)) None tt tt
join_within name (to ∷ other ∷ others) = tt

named_within : (command name : List ℕ) (options : List (List ℕ)) → IsWithin (command_named command name options)
named_within command name options =
    either (bytes_eq command (codes "build")) _ _ (build_within name options)
    (either (bytes_eq command (codes "singles")) _ _ (singles_within name options)
    (either (bytes_eq command (codes "make")) _ _ (make_within name options)
    (either (bytes_eq command (codes "list")) _ _ (list_within name options)
    (either (bytes_eq command (codes "join")) _ _ (join_within name options) (with_options_within command name options)))))

words_within : (words : List (List ℕ)) → IsWithin (command_of words)
words_within [] = tt
words_within (command ∷ []) = tt
words_within (command ∷ name ∷ options) = either (not (is_file_name name)) None (command_named command name options) tt (named_within command name options)

-- The number that words of a command make a source of.
pub made_within : (words : List (List ℕ)) (n : ℕ) → Some (make n) ≡ command_of words → (1 ≤ n) × (n ≤ 400)
made_within words n e = subst IsWithin (sym e) (words_within words)
