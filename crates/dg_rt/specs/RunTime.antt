-- The routines of the run-time, in the order of their numbers. Hold it against the acts that their sources list.
use Rattle.std.specs.Prelude.{◌≡◌, ℕ, ◌+◌, List, [], ◌∷◌, ◌++◌, Some, slice_get}
use Rattle.z_lang.specs.declared.act.Act.{Act}
use Rattle.z_lang.specs.declared.act.Routine.{Routine}
use Rattle.z_lang.specs.State.{Program}
use Rattle.dg_rt.specs.declared.numbers.TheConstants.{WALK}
use Rattle.dg_rt.specs.declared.unify.TheConstants.{WALK_ACTS, BIND_ACTS, OCCURS_ACTS, UNIFY_ACTS, UNDO_ACTS}
use Rattle.dg_rt.specs.declared.copies.TheConstants.{COPY_OUT_ACTS, COPY_IN_ACTS}
use Rattle.dg_rt.specs.declared.closings.TheConstants.{NEWLINE_ACTS, DONE_ACTS, FAILED_ACTS, STOPPED_ACTS, HEAP_LIMIT_ACTS, TRAIL_LIMIT_ACTS, AUX_LIMIT_ACTS, KEEP_LIMIT_ACTS}
use Rattle.dg_rt.specs.declared.heap.TheConstants.{CHARGE_ACTS}
use Rattle.dg_rt.specs.declared.frames.TheConstants.{VAR_ACTS, CAPTURE_ACTS, ENTER_ACTS}
use Rattle.dg_rt.specs.declared.choices.TheConstants.{CUT_ACTS, OPEN_ACTS, FAIL_ACTS, COMMIT_ACTS, OPEN_INNER_ACTS, UNSTOP_ACTS}
use Rattle.dg_rt.specs.declared.rules.TheConstants.{KEY_OF_ACTS, FOUND_ACTS, NONE_ACTS, MATCH_ACTS, MATCHED_ACTS}
use Rattle.dg_rt.specs.declared.queries.TheConstants.{LEAVE_ACTS, ASK_ACTS, TAIL_CALL_ACTS, BODY_ACTS}
use Rattle.dg_rt.specs.declared.operands.TheConstants.{NUMBER_ACTS, OBJECT_ACTS, SIMPLE_ACTS, FULL_ACTS}
use Rattle.dg_rt.specs.declared.world.TheConstants.{VALUE_ACTS, SET_ACTS, CLEAR_ACTS, CLEAR_ALL_ACTS, FLAG_ACTS, SET_FLAG_ACTS, CLEAR_FLAGS_ACTS}
use Rattle.dg_rt.specs.declared.gaps.TheConstants.{SEPARATE_ACTS, FIRST_ACTS, ASK_SPACES_ACTS}
use Rattle.dg_rt.specs.declared.pieces.TheConstants.{PRINT_MARK_ACTS, PRINT_NUMBER_ACTS, LETTER_ACTS, PRINT_LETTERS_ACTS}
use Rattle.dg_rt.specs.declared.printing.TheConstants.{LIST_KIND_ACTS, PRINT_PIECE_ACTS, PRINT_VALUE_ACTS}
use Rattle.dg_rt.specs.declared.keeping.TheConstants.{MOVE_ACTS, CELLS_ACTS}
use Rattle.dg_rt.specs.declared.conditions.TheConstants.{IF_NUMBER_ACTS, IF_WORD_ACTS, IF_UNKNOWN_ACTS, IF_LIST_ACTS, IF_EMPTY_ACTS, IF_NON_EMPTY_ACTS, IF_BOUND_ACTS, IF_FULL_ACTS, IF_UNBOUND_ACTS, IF_LESS_ACTS}
use Rattle.dg_rt.specs.declared.arithmetic.TheConstants.{PLUS_ACTS, MINUS_ACTS, TIMES_ACTS, DIVIDE_ACTS, MODULO_ACTS, THROW_ACTS}
use Rattle.dg_rt.specs.declared.changes.TheConstants.{THERE_ACTS, SET_VALUE_ACTS, SET_PARENT_ACTS, CLEAR_VALUE_ACTS, RAISE_FLAG_ACTS, LOWER_FLAG_ACTS, IF_RAISED_ACTS, IF_SET_ACTS, READ_VALUE_ACTS, PUT_ACTS}
use Rattle.dg_rt.specs.declared.spelling.TheConstants.{CHARACTER_ACTS, SPELL_ACTS}
use Rattle.dg_rt.specs.declared.closures.TheConstants.{CLOSURE_ACTS, IF_BODY_ACTS, ENTER_BODY_ACTS}
use Rattle.dg_rt.specs.declared.tries.TheConstants.{SEEK_ACTS, SOUGHT_ACTS, IF_OBJECT_ACTS, TRY_ACTS, LOOK_VALUE_ACTS, LOOK_FLAG_ACTS, LAND_ACTS}
use Rattle.dg_rt.specs.declared.kept.TheConstants.{DROP_KEPT_ACTS, KEEP_ACTS, CLEAR_KEPT_ACTS, READ_KEPT_ACTS}
use Rattle.dg_rt.specs.declared.gathering.TheConstants.{OPEN_GATHERING_ACTS, KEEP_VALUE_ACTS, COUNT_VALUES_ACTS, TAKE_LIST_ACTS, TAKE_SUM_ACTS}
use Rattle.dg_rt.specs.declared.picks.TheConstants.{PICK_STOPPING_ACTS, PICK_CYCLING_ACTS, PICK_PURELY_ACTS, PICK_AT_RANDOM_ACTS, PICK_THEN_AT_RANDOM_ACTS, PICK_THEN_PURELY_ACTS}
use Rattle.dg_rt.specs.declared.dictionary.TheConstants.{WORD_LETTER_ACTS, NEXT_LETTER_ACTS, SAME_WORD_ACTS, FIND_WORD_ACTS}
use Rattle.dg_rt.specs.declared.typing.TheConstants.{UNICODE_ACTS, READ_LINE_ACTS, SPELLED_NUMBER_ACTS, SPELLED_ACTS, LETTER_KIND_ACTS, ELEMENT_ACTS, LINE_CELLS_ACTS, WRITTEN_VALUE_ACTS, BREAK_LINE_ACTS}
use Rattle.dg_rt.specs.declared.splitting.TheConstants.{LETTER_ON_ACTS, SPLIT_NUMBER_ACTS, SPLIT_LETTERS_ACTS, SPLIT_SPELLING_ACTS, SPLIT_ACTS, MADE_ACTS}
use Rattle.dg_rt.specs.declared.joining.TheConstants.{DIGITS_ACTS, WORD_LETTERS_ACTS, BOX_LETTERS_ACTS, VALUE_LETTERS_ACTS, LIST_LETTERS_ACTS, JOIN_ACTS}
use Rattle.dg_rt.specs.declared.heads.TheConstants.{TAKE_ACTS}
use Rattle.dg_rt.specs.Areas.{IsMapped}

-- A routine of so many locals.
abbrev pub routine_of : ℕ → List Act → Routine
routine_of locals body = record { locals = locals; body = body }

-- Those of values.
abbrev pub value_routines : List Routine
value_routines =
    routine_of 4 WALK_ACTS ∷ routine_of 4 BIND_ACTS ∷ routine_of 4 OCCURS_ACTS ∷ routine_of 5 UNIFY_ACTS ∷ routine_of 2 UNDO_ACTS
    ∷ routine_of 5 COPY_OUT_ACTS ∷ routine_of 5 COPY_IN_ACTS ∷ []

-- Those that end a run.
abbrev pub closing_routines : List Routine
closing_routines =
    routine_of 0 NEWLINE_ACTS ∷ routine_of 0 DONE_ACTS ∷ routine_of 0 FAILED_ACTS ∷ routine_of 0 STOPPED_ACTS ∷ routine_of 0 HEAP_LIMIT_ACTS
    ∷ routine_of 0 TRAIL_LIMIT_ACTS ∷ routine_of 0 AUX_LIMIT_ACTS ∷ routine_of 0 KEEP_LIMIT_ACTS ∷ []

-- Those of frames and choices.
abbrev pub frame_routines : List Routine
frame_routines =
    routine_of 1 CHARGE_ACTS ∷ routine_of 4 VAR_ACTS ∷ routine_of 4 ENTER_ACTS ∷ routine_of 1 CUT_ACTS
    ∷ routine_of 5 OPEN_ACTS ∷ routine_of 4 FAIL_ACTS ∷ routine_of 8 CAPTURE_ACTS ∷ []

-- Those of inner constructs and of rules.
abbrev pub rule_routines : List Routine
rule_routines =
    routine_of 1 COMMIT_ACTS ∷ routine_of 4 KEY_OF_ACTS ∷ routine_of 4 FOUND_ACTS ∷ routine_of 0 NONE_ACTS ∷ routine_of 4 MATCH_ACTS
    ∷ routine_of 1 MATCHED_ACTS ∷ []

-- Those of queries and their answers, of inner constructs and stoppable parts.
abbrev pub query_routines : List Routine
query_routines =
    routine_of 4 LEAVE_ACTS ∷ routine_of 4 ASK_ACTS ∷ routine_of 2 TAIL_CALL_ACTS
    ∷ routine_of 4 BODY_ACTS ∷ routine_of 2 OPEN_INNER_ACTS ∷ routine_of 4 UNSTOP_ACTS ∷ []

-- Those of operands.
abbrev pub operand_routines : List Routine
operand_routines = routine_of 1 NUMBER_ACTS ∷ routine_of 1 OBJECT_ACTS ∷ routine_of 1 SIMPLE_ACTS ∷ routine_of 3 FULL_ACTS ∷ []

-- Those of the world.
abbrev pub world_routines : List Routine
world_routines =
    routine_of 2 VALUE_ACTS ∷ routine_of 3 SET_ACTS ∷ routine_of 2 CLEAR_ACTS ∷ routine_of 2 CLEAR_ALL_ACTS ∷ routine_of 2 FLAG_ACTS
    ∷ routine_of 4 SET_FLAG_ACTS ∷ routine_of 3 CLEAR_FLAGS_ACTS ∷ []

-- Those that print.
abbrev pub printing_routines : List Routine
printing_routines =
    routine_of 1 SEPARATE_ACTS ∷ routine_of 1 FIRST_ACTS ∷ routine_of 1 PRINT_MARK_ACTS ∷ routine_of 1 PRINT_NUMBER_ACTS ∷ []

-- Those of kept values.
abbrev pub keeping_routines : List Routine
keeping_routines = routine_of 4 MOVE_ACTS ∷ routine_of 4 CELLS_ACTS ∷ []

-- Those of letters.
abbrev pub letter_routines : List Routine
letter_routines = routine_of 1 LETTER_ACTS ∷ routine_of 3 PRINT_LETTERS_ACTS ∷ []

-- Those of counted spaces.
abbrev pub space_routines : List Routine
space_routines = routine_of 2 ASK_SPACES_ACTS ∷ []

-- Those that test values.
abbrev pub condition_routines : List Routine
condition_routines =
    routine_of 2 IF_NUMBER_ACTS ∷ routine_of 2 IF_WORD_ACTS ∷ routine_of 2 IF_UNKNOWN_ACTS ∷ routine_of 2 IF_LIST_ACTS ∷ routine_of 2 IF_EMPTY_ACTS
    ∷ routine_of 2 IF_NON_EMPTY_ACTS ∷ routine_of 2 IF_BOUND_ACTS ∷ routine_of 2 IF_FULL_ACTS ∷ routine_of 2 IF_UNBOUND_ACTS
    ∷ routine_of 3 IF_LESS_ACTS ∷ []

-- Those that make numbers.
abbrev pub arithmetic_routines : List Routine
arithmetic_routines =
    routine_of 3 PLUS_ACTS ∷ routine_of 3 MINUS_ACTS ∷ routine_of 3 TIMES_ACTS ∷ routine_of 3 DIVIDE_ACTS ∷ routine_of 3 MODULO_ACTS
    ∷ routine_of 3 THROW_ACTS ∷ []

-- Those that print values.
abbrev pub value_printing_routines : List Routine
value_printing_routines = routine_of 1 LIST_KIND_ACTS ∷ routine_of 4 PRINT_PIECE_ACTS ∷ routine_of 4 PRINT_VALUE_ACTS ∷ []

-- Those that change what is set of objects.
abbrev pub change_routines : List Routine
change_routines =
    routine_of 2 THERE_ACTS ∷ routine_of 4 SET_VALUE_ACTS ∷ routine_of 4 SET_PARENT_ACTS ∷ routine_of 4 CLEAR_VALUE_ACTS ∷ routine_of 4 RAISE_FLAG_ACTS
    ∷ routine_of 4 LOWER_FLAG_ACTS ∷ routine_of 3 PUT_ACTS ∷ []

-- Those that read it.
abbrev pub reading_routines : List Routine
reading_routines = routine_of 3 IF_RAISED_ACTS ∷ routine_of 2 IF_SET_ACTS ∷ routine_of 2 READ_VALUE_ACTS ∷ []

-- Those that spell words.
abbrev pub spelling_routines : List Routine
spelling_routines = routine_of 3 CHARACTER_ACTS ∷ routine_of 3 SPELL_ACTS ∷ []

-- Those of closures and their bodies.
abbrev pub closure_routines : List Routine
closure_routines = routine_of 3 CLOSURE_ACTS ∷ routine_of 3 IF_BODY_ACTS ∷ routine_of 0 ENTER_BODY_ACTS ∷ []

-- Those that try objects.
abbrev pub trying_routines : List Routine
trying_routines =
    routine_of 3 SEEK_ACTS ∷ routine_of 2 SOUGHT_ACTS ∷ routine_of 2 IF_OBJECT_ACTS ∷ routine_of 2 TRY_ACTS ∷ routine_of 1 LOOK_VALUE_ACTS
    ∷ routine_of 1 LOOK_FLAG_ACTS ∷ routine_of 1 LAND_ACTS ∷ []

-- Those of global variables.
abbrev pub kept_routines : List Routine
kept_routines = routine_of 4 DROP_KEPT_ACTS ∷ routine_of 4 KEEP_ACTS ∷ routine_of 3 CLEAR_KEPT_ACTS ∷ routine_of 3 READ_KEPT_ACTS ∷ []

-- Those of what is gathered.
abbrev pub gathering_routines : List Routine
gathering_routines =
    routine_of 2 OPEN_GATHERING_ACTS ∷ routine_of 2 KEEP_VALUE_ACTS ∷ routine_of 4 COUNT_VALUES_ACTS ∷ routine_of 5 TAKE_LIST_ACTS ∷
    routine_of 4 TAKE_SUM_ACTS
    ∷ []

-- Those that choose a branch.
abbrev pub pick_routines : List Routine
pick_routines =
    routine_of 4 PICK_STOPPING_ACTS ∷ routine_of 4 PICK_CYCLING_ACTS ∷ routine_of 4 PICK_PURELY_ACTS ∷ routine_of 4 PICK_AT_RANDOM_ACTS
    ∷ routine_of 4 PICK_THEN_AT_RANDOM_ACTS ∷ routine_of 4 PICK_THEN_PURELY_ACTS ∷ []

-- Those that find words by their letters.
abbrev pub dictionary_routines : List Routine
dictionary_routines =
    routine_of 3 WORD_LETTER_ACTS ∷ routine_of 2 NEXT_LETTER_ACTS ∷ routine_of 6 SAME_WORD_ACTS ∷ routine_of 4 FIND_WORD_ACTS ∷ []

-- Those of typed lines.
abbrev pub typing_routines : List Routine
typing_routines =
    routine_of 1 UNICODE_ACTS ∷ routine_of 4 READ_LINE_ACTS ∷ routine_of 4 SPELLED_NUMBER_ACTS ∷ routine_of 4 SPELLED_ACTS
    ∷ routine_of 1 LETTER_KIND_ACTS ∷ routine_of 3 ELEMENT_ACTS ∷ routine_of 5 LINE_CELLS_ACTS ∷ routine_of 2 WRITTEN_VALUE_ACTS
    ∷ routine_of 0 BREAK_LINE_ACTS ∷ []

-- Those that split words.
abbrev pub splitting_routines : List Routine
splitting_routines =
    routine_of 5 LETTER_ON_ACTS ∷ routine_of 3 SPLIT_NUMBER_ACTS ∷ routine_of 4 SPLIT_LETTERS_ACTS ∷ routine_of 4 SPLIT_SPELLING_ACTS
    ∷ routine_of 2 SPLIT_ACTS ∷ routine_of 1 MADE_ACTS ∷ []

-- Those that join words.
abbrev pub joining_routines : List Routine
joining_routines =
    routine_of 3 DIGITS_ACTS ∷ routine_of 6 WORD_LETTERS_ACTS ∷ routine_of 4 BOX_LETTERS_ACTS ∷ routine_of 3 VALUE_LETTERS_ACTS
    ∷ routine_of 3 LIST_LETTERS_ACTS ∷ routine_of 2 JOIN_ACTS ∷ []

-- Those of heads whose variables are new.
abbrev pub taking_routines : List Routine
taking_routines = routine_of 4 TAKE_ACTS ∷ []

-- All of them. The first has number 1, since a story begins with routine 0.
abbrev pub runtime : List Routine
runtime =
    value_routines ++ (closing_routines ++ (frame_routines ++ (rule_routines ++ (query_routines ++ (operand_routines ++ (world_routines
    ++ (printing_routines ++ (keeping_routines ++ (letter_routines ++ (space_routines ++ (condition_routines ++ (arithmetic_routines
    ++ (value_printing_routines ++ (change_routines ++ (reading_routines ++ (spelling_routines ++ (closure_routines ++ (trying_routines
    ++ (kept_routines ++ (gathering_routines ++ (pick_routines ++ (dictionary_routines ++ (typing_routines
    ++ (splitting_routines ++ (joining_routines ++ taking_routines)))))))))))))))))))))))))

-- The run-time stands in a program: its areas may be written, and each routine has its number.
pub record HasRunTime (p : Program) : Type 0 where
  pub mapped : IsMapped p
  pub each : (k : ℕ) (r : Routine) → slice_get runtime k ≡ Some r → p.routine_at (p.names.routine (WALK + k)) ≡ Some r
