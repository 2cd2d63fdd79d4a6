-- The routines of code, in the order of their numbers. Hold it against dg_mid/specs/Step.antt, and each against what dg_turn says that it does.
use Rattle.std.specs.Prelude.{ℕ, ◌+◌, ◌≤◌, List, [], ◌∷◌, ◌++◌, length, map, All, Some, None}
use Rattle.std.specs.List.{slice_get}
use Rattle.std.specs.Str.{chars}
use Rattle.dg_base.specs.declared.program.CoreProgram.{CoreProgram}
use Rattle.dg_base.specs.declared.program.Term.{Term}
use Rattle.dg_base.specs.Goals.{option_terms}
use Rattle.dg_base.specs.Sound.{IsName}
use Rattle.dg_meaning.specs.Cells.{nodes_of}
use Rattle.dg_meaning.specs.Facts.{kinds_of}
use Rattle.dg_mid.specs.declared.code.Action.TheVariants as action
use Rattle.dg_mid.specs.declared.code.Op.{Op}
use Rattle.dg_mid.specs.declared.code.Op.TheVariants as op
use Rattle.dg_mid.specs.declared.code.Block.{Block}
use Rattle.dg_mid.specs.declared.code.RuleCode.{RuleCode}
use Rattle.dg_mid.specs.declared.code.Code.{Code}
use Rattle.dg_mid.specs.Code.{block_at, label_of, first_label}
use Rattle.z_lang.specs.declared.act.Routine.{Routine}
use Rattle.dg_rt.specs.declared.numbers.TheConstants.{DONE, FAIL, SPELL}
use Rattle.dg_rt.specs.RunTime.{routine_of}
use Rattle.dg_turn.specs.Told.{rule_acts, KeyFits}
use Rattle.dg_turn.specs.Terms.{AreNodes}
use Rattle.dg_turn.specs.Turns.{enter_routine, equal_routine, goto_routine, commit_routine}
use Rattle.dg_turn.specs.Queries.{asking_routine}
use Rattle.dg_turn.specs.LastQueries.{last_routine}
use Rattle.dg_turn.specs.Choices.{branch_routine, try_routine, once_routine}
use Rattle.dg_turn.specs.Leaving.{just_routine}
use Rattle.dg_turn.specs.Stopping.{shield_routine, leave_routine}
use Rattle.dg_turn.specs.Gatherings.{collect_routine, take_routine}
use Rattle.dg_turn.specs.Bodies.{query_routine, last_query_routine}
use Rattle.dg_turn.specs.Typing.{input_routine}
use Rattle.dg_turn.specs.Wording.{split_routine, join_routine}
use Rattle.dg_turn.specs.Texts.{text_routine, gap_routine, gap_n_routine, quit_routine}
use Rattle.dg_turn.specs.Operating.{test_routine, compare_routine, arith_routine, random_routine}
use Rattle.dg_turn.specs.World.{holds_routine}
use Rattle.dg_turn.specs.Sites.{select_routine}
use Rattle.dg_emit.specs.declared.numbers.Numbers.{Numbers}
use Rattle.dg_emit.specs.Numbers.{routines_of_op, routines_of_ops, first_of, first_rule, rules_count, behind_blocks, number_behind, numbers_from, block_number, pred_number}
use Rattle.dg_turn.specs.Tries.{sought_at}
use Rattle.dg_emit.specs.Finds.{kind_at, query_of, tries_for, QueryFits}
use Rattle.dg_turn.specs.Prints.{print_routine}
use Rattle.dg_turn.specs.Names.{objects_routines}
use Rattle.dg_emit.specs.Bodies.{bodies_routines, ClosuresFit}
use Rattle.dg_emit.specs.Sites.{site_address, SelectFits}
use Rattle.dg_emit.specs.World.{change_routine, ChangeFits, FlagFits, WorldFits}

-- ## Instructions

-- The routine of an instruction that has one of its own, where the code behind it begins with another.
abbrev pub op_routine : CoreProgram → Numbers → ℕ → Op → Routine
op_routine program numbers behind (op.Do action.Just) = just_routine behind
op_routine program numbers behind (op.Do action.Quit) = quit_routine
op_routine program numbers behind (op.Do (action.Text text)) = text_routine (chars text) behind
op_routine program numbers behind (op.Do (action.Gap kind)) = gap_routine kind behind
op_routine program numbers behind (op.Do (action.GapN a)) = gap_n_routine program a behind
op_routine program numbers behind (op.Do (action.Test kind a)) = test_routine program kind a behind
op_routine program numbers behind (op.Do (action.Compare f a b)) = compare_routine program f a b behind
op_routine program numbers behind (op.Do (action.Arith f a b c)) = arith_routine program f a b c behind
op_routine program numbers behind (op.Do (action.Random a b c)) = random_routine program a b c behind
op_routine program numbers behind (op.Do (action.Input a)) = input_routine program a behind
op_routine program numbers behind (op.Do (action.SplitWord a b)) = split_routine program a b behind
op_routine program numbers behind (op.Do (action.JoinWords a b)) = join_routine program a b behind
op_routine program numbers behind (op.Do (action.Equal a b)) = equal_routine program a b behind
op_routine program numbers behind (op.Do (action.Now place args sets)) =
    change_routine program place (slice_get (kinds_of program) place) args sets behind
op_routine program numbers behind (op.Find (Some place) [] many next) = holds_routine program place behind
op_routine program numbers behind (op.Do (action.Print a)) = print_routine program a SPELL numbers.objects behind
op_routine program numbers behind (op.Ask pred terms many next) =
    asking_routine program terms (block_number numbers next) many (pred_number numbers pred)
op_routine program numbers behind (op.LastAsk pred terms many) = last_routine program terms (block_number numbers 0) many (pred_number numbers pred)
op_routine program numbers behind (op.Query a b many next) = query_routine program a b (block_number numbers next) many numbers.find
op_routine program numbers behind (op.LastQuery a b many) = last_query_routine program a b (block_number numbers 0) many numbers.find
op_routine program numbers behind (op.Select site mode blocks next) =
    select_routine (site_address program numbers.sites site) mode (map (block_number numbers) blocks) (block_number numbers next)
op_routine program numbers behind op.Take = goto_routine behind
op_routine program numbers behind (op.Branch alt) = branch_routine (block_number numbers alt) behind
op_routine program numbers behind op.Once = once_routine behind
op_routine program numbers behind (op.Try alt) = try_routine (block_number numbers alt) behind
op_routine program numbers behind (op.Shield alt) = shield_routine (block_number numbers alt) behind
op_routine program numbers behind (op.Retry alt) = branch_routine (block_number numbers alt) behind
op_routine program numbers behind (op.Collect a b alt) = collect_routine program a b (block_number numbers alt) behind
op_routine program numbers behind (op.TakeOut whole into) = take_routine whole behind
op_routine program numbers behind op.Commit = commit_routine behind
op_routine program numbers behind op.Refuse = commit_routine FAIL
op_routine program numbers behind op.Leave = leave_routine behind
op_routine program numbers behind (op.Goto block) = goto_routine (block_number numbers block)
op_routine program numbers behind op.Done = goto_routine DONE
op_routine program numbers behind (op.Enter vars head) = enter_routine program vars head behind
op_routine program numbers behind other = goto_routine FAIL

-- The routines of an instruction, of which the first has a number: its own, or none where every story has it; behind that of a query of objects the one
-- that tries them.
abbrev pub op_routines : CoreProgram → Numbers → (number behind : ℕ) → Op → List Routine
op_routines program numbers number behind op.Return = []
op_routines program numbers number behind (op.Do action.Stop) = []
op_routines program numbers number behind (op.Keep a) = []
op_routines program numbers number behind (op.Find place (t ∷ ts) many next) =
    query_of program (kind_at program place) place (t ∷ ts) behind (number + 1)
    ∷ tries_for program (sought_at program place) (first_label (t ∷ ts)) many (block_number numbers next) ∷ []
op_routines program numbers number behind x = op_routine program numbers behind x ∷ []

-- The routines of a block, the first of which has a number: those of its instructions, and one that fails.
abbrev pub ops_routines : CoreProgram → Numbers → ℕ → List Op → List Routine
ops_routines program numbers number [] = goto_routine FAIL ∷ []
ops_routines program numbers number (x ∷ ops) =
    let behind = number + routines_of_op x in
    op_routines program numbers number (first_of behind ops) x ++ ops_routines program numbers behind ops

abbrev pub blocks_routines : CoreProgram → Numbers → ℕ → List Block → List Routine
blocks_routines program numbers number [] = []
blocks_routines program numbers number (block ∷ blocks) =
    ops_routines program numbers number block.ops ++ blocks_routines program numbers (number + routines_of_ops block.ops) blocks

-- ## Rules

-- How many parameters a rule has, whose code this is: the terms of its head.
abbrev pub parameters_of : List Op → ℕ
parameters_of (op.Enter vars head ∷ ops) = length head
parameters_of ops = 0

-- The routine of a rule, which has a number, with others behind it.
abbrev pub rule_routine : Code → Numbers → ℕ → RuleCode → List RuleCode → Routine
rule_routine code numbers number rule others =
    routine_of 1 (rule_acts (label_of rule.key) (parameters_of (block_at code rule.block)) (block_number numbers rule.block) number
    (first_rule (number + 1) others))

abbrev pub rules_routines : Code → Numbers → ℕ → List RuleCode → List Routine
rules_routines code numbers number [] = []
rules_routines code numbers number (rule ∷ rules) =
    rule_routine code numbers number rule rules ∷ rules_routines code numbers (number + 1) rules

abbrev pub preds_routines : Code → Numbers → ℕ → List (List RuleCode) → List Routine
preds_routines code numbers number [] = []
preds_routines code numbers number (rules ∷ preds) =
    rules_routines code numbers number rules ++ preds_routines code numbers (number + length rules) preds

-- ## All

-- The routines of code whose first one has a number: those of rules, of blocks, of the bodies of closures, and of the names of objects.
abbrev pub code_routines : CoreProgram → ℕ → Code → List Routine
code_routines program first code =
    let numbers = numbers_from first code in
    preds_routines code numbers first code.preds
    ++ (blocks_routines program numbers (first + rules_count code.preds) code.blocks
    ++ (bodies_routines numbers (length code.closures) (behind_blocks first code) 0 code.closures
    ++ objects_routines (number_behind first code) program.objects))

-- ## Code of a story

-- Terms of a story, no more than 12.
abbrev pub TermsFit : CoreProgram → List Term → Type 0
TermsFit program terms = (length terms ≤ 12) × AreNodes program (nodes_of terms)

-- An instruction whose terms are those of a story, and whose text is one of printable characters; a query of objects has a term.
abbrev pub OpFits : CoreProgram → Op → Type 0
OpFits program (op.Do (action.Text text)) = IsName text
OpFits program (op.Do (action.GapN a)) = TermsFit program (a ∷ [])
OpFits program (op.Do (action.Test kind a)) = TermsFit program (a ∷ [])
OpFits program (op.Do (action.Compare f a b)) = TermsFit program (a ∷ b ∷ [])
OpFits program (op.Do (action.Arith f a b c)) = TermsFit program (a ∷ b ∷ c ∷ [])
OpFits program (op.Do (action.Random a b c)) = TermsFit program (a ∷ b ∷ c ∷ [])
OpFits program (op.Do (action.Input a)) = TermsFit program (a ∷ [])
OpFits program (op.Do (action.SplitWord a b)) = TermsFit program (a ∷ b ∷ [])
OpFits program (op.Do (action.JoinWords a b)) = TermsFit program (a ∷ b ∷ [])
OpFits program (op.Do (action.Equal a b)) = TermsFit program (a ∷ b ∷ [])
OpFits program (op.Do (action.Now place args sets)) = TermsFit program args × ChangeFits program place (length args)
OpFits program (op.Find (Some place) [] many next) = FlagFits program place
OpFits program (op.Find None [] many next) = ⊥
OpFits program (op.Find place (t ∷ ts) many next) = TermsFit program (t ∷ ts) × WorldFits program × QueryFits program place (length (t ∷ ts))
OpFits program (op.Do (action.Print a)) = TermsFit program (a ∷ [])
OpFits program (op.Ask pred terms many next) = TermsFit program terms
OpFits program (op.LastAsk pred terms many) = TermsFit program terms
OpFits program (op.Query a b many next) = TermsFit program (a ∷ option_terms b)
OpFits program (op.LastQuery a b many) = TermsFit program (a ∷ option_terms b)
OpFits program (op.Collect a b alt) = TermsFit program (a ∷ b ∷ [])
OpFits program (op.Select site mode blocks next) = SelectFits program blocks
OpFits program (op.Enter vars head) = TermsFit program head
OpFits program other = Unit {0}

abbrev pub OpsFit : CoreProgram → List Op → Type 0
OpsFit program [] = Unit {0}
OpsFit program (x ∷ ops) = OpFits program x × OpsFit program ops

abbrev pub BlocksFit : CoreProgram → List Block → Type 0
BlocksFit program [] = Unit {0}
BlocksFit program (block ∷ blocks) = OpsFit program block.ops × BlocksFit program blocks

-- Rules whose keys are those of a story, with no more than 12 parameters.
abbrev pub RulesFit : Code → List RuleCode → Type 0
RulesFit code [] = Unit {0}
RulesFit code (rule ∷ rules) = KeyFits (label_of rule.key) × (parameters_of (block_at code rule.block) ≤ 12) × RulesFit code rules

abbrev pub PredsFit : Code → List (List RuleCode) → Type 0
PredsFit code [] = Unit {0}
PredsFit code (rules ∷ preds) = RulesFit code rules × PredsFit code preds

-- Objects of a story, no more than 4,096, each with a name.
abbrev pub ObjectsFit : CoreProgram → Type 0
ObjectsFit program = (length program.objects ≤ 4096) × All IsName program.objects

-- Code whose terms, texts, keys, closures and objects are those of a story.
abbrev pub CodeFits : CoreProgram → Code → Type 0
CodeFits program code = BlocksFit program code.blocks × PredsFit code code.preds × ClosuresFit code × ObjectsFit program
