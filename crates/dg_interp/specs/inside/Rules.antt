-- What entering a rule does to a store. Hold it against the Dialog manual, chapter "Rules", and docs/LANGUAGE.md, where it says what a limit counts.
use Rattle.std.specs.Prelude.{◌≡◌, ℕ, ◌+◌, ◌<◌, List, Bool, map, length}
use Rattle.std.specs.List.{zip}
use Rattle.dg_base.specs.declared.program.Rule.{Rule}
use Rattle.dg_base.specs.declared.program.Term.{Term}
use Rattle.dg_base.specs.declared.program.CoreProgram.{CoreProgram}
use Rattle.dg_meaning.specs.Values.{Value, value_of}
use Rattle.dg_meaning.specs.Unify.{Unified, solve}
use Rattle.dg_meaning.specs.Cells.{cells}
use Rattle.dg_meaning.specs.Moves.{new_vars}
use Rattle.dg_unify.specs.Store.{Store, trail_of}
use Rattle.dg_unify.specs.declared.bindings.Ref.{Ref}
use Rattle.dg_unify.specs.declared.bindings.Full.{Full}
use Rattle.dg_unify.specs.declared.bindings.Full.TheVariants as full
use Rattle.dg_choices.specs.declared.frames.Env.{Env}
use Rattle.dg_terms.specs.Terms.{Appended, Written}

-- What a rule takes of the heap: 6 cells, its variables and its head.
abbrev pub rule_cells : CoreProgram → Rule → ℕ
rule_cells program rule = 6 + rule.vars + cells program rule.head

-- Arguments unified with the head of a rule whose variables are made now.
abbrev pub matched_in : CoreProgram → Rule → List Value → Store → Unified
matched_in program rule args s = solve s.state.subst (zip args (map (value_of program (new_vars rule.vars s.state.vars)) rule.head))

-- The variables of a rule were made behind some Refs, and arguments were unified with its head.
pub record EntersRule (program : CoreProgram) (rule : Rule) (args : List Value) (old new : Store) (before behind : List Ref) (yes : Bool) : Type 0 where
  pub appended : Appended new (new_vars rule.vars old.state.vars) before behind
  pub agrees : yes ≡ (matched_in program rule args old).agrees
  pub subst : new.state.subst ≡ (matched_in program rule args old).subst
  pub vars : new.state.vars ≡ old.state.vars + rule.vars
  pub since : new.state.since ≡ old.state.since
  pub heap : new.state.heap ≡ old.state.heap + rule_cells program rule
  pub trail : new.state.trail + trail_of old.state.since old.state.subst ≡ old.state.trail + trail_of old.state.since (matched_in program rule args old).subst

-- It came to no end: heap or trail is full only where all of it would pass the limit.
abbrev pub RuleFull : CoreProgram → Rule → List Value → Store → Full → Type 0
RuleFull program rule args s full.Heap = s.heap_limit < s.state.heap + rule_cells program rule
RuleFull program rule args s full.Trail = s.trail_limit + trail_of s.state.since s.state.subst < s.state.trail + trail_of s.state.since
    (matched_in program rule args s).subst
RuleFull program rule args s full.OutOfMemory = Unit {0}

-- ## Arguments

-- The values of the arguments of a query were put behind some Refs, among these values of variables.
pub record ArgsWritten (program : CoreProgram) (values : List Value) (terms : List Term) (old new : Store) (before behind : List Ref)
    (args : Env) : Type 0 where
  pub written : Written (cells program terms) (map (value_of program values) terms) old new before behind
  pub from : args.from ≡ length before
  pub count : args.len ≡ length written.appended.made
