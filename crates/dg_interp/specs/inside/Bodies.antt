-- What entering the body of a closure does to a store. Hold it against docs/LANGUAGE.md, where it says what a closure is and what a limit counts.
use Rattle.std.specs.Prelude.{◌≡◌, ℕ, ◌+◌, ◌<◌, ◌++◌, List, [], ◌∷◌, Bool, Option, Some, None, length, slice_get}
use Rattle.std.specs.Borrow.{Bor}
use Rattle.std.specs.List.{zip}
use Rattle.dg_base.specs.declared.program.ClosureBody.{ClosureBody}
use Rattle.dg_base.specs.declared.program.CoreProgram.{CoreProgram}
use Rattle.dg_meaning.specs.Values.{Closure, Value, Node, Values, value_of_var}
use Rattle.dg_meaning.specs.Unify.{Unified, solve}
use Rattle.dg_meaning.specs.Moves.{new_vars}
use Rattle.dg_unify.specs.Store.{Store, IsClosureAt, trail_of}
use Rattle.dg_unify.specs.declared.bindings.Ref.{Ref}
use Rattle.dg_unify.specs.declared.bindings.Full.{Full}
use Rattle.dg_unify.specs.declared.bindings.Full.TheVariants as full
use Rattle.dg_terms.specs.Terms.{Appended}

-- ## Which body

-- A value that was looked up is the closure, by its own Ref, of this body of a program.
pub record IsBody (program : CoreProgram) (s : Store) (w : Value) (r : Ref) (body : ClosureBody) : Type 0 where
  pub place : ℕ
  pub parts : Values
  pub is : w ≡ Node (Closure place) parts
  pub at : IsClosureAt s r place parts
  pub found : slice_get program.closures place ≡ Some body

-- It is no closure, or one of no body of the program.
abbrev pub HasNoBody : CoreProgram → Value → Type 0
HasNoBody program (Node (Closure place) parts) = slice_get program.closures place ≡ None
HasNoBody program w = Unit {0}

abbrev pub FindsBody : CoreProgram → Store → Value → Option (Ref × Bor ClosureBody) → Type 0
FindsBody program s w None = HasNoBody program w
FindsBody program s w (Some found) = IsBody program s w found.0 found.1.now

-- ## Its variables

-- The values of a body's variables: those that it captures, and so many new ones.
abbrev pub body_vars : List Value → ℕ → Store → List Value
body_vars captured own s = captured ++ new_vars own s.state.vars

-- What is unified with an argument: the parameter, which is the first variable behind those that are captured.
abbrev pub parameters : ℕ → List Value → List Value → List Value
parameters n env [] = []
parameters n env (arg ∷ args) = value_of_var env n ∷ []

-- Arguments unified with the parameter of a body whose own variables are made now.
abbrev pub matched_body : List Value → ℕ → List Value → Store → Unified
matched_body captured own args s = solve s.state.subst (zip args (parameters (length captured) (body_vars captured own s) args))

-- The variables of a body were put behind some Refs, and arguments were unified with its parameter. That takes 6 of the heap, and one for each
-- of its own variables.
pub record EntersBody (captured : List Value) (own : ℕ) (args : List Value) (old new : Store) (before behind : List Ref) (yes : Bool) : Type 0 where
  pub appended : Appended new (body_vars captured own old) before behind
  pub agrees : yes ≡ (matched_body captured own args old).agrees
  pub subst : new.state.subst ≡ (matched_body captured own args old).subst
  pub vars : new.state.vars ≡ old.state.vars + own
  pub since : new.state.since ≡ old.state.since
  pub heap : new.state.heap ≡ old.state.heap + 6 + own
  pub trail : new.state.trail + trail_of old.state.since old.state.subst
      ≡ old.state.trail + trail_of old.state.since (matched_body captured own args old).subst

-- It came to no end: heap or trail is full only where all of it would pass the limit.
abbrev pub BodyFull : List Value → ℕ → List Value → Store → Full → Type 0
BodyFull captured own args s full.Heap = s.heap_limit < s.state.heap + 6 + own
BodyFull captured own args s full.Trail = s.trail_limit + trail_of s.state.since s.state.subst < s.state.trail + trail_of s.state.since
    (matched_body captured own args s).subst
BodyFull captured own args s full.OutOfMemory = Unit {0}
