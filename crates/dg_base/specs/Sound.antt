-- When a core program is sound: each number in it names something that is there, and each form has the parts that its kind has.
use Rattle.std.specs.Prelude.{ℕ, ◌≡◌, ◌≢◌, ◌<◌, ◌≤◌, ◌+◌, ◌^◌, List, [], ◌∷◌, ◌++◌, Option, Some, None, All, Contains, length, map, slice_get, nat_eq}
use Rattle.std.specs.List.{flat_map, IsDistinct}
use Rattle.std.specs.Char.{IsScalar}
use Rattle.std.specs.Str.{encode_utf8_all, bytes_eq}
use Rattle.dg_base.specs.declared.program.Term.{Term, out-Term}
use Rattle.dg_base.specs.declared.program.Term.TheOpen.{Term-F, Num, Word, Object, Nil, Var, Pair, Closure}
use Rattle.dg_base.specs.declared.program.Goal.{Goal, out-Goal}
use Rattle.dg_base.specs.declared.program.Goal.TheOpen.{Goal-F, Text, Ask, Holds, Now, Either, Select}
use Rattle.dg_base.specs.declared.program.Rule.{Rule}
use Rattle.dg_base.specs.declared.program.ClosureBody.{ClosureBody}
use Rattle.dg_base.specs.declared.program.Pred.{Pred}
use Rattle.dg_base.specs.declared.program.Place.{Place}
use Rattle.dg_base.specs.declared.program.PlaceKind.{PlaceKind}
use Rattle.dg_base.specs.declared.program.PlaceKind.TheVariants.{Flag, ObjectFlag, ObjectVar, Parent, Global}
use Rattle.dg_base.specs.declared.program.CoreProgram.{CoreProgram as Core}
use Rattle.dg_base.specs.Terms.{nodes}
use Rattle.dg_base.specs.Goals.{all_goals_of, terms_held}

-- ---- names

-- a character that a story can print: from the space on, but for the one control character and the halves of pairs
pub record IsPrintable (c : ℕ) : Type 0 where
  pub from : 32 ≤ c
  pub to : c < 2 ^ 16
  pub scalar : IsScalar c
  pub no_delete : c ≢ 127

-- some characters that can be printed, in UTF-8
pub record IsName (bytes : List ℕ) : Type 0 where
  pub characters : List ℕ
  pub some : characters ≢ []
  pub printable : All IsPrintable characters
  pub encoded : bytes ≡ encode_utf8_all characters

-- ---- terms

-- the variables of a closure's body: the captured ones and its own
abbrev pub closure_vars : ClosureBody → ℕ
closure_vars closure = length closure.captured + closure.own

-- what a closure captures is there, among this many variables
abbrev pub Captures : ℕ → Option ClosureBody → Type 0
Captures vars None = ⊥
Captures vars (Some closure) = All (λ v. v < vars) closure.captured

-- a node of a term, among this many variables
abbrev pub IsNodeOf : Core → ℕ → Term-F Term → Type 0
IsNodeOf program vars (Num n) = n ≤ 16383
IsNodeOf program vars (Word w) = w < length program.words
IsNodeOf program vars (Object o) = o < length program.objects
IsNodeOf program vars Nil = Unit {0}
IsNodeOf program vars (Var v) = v < vars
IsNodeOf program vars (Pair head tail) = Unit {0}
IsNodeOf program vars (Closure c) = Captures vars (slice_get program.closures c)

-- a term, among this many variables
abbrev pub IsTermOf : Core → ℕ → Term → Type 0
IsTermOf program vars term = All (λ node. IsNodeOf program vars (out-Term node)) (nodes term)

-- ---- goals

-- a query has as many terms as the heads of its predicate's rules
abbrev pub FitsHeads : ℕ → Option Pred → Type 0
FitsHeads args None = ⊥
FitsHeads args (Some pred) = All (λ rule. length rule.head ≡ args) pred.rules

-- the terms of a query or change of a place of this kind
abbrev pub terms_of_kind : PlaceKind → ℕ
terms_of_kind Flag = 0
terms_of_kind ObjectFlag = 1
terms_of_kind ObjectVar = 2
terms_of_kind Parent = 2
terms_of_kind Global = 1

-- a query or change of a place has as many terms as its kind wants
abbrev pub FitsPlace : ℕ → Option Place → Type 0
FitsPlace args None = ⊥
FitsPlace args (Some place) = args ≡ terms_of_kind place.kind

-- a goal, apart from its terms
abbrev pub FitsProgram : Core → Goal-F Goal → Type 0
FitsProgram program (Text name) = IsName name
FitsProgram program (Ask pred args many) = FitsHeads (length args) (slice_get program.preds pred)
FitsProgram program (Holds place args many) = FitsPlace (length args) (slice_get program.places place)
FitsProgram program (Now place args set) = FitsPlace (length args) (slice_get program.places place)
FitsProgram program (Either lists) = 1 ≤ length lists
FitsProgram program (Select site mode lists) = (site < program.sites) × (1 ≤ length lists) × (length lists ≤ 500)
FitsProgram program goal = Unit {0}

-- a goal with its own terms, among this many variables
pub record IsGoalOf (program : Core) (vars : ℕ) (goal : Goal) : Type 0 where
  pub fits : FitsProgram program (out-Goal goal)
  pub terms : All (IsTermOf program vars) (terms_held (out-Goal goal))

-- ---- rules, closures, places

-- a rule has at most 64 variables and the parameter of a closure
pub record IsRuleOf (program : Core) (rule : Rule) : Type 0 where
  pub few : rule.vars ≤ 65
  pub head : All (IsTermOf program rule.vars) rule.head
  pub body : All (IsGoalOf program rule.vars) (all_goals_of rule.body)

-- a closure has its parameter among its own variables
pub record IsClosureOf (program : Core) (closure : ClosureBody) : Type 0 where
  pub few : closure_vars closure ≤ 65
  pub parameter : 1 ≤ closure.own
  pub body : All (IsGoalOf program (closure_vars closure)) (all_goals_of closure.body)

-- a predicate has a name and sound rules
pub record IsPredOf (program : Core) (pred : Pred) : Type 0 where
  pub name : IsName pred.name
  pub rules : All (IsRuleOf program) pred.rules

-- a value that a per-object variable can have
abbrev pub IsSimple : Term-F Term → Type 0
IsSimple (Var v) = ⊥
IsSimple (Pair head tail) = ⊥
IsSimple (Closure c) = ⊥
IsSimple term = Unit {0}

-- a value without variables and closures
abbrev pub IsConstant : Term-F Term → Type 0
IsConstant (Var v) = ⊥
IsConstant (Closure c) = ⊥
IsConstant term = Unit {0}

-- an object
abbrev pub IsObject : Term-F Term → Type 0
IsObject (Object o) = Unit {0}
IsObject term = ⊥

-- the empty list
abbrev pub IsNothing : Term-F Term → Type 0
IsNothing Nil = Unit {0}
IsNothing term = ⊥

-- what starts set in a place: an object, or the number 0 where the place has none, with its value or the empty list
abbrev pub FitsStart : PlaceKind → ℕ → ℕ → Term → Type 0
FitsStart Flag objects n value = (n ≡ 0) × IsNothing (out-Term value)
FitsStart ObjectFlag objects n value = (n < objects) × IsNothing (out-Term value)
FitsStart ObjectVar objects n value = (n < objects) × IsSimple (out-Term value)
FitsStart Parent objects n value = (n < objects) × IsObject (out-Term value)
FitsStart Global objects n value = (n ≡ 0) × All (λ node. IsConstant (out-Term node)) (nodes value)

-- a start of a place of this kind
pub record IsStartOf (program : Core) (kind : PlaceKind) (start : ℕ × Term) : Type 0 where
  pub fits : FitsStart kind (length program.objects) start.0 start.1
  pub value : IsTermOf program 0 start.1

-- a place starts with sound values, at no number twice
pub record IsPlaceOf (program : Core) (place : Place) : Type 0 where
  pub starts : All (IsStartOf program place.kind) place.start
  pub once : IsDistinct nat_eq (map (λ start. start.0) place.start)

-- ---- the whole program

-- the goals of all rules and closures, at every depth
abbrev pub all_goals : Core → List Goal
all_goals program = flat_map (λ pred. flat_map (λ rule. all_goals_of rule.body) pred.rules) program.preds ++
    flat_map (λ closure. all_goals_of closure.body) program.closures

-- two selects of one site have the same mode and as many lists
abbrev pub SameSite : Goal-F Goal → Goal-F Goal → Type 0
SameSite (Select site mode lists) (Select other mode' lists') = site ≡ other → (mode ≡ mode') × (length lists ≡ length lists')
SameSite a b = Unit {0}

-- the first place is the one of parents, and no other is
abbrev pub FirstIsParent : List Place → Type 0
FirstIsParent [] = ⊥
FirstIsParent (first ∷ others) = (first.kind ≡ Parent) × All (λ place. place.kind ≢ Parent) others

-- the entry is a predicate without parameters
abbrev pub IsEntry : Option Pred → Type 0
IsEntry None = ⊥
IsEntry (Some pred) = All (λ rule. rule.head ≡ []) pred.rules

-- the program is sound
pub record IsSound (program : Core) : Type 0 where
  pub preds : All (IsPredOf program) program.preds
  pub closures : All (IsClosureOf program) program.closures
  pub places : All (IsPlaceOf program) program.places
  pub parent : FirstIsParent program.places
  pub objects : All IsName program.objects
  pub words : All IsName program.words
  pub words_differ : IsDistinct bytes_eq program.words
  pub sites : (a b : Goal) → Contains (all_goals program) a → Contains (all_goals program) b → SameSite (out-Goal a) (out-Goal b)
  pub entry : IsEntry (slice_get program.preds program.entry)
  pub few_preds : length program.preds ≤ 65535
  pub few_closures : length program.closures ≤ 65535
  pub few_places : length program.places ≤ 65535
  pub few_objects : length program.objects ≤ 65535
  pub few_words : length program.words ≤ 65535
