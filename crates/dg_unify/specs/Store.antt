-- What a store of bindings stands for, and what its calls do to that. Hold it against docs/LANGUAGE.md, where it says when two values unify and what
-- a limit counts.
use Rattle.std.specs.Prelude.{◌≡◌, ℕ, zero, suc, ◌+◌, ◌<◌, ◌≤◌, nat_lt, List, [], ◌∷◌, map, length, ◌++◌, Option, Some, None, Bool, true, false, if◌then◌else◌, IsTrue, Result, Ok, Err}
use Rattle.dg_base.specs.declared.cells.Simple.{Simple}
use Rattle.dg_base.specs.declared.cells.Simple.TheVariants as simple
use Rattle.dg_meaning.specs.Values.{Label, Num, Word, Unknown, Object, Nil, Closure, Value, Var, Node, Values, NoMore, More, leaf, pair, node_parts}
use Rattle.dg_meaning.specs.Substitutions.{Substitution, walk}
use Rattle.dg_meaning.specs.inside.Substitutions.{FitsFront}
use Rattle.dg_meaning.specs.Unify.{Unified}
use Rattle.dg_unify.specs.declared.bindings.Ref.{Ref}
use Rattle.dg_unify.specs.declared.bindings.Mark.{Mark}
use Rattle.dg_unify.specs.declared.bindings.View.{View}
use Rattle.dg_unify.specs.declared.bindings.View.TheVariants as view
use Rattle.dg_unify.specs.declared.bindings.Full.{Full}
use Rattle.dg_unify.specs.declared.bindings.Full.TheVariants as full

-- ## States

-- How many variables there are (the oldest is 0), what is bound, how many variables are older than the newest mark that stands, and the counts of
-- heap and trail.
pub record State : Type 0 where
  pub vars : ℕ
  pub subst : Substitution
  pub since : ℕ
  pub heap : ℕ
  pub trail : ℕ

-- A state, what each Ref stands for, a number above the Ref of each variable and of each value with parts, what the words of blocks read by their
-- places, the limits of the counts, and whether the store grows, so that it may find no memory.
pub record Store : Type 0 where
  pub state : State
  pub value : Ref → Option Value
  pub places : ℕ
  pub word : ℕ → Option ℕ
  pub heap_limit : ℕ
  pub trail_limit : ℕ
  pub grows : Bool

-- A mark, with the store that it gives back.
pub record Saved : Type 0 where
  pub mark : Mark
  pub store : Store

-- ## What a Ref stands for

-- A value, where there is one.
abbrev pub or_nil : Option Value → Value
or_nil None = leaf Nil
or_nil (Some v) = v

-- There is a value.
abbrev pub IsTold : Option Value → Type 0
IsTold None = ⊥
IsTold (Some v) = Unit {0}

-- The value of a Ref.
abbrev pub told : Store → Ref → Value
told s r = or_nil (s.value r)

-- The values of some Refs.
abbrev pub told_parts : Store → List Ref → Values
told_parts s rs = node_parts (map (told s) rs)

-- A Ref stands for a value.
abbrev pub Holds : Store → Ref → Type 0
Holds s r = IsTold (s.value r)

-- A value without parts that is no variable.
abbrev pub is_single : Value → Bool
is_single (Node f NoMore) = true
is_single other = false

-- What stood for a value still stands for it, no place is lost, words read as before, and the limits stay.
pub record Kept (old new : Store) : Type 0 where
  pub values : (r : Ref) (v : Value) → old.value r ≡ Some v → new.value r ≡ Some v
  pub places : old.places ≤ new.places
  pub words : (at w : ℕ) → old.word at ≡ Some w → new.word at ≡ Some w
  pub heap_limit : new.heap_limit ≡ old.heap_limit
  pub trail_limit : new.trail_limit ≡ old.trail_limit
  pub grows : new.grows ≡ old.grows

-- ## Making values

-- A call took n of the heap.
pub record Charged (n : ℕ) (old new : Store) : Type 0 where
  pub fits : old.state.heap + n ≤ old.heap_limit
  pub state : new.state ≡ record old.state { heap = old.state.heap + n }

-- A call that wanted n more of the heap changed nothing: it is full exactly where that would pass the limit, and want of memory comes only from a
-- store that grows.
abbrev pub HeapFull : ℕ → Store → Store → Full → Type 0
HeapFull n old new full.Heap = (old.heap_limit < old.state.heap + n) × (new.state ≡ old.state)
HeapFull n old new full.Trail = ⊥
HeapFull n old new full.OutOfMemory = IsTrue old.grows × (old.state.heap + n ≤ old.heap_limit) × (new.state ≡ old.state)

-- A new variable, the youngest, at a place of its own behind those that were there, so that new variables in a row have places in a row.
pub record Fresh (old new : Store) (r : Ref) : Type 0 where
  pub fits : old.state.heap + 1 ≤ old.heap_limit
  pub state : new.state ≡ record old.state { vars = old.state.vars + 1; heap = old.state.heap + 1 }
  pub value : new.value r ≡ Some (Var old.state.vars)
  pub place : r.0 ≡ old.places
  pub next : new.places ≡ old.places + 1

-- A value that took n of the heap.
pub record Made (n : ℕ) (old new : Store) (r : Ref) (v : Value) : Type 0 where
  pub charged : Charged n old new
  pub value : new.value r ≡ Some v

-- These words stand at places in a row.
abbrev pub WordsAt : Store → ℕ → List ℕ → Type 0
WordsAt s at [] = Unit {0}
WordsAt s at (w ∷ ws) = (s.word at ≡ Some w) × WordsAt s (suc at) ws

-- A block of words was made at a place behind those that were there, and took one of the heap for each.
pub record Blocked (ws : List ℕ) (old new : Store) (at : ℕ) : Type 0 where
  pub charged : Charged (length ws) old new
  pub words : WordsAt new at ws
  pub place : at ≡ old.places

-- The label of a value without parts.
abbrev pub label_of : Simple → Label
label_of (simple.Num n) = Num n
label_of (simple.Word n) = Word n
label_of (simple.Object n) = Object n
label_of simple.Nil = Nil

-- ## Looking at values

-- An unbound variable, by its own Ref.
pub record ShowsVar (s : Store) (w : Value) (r : Ref) : Type 0 where
  pub number : ℕ
  pub is : w ≡ Var number
  pub value : s.value r ≡ Some (Var number)

-- A pair, by Refs of its head and its tail.
pub record ShowsPair (s : Store) (w : Value) (h t : Ref) : Type 0 where
  pub head : Value
  pub tail : Value
  pub is : w ≡ pair head tail
  pub head_is : s.value h ≡ Some head
  pub tail_is : s.value t ≡ Some tail

-- How many parts there are.
abbrev pub count_of : Values → ℕ
count_of NoMore = 0
count_of (More v vs) = suc (count_of vs)

-- A closure stands at this Ref.
pub record IsClosureAt (s : Store) (r : Ref) (place : ℕ) (parts : Values) : Type 0 where
  pub value : s.value r ≡ Some (Node (Closure place) parts)
  pub few : count_of parts ≤ 65535

-- A closure, by its own Ref.
pub record ShowsClosure (s : Store) (w : Value) (place : ℕ) (r : Ref) : Type 0 where
  pub parts : Values
  pub is : w ≡ Node (Closure place) parts
  pub at : IsClosureAt s r place parts

-- An unknown word stands at this Ref.
pub record IsUnknownAt (s : Store) (r : Ref) (spelling : List ℕ) : Type 0 where
  pub value : s.value r ≡ Some (leaf (Unknown spelling))
  pub short : length spelling ≤ 200

-- An unknown word, by its own Ref.
pub record ShowsUnknown (s : Store) (w : Value) (r : Ref) : Type 0 where
  pub spelling : List ℕ
  pub is : w ≡ leaf (Unknown spelling)
  pub at : IsUnknownAt s r spelling

-- What a view shows of a walked value.
abbrev pub Shows : Store → Value → View → Type 0
Shows s w (view.Unbound r) = ShowsVar s w r
Shows s w (view.Simple x) = w ≡ leaf (label_of x)
Shows s w (view.Pair h t) = ShowsPair s w h t
Shows s w (view.Closure place r) = ShowsClosure s w place r
Shows s w (view.Unknown r) = ShowsUnknown s w r

-- The part of that number.
abbrev pub part_at : ℕ → Values → Option Value
part_at n NoMore = None
part_at zero (More v vs) = Some v
part_at (suc n) (More v vs) = part_at n vs

-- A Ref for a part, and none where there is none.
abbrev pub IsPart : Store → Option Value → Option Ref → Type 0
IsPart s part None = part ≡ None
IsPart s part (Some r) = IsTold part × (s.value r ≡ part)

-- ## Binding

-- A variable may be bound to a value.
pub record MayBind (s : Store) (var to : Ref) : Type 0 where
  pub x : ℕ
  pub v : Value
  pub var_is : s.value var ≡ Some (Var x)
  pub to_is : s.value to ≡ Some v
  pub fits : FitsFront x v s.state.subst

-- What a binding of x takes of the trail: one where the variable is older than the newest mark.
abbrev pub trail_for : ℕ → ℕ → ℕ
trail_for since x = if nat_lt x since then 1 else 0

-- The variable x was bound to what v is when it is walked.
pub record Bound (old new : Store) (x : ℕ) (v : Value) : Type 0 where
  pub fits : old.state.trail + trail_for old.state.since x ≤ old.trail_limit
  pub state : new.state ≡ record old.state { subst = (x, walk old.state.subst v) ∷ old.state.subst; trail = old.state.trail + trail_for old.state.since x }

-- A binding of x changed nothing: the trail is full exactly where that would pass the limit, and want of memory comes only from a store that grows.
abbrev pub TrailFull : Store → Store → ℕ → Full → Type 0
TrailFull old new x full.Heap = ⊥
TrailFull old new x full.Trail = (old.trail_limit < old.state.trail + trail_for old.state.since x) × (new.state ≡ old.state)
TrailFull old new x full.OutOfMemory = IsTrue old.grows × (old.state.trail + trail_for old.state.since x ≤ old.trail_limit) × (new.state ≡ old.state)

-- ## Marks

-- The state behind a mark: all its variables are older than that.
abbrev pub marked : State → State
marked s = record s { since = s.vars }

-- A store is as it was when it was marked.
pub record Back (saved new : Store) : Type 0 where
  pub state : new.state ≡ saved.state
  pub kept : Kept saved new

-- ## Unification

-- What bindings of all these variables take of the trail.
abbrev pub trail_of : ℕ → Substitution → ℕ
trail_of since [] = 0
trail_of since (p ∷ S) = trail_for since p.0 + trail_of since S

-- Only bindings were made, and each took what it takes of the trail.
pub record OnlyBinds (old new : State) : Type 0 where
  pub vars : new.vars ≡ old.vars
  pub since : new.since ≡ old.since
  pub heap : new.heap ≡ old.heap
  pub trail : new.trail + trail_of old.since old.subst ≡ old.trail + trail_of old.since new.subst

-- A store has done what the meaning of a unification says, also where that is a clash.
pub record Does (old new : Store) (meant : Unified) (yes : Bool) : Type 0 where
  pub agrees : yes ≡ meant.agrees
  pub subst : new.state.subst ≡ meant.subst
  pub binds : OnlyBinds old.state new.state

-- A unification came to no end: the trail is full only where the bindings that are meant, up to a clash, would pass its limit.
abbrev pub UnifyFull : Store → Unified → Full → Type 0
UnifyFull old meant full.Heap = ⊥
UnifyFull old meant full.Trail = old.trail_limit + trail_of old.state.since old.state.subst < old.state.trail + trail_of old.state.since meant.subst
UnifyFull old meant full.OutOfMemory = IsTrue old.grows

-- A unification that came to no end has made only bindings, the oldest of those that are meant, up to a clash.
pub record BrokeOff (old new : Store) (meant : Unified) (e : Full) : Type 0 where
  pub cause : UnifyFull old meant e
  pub binds : OnlyBinds old.state new.state
  pub made : Substitution
  pub further : Substitution
  pub grown : new.state.subst ≡ made ++ old.state.subst
  pub within : meant.subst ≡ further ++ new.state.subst

-- What came of a unification is what is meant, or one of these.
abbrev pub Follows : Store → Store → Unified → Result Bool Full → Type 0
Follows old new meant (Ok agreed) = Does old new meant agreed
Follows old new meant (Err e) = BrokeOff old new meant e
