-- When two values unify, and what is bound by that. Hold it against docs/LANGUAGE.md, where it says when two values unify, and the chapter of the
-- Dialog manual on values.
use Rattle.std.specs.Prelude.{ℕ, zero, suc, ◌+◌, ◌*◌, max, eqb, nat_lt, List, [], ◌∷◌, ◌++◌, ◌&&◌, Option, Some, None, Bool, true, false, if◌then◌else◌}
use Rattle.dg_meaning.specs.Values.{Label, Num, Word, Unknown, Object, Nil, Pair, Closure, Value, Var, Node, Values, NoMore, More}
use Rattle.dg_meaning.specs.Substitutions.{Substitution, walk, links, resolved, contains}

-- ## One equation

-- Two spellings are the same.
abbrev pub same_spelling : List ℕ → List ℕ → Bool
same_spelling [] [] = true
same_spelling (x ∷ xs) (y ∷ ys) = eqb x y && same_spelling xs ys
same_spelling xs ys = false

-- Two labels are the same.
abbrev pub same_label : Label → Label → Bool
same_label (Num m) (Num n) = eqb m n
same_label (Word m) (Word n) = eqb m n
same_label (Unknown m) (Unknown n) = same_spelling m n
same_label (Object m) (Object n) = eqb m n
same_label Nil Nil = true
same_label Pair Pair = true
same_label (Closure m) (Closure n) = eqb m n
same_label f g = false

-- Pairs of values that have to become equal, in order.
abbrev pub Equations : Type 0
Equations = List (Value × Value)

-- There are as many values here as there.
abbrev pub as_many : Values → Values → Bool
as_many NoMore NoMore = true
as_many (More v vs) (More u us) = as_many vs us
as_many vs us = false

-- Each value here and the one at its place there.
abbrev pub side_by_side : Values → Values → Equations
side_by_side (More v vs) (More u us) = (v, u) ∷ side_by_side vs us
side_by_side vs us = []

-- What an equation leads to: the equations of the parts, a variable that is bound, or a clash.
pub data Turn : Type 0 where
  Goes : (parts : Equations) → Turn
  Binds : (x : ℕ) → (v : Value) → Turn
  Clashes : Turn

-- A variable and another value: it is bound, unless the value contains it.
abbrev pub binds : Substitution → ℕ → Value → Turn
binds S x v = if contains x (resolved S v) then Clashes else Binds x v

-- Two variables: nothing is left where they are the same, and else the one with the greater number is bound to the other.
abbrev pub ties : ℕ → ℕ → Turn
ties x y = if eqb x y then Goes [] else (if nat_lt x y then Binds y (Var x) else Binds x (Var y))

-- The turn of two walked values: two with the same label and as many parts go on with their parts.
abbrev pub turn_of : Substitution → Value → Value → Turn
turn_of S (Var x) (Var y) = ties x y
turn_of S (Var x) (Node g us) = binds S x (Node g us)
turn_of S (Node f vs) (Var y) = binds S y (Node f vs)
turn_of S (Node f vs) (Node g us) = if same_label f g && as_many vs us then Goes (side_by_side vs us) else Clashes

-- The turn of two values: both are walked.
abbrev pub turn : Substitution → Value → Value → Turn
turn S a b = turn_of S (walk S a) (walk S b)

-- ## What an equation costs

-- One look behind another, which is not taken where the first has found the variable.
abbrev pub then_look : (Bool × ℕ) → (Bool × ℕ) → Bool × ℕ
then_look l r = if l.0 then l else (r.0, l.1 + r.1)

-- Whether the test of containment finds the variable x in a value, and how many nodes and links it looks at up to it, going along the resolved tree
-- of the value.
abbrev mutual
  pub looked : Value → Substitution → ℕ → Value → Value → Bool × ℕ
  looked tree S x v (Var y) = (eqb y x, links S v + 1)
  looked (Node g ts) S x v (Node f vs) = let l = all_looked ts S x vs in (l.0, links S v + 1 + l.1)
  looked (Var z) S x v (Node f vs) = (false, 0)

  pub all_looked : Values → Substitution → ℕ → Values → Bool × ℕ
  all_looked (More t ts) S x (More v vs) = then_look (looked t S x v (walk S v)) (all_looked ts S x vs)
  all_looked ts S x vs = (false, 0)

-- The nodes and links that the test of containment looks at.
abbrev pub looks : Substitution → ℕ → Value → ℕ
looks S x v = (looked (resolved S v) S x v (walk S v)).1

-- Those of the test for two walked values, where one is needed.
abbrev pub looks_of : Substitution → Value → Value → ℕ
looks_of S (Var x) (Node g us) = looks S x (Node g us)
looks_of S (Node f vs) (Var y) = looks S y (Node f vs)
looks_of S v u = 0

-- The count of an equation: two, the links of the two walks, and what the test of containment looks at.
abbrev pub cost : Substitution → Value → Value → ℕ
cost S a b = 2 + links S a + links S b + looks_of S (walk S a) (walk S b)

-- ## All equations

-- Whether the values can be made equal, the substitution up to a clash, and the count.
pub record Unified : Type 0 where
  pub agrees : Bool
  pub subst : Substitution
  pub count : ℕ

-- No equation is left.
abbrev pub agreed : Substitution → Unified
agreed S = record { agrees = true; subst = S; count = 0 }

-- An equation clashes.
abbrev pub clashed : Substitution → Unified
clashed S = record { agrees = false; subst = S; count = 0 }

-- What comes of it, with so much counted before.
abbrev pub counted : ℕ → Unified → Unified
counted c u = record u { count = c + u.count }

-- The same, where it has ended.
abbrev pub charged : ℕ → Option Unified → Option Unified
charged c None = None
charged c (Some u) = Some (counted c u)

-- How it goes on behind a turn, with these equations left.
abbrev pub after_turn : (Substitution → Equations → Option Unified) → Substitution → Equations → Turn → Option Unified
after_turn go S rest (Goes parts) = go S (parts ++ rest)
after_turn go S rest (Binds x v) = go ((x, v) ∷ S) rest
after_turn go S rest Clashes = Some (clashed S)

-- One equation after another, in at most n turns.
abbrev pub turns : ℕ → Substitution → Equations → Option Unified
turns zero S es = None
turns (suc n) S [] = Some (agreed S)
turns (suc n) S (e ∷ es) = charged (cost S e.0 e.1) (after_turn (turns n) S es (turn S e.0 e.1))

-- ## How many turns are enough

-- The nodes of a value.
abbrev mutual
  pub size : Value → ℕ
  size (Var y) = 1
  size (Node f vs) = sizes vs + 1

  pub sizes : Values → ℕ
  sizes NoMore = 0
  sizes (More v vs) = size v + sizes vs

-- The nodes of all these values, resolved.
abbrev pub weight : Substitution → Equations → ℕ
weight S [] = 0
weight S (e ∷ es) = size (resolved S e.0) + size (resolved S e.1) + weight S es

-- A number above each variable of a value.
abbrev mutual
  pub top : Value → ℕ
  top (Var y) = suc y
  top (Node f vs) = tops vs

  pub tops : Values → ℕ
  tops NoMore = 0
  tops (More v vs) = max (top v) (tops vs)

-- A number above each variable of a substitution.
abbrev pub top_of_pairs : Substitution → ℕ
top_of_pairs [] = 0
top_of_pairs (p ∷ S) = max (suc p.0) (max (top p.1) (top_of_pairs S))

-- A number above each variable of some equations.
abbrev pub top_of_equations : Equations → ℕ
top_of_equations [] = 0
top_of_equations (e ∷ es) = max (max (top e.0) (top e.1)) (top_of_equations es)

-- Enough turns where at most k variables are unbound and the values have at most m nodes: a binding may square them.
abbrev pub turns_for : ℕ → ℕ → ℕ
turns_for zero m = suc m
turns_for (suc k) m = suc (m + turns_for k (m * m))

-- Enough turns for these equations.
abbrev pub enough : Substitution → Equations → ℕ
enough S es = turns_for (max (top_of_pairs S) (top_of_equations es)) (weight S es)

-- ## Unification

-- What came of it; without an end it would be a clash.
abbrev pub ended : Substitution → Option Unified → Unified
ended S None = clashed S
ended S (Some u) = u

-- Equations in order, each under what the earlier ones have bound.
unfoldable pub solve : Substitution → Equations → Unified
solve S es = ended S (turns (enough S es) S es)
