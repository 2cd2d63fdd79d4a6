-- Where the bindings of a store lead. Hold it against dg_meaning/specs/Substitutions.antt.
use Rattle.std.specs.Prelude.{◌≡◌, ℕ, ◌<◌, Option, Some, None, reverse}
use Rattle.dg_meaning.specs.Values.{Value}
use Rattle.dg_meaning.specs.Substitutions.{Substitution, walk, links}
use Rattle.dg_meaning.specs.inside.Substitutions.{FitsFront}
use Rattle.dg_unify.specs.Store.{or_nil, IsTold}
use Rattle.dg_unify.specs.Slots.{value_in, subst_of, Fields}
use Rattle.dg_unify.specs.declared.bindings.Ref.{Ref}

-- What is bound.
abbrev pub subst_in : Fields → Substitution
subst_in f = subst_of f.slots (reverse f.log)

-- There is a value at a Ref.
abbrev pub TellsOf : Fields → Ref → Type 0
TellsOf f r = IsTold (value_in f.slots r.0)

-- The value at a Ref.
abbrev pub told_in : Fields → Ref → Value
told_in f r = or_nil (value_in f.slots r.0)

-- The value is no bound variable.
abbrev pub IsEnd : Fields → Ref → Type 0
IsEnd f r = walk (subst_in f) (told_in f r) ≡ told_in f r

-- A bound variable leads to a value that is one link nearer to the end.
pub record LeadsTo (f : Fields) (r next : Ref) : Type 0 where
  pub told : TellsOf f next
  pub same : walk (subst_in f) (told_in f r) ≡ walk (subst_in f) (told_in f next)
  pub nearer : links (subst_in f) (told_in f next) < links (subst_in f) (told_in f r)

-- Where a value leads, if it is a bound variable.
abbrev pub Leads : Fields → Ref → Option Ref → Type 0
Leads f r None = IsEnd f r
Leads f r (Some next) = LeadsTo f r next

-- The end to which a value leads.
pub record EndsAt (f : Fields) (r end : Ref) : Type 0 where
  pub told : TellsOf f end
  pub end_is : IsEnd f end
  pub is : told_in f end ≡ walk (subst_in f) (told_in f r)

-- A variable may be bound to an end.
pub record MayLink (f : Fields) (x : ℕ) (to : Ref) : Type 0 where
  pub within : x < f.vars
  pub told : TellsOf f to
  pub end_is : IsEnd f to
  pub fits : FitsFront x (told_in f to) (subst_in f)
