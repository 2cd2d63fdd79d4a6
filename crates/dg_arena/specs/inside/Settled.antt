-- What two values come to that are no bound variables. Hold it against dg_meaning/specs/Unify.antt.
use Rattle.std.specs.Prelude.{◌≡◌, ◌&&◌, Bool, true, false}
use Rattle.dg_meaning.specs.Values.{Label, Node, Values}
use Rattle.dg_meaning.specs.Unify.{same_label, as_many}
use Rattle.dg_unify.specs.Slots.{Fields}
use Rattle.dg_unify.specs.inside.Ends.{told_in}
use Rattle.dg_unify.specs.declared.bindings.Ref.{Ref}

-- Neither is a variable, and they differ in their labels or in how many parts they have.
pub record Clash (f : Fields) (a b : Ref) : Type 0 where
  pub left : Label
  pub parts : Values
  pub right : Label
  pub others : Values
  pub left_is : told_in f a ≡ Node left parts
  pub right_is : told_in f b ≡ Node right others
  pub differ : (same_label left right && as_many parts others) ≡ false

-- Two values are the same, or they clash.
abbrev pub Settles : Fields → Ref → Ref → Bool → Type 0
Settles f a b true = told_in f a ≡ told_in f b
Settles f a b false = Clash f a b
