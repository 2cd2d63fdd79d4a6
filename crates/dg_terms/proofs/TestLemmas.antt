-- Whether a variable stands in a value, and the tests of what stands at its top.
use Rattle.std.proofs.Common.{◌≡◌, Bool, true, false, refl, None}
use Rattle.std.specs.Prelude.{◌&&◌, ◌||◌, not}
use Rattle.dg_base.specs.declared.program.TestKind.{TestKind}
use Rattle.dg_base.specs.declared.program.TestKind.TheVariants as test
use Rattle.dg_meaning.specs.Values.{Value, Var, Node, Values, NoMore, More}
use Rattle.dg_meaning.specs.Substitutions.{Substitution, walk}
use Rattle.dg_meaning.specs.TypeTests.{is_fully_bound, are_fully_bound, top_passes, passes}
use Rattle.dg_unify.specs.Finds.{finds, any_finds}

first_full : (p q a b : Bool) → not p ≡ a → not q ≡ b → not (p || q) ≡ (a && b)
first_full true q a b h k = rw (← h) refl
first_full false q a b h k = rw (← h) k

mutual
  pub full_value : (v : Value) → not (finds None v) ≡ is_fully_bound v
  full_value (Var y) = refl
  full_value (Node f vs) = full_values vs

  full_values : (vs : Values) → not (any_finds None vs) ≡ are_fully_bound vs
  full_values NoMore = refl
  full_values (More v vs) = let a = full_value v in let b = full_values vs in first_full (finds None v) (any_finds None vs) (is_fully_bound v) (are_fully_bound vs) a b

pub passes_top : (S : Substitution) (kind : TestKind) (v : Value) → (kind ≡ test.FullyBound → ⊥) → passes S kind v ≡ top_passes kind (walk S v)
passes_top S test.Number v h = refl
passes_top S test.Word v h = refl
passes_top S test.UnknownWord v h = refl
passes_top S test.List v h = refl
passes_top S test.Empty v h = refl
passes_top S test.NonEmpty v h = refl
passes_top S test.Bound v h = refl
passes_top S test.Unbound v h = refl
passes_top S test.FullyBound v h = absurd (h refl)
