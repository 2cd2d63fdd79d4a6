-- How two values that were looked up compare. Hold it against docs/LANGUAGE.md, "Built-in queries".
use Rattle.std.specs.Prelude.{Bool, false}
use Rattle.dg_base.specs.declared.cells.Simple.TheVariants as simple
use Rattle.dg_base.specs.declared.program.CompareOp.{CompareOp}
use Rattle.dg_meaning.specs.Numbers.{in_order}
use Rattle.dg_unify.specs.declared.bindings.View.{View}
use Rattle.dg_unify.specs.declared.bindings.View.TheVariants as view

-- What is shown are numbers in an order.
abbrev pub order_of : CompareOp → View → View → Bool
order_of op (view.Simple (simple.Num m)) (view.Simple (simple.Num n)) = in_order op m n
order_of op v u = false
