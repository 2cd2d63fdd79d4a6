-- How two values compare, as a store shows them.
use Rattle.std.proofs.Common.{◌≡◌, ℕ, sym, ap, ◌∙◌}
use Rattle.dg_base.specs.declared.cells.Simple.TheVariants as simple
use Rattle.dg_base.specs.declared.program.CompareOp.{CompareOp}
use Rattle.dg_meaning.specs.Values.{Value, Num, leaf}
use Rattle.dg_meaning.specs.Numbers.{are_in_order}
use Rattle.dg_unify.specs.Store.{Store, Shows}
use Rattle.dg_unify.specs.declared.bindings.View.{View}
use Rattle.dg_unify.specs.declared.bindings.View.TheVariants as view
use Rattle.dg_terms.specs.inside.Comparing.{order_of}

order_with : (op : CompareOp) (s : Store) (m : ℕ) (u : Value) (second : View) → Shows s u second → order_of op (view.Simple (simple.Num m)) second ≡ are_in_order op (leaf (Num m)) u
order_with op s m u (view.Unbound r) h = ap (are_in_order op (leaf (Num m))) (sym h.is)
order_with op s m u (view.Simple (simple.Num n)) h = ap (are_in_order op (leaf (Num m))) (sym h)
order_with op s m u (view.Simple (simple.Word n)) h = ap (are_in_order op (leaf (Num m))) (sym h)
order_with op s m u (view.Simple (simple.Object n)) h = ap (are_in_order op (leaf (Num m))) (sym h)
order_with op s m u (view.Simple simple.Nil) h = ap (are_in_order op (leaf (Num m))) (sym h)
order_with op s m u (view.Pair a b) h = ap (are_in_order op (leaf (Num m))) (sym h.is)
order_with op s m u (view.Closure place r) h = ap (are_in_order op (leaf (Num m))) (sym h.is)
order_with op s m u (view.Unknown r) h = ap (are_in_order op (leaf (Num m))) (sym h.is)

pub order_shown : (op : CompareOp) (s : Store) (v u : Value) (first second : View) → Shows s v first → Shows s u second → order_of op first second ≡ are_in_order op v u
order_shown op s v u (view.Unbound r) second h k = ap (λ x. are_in_order op x u) (sym h.is)
order_shown op s v u (view.Simple (simple.Num m)) second h k = order_with op s m u second k ∙ ap (λ x. are_in_order op x u) (sym h)
order_shown op s v u (view.Simple (simple.Word n)) second h k = ap (λ x. are_in_order op x u) (sym h)
order_shown op s v u (view.Simple (simple.Object n)) second h k = ap (λ x. are_in_order op x u) (sym h)
order_shown op s v u (view.Simple simple.Nil) second h k = ap (λ x. are_in_order op x u) (sym h)
order_shown op s v u (view.Pair a b) second h k = ap (λ x. are_in_order op x u) (sym h.is)
order_shown op s v u (view.Closure place r) second h k = ap (λ x. are_in_order op x u) (sym h.is)
order_shown op s v u (view.Unknown r) second h k = ap (λ x. are_in_order op x u) (sym h.is)
