-- Values that are numbers, and those that are none.
use Rattle.std.proofs.Common.{◌≡◌, ℕ, ◌<◌, false, Option, None, refl}
use Rattle.dg_base.specs.declared.program.CompareOp.{CompareOp}
use Rattle.dg_meaning.specs.Values.{Num, Word, Unknown, Object, Nil, Pair, Closure, Value, Var, Node, Values}
use Rattle.dg_meaning.specs.Numbers.{of_numbers, are_in_order}
use Rattle.dg_rt.specs.Operands.{no_value, number_word, FitsStory}

-- Of a value that is no number nothing is made, and it stands in no order.
pub record IsNone (v : Value) : Type 0 where
  pub word : number_word v ≡ no_value
  pub order_left : (op : CompareOp) (u : Value) → are_in_order op v u ≡ false
  pub order_right : (op : CompareOp) (m : ℕ) (ms : Values) → are_in_order op (Node (Num m) ms) v ≡ false
  pub left : (g : ℕ → ℕ → Option ℕ) (u : Value) → of_numbers g v u ≡ None
  pub right : (g : ℕ → ℕ → Option ℕ) (m : ℕ) (ms : Values) → of_numbers g (Node (Num m) ms) v ≡ None

pub data Kind : Value → Type 0 where
  is_number : (n : ℕ) (parts : Values) → n < 16384 → Kind (Node (Num n) parts)
  is_none : {v : Value} → IsNone v → Kind v

pub kind_of : (v : Value) → FitsStory v → Kind v
kind_of (Var x) fits = is_none (record { word = refl; order_left = λ op u. refl; order_right = λ op m ms. refl; left = λ g u. refl; right = λ g m ms. refl })
kind_of (Node (Num n) parts) fits = is_number n parts fits
kind_of (Node (Word n) parts) fits = is_none (record { word = refl; order_left = λ op u. refl; order_right = λ op m ms. refl; left = λ g u. refl; right = λ g m ms. refl })
kind_of (Node (Unknown spelling) parts) fits = is_none (record { word = refl; order_left = λ op u. refl; order_right = λ op m ms. refl; left = λ g u. refl; right = λ g m ms. refl })
kind_of (Node (Object n) parts) fits = is_none (record { word = refl; order_left = λ op u. refl; order_right = λ op m ms. refl; left = λ g u. refl; right = λ g m ms. refl })
kind_of (Node Nil parts) fits = is_none (record { word = refl; order_left = λ op u. refl; order_right = λ op m ms. refl; left = λ g u. refl; right = λ g m ms. refl })
kind_of (Node Pair parts) fits = is_none (record { word = refl; order_left = λ op u. refl; order_right = λ op m ms. refl; left = λ g u. refl; right = λ g m ms. refl })
kind_of (Node (Closure place) parts) fits = is_none (record { word = refl; order_left = λ op u. refl; order_right = λ op m ms. refl; left = λ g u. refl; right = λ g m ms. refl })
