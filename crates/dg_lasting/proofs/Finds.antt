-- What is found in the world.
use Rattle.std.proofs.Common.{◌≡◌, ℕ, suc, ◌+◌, ◌-◌, ◌<◌, ◌≤◌, List, [], ◌∷◌, Bool, true, false, Option, Some, None, refl, ap, ◌∙◌, subst, arith, length}
use Rattle.std.specs.Prelude.{if◌then◌else◌}
use Rattle.std.specs.List.{All}
use Rattle.std.specs.Option.{option_map}
use Rattle.std.proofs.lemmas.List.Elements.{All-head, All-tail}
use Rattle.dg_base.specs.declared.cells.Cell.{Cell}
use Rattle.dg_base.specs.declared.cells.Simple.{Simple}
use Rattle.dg_base.specs.declared.cells.Simple.TheVariants as simple
use Rattle.dg_meaning.specs.Copies.{vars_in, copy_from, copy_cells}
use Rattle.dg_meaning.specs.Facts.{Fact, is_at, value_at}
use Rattle.dg_meaning.specs.Moves.{behind_copy, numbers}
use Rattle.dg_meaning.specs.Path.{Registers}
use Rattle.dg_meaning.specs.ValueCells.{cells_of}
use Rattle.dg_meaning.specs.Values.{Value}
use Rattle.dg_lists.specs.Formed.{IsFormed}
use Rattle.dg_world.specs.Tables.{simple_value}
use Rattle.dg_lasting.specs.Finding.{counted}

-- ## Objects

-- all of them
pub numbers_counted : {A : Type 0} (n : ℕ) (xs : List A) → numbers n xs ≡ counted n (length xs)
numbers_counted n [] = refl
numbers_counted n (x ∷ xs) = ap (λ l. n ∷ l) (numbers_counted (suc n) xs)

-- the first of some, and those behind it
pub counted_first : (from end : ℕ) → from < end → counted from (end - from) ≡ from ∷ counted (from + 1) (end - (from + 1))
counted_first from end lt =
    let more : end - from ≡ suc (end - (from + 1)) = omega (arith, lt) in
    let next : suc from ≡ from + 1 = omega arith in
    ap (counted from) more ∙ ap (λ n. from ∷ counted n (end - (from + 1))) next

pub counted_none : (from end : ℕ) → end ≤ from → counted from (end - from) ≡ []
counted_none from end le = let none : end - from ≡ 0 = omega (arith, le) in ap (counted from) none

-- ## Values without parts

pub no_copy : (v : Simple) → (vars_in (simple_value v) ≡ 0) × (copy_cells (simple_value v) ≡ 0)
no_copy (simple.Num n) = (refl, omega arith)
no_copy (simple.Word n) = (refl, omega arith)
no_copy (simple.Object n) = (refl, omega arith)
no_copy simple.Nil = (refl, omega arith)

pub same_copy : (n : ℕ) (v : Simple) → copy_from n (simple_value v) ≡ simple_value v
same_copy n (simple.Num k) = refl
same_copy n (simple.Word k) = refl
same_copy n (simple.Object k) = refl
same_copy n simple.Nil = refl

pub behind_simple : (v : Simple) (r : Registers) → behind_copy (simple_value v) r ≡ r
behind_simple v r =
    let vars : r.next_var + vars_in (simple_value v) ≡ r.next_var = omega (arith, (no_copy v).0) in
    let heap : r.heap + copy_cells (simple_value v) ≡ r.heap = omega (arith, (no_copy v).1) in
    ap (λ n. record r { next_var = n; heap = r.heap + copy_cells (simple_value v) }) vars ∙ ap (λ n. record r { heap = n }) heap

-- ## Global variables

-- the value of a global variable, of which these are the cells
pub record KeptAs (fact : Option Value) (cells : List Cell) : Type 0 where
  pub v : Value
  pub is : fact ≡ Some v
  pub cells_are : cells ≡ cells_of v
  pub formed : IsFormed v

if_formed : (b : Bool) (v u : Value) (rest : Option Value) → (if b then Some u else rest) ≡ Some v → IsFormed u → (rest ≡ Some v → IsFormed v) → IsFormed v
if_formed true v u rest e h k = subst IsFormed (let same : u ≡ v = cc in same) h
if_formed false v u rest e h k = k e

pub value_formed : (facts : List Fact) (place object : ℕ) (v : Value) → All (λ (fact : Fact). IsFormed fact.value) facts → value_at facts place object ≡ Some v → IsFormed v
value_formed [] place object v h e = absurd (let no : None ≡ Some v = e in cc)
value_formed (fact ∷ facts) place object v h e =
    if_formed (is_at place object fact) v fact.value (value_at facts place object) e (All-head (λ (f : Fact). IsFormed f.value) fact facts h)
    (value_formed facts place object v (All-tail (λ (f : Fact). IsFormed f.value) fact facts h))

pub kept_as : (fact : Option Value) (cells : List Cell) → Some cells ≡ option_map cells_of fact → ((v : Value) → fact ≡ Some v → IsFormed v) → KeptAs fact cells
kept_as None cells e h = absurd (let no : Some cells ≡ None = e in cc)
kept_as (Some v) cells e h = record { v = v; is = refl; cells_are = (let same : cells ≡ cells_of v = cc in same); formed = h v refl }

pub kept_none : (fact : Option Value) → None ≡ option_map cells_of fact → fact ≡ None
kept_none None e = refl
kept_none (Some v) e = absurd (let no : None ≡ Some (cells_of v) = e in cc)
