-- What variables the terms of a head stand for in a rule whose own are new.
use Rattle.std.proofs.Common.{◌≡◌, ℕ, zero, suc, ◌+◌, ◌<◌, ◌≤◌, Bool, true, false, List, [], ◌∷◌, ◌++◌, Option, Some, None, map, refl, sym, subst, arith}
use Rattle.std.specs.Prelude.{nat_lt, ◌&&◌, if◌then◌else◌}
use Rattle.std.specs.List.{slice_get}
use Rattle.dg_base.specs.declared.program.ClosureBody.{ClosureBody}
use Rattle.dg_base.specs.declared.program.CoreProgram.{CoreProgram}
use Rattle.dg_base.specs.declared.program.Term.{Term, Pair', Row_of-Term, end_of-Term, more_of-Term, out-Term}
use Rattle.dg_base.specs.declared.program.Term.TheOpen as term
use Rattle.dg_base.specs.Terms.{nodes, row_nodes}
use Rattle.dg_meaning.specs.Moves.{new_vars}
use Rattle.dg_meaning.specs.Unify.{top, tops}
use Rattle.dg_meaning.specs.Values.{Num, Word, Object, Nil, Value, node_parts, value_of_var, captured_values, value_of_leaf, value_of, value_of_row}
use Rattle.dg_rt.specs.Taking.{Ascends, a_variable, a_simple, a_pair}
use Rattle.dg_rt.proofs.Fresh.{ascends_wider}
use Rattle.dg_turn.specs.Terms.{captured_of, AreCaptured, IsNode, AreNodes}
use Rattle.dg_turn.specs.Turns.{above_node, above, is_new, are_new}

-- ## Numbers above nodes

node_more : (n : ℕ) (x : term.Term-F Term) → n ≤ above_node n x
node_more n (term.Var v) = omega arith
node_more n (term.Closure c) = omega arith
node_more n other = omega arith

pub above_more : (n : ℕ) (xs : List Term) → n ≤ above n xs
above_more n [] = omega arith
above_more n (x ∷ xs) = omega (arith, node_more n (out-Term x), above_more (above_node n (out-Term x)) xs)

above_append : (n : ℕ) (xs ys : List Term) → above n (xs ++ ys) ≡ above (above n xs) ys
above_append n [] ys = refl
above_append n (x ∷ xs) ys = above_append (above_node n (out-Term x)) xs ys

and_left : (a b : Bool) → (a && b) ≡ true → a ≡ true
and_left true b h = refl
and_left false b h = h

and_right : (a b : Bool) → (a && b) ≡ true → b ≡ true
and_right true b h = h
and_right false b h = absurd (cc h)

new_left : (n : ℕ) (xs ys : List Term) → are_new n (xs ++ ys) ≡ true → are_new n xs ≡ true
new_left n [] ys h = refl
new_left n (x ∷ xs) ys h =
    let k = above_node n (out-Term x) in
    let a = and_left (is_new n (out-Term x)) (are_new k (xs ++ ys)) h in
    let b = new_left k xs ys (and_right (is_new n (out-Term x)) (are_new k (xs ++ ys)) h) in
    rw (a, b) refl

new_right : (n : ℕ) (xs ys : List Term) → are_new n (xs ++ ys) ≡ true → are_new (above n xs) ys ≡ true
new_right n [] ys h = h
new_right n (x ∷ xs) ys h = let k = above_node n (out-Term x) in new_right k xs ys (and_right (is_new n (out-Term x)) (are_new k (xs ++ ys)) h)

-- ## Variables of a rule

new_top : (k b v : ℕ) → top (value_of_var (new_vars k b) v) ≤ b + suc v
new_top zero b v = omega arith
new_top (suc k) b zero = omega arith
new_top (suc k) b (suc v) = omega (arith, new_top k (suc b) v)

new_ascends : (k b v low high : ℕ) → low ≤ b + v → b + v < high → Ascends low (value_of_var (new_vars k b) v) high
new_ascends zero b v low high le lt = a_simple low high Nil refl (omega arith)
new_ascends (suc k) b zero low high le lt = a_variable low b high (omega arith) (omega arith)
new_ascends (suc k) b (suc v) low high le lt = new_ascends k (suc b) v low high (omega arith) (omega arith)

not_below : (v n : ℕ) → (if nat_lt v n then false else true) ≡ true → n ≤ v
not_below v n h = grind (arith, h)

pub left_nodes : (p : CoreProgram) (xs ys : List Term) → AreNodes p (xs ++ ys) → AreNodes p xs
left_nodes p [] ys h = tt
left_nodes p (x ∷ xs) ys h = (h.0, left_nodes p xs ys h.1)

pub right_nodes : (p : CoreProgram) (xs ys : List Term) → AreNodes p (xs ++ ys) → AreNodes p ys
right_nodes p [] ys h = h
right_nodes p (x ∷ xs) ys h = right_nodes p xs ys h.1

-- ## Terms

module _ (p : CoreProgram) (vars b : ℕ) where
  abbrev env : List Value
  env = new_vars vars b

  captured_top : (vs : List ℕ) → AreCaptured vs → tops (node_parts (map (value_of_var env) vs)) ≤ b + 128
  captured_top [] are = omega arith
  captured_top (v ∷ vs) are = let lt = are.0 in omega (arith, new_top vars b v, captured_top vs are.1)

  parts_top : (o : Option ClosureBody) → AreCaptured (captured_of o) → tops (captured_values env o) ≤ b + 128
  parts_top None are = omega arith
  parts_top (Some closure) are = captured_top closure.captured are

  leaf_top : (n : ℕ) (x : term.Term-F Term) → IsNode p x → top (value_of_leaf p env x) ≤ b + above_node n x
  leaf_top n (term.Var v) is = omega (arith, new_top vars b v)
  leaf_top n (term.Closure c) is = omega (arith, parts_top (slice_get p.closures c) is.2)
  leaf_top n other is = omega arith

  leaf_new : (n : ℕ) (x : term.Term-F Term) → is_new n x ≡ true → Ascends (b + n) (value_of_leaf p env x) (b + above_node n x)
  leaf_new n (term.Var v) h = let le = not_below v n h in new_ascends vars b v (b + n) (b + above_node n (term.Var v)) (omega arith) (omega arith)
  leaf_new n (term.Num i) h = a_simple (b + n) (b + n) (Num i) refl (omega arith)
  leaf_new n (term.Word i) h = a_simple (b + n) (b + n) (Word i) refl (omega arith)
  leaf_new n (term.Object i) h = a_simple (b + n) (b + n) (Object i) refl (omega arith)
  leaf_new n term.Nil h = a_simple (b + n) (b + n) Nil refl (omega arith)
  leaf_new n (term.Pair head tail) h = a_simple (b + n) (b + n) Nil refl (omega arith)
  leaf_new n (term.Closure c) h = absurd (cc h)

  -- all variables of a term's value are below what its nodes say
  mutual
    unfolding out-Term denote.Hole.Carrier.out

    pub term_top : (n : ℕ) (x : Term) → AreNodes p (nodes x) → top (value_of p env x) ≤ b + above n (nodes x)
    term_top n (Pair' s head t tail) are =
        let hs = row_nodes head in
        let ts = row_nodes tail in
        let one = row_top n head (left_nodes p hs ts are.1) in
        let two = row_top (above n hs) tail (right_nodes p hs ts are.1) in
        let more = above_more (above n hs) ts in
        let sum = above_append n hs ts in
        omega arith
    term_top n other are = leaf_top n (out-Term other) are.0

    row_top : {m : _} → (n : ℕ) (x : Row_of-Term m) → AreNodes p (row_nodes x) → top (value_of_row p env x) ≤ b + above n (row_nodes x)
    row_top n end_of-Term are = omega arith
    row_top n (more_of-Term inner others) are =
        let one = term_top n inner (left_nodes p (nodes inner) (row_nodes others) are) in
        let more = above_more (above n (nodes inner)) (row_nodes others) in
        let sum = above_append n (nodes inner) (row_nodes others) in
        omega arith

  -- the value of a term whose variables are new has variables that ascend
  mutual
    unfolding out-Term denote.Hole.Carrier.out

    pub term_new : (n : ℕ) (x : Term) → are_new n (nodes x) ≡ true → Ascends (b + n) (value_of p env x) (b + above n (nodes x))
    term_new n (Pair' s head t tail) h =
        let hs = row_nodes head in
        let ts = row_nodes tail in
        let one = row_new n head (new_left n hs ts h) in
        let two = row_new (above n hs) tail (new_right n hs ts h) in
        subst (λ (k : ℕ). Ascends (b + n) (value_of p env (Pair' s head t tail)) (b + k)) (sym (above_append n hs ts))
        (a_pair (b + n) (b + above n hs) (b + above (above n hs) ts) one two)
    term_new n other h = leaf_new n (out-Term other) (and_left (is_new n (out-Term other)) true h)

    row_new : {m : _} → (n : ℕ) (x : Row_of-Term m) → are_new n (row_nodes x) ≡ true → Ascends (b + n) (value_of_row p env x) (b + above n (row_nodes x))
    row_new n end_of-Term h = a_simple (b + n) (b + n) Nil refl (omega arith)
    row_new n (more_of-Term inner others) h =
        let one = term_new n inner (new_left n (nodes inner) (row_nodes others) h) in
        let more = above_more (above n (nodes inner)) (row_nodes others) in
        let sum = above_append n (nodes inner) (row_nodes others) in
        ascends_wider (b + n) (b + above n (row_nodes (more_of-Term inner others))) (omega arith) (omega arith) one
