-- Worked unifications, by computation from the definitions.
use Rattle.std.proofs.Common.{◌≡◌, [], ◌∷◌, refl, true, false}
use Rattle.dg_meaning.specs.Values.{Num, Word, Unknown, Nil, Closure, Var, Node, NoMore, More, leaf, pair}
use Rattle.dg_meaning.specs.Unify.{solve}
use Rattle.dg_meaning.specs.inside.Unify.{unify}

-- [$0 | $1] and [1 | $0]: two bindings; the younger variable is bound to what the older one is bound to
two_bindings : unify [] (pair (Var 0) (Var 1)) (pair (leaf (Num 1)) (Var 0)) ≡ record { agrees = true; subst = (1, leaf (Num 1)) ∷ (0, leaf (Num 1)) ∷ []; count = 9 }
unfolding solve
two_bindings = refl

-- two unbound variables: the younger is bound to the older, on whichever side it stands
younger_to_older : unify [] (Var 4) (Var 7) ≡ record { agrees = true; subst = (7, Var 4) ∷ []; count = 2 }
unfolding solve
younger_to_older = refl

younger_on_the_left : unify [] (Var 7) (Var 4) ≡ record { agrees = true; subst = (7, Var 4) ∷ []; count = 2 }
unfolding solve
younger_on_the_left = refl

-- $0 and [a | $0]: it would contain itself
contains_itself : unify [] (Var 0) (pair (leaf (Word 3)) (Var 0)) ≡ record { agrees = false; subst = []; count = 5 }
unfolding solve
contains_itself = refl

-- what was bound before a clash stands
clash_behind_a_binding : unify [] (pair (Var 0) (leaf (Num 2))) (pair (leaf (Num 1)) (leaf Nil)) ≡ record { agrees = false; subst = (0, leaf (Num 1)) ∷ []; count = 7 }
unfolding solve
clash_behind_a_binding = refl

-- closures of one place, and of two
closures : unify [] (Node (Closure 5) (More (Var 0) (More (leaf (Unknown (120 ∷ []))) NoMore))) (Node (Closure 5) (More (leaf (Word 1)) (More (leaf (Unknown (120 ∷ []))) NoMore))) ≡ record { agrees = true; subst = (0, leaf (Word 1)) ∷ []; count = 7 }
unfolding solve
closures = refl

other_closure : unify [] (Node (Closure 5) NoMore) (Node (Closure 6) NoMore) ≡ record { agrees = false; subst = []; count = 2 }
unfolding solve
other_closure = refl
