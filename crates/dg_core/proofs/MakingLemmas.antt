-- What is left is taken apart, and makes the same.
use Rattle.std.proofs.Common.{◌≡◌, ◌+◌, ◌*◌, ◌<◌, ℕ, List, [], ◌∷◌, ◌++◌, Some, None, Option, Bor, length, map, reverse, refl, sym, ◌∙◌, ap, arith, append_assoc}
use Rattle.std.specs.Option.{option_map}
use Rattle.std.specs.Prelude.{slice_get}
use Rattle.std.proofs.lemmas.List.{reverse-append, map-append, length-map}
use Rattle.dg_base.specs.Tree.{values_of}
use Rattle.dg_base.specs.TreeView.{value_view, body_view, list_view}
use Rattle.dg_base.specs.declared.tree.Value
use Rattle.dg_base.proofs.Views.{plain_list_seen, tailed_list_seen, closure_seen}
use Rattle.dg_base.specs.Walk.{value_size, values_size}
use Rattle.dg_base.specs.declared.program.Term.{Term}
use Rattle.dg_base.specs.declared.tree.Value.{Value}
use Rattle.dg_base.specs.Tree as tree
use Rattle.dg_base.specs.declared.program.Term.TheVariants as term
use Rattle.dg_base.specs.declared.tree.Body.{Body}
use Rattle.dg_core.specs.Bodies.{Closed, joined_closures, direct, in_value, in_values}
use Rattle.dg_core.specs.Goals.{Scope, at, past, closure_of, term_of, listed}
use Rattle.dg_core.specs.inside.View.{terms_made}
use Rattle.dg_core.proofs.BodyLemmas.{past_none, past_past, found_past, found_join, found_none, join_none, join_join}
use Rattle.dg_core.specs.inside.Making.{Terms, bodies_view, with_term, in_tail, listed_tail, last_term, tail_of, tail_weight, term_behind, terms_behind, term_weight, terms_weight, Made, goal_behind, goals_behind, goal_weight, goals_weight, Takes, ComesTo}
use Rattle.dg_core.specs.declared.terms.TermWork.{TermWork}
use Rattle.dg_core.specs.declared.goals.GoalWork.{GoalWork}

pub reverse_push : {A : Type 0} (xs : List A) (x : A) → reverse (xs ++ x ∷ []) ≡ x ∷ reverse xs
reverse_push xs x = reverse-append xs (x ∷ [])

-- one push behind another
pub push_two : {A : Type 0} (old a b : List A) (x y : A) → a ≡ old ++ x ∷ [] → b ≡ a ++ y ∷ [] → b ≡ old ++ x ∷ y ∷ []
push_two old a b x y e f = f ∙ ap (λ l. l ++ y ∷ []) e ∙ append_assoc old (x ∷ []) (y ∷ [])

pub push_three : {A : Type 0} (old a b c : List A) (x y z : A) → a ≡ old ++ x ∷ [] → b ≡ a ++ y ∷ [] → c ≡ b ++ z ∷ [] → c ≡ old ++ x ∷ y ∷ z ∷ []
push_three old a b c x y z e f g = g ∙ ap (λ l. l ++ z ∷ []) (push_two old a b x y e f) ∙ append_assoc old (x ∷ y ∷ []) (z ∷ [])

pub push_four : {A : Type 0} (old a b c d : List A) (x y z w : A) → a ≡ old ++ x ∷ [] → b ≡ a ++ y ∷ [] → c ≡ b ++ z ∷ [] → d ≡ c ++ w ∷ [] → d ≡ old ++ x ∷ y ∷ z ∷ w ∷ []
push_four old a b c d x y z w e f g h = h ∙ ap (λ l. l ++ w ∷ []) (push_three old a b c x y z e f g) ∙ append_assoc old (x ∷ y ∷ z ∷ []) (w ∷ [])

-- ---- terms

terms_append : (scope : Scope) (ws vs : List TermWork) (m : Terms) → terms_behind scope (ws ++ vs) m ≡ terms_behind scope ws (terms_behind scope vs m)
terms_append scope [] vs m = refl
terms_append scope (w ∷ ws) vs m = ap (term_behind scope w) (terms_append scope ws vs m)

terms_weigh : (ws vs : List TermWork) → terms_weight (ws ++ vs) ≡ terms_weight ws + terms_weight vs
terms_weigh [] vs = omega arith
terms_weigh (w ∷ ws) vs = omega (arith, terms_weigh ws vs)

terms_comes : (scope : Scope) (old new ws : List TermWork) (w : TermWork) (m k : Terms) → new ≡ old ++ ws → terms_behind scope ws k ≡ term_behind scope w m → terms_behind scope new k ≡ terms_behind scope old (term_behind scope w m)
terms_comes scope old new ws w m k e h = ap (λ (l : List TermWork). terms_behind scope l k) e ∙ terms_append scope old ws k ∙ ap (terms_behind scope old) h

pub terms_less : (old new ws : List TermWork) (k : ℕ) → new ≡ old ++ ws → terms_weight ws < k → terms_weight new < k + terms_weight old
terms_less old new ws k e h = let is = ap terms_weight e ∙ terms_weigh old ws in omega (arith, is, h)

-- elements in front of a tail
first_made : (scope : Scope) (m : Terms) (v : tree.Value) (vs : tree.Values) (tail : Option Value) →
    (let k = at scope (length m.found) in let j = at scope (length (m.found ++ direct (in_value v))) in
    record { terms = term.Pair (term_of k v) (listed_tail j vs tail) ∷ m.terms; found = (m.found ++ direct (in_value v)) ++ direct (joined_closures (in_values vs) (in_tail tail)) })
    ≡ with_term (joined_closures (in_values (tree.value v vs)) (in_tail tail)) (listed_tail (at scope (length m.found)) (tree.value v vs) tail) m
first_made scope m v vs tail =
    let k = at scope (length m.found) in
    let rest : Scope → Scope → Term = λ i j. term.Pair (term_of k v) (listed i vs (tail_of j tail)) in
    let found = (m.found ++ direct (in_value v)) ++ direct (joined_closures (in_values vs) (in_tail tail)) in
    ap (λ (i : Scope). record { terms = rest i (past i (in_values vs)) ∷ m.terms; found = found }) (found_past scope m.found (in_value v))
    ∙ ap (λ (j : Scope). record { terms = rest (past k (in_value v)) j ∷ m.terms; found = found }) (past_past k (in_value v) (in_values vs))
    ∙ ap (λ (l : List tree.Body). record { terms = rest (past k (in_value v)) (past k (joined_closures (in_value v) (in_values vs))) ∷ m.terms; found = l })
    (found_join m.found (in_value v) (joined_closures (in_values vs) (in_tail tail)) ∙ ap (λ (c : Closed). m.found ++ direct c) (sym (join_join (in_value v) (in_values vs) (in_tail tail))))

values_make : (scope : Scope) (m : Terms) (vs : Bor (List Value)) (tail : Bor (Option Value)) (x : Bor Value) (others : Bor (List Value)) → vs.now ≡ x.now ∷ others.now → terms_behind scope (TermWork.Pair ∷ TermWork.Values others tail ∷ TermWork.Value x ∷ []) m ≡ term_behind scope (TermWork.Values vs tail) m
values_make scope m vs tail x others e =
    first_made scope m (value_view x.now) (values_of (map value_view others.now)) tail.now
    ∙ ap (λ (l : List Value). let all = values_of (map value_view l) in with_term (joined_closures (in_values all) (in_tail tail.now)) (listed_tail (at scope (length m.found)) all tail.now) m) (sym e)

values_weigh : (vs : Bor (List Value)) (tail : Bor (Option Value)) (x : Bor Value) (others : Bor (List Value)) → vs.now ≡ x.now ∷ others.now → terms_weight (TermWork.Pair ∷ TermWork.Values others tail ∷ TermWork.Value x ∷ []) < term_weight (TermWork.Values vs tail)
values_weigh vs tail x others e =
    let is = ap (λ (l : List Value). values_size (values_of (map value_view l))) e in
    omega (arith, is)

-- the tail alone
tail_makes : (scope : Scope) (m : Terms) (vs : Bor (List Value)) (tail : Bor (Option Value)) (x : Bor Value) → vs.now ≡ [] → tail.now ≡ Some x.now → terms_behind scope (TermWork.Value x ∷ []) m ≡ term_behind scope (TermWork.Values vs tail) m
tail_makes scope m vs tail x e is =
    ap (λ (s : Scope). with_term (in_value (value_view x.now)) (term_of s (value_view x.now)) m) (past_none scope (length m.found))
    ∙ ap (λ (o : Option Value). with_term (in_tail o) (listed_tail (at scope (length m.found)) tree.no_values o) m) (sym is)
    ∙ ap (λ (l : List Value). let all = values_of (map value_view l) in with_term (joined_closures (in_values all) (in_tail tail.now)) (listed_tail (at scope (length m.found)) all tail.now) m) (sym e)

tail_weighs : (vs : Bor (List Value)) (tail : Bor (Option Value)) (x : Bor Value) → vs.now ≡ [] → tail.now ≡ Some x.now → terms_weight (TermWork.Value x ∷ []) < term_weight (TermWork.Values vs tail)
tail_weighs vs tail x e is =
    let none = ap (λ (l : List Value). values_size (values_of (map value_view l))) e in
    let some = ap tail_weight is in
    omega (arith, none, some)

-- no elements and no tail
pub nothing_listed : (scope : Scope) (old : List TermWork) (m k : Terms) (vs : Bor (List Value)) (tail : Bor (Option Value)) → vs.now ≡ [] → tail.now ≡ None → k ≡ record m { terms = term.Nil ∷ m.terms } → terms_behind scope old k ≡ terms_behind scope old (term_behind scope (TermWork.Values vs tail) m)
nothing_listed scope old m k vs tail e is made =
    ap (terms_behind scope old)
    (made
    ∙ ap (λ (l : List tree.Body). record { terms = term.Nil ∷ m.terms; found = l }) (found_none m.found)
    ∙ ap (λ (o : Option Value). with_term (in_tail o) (listed_tail (at scope (length m.found)) tree.no_values o) m) (sym is)
    ∙ ap (λ (l : List Value). let all = values_of (map value_view l) in with_term (joined_closures (in_values all) (in_tail tail.now)) (listed_tail (at scope (length m.found)) all tail.now) m) (sym e))

-- a closure, whose body was found
pub closure_makes : (scope : Scope) (left : List TermWork) (terms more : List Term) (found bodies : List (Bor Body)) (v : Bor Value) (b : Bor Body) → v.now ≡ Value.Closure b.now → more ≡ terms ++ closure_of (slice_get scope.closures (length found)) ∷ [] → bodies ≡ found ++ b ∷ [] → terms_behind scope left (terms_made more bodies) ≡ terms_behind scope left (term_behind scope (TermWork.Value v) (terms_made terms found))
closure_makes scope left terms more found bodies v b is e f =
    let t : ℕ → Term = λ k. closure_of (slice_get scope.closures k) in
    let k = length found in
    ap (terms_behind scope left)
    (ap (λ (l : List Term). terms_made l bodies) e
    ∙ ap (λ (l : List (Bor Body)). terms_made (terms ++ t k ∷ []) l) f
    ∙ ap (λ (l : List Term). record { terms = l; found = bodies_view (found ++ b ∷ []) }) (reverse_push terms (t k))
    ∙ ap (λ (l : List tree.Body). record { terms = t k ∷ reverse terms; found = l }) (map-append (λ (x : Bor Body). body_view x.now) found (b ∷ []))
    ∙ ap (λ (i : ℕ). record { terms = t i ∷ reverse terms; found = bodies_view found ++ body_view b.now ∷ [] }) (sym (length-map found (λ (x : Bor Body). body_view x.now)))
    ∙ ap (λ (x : tree.Value). with_term (in_value x) (term_of (at scope (length (bodies_view found))) x) (terms_made terms found)) (sym (ap value_view is ∙ closure_seen b.now)))

pub closure_weighs : (left : List TermWork) (v : Bor Value) (b : Body) → v.now ≡ Value.Closure b → terms_weight left < term_weight (TermWork.Value v) + terms_weight left
closure_weighs left v b is = let size = ap value_size (ap value_view is ∙ closure_seen b) in omega (arith, size)

-- ---- goals

goals_append : (scope : Scope) (ws vs : List GoalWork) (m : Made) → goals_behind scope (ws ++ vs) m ≡ goals_behind scope ws (goals_behind scope vs m)
goals_append scope [] vs m = refl
goals_append scope (w ∷ ws) vs m = ap (goal_behind scope w) (goals_append scope ws vs m)

goals_weigh : (ws vs : List GoalWork) → goals_weight (ws ++ vs) ≡ goals_weight ws + goals_weight vs
goals_weigh [] vs = omega arith
goals_weigh (w ∷ ws) vs = omega (arith, goals_weigh ws vs)

pub takes : (scope : Scope) (old new ws : List GoalWork) (w : GoalWork) (before after : Made) → new ≡ old ++ ws → goals_behind scope ws after ≡ goal_behind scope w before → goals_weight ws < goal_weight w → Takes scope w old new before after
takes scope old new ws w before after e h k = record {
  behind = ap (λ (l : List GoalWork). goals_behind scope l after) e ∙ goals_append scope old ws after ∙ ap (goals_behind scope old) h;
  weight = let is = ap goals_weight e ∙ goals_weigh old ws in omega (arith, is, k);
}

pub comes : (old new ws : List GoalWork) (w : GoalWork) → new ≡ old ++ ws → ((scope : Scope) (m : Made) → goals_behind scope ws m ≡ goal_behind scope w m) → goals_weight ws < goal_weight w → ComesTo w old new
comes old new ws w e h k = record {
  behind = λ scope m. (takes scope old new ws w m m e (h scope m) k).behind;
  weight = let is = ap goals_weight e ∙ goals_weigh old ws in omega (arith, is, k);
}

-- ---- what is looked at next

pub terms_next : (scope : Scope) (old new : List TermWork) (w : TermWork) (m : Terms) → old ≡ new ++ w ∷ [] → terms_behind scope old m ≡ terms_behind scope new (term_behind scope w m)
terms_next scope old new w m e = ap (λ (l : List TermWork). terms_behind scope l m) e ∙ terms_append scope new (w ∷ []) m

pub terms_smaller : (old new after : List TermWork) (w : TermWork) → old ≡ new ++ w ∷ [] → terms_weight after < term_weight w + terms_weight new → terms_weight after < terms_weight old
terms_smaller old new after w e h = let is = ap terms_weight e ∙ terms_weigh new (w ∷ []) in omega (arith, is, h)

pub goals_next : (scope : Scope) (old new : List GoalWork) (w : GoalWork) (m : Made) → old ≡ new ++ w ∷ [] → goals_behind scope old m ≡ goals_behind scope new (goal_behind scope w m)
goals_next scope old new w m e = ap (λ (l : List GoalWork). goals_behind scope l m) e ∙ goals_append scope new (w ∷ []) m

pub goals_smaller : (old new after : List GoalWork) (w : GoalWork) → old ≡ new ++ w ∷ [] → goals_weight after < goal_weight w + goals_weight new → goals_weight after < goals_weight old
goals_smaller old new after w e h = let is = ap goals_weight e ∙ goals_weigh new (w ∷ []) in omega (arith, is, h)

-- nothing is left, and one term was made
pub one_term : (scope : Scope) (left : List TermWork) (terms : List Term) (found : List (Bor Body)) (t u : Term) (bodies : List tree.Body) → left ≡ [] → terms_behind scope left (terms_made terms found) ≡ record { terms = u ∷ []; found = bodies } → t ≡ last_term (reverse terms) → t ≡ u
one_term scope left terms found t u bodies none h e =
    e ∙ ap (λ (m : Terms). last_term m.terms) (sym (ap (λ (l : List TermWork). terms_behind scope l (terms_made terms found)) none) ∙ h)

pub one_found : (scope : Scope) (left : List TermWork) (terms : List Term) (found : List (Bor Body)) (u : Term) (bodies : List tree.Body) → left ≡ [] → terms_behind scope left (terms_made terms found) ≡ record { terms = u ∷ []; found = bodies } → bodies_view found ≡ bodies
one_found scope left terms found u bodies none h =
    ap (λ (m : Terms). m.found) (sym (ap (λ (l : List TermWork). terms_behind scope l (terms_made terms found)) none) ∙ h)

-- the tail alone, and elements in front of a tail
pub tail_comes : (scope : Scope) (old new : List TermWork) (m : Terms) (vs : Bor (List Value)) (tail : Bor (Option Value)) (x : Bor Value) → new ≡ old ++ TermWork.Value x ∷ [] → vs.now ≡ [] → tail.now ≡ Some x.now → terms_behind scope new m ≡ terms_behind scope old (term_behind scope (TermWork.Values vs tail) m)
tail_comes scope old new m vs tail x e none is = terms_comes scope old new (TermWork.Value x ∷ []) (TermWork.Values vs tail) m m e (tail_makes scope m vs tail x none is)

pub tail_less : (old new : List TermWork) (vs : Bor (List Value)) (tail : Bor (Option Value)) (x : Bor Value) → new ≡ old ++ TermWork.Value x ∷ [] → vs.now ≡ [] → tail.now ≡ Some x.now → terms_weight new < term_weight (TermWork.Values vs tail) + terms_weight old
tail_less old new vs tail x e none is = terms_less old new (TermWork.Value x ∷ []) (term_weight (TermWork.Values vs tail)) e (tail_weighs vs tail x none is)

pub first_comes : (scope : Scope) (old new : List TermWork) (m : Terms) (vs : Bor (List Value)) (tail rest : Bor (Option Value)) (x : Bor Value) (others : Bor (List Value)) → new ≡ old ++ TermWork.Pair ∷ TermWork.Values others rest ∷ TermWork.Value x ∷ [] → rest.now ≡ tail.now → vs.now ≡ x.now ∷ others.now → terms_behind scope new m ≡ terms_behind scope old (term_behind scope (TermWork.Values vs tail) m)
first_comes scope old new m vs tail rest x others e same is =
    terms_comes scope old new (TermWork.Pair ∷ TermWork.Values others rest ∷ TermWork.Value x ∷ []) (TermWork.Values vs rest) m m e (values_make scope m vs rest x others is)
    ∙ ap (λ (o : Option Value). let all = values_of (map value_view vs.now) in terms_behind scope old (with_term (joined_closures (in_values all) (in_tail o)) (listed_tail (at scope (length m.found)) all o) m)) same

pub first_less : (old new : List TermWork) (vs : Bor (List Value)) (tail rest : Bor (Option Value)) (x : Bor Value) (others : Bor (List Value)) → new ≡ old ++ TermWork.Pair ∷ TermWork.Values others rest ∷ TermWork.Value x ∷ [] → rest.now ≡ tail.now → vs.now ≡ x.now ∷ others.now → terms_weight new < term_weight (TermWork.Values vs tail) + terms_weight old
first_less old new vs tail rest x others e same is =
    let less = terms_less old new (TermWork.Pair ∷ TermWork.Values others rest ∷ TermWork.Value x ∷ []) (term_weight (TermWork.Values vs rest)) e (values_weigh vs rest x others is) in
    let weight = ap tail_weight same in
    omega (arith, less, weight)

-- ---- a list

list_is : (v : Bor Value) (vs : List Value) (tail : Option Value) → v.now ≡ Value.List vs tail → value_view v.now ≡ list_view (map value_view vs) (option_map value_view tail)
list_is v vs None e = ap value_view e ∙ plain_list_seen vs
list_is v vs (Some x) e = ap value_view e ∙ tailed_list_seen vs x

list_term : (scope : Scope) (vs : List Value) (tail : Option Value) → listed_tail scope (values_of (map value_view vs)) tail ≡ term_of scope (list_view (map value_view vs) (option_map value_view tail))
list_term scope vs None = refl
list_term scope vs (Some x) = refl

list_closed : (vs : List Value) (tail : Option Value) → joined_closures (in_values (values_of (map value_view vs))) (in_tail tail) ≡ in_value (list_view (map value_view vs) (option_map value_view tail))
list_closed vs None = join_none (in_values (values_of (map value_view vs)))
list_closed vs (Some x) = refl

list_size : (vs : List Value) (tail : Option Value) → 1 + (2 * values_size (values_of (map value_view vs)) + tail_weight tail) < 2 * value_size (list_view (map value_view vs) (option_map value_view tail))
list_size vs None = omega arith
list_size vs (Some x) = omega arith

pub list_makes : (scope : Scope) (old new : List TermWork) (m : Terms) (v : Bor Value) (vs : List Value) (tail : Option Value) (elements : Bor (List Value)) (rest : Bor (Option Value)) → new ≡ old ++ TermWork.Values elements rest ∷ [] → v.now ≡ Value.List vs tail → elements.now ≡ vs → rest.now ≡ tail → terms_behind scope new m ≡ terms_behind scope old (term_behind scope (TermWork.Value v) m)
list_makes scope old new m v vs tail elements rest e is same other =
    let s = at scope (length m.found) in
    let made : List Value → Option Value → Terms = λ l o. let all = values_of (map value_view l) in with_term (joined_closures (in_values all) (in_tail o)) (listed_tail s all o) m in
    terms_comes scope old new (TermWork.Values elements rest ∷ []) (TermWork.Value v) m m e
    (ap (λ (l : List Value). made l rest.now) same
    ∙ ap (made vs) other
    ∙ ap (λ (c : Closed). with_term c (listed_tail s (values_of (map value_view vs)) tail) m) (list_closed vs tail)
    ∙ ap (λ (t : Term). with_term (in_value (list_view (map value_view vs) (option_map value_view tail))) t m) (list_term s vs tail)
    ∙ ap (λ (x : tree.Value). with_term (in_value x) (term_of s x) m) (sym (list_is v vs tail is)))

pub list_weighs : (old new : List TermWork) (v : Bor Value) (vs : List Value) (tail : Option Value) (elements : Bor (List Value)) (rest : Bor (Option Value)) → new ≡ old ++ TermWork.Values elements rest ∷ [] → v.now ≡ Value.List vs tail → elements.now ≡ vs → rest.now ≡ tail → terms_weight new < term_weight (TermWork.Value v) + terms_weight old
list_weighs old new v vs tail elements rest e is same other =
    let weighs = ap terms_weight e ∙ terms_weigh old (TermWork.Values elements rest ∷ []) in
    let size = ap value_size (list_is v vs tail is) in
    let first = ap (λ (l : List Value). values_size (values_of (map value_view l))) same in
    let second = ap tail_weight other in
    omega (arith, weighs, size, first, second, list_size vs tail)
