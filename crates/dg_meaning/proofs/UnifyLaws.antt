-- The laws of unification.
use Rattle.std.proofs.Common.{◌≡◌, ℕ, zero, suc, ◌+◌, ◌<◌, ◌≤◌, List, [], ◌∷◌, ◌++◌, Bool, true, false, refl, sym, ap, ◌∙◌, arith, subst, append_assoc, append-nil, Option, Some, None}
use Rattle.std.specs.Prelude.{eqb, nat_lt, max, ◌&&◌, if◌then◌else◌}
use Rattle.std.proofs.lemmas.Bool.{cond_both, cond-true, cond-false, eqb-true, eq-eqb}
use Rattle.dg_meaning.specs.Values.{Label, Num, Word, Unknown, Object, Nil, Pair, Closure, Value, Var, Node, Values, NoMore, More}
use Rattle.dg_meaning.specs.Substitutions.{Substitution, walk, replaced, resolved, contains}
use Rattle.dg_meaning.specs.inside.Substitutions.{all_resolved, IsSubstitution}
use Rattle.dg_meaning.specs.Unify.{same_spelling, same_label, Equations, as_many, side_by_side, Turn, Goes, Binds, Clashes, turn_of, turn, cost, Unified, agreed, clashed, counted, charged, after_turn, turns, top_of_pairs, top_of_equations, enough, ended, solve}
use Rattle.dg_meaning.specs.inside.Unify.{unify, and_then, solve_turn}
use Rattle.dg_meaning.proofs.Walks.{resolved_unbound, resolved_node, Walked, walked, replaced_absent}
use Rattle.dg_meaning.proofs.Solving.{turns_for_some, Fair, ExtendsBy, turns_extend, turn_fair, solve_ends, solve_is, solve_extends, turns_more}

pub solve_none : (S : Substitution) → IsSubstitution S → solve S [] ≡ agreed S
solve_none S s = solve_is 1 S [] _ s refl

-- no equation is left, whatever is bound
turns_nothing : (n : ℕ) (S : Substitution) → 0 < n → ended S (turns n S []) ≡ agreed S
turns_nothing zero S h = absurd (omega arith)
turns_nothing (suc n) S h = refl

pub solve_nothing : (S : Substitution) → solve S [] ≡ agreed S
unfolding solve
solve_nothing S = turns_nothing (enough S []) S (turns_for_some (max (top_of_pairs S) 0) 0)

step_from : (S : Substitution) (e : Value × Value) (es : Equations) → IsSubstitution S → (n : ℕ) (b : Unified) → after_turn (turns n) S es (turn S e.0 e.1) ≡ Some b → solve S (e ∷ es) ≡ counted (cost S e.0 e.1) b
step_from S e es s n b is = solve_is (suc n) S (e ∷ es) (counted (cost S e.0 e.1) b) s (ap (charged (cost S e.0 e.1)) is)

turn_solved : (S : Substitution) (e : Value × Value) (es : Equations) → IsSubstitution S → (t : Turn) → turn S e.0 e.1 ≡ t → Fair (max (top_of_pairs S) (top_of_equations (e ∷ es))) S e.0 e.1 t → solve S (e ∷ es) ≡ counted (cost S e.0 e.1) (solve_turn S es t)
turn_solved S e es s (Goes parts) is fair = step_from S e es s (enough S (parts ++ es)) (solve S (parts ++ es)) (rw is (solve_ends S (parts ++ es) s))
turn_solved S e es s (Binds x v) is fair = step_from S e es s (enough ((x, v) ∷ S) es) (solve ((x, v) ∷ S) es) (rw is (solve_ends ((x, v) ∷ S) es (fair.fits, s)))
turn_solved S e es s Clashes is fair = step_from S e es s 0 (clashed S) (rw is refl)

-- the first equation is taken
pub solve_step : (S : Substitution) (e : Value × Value) (es : Equations) → IsSubstitution S → solve S (e ∷ es) ≡ counted (cost S e.0 e.1) (solve_turn S es (turn S e.0 e.1))
solve_step S e es s = turn_solved S e es s (turn S e.0 e.1) refl (turn_fair (max (top_of_pairs S) (top_of_equations (e ∷ es))) S e.0 e.1 s (omega arith) (omega arith) (omega arith))

-- ## One list of equations after another

counted_then : (c : ℕ) (b : Unified) (next : Substitution → Unified) → and_then (counted c b) next ≡ counted c (and_then b next)
counted_then c b next =
    elim (b.agrees) as (λ t. (if t then counted (c + b.count) (next b.subst) else counted c b) ≡ counted c (if t then counted b.count (next b.subst) else b)) [
      | true ↦ ap (λ n. record { agrees = (next b.subst).agrees; subst = (next b.subst).subst; count = n }) (omega arith)
      | false ↦ refl
    ]

charged_from : (c : ℕ) (r : Option Unified) (a : Unified) → charged c r ≡ Some a → (b : Unified) × (r ≡ Some b) × (a ≡ counted c b)
charged_from c None a e = absurd (cc e)
charged_from c (Some b) a e = (b, refl, cc)

-- a turns of n turns goes on in runs of k turns
abbrev Appends : ℕ → ℕ → ℕ → Equations → (Substitution → Unified) → Type 0
Appends n m k ys next = (S : Substitution) (xs : Equations) (a : Unified) → turns n S xs ≡ Some a → turns m a.subst ys ≡ Some (next a.subst) → turns k S (xs ++ ys) ≡ Some (and_then a next)

turn_appends : (n m k : ℕ) (ys : Equations) (next : Substitution → Unified) → Appends n m k ys next → (S : Substitution) (xs : Equations) (a : Unified) (t : Turn) → after_turn (turns n) S xs t ≡ Some a → turns m a.subst ys ≡ Some (next a.subst) → after_turn (turns k) S (xs ++ ys) t ≡ Some (and_then a next)
turn_appends n m k ys next ih S xs a (Goes parts) e h = rw (← append_assoc parts xs ys) (ih S (parts ++ xs) a e h)
turn_appends n m k ys next ih S xs a (Binds x v) e h = ih ((x, v) ∷ S) xs a e h
turn_appends n m k ys next ih S xs a Clashes e h =
    let is : a ≡ clashed S = cc in
    rw is refl

turns_append : (n m k : ℕ) (ys : Equations) (next : Substitution → Unified) → n + m ≤ k → Appends n m k ys next
turns_append zero m k ys next le S xs a e h = absurd (cc e)
turns_append (suc n) m zero ys next le S xs a e h = absurd (omega arith)
turns_append (suc n) m (suc k) ys next le S [] a e h =
    let is : agreed S ≡ a = cc in
    let from : turns m S ys ≡ Some (next S) = rw (← is) at h in
    rw (← is) (turns_more m (suc k) S ys (next S) from (omega arith) ∙ ap (λ c. Some (record { agrees = (next S).agrees; subst = (next S).subst; count = c })) (omega arith))
turns_append (suc n) m (suc k) ys next le S (x ∷ xs) a e h =
    let b = charged_from (cost S x.0 x.1) (after_turn (turns n) S xs (turn S x.0 x.1)) a e in
    let h' : turns m b.0.subst ys ≡ Some (next b.0.subst) = rw b.2 at h in
    let inner = turn_appends n m k ys next (turns_append n m k ys next (omega arith)) S xs b.0 (turn S x.0 x.1) b.1 h' in
    ap (charged (cost S x.0 x.1)) inner ∙ ap Some (sym (counted_then (cost S x.0 x.1) b.0 next)) ∙ ap (λ t. Some (and_then t next)) (sym b.2)

pub solve_append : (S : Substitution) (xs ys : Equations) → IsSubstitution S → solve S (xs ++ ys) ≡ and_then (solve S xs) (λ S'. solve S' ys)
solve_append S xs ys s =
    let one = solve S xs in
    let n = enough S xs in
    let m = enough one.subst ys in
    let g = solve_extends S xs s in
    solve_is (n + m) S (xs ++ ys) (and_then one (λ S'. solve S' ys)) s
    (turns_append n m (n + m) ys (λ S'. solve S' ys) (omega arith) S xs one (solve_ends S xs s) (solve_ends one.subst ys g.sound))

-- ## What is made equal is equal

and_left : (a b : Bool) → (a && b) ≡ true → a ≡ true
and_left true b h = refl
and_left false b h = h

and_right : (a b : Bool) → (a && b) ≡ true → b ≡ true
and_right true b h = h
and_right false b h = absurd (cc h)

pub spelling_same : (xs ys : List ℕ) → same_spelling xs ys ≡ true → xs ≡ ys
spelling_same [] [] h = refl
spelling_same [] (y ∷ ys) h = absurd (cc h)
spelling_same (x ∷ xs) [] h = absurd (cc h)
spelling_same (x ∷ xs) (y ∷ ys) h =
    let a = eqb-true x y (and_left (eqb x y) (same_spelling xs ys) h) in
    let b = spelling_same xs ys (and_right (eqb x y) (same_spelling xs ys) h) in
    cc

pub label_same : (f g : Label) → same_label f g ≡ true → f ≡ g
label_same (Num m) (Num n) h = ap Num (eqb-true m n h)
label_same (Word m) (Word n) h = ap Word (eqb-true m n h)
label_same (Unknown m) (Unknown n) h = ap Unknown (spelling_same m n h)
label_same (Object m) (Object n) h = ap Object (eqb-true m n h)
label_same Nil Nil h = refl
label_same Pair Pair h = refl
label_same (Closure m) (Closure n) h = ap Closure (eqb-true m n h)
label_same f g h = absurd (cc h)

-- a newer substitution keeps what is equal
abbrev pub EqualUnder : Substitution → Equations → Type 0
EqualUnder S [] = Unit {0}
EqualUnder S (e ∷ es) = (resolved S e.0 ≡ resolved S e.1) × EqualUnder S es

pub resolved_later : (made S : Substitution) (a b : Value) → resolved S a ≡ resolved S b → resolved (made ++ S) a ≡ resolved (made ++ S) b
resolved_later [] S a b h = h
resolved_later (p ∷ made) S a b h = ap (replaced p.0 (resolved (made ++ S) p.1)) (resolved_later made S a b h)

equal_append : (S : Substitution) (xs ys : Equations) → EqualUnder S (xs ++ ys) → EqualUnder S xs × EqualUnder S ys
equal_append S [] ys h = (tt, h)
equal_append S (x ∷ xs) ys h = let r = equal_append S xs ys h.1 in ((h.0, r.0), r.1)

side_equal : (S : Substitution) (vs us : Values) → as_many vs us ≡ true → EqualUnder S (side_by_side vs us) → all_resolved S vs ≡ all_resolved S us
side_equal S NoMore NoMore n h = refl
side_equal S NoMore (More u us) n h = absurd (cc n)
side_equal S (More v vs) NoMore n h = absurd (cc n)
side_equal S (More v vs) (More u us) n h = let r = side_equal S vs us n h.1 in cc

other : (x y : ℕ) → eqb x y ≡ false → (if eqb y x then Var y else Var y) ≡ Var y
other x y h = elim (eqb y x) as (λ t. (if t then Var y else Var y) ≡ Var y) [ true ↦ refl | false ↦ refl ]

-- what a turn promises: when what it leads to is done, the two are equal
abbrev pub Makes : Substitution → Value → Value → Turn → Type 0
Makes S a b (Goes parts) = (made : Substitution) → EqualUnder (made ++ S) parts → resolved (made ++ S) a ≡ resolved (made ++ S) b
Makes S a b (Binds x v) = resolved ((x, v) ∷ S) a ≡ resolved ((x, v) ∷ S) b
Makes S a b Clashes = Unit {0}

bind_makes : (S : Substitution) (a b : Value) (x : ℕ) (v : Value) → resolved S a ≡ Var x → resolved S v ≡ resolved S b → contains x (resolved S v) ≡ false → replaced x (resolved S v) (resolved S a) ≡ replaced x (resolved S v) (resolved S b)
bind_makes S a b x v ha same absent = rw (ha, ← same, replaced_absent x (resolved S v) (resolved S v) absent) (cond-true (eqb x x) (resolved S v) (Var x) (eq-eqb x x refl))

pub turned_makes : (S : Substitution) (a b v u : Value) → Walked S a v → Walked S b u → Makes S a b (turn_of S v u)
turned_makes S a b (Var x) (Var y) wa wb =
    let ax : resolved S a ≡ Var x = sym wa.same ∙ resolved_unbound S x (wa.free x refl) in
    let by : resolved S b ≡ Var y = sym wb.same ∙ resolved_unbound S y (wb.free y refl) in
    let iy : resolved S (Var y) ≡ Var y = resolved_unbound S y (wb.free y refl) in
    let ix : resolved S (Var x) ≡ Var x = resolved_unbound S x (wa.free x refl) in
    cond_both (eqb x y) (Goes []) (if nat_lt x y then Binds y (Var x) else Binds x (Var y)) (Makes S a b)
    (λ e made h. resolved_later made S a b (ax ∙ ap Var (eqb-true x y e) ∙ sym by))
    (λ e.
    cond_both (nat_lt x y) (Binds y (Var x)) (Binds x (Var y)) (Makes S a b)
    (λ lt. rw (ax, by, ix) (cond-false (eqb x y) (Var x) (Var x) e ∙ sym (cond-true (eqb y y) (Var x) (Var y) (eq-eqb y y refl))))
    (λ ge. rw (ax, by, iy) (cond-true (eqb x x) (Var y) (Var x) (eq-eqb x x refl) ∙ sym (other x y e))))
turned_makes S a b (Var x) (Node g us) wa wb =
    cond_both (contains x (resolved S (Node g us))) Clashes (Binds x (Node g us)) (Makes S a b) (λ e. tt)
    (λ e. bind_makes S a b x (Node g us) (sym wa.same ∙ resolved_unbound S x (wa.free x refl)) wb.same e)
turned_makes S a b (Node f vs) (Var y) wa wb =
    cond_both (contains y (resolved S (Node f vs))) Clashes (Binds y (Node f vs)) (Makes S a b) (λ e. tt)
    (λ e. sym (bind_makes S b a y (Node f vs) (sym wb.same ∙ resolved_unbound S y (wb.free y refl)) wa.same e))
turned_makes S a b (Node f vs) (Node g us) wa wb =
    cond_both (same_label f g && as_many vs us) (Goes (side_by_side vs us)) Clashes (Makes S a b)
    (λ e made h.
    let l = label_same f g (and_left (same_label f g) (as_many vs us) e) in
    let p = side_equal (made ++ S) vs us (and_right (same_label f g) (as_many vs us) e) h in
    let na = resolved_later made S (Node f vs) a wa.same in
    let nb = resolved_later made S (Node g us) b wb.same in
    sym na ∙ resolved_node (made ++ S) f vs ∙ (cc) ∙ sym (resolved_node (made ++ S) g us) ∙ nb)
    (λ e. tt)

-- an answer that agrees makes these equal
abbrev EqualBy : Equations → Option Unified → Type 0
EqualBy es None = Unit {0}
EqualBy es (Some a) = a.agrees ≡ true → EqualUnder a.subst es

charged_equal : (c : ℕ) (es : Equations) (r : Option Unified) → EqualBy es r → EqualBy es (charged c r)
charged_equal c es None h = h
charged_equal c es (Some a) h = h

goes_equal : (S : Substitution) (e : Value × Value) (parts es : Equations) (r : Option Unified) → Makes S e.0 e.1 (Goes parts) → ExtendsBy S r → EqualBy (parts ++ es) r → EqualBy (e ∷ es) r
goes_equal S e parts es None makes grew h = tt
goes_equal S e parts es (Some a) makes grew h = λ yes.
    let both : EqualUnder a.subst parts × EqualUnder a.subst es = equal_append a.subst parts es (h yes) in
    let P : Substitution → Type 0 = λ S'. EqualUnder S' parts → resolved S' e.0 ≡ resolved S' e.1 in
    let made : P a.subst = subst P (sym grew.is) (makes grew.made) in
    (made both.0, both.1)

binds_equal : (S : Substitution) (e : Value × Value) (x : ℕ) (v : Value) (es : Equations) (r : Option Unified) → Makes S e.0 e.1 (Binds x v) → ExtendsBy ((x, v) ∷ S) r → EqualBy es r → EqualBy (e ∷ es) r
binds_equal S e x v es None makes grew h = tt
binds_equal S e x v es (Some a) makes grew h = λ yes.
    let P : Substitution → Type 0 = λ S'. resolved S' e.0 ≡ resolved S' e.1 in
    (subst P (sym grew.is) (resolved_later grew.made ((x, v) ∷ S) e.0 e.1 makes), h yes)

turn_equal : (n : ℕ) → ((S : Substitution) (es : Equations) → IsSubstitution S → EqualBy es (turns n S es)) → (t : ℕ) (S : Substitution) (e : Value × Value) (es : Equations) → IsSubstitution S → (turning : Turn) → Fair t S e.0 e.1 turning → Makes S e.0 e.1 turning → EqualBy (e ∷ es) (after_turn (turns n) S es turning)
turn_equal n ih t S e es s (Goes parts) fair makes = goes_equal S e parts es (turns n S (parts ++ es)) makes (turns_extend n S (parts ++ es) s) (ih S (parts ++ es) s)
turn_equal n ih t S e es s (Binds x v) fair makes = binds_equal S e x v es (turns n ((x, v) ∷ S) es) makes (turns_extend n ((x, v) ∷ S) es (fair.fits, s)) (ih ((x, v) ∷ S) es (fair.fits, s))
turn_equal n ih t S e es s Clashes fair makes = λ yes. absurd (cc yes)

turns_equal : (n : ℕ) (S : Substitution) (es : Equations) → IsSubstitution S → EqualBy es (turns n S es)
turns_equal zero S es s = tt
turns_equal (suc n) S [] s = λ yes. tt
turns_equal (suc n) S (e ∷ es) s =
    let t = max (top_of_pairs S) (top_of_equations (e ∷ es)) in
    charged_equal (cost S e.0 e.1) (e ∷ es) (after_turn (turns n) S es (turn S e.0 e.1))
    (turn_equal n (turns_equal n) t S e es s (turn S e.0 e.1) (turn_fair t S e.0 e.1 s (omega arith) (omega arith) (omega arith)) (turned_makes S e.0 e.1 (walk S e.0) (walk S e.1) (walked S s e.0) (walked S s e.1)))

-- values that unify are equal under the substitution that comes out
pub solve_equal : (S : Substitution) (es : Equations) → IsSubstitution S → (solve S es).agrees ≡ true → EqualUnder (solve S es).subst es
solve_equal S es s = subst (EqualBy es) (solve_ends S es s) (turns_equal (enough S es) S es s)

-- ## What unify makes of pairs, and that its parts count less

pub unify_pair : (S : Substitution) (a b h t h' t' : Value) → IsSubstitution S → walk S a ≡ Node Pair (More h (More t NoMore)) → walk S b ≡ Node Pair (More h' (More t' NoMore)) → unify S a b ≡ counted (cost S a b) (and_then (unify S h h') (λ S'. unify S' t t'))
unify_pair S a b h t h' t' s wa wb =
    let is : turn S a b ≡ Goes ((h, h') ∷ (t, t') ∷ []) = rw (wa, wb) refl in
    solve_step S (a, b) [] s ∙ rw is (ap (counted (cost S a b)) (solve_append S ((h, h') ∷ []) ((t, t') ∷ []) s))

-- ## Closures: the captured values one after another

pub unify_closure : (S : Substitution) (a b : Value) (p : ℕ) (vs us : Values) → IsSubstitution S → walk S a ≡ Node (Closure p) vs → walk S b ≡ Node (Closure p) us → as_many vs us ≡ true → unify S a b ≡ counted (cost S a b) (solve S (side_by_side vs us))
unify_closure S a b p vs us s wa wb many =
    let same : same_label (Closure p) (Closure p) ≡ true = eq-eqb p p refl in
    let is : turn S a b ≡ Goes (side_by_side vs us) = rw (wa, wb, same, many) refl in
    solve_step S (a, b) [] s ∙ rw (is, append-nil (side_by_side vs us)) refl

-- the first of several equations, then the others: the step of a loop over captured values
pub solve_first : (S : Substitution) (e : Value × Value) (es : Equations) → IsSubstitution S → solve S (e ∷ es) ≡ and_then (unify S e.0 e.1) (λ S'. solve S' es)
solve_first S e es s = solve_append S (e ∷ []) es s
