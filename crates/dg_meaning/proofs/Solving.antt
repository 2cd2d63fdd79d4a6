-- Unification always ends.
use Rattle.std.proofs.Common.{◌≡◌, ℕ, zero, suc, ◌+◌, ◌*◌, ◌<◌, ◌≤◌, [], ◌∷◌, ◌++◌, Bool, true, false, refl, sym, ap, ◌∙◌, arith, subst, append_assoc, Option, Some, None, inl, inr}
use Rattle.std.specs.Prelude.{eqb, nat_lt, max, ◌&&◌, if◌then◌else◌}
use Rattle.std.proofs.lemmas.Bool.{cond_both, cases_eq, eq-eqb, ne_eqb}
use Rattle.std.proofs.Math.Nat.{mul-le-mul_left}
use Rattle.dg_meaning.specs.Values.{Value, Var, Node, Values, NoMore, More}
use Rattle.dg_meaning.specs.Substitutions.{Substitution, at_var, walk, resolved, contains}
use Rattle.dg_meaning.specs.inside.Substitutions.{is_bound, all_resolved, FitsFront, IsSubstitution, Extends}
use Rattle.dg_meaning.specs.Unify.{same_label, Equations, as_many, side_by_side, Turn, Goes, Binds, Clashes, binds, turn_of, turn, cost, Unified, agreed, clashed, charged, after_turn, turns, size, sizes, weight, top, tops, top_of_pairs, top_of_equations, turns_for, enough, solve}
use Rattle.dg_meaning.proofs.Walks.{resolved_unbound, resolved_node, Walked, walked, size_some, size_replaced}

eqb_turned : (x y : ℕ) → eqb x y ≡ false → eqb y x ≡ false
eqb_turned x y h = ne_eqb y x (λ e. let k : eqb x y ≡ true = eq-eqb x y (sym e) in cc)

-- ## Free variables below a number

abbrev pub one_if_free : Bool → ℕ
one_if_free true = 0
one_if_free false = 1

abbrev pub free : ℕ → Substitution → ℕ
free zero S = 0
free (suc n) S = one_if_free (is_bound n S) + free n S

one_at_most : (b : Bool) → one_if_free b ≤ 1
one_at_most true = omega arith
one_at_most false = omega arith

free_most : (n : ℕ) (S : Substitution) → free n S ≤ n
free_most zero S = omega arith
free_most (suc n) S = omega (arith, one_at_most (is_bound n S), free_most n S)

free_below : (n x : ℕ) (v : Value) (S : Substitution) → n ≤ x → free n ((x, v) ∷ S) ≡ free n S
free_below zero x v S le = refl
free_below (suc n) x v S le =
    let e : eqb n x ≡ false = ne_eqb n x (λ e. omega arith) in
    rw e (ap (λ k. one_if_free (is_bound n S) + k) (free_below n x v S (omega arith)))

pub free_falls : (n x : ℕ) (v : Value) (S : Substitution) → x < n → is_bound x S ≡ false → free n ((x, v) ∷ S) + 1 ≡ free n S
free_falls zero x v S lt out = absurd (omega arith)
free_falls (suc n) x v S lt out =
    elim (cases_eq n x) [
      | inl e ↦
          let at : is_bound n S ≡ false = subst (λ (k : ℕ). is_bound k S ≡ false) (sym e) out in
          rw (eq-eqb n x e, at) (omega (arith, free_below n x v S (omega arith)))
      | inr ne ↦ rw (ne_eqb n x ne) (omega (arith, free_falls n x v S (omega arith) out))
    ]

-- ## What a turn leads to

pub record Fewer (n : ℕ) (S : Substitution) (a b : Value) (parts : Equations) : Type 0 where
  pub weighs : weight S parts < size (resolved S a) + size (resolved S b)
  pub below : top_of_equations parts ≤ n

pub record Front (n : ℕ) (S : Substitution) (a b : Value) (x : ℕ) (v : Value) : Type 0 where
  pub fits : FitsFront x v S
  pub weighs : size (resolved S v) ≤ size (resolved S a) + size (resolved S b)
  pub below : x < n
  pub value_below : top v ≤ n

abbrev pub Fair : ℕ → Substitution → Value → Value → Turn → Type 0
Fair n S a b (Goes parts) = Fewer n S a b parts
Fair n S a b (Binds x v) = Front n S a b x v
Fair n S a b Clashes = Unit {0}

at_var_top : (n x : ℕ) (u w : Value) → top u ≤ n → top w ≤ n → top (at_var x u w) ≤ n
at_var_top n x u (Node f vs) hu hw = hw
at_var_top n x u (Var y) hu hw = cond_both (eqb y x) u (Var y) (λ (t : Value). top t ≤ n) (λ e. hu) (λ e. hw)

pub walk_top : (n : ℕ) (S : Substitution) (v : Value) → top_of_pairs S ≤ n → top v ≤ n → top (walk S v) ≤ n
walk_top n [] v hS hv = hv
walk_top n (p ∷ S) v hS hv = at_var_top n p.0 (walk S p.1) (walk S v) (walk_top n S p.1 (omega arith) (omega arith)) (walk_top n S v (omega arith) hv)

side_weight : (S : Substitution) (vs us : Values) → weight S (side_by_side vs us) ≤ sizes (all_resolved S vs) + sizes (all_resolved S us)
side_weight S NoMore us = omega arith
side_weight S (More v vs) NoMore = omega arith
side_weight S (More v vs) (More u us) = omega (arith, side_weight S vs us)

side_top : (n : ℕ) (vs us : Values) → tops vs ≤ n → tops us ≤ n → top_of_equations (side_by_side vs us) ≤ n
side_top n NoMore us hv hu = omega arith
side_top n (More v vs) NoMore hv hu = omega arith
side_top n (More v vs) (More u us) hv hu = omega (arith, side_top n vs us (omega arith) (omega arith))

bound_free : (n : ℕ) (S : Substitution) (a b : Value) (x : ℕ) (v : Value) → is_bound x S ≡ false → x < n → top v ≤ n → size (resolved S v) ≤ size (resolved S a) + size (resolved S b) → Fair n S a b (binds S x v)
bound_free n S a b x v out lt le weighs =
    cond_both (contains x (resolved S v)) Clashes (Binds x v) (Fair n S a b) (λ e. tt)
    (λ e. record { fits = record { unbound = out; absent = e }; weighs = weighs; below = lt; value_below = le })

turned_fair : (n : ℕ) (S : Substitution) (a b v u : Value) → Walked S a v → Walked S b u → top a ≤ n → top b ≤ n → top v ≤ n → top u ≤ n → Fair n S a b (turn_of S v u)
turned_fair n S a b (Var x) (Var y) wa wb ha hb hv hu =
    let out_x = wa.free x refl in
    let out_y = wb.free y refl in
    let at_x = resolved_unbound S x out_x in
    let at_y = resolved_unbound S y out_y in
    cond_both (eqb x y) (Goes []) (if nat_lt x y then Binds y (Var x) else Binds x (Var y)) (Fair n S a b)
    (λ e. record { weighs = omega (arith, size_some (resolved S a)); below = omega arith })
    (λ e.
    cond_both (nat_lt x y) (Binds y (Var x)) (Binds x (Var y)) (Fair n S a b)
    (λ lt. record {
      fits = record { unbound = out_y; absent = rw at_x e };
      weighs = rw at_x (omega (arith, size_some (resolved S a)));
      below = omega arith;
      value_below = omega arith;
    })
    (λ ge. record {
      fits = record { unbound = out_x; absent = rw at_y (eqb_turned x y e) };
      weighs = rw at_y (omega (arith, size_some (resolved S a)));
      below = omega arith;
      value_below = omega arith;
    }))
turned_fair n S a b (Var x) (Node g us) wa wb ha hb hv hu = bound_free n S a b x (Node g us) (wa.free x refl) (omega arith) hu (omega (arith, ap size wb.same))
turned_fair n S a b (Node f vs) (Var y) wa wb ha hb hv hu = bound_free n S a b y (Node f vs) (wb.free y refl) (omega arith) hv (omega (arith, ap size wa.same))
turned_fair n S a b (Node f vs) (Node g us) wa wb ha hb hv hu =
    cond_both (same_label f g && as_many vs us) (Goes (side_by_side vs us)) Clashes (Fair n S a b)
    (λ e.
    let sa : resolved S a ≡ Node f (all_resolved S vs) = sym wa.same ∙ resolved_node S f vs in
    let sb : resolved S b ≡ Node g (all_resolved S us) = sym wb.same ∙ resolved_node S g us in
    record {
      weighs = rw (sa, sb) (omega (arith, side_weight S vs us));
      below = side_top n vs us hv hu;
    })
    (λ e. tt)

pub turn_fair : (n : ℕ) (S : Substitution) (a b : Value) → IsSubstitution S → top_of_pairs S ≤ n → top a ≤ n → top b ≤ n → Fair n S a b (turn S a b)
turn_fair n S a b s hS ha hb = turned_fair n S a b (walk S a) (walk S b) (walked S s a) (walked S s b) ha hb (walk_top n S a hS ha) (walk_top n S b hS hb)

-- ## Fuel

pub turns_for_some : (k m : ℕ) → 0 < turns_for k m
turns_for_some zero m = omega arith
turns_for_some (suc k) m = omega arith

square_le : (m n : ℕ) → m ≤ n → m * m ≤ n * n
square_le m n h = omega (arith, mul-le-mul_left m h, mul-le-mul_left n h)

turns_for_le : (k m n : ℕ) → m ≤ n → turns_for k m ≤ turns_for k n
turns_for_le zero m n h = omega arith
turns_for_le (suc k) m n h = omega (arith, turns_for_le k (m * m) (n * n) (square_le m n h))

turns_for_less : (k m n : ℕ) → m < n → turns_for k m < turns_for k n
turns_for_less zero m n h = omega arith
turns_for_less (suc k) m n h = omega (arith, turns_for_le k (m * m) (n * n) (square_le m n (omega arith)))

weight_append : (S : Substitution) (xs ys : Equations) → weight S (xs ++ ys) ≡ weight S xs + weight S ys
weight_append S [] ys = omega arith
weight_append S (x ∷ xs) ys = omega (arith, weight_append S xs ys)

pub top_append : (n : ℕ) (xs ys : Equations) → top_of_equations xs ≤ n → top_of_equations ys ≤ n → top_of_equations (xs ++ ys) ≤ n
top_append n [] ys hx hy = hy
top_append n (x ∷ xs) ys hx hy = omega (arith, top_append n xs ys (omega arith) hy)

weight_bound : (x : ℕ) (v : Value) (S : Substitution) (es : Equations) → weight ((x, v) ∷ S) es ≤ weight S es * size (resolved S v)
weight_bound x v S [] = omega arith
weight_bound x v S (e ∷ es) = omega (arith, weight_bound x v S es, size_replaced x (resolved S v) (resolved S e.0), size_replaced x (resolved S v) (resolved S e.1))

product_le : (a b m : ℕ) → a ≤ m → b ≤ m → a * b ≤ m * m
product_le a b m ha hb = omega (arith, mul-le-mul_left a hb, mul-le-mul_left m ha)

-- ## Every turns with enough turns_for ends

abbrev pub Ends : Option Unified → Type 0
Ends r = (a : Unified) × (r ≡ Some a)

charged_ends : (c : ℕ) (r : Option Unified) → Ends r → Ends (charged c r)
charged_ends c None e = absurd (cc (e.1))
charged_ends c (Some a) e = (record { agrees = a.agrees; subst = a.subst; count = c + a.count }, refl)

-- every turns of n turns ends where they are enough
abbrev AllEnd : ℕ → Type 0
AllEnd n = (k m t : ℕ) (S : Substitution) (es : Equations) → IsSubstitution S → top_of_pairs S ≤ t → top_of_equations es ≤ t → free t S ≤ k → weight S es ≤ m → turns_for k m ≤ n → Ends (turns n S es)

turn_ends : (n : ℕ) → AllEnd n → (k m t : ℕ) (S : Substitution) (e : Value × Value) (es : Equations) → IsSubstitution S → top_of_pairs S ≤ t → top_of_equations (e ∷ es) ≤ t → free t S ≤ k → weight S (e ∷ es) ≤ m → turns_for k m ≤ suc n → (turning : Turn) → Fair t S e.0 e.1 turning → Ends (after_turn (turns n) S es turning)
turn_ends n ih k m t S e es s hS hE free_le weight_le le (Goes parts) fair =
    let less : weight S (parts ++ es) < m = omega (arith, weight_append S parts es, fair.weighs) in
    ih k (weight S (parts ++ es)) t S (parts ++ es) s hS (top_append t parts es fair.below (omega arith)) free_le (omega arith) (omega (arith, turns_for_less k (weight S (parts ++ es)) m less))
turn_ends n ih zero m t S e es s hS hE free_le weight_le le (Binds x v) fair = absurd (omega (arith, free_falls t x v S fair.below fair.fits.unbound))
turn_ends n ih (suc k) m t S e es s hS hE free_le weight_le le (Binds x v) fair =
    let small : weight ((x, v) ∷ S) es ≤ m * m = omega (arith, weight_bound x v S es, product_le (weight S es) (size (resolved S v)) m (omega arith) (omega (arith, fair.weighs))) in
    ih k (m * m) t ((x, v) ∷ S) es (fair.fits, s) (omega (arith, fair.below, fair.value_below)) (omega arith) (omega (arith, free_falls t x v S fair.below fair.fits.unbound)) small (omega arith)
turn_ends n ih k m t S e es s hS hE free_le weight_le le Clashes fair = (clashed S, refl)

pub ends : (n : ℕ) → AllEnd n
ends zero k m t S es s hS hE free_le weight_le le = absurd (omega (arith, turns_for_some k m))
ends (suc n) k m t S [] s hS hE free_le weight_le le = (agreed S, refl)
ends (suc n) k m t S (e ∷ es) s hS hE free_le weight_le le =
    charged_ends (cost S e.0 e.1) (after_turn (turns n) S es (turn S e.0 e.1))
    (turn_ends n (ends n) k m t S e es s hS hE free_le weight_le le (turn S e.0 e.1) (turn_fair t S e.0 e.1 s hS (omega arith) (omega arith)))

-- the answer is that of the turns with enough turns_for
pub solve_ends : (S : Substitution) (es : Equations) → IsSubstitution S → turns (enough S es) S es ≡ Some (solve S es)
unfolding solve
solve_ends S es s =
    let t = max (top_of_pairs S) (top_of_equations es) in
    let e = ends (enough S es) t (weight S es) t S es s (omega arith) (omega arith) (free_most t S) (omega arith) (omega arith) in
    rw e.1 refl

-- ## More turns_for changes nothing

charged_some : (c : ℕ) (r r' : Option Unified) (a : Unified) → ((b : Unified) → r ≡ Some b → r' ≡ Some b) → charged c r ≡ Some a → charged c r' ≡ Some a
charged_some c None r' a h e = absurd (cc (e))
charged_some c (Some b) r' a h e = rw (h b refl) e

turn_grows : (go go' : Substitution → Equations → Option Unified) → ((S : Substitution) (es : Equations) (a : Unified) → go S es ≡ Some a → go' S es ≡ Some a) → (S : Substitution) (es : Equations) (t : Turn) (a : Unified) → after_turn go S es t ≡ Some a → after_turn go' S es t ≡ Some a
turn_grows go go' h S es (Goes parts) a e = h S (parts ++ es) a e
turn_grows go go' h S es (Binds x v) a e = h ((x, v) ∷ S) es a e
turn_grows go go' h S es Clashes a e = e

pub turns_more : (n k : ℕ) (S : Substitution) (es : Equations) (a : Unified) → turns n S es ≡ Some a → n ≤ k → turns k S es ≡ Some a
turns_more zero k S es a e le = absurd (cc (e))
turns_more (suc n) zero S es a e le = absurd (omega arith)
turns_more (suc n) (suc k) S [] a e le = e
turns_more (suc n) (suc k) S (x ∷ es) a e le =
    charged_some (cost S x.0 x.1) (after_turn (turns n) S es (turn S x.0 x.1)) (after_turn (turns k) S es (turn S x.0 x.1)) a
    (λ b is. turn_grows (turns n) (turns k) (λ S' es' a' e'. turns_more n k S' es' a' e' (omega arith)) S es (turn S x.0 x.1) b is) e

-- a turns's answer is the answer
pub solve_is : (n : ℕ) (S : Substitution) (es : Equations) (a : Unified) → IsSubstitution S → turns n S es ≡ Some a → solve S es ≡ a
solve_is n S es a s e =
    let k = max n (enough S es) in
    let one = turns_more n k S es a e (omega arith) in
    let two = turns_more (enough S es) k S es (solve S es) (solve_ends S es s) (omega arith) in
    cc

-- ## What the pairs made are

abbrev pub ExtendsBy : Substitution → Option Unified → Type 0
ExtendsBy S None = Unit {0}
ExtendsBy S (Some a) = Extends S a.subst

charged_extends : (c : ℕ) (S : Substitution) (r : Option Unified) → ExtendsBy S r → ExtendsBy S (charged c r)
charged_extends c S None h = h
charged_extends c S (Some a) h = h

extends_pair : (x : ℕ) (v : Value) (S : Substitution) (r : Option Unified) → ExtendsBy ((x, v) ∷ S) r → ExtendsBy S r
extends_pair x v S None h = h
extends_pair x v S (Some a) h = record { made = h.made ++ (x, v) ∷ []; is = h.is ∙ sym (append_assoc h.made ((x, v) ∷ []) S); sound = h.sound }

turn_extends : (go : Substitution → Equations → Option Unified) → ((S : Substitution) (es : Equations) → IsSubstitution S → ExtendsBy S (go S es)) → (n : ℕ) (S : Substitution) (a b : Value) (es : Equations) → IsSubstitution S → (t : Turn) → Fair n S a b t → ExtendsBy S (after_turn go S es t)
turn_extends go h n S a b es s (Goes parts) fair = h S (parts ++ es) s
turn_extends go h n S a b es s (Binds x v) fair = extends_pair x v S (go ((x, v) ∷ S) es) (h ((x, v) ∷ S) es (fair.fits, s))
turn_extends go h n S a b es s Clashes fair = record { made = []; is = refl; sound = s }

pub turns_extend : (n : ℕ) (S : Substitution) (es : Equations) → IsSubstitution S → ExtendsBy S (turns n S es)
turns_extend zero S es s = tt
turns_extend (suc n) S [] s = record { made = []; is = refl; sound = s }
turns_extend (suc n) S (e ∷ es) s =
    let t = max (top_of_pairs S) (top_of_equations (e ∷ es)) in
    charged_extends (cost S e.0 e.1) S (after_turn (turns n) S es (turn S e.0 e.1))
    (turn_extends (turns n) (turns_extend n) t S e.0 e.1 es s (turn S e.0 e.1) (turn_fair t S e.0 e.1 s (omega arith) (omega arith) (omega arith)))

pub solve_extends : (S : Substitution) (es : Equations) → IsSubstitution S → Extends S (solve S es).subst
solve_extends S es s = subst (ExtendsBy S) (solve_ends S es s) (turns_extend (enough S es) S es s)
