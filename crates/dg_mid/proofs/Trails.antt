-- What a unification puts on the trail is no more than its count.
use Rattle.std.proofs.Common.{◌≡◌, ℕ, zero, suc, ◌+◌, ◌≤◌, List, [], ◌∷◌, ◌++◌, Option, Some, None, subst, arith, length, take}
use Rattle.std.specs.Prelude.{◌-◌}
use Rattle.dg_meaning.specs.Values.{Value}
use Rattle.dg_meaning.specs.Substitutions.{Substitution}
use Rattle.dg_meaning.specs.Unify.{Equations, Turn, Goes, Binds, Clashes, turn, cost, Unified, charged, after_turn, turns, enough, ended, solve}
use Rattle.dg_meaning.specs.Moves.{made_since}
use Rattle.dg_unify.specs.Store.{State}
use Rattle.dg_mid.specs.Step.{trail_more}
use Rattle.dg_mid.proofs.Taking.{trail_within}

-- no more is bound than was counted
abbrev FewIn : Substitution → ℕ → Option Unified → Type 0
FewIn S k None = Unit {0}
FewIn S k (Some u) = length u.subst ≤ length S + (k + u.count)

few_charged : (S : Substitution) (k : ℕ) (o : Option Unified) → FewIn S k o → FewIn S 0 (charged k o)
few_charged S k None h = tt
few_charged S k (Some u) h = omega (arith, h)

few_more : (S : Substitution) (k : ℕ) (o : Option Unified) → FewIn S 0 o → FewIn S k o
few_more S k None h = tt
few_more S k (Some u) h = omega (arith, h)

few_bound : (S : Substitution) (x : ℕ) (v : Value) (k : ℕ) (o : Option Unified) → FewIn ((x, v) ∷ S) 0 o → FewIn S (2 + k) o
few_bound S x v k None h = tt
few_bound S x v k (Some u) h = omega (arith, h)

few_behind : (n : ℕ) (S : Substitution) (es : Equations) (k : ℕ) (t : Turn) → ((T : Substitution) (fs : Equations) → FewIn T 0 (turns n T fs)) → FewIn S (2 + k) (after_turn (turns n) S es t)
few_behind n S es k (Goes parts) h = few_more S (2 + k) (turns n S (parts ++ es)) (h S (parts ++ es))
few_behind n S es k (Binds x v) h = few_bound S x v k (turns n ((x, v) ∷ S) es) (h ((x, v) ∷ S) es)
few_behind n S es k Clashes h = omega arith

few_turns : (n : ℕ) (S : Substitution) (es : Equations) → FewIn S 0 (turns n S es)
few_turns zero S es = tt
few_turns (suc n) S [] = omega arith
few_turns (suc n) S (e ∷ es) =
    few_charged S (cost S e.0 e.1) (after_turn (turns n) S es (turn S e.0 e.1))
    (subst (λ k. FewIn S k (after_turn (turns n) S es (turn S e.0 e.1))) (let same : 2 + (cost S e.0 e.1 - 2) ≡ cost S e.0 e.1 = omega arith in same)
    (few_behind n S es (cost S e.0 e.1 - 2) (turn S e.0 e.1) (few_turns n)))

few_ended : (S : Substitution) (o : Option Unified) → FewIn S 0 o → length (ended S o).subst ≤ length S + (ended S o).count
few_ended S None h = omega arith
few_ended S (Some u) h = omega (arith, h)

pub few_solved : (S : Substitution) (es : Equations) → length (solve S es).subst ≤ length S + (solve S es).count
unfolding solve
few_solved S es = few_ended S (turns (enough S es) S es) (few_turns (enough S es) S es)

take_few : {A : Type 0} (n : ℕ) (xs : List A) → length (take n xs) ≤ n
take_few zero xs = omega arith
take_few (suc n) [] = omega arith
take_few (suc n) (x ∷ xs) = let a = take_few n xs in omega (arith, a)

pub few_trailed : (s : State) (es : Equations) → trail_more s (solve s.subst es) ≤ s.trail + (solve s.subst es).count
few_trailed s es =
    let u = solve s.subst es in
    let a = few_solved s.subst es in
    let b = trail_within s.since (made_since s.subst u.subst) in
    let c = take_few (length u.subst - length s.subst) u.subst in
    omega (arith, a, b, c)
