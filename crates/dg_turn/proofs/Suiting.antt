-- The routines that unify arguments with terms, and what they want of these.
use Rattle.std.proofs.Common.{◌≡◌, ℕ, zero, suc, ◌+◌, ◌≤◌, ◌⊎◌, inl, inr, Bool, true, false, List, [], ◌∷◌, ◌++◌, Some, length, map, refl, sym, ap, ◌∙◌, subst, arith, append-nil}
use Rattle.std.specs.Prelude.{max, if◌then◌else◌}
use Rattle.dg_base.specs.declared.program.CoreProgram.{CoreProgram}
use Rattle.dg_base.specs.declared.program.Term.{Term}
use Rattle.dg_base.specs.Terms.{nodes}
use Rattle.dg_meaning.specs.Cells.{nodes_of}
use Rattle.dg_meaning.specs.Moves.{new_vars}
use Rattle.dg_meaning.specs.Unify.{top}
use Rattle.dg_meaning.specs.Values.{Value, value_of}
use Rattle.dg_meaning.specs.inside.Bindings.{top_of_values}
use Rattle.z_lang.specs.declared.act.Act.{Act}
use Rattle.z_lang.specs.State.{Program}
use Rattle.dg_rt.specs.declared.numbers.TheConstants.{MATCH, TAKE}
use Rattle.dg_rt.specs.declared.rules.TheConstants.{MATCH_ACTS}
use Rattle.dg_rt.specs.declared.heads.TheConstants.{TAKE_ACTS}
use Rattle.dg_rt.specs.RunTime.{routine_of, HasRunTime}
use Rattle.dg_rt.specs.Rules.{Skips}
use Rattle.dg_rt.specs.Taking.{Ascends}
use Rattle.dg_rt.proofs.Matching.{match_works}
use Rattle.dg_rt.proofs.Takes.{take_works}
use Rattle.dg_turn.specs.Terms.{AreNodes}
use Rattle.dg_turn.specs.Turns.{above, are_new, matchers, unifying_acts, match_acts}
use Rattle.dg_turn.proofs.NewTerms.{above_more, left_nodes, right_nodes, term_top, term_new}
use Rattle.dg_turn.proofs.Standing.{match_at, take_at}

-- ## Routines that unify an argument

-- A routine is one of the two that do.
abbrev pub IsMatcher : ℕ → Type 0
IsMatcher r = (r ≡ MATCH) ⊎ (r ≡ TAKE)

-- So is each of some.
abbrev pub AreMatchers : List ℕ → Type 0
AreMatchers [] = Unit {0}
AreMatchers (r ∷ rs) = IsMatcher r × AreMatchers rs

-- It stands in the program, and does nothing where arguments have clashed.
pub record Stands (p : Program) (r : ℕ) : Type 0 where
  pub acts : List Act
  pub at : p.routine_at (p.names.routine r) ≡ Some (routine_of 4 acts)
  pub skips : Skips acts

pub stands : (p : Program) → HasRunTime p → (r : ℕ) → IsMatcher r → Stands p r
stands p has r (inl e) = subst (Stands p) (sym e) (record { acts = MATCH_ACTS; at = match_at p has; skips = match_works.skips })
stands p has r (inr e) = subst (Stands p) (sym e) (record { acts = TAKE_ACTS; at = take_at p has; skips = take_works.skips })

-- ## What is known of arguments and terms

-- Variables of the term ascend from a number on, which is above those of the argument.
pub record IsNewTo (low : ℕ) (a b : Value) : Type 0 where
  pub argument : top a ≤ low
  pub high : ℕ
  pub term : Ascends low b high

-- What the routine wants of them, where a number is above all variables in front.
abbrev pub Suits : ℕ → ℕ → Value → Value → Type 0
Suits low r a b = (r ≡ MATCH) ⊎ ((r ≡ TAKE) × IsNewTo low a b)

-- A number is above those of both, too, and this holds with it.
pub record Then (low : ℕ) (a b : Value) (rest : ℕ → Type 0) : Type 0 where
  pub high : ℕ
  pub more : low ≤ high
  pub argument : top a ≤ high
  pub term : top b ≤ high
  pub others : rest high

-- So it is with each routine, argument and term.
abbrev pub AllSuit : ℕ → List ℕ → List Value → List Value → Type 0
AllSuit low (r ∷ rs) (a ∷ xs) (b ∷ ys) = Suits low r a b × Then low a b (λ high. AllSuit high rs xs ys)
AllSuit low rs xs ys = Unit {0}

-- ## By one routine

-- So many times the one that matches.
abbrev pub matching : ℕ → List ℕ
matching zero = []
matching (suc n) = MATCH ∷ matching n

pub matching_length : (n : ℕ) → length (matching n) ≡ n
matching_length zero = refl
matching_length (suc n) = ap suc (matching_length n)

pub matching_are : (n : ℕ) → AreMatchers (matching n)
matching_are zero = tt
matching_are (suc n) = (inl refl, matching_are n)

pub matching_acts : (n v x : ℕ) → unifying_acts v x (matching n) ≡ match_acts v x n
matching_acts zero v x = refl
matching_acts (suc n) v x = ap (λ (l : List Act). match_acts v x 1 ++ l) (matching_acts n (suc v) (suc x))

pub matching_suits : (n low : ℕ) (xs ys : List Value) → AllSuit low (matching n) xs ys
matching_suits zero low xs ys = tt
matching_suits (suc n) low [] ys = tt
matching_suits (suc n) low (a ∷ xs) [] = tt
matching_suits (suc n) low (a ∷ xs) (b ∷ ys) =
    let high = max low (max (top a) (top b)) in
    (inl refl, record { high = high; more = omega arith; argument = omega arith; term = omega arith; others = matching_suits n high xs ys })

-- ## By what a term is

pub matchers_length : (n : ℕ) (head : List Term) → length (matchers n head) ≡ length head
matchers_length n [] = refl
matchers_length n (t ∷ ts) = ap suc (matchers_length (above n (nodes_of (t ∷ []))) ts)

matcher_is : (g : Bool) → IsMatcher (if g then TAKE else MATCH)
matcher_is true = inr refl
matcher_is false = inl refl

pub matchers_are : (n : ℕ) (head : List Term) → AreMatchers (matchers n head)
matchers_are n [] = tt
matchers_are n (t ∷ ts) = (matcher_is (are_new n (nodes_of (t ∷ []))), matchers_are (above n (nodes_of (t ∷ []))) ts)

module _ (p : CoreProgram) (vars b : ℕ) where
  one_suits : (n : ℕ) (t : Term) (a : Value) → top a ≤ b → (g : Bool) → are_new n (nodes_of (t ∷ [])) ≡ g → Suits (b + n) (if g then TAKE else MATCH) a (value_of p (new_vars vars b) t)
  one_suits n t a below true e = inr (
    refl,
    record {
      argument = omega arith;
      high = b + above n (nodes t);
      term = term_new p vars b n t (sym (ap (are_new n) (append-nil (nodes t))) ∙ e);
    },
  )
  one_suits n t a below false e = inl refl

  -- arguments of older variables, and the terms of a head, behind terms whose variables are below a number
  pub head_suits : (n : ℕ) (head : List Term) (xs : List Value) → AreNodes p (nodes_of head) → top_of_values xs ≤ b → AllSuit (b + n) (matchers n head) xs (map (value_of p (new_vars vars b)) head)
  head_suits n [] xs are below = tt
  head_suits n (t ∷ ts) [] are below = tt
  head_suits n (t ∷ ts) (a ∷ xs) are below =
      let k = above n (nodes_of (t ∷ [])) in
      let same : above n (nodes_of (t ∷ [])) ≡ above n (nodes t) = ap (above n) (append-nil (nodes t)) in
      let more = above_more n (nodes_of (t ∷ [])) in
      let term = term_top p vars b n t (left_nodes p (nodes t) (nodes_of ts) are) in (
        one_suits n t a (omega arith) (are_new n (nodes_of (t ∷ []))) refl,
        record {
          high = b + k;
          more = omega arith;
          argument = omega arith;
          term = omega arith;
          others = head_suits k ts xs (right_nodes p (nodes t) (nodes_of ts) are) (omega arith);
        },
      )
