-- The routine of a select can be assembled, and how much room it takes.
use Rattle.std.specs.Prelude.{nat_lt, map}
use Rattle.std.proofs.Common.{ℕ, suc, ◌+◌, ◌*◌, ◌<◌, ◌≤◌, inl, inr, List, [], ◌∷◌, length, arith}
use Rattle.std.proofs.lemmas.Bool.{cases_eq}
use Rattle.std.proofs.lemmas.List.{length-map}
use Rattle.dg_base.specs.declared.program.Mode.{Mode}
use Rattle.dg_base.specs.declared.program.Mode.TheVariants.{Stopping, Cycling, PurelyAtRandom, AtRandom, ThenAtRandom, ThenPurelyAtRandom}
use Rattle.z_code.specs.declared.target.LOp.{LOp}
use Rattle.z_code.specs.Open.{Counts, HasLabel}
use Rattle.z_lang.specs.Bodies.{AreFit}
use Rattle.z_lang.specs.Code.{ops_of_acts}
use Rattle.z_lang.specs.Sizes.{body_bytes}
use Rattle.dg_rt.specs.Fits.{IsFit}
use Rattle.dg_rt.specs.Picks.{pick_number}
use Rattle.dg_rt.specs.RunTime.{runtime}
use Rattle.dg_rt.proofs.Straight.{straight_fits}
use Rattle.dg_turn.specs.Sites.{branch_acts, choosing_routine, select_routine}
use Rattle.dg_turn.specs.Turns.{goto_routine}
use Rattle.dg_fits.proofs.Terms.{num_bytes}

-- ## Bytes

branches_few : (i : ℕ) (bs : List ℕ) (behind : ℕ) → body_bytes (branch_acts i bs behind) ≤ 3 + 10 * length bs
branches_few i [] behind = omega arith
branches_few i (b ∷ bs) behind = omega (arith, num_bytes (nat_lt i 256), branches_few (suc i) bs behind)

choosing_few : (address : ℕ) (mode : Mode) (bs : List ℕ) (behind : ℕ) → body_bytes (choosing_routine address mode bs behind).body ≤ 12 + 10 * length bs
choosing_few address mode bs behind = omega (arith, num_bytes (nat_lt address 256), num_bytes (nat_lt (length bs) 256), branches_few 0 bs behind)

pub select_few : (address : ℕ) (mode : Mode) (bs : List ℕ) (behind : ℕ) → body_bytes (select_routine address mode bs behind).body ≤ 12 + 10 * length bs
select_few address mode [] behind = omega arith
select_few address mode (b ∷ []) behind = omega arith
select_few address mode (b ∷ c ∷ bs) behind = choosing_few address mode (b ∷ c ∷ bs) behind

-- ## Labels

-- no label stands again
again : (l i : ℕ) (bs : List ℕ) (behind : ℕ) → l < i → HasLabel l (ops_of_acts (branch_acts i bs behind)) → ⊥
again l i [] behind lt h = absurd h
again l i (b ∷ bs) behind lt (inl e) = absurd (omega arith)
again l i (b ∷ bs) behind lt (inr h) = again l (suc i) bs behind (omega arith) h

-- one stands for each branch
labels : (l i : ℕ) (bs : List ℕ) (behind : ℕ) → i ≤ l → l < i + length bs → HasLabel l (ops_of_acts (branch_acts i bs behind))
labels l i [] behind le lt = absurd (omega arith)
labels l i (b ∷ bs) behind le lt = elim (cases_eq i l) [
  | inl e ↦ inl e
  | inr ne ↦ inr (labels l (suc i) bs behind (omega arith) (omega arith))
]

-- ## Acts

module _ (c : Counts) (many : 1 + length runtime ≤ c.routines) (f : ℕ → ℕ) (below : (b : ℕ) → f b < c.routines) where
  branches_fit : (all : List LOp) (i : ℕ) (bs : List ℕ) (behind : ℕ) → i + length bs ≤ 500 → behind < c.routines → ((l : ℕ) → i ≤ l → l < i + length bs → HasLabel l all) → AreFit c all (branch_acts i (map f bs) behind)
  branches_fit all i [] behind le lt there = (lt, tt)
  branches_fit all i (b ∷ bs) behind le lt there = (
    ((omega arith, omega arith, tt), there i (omega arith) (omega arith)),
    (
      below b,
      (again i (suc i) (map f bs) behind (omega arith), branches_fit all (suc i) bs behind (omega arith) lt (λ l le' lt'. there l (omega arith) (omega arith))),
    ),
  )

  pick_below : (mode : Mode) → pick_number mode < c.routines
  pick_below Stopping = omega arith
  pick_below Cycling = omega arith
  pick_below PurelyAtRandom = omega arith
  pick_below AtRandom = omega arith
  pick_below ThenAtRandom = omega arith
  pick_below ThenPurelyAtRandom = omega arith

  choosing_fits : (address : ℕ) (mode : Mode) (bs : List ℕ) (behind : ℕ) → address < 65536 → length bs ≤ 500 → behind < c.routines → IsFit c (choosing_routine address mode (map f bs) behind)
  choosing_fits address mode bs behind small few lt =
      let long = length-map bs f in
      record {
        few = omega arith;
        short = λ l has. omega (arith, choosing_few address mode (map f bs) behind);
        fit = (
          (omega arith, pick_below mode, (small, omega arith)),
          branches_fit (ops_of_acts (choosing_routine address mode (map f bs) behind).body) 0 bs behind (omega arith) lt (λ l le lt'. labels l 0 (map f bs) behind le (omega arith)),
        );
      }

  pub select_fits : (address : ℕ) (mode : Mode) (bs : List ℕ) (behind : ℕ) → address < 65536 → length bs ≤ 500 → behind < c.routines → IsFit c (select_routine address mode (map f bs) behind)
  select_fits address mode [] behind small few lt = straight_fits c (goto_routine behind) (omega arith) (lt, tt)
  select_fits address mode (b ∷ []) behind small few lt = straight_fits c (goto_routine (f b)) (omega arith) (below b, tt)
  select_fits address mode (b ∷ d ∷ bs) behind small few lt = choosing_fits address mode (b ∷ d ∷ bs) behind small few lt
