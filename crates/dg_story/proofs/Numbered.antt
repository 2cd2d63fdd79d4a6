-- Which routine has which number.
use Rattle.std.proofs.Common.{◌≡◌, ℕ, zero, suc, ◌+◌, List, [], ◌∷◌, ◌++◌, length, Some, Bool, ap, ◌∙◌, arith}
use Rattle.std.specs.List.{slice_get}
use Rattle.dg_base.specs.declared.program.CoreProgram.{CoreProgram}
use Rattle.dg_mid.specs.declared.code.Code.{Code}
use Rattle.z_lang.specs.declared.act.Routine.{Routine}
use Rattle.dg_rt.specs.RunTime.{runtime}
use Rattle.dg_emit.specs.Code.{code_routines}
use Rattle.dg_emit.specs.Story.{first_number, story_routines}

-- what stands in a list stands in front of another
in_front : {A : Type 0} (xs ys : List A) (k : ℕ) (x : A) → slice_get xs k ≡ Some x → slice_get (xs ++ ys) k ≡ Some x
in_front [] ys k x e = absurd (cc)
in_front (y ∷ xs) ys zero x e = e
in_front (y ∷ xs) ys (suc k) x e = in_front xs ys k x e

-- and what stands in the other stands behind it
behind : {A : Type 0} (xs ys : List A) (k : ℕ) → slice_get (xs ++ ys) (length xs + k) ≡ slice_get ys k
behind [] ys k = let e : 0 + k ≡ k = omega arith in ap (slice_get ys) e
behind (x ∷ xs) ys k = let e : length (x ∷ xs) + k ≡ suc (length xs + k) = omega arith in ap (slice_get (x ∷ (xs ++ ys))) e ∙ behind xs ys k

module _ (program : CoreProgram) (code : Code) (keeps : Bool) where
  abbrev all : List Routine
  all = story_routines program code keeps

  abbrev coded : List Routine
  coded = code_routines program first_number code

  -- The run-time's routines have the numbers from 1 on.
  pub runtime_has : (k : ℕ) (r : Routine) → slice_get runtime k ≡ Some r → slice_get all (1 + k) ≡ Some r
  runtime_has k r e = let n : 1 + k ≡ suc k = omega arith in ap (slice_get all) n ∙ in_front runtime coded k r e

  -- Those of code come behind them.
  pub code_has : (k : ℕ) (r : Routine) → slice_get coded k ≡ Some r → slice_get all (first_number + k) ≡ Some r
  code_has k r e = let n : first_number + k ≡ suc (length runtime + k) = omega arith in ap (slice_get all) n ∙ (behind runtime coded k ∙ e)
