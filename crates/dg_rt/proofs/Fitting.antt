-- That the routines of the run-time can be assembled: a test that is right about each list of acts answers so.
use Rattle.std.proofs.Common.{◌≡◌, ℕ, ◌+◌, ◌≤◌, length, inl, inr, Bool, true, false, List, [], ◌∷◌, Option, Some, None, refl, arith}
use Rattle.std.specs.Prelude.{eqb, nat_lt, ◌&&◌, ◌||◌, not}
use Rattle.std.proofs.lemmas.Bool.{ltb-true, eqb-true, and_parts, or_cases, eq-eqb}
use Rattle.z_code.specs.declared.target.LOp.{LOp}
use Rattle.z_code.specs.declared.target.LOp.TheVariants as lops
use Rattle.z_code.specs.Open.{Counts, HasLabel}
use Rattle.z_lang.specs.declared.act.Atom.{Atom}
use Rattle.z_lang.specs.declared.act.Atom.TheVariants as atoms
use Rattle.z_lang.specs.declared.act.Args.{Args}
use Rattle.z_lang.specs.declared.act.Args.TheVariants as args
use Rattle.z_lang.specs.declared.act.Comparison.{Comparison}
use Rattle.z_lang.specs.declared.act.Comparison.TheVariants as comparisons
use Rattle.z_lang.specs.declared.act.Act.{Act}
use Rattle.z_lang.specs.declared.act.Act.TheVariants as acts
use Rattle.z_lang.specs.declared.act.Routine.{Routine}
use Rattle.z_lang.specs.Code.{ops_of_acts}
use Rattle.z_lang.specs.Sizes.{body_bytes}
use Rattle.z_lang.specs.Bodies.{FitsAtom, FitArgs, FitsComparison, FitsStored, FitsAct, AreFit}
use Rattle.dg_rt.specs.RunTime.{runtime}
use Rattle.dg_rt.specs.Fits.{AllFit, RuntimeFits}

-- ## Labels

abbrev stands : ℕ → List LOp → Bool
stands l [] = false
stands l (lops.Label k ∷ ops) = eqb k l || stands l ops
stands l (lops.Do op ts branch ∷ ops) = stands l ops

has_label : (l : ℕ) (ops : List LOp) → stands l ops ≡ true → HasLabel l ops
has_label l [] e = absurd (cc e)
has_label l (lops.Label k ∷ ops) e = elim (or_cases (eqb k l) (stands l ops) e) [
  | inl here ↦ inl (eqb-true k l here)
  | inr there ↦ inr (has_label l ops there)
]
has_label l (lops.Do op ts branch ∷ ops) e = has_label l ops e

later : (a b : Bool) → b ≡ true → (a || b) ≡ true
later true b e = refl
later false b e = e

found : (l : ℕ) (ops : List LOp) → HasLabel l ops → stands l ops ≡ true
found l [] h = absurd h
found l (lops.Label k ∷ ops) (inl e) = rw (eq-eqb k l e) refl
found l (lops.Label k ∷ ops) (inr h) = later (eqb k l) (stands l ops) (found l ops h)
found l (lops.Do op ts branch ∷ ops) h = found l ops h

no_label : (l : ℕ) (ops : List LOp) → not (stands l ops) ≡ true → HasLabel l ops → ⊥
no_label l ops e h = let yes = found l ops h in cc (yes, e)

-- ## Acts

abbrev many : ℕ
many = 1 + length runtime

-- an atom fits where there are the routines of the run-time, one to begin with, and two tables
abbrev fits_atom : Atom → Bool
fits_atom (atoms.Num n) = nat_lt n 65536
fits_atom (atoms.Var v) = nat_lt v 256
fits_atom (atoms.Routine r) = nat_lt r many
fits_atom (atoms.Table t) = nat_lt t 2
fits_atom (atoms.Text t) = false

abbrev fit_args : Args → Bool
fit_args args.Zero = true
fit_args (args.One a) = fits_atom a
fit_args (args.Two a b) = fits_atom a && fits_atom b
fit_args (args.Three a b c) = fits_atom a && (fits_atom b && fits_atom c)

abbrev fits_comparison : Comparison → Bool
fits_comparison comparisons.Equal = true
fits_comparison comparisons.Less = true
fits_comparison comparisons.Greater = true
fits_comparison (comparisons.Either c) = fits_atom c
fits_comparison (comparisons.Any c d) = fits_atom c && fits_atom d

abbrev fits_stored : Option ℕ → Bool
fits_stored None = true
fits_stored (Some v) = nat_lt v 256

abbrev fits_act : List LOp → List LOp → Act → Bool
fits_act all behind (acts.Label l) = not (stands l behind)
fits_act all behind (acts.Goto l) = stands l all
fits_act all behind (acts.When t l) = (fits_atom t.first && (fits_atom t.second && fits_comparison t.comparison)) && stands l all
fits_act all behind (acts.Copy v a) = nat_lt v 256 && fits_atom a
fits_act all behind (acts.Compute v f a b) = nat_lt v 256 && (fits_atom a && fits_atom b)
fits_act all behind (acts.Write w a b c) = fits_atom a && (fits_atom b && fits_atom c)
fits_act all behind (acts.Print k a) = fits_atom a
fits_act all behind (acts.Random v a) = nat_lt v 256 && fits_atom a
fits_act all behind (acts.Read v a) = nat_lt v 256 && fits_atom a
fits_act all behind (acts.Call v a xs) = fits_stored v && (fits_atom a && fit_args xs)
fits_act all behind (acts.Return a) = fits_atom a
fits_act all behind acts.Quit = true

abbrev are_fit : List LOp → List Act → Bool
are_fit all [] = true
are_fit all (act ∷ more) = fits_act all (ops_of_acts more) act && are_fit all more

abbrev all_fit : List Routine → Bool
all_fit [] = true
all_fit (r ∷ rs) = (nat_lt r.locals 16 && (nat_lt (body_bytes r.body) 8000 && are_fit (ops_of_acts r.body) r.body)) && all_fit rs

module _ (counts : Counts) (routines : many ≤ counts.routines) (tables : 2 ≤ counts.tables) where
  atom_fits : (a : Atom) → fits_atom a ≡ true → FitsAtom counts a
  atom_fits (atoms.Num n) e = ltb-true n 65536 e
  atom_fits (atoms.Var v) e = ltb-true v 256 e
  atom_fits (atoms.Routine r) e = let lt = ltb-true r many e in omega arith
  atom_fits (atoms.Table t) e = let lt = ltb-true t 2 e in omega arith
  atom_fits (atoms.Text t) e = absurd (cc e)

  args_fit : (xs : Args) → fit_args xs ≡ true → FitArgs counts xs
  args_fit args.Zero e = tt
  args_fit (args.One a) e = atom_fits a e
  args_fit (args.Two a b) e = let p = and_parts (fits_atom a) (fits_atom b) e in (atom_fits a p.0, atom_fits b p.1)
  args_fit (args.Three a b c) e =
      let p = and_parts (fits_atom a) (fits_atom b && fits_atom c) e in
      let q = and_parts (fits_atom b) (fits_atom c) p.1 in
      (atom_fits a p.0, atom_fits b q.0, atom_fits c q.1)

  comparison_fits : (c : Comparison) → fits_comparison c ≡ true → FitsComparison counts c
  comparison_fits comparisons.Equal e = tt
  comparison_fits comparisons.Less e = tt
  comparison_fits comparisons.Greater e = tt
  comparison_fits (comparisons.Either c) e = atom_fits c e
  comparison_fits (comparisons.Any c d) e = let p = and_parts (fits_atom c) (fits_atom d) e in (atom_fits c p.0, atom_fits d p.1)

  stored_fits : (v : Option ℕ) → fits_stored v ≡ true → FitsStored v
  stored_fits None e = tt
  stored_fits (Some v) e = ltb-true v 256 e

  act_fits : (all behind : List LOp) (act : Act) → fits_act all behind act ≡ true → FitsAct counts all behind act
  act_fits all behind (acts.Label l) e = no_label l behind e
  act_fits all behind (acts.Goto l) e = has_label l all e
  act_fits all behind (acts.When t l) e =
      let p = and_parts (fits_atom t.first && (fits_atom t.second && fits_comparison t.comparison)) (stands l all) e in
      let q = and_parts (fits_atom t.first) (fits_atom t.second && fits_comparison t.comparison) p.0 in
      let r = and_parts (fits_atom t.second) (fits_comparison t.comparison) q.1 in
      ((atom_fits t.first q.0, atom_fits t.second r.0, comparison_fits t.comparison r.1), has_label l all p.1)
  act_fits all behind (acts.Copy v a) e = let p = and_parts (nat_lt v 256) (fits_atom a) e in (ltb-true v 256 p.0, atom_fits a p.1)
  act_fits all behind (acts.Compute v f a b) e =
      let p = and_parts (nat_lt v 256) (fits_atom a && fits_atom b) e in
      let q = and_parts (fits_atom a) (fits_atom b) p.1 in
      (ltb-true v 256 p.0, atom_fits a q.0, atom_fits b q.1)
  act_fits all behind (acts.Write w a b c) e =
      let p = and_parts (fits_atom a) (fits_atom b && fits_atom c) e in
      let q = and_parts (fits_atom b) (fits_atom c) p.1 in
      (atom_fits a p.0, atom_fits b q.0, atom_fits c q.1)
  act_fits all behind (acts.Print k a) e = atom_fits a e
  act_fits all behind (acts.Random v a) e = let p = and_parts (nat_lt v 256) (fits_atom a) e in (ltb-true v 256 p.0, atom_fits a p.1)
  act_fits all behind (acts.Read v a) e = let p = and_parts (nat_lt v 256) (fits_atom a) e in (ltb-true v 256 p.0, atom_fits a p.1)
  act_fits all behind (acts.Call v a xs) e =
      let p = and_parts (fits_stored v) (fits_atom a && fit_args xs) e in
      let q = and_parts (fits_atom a) (fit_args xs) p.1 in
      (stored_fits v p.0, atom_fits a q.0, args_fit xs q.1)
  act_fits all behind (acts.Return a) e = atom_fits a e
  act_fits all behind acts.Quit e = tt

  acts_fit : (all : List LOp) (body : List Act) → are_fit all body ≡ true → AreFit counts all body
  acts_fit all [] e = tt
  acts_fit all (act ∷ more) e =
      let p = and_parts (fits_act all (ops_of_acts more) act) (are_fit all more) e in
      (act_fits all (ops_of_acts more) act p.0, acts_fit all more p.1)

  routines_fit : (rs : List Routine) → all_fit rs ≡ true → AllFit counts rs
  routines_fit [] e = tt
  routines_fit (r ∷ rs) e =
      let p = and_parts (nat_lt r.locals 16 && (nat_lt (body_bytes r.body) 8000 && are_fit (ops_of_acts r.body) r.body)) (all_fit rs) e in
      let q = and_parts (nat_lt r.locals 16) (nat_lt (body_bytes r.body) 8000 && are_fit (ops_of_acts r.body) r.body) p.0 in
      let s = and_parts (nat_lt (body_bytes r.body) 8000) (are_fit (ops_of_acts r.body) r.body) q.1 in
      let few = ltb-true r.locals 16 q.0 in
      (record { few = omega arith; short = λ l has. ltb-true (body_bytes r.body) 8000 s.0; fit = acts_fit (ops_of_acts r.body) r.body s.1 }, routines_fit rs p.1)

pub runtime_fits : RuntimeFits
runtime_fits counts routines tables = routines_fit counts routines tables runtime refl
