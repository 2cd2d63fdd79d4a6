-- The routines behind the last rule and behind the last argument, and the one that unifies an argument.
use Rattle.std.proofs.Common.{◌≡◌, ◌≢◌, ℕ, suc, ◌+◌, ◌-◌, ◌≤◌, Bool, true, false, List, [], ◌∷◌, drop, refl, arith}
use Rattle.std.proofs.lemmas.Bool.{eq-eqb, ne_eqb}
use Rattle.z_model.specs.declared.end.Halt.TheVariants.{AtQuit}
use Rattle.z_lang.specs.declared.act.Atom.TheVariants as atoms
use Rattle.z_lang.specs.declared.act.Function.TheVariants as functions
use Rattle.z_lang.specs.declared.act.Comparison.TheVariants as comparisons
use Rattle.z_lang.specs.State.{State, Program}
use Rattle.z_lang.specs.Runs.{ActsRun as Runs, ActsOutcome as Outcome, Returns, Stops, at_label, taken, passed, done, calls, calls_last, returns, behind_label}
use Rattle.dg_meaning.specs.Values.{Value}
use Rattle.dg_meaning.specs.Substitutions.{Substitution}
use Rattle.dg_meaning.specs.inside.Unify.{unify}
use Rattle.dg_rt.specs.declared.numbers.TheConstants.{FAIL}
use Rattle.dg_rt.specs.declared.unify.TheConstants.{UNIFY_ACTS}
use Rattle.dg_rt.specs.declared.rules.TheConstants.{NONE_ACTS, MATCH_ACTS, MATCHED_ACTS}
use Rattle.dg_rt.specs.Cells.{with_cell, replaced, Holds, bit}
use Rattle.dg_rt.specs.Areas.{IsMapped, state}
use Rattle.dg_rt.specs.Shapes.{Shows}
use Rattle.dg_rt.specs.Moments.{Setting, Moment, in_state}
use Rattle.dg_rt.specs.Unifies.{answers, is_full, Unifies, price}
use Rattle.dg_rt.specs.Rules.{NoneWorks, Matches, agree, limit_met, MatchWorks, MatchedWorks}
use Rattle.dg_rt.proofs.Cells.{other_cell, same_cell}
use Rattle.dg_rt.proofs.Following.{tested, computes, copies, register, puts, local_1}
use Rattle.dg_rt.proofs.Locals.{get_1, get_2, get_3, set_3, subtracts}
use Rattle.dg_rt.proofs.Standing.{unify_at}
use Rattle.dg_rt.proofs.Unifying.{unify_works}

-- ## Behind the last

begins : (p : Program) → IsMapped p → (f w : ℕ) (memory typed output : List ℕ) (drawn : ℕ) (c : ℕ → ℕ) → Holds p.world.layout memory c → c 12 ≢ 0 → Runs p f w NONE_ACTS NONE_ACTS (state memory [] typed drawn output) (Returns (c 12)) (state memory [] typed drawn output) 2
begins p map f w memory typed output drawn c h some =
    let room = map.room in
    let s = state memory [] typed drawn output in
    let here = register p s c 28 h (omega arith) (omega arith) (omega arith) in
    passed (tested p s comparisons.Equal (atoms.Var 28) (atoms.Num 0) true (c 12) 0 false here refl (ne_eqb (c 12) 0 some)) (returns here)

fails : (p : Program) → IsMapped p → (f w : ℕ) (memory typed output : List ℕ) (drawn : ℕ) (c : ℕ → ℕ) → Holds p.world.layout memory c → c 12 ≡ 0 → Runs p f w NONE_ACTS NONE_ACTS (state memory [] typed drawn output) (Returns (p.names.routine FAIL)) (state memory [] typed drawn output) 2
unfolding behind_label
fails p map f w memory typed output drawn c h none =
    let room = map.room in
    let s = state memory [] typed drawn output in
    taken (tested p s comparisons.Equal (atoms.Var 28) (atoms.Num 0) true (c 12) 0 true (register p s c 28 h (omega arith) (omega arith) (omega arith)) refl (eq-eqb (c 12) 0 none)) refl (returns refl)

pub none_works : NoneWorks
none_works = record {
  begins = λ p map f w memory typed output drawn c h some. begins p map f w memory typed output drawn c h some;
  fails = λ p map f w memory typed output drawn c h none. fails p map f w memory typed output drawn c h none;
}

goes : (p : Program) → IsMapped p → (f w : ℕ) (memory typed output : List ℕ) (drawn x : ℕ) (c : ℕ → ℕ) → Holds p.world.layout memory c → c 13 ≡ 0 → Runs p f w MATCHED_ACTS MATCHED_ACTS (state memory (x ∷ []) typed drawn output) (Returns x) (state memory (x ∷ []) typed drawn output) 2
unfolding behind_label
goes p map f w memory typed output drawn x c h none =
    let room = map.room in
    let s = state memory (x ∷ []) typed drawn output in
    taken (tested p s comparisons.Equal (atoms.Var 29) (atoms.Num 0) true (c 13) 0 true (register p s c 29 h (omega arith) (omega arith) (omega arith)) refl (eq-eqb (c 13) 0 none)) refl (returns (local_1 p memory x [] typed drawn output))

clashes : (p : Program) → IsMapped p → (f w : ℕ) (memory typed output : List ℕ) (drawn x : ℕ) (c : ℕ → ℕ) → Holds p.world.layout memory c → c 13 ≢ 0 → Runs p f w MATCHED_ACTS MATCHED_ACTS (state memory (x ∷ []) typed drawn output) (Returns (p.names.routine FAIL)) (state memory (x ∷ []) typed drawn output) 2
clashes p map f w memory typed output drawn x c h some =
    let room = map.room in
    let s = state memory (x ∷ []) typed drawn output in
    passed (tested p s comparisons.Equal (atoms.Var 29) (atoms.Num 0) true (c 13) 0 false (register p s c 29 h (omega arith) (omega arith) (omega arith)) refl (ne_eqb (c 13) 0 some)) (returns refl)

pub matched_works : MatchedWorks
matched_works = record {
  goes = λ p map f w memory typed output drawn x c h none. goes p map f w memory typed output drawn x c h none;
  fails = λ p map f w memory typed output drawn x c h some. clashes p map f w memory typed output drawn x c h some;
}

-- ## An argument

skips : (p : Program) → IsMapped p → (f w : ℕ) (memory typed output : List ℕ) (drawn x y : ℕ) (c : ℕ → ℕ) → Holds p.world.layout memory c → c 13 ≢ 0 → Runs p f w MATCH_ACTS MATCH_ACTS (state memory (x ∷ y ∷ 0 ∷ 0 ∷ []) typed drawn output) (Returns 0) (state memory (x ∷ y ∷ 0 ∷ 0 ∷ []) typed drawn output) 2
unfolding behind_label
skips p map f w memory typed output drawn x y c h some =
    let room = map.room in
    let s = state memory (x ∷ y ∷ 0 ∷ 0 ∷ []) typed drawn output in
    taken (tested p s comparisons.Equal (atoms.Var 29) (atoms.Num 0) false (c 13) 0 false (register p s c 29 h (omega arith) (omega arith) (omega arith)) refl (ne_eqb (c 13) 0 some)) refl (returns refl)

bit_few : (b : Bool) → bit b ≤ 1
bit_few true = omega arith
bit_few false = omega arith

module _ (g : Setting) (S : Substitution) (m : Moment g S) (x y : ℕ) (a b : Value) (s : Shows g.sh x a) (s' : Shows g.sh y b) (none : m.cells 13 ≡ 0) where
  abbrev st : List ℕ → ℕ → State
  st memory z = in_state g memory (x ∷ y ∷ z ∷ 0 ∷ [])

  -- up to the call
  to_call : (o : Outcome) (s2 : State) (k : ℕ) → Runs g.p 3337 16685 MATCH_ACTS (drop 1 MATCH_ACTS) (st m.memory 0) o s2 k → Runs g.p 3337 16685 MATCH_ACTS MATCH_ACTS (st m.memory 0) o s2 (suc k)
  to_call o s2 k rest =
      let room = g.has.mapped.room in
      passed (tested g.p (st m.memory 0) comparisons.Equal (atoms.Var 29) (atoms.Num 0) false (m.cells 13) 0 true (register g.p (st m.memory 0) m.cells 29 m.at.holds (omega arith) (omega arith) (omega arith)) refl (eq-eqb (m.cells 13) 0 none)) rest

  by_end : Unifies g 3336 UNIFY_ACTS m.memory (x ∷ y ∷ 0 ∷ 0 ∷ 0 ∷ []) 0 (price S ((a, b) ∷ [])) (unify S a b) → Matches MATCH_ACTS g m.memory x y (price S ((a, b) ∷ [])) (unify S a b)
  by_end (answers n m' locals few q) =
      let room = g.has.mapped.room in
      let u = bit (unify S a b).agrees in
      let small = bit_few (unify S a b).agrees in
      let z = 1 - u in
      let put = puts g.p (st m'.memory z) m'.cells 29 z m'.at.holds (omega arith) (omega arith) (omega arith) (omega arith) in
      let last = with_cell m'.memory 13 z in
      agree m' last (x ∷ y ∷ z ∷ 0 ∷ []) (replaced m'.cells 13 z) (suc (suc n + 3)) put.holds (same_cell m'.cells 13 z) (λ k ne. other_cell m'.cells 13 z k ne) (omega arith)
      (to_call (Returns 0) (st last z) (suc n + 3)
      (calls {f' = 3336} {w' = 16680} {n = n} {n' = 3} {xs = (x, y, 0)} refl (rw (get_1 g.p m.memory x y 0 0 g.typed g.drawn g.output, get_2 g.p m.memory x y 0 0 g.typed g.drawn g.output) refl) (unify_at g.p g.has) (omega arith) (omega arith) q (set_3 g.p m'.memory x y 0 0 u g.typed g.drawn g.output)
      (done (computes g.p (st m'.memory u) (st m'.memory z) 3 functions.Sub (atoms.Num 1) (atoms.Var 3) 1 u z refl (get_3 g.p m'.memory x y u 0 g.typed g.drawn g.output) (subtracts g.p m'.memory 1 u z (omega arith) (omega arith)) (set_3 g.p m'.memory x y u 0 z g.typed g.drawn g.output))
      (done (copies g.p (st m'.memory z) (st last z) 29 (atoms.Var 3) z (get_3 g.p m'.memory x y z 0 g.typed g.drawn g.output) put.put_is)
      (at_label (returns refl))))))
  by_end (is_full n memory locals over few q) =
      limit_met memory locals (suc (suc n)) over (omega arith)
      (to_call (Stops AtQuit) _ (suc n)
      (calls_last {f' = 3336} {w' = 16680} {n = n} {xs = (x, y, 0)} refl (rw (get_1 g.p m.memory x y 0 0 g.typed g.drawn g.output, get_2 g.p m.memory x y 0 0 g.typed g.drawn g.output) refl) (unify_at g.p g.has) (omega arith) (omega arith) q))

pub match_works : MatchWorks
match_works = record {
  matches = λ g S m x y a b s s' none. by_end g S m x y a b s s' none (unify_works g S m x y a b s s');
  skips = λ p map f w memory typed output drawn x y c h some. skips p map f w memory typed output drawn x y c h some;
}
