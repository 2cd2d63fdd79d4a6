-- What a letter is: a space, a spelling of its own, or one of a longer spelling.
use Rattle.std.proofs.Common.{◌≡◌, ℕ, ◌≤◌, Bool, true, false, List, [], ◌∷◌, Some, refl, ap, arith}
use Rattle.std.specs.Prelude.{eqb, ◌==◌, ◌||◌}
use Rattle.dg_meaning.specs.Words.{is_alone}
use Rattle.z_lang.specs.declared.act.Atom.TheVariants as atoms
use Rattle.z_lang.specs.declared.act.Comparison.TheVariants as comparisons
use Rattle.z_lang.specs.State.{State, Program}
use Rattle.z_lang.specs.Acts.{answer_of}
use Rattle.z_lang.specs.Runs.{ActsRun as Runs, Returns, taken, passed, returns, behind_label}
use Rattle.dg_rt.specs.declared.typing.TheConstants.{LETTER_KIND_ACTS}
use Rattle.dg_rt.specs.Areas.{state}
use Rattle.dg_rt.proofs.Following.{tested, local_1}
use Rattle.dg_rt.proofs.Separating.{among}

abbrev pub kind_of : Bool → Bool → ℕ
kind_of true alone = 1
kind_of false true = 2
kind_of false false = 0

by_seven : (a b c d e f g : Bool) → (a || (b || (c || (d || (e || (f || (g || false))))))) ≡ ((a || (b || c)) || ((d || (e || f)) || g))
by_seven true b c d e f g = refl
by_seven false true c d e f g = refl
by_seven false false true d e f g = refl
by_seven false false false true e f g = refl
by_seven false false false false true f g = refl
by_seven false false false false false true g = refl
by_seven false false false false false false true = refl
by_seven false false false false false false false = refl

alone_by : (c : ℕ) → is_alone c ≡ (among c 46 44 34 || (among c 59 42 40 || (c == 41)))
alone_by c = by_seven (eqb c 46) (eqb c 44) (eqb c 34) (eqb c 59) (eqb c 42) (eqb c 40) (eqb c 41)

pub record Kind (p : Program) (f w : ℕ) (memory typed output : List ℕ) (drawn c : ℕ) : Type 0 where
  pub count : ℕ
  pub few : count ≤ 5
  pub runs : Runs p f w LETTER_KIND_ACTS LETTER_KIND_ACTS (state memory (c ∷ []) typed drawn output) (Returns (kind_of (eqb c 32) (is_alone c)))
      (state memory (c ∷ []) typed drawn output) count

module _ (p : Program) (f w : ℕ) (memory typed output : List ℕ) (drawn c : ℕ) where
  abbrev st : State
  st = state memory (c ∷ []) typed drawn output

  is_it : (x : ℕ) (t : Bool) → (c == x) ≡ t → answer_of p st (record { comparison = comparisons.Equal; first = atoms.Var 1; second = atoms.Num x; answer = true }) ≡ Some t
  is_it x t e = tested p st comparisons.Equal (atoms.Var 1) (atoms.Num x) true c x t (local_1 p memory c [] typed drawn output) refl e

  is_among : (x y z : ℕ) (t : Bool) → among c x y z ≡ t → answer_of p st (record { comparison = comparisons.Any (atoms.Num y) (atoms.Num z); first = atoms.Var 1; second = atoms.Num x; answer = true }) ≡ Some t
  is_among x y z t e = rw (local_1 p memory c [] typed drawn output) (ap (λ (b : Bool). Some b) e)

  abbrev Gives : ℕ → Type 0
  Gives k = (n : ℕ) × (n ≤ 5) × Runs p f w LETTER_KIND_ACTS LETTER_KIND_ACTS st (Returns k) st n

  by_tests : (s t1 t2 t3 : Bool) → (c == 32) ≡ s → among c 46 44 34 ≡ t1 → among c 59 42 40 ≡ t2 → (c == 41) ≡ t3 → Gives (kind_of s (t1 || (t2 || t3)))
  unfolding behind_label
  by_tests true t1 t2 t3 e e1 e2 e3 = (2, omega arith, taken (is_it 32 true e) refl (returns refl))
  by_tests false true t2 t3 e e1 e2 e3 = (3, omega arith, passed (is_it 32 false e) (taken (is_among 46 44 34 true e1) refl (returns refl)))
  by_tests false false true t3 e e1 e2 e3 = (4, omega arith, passed (is_it 32 false e) (passed (is_among 46 44 34 false e1) (taken (is_among 59 42 40 true e2) refl (returns refl))))
  by_tests false false false true e e1 e2 e3 = (5, omega arith, passed (is_it 32 false e) (passed (is_among 46 44 34 false e1) (passed (is_among 59 42 40 false e2) (taken (is_it 41 true e3) refl (returns refl)))))
  by_tests false false false false e e1 e2 e3 = (5, omega arith, passed (is_it 32 false e) (passed (is_among 46 44 34 false e1) (passed (is_among 59 42 40 false e2) (passed (is_it 41 false e3) (returns refl)))))

  pub tells_kind : Kind p f w memory typed output drawn c
  tells_kind =
      let r = by_tests (c == 32) (among c 46 44 34) (among c 59 42 40) (c == 41) refl refl refl refl in
      record { count = r.0; few = r.1; runs = rw (alone_by c) r.2 }
