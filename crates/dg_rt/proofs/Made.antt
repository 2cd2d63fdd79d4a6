-- The routine that says whether a value was made does so.
use Rattle.std.proofs.Common.{◌≡◌, ℕ, Bool, true, false, List, [], ◌∷◌, refl, ◌∙◌, arith}
use Rattle.std.specs.Prelude.{◌==◌}
use Rattle.z_lang.specs.declared.act.Atom.TheVariants as atoms
use Rattle.z_lang.specs.declared.act.Comparison.TheVariants as comparisons
use Rattle.z_lang.specs.State.{State, Program}
use Rattle.z_lang.specs.Runs.{at_label, taken, passed, done, returns, behind_label}
use Rattle.dg_rt.specs.Cells.{with_cell, replaced, Holds}
use Rattle.dg_rt.specs.Areas.{state}
use Rattle.dg_rt.specs.Making.{TellsMade, MadeWorks}
use Rattle.dg_rt.specs.RunTime.{HasRunTime}
use Rattle.dg_rt.proofs.Cells.{other_cell, same_cell}
use Rattle.dg_rt.proofs.Following.{IsPut, tested, copies, puts, local_1}

module _ (p : Program) (has : HasRunTime p) (f w : ℕ) (memory typed output : List ℕ) (drawn x : ℕ) (cells : ℕ → ℕ) (h : Holds p.world.layout memory cells) where
  abbrev at : List ℕ → State
  at m = state m (x ∷ []) typed drawn output

  abbrev m1 : List ℕ
  m1 = with_cell memory 13 0

  abbrev c1 : ℕ → ℕ
  c1 = replaced cells 13 0

  put_1 : IsPut p (at memory) cells 29 0
  put_1 = let room = has.mapped.room in puts p (at memory) cells 29 0 h (omega arith) (omega arith) (omega arith) (omega arith)

  put_2 : IsPut p (at m1) c1 29 1
  put_2 = let room = has.mapped.room in puts p (at m1) c1 29 1 put_1.holds (omega arith) (omega arith) (omega arith) (omega arith)

  by_test : (t : Bool) → (x == 65535) ≡ t → TellsMade p f w memory typed output drawn x cells
  unfolding behind_label
  by_test true e = record {
    memory' = with_cell m1 13 1;
    cells' = replaced c1 13 1;
    holds = put_2.holds;
    clash = rw e (same_cell c1 13 1);
    others = λ k ne. other_cell c1 13 1 k ne ∙ other_cell cells 13 0 k ne;
    count = 4;
    few = omega arith;
    runs = done (copies p (at memory) (at m1) 29 (atoms.Num 0) 0 refl put_1.put_is)
        (passed (tested p (at m1) comparisons.Equal (atoms.Var 1) (atoms.Num 65535) false x 65535 true (local_1 p m1 x [] typed drawn output) refl e)
        (done (copies p (at m1) (at (with_cell m1 13 1)) 29 (atoms.Num 1) 1 refl put_2.put_is)
        (at_label (returns (local_1 p (with_cell m1 13 1) x [] typed drawn output)))));
  }
  by_test false e = record {
    memory' = m1;
    cells' = c1;
    holds = put_1.holds;
    clash = rw e (same_cell cells 13 0);
    others = λ k ne. other_cell cells 13 0 k ne;
    count = 3;
    few = omega arith;
    runs = done (copies p (at memory) (at m1) 29 (atoms.Num 0) 0 refl put_1.put_is)
        (taken (tested p (at m1) comparisons.Equal (atoms.Var 1) (atoms.Num 65535) false x 65535 false (local_1 p m1 x [] typed drawn output) refl e) refl
        (returns (local_1 p m1 x [] typed drawn output)));
  }

pub made_works : MadeWorks
made_works p has f w memory typed output drawn x cells h = by_test p has f w memory typed output drawn x cells h (x == 65535) refl
