-- What comes behind a unification, and the turn of a routine that meets a limit.
use Rattle.std.proofs.Common.{◌≡◌, ◌≢◌, ℕ, ◌-◌, ◌<◌, ◌≤◌, Bool, true, false, List, [], ◌∷◌, refl, ap, ◌∙◌, arith}
use Rattle.z_lang.specs.declared.act.Act.{Act}
use Rattle.z_lang.specs.State.{Program}
use Rattle.z_lang.specs.Runs.{ActsRun, Returns, calls, returns, left_with}
use Rattle.dg_rt.specs.declared.numbers.TheConstants.{FAIL}
use Rattle.dg_rt.specs.declared.rules.TheConstants.{MATCHED_ACTS}
use Rattle.dg_rt.specs.Cells.{with_cell, replaced, Holds, bit}
use Rattle.dg_rt.specs.Areas.{state}
use Rattle.dg_rt.specs.RunTime.{HasRunTime}
use Rattle.dg_rt.proofs.Cells.{other_cell, same_cell}
use Rattle.dg_rt.proofs.Following.{word as word_is, register, puts}
use Rattle.dg_rt.proofs.Matching.{matched_works}
use Rattle.dg_turn.specs.Turns.{agreed_next, last_acts}
use Rattle.dg_turn.proofs.Standing.{matched_at}

-- what comes behind is answered
pub answers : (p : Program) → HasRunTime p → (memory typed output : List ℕ) (drawn behind : ℕ) (c : ℕ → ℕ) → Holds p.world.layout memory c → (b : Bool) → c 13 ≡ 1 - bit b → let s = state memory (p.names.routine behind ∷ []) typed drawn output in ActsRun p 0 0 MATCHED_ACTS MATCHED_ACTS s (Returns (agreed_next p behind b)) s 2
answers p has memory typed output drawn behind c h true e = matched_works.goes p has.mapped 0 0 memory typed output drawn (p.names.routine behind) c h e
answers p has memory typed output drawn behind c h false e = matched_works.fails p has.mapped 0 0 memory typed output drawn (p.names.routine behind) c h (λ (q : c 13 ≡ 0). (omega arith))

pub next_small : (p : Program) → ((k : ℕ) → p.names.routine k < 65536) → (behind : ℕ) (b : Bool) → agreed_next p behind b < 65536
next_small p words behind true = words behind
next_small p words behind false = words FAIL

-- The last acts: the routine that comes next is answered, in 4 instructions.
pub record Concludes (p : Program) (f w : ℕ) (body : List Act) (memory typed output : List ℕ) (drawn behind : ℕ) (c : ℕ → ℕ) (y : ℕ) : Type 0 where
  pub memory' : List ℕ
  pub cells' : ℕ → ℕ
  pub holds : Holds p.world.layout memory' cells'
  pub others : (k : ℕ) → k ≢ 36 → cells' k ≡ c k
  pub runs : ActsRun p f w body (last_acts behind) (state memory [] typed drawn output) (Returns y) (state memory' [] typed drawn output) 4

pub concludes : (p : Program) → HasRunTime p → ((k : ℕ) → p.names.routine k < 65536) → (f w : ℕ) → 0 < f → 4 ≤ w → (body : List Act) (memory typed output : List ℕ) (drawn behind : ℕ) (c : ℕ → ℕ) → Holds p.world.layout memory c →
    (b : Bool) → c 13 ≡ 1 - bit b → Concludes p f w body memory typed output drawn behind c (agreed_next p behind b)
concludes p has words f w some enough body memory typed output drawn behind c h b e =
    let high = has.mapped.room in
    let y = agreed_next p behind b in
    let s1 = state memory (p.names.routine behind ∷ []) typed drawn output in
    let put = puts p (left_with (state memory [] typed drawn output) s1) c 52 y h (omega arith) (omega arith) (omega arith) (next_small p words behind b) in
    let s4 = state (with_cell memory 36 y) [] typed drawn output in
    record {
      memory' = with_cell memory 36 y;
      cells' = replaced c 36 y;
      holds = put.holds;
      others = λ k ne. other_cell c 36 y k ne;
      runs = calls {f' = 0} {w' = 0} {n = 2} {n' = 1} {xs = (p.names.routine behind, 0, 0)} {s1 = s1} {s2 = s4} refl refl (matched_at p has) (omega arith) (omega arith) (answers p has memory typed output drawn behind c h b e) put.put_is
          (returns (register p s4 (replaced c 36 y) 52 put.holds (omega arith) (omega arith) (omega arith) ∙ ap word_is (same_cell c 36 y)));
    }
