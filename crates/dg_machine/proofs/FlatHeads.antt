-- A rule whose head is matched as it is read.
use Rattle.std.proofs.Common.{◌≡◌, ℕ, ◌+◌, ◌<◌, ◌≤◌, List, ap, subst, arith}
use Rattle.std.specs.Prelude.{Bool}
use Rattle.dg_base.specs.declared.program.Term.{Term}
use Rattle.dg_base.specs.declared.program.CoreProgram.{CoreProgram}
use Rattle.dg_base.specs.declared.run.Limits.{Limits}
use Rattle.dg_meaning.specs.Cells.{cells}
use Rattle.dg_meaning.specs.Unify.{Unified}
use Rattle.dg_unify.specs.Store.{State}
use Rattle.dg_mid.specs.declared.code.Code.{Code}
use Rattle.dg_mid.specs.State.{Mid}
use Rattle.dg_mid.specs.Step.{more}
use Rattle.dg_machine.specs.declared.memory.Memory.{Memory}
use Rattle.dg_machine.specs.declared.now.Row.{Row}
use Rattle.dg_mid.specs.Heads.{FlatTerms}
use Rattle.dg_machine.specs.Layout.{Holds, MadeRule, Matched, Unmatched, Lacks, made_state, headed_state, heap_in, limit_in}
use Rattle.dg_machine.proofs.Opens.{roomy}

pub flat_full : (code : Code) (l : Limits) (m : Mid) (p : CoreProgram) (vars n : ℕ) (head : List Term) → FlatTerms head n → (r : Memory) → Holds code l r m → limit_in r < heap_in r + (6 + vars + n) → Lacks (6 + vars + cells p head) l m.state.heap r
flat_full code l m p vars n head flat r h over =
    let takes : cells p head ≡ n = flat.takes p in
    let heap : heap_in r ≡ m.state.heap = ap (λ (s : State). s.heap) h.0.state_is in
    let limit : limit_in r ≡ l.heap = h.0.limits.heap in
    record { over = omega (arith, over, takes, heap, limit); roomy = roomy code l m r h }

module _ (code : Code) (l : Limits) (m : Mid) (p : CoreProgram) (vars n : ℕ) (head : List Term) (flat : FlatTerms head n) (mid : Memory) (row : Row) (made : MadeRule code l vars m mid row) where
  abbrev ruled : Mid
  ruled = record m { state = made_state vars m.state }

  takes : cells p head ≡ n
  takes = flat.takes p

  heap_is : heap_in mid ≡ m.state.heap + (6 + vars)
  heap_is = ap (λ (s : State). s.heap) made.held.0.state_is

  limit_is : limit_in mid ≡ l.heap
  limit_is = made.held.0.limits.heap

  pub flat_within : heap_in mid + n ≤ limit_in mid → m.state.heap + (6 + vars + cells p head) ≤ l.heap
  flat_within le = omega (arith, le, takes, heap_is, limit_is)

  headed : more n ruled ≡ record m { state = headed_state vars (cells p head) m.state }
  headed =
      let e : m.state.heap + (6 + vars) + n ≡ m.state.heap + (6 + vars + cells p head) = omega (arith, takes) in
      ap (λ (k : ℕ). record m { state = record m.state { vars = m.state.vars + vars; heap = k } }) e

  pub flat_matched : (u : Unified) (new : Memory) (b : Bool) → Matched code l u (more n ruled) new b → Matched code l u (record m { state = headed_state vars (cells p head) m.state }) new b
  flat_matched u new b x = subst (λ y. Matched code l u y new b) headed x

  pub flat_unmatched : (u : Unified) (new : Memory) → Unmatched l u (more n ruled) new → Unmatched l u (record m { state = headed_state vars (cells p head) m.state }) new
  flat_unmatched u new x = subst (λ y. Unmatched l u y new) headed x
