-- What a store is to an engine: where a path of the search is, and what an engine may go back to. Hold it against the Dialog manual, chapter "Choice points".
use Rattle.std.specs.Prelude.{ℕ, ◌≡◌, ◌≤◌, List, [], ◌∷◌}
use Rattle.std.specs.List.{All}
use Rattle.dg_meaning.specs.Path.{Registers}
use Rattle.dg_unify.specs.Store.{Store, Saved, Holds, Kept}
use Rattle.dg_unify.specs.declared.bindings.Ref.{Ref}
use Rattle.dg_unify.specs.declared.bindings.Mark.{Mark}

-- A store is where a path is, with its substitution and its counts: its trail may be shorter.
pub record Agrees (s : Store) (r : Registers) : Type 0 where
  pub bound : r.bound ≡ s.state.subst
  pub vars : r.next_var ≡ s.state.vars
  pub heap : r.heap ≡ s.state.heap
  pub trail : s.state.trail ≤ r.trail
  pub since : s.state.since ≤ s.state.vars

-- The stores to which these choices go back, the newest first, are those of their marks, hold what stands behind them, and have these limits.
abbrev pub GoBackTo : {Choice : Type 0} → (Choice → Mark) → (Choice → List Ref) → ℕ → ℕ → List Choice → List Saved → Type 0
GoBackTo mark_of refs_of heap trail [] [] = Unit {0}
GoBackTo mark_of refs_of heap trail (o ∷ os) (m ∷ ms) = (m.mark ≡ mark_of o) × All (Holds m.store) (refs_of o) × (m.store.heap_limit ≡ heap) ×
    (m.store.trail_limit ≡ trail) × GoBackTo mark_of refs_of heap trail os ms
GoBackTo mark_of refs_of heap trail os ms = ⊥

-- A mark that stands, in front of these, gives back a store that holds these Refs, and what it held is held still.
pub record IsPlace (stands : List Saved → Type 0) (now : Store) (refs : List Ref) (place : Mark) (back : Saved) (saved : List Saved) : Type 0 where
  pub keeps : stands (back ∷ saved)
  pub place_is : back.mark ≡ place
  pub hold : All (Holds back.store) refs
  pub kept : Kept back.store now
