-- The variables of the code at hand lie where its newest frame is.
use Rattle.std.proofs.Common.{◌≡◌, ℕ, suc, ◌+◌, ◌≤◌, Bool, true, false, List, [], ◌∷◌, sym, refl, subst, arith}
use Rattle.dg_meaning.specs.Values.{Value}
use Rattle.dg_mid.specs.State.{Frame, Stop, vars_of}
use Rattle.dg_rt.specs.Shapes.{Shape}
use Rattle.dg_rt.specs.Back.{at_place}
use Rattle.dg_rt.specs.Frames.{HasVars, VarsAt}
use Rattle.dg_turn.specs.Told.{Telling}
use Rattle.dg_turn.specs.Lies.{bit_of, FrameIn, FramesIn}

pub bit_few : (b : Bool) → bit_of b ≤ 1
bit_few true = omega arith
bit_few false = omega arith

-- a frame's word is no 0
named_vars : (sh : Shape) (word at : ℕ) (vs : List Value) → word ≡ at_place at → HasVars sh word vs → VarsAt sh word vs
named_vars sh word at vs e h =
    let next : word ≡ suc (32767 + at) = omega arith in
    subst (λ (x : ℕ). VarsAt sh x vs) (sym next) (subst (λ (x : ℕ). HasVars sh x vs) next h)

has_vars : (t : Telling) (sh : Shape) (ss : List Stop) (word : ℕ) (f : Frame) (behind : ℕ → Type 0) → FrameIn behind t sh ss word f → HasVars sh word f.vars
has_vars t sh ss word f behind h = record {
  at = h.at;
  word_is = h.word_is;
  captured = h.captured;
  own = h.own;
  vars_are = h.vars;
  below = h.below;
  many = bit_of f.many;
  bit = bit_few f.many;
  size = h.many;
  c = h.c;
  c_is = h.c_is;
  closure = h.closure;
  row = h.row;
}

pub vars_at : (t : Telling) (sh : Shape) (ss : List Stop) (word : ℕ) (fs : List Frame) → FramesIn t sh ss word fs → VarsAt sh word (vars_of fs)
vars_at t sh ss word [] h = subst (λ (x : ℕ). VarsAt sh x []) (sym h) refl
vars_at t sh ss word (f ∷ fs) h = named_vars sh word h.at f.vars h.word_is (has_vars t sh ss word f (λ e. FramesIn t sh ss e fs) h)
