-- Memory during a unification: the substitution, and the trail of what was bound since it began. Hold it against the Dialog manual, chapter "Choice
-- points" (on backtracking).
use Rattle.std.specs.Prelude.{◌≡◌, ◌≢◌, ℕ, length, ◌+◌, ◌<◌, ◌≤◌, nat_lt, List, [], ◌∷◌, ◌++◌, None, true, if◌then◌else◌}
use Rattle.z_model.specs.declared.story.Layout.{Layout}
use Rattle.z_lang.specs.State.{State, Program}
use Rattle.dg_meaning.specs.Substitutions.{Substitution}
use Rattle.dg_meaning.specs.inside.Unifiers.{binding_of}
use Rattle.dg_rt.specs.Cells.{Holds}
use Rattle.dg_rt.specs.Areas.{heap_at, trail_at, areas_end, trail_reg, mark_reg, state}
use Rattle.dg_rt.specs.Shapes.{Shape, IsShape, Stands}
use Rattle.dg_rt.specs.Back.{Begun, Saved, GivesBack, OnTrail}
use Rattle.dg_rt.specs.RunTime.{HasRunTime}

-- ## The trail

-- What a binding of x takes of the trail: one where the variable is older than the newest mark.
abbrev pub trail_for : ℕ → ℕ → ℕ
trail_for since x = if nat_lt x since then 1 else 0

-- What bindings take of it.
abbrev pub trail_of : ℕ → Substitution → ℕ
trail_of since [] = 0
trail_of since (b ∷ S) = trail_for since b.0 + trail_of since S

-- The variables older than the newest mark are those that stand in front of the place hb.
pub record IsMark (sh : Shape) (since hb : ℕ) : Type 0 where
  pub low : hb ≤ 10000
  pub high : hb ≤ sh.top
  pub old : since ≤ sh.vars
  pub older : (n : ℕ) → n < sh.vars → nat_lt n since ≡ nat_lt (sh.place n) hb

-- The trail from a height on has a reference to each variable that was bound and takes a place of it, the newest last.
abbrev pub Entries : Shape → (ℕ → ℕ) → ℕ → ℕ → Substitution → Type 0
Entries sh cells since left [] = Unit {0}
Entries sh cells since left (b ∷ made) =
    (nat_lt b.0 since ≡ true → cells (trail_at + (left + trail_of since made)) ≡ 32768 + sh.place b.0) × Entries sh cells since left made

-- ## Moments

-- Memory at a moment: S is bound, and what was bound since S0, when the trail had the height left, is on it. The words outside the heap and the trail
-- are as when it began, but for the trail's height; and what undoing gave back then it gives back still.
pub record IsAt (layout : Layout) (sh : Shape) (since hb : ℕ) (S0 : Substitution) (left : ℕ) (begun : Begun) (memory : List ℕ) (cells : ℕ → ℕ)
    (S : Substitution) : Type 0 where
  pub holds : Holds layout memory cells
  pub stands : Stands sh cells S
  pub mark : cells mark_reg ≡ 32768 + hb
  pub made : Substitution
  pub made_is : S ≡ made ++ S0
  pub height : cells trail_reg ≡ left + trail_of since made
  pub entries : Entries sh cells since left made
  pub trail : List ℕ
  pub on_trail : OnTrail cells trail
  pub tall : length trail ≡ cells trail_reg
  pub known : (n : ℕ) → sh.vars ≤ n → binding_of n S ≡ None
  pub others : (k : ℕ) → k ≢ trail_reg → (heap_at ≤ k → areas_end ≤ k) → cells k ≡ begun.cells k
  pub backs : (w : Saved) → w.sh.top ≤ hb → GivesBack sh begun.cells begun.trail w → GivesBack sh cells trail w

-- What stays while values are unified: the program, what lies in the heap, the mark, the substitution and the trail when it began, and the outside.
pub record Setting : Type 0 where
  pub p : Program
  pub has : HasRunTime p
  pub sh : Shape
  pub is : IsShape sh
  pub since : ℕ
  pub hb : ℕ
  pub marked : IsMark sh since hb
  pub S0 : Substitution
  pub left : ℕ
  pub begun : Begun
  pub typed : List ℕ
  pub output : List ℕ
  pub drawn : ℕ

-- Bindings take no more of the trail than there is.
abbrev pub FitsTrail : ℕ → Substitution → ℕ → Substitution → Type 0
FitsTrail since S0 left S = left + trail_of since S ≤ 2000 + trail_of since S0

-- They take more than there is.
abbrev pub PassesTrail : ℕ → Substitution → ℕ → Substitution → Type 0
PassesTrail since S0 left S = 2000 + trail_of since S0 < left + trail_of since S

-- The same in a setting.
abbrev pub Fits : Setting → Substitution → Type 0
Fits g S = FitsTrail g.since g.S0 g.left S

abbrev pub Passes : Setting → Substitution → Type 0
Passes g S = PassesTrail g.since g.S0 g.left S

-- Memory at a moment at which S is bound.
pub record Moment (g : Setting) (S : Substitution) : Type 0 where
  pub memory : List ℕ
  pub cells : ℕ → ℕ
  pub at : IsAt g.p.world.layout g.sh g.since g.hb g.S0 g.left g.begun memory cells S
  pub room : Fits g S

-- The state of a routine with this memory and these locals.
abbrev pub in_state : Setting → List ℕ → List ℕ → State
in_state g memory locals = state memory locals g.typed g.drawn g.output
