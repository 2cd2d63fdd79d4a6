-- What earlier steps have left to pay for later ones. Hold it against docs/LANGUAGE.md, where it says what a limit counts.
use Rattle.std.specs.Prelude.{ℕ, ◌+◌, ◌*◌, ◌≡◌, ◌≤◌, ◌<◌, nat_lt, List, [], ◌∷◌, Bool, true, false, length, if◌then◌else◌}
use Rattle.dg_base.specs.declared.program.Term.{Term}
use Rattle.dg_mid.specs.declared.code.Op.{Op}
use Rattle.dg_mid.specs.declared.code.Op.TheVariants as op
use Rattle.dg_mid.specs.declared.code.RuleCode.{RuleCode}
use Rattle.dg_mid.specs.declared.code.Code.{Code}
use Rattle.dg_mid.specs.Code.{block_at}
use Rattle.dg_mid.specs.State.{Place, Frame, Call, Way, Goes, Takes, Calls, Tries, Choice, Mid, Status, Runs, Enters, Resumes, Fails, Ended}
use Rattle.dg_mid.specs.Step.{is_goal}

-- ## Places that are still to be executed

-- One for a place whose tag is at least u.
abbrev pub one_from : ℕ → Place → ℕ
one_from u p = if nat_lt p.tag u then 0 else 1

-- Of these places, those whose tag is at least u.
abbrev pub places_from : ℕ → List Place → ℕ
places_from u [] = 0
places_from u (p ∷ ps) = one_from u p + places_from u ps

-- One for the answer of a rule that cuts to such a place.
abbrev pub cut_from : ℕ → Bool → Place → ℕ
cut_from u true p = 0
cut_from u false p = one_from u p

-- The ends of inner constructs and the answers that cut to such places, in some frames.
abbrev pub frames_from : ℕ → List Frame → ℕ
frames_from u [] = 0
frames_from u (f ∷ fs) = cut_from u f.many f.cut + (places_from u f.inner + frames_from u fs)

-- The same of frames and the inner constructs in front of them.
abbrev pub pending : List Frame → List Place → ℕ → ℕ
pending frames inner u = places_from u inner + frames_from u frames

-- Those of a machine and of its choices, each once: of a choice those that are newer than the next older choice. N is what is pending where the machine is.
abbrev pub all_pending : (ℕ → ℕ) → List Choice → ℕ
all_pending N [] = N 0
all_pending N (c ∷ cs) = N c.place.tag + all_pending (pending c.frames c.inner) cs

-- Where nothing is pending.
abbrev pub nothing : ℕ → ℕ
nothing u = 0

-- ## The potential

-- An instruction is a jump.
abbrev pub is_goto : Op → Bool
is_goto (op.Goto b) = true
is_goto x = false

-- An instruction answers a rule.
abbrev pub is_return : Op → Bool
is_return op.Return = true
is_return x = false

-- What is due at the answer of the newest rule.
abbrev pub returning : List Frame → ℕ
returning [] = 5
returning (f ∷ fs) = if f.many then 6 else 5

-- What comes at an instruction and isn't paid: most from a jump, least from a goal, which pays for itself.
abbrev pub due_at : List Frame → Op → ℕ
due_at frames x = if is_goto x then 7 else (if is_return x then returning frames else (if is_goal x then 3 else 5))

-- The same at the code at hand.
abbrev pub due : List Frame → List Op → ℕ
due frames [] = 5
due frames (x ∷ ops) = due_at frames x

-- A choice pays for being dropped and for going on once, a place for being executed once, an entry of the trail for being taken off.
abbrev pub stored : (ℕ → ℕ) → List Choice → ℕ → ℕ
stored N cs trail = trail + 5 * length cs + 3 * all_pending N cs

-- What a status has left to pay.
abbrev pub potential : Status → ℕ
potential (Runs m) = due m.frames m.ops + stored (pending m.frames m.inner) m.choices m.state.trail
potential (Enters call m) = 2 + stored (pending m.frames m.inner) m.choices m.state.trail
potential (Resumes way m) = 8 + stored (pending m.frames m.inner) m.choices m.state.trail
potential (Fails m) = 4 + stored nothing m.choices m.state.trail
potential (Ended e) = 0

-- ## Tidy code

-- Code begins with a jump.
abbrev pub begins_goto : List Op → Bool
begins_goto [] = false
begins_goto (x ∷ ops) = is_goto x

-- Code begins with the answer of a rule.
abbrev pub begins_return : List Op → Bool
begins_return [] = false
begins_return (x ∷ ops) = is_return x

-- A query goes on at more than an answer, else it is a last one.
abbrev pub OpTidy : Code → Op → Type 0
OpTidy code (op.Ask pred terms many next) = begins_return (block_at code next) ≡ false
OpTidy code (op.Query a b many next) = begins_return (block_at code next) ≡ false
OpTidy code x = Unit {0}

-- So it is with each of some instructions.
abbrev pub OpsTidy : Code → List Op → Type 0
OpsTidy code [] = Unit {0}
OpsTidy code (x ∷ ops) = OpTidy code x × OpsTidy code ops

-- Code begins with the entering of a rule.
pub record EntersRule (ops : List Op) : Type 0 where
  pub vars : ℕ
  pub head : List Term
  pub rest : List Op
  pub is : ops ≡ op.Enter vars head ∷ rest

-- So does the code of each of these rules.
abbrev pub AllEnter : Code → List RuleCode → Type 0
AllEnter code [] = Unit {0}
AllEnter code (r ∷ rs) = EntersRule (block_at code r.block) × AllEnter code rs

-- No block begins with a jump, queries in it that could be last ones are, and a block that keeps a choice does so with an earlier one.
pub record Tidy (code : Code) : Type 0 where
  pub no_jumps : (b : ℕ) → begins_goto (block_at code b) ≡ false
  pub blocks : (b : ℕ) → OpsTidy code (block_at code b)
  pub earlier : (b alt : ℕ) (ops : List Op) → block_at code b ≡ op.Retry alt ∷ ops → alt < b

-- ## Where a machine may be

-- The newest of these rules cuts.
abbrev pub CutsFirst : List Frame → Type 0
CutsFirst [] = Unit {0}
CutsFirst (f ∷ fs) = f.many ≡ false

-- Where a block only answers, the newest of these rules cuts.
abbrev pub MayAnswer : Code → ℕ → List Frame → Type 0
MayAnswer code next frames = begins_return (block_at code next) ≡ true → CutsFirst frames

-- Behind each of these rules there is no answer of a rule that doesn't cut.
abbrev pub FramesTidy : Code → List Frame → Type 0
FramesTidy code [] = Unit {0}
FramesTidy code (f ∷ fs) = MayAnswer code f.next fs × FramesTidy code fs

-- What is pending here and older than a choice is pending at the choice.
abbrev pub Covers : (ℕ → ℕ) → Choice → Type 0
Covers N c = (u v : ℕ) → u ≤ v → v ≤ c.place.tag → N u + pending c.frames c.inner v ≤ pending c.frames c.inner u + N v

-- The newest choice is older than a tag.
abbrev pub Lower : ℕ → List Choice → Type 0
Lower t [] = Unit {0}
Lower t (c ∷ cs) = c.place.tag < t

-- A call is entered within its choices.
pub record CallFine (code : Code) (call : Call) (frames : List Frame) (t : ℕ) : Type 0 where
  pub older : call.cut.tag < t
  pub answer : MayAnswer code call.next frames

-- What a choice goes on with is fine.
abbrev pub WayFine : Code → Way → List Frame → ℕ → Type 0
WayFine code (Goes b) frames t = Unit {0}
WayFine code (Takes b into) frames t = Unit {0}
WayFine code (Calls call rules) frames t = (call.cut.tag ≡ t) × AllEnter code rules × MayAnswer code call.next frames
WayFine code (Tries f objects) frames t = Unit {0}

-- A choice is fine among the older ones, where so much is pending and so many bindings are on the trail.
pub record ChoiceFine (code : Code) (N : ℕ → ℕ) (trail : ℕ) (c : Choice) (cs : List Choice) : Type 0 where
  pub covers : Covers N c
  pub newest : pending c.frames c.inner c.place.tag ≡ 0
  pub trail_is : c.state.trail ≤ trail
  pub way : WayFine code c.way c.frames c.place.tag
  pub frames : FramesTidy code c.frames
  pub lower : Lower c.place.tag cs

-- So is each of some choices.
abbrev pub ChoicesFine : Code → (ℕ → ℕ) → ℕ → List Choice → Type 0
ChoicesFine code N trail [] = Unit {0}
ChoicesFine code N trail (c ∷ cs) = ChoiceFine code N trail c cs × ChoicesFine code (pending c.frames c.inner) c.state.trail cs

-- Frames, inner constructs and choices are fine, where so many choices were opened and so many bindings are on the trail.
pub record FineWith (code : Code) (frames : List Frame) (inner : List Place) (choices : List Choice) (t trail : ℕ) : Type 0 where
  pub newest : pending frames inner t ≡ 0
  pub lower : Lower t choices
  pub frames_are : FramesTidy code frames
  pub choices_are : ChoicesFine code (pending frames inner) trail choices

-- So are those of a machine.
abbrev pub MidFine : Code → Mid → Type 0
MidFine code m = FineWith code m.frames m.inner m.choices m.next_tag m.state.trail

-- The newest choice isn't newer than the place of a call.
abbrev pub Reaching : ℕ → List Choice → Type 0
Reaching t [] = Unit {0}
Reaching t (c ∷ cs) = c.place.tag ≤ t

-- A status is fine: its code is tidy, and so is what stands behind it.
abbrev pub StatusFine : Code → Status → Type 0
StatusFine code (Runs m) = MidFine code m × OpsTidy code m.ops
StatusFine code (Enters call m) =
    MidFine code m × CallFine code call m.frames m.next_tag × EntersRule m.ops × Reaching call.cut.tag m.choices × OpsTidy code m.ops
StatusFine code (Resumes way m) = MidFine code m × WayFine code way m.frames m.next_tag
StatusFine code (Fails m) = ChoicesFine code nothing m.state.trail m.choices
StatusFine code (Ended e) = Unit {0}

-- ## Whole runs

-- This status is as it should be, and after so much was spent there is what is left of so much.
pub record Affords (code : Code) (spent have : ℕ) (s : Status) : Type 0 where
  pub fine : StatusFine code s
  pub few : spent + potential s ≤ have

-- A run has ended.
abbrev pub IsOver : Status → Type 0
IsOver (Runs m) = ⊥
IsOver (Enters call m) = ⊥
IsOver (Resumes way m) = ⊥
IsOver (Fails m) = ⊥
IsOver (Ended e) = Unit {0}

-- What is left to pay for a selection: a rule that is entered pays for the next.
abbrev pub left_for : Status → ℕ
left_for (Runs m) = 1
left_for (Enters call m) = 0
left_for (Resumes way m) = 1
left_for (Fails m) = 1
left_for (Ended e) = 0
