-- That the code at hand fits the open inner constructs, so that a stoppable part is left only by what stands in it. Hold it against the Dialog
-- manual, chapter "Control flow", on (stoppable).
use Rattle.std.specs.Prelude.{ℕ, ◌+◌, ◌≡◌, ◌≤◌, ◌<◌, eqb, List, [], ◌∷◌, Option, Some, None, Bool, true, false}
use Rattle.dg_base.specs.declared.program.Goal.{Goal}
use Rattle.dg_base.specs.declared.program.Term.{Term}
use Rattle.dg_mid.specs.declared.code.Op.{Op}
use Rattle.dg_mid.specs.declared.code.Op.TheVariants as op
use Rattle.dg_mid.specs.declared.code.Gathered.{Gathered}
use Rattle.dg_mid.specs.declared.code.RuleCode.{RuleCode}
use Rattle.dg_mid.specs.declared.code.BodyCode.{BodyCode}
use Rattle.dg_mid.specs.declared.code.Code.{Code}
use Rattle.dg_mid.specs.Code.{block_at}
use Rattle.dg_mid.specs.Codes.{End, Returns, Commits, Refuses, Backs, Leaves, Keeps, Finishes, found_goals, found_end, Stands}
use Rattle.dg_mid.specs.State.{Place, Frame, Call, Target, ToPred, ToBody, Find, Way, Goes, Takes, Calls, Tries, Stop, Choice, Mid, Status, Runs, Enters, Resumes, Fails, Ended}
use Rattle.dg_mid.specs.Potential.{pending, FramesTidy}

-- The innermost stoppable part, where there is one, is older than a tag.
abbrev pub StopOlder : ℕ → Option ℕ → Type 0
StopOlder u None = Unit {0}
StopOlder u (Some t) = t < u

-- The innermost of a chain of stoppable parts.
abbrev pub head_of : List ℕ → Option ℕ
head_of [] = None
head_of (t ∷ chain) = Some t

-- What comes behind goals fits the open constructs, where the chain has the open stoppable parts, the innermost first, and r is the chain where the
-- rule was asked.
abbrev pub Fits : List ℕ → List ℕ → End → List Place → Type 0
Fits chain r Returns inner = (inner ≡ []) × (chain ≡ r)
Fits chain r (Commits goals end) [] = ⊥
Fits chain r (Commits goals end) (p ∷ ps) = StopOlder p.tag (head_of chain) × Fits chain r end ps
Fits chain r Refuses [] = ⊥
Fits chain r Refuses (p ∷ ps) = Unit {0}
Fits chain r Backs inner = Unit {0}
Fits [] r (Leaves goals end) inner = ⊥
Fits (t ∷ chain) r (Leaves goals end) [] = ⊥
Fits (t ∷ chain) r (Leaves goals end) (p ∷ ps) = (p.tag ≡ t) × (p.outer ≡ head_of chain) × Fits chain r end ps
Fits chain r (Keeps term) inner = Unit {0}
Fits chain r Finishes inner = Unit {0}

-- Code stands for goals and what comes behind them, which fits.
pub record FitsCode (code : Code) (ops : List Op) (chain r : List ℕ) (inner : List Place) : Type 0 where
  pub goals : List Goal
  pub end : End
  pub stands : Stands code ops goals end
  pub fits : Fits chain r end inner

-- So does a block with which a choice goes on.
pub data BlockFits (code : Code) (chain r : List ℕ) (inner : List Place) : ℕ → Type 0 where
  plain : (b : ℕ) → FitsCode code (block_at code b) chain r inner → BlockFits code chain r inner b
  retry : (b alt : ℕ) (ops : List Op) → block_at code b ≡ op.Retry alt ∷ ops → FitsCode code ops chain r inner →
      BlockFits code chain r inner alt → BlockFits code chain r inner b

-- The frames fit where the newest was asked with this chain.
abbrev pub FramesFit : Code → List Frame → List ℕ → Type 0
FramesFit code [] r = Unit {0}
FramesFit code (f ∷ fs) r = StopOlder f.cut.tag (head_of r) × ((r' : List ℕ) × FitsCode code (block_at code f.next) r r' f.inner × FramesFit code fs r')

-- ## Open parts

-- What is pending at a part and older is pending here.
abbrev pub StopCovers : (ℕ → ℕ) → Stop → Type 0
StopCovers N s = (u v : ℕ) → u ≤ v → v ≤ s.place.tag → pending s.frames s.inner u + N v ≤ N u + pending s.frames s.inner v

-- A stoppable part that is open is as it should be, within the chain of those around it.
pub record StopFine (code : Code) (N : ℕ → ℕ) (chain : List ℕ) (s : Stop) : Type 0 where
  pub covers : StopCovers N s
  pub newest : pending s.frames s.inner s.place.tag ≡ 0
  pub r : List ℕ
  pub block : FitsCode code (block_at code s.block) chain r s.inner
  pub frames : FramesFit code s.frames r
  pub tidy : FramesTidy code s.frames
  pub outer : s.place.outer ≡ head_of chain
  pub older : StopOlder s.place.tag (head_of chain)

-- One of two statements.
abbrev pub Pick : Bool → Type 0 → Type 0 → Type 0
Pick true A B = A
Pick false A B = B

-- Each part of the chain stands in the list, as it should be.
abbrev pub Active : Code → (ℕ → ℕ) → List ℕ → List Stop → Type 0
Active code N [] stops = Unit {0}
Active code N (t ∷ chain) [] = ⊥
Active code N (t ∷ chain) (s ∷ ss) =
    Pick (eqb s.place.tag t) (StopFine code N chain s × Active code (pending s.frames s.inner) chain ss) (Active code N (t ∷ chain) ss)

-- The same, where it is decided whether the newest of the list is the innermost.
abbrev pub ActiveAt : Code → (ℕ → ℕ) → ℕ → List ℕ → Stop → List Stop → Bool → Type 0
ActiveAt code N t chain s ss b = Pick b (StopFine code N chain s × Active code (pending s.frames s.inner) chain ss) (Active code N (t ∷ chain) ss)

-- Their tags fall.
abbrev pub StopsBelow : ℕ → List Stop → Type 0
StopsBelow u [] = Unit {0}
StopsBelow u (s ∷ ss) = (s.place.tag < u) × StopsBelow s.place.tag ss

-- Choices older than a tag have no more on the trail than this.
abbrev pub AllTrails : ℕ → ℕ → List Choice → Type 0
AllTrails u k [] = Unit {0}
AllTrails u k (c ∷ cs) = (c.place.tag < u → c.state.trail ≤ k) × AllTrails u k cs

-- Parts have no more on the trail than those newer than them, and choices older than a part no more than it.
abbrev pub StopsTrail : ℕ → List Choice → List Stop → Type 0
StopsTrail k cs [] = Unit {0}
StopsTrail k cs (s ∷ ss) = (s.state.trail ≤ k) × AllTrails s.place.tag s.state.trail cs × StopsTrail s.state.trail cs ss

-- ## Queries and choices

-- Code enters a rule and stands for its body.
pub record RuleFits (code : Code) (ops : List Op) : Type 0 where
  pub vars : ℕ
  pub head : List Term
  pub rest : List Op
  pub body : List Goal
  pub is : ops ≡ op.Enter vars head ∷ rest
  pub stands : Stands code rest body Returns

-- So does the code of each of these rules.
abbrev pub RulesFit : Code → List RuleCode → Type 0
RulesFit code [] = Unit {0}
RulesFit code (r ∷ rs) = RuleFits code (block_at code r.block) × RulesFit code rs

-- The code of the body of a closure, where there is one, stands for its goals.
pub record BodyFits (code : Code) (c : BodyCode) : Type 0 where
  pub body : List Goal
  pub stands : Stands code (block_at code c.block) body Returns

abbrev pub MayBody : Code → Option BodyCode → Type 0
MayBody code None = Unit {0}
MayBody code (Some c) = BodyFits code c

-- So it is with what is asked.
abbrev pub TargetFits : Code → Target → Type 0
TargetFits code (ToPred pred) = Unit {0}
TargetFits code (ToBody c captured) = BodyFits code c

-- A call goes on at code that fits.
pub record CallFits (code : Code) (call : Call) (frames : List Frame) (inner : List Place) (chain : List ℕ) : Type 0 where
  pub r : List ℕ
  pub next : FitsCode code (block_at code call.next) chain r inner
  pub frames_are : FramesFit code frames r
  pub older : StopOlder call.cut.tag (head_of chain)

-- A choice goes on at a block that fits.
pub record GoesFit (code : Code) (b : ℕ) (frames : List Frame) (inner : List Place) (chain : List ℕ) : Type 0 where
  pub r : List ℕ
  pub block : BlockFits code chain r inner b
  pub frames_are : FramesFit code frames r

-- A choice that takes a gathering out goes on at a block that does, and fits.
pub record TakesFit (code : Code) (b : ℕ) (frames : List Frame) (inner : List Place) (chain : List ℕ) : Type 0 where
  pub r : List ℕ
  pub whole : Gathered
  pub into : Term
  pub ops : List Op
  pub block : block_at code b ≡ op.TakeOut whole into ∷ ops
  pub code_is : FitsCode code ops chain r inner
  pub frames_are : FramesFit code frames r

-- A choice of objects goes on at code that fits.
pub record TriesFit (code : Code) (f : Find) (frames : List Frame) (inner : List Place) (chain : List ℕ) : Type 0 where
  pub r : List ℕ
  pub goals : List Goal
  pub end : End
  pub stands : Stands code (block_at code f.next) (found_goals f.many goals) (found_end f.many goals end)
  pub fits : Fits chain r end inner
  pub frames_are : FramesFit code frames r

-- What a choice goes on with fits.
abbrev pub WayFits : Code → Way → List Frame → List Place → List ℕ → Type 0
WayFits code (Goes b) frames inner chain = GoesFit code b frames inner chain
WayFits code (Takes b into) frames inner chain = TakesFit code b frames inner chain
WayFits code (Calls call rules) frames inner chain = CallFits code call frames inner chain × RulesFit code rules
WayFits code (Tries f objects) frames inner chain = TriesFit code f frames inner chain

-- The open stoppable parts are a chain, where so many choices were opened and so many bindings are on the trail.
pub record ShapedWith (code : Code) (frames : List Frame) (inner : List Place) (choices : List Choice) (stops : List Stop) (stop : Option ℕ)
    (t trail : ℕ) (chain : List ℕ) : Type 0 where
  pub active : Active code (pending frames inner) chain stops
  pub stop_is : stop ≡ head_of chain
  pub older : StopOlder t (head_of chain)
  pub below : StopsBelow t stops
  pub trails : StopsTrail trail choices stops

-- So it is at each choice.
abbrev pub ChoicesShaped : Code → List Choice → Type 0
ChoicesShaped code [] = Unit {0}
ChoicesShaped code (c ∷ cs) =
    ((chain : List ℕ) × ShapedWith code c.frames c.inner cs c.stops c.stop c.place.tag c.state.trail chain ×
    WayFits code c.way c.frames c.inner chain) × ChoicesShaped code cs

-- So it is here and at each choice.
pub record MidShaped (code : Code) (frames : List Frame) (inner : List Place) (choices : List Choice) (stops : List Stop) (stop : Option ℕ)
    (t trail : ℕ) (chain : List ℕ) : Type 0 where
  pub here : ShapedWith code frames inner choices stops stop t trail chain
  pub choices_are : ChoicesShaped code choices

-- So it is in a machine.
abbrev pub ShapedAt : Code → Mid → List ℕ → Type 0
ShapedAt code m chain = MidShaped code m.frames m.inner m.choices m.stops m.stop m.next_tag m.state.trail chain

-- The code at hand fits, in frames that fit.
pub record RunShaped (code : Code) (ops : List Op) (frames : List Frame) (inner : List Place) (chain : List ℕ) : Type 0 where
  pub r : List ℕ
  pub code_is : FitsCode code ops chain r inner
  pub frames_are : FramesFit code frames r

-- So it is in a status.
abbrev pub StatusShaped : Code → Status → Type 0
StatusShaped code (Runs m) = (chain : List ℕ) × ShapedAt code m chain × RunShaped code m.ops m.frames m.inner chain
StatusShaped code (Enters call m) = (chain : List ℕ) × ShapedAt code m chain × CallFits code call m.frames m.inner chain × RuleFits code m.ops
StatusShaped code (Resumes way m) = (chain : List ℕ) × ShapedAt code m chain × WayFits code way m.frames m.inner chain
StatusShaped code (Fails m) = ChoicesShaped code m.choices
StatusShaped code (Ended e) = Unit {0}
