-- That a query of a single predicate leaves no choice open behind its answer. Hold it against docs/LANGUAGE.md, "Single predicates".
use Rattle.std.specs.Prelude.{ℕ, zero, suc, ◌≡◌, ◌<◌, ◌≤◌, List, [], ◌∷◌, Option, Some, None, length, if◌then◌else◌}
use Rattle.dg_mid.specs.declared.code.Action.TheVariants as action
use Rattle.dg_mid.specs.declared.code.Op.{Op}
use Rattle.dg_mid.specs.declared.code.Op.TheVariants as op
use Rattle.dg_mid.specs.State.{Frame, Choice, Mid, Status, Runs, Enters, Resumes, Fails, Ended}
use Rattle.dg_mid.specs.Step.{Setting, step}

-- How many frames stay behind the last query of a rule: its own goes where it has nothing left to cut.
abbrev pub frames_behind : List Frame → ℕ
frames_behind [] = 0
frames_behind (f ∷ fs) = if f.many then length fs else length (f ∷ fs)

-- The code at hand, in these frames, asks this predicate, with so many frames behind the query.
abbrev pub AsksIn : ℕ → ℕ → List Frame → List Op → Type 0
AsksIn pred depth frames (op.Ask p terms many next ∷ ops) = (p ≡ pred) × (length frames ≡ depth)
AsksIn pred depth frames (op.LastAsk p terms many ∷ ops) = (p ≡ pred) × (frames_behind frames ≡ depth)
AsksIn pred depth frames ops = ⊥

-- The newest of these frames has so many behind it.
abbrev pub HasBehind : ℕ → List Frame → Type 0
HasBehind depth [] = ⊥
HasBehind depth (f ∷ fs) = length fs ≡ depth

-- The code at hand answers a rule that has so many frames behind it.
abbrev pub AnswersIn : ℕ → List Frame → List Op → Type 0
AnswersIn depth frames (op.Return ∷ ops) = HasBehind depth frames
AnswersIn depth frames ops = ⊥

-- The newest of some choices was opened where so many were, or since.
abbrev pub OpenedSince : ℕ → List Choice → Type 0
OpenedSince t [] = ⊥
OpenedSince t (c ∷ cs) = t ≤ c.place.tag

-- So was the innermost stoppable part, if any is open.
abbrev pub PartSince : ℕ → Option ℕ → Type 0
PartSince t None = Unit {0}
PartSince t (Some tag) = t ≤ tag

-- A stop is to such a part.
abbrev pub StopsSince : ℕ → Option ℕ → List Op → Type 0
StopsSince t stop (op.Do action.Stop ∷ ops) = PartSince t stop
StopsSince t stop ops = Unit {0}

-- The next step stays within a query that was made where so many choices were opened and so many frames stayed behind it: it doesn't answer the
-- query, it fails back to what was opened since, and stops to it.
abbrev pub StaysIn : ℕ → ℕ → Status → Type 0
StaysIn t depth (Runs m) = (AnswersIn depth m.frames m.ops → ⊥) × StopsSince t m.stop m.ops
StaysIn t depth (Enters call m) = Unit {0}
StaysIn t depth (Resumes way m) = Unit {0}
StaysIn t depth (Fails m) = OpenedSince t m.choices
StaysIn t depth (Ended e) = ⊥

-- Where so many steps lead.
abbrev pub led : Setting → ℕ → Status → Status
led s zero now = now
led s (suc k) now = step s (led s k now)

-- The choices of a status.
abbrev pub choices_in : Status → List Choice
choices_in (Runs m) = m.choices
choices_in (Enters call m) = m.choices
choices_in (Resumes way m) = m.choices
choices_in (Fails m) = m.choices
choices_in (Ended e) = []

-- A query of this predicate, made by this machine, stays within itself for so many steps, and then is answered.
pub record IsAnswered (s : Setting) (pred : ℕ) (m : Mid) (steps : ℕ) (answer : Mid) : Type 0 where
  pub depth : ℕ
  pub asks : AsksIn pred depth m.frames m.ops
  pub stays : (i : ℕ) → i < steps → StaysIn m.next_tag depth (led s i (step s (Runs m)))
  pub there : led s steps (step s (Runs m)) ≡ Runs answer
  pub answers : AnswersIn depth answer.frames answer.ops
