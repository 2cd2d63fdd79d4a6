-- What an `if` and a loop do, in how many instructions: an `if` whose test holds runs its first part, else its other;
-- a loop runs its part as long as its test holds.
use Rattle.std.specs.Prelude.{◌≡◌, ℕ, ◌+◌, ◌<◌, ◌≤◌, List, [], ◌∷◌, ◌++◌, Some, not}
use Rattle.z_lang.specs.declared.act.Test.{Test}
use Rattle.z_lang.specs.declared.act.Act.{Act}
use Rattle.z_lang.specs.declared.act.Act.TheVariants as acts
use Rattle.z_lang.specs.declared.lines.Line.{Line}
use Rattle.z_lang.specs.declared.lines.Line.TheVariants as lines
use Rattle.z_lang.specs.declared.lines.Open.{Open}
use Rattle.z_lang.specs.State.{State, Program}
use Rattle.z_lang.specs.Acts.{answer_of}
use Rattle.z_lang.specs.Runs.{ActsOutcome, Rests, ActsRun, behind_label}
use Rattle.z_lang.specs.Lines.{opposite, next_label, flattened, first_label}

-- ---- lines whose constructs are ended

-- Each `if` and each loop has its end.
pub data AreEnded : List Line → Type 0 where
  none : AreEnded []
  act : {a : Act} {more : List Line} → AreEnded more → AreEnded (lines.Do a ∷ more)
  branch : {t : Test} {first more : List Line} → AreEnded first → AreEnded more → AreEnded (lines.If t ∷ first ++ (lines.End ∷ more))
  choice : {t : Test} {first other more : List Line} → AreEnded first → AreEnded other → AreEnded more →
      AreEnded (lines.If t ∷ first ++ (lines.Else ∷ other ++ (lines.End ∷ more)))
  loop : {t : Test} {part more : List Line} → AreEnded part → AreEnded more → AreEnded (lines.While t ∷ part ++ (lines.End ∷ more))

-- the next label behind lines
abbrev pub label_behind : ℕ → List Line → ℕ
label_behind n [] = n
label_behind n (line ∷ more) = label_behind (next_label n line) more

-- ---- the acts of constructs, with what comes behind them

-- what stands behind the part of an `if`, behind the first of two parts, behind the other, and behind the part of a loop
abbrev pub end_if : ℕ → List Act → List Act
end_if l more = acts.Label l ∷ more

abbrev pub end_first : ℕ → ℕ → List Act → List Act → List Act
end_first l e other more = acts.Goto e ∷ acts.Label l ∷ other ++ end_if e more

abbrev pub end_loop : ℕ → ℕ → List Act → List Act
end_loop l e more = acts.Goto l ∷ acts.Label e ∷ more

abbrev pub if_acts : Test → ℕ → List Act → List Act → List Act
if_acts t l first more = acts.When (opposite t) l ∷ first ++ end_if l more

abbrev pub choice_acts : Test → ℕ → ℕ → List Act → List Act → List Act → List Act
choice_acts t l e first other more = acts.When (opposite t) l ∷ first ++ end_first l e other more

abbrev pub test_acts : Test → ℕ → ℕ → List Act → List Act → List Act
test_acts t l e part more = acts.When (opposite t) e ∷ part ++ end_loop l e more

abbrev pub loop_acts : Test → ℕ → ℕ → List Act → List Act → List Act
loop_acts t l e part more = acts.Label l ∷ test_acts t l e part more

-- Lines flatten to those acts, whatever comes behind them.
pub record Flattens (n : ℕ) (open_ : List Open) (first other more : List Line) (t : Test) : Type 0 where
  pub joined : AreEnded first → flattened n open_ (first ++ more) ≡ flattened n [] first ++ flattened (label_behind n first) open_ more
  pub branch : AreEnded first → flattened n open_ (lines.If t ∷ first ++ (lines.End ∷ more)) ≡
      if_acts t n (flattened (n + 2) [] first) (flattened (label_behind (n + 2) first) open_ more)
  pub choice : AreEnded first → AreEnded other → flattened n open_ (lines.If t ∷ first ++ (lines.Else ∷ other ++ (lines.End ∷ more))) ≡
      choice_acts t n (n + 1) (flattened (n + 2) [] first) (flattened (label_behind (n + 2) first) [] other)
      (flattened (label_behind (label_behind (n + 2) first) other) open_ more)
  pub loop : AreEnded first → flattened n open_ (lines.While t ∷ first ++ (lines.End ∷ more)) ≡
      loop_acts t n (n + 1) (flattened (n + 2) [] first) (flattened (label_behind (n + 2) first) open_ more)

-- ---- where their labels lead

-- A label among the acts that are written is below those of constructs.
abbrev pub IsOwn : Line → Type 0
IsOwn (lines.Do (acts.Label k)) = k < first_label
IsOwn line = Unit {0}

abbrev pub AreOwn : List Line → Type 0
AreOwn [] = Unit {0}
AreOwn (line ∷ more) = IsOwn line × AreOwn more

-- Each label of a construct leads to its place in the acts of lines: to what stands behind it.
pub record LabelsLead (xs : List Line) (body : List Act) : Type 0 where
  pub leads : AreOwn xs → (l : ℕ) (front more : List Act) → first_label ≤ l → body ≡ front ++ (acts.Label l ∷ more) →
      behind_label l body ≡ Some more

-- ---- what they do

-- Whether a test holds in a state.
abbrev pub Holds : Program → State → Test → Type 0
Holds p s t = answer_of p s t ≡ Some t.answer

abbrev pub Fails : Program → State → Test → Type 0
Fails p s t = answer_of p s t ≡ Some (not t.answer)

-- The part of a loop is run as long as its test holds: a turn costs the test, the part, and the way back; the last test costs one.
pub data Loops (p : Program) (f w : ℕ) (body : List Act) (t : Test) (part rest : List Act) : State → State → ℕ → Type 0 where
  over : {s : State} → Fails p s t → Loops p f w body t part rest s s 1
  again : {s s1 s' : State} {n m : ℕ} → Holds p s t → ActsRun p f w body (part ++ rest) s (Rests rest) s1 n →
      Loops p f w body t part rest s1 s' m → Loops p f w body t part rest s s' (n + 2 + m)

-- Each construct comes to what stands behind it, where its labels lead to their places in the body.
pub record ConstructsRun (p : Program) (f w : ℕ) (body : List Act) (t : Test) (l e : ℕ) (first other more : List Act)
    (s s' : State) (n : ℕ) : Type 0 where
  pub if_holds : Holds p s t → ActsRun p f w body (first ++ end_if l more) s (Rests (end_if l more)) s' n →
      ActsRun p f w body (if_acts t l first more) s (Rests more) s' (n + 1)
  pub if_fails : Fails p s t → behind_label l body ≡ Some more → ActsRun p f w body (if_acts t l first more) s (Rests more) s 1
  pub choice_holds : Holds p s t → behind_label e body ≡ Some more →
      ActsRun p f w body (first ++ end_first l e other more) s (Rests (end_first l e other more)) s' n →
      ActsRun p f w body (choice_acts t l e first other more) s (Rests more) s' (n + 2)
  pub choice_fails : Fails p s t → behind_label l body ≡ Some (other ++ end_if e more) →
      ActsRun p f w body (other ++ end_if e more) s (Rests (end_if e more)) s' n →
      ActsRun p f w body (choice_acts t l e first other more) s (Rests more) s' (n + 1)
  pub loops : behind_label l body ≡ Some (test_acts t l e first more) → behind_label e body ≡ Some more →
      Loops p f w body t first (end_loop l e more) s s' n → ActsRun p f w body (loop_acts t l e first more) s (Rests more) s' n
  pub leaves : (o : ActsOutcome) (rest : List Act) → Holds p s t → ActsRun p f w body (first ++ rest) s o s' n →
      ActsRun p f w body (acts.When (opposite t) l ∷ first ++ rest) s o s' (n + 1)
