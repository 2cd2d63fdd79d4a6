-- What the routines do that look at the rules of a query. Hold it against docs/LANGUAGE.md, where it says which rules are passed over and in which order
-- they are tried, and dg_mid/specs/Step.antt, which says when a choice of further rules is opened.
use Rattle.std.specs.Prelude.{◌≡◌, ◌≢◌, ℕ, ◌+◌, ◌-◌, ◌*◌, ◌<◌, ◌≤◌, List, [], ◌∷◌}
use Rattle.z_model.specs.declared.end.Halt.TheVariants.{AtQuit}
use Rattle.dg_meaning.specs.Values.{Label, Num, Word, Unknown, Object, Nil, Pair, Closure, Value, Var, Node}
use Rattle.dg_meaning.specs.Substitutions.{Substitution, walk, links}
use Rattle.dg_meaning.specs.Unify.{Unified}
use Rattle.dg_meaning.specs.inside.Unify.{unify}
use Rattle.z_lang.specs.declared.act.Act.{Act}
use Rattle.z_lang.specs.State.{Program}
use Rattle.z_lang.specs.Runs.{ActsRun as Runs, Returns, Stops}
use Rattle.dg_rt.specs.declared.numbers.TheConstants.{FAIL}
use Rattle.dg_rt.specs.declared.rules.TheConstants.{KEY_OF_ACTS, FOUND_ACTS, NONE_ACTS, MATCH_ACTS, MATCHED_ACTS}
use Rattle.dg_rt.specs.Cells.{Holds, bit}
use Rattle.dg_rt.specs.Areas.{heap_at, trail_reg, mark_reg, heap_reg, frame_reg, choice_reg, inner_reg, stop_reg, back_reg, many_reg, key_reg, begin_reg, clash_reg, gather_reg, parameters_reg, IsMapped, state}
use Rattle.dg_rt.specs.Shapes.{Shape, IsShape, Shows, Stands}
use Rattle.dg_rt.specs.Back.{at_place}
use Rattle.dg_rt.specs.RunTime.{HasRunTime}
use Rattle.dg_rt.specs.Moments.{Setting, Passes, Moment, in_state}
use Rattle.dg_rt.specs.Unifies.{closed, price}
use Rattle.dg_rt.specs.Closings.{closing_most}
use Rattle.dg_rt.specs.Charges.{MeetsLimit}
use Rattle.dg_rt.specs.Frames.{RowIs}

-- ## Keys

-- The word of what stands at the top of a value.
abbrev pub key_word : Label → ℕ
key_word (Num n) = n
key_word (Word n) = 16384 + n
key_word (Object n) = 24576 + n
key_word Nil = 28672
key_word Pair = 28673
key_word (Unknown spelling) = 28674
key_word (Closure place) = 49152 + place

-- Its number is one of a story.
abbrev pub LabelFits : Label → Type 0
LabelFits (Num n) = n < 16384
LabelFits (Word n) = n < 8192
LabelFits (Object n) = n < 4096
LabelFits (Closure place) = place < 16384
LabelFits other = Unit {0}

-- The key of a value that was looked up: 32,768 where it is a variable.
abbrev pub KeyIs : Value → ℕ → Type 0
KeyIs (Var x) k = k ≡ 32768
KeyIs (Node f vs) k = (k ≡ key_word f) × LabelFits f

-- A key is answered, in 5 instructions a link and 12.
pub record Keyed (p : Program) (f w : ℕ) (memory typed output : List ℕ) (drawn x : ℕ) (S : Substitution) (v : Value) : Type 0 where
  pub key : ℕ
  pub is : KeyIs (walk S v) key
  pub small : key < 65536
  pub locals' : List ℕ
  pub count : ℕ
  pub few : count ≤ 5 * links S v + 12
  pub runs : Runs p f w KEY_OF_ACTS KEY_OF_ACTS (state memory (x ∷ 0 ∷ 0 ∷ 0 ∷ []) typed drawn output) (Returns key)
      (state memory locals' typed drawn output) count

-- So it is of every value.
abbrev pub KeyWorks : Type 0
KeyWorks = (p : Program) → HasRunTime p → (f w : ℕ) → 1 ≤ f → 4 ≤ w → (memory typed output : List ℕ) (drawn : ℕ) (sh : Shape) →
    IsShape sh →
    (cells : ℕ → ℕ) → Holds p.world.layout memory cells → (S : Substitution) → Stands sh cells S → (x : ℕ) (v : Value) → Shows sh x v →
    Keyed p f w memory typed output drawn x S v

-- ## Rules that are found

-- The first rule that is found is kept, in 3 instructions, and the next rule comes.
pub record KeepsFirst (p : Program) (f w : ℕ) (memory typed output : List ℕ) (drawn enter self next : ℕ) (cells : ℕ → ℕ) : Type 0 where
  pub memory' : List ℕ
  pub cells' : ℕ → ℕ
  pub holds : Holds p.world.layout memory' cells'
  pub begin : cells' begin_reg ≡ enter
  pub others : (k : ℕ) → k ≢ begin_reg → cells' k ≡ cells k
  pub runs : Runs p f w FOUND_ACTS FOUND_ACTS (state memory (enter ∷ self ∷ next ∷ 0 ∷ []) typed drawn output) (Returns next)
      (state memory' (enter ∷ self ∷ next ∷ 0 ∷ []) typed drawn output) 3

-- Behind a rule that was kept a choice is opened that goes on with this rule, in 32 instructions: its cells have what the registers say of the query,
-- and behind them twelve arguments; those that the query has are taken. The rule that was kept comes.
pub record OpensFurther (p : Program) (f w : ℕ) (memory typed output : List ℕ) (drawn enter self next : ℕ) (cells : ℕ → ℕ)
    (top : ℕ) : Type 0 where
  pub memory' : List ℕ
  pub cells' : ℕ → ℕ
  pub locals' : List ℕ
  pub holds : Holds p.world.layout memory' cells'
  pub heap : cells' heap_reg ≡ top + 10 + cells parameters_reg
  pub choice : cells' choice_reg ≡ at_place top
  pub mark : cells' mark_reg ≡ at_place top
  pub row : RowIs cells' (top + 0) (cells choice_reg ∷ self ∷ cells frame_reg ∷ cells inner_reg ∷ cells stop_reg ∷ cells trail_reg
      ∷ cells gather_reg ∷ cells back_reg ∷ cells many_reg ∷ cells key_reg
      ∷ cells 16 ∷ cells 17 ∷ cells 18 ∷ cells 19 ∷ cells 20 ∷ cells 21 ∷ cells 22 ∷ cells 23
      ∷ cells 24 ∷ cells 25
      ∷ cells 26 ∷ cells 27 ∷ [])
  pub others : (k : ℕ) → k ≢ heap_reg → k ≢ choice_reg → k ≢ mark_reg → (heap_at + top ≤ k → heap_at + (top + 22) ≤ k) →
      cells' k ≡ cells k
  pub runs : Runs p f w FOUND_ACTS FOUND_ACTS (state memory (enter ∷ self ∷ next ∷ 0 ∷ []) typed drawn output) (Returns (cells begin_reg))
      (state memory' locals' typed drawn output) 32

-- So it is; and where the choice would pass the heap's end, the limit is met.
pub record FoundWorks : Type 0 where
  pub keeps : (p : Program) → HasRunTime p → (f w : ℕ) (memory typed output : List ℕ) (drawn enter self next : ℕ) (cells : ℕ → ℕ) →
      Holds p.world.layout memory cells → cells begin_reg ≡ 0 → enter < 65536 → KeepsFirst p f w memory typed output drawn enter self next cells
  pub opens : (p : Program) → HasRunTime p →
      (f w : ℕ) (memory typed output : List ℕ) (drawn enter self next : ℕ) (cells : ℕ → ℕ) (top : ℕ) →
      Holds p.world.layout memory cells → cells begin_reg ≢ 0 → cells heap_reg ≡ top → top + 10 + cells parameters_reg ≤ 10000 → self < 65536 →
      OpensFurther p f w memory typed output drawn enter self next cells top
  pub meets : (p : Program) → HasRunTime p → (f w : ℕ) → 2 ≤ f →
      (memory typed output : List ℕ) (drawn enter self next : ℕ) (cells : ℕ → ℕ) (top : ℕ) →
      Holds p.world.layout memory cells → cells begin_reg ≢ 0 → cells heap_reg ≡ top → top ≤ 10000 → cells parameters_reg ≤ 12 →
      10000 < top + 10 + cells parameters_reg → MeetsLimit p f w FOUND_ACTS memory (enter ∷ self ∷ next ∷ 0 ∷ []) typed output drawn cells 5

-- Behind the last rule the one that was kept comes next, or the routine that fails, in 2 instructions, and nothing is changed.
pub record NoneWorks : Type 0 where
  pub begins : (p : Program) → IsMapped p → (f w : ℕ) (memory typed output : List ℕ) (drawn : ℕ) (cells : ℕ → ℕ) →
      Holds p.world.layout memory cells →
      cells begin_reg ≢ 0 → Runs p f w NONE_ACTS NONE_ACTS (state memory [] typed drawn output) (Returns (cells begin_reg))
      (state memory [] typed drawn output) 2
  pub fails : (p : Program) → IsMapped p → (f w : ℕ) (memory typed output : List ℕ) (drawn : ℕ) (cells : ℕ → ℕ) →
      Holds p.world.layout memory cells →
      cells begin_reg ≡ 0 → Runs p f w NONE_ACTS NONE_ACTS (state memory [] typed drawn output) (Returns (p.names.routine FAIL))
      (state memory [] typed drawn output) 2

-- ## Heads

-- By these acts an argument and a term of a head were unified, in 5 instructions more than that takes, and the register of clashes says whether they
-- clash; or the trail's limit has ended the run.
pub data Matches (acts : List Act) (g : Setting) (memory : List ℕ) (x y most : ℕ) (u : Unified) : Type 0 where
  agree : (m : Moment g u.subst) (memory' locals' : List ℕ) (cells' : ℕ → ℕ) (count : ℕ) → Holds g.p.world.layout memory' cells' →
      cells' clash_reg ≡ 1 - bit u.agrees → ((k : ℕ) → k ≢ clash_reg → cells' k ≡ m.cells k) → count ≤ most + 5 →
      Runs g.p 3337 16685 acts acts (in_state g memory (x ∷ y ∷ 0 ∷ 0 ∷ [])) (Returns 0) (in_state g memory' locals') count →
      Matches acts g memory x y most u
  limit_met : (memory' locals' : List ℕ) (count : ℕ) → Passes g u.subst → count ≤ most + 5 + closing_most →
      Runs g.p 3337 16685 acts acts (in_state g memory (x ∷ y ∷ 0 ∷ 0 ∷ [])) (Stops AtQuit)
      (state memory' locals' g.typed g.drawn (closed g)) count → Matches acts g memory x y most u

-- Where one has clashed nothing is done by them, in 2 instructions.
abbrev pub Skips : List Act → Type 0
Skips acts = (p : Program) → IsMapped p → (f w : ℕ) (memory typed output : List ℕ) (drawn x y : ℕ) (cells : ℕ → ℕ) →
    Holds p.world.layout memory cells →
    cells clash_reg ≢ 0 → Runs p f w acts acts (state memory (x ∷ y ∷ 0 ∷ 0 ∷ []) typed drawn output) (Returns 0)
    (state memory (x ∷ y ∷ 0 ∷ 0 ∷ []) typed drawn output) 2

-- So they are as long as none has clashed; else nothing is done.
pub record MatchWorks : Type 0 where
  pub matches : (g : Setting) (S : Substitution) (m : Moment g S) (x y : ℕ) (a b : Value) → Shows g.sh x a → Shows g.sh y b →
      m.cells clash_reg ≡ 0 →
      Matches MATCH_ACTS g m.memory x y (price S ((a, b) ∷ [])) (unify S a b)
  pub skips : Skips MATCH_ACTS

-- Behind the last argument a routine comes next, or the one that fails, in 2 instructions, and nothing is changed.
pub record MatchedWorks : Type 0 where
  pub goes : (p : Program) → IsMapped p → (f w : ℕ) (memory typed output : List ℕ) (drawn x : ℕ) (cells : ℕ → ℕ) →
      Holds p.world.layout memory cells →
      cells clash_reg ≡ 0 → Runs p f w MATCHED_ACTS MATCHED_ACTS (state memory (x ∷ []) typed drawn output) (Returns x)
      (state memory (x ∷ []) typed drawn output) 2
  pub fails : (p : Program) → IsMapped p → (f w : ℕ) (memory typed output : List ℕ) (drawn x : ℕ) (cells : ℕ → ℕ) →
      Holds p.world.layout memory cells →
      cells clash_reg ≢ 0 → Runs p f w MATCHED_ACTS MATCHED_ACTS (state memory (x ∷ []) typed drawn output) (Returns (p.names.routine FAIL))
      (state memory (x ∷ []) typed drawn output) 2
