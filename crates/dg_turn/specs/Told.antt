-- What stays the same while a story is played: its program and its routines, where the player stands, and the routines of rules. Hold it against
-- dg_mid/specs/Code.antt, "Selection".
use Rattle.std.specs.Prelude.{◌≡◌, ℕ, ◌≤◌, List, [], ◌∷◌, length, Option, Some, None, true}
use Rattle.std.specs.List.{slice_get}
use Rattle.dg_base.specs.declared.program.ClosureBody.{ClosureBody}
use Rattle.dg_base.specs.declared.program.CoreProgram.{CoreProgram}
use Rattle.dg_base.specs.declared.program.Mode.{Mode}
use Rattle.dg_meaning.specs.Values.{Label, Unknown, Value}
use Rattle.dg_mid.specs.declared.code.RuleCode.{RuleCode}
use Rattle.dg_mid.specs.Code.{label_of}
use Rattle.z_lang.specs.declared.act.Act.{Act}
use Rattle.z_lang.specs.declared.act.Act.TheVariants as acts
use Rattle.z_lang.specs.declared.act.Args.TheVariants as args
use Rattle.z_lang.specs.declared.act.Atom.TheVariants as atoms
use Rattle.z_lang.specs.declared.act.Comparison.TheVariants as comparisons
use Rattle.z_lang.specs.State.{Program}
use Rattle.z_lang.specs.Standing.{Context}
use Rattle.dg_rt.specs.declared.numbers.TheConstants.{FOUND, NONE}
use Rattle.dg_rt.specs.declared.registers.TheConstants.{KEY, PARAMETERS}
use Rattle.dg_rt.specs.RunTime.{routine_of}
use Rattle.dg_rt.specs.Rules.{key_word, LabelFits, KeyIs}

-- A select of its code: the number of its site, its mode, and how many branches it has.
pub record Site : Type 0 where
  pub number : ℕ
  pub mode : Mode
  pub branches : ℕ

-- The program, the selects of its code, the routines that it became, the word of the routine of each of its blocks, the bytes of the story, and where the
-- player goes on behind a routine: what was called before, and where the call of the next one stands.
pub record Telling : Type 0 where
  pub program : CoreProgram
  pub sites : List Site
  pub p : Program
  pub at_block : ℕ → ℕ
  pub story : List ℕ
  pub context : Context
  pub pc : ℕ

-- How many values a closure captures; 256, more than any does, where there is none.
abbrev pub count_told : Option ClosureBody → ℕ
count_told None = 256
count_told (Some c) = length c.captured

-- How many values the closure of each place captures, as a story tells it.
abbrev pub told_count : CoreProgram → ℕ → ℕ
told_count program place = count_told (slice_get program.closures place)

-- The key of a first argument that was looked up: 32,768 where there is none, or a variable.
abbrev pub FirstIs : Option Value → ℕ → Type 0
FirstIs None k = k ≡ 32768
FirstIs (Some v) k = KeyIs v k

-- ## Routines of rules

-- A rule is found: the number of its parameters is put into their register, and the routine that enters it, its own, and that of the next rule are
-- handed over.
abbrev pub found_acts : (parameters enter self next : ℕ) → List Act
found_acts n enter self next =
    acts.Copy PARAMETERS (atoms.Num n)
    ∷ acts.Call (Some 1) (atoms.Routine FOUND) (args.Three (atoms.Routine enter) (atoms.Routine self) (atoms.Routine next))
    ∷ acts.Return (atoms.Var 1) ∷ []

-- A rule with a key is passed over where the register of keys has another one; else it is found.
abbrev pub rule_acts : Option Label → (parameters enter self next : ℕ) → List Act
rule_acts None n enter self next = found_acts n enter self next
rule_acts (Some f) n enter self next =
    acts.When
    (record { comparison = comparisons.Either (atoms.Num (key_word f)); first = atoms.Var KEY; second = atoms.Num 32768; answer = true }) 0
    ∷ acts.Return (atoms.Routine next) ∷ acts.Label 0 ∷ found_acts n enter self next

-- A key of a rule: it is no unknown word's, and its number is one of a story.
abbrev pub KeyFits : Option Label → Type 0
KeyFits None = Unit {0}
KeyFits (Some (Unknown spelling)) = ⊥
KeyFits (Some f) = LabelFits f

-- The routine of a rule of so many parameters stands at a number, with those of the others behind it.
pub record RuleAt (others : ℕ → Type 0) (t : Telling) (parameters number : ℕ) (r : RuleCode) : Type 0 where
  pub few : parameters ≤ 12
  pub enter : ℕ
  pub next : ℕ
  pub is : t.p.routine_at (t.p.names.routine number) ≡ Some (routine_of 1 (rule_acts (label_of r.key) parameters enter number next))
  pub enter_is : t.p.names.routine enter ≡ t.at_block r.block
  pub fits : KeyFits (label_of r.key)
  pub behind : others next

-- The routines of rules; behind the last stands the one for what was found.
abbrev pub RulesAt : Telling → ℕ → ℕ → List RuleCode → Type 0
RulesAt t parameters number [] = number ≡ NONE
RulesAt t parameters number (r ∷ rs) = RuleAt (λ n. RulesAt t parameters n rs) t parameters number r
