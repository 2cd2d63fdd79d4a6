-- Where the rules of a program stand in its story. Hold it against dg_emit/specs/Code.antt, which says what the routine of a rule is.
use Rattle.std.specs.Prelude.{◌≡◌, ℕ, zero, suc, ◌+◌, ◌*◌, List, [], ◌∷◌, ◌++◌, length, map, drop, Some}
use Rattle.std.specs.List.{slice_get}
use Rattle.dg_base.specs.declared.program.CoreProgram.{CoreProgram}
use Rattle.dg_base.specs.declared.program.Pred.{Pred}
use Rattle.dg_mid.specs.declared.code.Code.{Code}
use Rattle.dg_mid.specs.declared.code.RuleCode.{RuleCode}
use Rattle.dg_mid.specs.Code.{rules_at}
use Rattle.z_asm.specs.Layout.{code_size}
use Rattle.z_lang.specs.declared.act.Routine.{Routine}
use Rattle.z_list.specs.declared.mark.Mark.{Mark}
use Rattle.z_list.specs.Listing.{AreMarks}
use Rattle.z_story.specs.declared.building.Parts.{Parts}
use Rattle.z_story.specs.Parts.{routine_code}
use Rattle.z_story.specs.Does.{packed_at}
use Rattle.dg_emit.specs.Numbers.{numbers_from}
use Rattle.dg_emit.specs.Code.{rule_routine}
use Rattle.dg_emit.specs.Story.{first_number}

-- The numbers of a predicate and of so many of its rules, from one on.
abbrev pub names_from : (pred : ℕ) → (rule : ℕ) → (count : ℕ) → List (ℕ × ℕ)
names_from pred rule zero = []
names_from pred rule (suc count) = (pred, rule) ∷ names_from pred (rule + 1) count

-- The numbers of the rules of predicates, the first of which has a number, and of their predicates, in order.
abbrev pub rule_names : ℕ → List Pred → List (ℕ × ℕ)
rule_names number [] = []
rule_names number (pred ∷ preds) = names_from number 0 (length pred.rules) ++ rule_names (number + 1) preds

abbrev pub mark_name : Mark → ℕ × ℕ
mark_name m = (m.pred, m.rule)

-- The routine of this number is that of the rule that a mark names, with others behind it, and the mark has its bytes.
pub record IsMarked (code : Code) (parts : Parts) (number : ℕ) (m : Mark) : Type 0 where
  pub rule : RuleCode
  pub others : List RuleCode
  pub here : drop m.rule (rules_at code m.pred) ≡ rule ∷ others
  pub routine : Routine
  pub is : routine ≡ rule_routine code (numbers_from first_number code) number rule others
  pub stands : slice_get parts.routines number ≡ Some routine
  pub from : m.from ≡ 8 * packed_at parts number
  pub to : m.to ≡ m.from + code_size (routine_code routine)

-- Each rule has one mark, in order, which is where its routine stands; they are apart and within the story.
pub record HasMarks (program : CoreProgram) (code : Code) (parts : Parts) (story : List ℕ) (marks : List Mark) : Type 0 where
  pub names : map mark_name marks ≡ rule_names 0 program.preds
  pub each : (k : ℕ) (m : Mark) → slice_get marks k ≡ Some m → IsMarked code parts (first_number + k) m
  pub apart : AreMarks 0 (length story) marks
