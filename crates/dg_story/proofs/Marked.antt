-- What is built has the marks of its rules.
use Rattle.std.proofs.Common.{◌≡◌, ℕ, ◌+◌, ◌≤◌, List, length, drop, IfOk, Result, Ok, Err, Vec, Global, sym, ap, ◌∙◌, subst}
use Rattle.dg_base.specs.declared.program.CoreProgram.{CoreProgram}
use Rattle.dg_mid.specs.declared.code.Code.{Code}
use Rattle.dg_mid.specs.Codes.{Codes}
use Rattle.dg_mid.specs.Potential.{Tidy}
use Rattle.z_asm.specs.Assembled.{ArePlaces}
use Rattle.z_list.specs.declared.mark.Mark.{Mark}
use Rattle.z_story.specs.declared.building.Parts.{Parts}
use Rattle.z_story.specs.declared.building.Placed.{Placed}
use Rattle.z_story.specs.Parts.{image_of}
use Rattle.dg_chain.specs.Agrees.{Agrees}
use Rattle.dg_emit.specs.Story.{first_number}
use Rattle.dg_story.specs.declared.building.Built.{Built}
use Rattle.dg_story.specs.Built.{story_parts, keeps_within, IsStoryOf, IsBuilt, rule_count}
use Rattle.dg_story.specs.Marks.{rule_names, HasMarks}
use Rattle.dg_story.specs.inside.Marked.{marks_at, HasThose}
use Rattle.dg_story.proofs.Marking.{enough, has_marks}

if_ok : {A E : Type 0} (P Q : A → Type 0) (r : Result A E) → ((x : A) → P x → Q x) → IfOk r P → IfOk r Q
if_ok P Q (Ok x) f h = f x h
if_ok P Q (Err e) f h = tt

abbrev Names : Type 0
Names = Vec (ℕ × ℕ) Global

module _ (program : CoreProgram) (code : Code) (codes : Codes program code) where
  abbrev parts : Parts
  parts = story_parts program code (keeps_within program)

  -- There is a place for each name.
  pub rules_enough : {E : Type 0} (places : List (ℕ × ℕ)) → ArePlaces (image_of parts) places → (rules : Result Names E) → IfOk rules (λ names. names.items ≡ rule_names 0 program.preds) →
      IfOk rules (λ names. first_number + length names.items ≤ length places)
  rules_enough places are rules h =
      if_ok (λ names. names.items ≡ rule_names 0 program.preds) (λ names. first_number + length names.items ≤ length places) rules
      (λ names e. subst (λ (l : List (ℕ × ℕ)). first_number + length l ≤ length places) (sym e) (enough program code (keeps_within program) codes places are)) h

  module _ {E : Type 0} (tidy : Tidy code) (placed : Placed) (rules : Result Names E) (named : IfOk rules (λ names. names.items ≡ rule_names 0 program.preds)) (count : ℕ) (many : count ≡ rule_count program.preds)
      (story : IsStoryOf parts placed.story.items) (are : ArePlaces (image_of parts) placed.places.items) where
    built_one : (built : Built) → HasThose placed rules count built → IsBuilt program built
    built_one built h =
        let names_are : h.names.items ≡ rule_names 0 program.preds = subst (λ (r : Result Names E). IfOk r (λ names. names.items ≡ rule_names 0 program.preds)) h.named named in
        let marks_are : built.marks.items ≡ marks_at (rule_names 0 program.preds) (drop first_number placed.places.items) =
        h.marks ∙ ap (λ (l : List (ℕ × ℕ)). marks_at l (drop first_number placed.places.items)) names_are in
        record {
          code = code;
          codes = codes;
          tidy = tidy;
          story = subst (λ (l : List ℕ). IsStoryOf parts l) (sym h.story) story;
          rules = h.count_is ∙ many;
          marks =
              subst (λ (l : List ℕ). HasMarks program code parts l built.marks.items) (sym h.story)
              (subst (λ (l : List Mark). HasMarks program code parts placed.story.items l) (sym marks_are)
              (has_marks program code (keeps_within program) codes placed.places.items are placed.story.items story.bytes));
        }

    pub built_so : {F : Type 0} (result : Result Built F) → IfOk result (λ built. HasThose placed rules count built) → IfOk result (λ built. IsBuilt program built)
    built_so result h = if_ok (λ built. HasThose placed rules count built) (λ built. IsBuilt program built) result built_one h

-- The story that is built agrees.
pub agrees_so : {E F : Type 0} (program : CoreProgram) (placed : Placed) (rules : Result Names E) (count : ℕ) → Agrees placed.story.items program → (result : Result Built F) →
    IfOk result (λ built. HasThose placed rules count built) → IfOk result (λ built. Agrees built.story.items program)
agrees_so program placed rules count agrees result h =
    if_ok (λ built. HasThose placed rules count built) (λ built. Agrees built.story.items program) result
    (λ built w. subst (λ (l : List ℕ). Agrees l program) (sym w.story) agrees) h
