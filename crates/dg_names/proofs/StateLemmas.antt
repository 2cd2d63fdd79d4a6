-- What is noted at one step.
use Rattle.std.proofs.Common.{◌≡◌, ◌||◌, List, [], ◌∷◌, ◌++◌, Bool, false, refl, sym, ◌∙◌, ap}
use Rattle.dg_base.specs.Walk.{Met, opens, closes, mention_view}
use Rattle.dg_base.specs.declared.mentions.Mention.{Mention}
use Rattle.dg_base.specs.declared.mentions.Mention.TheVariants as mention
use Rattle.dg_names.specs.Scopes as spec
use Rattle.dg_names.specs.Scopes.{no_variables, is_over, merged, passes}
use Rattle.dg_names.specs.State.{scope_view, stack_of, IsNoted}
use Rattle.dg_names.specs.declared.state.Scope.{Scope}
use Rattle.dg_names.specs.declared.state.Scopes.{Scopes}

pub stack_push : (ss : List Scope) (s : Scope) → stack_of (ss ++ s ∷ []) ≡ scope_view s ∷ stack_of ss
stack_push [] s = refl
stack_push (t ∷ ss) s = ap (λ (l : List spec.Scope). l ++ scope_view t ∷ []) (stack_push ss s)

pub noted_opened : (old new : Scopes) → scope_view new.inner ≡ no_variables → stack_of new.outer.items ≡ scope_view old.inner ∷ stack_of old.outer.items → IsNoted opens old new false
noted_opened old new inner outer = record {
  counted = λ ms. ap (λ (s : spec.Scope). passes ms s (scope_view old.inner ∷ stack_of old.outer.items)) (sym inner) ∙ ap (passes ms (scope_view new.inner)) (sym outer);
  kept = λ e. ap is_over inner;
}

pub noted_closed : (old new : Scopes) (o : Scope) (over : Bool) → old.outer.items ≡ new.outer.items ++ o ∷ [] → scope_view new.inner ≡ merged (scope_view o) (scope_view old.inner) → over ≡ is_over (scope_view new.inner) → IsNoted closes old new over
noted_closed old new o over outer inner full = record {
  counted = λ ms.
      ap (passes (closes ∷ ms) (scope_view old.inner)) (ap stack_of outer ∙ stack_push new.outer.items o)
      ∙ ap (λ (s : spec.Scope). is_over s || passes ms s (stack_of new.outer.items)) (sym inner)
      ∙ ap (λ (b : Bool). b || passes ms (scope_view new.inner) (stack_of new.outer.items)) (sym full);
  kept = λ e. sym full ∙ e;
}

-- a mention of no variable and of no closure
pub still : (m : Mention) → ((n : _) → m ≡ Mention.Variable n → ⊥) → ((b : Bool) → m ≡ Mention.Unnamed b → ⊥) → ((ws : _) → m ≡ Mention.Choice ws → ⊥) → (m ≡ Mention.Opened → ⊥) → (m ≡ Mention.Closed → ⊥) → (s : spec.Scope) (outer : List spec.Scope) → is_over s ≡ false → (ms : List Met) → passes (mention_view m ∷ ms) s outer ≡ passes ms s outer
still (mention.Variable n) v u w o c s outer few ms = absurd (v n refl)
still (mention.Unnamed b) v u w o c s outer few ms = absurd (u b refl)
still (mention.Choice ws) v u w o c s outer few ms = absurd (w ws refl)
still mention.Opened v u w o c s outer few ms = absurd (o refl)
still mention.Closed v u w o c s outer few ms = absurd (c refl)
still (mention.TopicLine n) v u w o c s outer few ms = ap (λ (b : Bool). b || passes ms s outer) few
still (mention.Query r h) v u w o c s outer few ms = ap (λ (b : Bool). b || passes ms s outer) few
still (mention.Number n) v u w o c s outer few ms = ap (λ (b : Bool). b || passes ms s outer) few
still (mention.Word n) v u w o c s outer few ms = ap (λ (b : Bool). b || passes ms s outer) few
still (mention.Object n) v u w o c s outer few ms = ap (λ (b : Bool). b || passes ms s outer) few
still mention.Topic v u w o c s outer few ms = ap (λ (b : Bool). b || passes ms s outer) few
still (mention.Text n) v u w o c s outer few ms = ap (λ (b : Bool). b || passes ms s outer) few
still (mention.Other f) v u w o c s outer few ms = ap (λ (b : Bool). b || passes ms s outer) few
still (mention.Branches n) v u w o c s outer few ms = ap (λ (b : Bool). b || passes ms s outer) few
still (mention.Select n) v u w o c s outer few ms = ap (λ (b : Bool). b || passes ms s outer) few
