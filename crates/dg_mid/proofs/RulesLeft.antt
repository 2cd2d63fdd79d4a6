-- Which rules are left of a query.
use Rattle.std.proofs.Common.{◌≡◌, ◌≤◌, List, [], ◌∷◌, ◌++◌, append_assoc, Option, refl, sym, ap, ◌∙◌, arith, length}
use Rattle.std.proofs.lemmas.Bool.{cond_both}
use Rattle.std.proofs.lemmas.List.{length-append}
use Rattle.dg_meaning.specs.Values.{Value}
use Rattle.dg_mid.specs.declared.code.RuleCode.{RuleCode}
use Rattle.dg_mid.specs.Code.{excluded, selected}

-- some rules stand at the end of others
pub record EndsIn (all rules : List RuleCode) : Type 0 where
  pub front : List RuleCode
  pub is : all ≡ front ++ rules

pub ends_here : (rules : List RuleCode) → EndsIn rules rules
ends_here rules = record { front = []; is = refl }

pub ends_later : (r : RuleCode) (all rules : List RuleCode) → EndsIn all rules → EndsIn (r ∷ all) rules
ends_later r all rules h = record { front = r ∷ h.front; is = ap (λ l. r ∷ l) h.is }

pub ends_on : (all mid rules : List RuleCode) → EndsIn all mid → EndsIn mid rules → EndsIn all rules
ends_on all mid rules a b = record { front = a.front ++ b.front; is = a.is ∙ ap (λ l. a.front ++ l) b.is ∙ sym (append_assoc a.front b.front rules) }

pub selected_end : (first : Option Value) (rules : List RuleCode) → EndsIn rules (selected first rules)
selected_end first [] = ends_here []
selected_end first (r ∷ rs) = cond_both (excluded first r.key) (selected first rs) (r ∷ rs) (EndsIn (r ∷ rs)) (λ e. ends_later r rs (selected first rs) (selected_end first rs)) (λ e. ends_here (r ∷ rs))

pub next_end : (r : RuleCode) (all rules : List RuleCode) → EndsIn all (r ∷ rules) → EndsIn all rules
next_end r all rules h = record { front = h.front ++ r ∷ []; is = h.is ∙ sym (append_assoc h.front (r ∷ []) rules) }

pub no_longer : (all rules : List RuleCode) → EndsIn all rules → length rules ≤ length all
no_longer all rules h = let len = ap length h.is ∙ length-append h.front rules in omega (arith, len)
