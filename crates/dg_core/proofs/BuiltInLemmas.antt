-- The goal of a built-in query is that of its terms.
use Rattle.std.proofs.Common.{◌≡◌, Bool, ◌∙◌, ap}
use Rattle.dg_base.specs.declared.names.Builtin.{Builtin}
use Rattle.dg_base.specs.declared.program.Term.{Term}
use Rattle.dg_core.specs.Goals.{built_in_goal}

pub same_built_in : (a b c x y z : Term) (many : Bool) (q : Builtin) → a ≡ x → b ≡ y → c ≡ z → built_in_goal a b c many q ≡ built_in_goal x y z many q
same_built_in a b c x y z many q e f g =
    ap (λ (t : Term). built_in_goal t b c many q) e
    ∙ ap (λ (t : Term). built_in_goal x t c many q) f
    ∙ ap (λ (t : Term). built_in_goal x y t many q) g
