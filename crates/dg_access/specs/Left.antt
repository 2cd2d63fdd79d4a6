-- What is left to put in: hold it against docs/LANGUAGE.md, "Access rules".
use Rattle.std.specs.Prelude.{◌≡◌, List, Bool, false}
use Rattle.std.specs.List.{All}
use Rattle.std.specs.Option.{is_some}
use Rattle.dg_base.specs.Tree.{Said, topic, rule, deny, access, global_variable}
use Rattle.dg_base.specs.Mentions.{Thing, query, things_in}
use Rattle.dg_base.specs.declared.mentions.Role.TheVariants as role
use Rattle.dg_put.specs.Put.{Access, rule_for}

-- A query, a change or a head of an access rule's predicate.
abbrev pub is_left : List Access → Thing → Bool
is_left rules (query role.Asked ps) = is_some (rule_for rules ps)
is_left rules (query role.AskedAll ps) = is_some (rule_for rules ps)
is_left rules (query role.AskedNot ps) = is_some (rule_for rules ps)
is_left rules (query (role.Changed set) ps) = is_some (rule_for rules ps)
is_left rules (query role.Rule ps) = is_some (rule_for rules ps)
is_left rules t = false

-- Nothing is left to put in here.
abbrev pub NoneIsLeft : List Access → List Thing → Type 0
NoneIsLeft rules ts = All (λ (t : Thing). is_left rules t ≡ false) ts

-- Nothing is left to put in in what an item says. A declaration stays as it stands.
abbrev pub IsPutIn : List Access → Said → Type 0
IsPutIn rules (global_variable ps) = Unit {0}
IsPutIn rules (topic n) = NoneIsLeft rules (things_in (topic n))
IsPutIn rules (rule ps b) = NoneIsLeft rules (things_in (rule ps b))
IsPutIn rules (deny ps b) = NoneIsLeft rules (things_in (deny ps b))
IsPutIn rules (access ps b) = NoneIsLeft rules (things_in (access ps b))
