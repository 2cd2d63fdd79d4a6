-- Where what is mentioned comes from once access rules are put in: hold it against docs/LANGUAGE.md, "Access rules".
use Rattle.std.specs.Prelude.{◌≡◌, List, Bool, true, false}
use Rattle.std.specs.List.{All, Contains}
use Rattle.dg_base.specs.Heads.{name_of}
use Rattle.dg_base.specs.Tree.{Parts, Item}
use Rattle.dg_base.specs.Mentions.{Thing, query, variable, unnamed, other, branches, mentioned}
use Rattle.dg_base.specs.declared.mentions.Form.TheVariants as form
use Rattle.dg_base.specs.declared.mentions.Role.{Role}
use Rattle.dg_base.specs.declared.mentions.Role.TheVariants as role
use Rattle.dg_items.specs.Expanded.{access_rules, put_items}

-- A variable, braces of some sort, or a body.
abbrev pub is_made : Thing → Bool
is_made (variable n) = true
is_made (other form.Group) = true
is_made (other form.NotGroup) = true
is_made (other form.First) = true
is_made (branches n) = true
is_made t = false

-- A head of a rule, a query of a body, or a change: what an access rule may put a head or a change for.
abbrev pub is_turned : Role → Bool
is_turned role.Access = false
is_turned role.Declared = false
is_turned role.Nested = false
is_turned r = true

-- A thing comes from these: it is made or stands among them, is a query with other parts, an anonymous variable, or a change or a head
-- of a predicate that is asked, changed or a head there. A change comes only where one stands.
pub data PutFrom (ts : List Thing) : Thing → Type 0 where
  made : (t : Thing) → is_made t ≡ true → PutFrom ts t
  same : (t : Thing) → Contains ts t → PutFrom ts t
  again : (r : Role) (ps qs : Parts) → name_of ps ≡ name_of qs → Contains ts (query r ps) → PutFrom ts (query r qs)
  left : (a b : Bool) → Contains ts (unnamed a) → PutFrom ts (unnamed b)
  changed : (s set : Bool) (r : Role) (ks ps qs : Parts) → Contains ts (query (role.Changed s) ks) → is_turned r ≡ true → name_of ps ≡ name_of qs
      → Contains ts (query r ps) → PutFrom ts (query (role.Changed set) qs)
  headed : (r : Role) (ps qs : Parts) → is_turned r ≡ true → name_of ps ≡ name_of qs → Contains ts (query r ps) → PutFrom ts (query role.Rule qs)

-- All that items mention with access rules put in comes from what they mention.
abbrev pub MentionsArePut : List Item → Type 0
MentionsArePut is = All (PutFrom (mentioned is)) (mentioned (put_items (access_rules is) is))
