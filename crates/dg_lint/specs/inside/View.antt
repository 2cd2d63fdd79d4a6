-- What the code keeps, as plain data. The proofs alone rest on it.
use Rattle.std.specs.Prelude.{List, [], ◌∷◌, Bool}
use Rattle.dg_base.specs.Tree.{Item}
use Rattle.dg_base.specs.Mentions.{Thing, names_in, things_in}
use Rattle.dg_names.specs.Scopes.{with_names}
use Rattle.dg_names.specs.State.{listed}
use Rattle.dg_lint.specs.Uses as spec
use Rattle.dg_lint.specs.Uses.{asks, gives, changes, is_access, named_where}
use Rattle.dg_lint.specs.declared.uses.Uses.{Uses}

abbrev pub uses_view : Uses → spec.Uses
uses_view u = record { asked = listed u.asked; given = listed u.given; changed = listed u.changed }

-- Nothing yet.
abbrev pub unused : spec.Uses
unused = record { asked = []; given = []; changed = [] }

-- What is used behind these things, of an access rule or not.
abbrev pub used : Bool → List Thing → spec.Uses → spec.Uses
used all ts u = record {
  asked = with_names u.asked (names_in (named_where all asks) ts);
  given = with_names u.given (names_in (named_where all gives) ts);
  changed = with_names u.changed (names_in (named_where all changes) ts);
}

-- What is used behind these items.
abbrev pub used_by : List Item → spec.Uses → spec.Uses
used_by [] u = u
used_by (i ∷ is) u = used_by is (used (is_access i.said) (things_in i.said) u)
