-- The core program of a tree, or why the tree is refused: hold it against docs/LANGUAGE.md, "Names" and "The world", docs/REFUSALS.md, and the chapters of
-- the Dialog manual on predicates, rules and the world.
use Rattle.std.specs.Prelude.{◌≡◌, ◌&&◌, ◌||◌, ℕ, List, [], ◌∷◌, ◌++◌, Option, Some, None, Bool, false, not, Result, Ok, Err, map, if◌then◌else◌}
use Rattle.std.specs.List.{list_any}
use Rattle.std.specs.Option.{option_or}
use Rattle.std.specs.Str.{bytes_eq}
use Rattle.dg_base.specs.Heads.{name_of}
use Rattle.dg_base.specs.Tree.{Said, rule, deny, global_variable, Item}
use Rattle.dg_base.specs.declared.program.CoreProgram.{CoreProgram as Core}
use Rattle.dg_base.specs.declared.program.Place.{Place}
use Rattle.dg_base.specs.declared.program.Pred.{Pred}
use Rattle.dg_base.specs.declared.program.Rule.{Rule}
use Rattle.dg_base.specs.declared.refusal.Kind.{Kind}
use Rattle.dg_base.specs.declared.refusal.Kind.TheVariants.{BadInitial, NoEntry}
use Rattle.dg_base.specs.declared.refusal.Refusal.{Refusal}
use Rattle.dg_meaning.specs.Quiet.{are_quiet, AreQuiet}
use Rattle.dg_meaning.specs.Sets.{is_in_set}
use Rattle.dg_names.specs.Named.{Named}
use Rattle.dg_core.specs.Core.{Before, none_before, behind_item, rule_of, failing, outer_scope, with_rules, entry_name, initial_core}
use Rattle.dg_core.specs.Goals.{Scope}
use Rattle.dg_core.specs.Places.{is_among, declared_names, place_names, kind_of}
use Rattle.dg_lower.specs.Starts.{Starts, place_starts}

-- ---- the program

-- What starts set, and nothing where a place can't start.
abbrev pub or_nothing : Result Starts Kind → Starts
or_nothing (Ok starts) = starts
or_nothing (Err kind) = []

-- The place of a name.
abbrev pub core_place : Named → List Item → List ℕ → Place
core_place names items name = record { kind = kind_of (declared_names items) name; start = or_nothing (place_starts names items name) }

-- A predicate without the rules that only say how its place starts.
abbrev pub without_starts : List (List ℕ) → Pred → Pred
without_starts placed p = record p { rules = if is_among p.name placed then [] else p.rules }

-- The core program of a tree, the entry being among its names.
abbrev pub core_of : Named → List Item → Core
core_of names items = let core = with_rules names items in record core {
  preds = map (without_starts (place_names items)) core.preds;
  places = map (core_place names items) (place_names items);
}

-- ---- items that give no initial value, though they should

-- Which predicates of the initial core change: those that have a place.
abbrev pub changing : Named → List Item → List Bool
changing names items = map (λ name. is_among name (place_names items)) names.preds

-- What is looked at in items: the scope around them, the predicates of the initial core, the names of places and of declared variables, and which
-- predicates are quiet.
pub record Sight : Type 0 where
  pub around : Scope
  pub placed : List (List ℕ)
  pub declared : List (List ℕ)
  pub quiet : List Bool

abbrev pub sight_of : Named → List Item → List Bool → Sight
sight_of names items quiet = record {
  around = outer_scope names items;
  placed = place_names items;
  declared = declared_names items;
  quiet = quiet;
}

-- A rule of the predicate of this name gives no initial value: its body isn't quiet.
abbrev pub is_loud : Sight → List ℕ → Rule → Bool
is_loud s name r = is_among name s.placed && (is_among name s.around.names.preds && not (are_quiet s.quiet r.body))

-- A rule of a declared variable gives none either.
abbrev pub is_bad_rule : Sight → List ℕ → Rule → Bool
is_bad_rule s name r = is_among name s.declared || is_loud s name r

-- An item gives no initial value, though it should, some names being declared before it: by such a rule, or by the second declaration of a name.
abbrev pub is_bad_item : Sight → Before → List (List ℕ) → Said → Bool
is_bad_item s n before (rule ps b) = is_bad_rule s (name_of ps) (rule_of s.around n ps b [])
is_bad_item s n before (deny ps b) = is_bad_rule s (name_of ps) (rule_of s.around n ps b failing)
is_bad_item s n before (global_variable ps) = is_among (name_of ps) before
is_bad_item s n before said = false

-- The names that are declared behind an item.
abbrev pub declared_behind : List (List ℕ) → Said → List (List ℕ)
declared_behind before (global_variable ps) = before ++ name_of ps ∷ []
declared_behind before said = before

-- The line of the first such item.
abbrev pub first_bad : Sight → Before → List (List ℕ) → List Item → Option ℕ
first_bad s n before [] = None
first_bad s n before (i ∷ is) = if is_bad_item s n before i.said then Some i.line else first_bad s (behind_item n i.said) (declared_behind before i.said) is

-- ---- what is refused

-- An item gives a rule to the predicate of this name.
abbrev pub is_rule_for : List ℕ → Said → Bool
is_rule_for name (rule ps b) = bytes_eq (name_of ps) name
is_rule_for name (deny ps b) = bytes_eq (name_of ps) name
is_rule_for name said = false

-- The line of the first item that does.
abbrev pub rule_line : List ℕ → List Item → ℕ
rule_line name [] = 1
rule_line name (i ∷ is) = if is_rule_for name i.said then i.line else rule_line name is

-- The refusal for a bad item.
abbrev pub item_refusal : Option ℕ → Option Refusal
item_refusal None = None
item_refusal (Some line) = Some (record { kind = BadInitial; line = line })

-- The refusal for a place that can't start.
abbrev pub start_refusal : List Item → List ℕ → Result Starts Kind → Option Refusal
start_refusal items name (Ok starts) = None
start_refusal items name (Err kind) = Some (record { kind = kind; line = rule_line name items })

-- The refusal for the place of a name.
abbrev pub name_refusal : Named → List Item → List ℕ → Option Refusal
name_refusal names items name = start_refusal items name (place_starts names items name)

-- The refusal for the first place of these names that can't start.
abbrev pub place_refusal : Named → List Item → List (List ℕ) → Option Refusal
place_refusal names items [] = None
place_refusal names items (n ∷ ns) = option_or (name_refusal names items n) (place_refusal names items ns)

-- A rule or a negated rule has the entry's name.
abbrev pub has_entry : List Item → Bool
has_entry items = list_any (λ (i : Item). is_rule_for entry_name i.said) items

-- The refusal for want of an entry.
abbrev pub entry_refusal : List Item → Option Refusal
entry_refusal items = if has_entry items then None else Some (record { kind = NoEntry; line = 1 })

-- The refusal of a tree, where these predicates are quiet: for its first bad item, or else for the first place that can't start, or else for want of an
-- entry.
abbrev pub core_refusal : Named → List Item → List Bool → Option Refusal
core_refusal names items quiet =
    option_or (item_refusal (first_bad (sight_of names items quiet) none_before [] items))
    (option_or (place_refusal names items (place_names items)) (entry_refusal items))

-- Which predicates of the initial core are quiet.
abbrev pub IsQuietSet : Named → List Item → List Bool → Type 0
IsQuietSet names items quiet = AreQuiet (initial_core names items).preds (is_in_set (changing names items)) quiet

-- What comes of a tree, the entry being among its names.
abbrev pub ComesOf : Named → List Item → Result Core Refusal → Type 0
ComesOf names items (Ok core) = (quiet : List Bool) × IsQuietSet names items quiet × (core_refusal names items quiet ≡ None) × (core ≡ core_of names items)
ComesOf names items (Err r) = (quiet : List Bool) × IsQuietSet names items quiet × (core_refusal names items quiet ≡ Some r)

-- The names of a tree, with that of the entry behind the predicates where it isn't among them.
abbrev pub with_entry : Named → Named
with_entry names = record names { preds = if is_among entry_name names.preds then names.preds else names.preds ++ entry_name ∷ [] }

-- The core program of these names and items, or why they are refused. Where a tree has no entry, one without rules is searched as well.
abbrev pub IsLowered : Named → List Item → Result Core Refusal → Type 0
IsLowered names items answer = ComesOf (with_entry names) items answer
