-- What a rewritten tree and its names have where they come from a source that was read: hold it against docs/LANGUAGE.md, "Names", "Characters and
-- tokens", "The world" and "Limits".
use Rattle.std.specs.Prelude.{◌≡◌, ◌≤◌, ◌+◌, ℕ, List, [], ◌∷◌, Bool, true, false, All, length}
use Rattle.std.specs.List.{IsDistinct}
use Rattle.std.specs.Str.{bytes_eq}
use Rattle.dg_base.specs.Heads.{name_of}
use Rattle.dg_base.specs.Mentions.{Thing, query, select, closures, of_rule, of_said, mentioned}
use Rattle.dg_base.specs.Sound.{IsName}
use Rattle.dg_base.specs.Tree.{Parts, Value, anonymous, num, dict_word, object_name, plain_list, tailed_list, Values, no_values, value, Body, Said, rule, deny, global_variable, Item}
use Rattle.dg_base.specs.declared.mentions.Role.TheVariants as role
use Rattle.dg_scopes.specs.Few.{HasFewVariables}
use Rattle.dg_names.specs.Among.{IsAmong}
use Rattle.dg_names.specs.Named.{Named}
use Rattle.dg_core.specs.Matches.{ArePlain}
use Rattle.dg_core.specs.Places.{parent_name, place_names, head_values}

-- What is changed has at most two values, and a select has a branch and at most 500.
abbrev pub IsFit : Thing → Type 0
IsFit (query (role.Changed set) ps) = length (head_values ps) ≤ 2
IsFit (select n) = (1 ≤ n) × (n ≤ 500)
IsFit t = Unit {0}

abbrev mutual
  -- A value that may be declared: a number, a word, an object, or a list of such ones.
  pub IsSet : Value → Type 0
  IsSet (num n) = Unit {0}
  IsSet (dict_word w) = Unit {0}
  IsSet (object_name n) = Unit {0}
  IsSet (plain_list vs) = AreSet vs
  IsSet (tailed_list vs v) = AreSet vs × IsSet v
  IsSet v = ⊥

  pub AreSet : Values → Type 0
  AreSet no_values = Unit {0}
  AreSet (value v vs) = IsSet v × AreSet vs

-- A declared variable that is unset.
abbrev pub is_unset : Value → Bool
is_unset anonymous = true
is_unset v = false

-- The first of these values may be declared, or says that nothing is set.
abbrev pub MayStart : List Value → Type 0
MayStart [] = Unit {0}
MayStart (v ∷ vs) = is_unset v ≡ false → IsSet v

-- What is declared has one value, which it may have, and isn't the place of parents.
pub record IsDeclarable (ps : Parts) : Type 0 where
  pub one : length (head_values ps) ≡ 1
  pub value : MayStart (head_values ps)
  pub other : bytes_eq parent_name (name_of ps) ≡ false

-- A rule and each closure in it has at most 64 variables, and no query stands as a value in it.
pub record IsFitRule (ps : Parts) (b : Body) : Type 0 where
  pub few : HasFewVariables (rule ps b)
  pub plain : ArePlain (of_rule role.Rule ps b)

abbrev pub IsFitItem : Said → Type 0
IsFitItem (rule ps b) = IsFitRule ps b
IsFitItem (deny ps b) = IsFitRule ps b
IsFitItem (global_variable ps) = IsDeclarable ps
IsFitItem said = Unit {0}

-- How many closures stand in items.
abbrev pub closures_among : List Item → ℕ
closures_among [] = 0
closures_among (i ∷ is) = length (closures (of_said i.said)) + closures_among is

-- What a rewritten tree and its names have that come from a source.
pub record IsGiven (names : Named) (is : List Item) : Type 0 where
  pub things : All (IsAmong names) (mentioned is)
  pub fit : All IsFit (mentioned is)
  pub items : All (λ (i : Item). IsFitItem i.said) is
  pub few_closures : closures_among is ≤ 65535
  pub few_places : length (place_names is) ≤ 65534
  pub preds : All IsName names.preds
  pub objects : All IsName names.objects
  pub words : All IsName names.words
  pub words_differ : IsDistinct bytes_eq names.words
  pub few_preds : length names.preds ≤ 65535
  pub few_objects : length names.objects ≤ 65535
  pub few_words : length names.words ≤ 65535
