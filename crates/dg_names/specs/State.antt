-- What is counted so far, as plain data. The proofs alone rest on it.
use Rattle.std.specs.Prelude.{◌≡◌, ℕ, ◌+◌, ◌||◌, List, [], ◌∷◌, ◌++◌, Bool, false, map, Vec, nat_lt, if◌then◌else◌}
use Rattle.std.specs.Borrow.{Bor}
use Rattle.indexmap.specs.IndexSet.{IndexSet}
use Rattle.dg_base.specs.Tree.{Said, Item}
use Rattle.dg_base.specs.Mentions.{Thing, things_in, names_in, weight_of}
use Rattle.dg_base.specs.Walk.{Met}
use Rattle.dg_names.specs.Named.{Named, predicate_in, object_in, thing_words}
use Rattle.dg_names.specs.Counts.{closures_at, selects_at, is_rule, are_many_names}
use Rattle.dg_names.specs.Scopes as spec
use Rattle.dg_names.specs.Scopes.{with_names, is_over, passes}
use Rattle.dg_names.specs.declared.state.Names.{Names}
use Rattle.dg_names.specs.declared.state.Scope.{Scope}
use Rattle.dg_names.specs.declared.state.Scopes.{Scopes}
use Rattle.dg_names.specs.declared.state.Tally.{Tally}

-- ---- variables

abbrev pub seen : List (Bor (List ℕ)) → List (List ℕ)
seen ns = map (λ (n : Bor (List ℕ)). n.now) ns

abbrev pub scope_view : Scope → spec.Scope
scope_view s = record { names = seen s.names.items; own = s.own; shared = s.shared }

-- The scopes outside, the nearest first.
abbrev pub stack_of : List Scope → List spec.Scope
stack_of [] = []
stack_of (s ∷ ss) = stack_of ss ++ scope_view s ∷ []

-- What was met was noted, and this says whether there are too many variables there.
pub record IsNoted (m : Met) (old new : Scopes) (over : Bool) : Type 0 where
  pub counted : (ms : List Met) → passes (m ∷ ms) (scope_view old.inner) (stack_of old.outer.items) ≡
      (over || passes ms (scope_view new.inner) (stack_of new.outer.items))
  pub kept : over ≡ false → is_over (scope_view new.inner) ≡ false

-- ---- names and numbers

pub record Told : Type 0 where
  pub preds : List (List ℕ)
  pub objects : List (List ℕ)
  pub words : List (List ℕ)
  pub closures : ℕ
  pub selects : ℕ
  pub rules : ℕ

-- What is told behind these mentions.
abbrev pub told : List Thing → Told → Told
told ts t = record {
  preds = with_names t.preds (names_in predicate_in ts);
  objects = with_names t.objects (names_in object_in ts);
  words = with_names t.words (names_in thing_words ts);
  closures = t.closures + weight_of closures_at ts;
  selects = t.selects + weight_of selects_at ts;
  rules = t.rules;
}

-- What is told behind an item.
abbrev pub behind : Told → Said → Told
behind t said = record (told (things_in said) t) { rules = if is_rule said then t.rules + 1 else t.rules }

-- The names in a set, in order.
abbrev pub listed : {A B S : Type 0} → IndexSet (Vec A B) S → List (List A)
listed set = map (λ n. n.items) set.keys

abbrev pub tally_view : Tally → Told
tally_view t = record {
  preds = listed t.sets.preds;
  objects = listed t.sets.objects;
  words = listed t.sets.words;
  closures = t.numbers.closures;
  selects = t.numbers.selects;
  rules = t.numbers.rules;
}

-- ---- all items

-- Nothing yet.
abbrev pub untold : Told
untold = record { preds = []; objects = []; words = []; closures = 0; selects = 0; rules = 0 }

-- What is told of these items, from what was told on.
abbrev pub told_on : Told → List Item → Told
told_on t [] = t
told_on t (i ∷ is) = told_on (behind t i.said) is

-- The names that were told.
abbrev pub told_names : Told → Named
told_names t = record { preds = t.preds; objects = t.objects; words = t.words }

-- A count in all passes its number.
abbrev pub has_many : Told → Bool
has_many t = are_many_names (told_names t) || (nat_lt 16000 t.rules || (nat_lt 16000 t.closures || nat_lt 500 t.selects))

abbrev pub names_view : Names → Named
names_view names = record { preds = listed names.preds; objects = listed names.objects; words = listed names.words }
