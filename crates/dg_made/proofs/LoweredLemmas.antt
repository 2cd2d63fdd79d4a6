-- The items of a made source are lowered: no item and no place gives a bad initial value, and the entry has a rule.
use Rattle.std.proofs.Common.{◌≡◌, ◌≤◌, ◌<◌, ◌+◌, ◌*◌, ◌%◌, ℕ, Bool, true, false, List, [], ◌∷◌, ◌++◌, codes, Option, Some, None, Ok, Err, Contains, length, map, position, append_assoc, mod-lt, refl, sym, ap, subst, ◌∙◌, arith}
use Rattle.std.specs.Prelude.{if◌then◌else◌}
use Rattle.std.specs.Option.{option_or}
use Rattle.std.specs.Str.{bytes_eq}
use Rattle.std.proofs.lemmas.Bool.{or_right, and_right, cond-true, cond-false}
use Rattle.std.proofs.lemmas.List.Folds.{list_any-append}
use Rattle.dg_base.specs.Heads.{name_of}
use Rattle.dg_base.specs.Mentions.{things_in, mentioned, names_in}
use Rattle.dg_base.specs.Tree.{Parts, Item}
use Rattle.dg_base.specs.declared.refusal.Refusal.{Refusal}
use Rattle.dg_base.proofs.MentionLemmas.{names_append}
use Rattle.dg_names.specs.Named.{Named, firsts}
use Rattle.dg_core.specs.Core.{Before, none_before, behind_item, outer_scope, initial_core, entry_name}
use Rattle.dg_core.specs.Goals.{Scope}
use Rattle.dg_core.specs.Places.{parent_name, is_among, declaration_in, declarations, declared_names, place_names, changed_in, kind_of}
use Rattle.dg_lower.specs.Lowered.{Sight, sight_of, is_bad_item, declared_behind, first_bad, is_rule_for, has_entry, item_refusal, start_refusal, name_refusal, place_refusal, entry_refusal, core_refusal, with_entry, IsLowered}
use Rattle.dg_lower.specs.Starts.{declared_start, searched}
use Rattle.dg_plain.specs.Items.{plain_items}
use Rattle.dg_prelude.specs.Rules.{prelude_rules}
use Rattle.dg_compile.specs.Source.{all_names, with_prelude}
use Rattle.dg_made.proofs.Items.{item, room_said, thing_said, room_name, thing_name, room_of, room_item, thing_item, program_items, first_of, made_items, Each, each_first}
use Rattle.dg_made.proofs.NamedLemmas.{made_objects, few_objects}
use Rattle.dg_made.proofs.StartLemmas.{GiveFacts, made_facts, parents_start}

-- The prelude with plain heads.
abbrev prelude_items : List Item
prelude_items = plain_items None prelude_rules

-- The program and the prelude behind it.
abbrev ending : ℕ → List Item
ending l = program_items l ++ prelude_items

-- The items of a made source, with the prelude behind them.
abbrev whole : ℕ → List Item
whole n = first_of room_item n ++ (first_of (thing_item n) n ++ ending (n + n))

made_whole : (n : ℕ) → with_prelude (made_items n) ≡ whole n
made_whole n =
    append_assoc (first_of room_item n) (first_of (thing_item n) n ++ program_items (n + n)) prelude_items
    ∙ ap (λ (l : List Item). first_of room_item n ++ l) (append_assoc (first_of (thing_item n) n) (program_items (n + n)) prelude_items)

-- ---- items that give no initial value

-- The places of parents, and of the counter, which is declared.
abbrev counter : List (List ℕ)
counter = codes "(count $)" ∷ []

abbrev placed : List (List ℕ)
placed = parent_name ∷ counter

abbrev sight : Scope → List Bool → Sight
sight around quiet = record { around = around; placed = placed; declared = counter; quiet = quiet }

-- An item that declares and changes nothing, and isn't bad.
record IsQuiet (i : Item) : Type 0 where
  declares : declaration_in i.said ≡ []
  changes : names_in changed_in (things_in i.said) ≡ []
  fine : (around : Scope) (quiet : List Bool) (n : Before) → is_bad_item (sight around quiet) n [] i.said ≡ false
  behind : declared_behind [] i.said ≡ []

room_quiet : (line : ℕ) (name : List ℕ) → IsQuiet (item line (room_said name))
room_quiet line name = record { declares = refl; changes = refl; fine = λ around quiet n. refl; behind = refl }

thing_quiet : (line : ℕ) (name room : List ℕ) → IsQuiet (item line (thing_said name room))
thing_quiet line name room = record { declares = refl; changes = refl; fine = λ around quiet n. and_right _ false refl; behind = refl }

quiet_declarations : (is rest : List Item) → Each IsQuiet is → declarations (is ++ rest) ≡ declarations rest
quiet_declarations [] rest h = refl
quiet_declarations (i ∷ is) rest h = ap (λ (l : List Parts). l ++ declarations (is ++ rest)) h.0.declares ∙ quiet_declarations is rest h.1

quiet_changes : (is rest : List Item) → Each IsQuiet is → names_in changed_in (mentioned (is ++ rest)) ≡ names_in changed_in (mentioned rest)
quiet_changes [] rest h = refl
quiet_changes (i ∷ is) rest h =
    names_append changed_in (things_in i.said) (mentioned (is ++ rest))
    ∙ ap (λ (l : List (List ℕ)). l ++ names_in changed_in (mentioned (is ++ rest))) h.0.changes
    ∙ quiet_changes is rest h.1

quiet_bad : (around : Scope) (quiet : List Bool) (is rest : List Item) → Each IsQuiet is
    → ((n : Before) → first_bad (sight around quiet) n [] rest ≡ None) → (n : Before) → first_bad (sight around quiet) n [] (is ++ rest) ≡ None
quiet_bad around quiet [] rest h k n = k n
quiet_bad around quiet (i ∷ is) rest h k n =
    cond-false _ _ _ (h.0.fine around quiet n)
    ∙ ap (λ (before : List (List ℕ)). first_bad (sight around quiet) (behind_item n i.said) before (is ++ rest)) h.0.behind
    ∙ quiet_bad around quiet is rest h.1 k (behind_item n i.said)

ending_bad : (around : Scope) (quiet : List Bool) (l : ℕ) (n : Before) → first_bad (sight around quiet) n [] (ending l) ≡ None
ending_bad around quiet l n = refl

-- ---- a made source

rooms_quiet : (n : ℕ) → Each IsQuiet (first_of room_item n)
rooms_quiet n = each_first IsQuiet room_item n (λ i lt. room_quiet (0 + i + 1) (room_name i))

things_quiet : (n : ℕ) → Each IsQuiet (first_of (thing_item n) n)
things_quiet n = each_first IsQuiet (thing_item n) n (λ i lt. thing_quiet (n + i + 1) (thing_name i) (room_of n i))

made_declarations : (n : ℕ) → declarations (whole n) ≡ declarations (ending (n + n))
made_declarations n =
    quiet_declarations (first_of room_item n) (first_of (thing_item n) n ++ ending (n + n)) (rooms_quiet n)
    ∙ quiet_declarations (first_of (thing_item n) n) (ending (n + n)) (things_quiet n)

made_declared : (n : ℕ) → declared_names (whole n) ≡ counter
made_declared n = ap (λ (heads : List Parts). firsts (map name_of heads)) (made_declarations n)

made_placed : (n : ℕ) → place_names (whole n) ≡ placed
made_placed n =
    let changes = quiet_changes (first_of room_item n) (first_of (thing_item n) n ++ ending (n + n)) (rooms_quiet n)
    ∙ quiet_changes (first_of (thing_item n) n) (ending (n + n)) (things_quiet n) in
    ap (λ (heads : List Parts). firsts (parent_name ∷ (map name_of heads ++ names_in changed_in (mentioned (whole n))))) (made_declarations n)
    ∙ ap (λ (changed : List (List ℕ)). firsts (parent_name ∷ (map name_of (declarations (ending (n + n))) ++ changed))) changes

none_bad : (names : Named) (quiet : List Bool) (n : ℕ) → first_bad (sight_of names (whole n) quiet) none_before [] (whole n) ≡ None
none_bad names quiet n =
    let around = outer_scope names (whole n) in
    let seen = ap (λ (ns : List (List ℕ)). first_bad (record { around = around; placed = ns; declared = declared_names (whole n); quiet = quiet }) none_before [] (whole n)) (made_placed n)
    ∙ ap (λ (ns : List (List ℕ)). first_bad (record { around = around; placed = placed; declared = ns; quiet = quiet }) none_before [] (whole n)) (made_declared n) in
    let things = quiet_bad around quiet (first_of (thing_item n) n) (ending (n + n)) (things_quiet n) (ending_bad around quiet (n + n)) in
    seen ∙ quiet_bad around quiet (first_of room_item n) (first_of (thing_item n) n ++ ending (n + n)) (rooms_quiet n) things none_before

-- ---- its places start

no_parents : (around : Scope) (l : ℕ) → GiveFacts around (ending l) []
no_parents around l n = refl

-- why the place of a name is refused, these being declared
abbrev refusal_by : Named → ℕ → List ℕ → List (List ℕ) → Option Refusal
refusal_by names n name declared =
    start_refusal (whole n) name
    (if is_among name declared then Ok (declared_start (outer_scope names (whole n)) name (declarations (whole n)))
    else searched (initial_core names (whole n)) (kind_of declared name) (position (bytes_eq name) names.preds))

parents_fine : (names : Named) (n : ℕ) → ((i : ℕ) → i < n → Contains names.objects (room_of n i)) → length names.objects ≤ 65535
    → name_refusal names (whole n) parent_name ≡ None
parents_fine names n there few =
    let around = outer_scope names (whole n) in
    let can = parents_start names (whole n) n (made_facts around n (ending (n + n)) (no_parents around (n + n))) there few in
    ap (refusal_by names n parent_name) (made_declared n) ∙ ap (start_refusal (whole n) parent_name) can.1

counter_fine : (names : Named) (n : ℕ) → name_refusal names (whole n) (codes "(count $)") ≡ None
counter_fine names n = ap (refusal_by names n (codes "(count $)")) (made_declared n)

places_fine : (names : Named) (n : ℕ) → ((i : ℕ) → i < n → Contains names.objects (room_of n i)) → length names.objects ≤ 65535
    → place_refusal names (whole n) (place_names (whole n)) ≡ None
places_fine names n there few =
    ap (place_refusal names (whole n)) (made_placed n)
    ∙ ap (λ (r : Option Refusal). option_or r (place_refusal names (whole n) counter)) (parents_fine names n there few)
    ∙ ap (λ (r : Option Refusal). option_or r None) (counter_fine names n)

-- ---- its entry

ending_entry : (l : ℕ) → has_entry (ending l) ≡ true
ending_entry l = refl

entry_first : (is rest : List Item) → has_entry rest ≡ true → has_entry (is ++ rest) ≡ true
entry_first is rest h = list_any-append (λ (i : Item). is_rule_for entry_name i.said) is rest ∙ or_right (has_entry is) (has_entry rest) h

entry_fine : (n : ℕ) → entry_refusal (whole n) ≡ None
entry_fine n =
    cond-true _ _ _ (entry_first (first_of room_item n) (first_of (thing_item n) n ++ ending (n + n))
    (entry_first (first_of (thing_item n) n) (ending (n + n)) (ending_entry (n + n))))

-- ---- nothing is refused

none_refused : (names : Named) (quiet : List Bool) (n : ℕ) → ((i : ℕ) → i < n → Contains names.objects (room_of n i)) → length names.objects ≤ 65535
    → core_refusal names (whole n) quiet ≡ None
none_refused names quiet n there few =
    ap (λ (line : Option ℕ). option_or (item_refusal line) (option_or (place_refusal names (whole n) (place_names (whole n))) (entry_refusal (whole n))))
    (none_bad names quiet n)
    ∙ ap (λ (r : Option Refusal). option_or r (entry_refusal (whole n))) (places_fine names n there few)
    ∙ entry_fine n

-- The items of a made source, with the prelude behind them, are not refused.
pub made_lowered : (n : ℕ) → 1 ≤ n → n ≤ 400 → (r : Refusal) → IsLowered (all_names (made_items n)) (with_prelude (made_items n)) (Err r) → ⊥
made_lowered n some le r h =
    let (quiet, set, refused) = subst (λ (is : List Item). IsLowered (all_names (made_items n)) is (Err r)) (made_whole n) h in
    let fine = none_refused (with_entry (all_names (made_items n))) quiet n (λ i lt. made_objects n ((7 * i + 3) % n) (mod-lt (7 * i + 3) some))
    (omega (arith, few_objects n some le)) in
    absurd (let no : None ≡ Some r = sym fine ∙ refused in cc)
