-- The place of parents can start in a made source: its rules are facts, and the search for each object finds one of them or none.
use Rattle.std.proofs.Common.{◌≡◌, ◌≤◌, ◌<◌, ◌+◌, ◌-◌, ℕ, zero, suc, Bool, true, false, List, [], ◌∷◌, ◌++◌, Option, Some, None, Result, Ok, Contains, eqb, length, length-append, map, get_or, slice_get, position, append_assoc, option_map, refl, sym, ap, subst, ◌∙◌, arith}
use Rattle.std.specs.Prelude.{nat_lt, if◌then◌else◌}
use Rattle.std.specs.Str.{bytes_eq}
use Rattle.std.specs.Cmp.Lexicographic.{bytes_decides}
use Rattle.std.proofs.lemmas.Bool.{lt-ltb, le-ltb, cond-true}
use Rattle.std.proofs.lemmas.List.Quantifiers.{position-Some}
use Rattle.std.proofs.lemmas.Option.{slice_get-map, slice_get-get_or, slice_get_within}
use Rattle.dg_base.specs.Tree.{Item}
use Rattle.dg_base.specs.declared.program.CoreProgram.{CoreProgram as Core}
use Rattle.dg_base.specs.declared.program.Place.{Place}
use Rattle.dg_base.specs.declared.program.PlaceKind.TheVariants.{ObjectVar, Parent}
use Rattle.dg_base.specs.declared.program.Rule.{Rule}
use Rattle.dg_base.specs.declared.refusal.Kind.{Kind}
use Rattle.dg_names.specs.Named.{Named}
use Rattle.dg_meaning.specs.Facts.{kinds_of}
use Rattle.dg_meaning.specs.Initial.{first_run, Unset, HasValue}
use Rattle.dg_meaning.specs.Moves.{rules_of}
use Rattle.dg_meaning.specs.Values.{Object, leaf}
use Rattle.dg_core.specs.Core.{Before, none_before, behind_item, rules_of_item, rules_from, outer_scope, pred_of, with_rules, initial_core}
use Rattle.dg_core.specs.Goals.{Scope, number_in}
use Rattle.dg_core.specs.Places.{parent_name}
use Rattle.dg_core.proofs.AskLemmas.{numbered}
use Rattle.dg_lower.specs.Outcome.{outcome_of}
use Rattle.dg_lower.specs.Starts.{Starts, allows, known_term, start_by, starts_from, searched, and_starts}
use Rattle.dg_lower.specs.Starts as starts
use Rattle.dg_made.proofs.AskedLemmas.{fact_rule, facts, value_for, question, FindsNone, FindsOne, finds_none, finds_one}
use Rattle.dg_made.proofs.Items.{item, room_said, thing_said, room_name, thing_name, room_of, room_item, thing_item, first_of, Each, each_append, each_first}

-- ---- a place whose rules are facts

-- What comes of a search that found none, or one.
none_unset : (program : Core) (pred o : ℕ) → FindsNone program pred o → outcome_of program (question pred o) ≡ Unset
unfolding outcome_of
none_unset program pred o h =
    let short : nat_lt 1000000 (first_run program (question pred o)).world.meters.heap ≡ false = le-ltb 1000000 (first_run program (question pred o)).world.meters.heap (omega (arith, h.heap)) in
    rw (h.ending, short) refl

one_valued : (program : Core) (pred o m : ℕ) → FindsOne program pred o m → outcome_of program (question pred o) ≡ HasValue (leaf (Object m))
unfolding outcome_of
one_valued program pred o m h =
    let short : nat_lt 1000000 (first_run program (question pred o)).world.meters.heap ≡ false = le-ltb 1000000 (first_run program (question pred o)).world.meters.heap (omega (arith, h.heap)) in
    rw (h.ending, short, h.value) refl

-- What such facts say is an object.
abbrev AreObjects : Core → List (ℕ × ℕ) → Type 0
AreObjects program fs = Each (λ (f : ℕ × ℕ). f.1 < length program.objects) fs

said_there : (most o m : ℕ) (fs : List (ℕ × ℕ)) → Each (λ (f : ℕ × ℕ). f.1 < most) fs → value_for o fs ≡ Some m → m < most
said_there most o m [] h e = cc
said_there most o m (f ∷ fs) h e = here (eqb o f.0) e (said_there most o m fs h.1)
  where
    here : (b : Bool) → (if b then Some f.1 else value_for o fs) ≡ Some m → (value_for o fs ≡ Some m → m < most) → m < most
    here true k rest = let same : f.1 ≡ m = cc in subst (λ n. n < most) same h.0
    here false k rest = rest k

-- Something starts, or nothing does: nothing is refused.
abbrev pub CanStart : Result Starts Kind → Type 0
CanStart answer = (starts : Starts) × (answer ≡ Ok starts)

-- A program whose predicate has such facts alone, and whose last place takes their values.
record HasFacts (program : Core) (pred : ℕ) (fs : List (ℕ × ℕ)) : Type 0 where
  rules : rules_of (slice_get program.preds pred) ≡ facts fs
  objects : AreObjects program fs
  last : slice_get (kinds_of program) (length program.places - 1) ≡ Some ObjectVar

one_starts : (program : Core) (pred o : ℕ) (fs : List (ℕ × ℕ)) → HasFacts program pred fs → o < length program.objects
    → CanStart (start_by program Parent o (outcome_of program (starts.question Parent pred o)))
one_starts program pred o fs h lt = here (value_for o fs) refl
  where
    here : (v : Option ℕ) → value_for o fs ≡ v → CanStart (start_by program Parent o (outcome_of program (question pred o)))
    here None e = ([], ap (start_by program Parent o) (none_unset program pred o (finds_none program pred o fs h.rules e)))
    here (Some m) e =
        let there : nat_lt m (length program.objects) ≡ true = lt-ltb m (length program.objects) (said_there (length program.objects) o m fs h.objects e) in
        let allowed : allows program Parent (leaf (Object m)) ≡ true = rw there refl in (
          (o, known_term (leaf (Object m))) ∷ [],
          ap (start_by program Parent o) (one_valued program pred o m (finds_one program pred o m fs h.last lt h.rules e)) ∙ cond-true _ _ _ allowed,
        )

all_start : (program : Core) (pred : ℕ) (fs : List (ℕ × ℕ)) → HasFacts program pred fs → (o n : ℕ) → o + n ≤ length program.objects → CanStart (starts_from program Parent pred o n)
all_start program pred fs h o zero le = ([], refl)
all_start program pred fs h o (suc n) le =
    let (here, first) = one_starts program pred o fs h (omega (arith, le)) in
    let (others, rest) = all_start program pred fs h (o + 1) n (omega (arith, le)) in (
      here ++ others,
      ap (λ (answer : Result Starts Kind). and_starts answer (starts_from program Parent pred (o + 1) n)) first ∙ ap (and_starts (Ok here)) rest,
    )

-- The place of parents can start.
place_starts : (program : Core) (pred : Option ℕ) (fs : List (ℕ × ℕ)) → ((k : ℕ) → pred ≡ Some k → HasFacts program k fs) → CanStart (searched program Parent pred)
place_starts program None fs h = ([], refl)
place_starts program (Some k) fs h = all_start program k fs (h k refl) 0 (length program.objects) (omega arith)

-- ---- the rules of parents in a made source

-- An item that gives parents no rule.
pub record IsOther (i : Item) : Type 0 where
  pub none : (around : Scope) (n : Before) → rules_of_item around n parent_name i.said ≡ []

-- These items give parents such facts, whatever stands before them.
abbrev pub GiveFacts : Scope → List Item → List (ℕ × ℕ) → Type 0
GiveFacts around is fs = (n : Before) → rules_from around n parent_name is ≡ facts fs

others_first : (around : Scope) (is rest : List Item) (fs : List (ℕ × ℕ)) → Each IsOther is → GiveFacts around rest fs → GiveFacts around (is ++ rest) fs
others_first around [] rest fs h k n = k n
others_first around (i ∷ is) rest fs h k n =
    ap (λ (rs : List Rule). rs ++ rules_from around (behind_item n i.said) parent_name (is ++ rest)) (h.0.none around n)
    ∙ others_first around is rest fs h.1 k (behind_item n i.said)

-- the fact of a thing
abbrev fact_of : Scope → List ℕ → List ℕ → ℕ × ℕ
fact_of around name room = (number_in around.names.objects name, number_in around.names.objects room)

thing_first : (around : Scope) (line : ℕ) (name room : List ℕ) (rest : List Item) (fs : List (ℕ × ℕ)) → GiveFacts around rest fs
    → GiveFacts around (item line (thing_said name room) ∷ rest) (fact_of around name room ∷ fs)
thing_first around line name room rest fs k n = ap (λ (rs : List Rule). fact_rule (fact_of around name room) ∷ rs) (k (behind_item n (thing_said name room)))

abbrev facts_to : Scope → ℕ → ℕ → List (ℕ × ℕ)
facts_to around n k = first_of (λ i. fact_of around (thing_name i) (room_of n i)) k

things_first : (around : Scope) (n k : ℕ) (rest : List Item) (fs : List (ℕ × ℕ)) → GiveFacts around rest fs → GiveFacts around (first_of (thing_item n) k ++ rest) (facts_to around n k ++ fs)
things_first around n zero rest fs h = h
things_first around n (suc k) rest fs h =
    let one = thing_first around (n + k + 1) (thing_name k) (room_of n k) rest fs h in
    let all = things_first around n k (thing_item n k ∷ rest) (fact_of around (thing_name k) (room_of n k) ∷ fs) one in
    subst (λ is. GiveFacts around is (facts_to around n (suc k) ++ fs)) (sym (append_assoc (first_of (thing_item n) k) (thing_item n k ∷ []) rest))
    (subst (GiveFacts around (first_of (thing_item n) k ++ (thing_item n k ∷ rest)))
    (sym (append_assoc (facts_to around n k) (fact_of around (thing_name k) (room_of n k) ∷ []) fs)) all)

room_other : (line : ℕ) (name : List ℕ) → IsOther (item line (room_said name))
room_other line name = record { none = λ around n. refl }

-- The rules of parents, where what stands behind rooms and things gives none.
pub made_facts : (around : Scope) (n : ℕ) (rest : List Item) → GiveFacts around rest []
    → GiveFacts around (first_of room_item n ++ (first_of (thing_item n) n ++ rest)) (facts_to around n n ++ [])
made_facts around n rest h =
    others_first around (first_of room_item n) (first_of (thing_item n) n ++ rest) (facts_to around n n ++ [])
    (each_first IsOther room_item n (λ i lt. room_other (0 + i + 1) (room_name i)))
    (things_first around n n rest [] h)

-- ---- the program that is searched

-- The predicate of this number is the one of a name.
pred_named : (names : Named) (items : List Item) (name : List ℕ) (k : ℕ) → position (bytes_eq name) names.preds ≡ Some k
    → slice_get (initial_core names items).preds k ≡ Some (pred_of (outer_scope names items) items name)
pred_named names items name k e =
    let found = position-Some (bytes_eq name) names.preds k name e in
    let same : name ≡ get_or names.preds k name = (bytes_decides name (get_or names.preds k name)).0 found.1 in
    slice_get-map (pred_of (outer_scope names items) items) names.preds k
    ∙ ap (option_map (pred_of (outer_scope names items) items)) (slice_get-get_or names.preds k name found.0 ∙ ap Some (sym same))

last_kind : (places : List Place) → slice_get (map (λ (place : Place). place.kind) (places ++ record { kind = ObjectVar; start = [] } ∷ [])) (length places) ≡ Some ObjectVar
last_kind [] = refl
last_kind (p ∷ places) = last_kind places

last_place : (names : Named) (items : List Item) → slice_get (kinds_of (initial_core names items)) (length (initial_core names items).places - 1) ≡ Some ObjectVar
last_place names items =
    let places = (with_rules names items).places in
    let last : length (places ++ record { kind = ObjectVar; start = [] } ∷ []) - 1 ≡ length places = omega (arith, length-append places (record { kind = ObjectVar; start = [] } ∷ [])) in
    ap (slice_get (kinds_of (initial_core names items))) last ∙ last_kind places

-- a name that stands among few is a number below theirs
numbered_below : (n : List ℕ) (ms : List (List ℕ)) → Contains ms n → length ms ≤ 65535 → number_in ms n < length ms
numbered_below n ms there few = slice_get_within ms (number_in ms n) n (numbered n ms there few)

-- The rooms of the facts are objects.
facts_are_objects : (around : Scope) (n k : ℕ) → ((i : ℕ) → i < k → Contains around.names.objects (room_of n i)) → length around.names.objects ≤ 65535
    → Each (λ (f : ℕ × ℕ). f.1 < length around.names.objects) (facts_to around n k ++ [])
facts_are_objects around n k there few =
    each_append (λ (f : ℕ × ℕ). f.1 < length around.names.objects) (facts_to around n k) []
    (each_first (λ (f : ℕ × ℕ). f.1 < length around.names.objects) (λ i. fact_of around (thing_name i) (room_of n i)) k
    (λ i lt. numbered_below (room_of n i) around.names.objects (there i lt) few)) tt

-- The place of parents can start where items give it such facts.
pub parents_start : (names : Named) (items : List Item) (n : ℕ) → GiveFacts (outer_scope names items) items (facts_to (outer_scope names items) n n ++ [])
    → ((i : ℕ) → i < n → Contains names.objects (room_of n i)) → length names.objects ≤ 65535
    → CanStart (searched (initial_core names items) Parent (position (bytes_eq parent_name) names.preds))
parents_start names items n gives there few =
    let around = outer_scope names items in
    place_starts (initial_core names items) (position (bytes_eq parent_name) names.preds) (facts_to around n n ++ []) (λ k e. record {
      rules = ap rules_of (pred_named names items parent_name k e) ∙ gives none_before;
      objects = facts_are_objects around n n there few;
      last = last_place names items;
    })
