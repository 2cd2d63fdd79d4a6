-- The core program of a tree that is given is sound.
use Rattle.std.proofs.Common.{◌≡◌, ◌≤◌, ◌⊎◌, inl, inr, ℕ, zero, suc, List, [], ◌∷◌, ◌++◌, ◌||◌, Bool, true, false, Option, Some, None, Ok, length, length-append, map, position, refl, sym, subst, arith}
use Rattle.std.specs.Prelude.{◌≢◌, if◌then◌else◌, slice_get}
use Rattle.std.specs.List.{All, Contains}
use Rattle.std.specs.Str.{bytes_eq}
use Rattle.std.specs.Cmp.Lexicographic.{bytes_decides}
use Rattle.std.proofs.lemmas.List.{length-map}
use Rattle.std.proofs.lemmas.List.Elements.{All-nil, All-cons, All-append, All-head, All-tail, All-weaker, Contains-append_left, Contains-append_right}
use Rattle.dg_base.specs.Mentions.{Thing, query, mentioned}
use Rattle.dg_base.specs.Names.{builtin_named}
use Rattle.dg_base.specs.Heads.{name_of}
use Rattle.dg_base.specs.Sound.{IsSound, IsName, FitsPlace, IsPlaceOf, IsStartOf, FirstIsParent}
use Rattle.dg_base.specs.Tree.{Item}
use Rattle.dg_base.specs.declared.names.Builtin.{Builtin}
use Rattle.dg_base.specs.declared.program.CoreProgram.{CoreProgram as Core}
use Rattle.dg_base.specs.declared.program.Place.{Place}
use Rattle.dg_base.specs.declared.program.PlaceKind.{PlaceKind}
use Rattle.dg_base.specs.declared.program.PlaceKind.TheVariants.{Parent, Global}
use Rattle.dg_base.specs.declared.program.Pred.{Pred}
use Rattle.dg_meaning.specs.Few.{AllAskFew, HeadsAreFew}
use Rattle.dg_names.specs.Among.{HasPred, IsAmong}
use Rattle.dg_names.specs.Named.{Named}
use Rattle.dg_core.specs.Core.{outer_scope, bare, entry_name, with_rules, initial_core}
use Rattle.dg_core.specs.Given.{IsGiven}
use Rattle.dg_core.specs.Places.{is_among, parent_name, declarations, declared_names, place_names, kind_by, kind_of, values_named}
use Rattle.dg_core.specs.inside.Fewer.{HasLost, HaveLost, with_parts, Replace}
use Rattle.dg_lower.specs.Starts.{declared_start, searched}
use Rattle.dg_lower.specs.Lowered.{or_nothing, core_place, without_starts, core_of, with_entry, IsLowered}
use Rattle.dg_lower.proofs.StartLemmas.{IsSearched, AreFrom, none_from, searched_from, AreConstant, declared_from}

-- ---- with the entry

-- the entry is among its names
has_at : (n : List ℕ) (ns : List (List ℕ)) → is_among n ns ≡ true → Contains ns n
has_at n [] e = cc
has_at n (m ∷ ns) e = here (bytes_eq n m) refl e (has_at n ns)
  where
    here : (b : Bool) → bytes_eq n m ≡ b → (b || is_among n ns) ≡ true → (is_among n ns ≡ true → Contains ns n) → Contains (m ∷ ns) n
    here true q k rest = (0, omega arith, sym ((bytes_decides n m).0 q))
    here false q k rest = Contains-append_right (m ∷ []) ns n (rest k)

pub entry_there : (names : Named) → Contains (with_entry names).preds entry_name
entry_there names = here (is_among entry_name names.preds) refl
  where
    here : (b : Bool) → is_among entry_name names.preds ≡ b → Contains (if b then names.preds else names.preds ++ entry_name ∷ []) entry_name
    here true q = has_at entry_name names.preds q
    here false q = Contains-append_right names.preds (entry_name ∷ []) entry_name (0, omega arith, refl)

-- what holds of the names and of the entry's holds of all of them
with_all : (P : List (List ℕ) → Type 0) (names : Named) → P names.preds → P (names.preds ++ entry_name ∷ []) → P (with_entry names).preds
with_all P names h j = here (is_among entry_name names.preds)
  where
    here : (b : Bool) → P (if b then names.preds else names.preds ++ entry_name ∷ [])
    here true = h
    here false = j

wider : (names : Named) (n : List ℕ) → Contains names.preds n → Contains (with_entry names).preds n
wider names n h = with_all (λ (ns : List (List ℕ)). Contains ns n) names h (Contains-append_left names.preds (entry_name ∷ []) n h)

wider_pred : (names : Named) (n : List ℕ) (o : Option Builtin) → HasPred names n o → HasPred (with_entry names) n o
wider_pred names n (Some b) h = tt
wider_pred names n None h = wider names n h

wider_thing : (names : Named) (t : Thing) → IsAmong names t → IsAmong (with_entry names) t
wider_thing names (query r ps) h = wider_pred names (name_of ps) (builtin_named (name_of ps)) h
wider_thing names t h = h

entry_few : (names : Named) → length names.preds ≤ 65534 → length (with_entry names).preds ≤ 65535
entry_few names few =
    with_all (λ (ns : List (List ℕ)). length ns ≤ 65535) names (omega (arith, few)) (omega (arith, few, length-append names.preds (entry_name ∷ [])))

pub entry_given : (names : Named) (items : List Item) → IsName entry_name → IsGiven names items → length names.preds ≤ 65534 → IsGiven (with_entry names) items
entry_given names items printable g few = record {
  things = All-weaker (IsAmong names) (IsAmong (with_entry names)) (wider_thing names) (mentioned items) g.things;
  fit = g.fit;
  items = g.items;
  few_closures = g.few_closures;
  few_places = g.few_places;
  preds = with_all (All IsName) names g.preds (All-append IsName names.preds (entry_name ∷ []) g.preds (All-cons IsName entry_name [] printable (All-nil IsName)));
  objects = g.objects;
  words = g.words;
  words_differ = g.words_differ;
  few_preds = entry_few names few;
  few_objects = g.few_objects;
  few_words = g.few_words;
}

-- ---- rules that are lost

lost_one : (placed : List (List ℕ)) (p : Pred) → HasLost p (without_starts placed p)
lost_one placed p = record { name = refl; rules = here (is_among p.name placed) }
  where
    here : (b : Bool) → ((if b then [] else p.rules) ≡ p.rules) ⊎ ((if b then [] else p.rules) ≡ [])
    here true = inr refl
    here false = inl refl

have_lost : (placed : List (List ℕ)) (ps : List Pred) → HaveLost ps (map (without_starts placed) ps)
have_lost placed [] = tt
have_lost placed (p ∷ ps) = (lost_one placed p, have_lost placed ps)

-- ---- places

-- what dg_core says of declarations
pub record Declares : Type 0 where
  pub kind : (names : Named) (items : List Item) (n : List ℕ) → IsGiven names items → is_among n (declared_names items) ≡ true → kind_of (declared_names items) n ≡ Global
  pub value : (names : Named) (items : List Item) → IsGiven names items → AreConstant (with_rules names items) (outer_scope names items) (declarations items)

-- starts that are sound in one program are so in another of the same words, objects and closures
here_sound : (names : Named) (items : List Item) (kind : PlaceKind) (s : ℕ × _) → IsStartOf (with_rules names items) kind s → IsStartOf (core_of names items) kind s
here_sound names items kind s h = record { fits = h.fits; value = h.value }

initial_here : (names : Named) (items : List Item) (kind : PlaceKind) (s : ℕ × _) → IsStartOf (initial_core names items) kind s → IsStartOf (core_of names items) kind s
initial_here names items kind s h = record { fits = h.fits; value = h.value }

by_count_searched : (k : ℕ) → IsSearched (kind_by k)
by_count_searched zero = tt
by_count_searched (suc zero) = tt
by_count_searched (suc (suc k)) = tt

is_searched : (declared : List (List ℕ)) (n : List ℕ) → is_among n declared ≡ false → IsSearched (kind_of declared n)
is_searched declared n e = here (bytes_eq parent_name n) (is_among n declared) e
  where
    here : (b d : Bool) → d ≡ false → IsSearched (if b then Parent else (if d then Global else kind_by (values_named n)))
    here true d e = tt
    here false false e = by_count_searched (values_named n)
    here false true e = cc

searched_sound : (names : Named) (items : List Item) (kind : PlaceKind) (o : Option ℕ) → IsSearched kind → AreFrom (initial_core names items) kind 0 (or_nothing (searched (initial_core names items) kind o))
searched_sound names items kind None s = none_from (initial_core names items) kind 0
searched_sound names items kind (Some pred) s = searched_from (initial_core names items) kind pred s

place_sound : Declares → (names : Named) (items : List Item) (n : List ℕ) → IsGiven names items → IsPlaceOf (core_of names items) (core_place names items n)
place_sound laws names items n g = here (is_among n (declared_names items)) refl
  where
    here : (b : Bool) → is_among n (declared_names items) ≡ b →
        IsPlaceOf (core_of names items) (record {
          kind = kind_of (declared_names items) n;
          start = or_nothing (if b then Ok (declared_start (outer_scope names items) n (declarations items))
              else searched (initial_core names items) (kind_of (declared_names items) n) (position (bytes_eq n) names.preds));
        })
    here true e =
        let from = declared_from (with_rules names items) (outer_scope names items) n (declarations items) (laws.value names items g) in
        let starts = declared_start (outer_scope names items) n (declarations items) in
        record {
          starts = subst (λ (k : PlaceKind). All (IsStartOf (core_of names items) k) starts) (sym (laws.kind names items n g e))
              (All-weaker (IsStartOf (with_rules names items) Global) (IsStartOf (core_of names items) Global) (here_sound names items Global) starts from.sound);
          once = from.once;
        }
    here false e =
        let kind = kind_of (declared_names items) n in
        let o = position (bytes_eq n) names.preds in
        let from = searched_sound names items kind o (is_searched (declared_names items) n e) in
        record {
          starts = All-weaker (IsStartOf (initial_core names items) kind) (IsStartOf (core_of names items) kind) (initial_here names items kind) (or_nothing (searched (initial_core names items) kind o)) from.sound;
          once = from.once;
        }

places_sound : Declares → (names : Named) (items : List Item) (ns : List (List ℕ)) → IsGiven names items → All (IsPlaceOf (core_of names items)) (map (core_place names items) ns)
places_sound laws names items [] g = All-nil (IsPlaceOf (core_of names items))
places_sound laws names items (n ∷ ns) g =
    All-cons (IsPlaceOf (core_of names items)) (core_place names items n) (map (core_place names items) ns) (place_sound laws names items n g) (places_sound laws names items ns g)

-- a place is of the kind that it was
same_kinds : (names : Named) (items : List Item) (ns : List (List ℕ)) (k args : ℕ) → FitsPlace args (slice_get (map (bare items) ns) k) → FitsPlace args (slice_get (map (core_place names items) ns) k)
same_kinds names items [] k args h = h
same_kinds names items (n ∷ ns) zero args h = h
same_kinds names items (n ∷ ns) (suc k) args h = same_kinds names items ns k args h

abbrev IsOther : Place → Type 0
IsOther place = place.kind ≢ Parent

others_kept : (names : Named) (items : List Item) (ns : List (List ℕ)) → All IsOther (map (bare items) ns) → All IsOther (map (core_place names items) ns)
others_kept names items [] h = All-nil IsOther
others_kept names items (n ∷ ns) h =
    All-cons IsOther (core_place names items n) (map (core_place names items) ns) (All-head IsOther (bare items n) (map (bare items) ns) h) (others_kept names items ns (All-tail IsOther (bare items n) (map (bare items) ns) h))

parent_kept : (names : Named) (items : List Item) (ns : List (List ℕ)) → FirstIsParent (map (bare items) ns) → FirstIsParent (map (core_place names items) ns)
parent_kept names items [] h = h
parent_kept names items (n ∷ ns) h = (h.0, others_kept names items ns h.1)

-- ---- the program

-- what dg_core says of programs
pub record Keeps : Type 0 where
  pub rules : (names : Named) (items : List Item) → IsGiven names items → Contains names.preds entry_name → IsSound (with_rules names items)
  pub sound : (p : Core) (preds : List Pred) (places : List Place) → HaveLost p.preds preds → Replace p preds places → IsSound p → IsSound (with_parts p preds places)

core_sound : Declares → Keeps → (names : Named) (items : List Item) → IsGiven names items → Contains names.preds entry_name → IsSound (core_of names items)
core_sound declares keeps names items g entry =
    let p = with_rules names items in
    let preds = map (without_starts (place_names items)) p.preds in
    let places = map (core_place names items) (place_names items) in
    let sound = keeps.rules names items g entry in
    let new : Replace p preds places = record {
      fit = same_kinds names items (place_names items);
      sound = places_sound declares names items (place_names items) g;
      parent = parent_kept names items (place_names items) sound.parent;
      few = omega (arith, length-map (place_names items) (core_place names items), g.few_places);
    } in
    keeps.sound p preds places (have_lost (place_names items) p.preds) new sound

pub lowered_sound : Declares → Keeps → IsName entry_name → (names : Named) (items : List Item) (core : Core) → IsGiven names items → length names.preds ≤ 65534 → IsLowered names items (Ok core) → IsSound core
lowered_sound declares keeps printable names items core g few l =
    let all = with_entry names in
    subst IsSound (sym l.3) (core_sound declares keeps all items (entry_given names items printable g few) (entry_there names))

-- ---- few terms

pub record Fews : Type 0 where
  pub asks : (names : Named) (items : List Item) (n : ℕ) → IsGiven names items → All (λ (m : List ℕ). values_named m ≤ n) names.preds → AllAskFew n (with_rules names items)
  pub heads : (names : Named) (items : List Item) (n : ℕ) → All (λ (m : List ℕ). values_named m ≤ n) names.preds → HeadsAreFew n (with_rules names items)
  pub asks_kept : (n : ℕ) (p : Core) (preds : List Pred) (places : List Place) → HaveLost p.preds preds → AllAskFew n p → AllAskFew n (with_parts p preds places)
  pub heads_kept : (n : ℕ) (p : Core) (preds : List Pred) (places : List Place) → HaveLost p.preds preds → HeadsAreFew n p → HeadsAreFew n (with_parts p preds places)

entry_narrow : (names : Named) (n : ℕ) → All (λ (m : List ℕ). values_named m ≤ n) names.preds → All (λ (m : List ℕ). values_named m ≤ n) (with_entry names).preds
entry_narrow names n h =
    let P = λ (m : List ℕ). values_named m ≤ n in
    let none : values_named entry_name ≡ 0 = refl in
    with_all (All P) names h (All-append P names.preds (entry_name ∷ []) h (All-cons P entry_name [] (omega (arith, none)) (All-nil P)))

pub lowered_asks_few : Fews → IsName entry_name → (names : Named) (items : List Item) (core : Core) (n : ℕ) → IsGiven names items → length names.preds ≤ 65534 → All (λ (m : List ℕ). values_named m ≤ n) names.preds → IsLowered names items (Ok core) → AllAskFew n core
lowered_asks_few laws printable names items core n g few h l =
    let all = with_entry names in
    let p = with_rules all items in
    subst (AllAskFew n) (sym l.3)
    (laws.asks_kept n p (map (without_starts (place_names items)) p.preds) (map (core_place all items) (place_names items)) (have_lost (place_names items) p.preds)
    (laws.asks all items n (entry_given names items printable g few) (entry_narrow names n h)))

pub lowered_heads_few : Fews → (names : Named) (items : List Item) (core : Core) (n : ℕ) → All (λ (m : List ℕ). values_named m ≤ n) names.preds → IsLowered names items (Ok core) → HeadsAreFew n core
lowered_heads_few laws names items core n h l =
    let all = with_entry names in
    let p = with_rules all items in
    subst (HeadsAreFew n) (sym l.3)
    (laws.heads_kept n p (map (without_starts (place_names items)) p.preds) (map (core_place all items) (place_names items)) (have_lost (place_names items) p.preds)
    (laws.heads all items n (entry_narrow names n h)))
