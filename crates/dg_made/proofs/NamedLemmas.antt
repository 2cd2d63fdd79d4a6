-- The items of a made source have names: no count passes its number.
use Rattle.std.proofs.Common.{◌≡◌, ◌≤◌, ◌<◌, ◌+◌, ◌*◌, ◌%◌, ◌⊎◌, inl, inr, ℕ, zero, suc, Bool, true, false, List, [], ◌∷◌, ◌++◌, codes, Contains, None, Ok, length, length-append, slice_index_or, if◌then◌else◌, mod-lt, refl, sym, subst, arith}
use Rattle.std.proofs.lemmas.Bool.{le-ltb, or_from, cases_order}
use Rattle.std.proofs.lemmas.List.Elements.{Contains-append_left, Contains-append_right, Contains-push}
use Rattle.dg_base.specs.Mentions.{Thing, things_in, mentioned, names_in, weight_of}
use Rattle.dg_base.specs.Passing.{first_passing}
use Rattle.dg_base.specs.Tree.{Item}
use Rattle.dg_base.proofs.MentionLemmas.{names_append, weight_append}
use Rattle.dg_names.specs.Counts.{has_excess, closures_at, selects_at, is_rule, count_rules, are_many_names, are_many, IsNamed}
use Rattle.dg_names.specs.Named.{Named, firsts, predicate_in, object_in, thing_words, names_of}
use Rattle.dg_names.proofs.MemberLemmas.{firsts_are}
use Rattle.dg_made.proofs.Items.{room_said, thing_said, room_name, thing_name, room_of, item, room_item, thing_item, program_items, first_of, made_items, Each, each_append, each_made}

-- ---- names that are among others

-- Each of these names is among others.
abbrev Among : List (List ℕ) → List (List ℕ) → Type 0
Among others given = Each (Contains others) given

contained : (others given : List (List ℕ)) → Among others given → (n : List ℕ) → Contains given n → Contains others n
contained others [] h n (k, lt, e) = absurd (omega (arith, lt))
contained others (m ∷ given) h n (zero, lt, e) = subst (Contains others) e h.0
contained others (m ∷ given) h n (suc k, lt, e) = contained others given h.1 n (k, omega (arith, lt), e)

-- Names among others are no more than those.
few_firsts : (others given : List (List ℕ)) (most : ℕ) → Among others given → length others ≤ most → length (firsts given) ≤ most
few_firsts others given most h few = omega (arith, (firsts_are given).fewest others (contained others given h), few)

-- ---- what is asked of an item

-- An item has no excess, its names are among these, and it has no closure and no select.
pub record IsLight (names : Named) (i : Item) : Type 0 where
  pub small : has_excess i.said ≡ false
  pub preds : Among names.preds (names_in predicate_in (things_in i.said))
  pub objects : Among names.objects (names_in object_in (things_in i.said))
  pub words : Among names.words (names_in thing_words (things_in i.said))
  pub closures : weight_of closures_at (things_in i.said) ≡ 0
  pub selects : weight_of selects_at (things_in i.said) ≡ 0

among_all : (others : List (List ℕ)) (f : Thing → List (List ℕ)) (is : List Item) → Each (λ (i : Item). Among others (names_in f (things_in i.said))) is → Among others (names_in f (mentioned is))
among_all others f [] h = tt
among_all others f (i ∷ is) h =
    subst (Among others) (sym (names_append f (things_in i.said) (mentioned is)))
    (each_append (Contains others) (names_in f (things_in i.said)) (names_in f (mentioned is)) h.0 (among_all others f is h.1))

none_weighs : (f : Thing → ℕ) (is : List Item) → Each (λ (i : Item). weight_of f (things_in i.said) ≡ 0) is → weight_of f (mentioned is) ≡ 0
none_weighs f [] h = refl
none_weighs f (i ∷ is) h = omega (arith, weight_append f (things_in i.said) (mentioned is), h.0, none_weighs f is h.1)

rules_below : (is : List Item) → count_rules is ≤ length is
rules_below [] = omega arith
rules_below (i ∷ is) = here (is_rule i.said) (rules_below is)
  where
    here : (b : Bool) → count_rules is ≤ length is → (if b then count_rules is + 1 else count_rules is) ≤ length (i ∷ is)
    here true le = omega (arith, le)
    here false le = omega (arith, le)

pub each_weaker : (P Q : Item → Type 0) → ((i : Item) → P i → Q i) → (is : List Item) → Each P is → Each Q is
each_weaker P Q f [] h = tt
each_weaker P Q f (i ∷ is) h = (f i h.0, each_weaker P Q f is h.1)

-- ---- no count passes

pub record AreFewNames (names : Named) : Type 0 where
  pub preds : length names.preds ≤ 4000
  pub objects : length names.objects ≤ 1000
  pub words : length names.words ≤ 4000

objects_few : (names : Named) → AreFewNames names → (is : List Item) → Each (IsLight names) is → length (names_of is).objects ≤ 1000
objects_few names few is h =
    few_firsts names.objects (names_in object_in (mentioned is)) 1000
    (among_all names.objects object_in is (each_weaker (IsLight names) _ (λ i l. l.objects) is h)) few.objects

few_together : (names : Named) → AreFewNames names → (is : List Item) → Each (IsLight names) is → length is ≤ 16000 → are_many is ≡ false
few_together names few is h short =
    let ts = mentioned is in
    let preds = few_firsts names.preds (names_in predicate_in ts) 4000
    (among_all names.preds predicate_in is (each_weaker (IsLight names) _ (λ i l. l.preds) is h)) few.preds in
    let objects = objects_few names few is h in
    let words = few_firsts names.words (names_in thing_words ts) 4000
    (among_all names.words thing_words is (each_weaker (IsLight names) _ (λ i l. l.words) is h)) few.words in
    let closures = none_weighs closures_at is (each_weaker (IsLight names) _ (λ i l. l.closures) is h) in
    let selects = none_weighs selects_at is (each_weaker (IsLight names) _ (λ i l. l.selects) is h) in
    or_from (are_many_names (names_of is)) _
    (or_from _ _ (le-ltb 1000 (length (firsts (names_in object_in ts))) objects)
    (or_from _ _ (le-ltb 4000 (length (firsts (names_in thing_words ts))) words) (le-ltb 4000 (length (firsts (names_in predicate_in ts))) preds)))
    (or_from _ _ (le-ltb 16000 (count_rules is) (omega (arith, rules_below is, short)))
    (or_from _ _ (le-ltb 16000 (weight_of closures_at ts) (omega (arith, closures))) (le-ltb 500 (weight_of selects_at ts) (omega (arith, selects)))))

none_passes : (names : Named) → AreFewNames names → (before is : List Item) → Each (IsLight names) before → Each (IsLight names) is → length before + length is ≤ 16000 → first_passing has_excess are_many before is ≡ None
none_passes names few before [] b h short = refl
none_passes names few before (i ∷ is) b h short =
    let next = each_append (IsLight names) before (i ∷ []) b (h.0, tt) in
    let longer = length-append before (i ∷ []) in
    rw (or_from (has_excess i.said) (are_many (before ++ i ∷ [])) h.0.small (few_together names few (before ++ i ∷ []) next (omega (arith, longer, short))))
    (none_passes names few (before ++ i ∷ []) is next h.1 (omega (arith, longer, short)))

-- ---- a made source

abbrev pub made_preds : List (List ℕ)
made_preds =
    codes "(room $)" ∷ codes "($ has parent $)" ∷ codes "(count $)" ∷ codes "(program entry point)" ∷ codes "(describe $)" ∷ []

abbrev pub made_names : ℕ → Named
made_names n = record { preds = made_preds; objects = first_of room_name n ++ first_of thing_name n; words = [] }

length_first : {X : Type 0} (one : ℕ → X) (n : ℕ) → length (first_of one n) ≡ n
length_first one zero = refl
length_first one (suc k) = omega (arith, length-append (first_of one k) (one k ∷ []), length_first one k)

names_few : (n : ℕ) → n ≤ 400 → AreFewNames (made_names n)
names_few n le = record {
  preds = omega arith;
  objects = omega (arith, length-append (first_of room_name n) (first_of thing_name n), length_first room_name n, length_first thing_name n, le);
  words = omega arith;
}

among_first : {X : Type 0} (one : ℕ → X) (n i : ℕ) → i < n → Contains (first_of one n) (one i)
among_first one zero i lt = absurd (omega (arith, lt))
among_first one (suc k) i lt = here (cases_order i k) (among_first one k i)
  where
    here : (i ≡ k) ⊎ ((i < k) ⊎ (k < i)) → (i < k → Contains (first_of one k) (one i)) → Contains (first_of one k ++ one k ∷ []) (one i)
    here (inl e) before = subst (λ j. Contains (first_of one k ++ one k ∷ []) (one j)) (sym e) (Contains-push (first_of one k) (one k))
    here (inr (inl less)) before = Contains-append_left (first_of one k) (one k ∷ []) (one i) (before less)
    here (inr (inr more)) before = absurd (omega (arith, lt, more))

-- the room or thing of this number is an object
room_there : (n i : ℕ) → i < n → Contains (made_names n).objects (room_name i)
room_there n i lt = Contains-append_left (first_of room_name n) (first_of thing_name n) (room_name i) (among_first room_name n i lt)

thing_there : (n i : ℕ) → i < n → Contains (made_names n).objects (thing_name i)
thing_there n i lt = Contains-append_right (first_of room_name n) (first_of thing_name n) (thing_name i) (among_first thing_name n i lt)

-- a name that stands at this place
at : (k : ℕ) (n : List ℕ) (lt : k < 5) → slice_index_or made_preds k n ≡ n → Contains made_preds n
at k n lt e = (k, lt, e)

room_light : (names : Named) (line : ℕ) (name : List ℕ) → Contains names.preds (codes "(room $)") → Contains names.objects name → IsLight names (item line (room_said name))
room_light names line name p o = record { small = refl; preds = (p, tt); objects = (o, tt); words = tt; closures = refl; selects = refl }

thing_light : (names : Named) (line : ℕ) (name room : List ℕ) → Contains names.preds (codes "($ has parent $)") → Contains names.objects name → Contains names.objects room → IsLight names (item line (thing_said name room))
thing_light names line name room p o r = record { small = refl; preds = (p, tt); objects = (o, (r, tt)); words = tt; closures = refl; selects = refl }

program_light : (n l : ℕ) → Each (IsLight (made_names n)) (program_items l)
program_light n l =
    let room = at 0 (codes "(room $)") (omega arith) refl in
    let parent = at 1 (codes "($ has parent $)") (omega arith) refl in
    let count = at 2 (codes "(count $)") (omega arith) refl in
    let entry = at 3 (codes "(program entry point)") (omega arith) refl in
    let describe = at 4 (codes "(describe $)") (omega arith) refl in (
      record { small = refl; preds = (count, tt); objects = tt; words = tt; closures = refl; selects = refl },
      (
        record { small = refl; preds = (entry, (room, (describe, (count, tt)))); objects = tt; words = tt; closures = refl; selects = refl },
        (record { small = refl; preds = (describe, (parent, (count, (count, tt)))); objects = tt; words = tt; closures = refl; selects = refl }, tt),
      ),
    )

made_light : (n : ℕ) → 1 ≤ n → Each (IsLight (made_names n)) (made_items n)
made_light n some =
    each_made (IsLight (made_names n)) n
    (λ i lt. room_light (made_names n) (0 + i + 1) (room_name i) (at 0 (codes "(room $)") (omega arith) refl) (room_there n i lt))
    (λ i lt. thing_light (made_names n) (n + i + 1) (thing_name i) (room_of n i) (at 1 (codes "($ has parent $)") (omega arith) refl)
    (thing_there n i lt) (room_there n ((7 * i + 3) % n) (mod-lt (7 * i + 3) some)))
    (program_light n (n + n))

pub made_length : (n : ℕ) → length (made_items n) ≡ n + (n + 3)
made_length n =
    omega (
      arith,
      length-append (first_of room_item n) (first_of (thing_item n) n ++ program_items (n + n)),
      length-append (first_of (thing_item n) n) (program_items (n + n)),
      length_first room_item n,
      length_first (thing_item n) n,
    )

pub made_named : (n : ℕ) → 1 ≤ n → n ≤ 400 → IsNamed (made_items n) (Ok (names_of (made_items n)))
made_named n some le = (none_passes (made_names n) (names_few n le) [] (made_items n) tt (made_light n some) (omega (arith, made_length n, le)), refl)

-- ---- its objects

mention_there : (f : Thing → List (List ℕ)) (is : List Item) (i : Item) (name : List ℕ) → Contains is i → Contains (names_in f (things_in i.said)) name → Contains (names_in f (mentioned is)) name
mention_there f [] i name (k, lt, e) h = absurd (omega (arith, lt))
mention_there f (j ∷ is) i name (zero, lt, e) h =
    subst (λ ns. Contains ns name) (sym (names_append f (things_in j.said) (mentioned is)))
    (Contains-append_left (names_in f (things_in j.said)) (names_in f (mentioned is)) name
    (subst (λ (k : Item). Contains (names_in f (things_in k.said)) name) (sym e) h))
mention_there f (j ∷ is) i name (suc k, lt, e) h =
    subst (λ ns. Contains ns name) (sym (names_append f (things_in j.said) (mentioned is)))
    (Contains-append_right (names_in f (things_in j.said)) (names_in f (mentioned is)) name (mention_there f is i name (k, omega (arith, lt), e) h))

-- Each room is an object.
pub made_objects : (n i : ℕ) → i < n → Contains (names_of (made_items n)).objects (room_name i)
made_objects n i lt =
    let there = Contains-append_left (first_of room_item n) (first_of (thing_item n) n ++ program_items (n + n)) (room_item i) (among_first room_item n i lt) in
    (firsts_are (names_in object_in (mentioned (made_items n)))).all (room_name i)
    (mention_there object_in (made_items n) (room_item i) (room_name i) there (0, omega arith, refl))

pub few_objects : (n : ℕ) → 1 ≤ n → n ≤ 400 → length (names_of (made_items n)).objects ≤ 1000
few_objects n some le = objects_few (made_names n) (names_few n le) (made_items n) (made_light n some)
