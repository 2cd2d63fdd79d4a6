-- The names of a tree can be printed, are few, and are those of what it mentions.
use Rattle.std.proofs.Common.{◌≡◌, ◌≤◌, ℕ, List, [], ◌∷◌, ◌++◌, ◌&&◌, ◌||◌, Bool, true, false, Option, Some, None, codes, length, nat_lt, refl, sym, ◌∙◌, ap, arith, append_assoc}
use Rattle.std.specs.Prelude.{if◌then◌else◌, filter, not}
use Rattle.std.specs.List.{All, Contains, list_any}
use Rattle.std.specs.Option.{is_some}
use Rattle.std.specs.Str.{bytes_eq}
use Rattle.std.proofs.lemmas.Bool.{or_parts}
use Rattle.std.proofs.lemmas.Bool.Decides.{nat_tests}
use Rattle.std.proofs.lemmas.List.{append-nil}
use Rattle.std.proofs.lemmas.List.Elements.{All-nil, All-cons, All-append, All-head, All-tail, All-filter, Contains-append_left, Contains-append_right}
use Rattle.dg_base.specs.Heads.{name_of}
use Rattle.dg_base.specs.Mentions.{Thing, topic_line, query, number, word, object, word_choice, text, branches, select, of_said, closures, things_in, mentioned, names_in, weight_of}
use Rattle.dg_base.specs.Names.{builtin_named}
use Rattle.dg_base.specs.Passing.{first_passing}
use Rattle.dg_base.specs.Sound.{IsName}
use Rattle.dg_base.specs.Tree.{Parts, Said, Item}
use Rattle.dg_base.specs.declared.names.Builtin.{Builtin}
use Rattle.dg_base.specs.Readable.{IsReadable}
use Rattle.dg_names.specs.Among.{HasPred, IsAmong, IsSmall, ArePrintable, AreFew}
use Rattle.dg_names.specs.Counts.{places_in, count_rules, closures_at, selects_at, is_full, is_excess, are_many_names, are_many, has_excess}
use Rattle.dg_names.specs.Named.{Named, firsts, is_fixed, predicate_in, object_in, thing_words, names_of}
use Rattle.dg_names.proofs.MemberLemmas.{first_there, firsts_are}

-- ---- each name can be printed

one_pred : (ps : Parts) (b : Bool) → IsName (name_of ps) → All IsName (if b then [] else name_of ps ∷ [])
one_pred ps true h = All-nil IsName
one_pred ps false h = All-cons IsName (name_of ps) [] h (All-nil IsName)

pred_plain : (t : Thing) → IsReadable t → All IsName (predicate_in t)
pred_plain (query r ps) h = one_pred ps (is_fixed (name_of ps)) h
pred_plain t h = All-nil IsName

object_plain : (t : Thing) → IsReadable t → All IsName (object_in t)
object_plain (topic_line n) h = All-cons IsName n [] h (All-nil IsName)
object_plain (object n) h = All-cons IsName n [] h (All-nil IsName)
object_plain t h = All-nil IsName

word_plain : (t : Thing) → IsReadable t → All IsName (thing_words t)
word_plain (word w) h = All-cons IsName w [] h (All-nil IsName)
word_plain (word_choice ws) h = h
word_plain t h = All-nil IsName

names_plain : (given : Thing → List (List ℕ)) → ((t : Thing) → IsReadable t → All IsName (given t)) → (ts : List Thing) → All IsReadable ts → All IsName (names_in given ts)
names_plain given each [] h = All-nil IsName
names_plain given each (t ∷ ts) h = All-append IsName (given t) (names_in given ts) (each t (All-head IsReadable t ts h)) (names_plain given each ts (All-tail IsReadable t ts h))

firsts_plain : (ns : List (List ℕ)) → All IsName ns → All IsName (firsts ns)
firsts_plain [] h = All-nil IsName
firsts_plain (n ∷ ns) h =
    All-cons IsName n (filter (λ m. not (bytes_eq m n)) (firsts ns)) (All-head IsName n ns h)
    (All-filter (λ m. not (bytes_eq m n)) IsName (firsts ns) (firsts_plain ns (All-tail IsName n ns h)))

pub printable : (is : List Item) → All IsReadable (mentioned is) → ArePrintable (names_of is)
printable is r = record {
  preds = firsts_plain (names_in predicate_in (mentioned is)) (names_plain predicate_in pred_plain (mentioned is) r);
  objects = firsts_plain (names_in object_in (mentioned is)) (names_plain object_in object_plain (mentioned is) r);
  words = firsts_plain (names_in thing_words (mentioned is)) (names_plain thing_words word_plain (mentioned is) r);
}

-- ---- what is mentioned is among the names

-- all these names are among others
abbrev Within : List (List ℕ) → List (List ℕ) → Type 0
Within names others = (n : List ℕ) → Contains names n → Contains others n

pred_given : (ps : Parts) (b : Bool) → b ≡ false → Contains (if b then [] else name_of ps ∷ []) (name_of ps)
pred_given ps true e = absurd (let no : true ≡ false = e in cc)
pred_given ps false e = first_there (name_of ps) []

pred_among : (d : Named) (ps : Parts) (o : Option Builtin) → builtin_named (name_of ps) ≡ o → Within (if is_fixed (name_of ps) then [] else name_of ps ∷ []) d.preds → HasPred d (name_of ps) o
pred_among d ps (Some b) e p = tt
pred_among d ps None e p = p (name_of ps) (pred_given ps (is_fixed (name_of ps)) (ap (λ (o : Option Builtin). is_some o && not (bytes_eq (codes "($ has parent $)") (name_of ps))) e))

each_there : (ns ws : List (List ℕ)) → Within ws ns → All (λ (w : List ℕ). Contains ns w) ws
each_there ns [] h = All-nil (λ (w : List ℕ). Contains ns w)
each_there ns (w ∷ ws) h = All-cons (λ (u : List ℕ). Contains ns u) w ws (h w (first_there w ws)) (each_there ns ws (λ n k. h n (Contains-append_right (w ∷ []) ws n k)))

-- the names of these things are among others
pub record Gives (ts : List Thing) (d : Named) : Type 0 where
  preds : Within (names_in predicate_in ts) d.preds
  objects : Within (names_in object_in ts) d.objects
  words : Within (names_in thing_words ts) d.words

first_gives : (given : Thing → List (List ℕ)) (t : Thing) (ts : List Thing) (ns : List (List ℕ)) → Within (names_in given (t ∷ ts)) ns → Within (given t) ns
first_gives given t ts ns h n k = h n (Contains-append_left (given t) (names_in given ts) n k)

later_gives : (given : Thing → List (List ℕ)) (t : Thing) (ts : List Thing) (ns : List (List ℕ)) → Within (names_in given (t ∷ ts)) ns → Within (names_in given ts) ns
later_gives given t ts ns h n k = h n (Contains-append_right (given t) (names_in given ts) n k)

one_among : (d : Named) (t : Thing) → IsReadable t → Within (predicate_in t) d.preds → Within (object_in t) d.objects → Within (thing_words t) d.words → IsAmong d t
one_among d (query r ps) m p o w = pred_among d ps (builtin_named (name_of ps)) refl p
one_among d (topic_line n) m p o w = o n (first_there n [])
one_among d (object n) m p o w = o n (first_there n [])
one_among d (word n) m p o w = w n (first_there n [])
one_among d (word_choice ws) m p o w = each_there d.words ws w
one_among d (number n) m p o w = m
one_among d (text n) m p o w = m
one_among d t m p o w = tt

each_among : (d : Named) (ts : List Thing) → All IsReadable ts → Gives ts d → All (IsAmong d) ts
each_among d [] m g = All-nil (IsAmong d)
each_among d (t ∷ ts) m g =
    All-cons (IsAmong d) t ts
    (one_among d t (All-head IsReadable t ts m) (first_gives predicate_in t ts d.preds g.preds) (first_gives object_in t ts d.objects g.objects) (first_gives thing_words t ts d.words g.words))
    (each_among d ts (All-tail IsReadable t ts m) (record { preds = later_gives predicate_in t ts d.preds g.preds; objects = later_gives object_in t ts d.objects g.objects; words = later_gives thing_words t ts d.words g.words }))

pub mentions_among : (is : List Item) → All IsReadable (mentioned is) → All (IsAmong (names_of is)) (mentioned is)
mentions_among is r = each_among (names_of is) (mentioned is) r (record {
  preds = (firsts_are (names_in predicate_in (mentioned is))).all;
  objects = (firsts_are (names_in object_in (mentioned is))).all;
  words = (firsts_are (names_in thing_words (mentioned is))).all;
})

-- ---- the names are few

passed_on : (before is : List Item) → are_many before ≡ false → first_passing has_excess are_many before is ≡ None → are_many (before ++ is) ≡ false
passed_on before [] few h = ap are_many (append-nil before) ∙ few
passed_on before (i ∷ is) few h = here (has_excess i.said || are_many (before ++ i ∷ [])) refl h (λ e k. passed_on (before ++ i ∷ []) is e k)
  where
    here : (b : Bool) → (has_excess i.said || are_many (before ++ i ∷ [])) ≡ b → (if b then Some i else first_passing has_excess are_many (before ++ i ∷ []) is) ≡ None → (are_many (before ++ i ∷ []) ≡ false → first_passing has_excess are_many (before ++ i ∷ []) is ≡ None → are_many ((before ++ i ∷ []) ++ is) ≡ false) → are_many (before ++ i ∷ is) ≡ false
    here true e k rest = cc
    here false e k rest = ap are_many (sym (append_assoc before (i ∷ []) is)) ∙ rest (or_parts (has_excess i.said) (are_many (before ++ i ∷ [])) e).1 k

not_over : (most n : ℕ) → nat_lt most n ≡ false → n ≤ most
not_over most n h = grind (arith, nat_tests, h)

few_names : (d : Named) → are_many_names d ≡ false → AreFew d
few_names d h =
    let first = or_parts (nat_lt 1000 (length d.objects)) (nat_lt 4000 (length d.words) || nat_lt 4000 (length d.preds)) h in
    let others = or_parts (nat_lt 4000 (length d.words)) (nat_lt 4000 (length d.preds)) first.1 in
    record { preds = not_over 4000 (length d.preds) others.1; objects = not_over 1000 (length d.objects) first.0; words = not_over 4000 (length d.words) others.0 }

pub names_few : (is : List Item) → first_passing has_excess are_many [] is ≡ None → AreFew (names_of is)
names_few is h =
    few_names (names_of is)
    (or_parts (are_many_names (names_of is)) (nat_lt 16000 (count_rules is) || (nat_lt 16000 (weight_of closures_at (mentioned is)) || nat_lt 500 (weight_of selects_at (mentioned is)))) (passed_on [] is refl h)).0

-- ---- what is mentioned is small

one_small : (t : Thing) → is_excess t ≡ false → IsSmall t
one_small (query r ps) e = not_over 12 (places_in ps) e
one_small (branches n) e = not_over 500 n e
one_small (select n) e = not_over 500 n e
one_small t e = tt

each_small : (ts : List Thing) → list_any is_excess ts ≡ false → All IsSmall ts
each_small [] e = All-nil IsSmall
each_small (t ∷ ts) e =
    let each = or_parts (is_excess t) (list_any is_excess ts) e in
    All-cons IsSmall t ts (one_small t each.0) (each_small ts each.1)

said_small : (said : Said) → has_excess said ≡ false → All IsSmall (things_in said)
said_small said e = each_small (things_in said) (or_parts (list_any is_excess (things_in said)) (is_full (of_said said) || list_any is_full (closures (of_said said))) e).0

pub mentions_small : (before is : List Item) → first_passing has_excess are_many before is ≡ None → All IsSmall (mentioned is)
mentions_small before [] h = All-nil IsSmall
mentions_small before (i ∷ is) h = here (has_excess i.said || are_many (before ++ i ∷ [])) refl h (λ k. mentions_small (before ++ i ∷ []) is k)
  where
    here : (b : Bool) → (has_excess i.said || are_many (before ++ i ∷ [])) ≡ b → (if b then Some i else first_passing has_excess are_many (before ++ i ∷ []) is) ≡ None → (first_passing has_excess are_many (before ++ i ∷ []) is ≡ None → All IsSmall (mentioned is)) → All IsSmall (mentioned (i ∷ is))
    here true e k rest = cc
    here false e k rest = All-append IsSmall (things_in i.said) (mentioned is) (said_small i.said (or_parts (has_excess i.said) (are_many (before ++ i ∷ [])) e).0) (rest k)
