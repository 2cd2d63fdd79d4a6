-- Parts that are words.
use Rattle.std.proofs.Common.{◌≡◌, ◌≢◌, ◌<◌, ℕ, List, [], ◌∷◌, Bool, true, false, Some, None, length, map, refl, sym, ◌∙◌, ap, arith}
use Rattle.std.specs.Prelude.{◌&&◌, ◌++◌, codes, if◌then◌else◌}
use Rattle.std.specs.Str.{bytes_eq}
use Rattle.std.proofs.lemmas.List.{map-append}
use Rattle.dg_base.specs.TreeView.{part_view}
use Rattle.dg_base.specs.declared.tree.Part as code
use Rattle.dg_base.specs.Tree.{Part, part_word, part_value, Value, parts_of}
use Rattle.dg_reader.specs.Grammar.{are_words, collect_word, accumulate_word, into_word, keyword_of, keyword_with, keyword_among, bare_keywords, is_query, is_declaration}
use Rattle.dg_reader.specs.inside.Keywords.{is_word, valued_word, valued_in, valued_view, last_value, IsValued}
use Rattle.dg_reader.specs.declared.keyword.Valued.{Valued}
use Rattle.dg_reader.specs.declared.keyword.Valued.TheVariants.{Collect, Accumulate, Into}

pub and_no : (a : Bool) → false ≡ a && false
and_no true = refl
and_no false = refl

pub and_yes : (a : Bool) → a ≡ a && true
and_yes true = refl
and_yes false = refl

-- The first part decides with those behind it.
pub first_and_rest : (p : Part) (ps : List Part) (w : List ℕ) (ws : List (List ℕ)) → are_words (parts_of (p ∷ ps)) (w ∷ ws) ≡ are_words (parts_of ps) ws && is_word p w
first_and_rest (part_word u) ps w ws = refl
first_and_rest (part_value v) ps w ws = and_no (are_words (parts_of ps) ws)

pub first_isn't : (p : Part) (ps : List Part) (w : List ℕ) (ws : List (List ℕ)) → is_word p w ≡ false → false ≡ are_words (parts_of (p ∷ ps)) (w ∷ ws)
first_isn't p ps w ws e = and_no (are_words (parts_of ps) ws) ∙ ap (λ (b : Bool). are_words (parts_of ps) ws && b) (sym e) ∙ sym (first_and_rest p ps w ws)

pub first_is : (p : Part) (ps : List Part) (w : List ℕ) (ws : List (List ℕ)) → is_word p w ≡ true → are_words (parts_of ps) ws ≡ are_words (parts_of (p ∷ ps)) (w ∷ ws)
first_is p ps w ws e = and_yes (are_words (parts_of ps) ws) ∙ ap (λ (b : Bool). are_words (parts_of ps) ws && b) (sym e) ∙ sym (first_and_rest p ps w ws)

-- Other lists of words are longer or shorter.
pub lengths_differ : (ps : List Part) (ws : List (List ℕ)) → length ps ≢ length ws → false ≡ are_words (parts_of ps) ws
lengths_differ [] [] h = absurd (h refl)
lengths_differ [] (w ∷ ws) h = refl
lengths_differ (p ∷ ps) [] h = refl
lengths_differ (p ∷ ps) (w ∷ ws) h = ap (λ (b : Bool). b && is_word p w) (lengths_differ ps ws (λ e. h (omega (arith, e)))) ∙ sym (first_and_rest p ps w ws)

-- ---- keywords with a value

valued_says : (w : List ℕ) (v : Value) (k : Valued) → (if is_query v then None else valued_word w) ≡ Some k → keyword_with w v ≡ Some (valued_view k v)
valued_says w v k e = here (is_query v) (bytes_eq w (codes "collect")) (bytes_eq w (codes "accumulate")) (bytes_eq w (codes "into")) e
  where
    given : (j : Valued) → Some j ≡ Some k → Some (valued_view j v) ≡ Some (valued_view k v)
    given j e = cc

    here : (q a b c : Bool) → (if q then None else if a then Some Collect else if b then Some Accumulate else if c then Some Into else None) ≡ Some k → (if q then None else if a then Some (collect_word v) else if b then Some (accumulate_word v) else if c then Some (into_word v) else None) ≡ Some (valued_view k v)
    here true a b c e = absurd (cc)
    here false true b c e = given Collect e
    here false false true c e = given Accumulate e
    here false false false true e = given Into e
    here false false false false e = absurd (cc)

pub is_valued : (ps : List Part) (k : Valued) → valued_in ps ≡ Some k → IsValued ps k
is_valued (part_word w ∷ part_value v ∷ []) k e = record { value = v; last = refl; says = valued_says w v k e }
is_valued ps k e = absurd (cc)

not_says : (w : List ℕ) (v : Value) → (if is_query v then None else valued_word w) ≡ None → keyword_with w v ≡ None
not_says w v e = here (is_query v) (bytes_eq w (codes "collect")) (bytes_eq w (codes "accumulate")) (bytes_eq w (codes "into")) e
  where
    here : (q a b c : Bool) → (if q then None else if a then Some Collect else if b then Some Accumulate else if c then Some Into else None) ≡ None → (if q then None else if a then Some (collect_word v) else if b then Some (accumulate_word v) else if c then Some (into_word v) else None) ≡ None
    here true a b c e = refl
    here false true b c e = absurd (cc)
    here false false true c e = absurd (cc)
    here false false false true e = absurd (cc)
    here false false false false e = refl

pub is_bare : (ps : List Part) → valued_in ps ≡ None → keyword_of (parts_of ps) ≡ keyword_among (parts_of ps) bare_keywords
is_bare (part_word w ∷ part_value v ∷ []) e = not_says w v e
is_bare [] e = refl
is_bare (part_value v ∷ ps) e = refl
is_bare (part_word w ∷ []) e = refl
is_bare (part_word w ∷ part_word u ∷ ps) e = refl
is_bare (part_word w ∷ part_value v ∷ p ∷ ps) e = refl

pub last-push : (ps : List Part) (p : Part) → last_value (ps ++ p ∷ []) ≡ last_value (p ∷ [])
last-push [] p = refl
last-push (q ∷ []) p = refl
last-push (q ∷ r ∷ ps) p = last-push (r ∷ ps) p

pub last_of : (xs ys : List code.Part) (p : code.Part) → xs ≡ ys ++ p ∷ [] → last_value (map part_view xs) ≡ last_value (part_view p ∷ [])
last_of xs ys p e = ap (λ (l : List code.Part). last_value (map part_view l)) e ∙ ap last_value (map-append part_view ys (p ∷ [])) ∙ last-push (map part_view ys) (part_view p)

pub short_declares_nothing : (ps : List Part) → length ps < 2 → false ≡ is_declaration (parts_of ps)
short_declares_nothing [] h = refl
short_declares_nothing (part_word w ∷ []) h = refl
short_declares_nothing (part_value v ∷ []) h = refl
short_declares_nothing (p ∷ q ∷ ps) h = absurd (omega arith)
