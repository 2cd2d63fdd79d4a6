-- The items of a made source stay as they are once heads are plain and access rules put in, and nothing of them is too much.
use Rattle.std.proofs.Common.{◌≡◌, ◌+◌, ◌*◌, ◌≤◌, ℕ, false, List, [], ◌∷◌, ◌++◌, Option, None, Ok, length, length-append, refl, sym, ap, subst, ◌∙◌, arith}
use Rattle.std.proofs.lemmas.Bool.{le-ltb, or_from, cond-false}
use Rattle.dg_base.specs.Mentions.{Thing, things, weight_of}
use Rattle.dg_base.specs.Tree.{Said, Item}
use Rattle.dg_base.proofs.MentionLemmas.{weight_append}
use Rattle.dg_names.specs.Counts.{closures_at, selects_at}
use Rattle.dg_scopes.specs.Counts.{nodes_at, thing_rules, counted_of, counted_among, are_large, are_over}
use Rattle.dg_plain.specs.Items.{plain_said, topic_behind, plain_items}
use Rattle.dg_put.specs.Put.{Access}
use Rattle.dg_items.specs.Expanded.{access_in, access_rules, put_item, put_items, are_bad}
use Rattle.dg_access.specs.Answer.{cause_of, refused_or, first_refused, IsPut, IsExpanded, IsRewritten}
use Rattle.dg_access.specs.Loops.{first_looping}
use Rattle.dg_made.proofs.Items.{item, room_said, thing_said, room_name, thing_name, room_of, program_items, made_items, Each, each_append, each_made}
use Rattle.dg_made.proofs.NamedLemmas.{each_weaker, made_length}

-- An item stays as it is, counts little, and is refused by itself for nothing.
pub record IsPlain (i : Item) : Type 0 where
  pub plain : plain_said None i.said ≡ i.said
  pub topic : topic_behind None i.said ≡ None
  pub none : access_in i.said ≡ []
  pub put : put_item [] i ≡ i ∷ []
  pub large : are_large (i ∷ []) ≡ false
  pub bad : are_bad [] (i ∷ []) ≡ false
  pub rules : weight_of thing_rules (things (counted_of i.said)) ≤ 1
  pub closures : weight_of closures_at (things (counted_of i.said)) ≡ 0
  pub selects : weight_of selects_at (things (counted_of i.said)) ≡ 0
  pub nodes : weight_of nodes_at (things (counted_of i.said)) ≤ 100

-- ---- items stay

plain_stay : (is : List Item) → Each IsPlain is → plain_items None is ≡ is
plain_stay [] h = refl
plain_stay (i ∷ is) h =
    ap (λ (s : Said). item i.line s ∷ plain_items (topic_behind None i.said) is) h.0.plain
    ∙ ap (λ (t : Option (List ℕ)). i ∷ plain_items t is) h.0.topic
    ∙ ap (λ (l : List Item). i ∷ l) (plain_stay is h.1)

no_access : (is : List Item) → Each IsPlain is → access_rules is ≡ []
no_access [] h = refl
no_access (i ∷ is) h = ap (λ (l : List Access). l ++ access_rules is) h.0.none ∙ no_access is h.1

put_stay : (is : List Item) → Each IsPlain is → put_items [] is ≡ is
put_stay [] h = refl
put_stay (i ∷ is) h = ap (λ (l : List Item). l ++ put_items [] is) h.0.put ∙ ap (λ (l : List Item). i ∷ l) (put_stay is h.1)

no_loops : (is : List Item) → Each IsPlain is → first_looping [] [] is ≡ None
no_loops [] h = refl
no_loops (i ∷ is) h = rw h.0.none (no_loops is h.1)

-- ---- no count passes

none_counted : (f : Thing → ℕ) (is : List Item) → Each (λ (i : Item). weight_of f (things (counted_of i.said)) ≡ 0) is → weight_of f (counted_among is) ≡ 0
none_counted f [] h = refl
none_counted f (i ∷ is) h = omega (arith, weight_append f (things (counted_of i.said)) (counted_among is), h.0, none_counted f is h.1)

rules_few : (is : List Item) → Each IsPlain is → weight_of thing_rules (counted_among is) ≤ length is
rules_few [] h = omega arith
rules_few (i ∷ is) h = omega (arith, weight_append thing_rules (things (counted_of i.said)) (counted_among is), h.0.rules, rules_few is h.1)

nodes_few : (is : List Item) → Each IsPlain is → weight_of nodes_at (counted_among is) ≤ 100 * length is
nodes_few [] h = omega arith
nodes_few (i ∷ is) h = omega (arith, weight_append nodes_at (things (counted_of i.said)) (counted_among is), h.0.nodes, nodes_few is h.1)

not_over : (is : List Item) → Each IsPlain is → length is ≤ 16000 → are_over is ≡ false
not_over is h short =
    let closures = none_counted closures_at is (each_weaker IsPlain _ (λ i l. l.closures) is h) in
    let selects = none_counted selects_at is (each_weaker IsPlain _ (λ i l. l.selects) is h) in
    or_from _ _ (le-ltb 16000 (weight_of thing_rules (counted_among is)) (omega (arith, rules_few is h, short)))
    (or_from _ _ (le-ltb 16000 (weight_of closures_at (counted_among is)) (omega (arith, closures)))
    (or_from _ _ (le-ltb 500 (weight_of selects_at (counted_among is)) (omega (arith, selects)))
    (le-ltb 2000000 (weight_of nodes_at (counted_among is)) (omega (arith, nodes_few is h, short)))))

no_cause : (before : List Item) (i : Item) → Each IsPlain before → IsPlain i → length before + 1 ≤ 16000 → cause_of [] before (i ∷ []) ≡ None
no_cause before i b h short =
    let over = not_over (before ++ i ∷ []) (each_append IsPlain before (i ∷ []) b (h, tt)) (omega (arith, length-append before (i ∷ []), short)) in
    cond-false _ _ _ (or_from (are_large (i ∷ [])) (are_over (before ++ i ∷ [])) h.large over) ∙ cond-false _ _ _ h.bad

none_refused : (before is : List Item) → Each IsPlain before → Each IsPlain is → length before + length is ≤ 16000 → first_refused [] before is ≡ None
none_refused before [] b h short = refl
none_refused before (i ∷ is) b h short =
    let next = each_append IsPlain before (i ∷ []) b (h.0, tt) in
    ap (λ (new : List Item). refused_or i.line (cause_of [] before new) (first_refused [] (before ++ new) is)) h.0.put
    ∙ ap (λ cause. refused_or i.line cause (first_refused [] (before ++ i ∷ []) is)) (no_cause before i b h.0 (omega (arith, short)))
    ∙ none_refused (before ++ i ∷ []) is next h.1 (omega (arith, length-append before (i ∷ []), short))

-- ---- a made source

room_plain : (line : ℕ) (name : List ℕ) → IsPlain (item line (room_said name))
room_plain line name = record { plain = refl; topic = refl; none = refl; put = refl; large = refl; bad = refl; rules = omega arith; closures = refl; selects = refl; nodes = omega arith }

thing_plain : (line : ℕ) (name room : List ℕ) → IsPlain (item line (thing_said name room))
thing_plain line name room = record { plain = refl; topic = refl; none = refl; put = refl; large = refl; bad = refl; rules = omega arith; closures = refl; selects = refl; nodes = omega arith }

program_plain : (l : ℕ) → Each IsPlain (program_items l)
program_plain l = (
  record { plain = refl; topic = refl; none = refl; put = refl; large = refl; bad = refl; rules = omega arith; closures = refl; selects = refl; nodes = omega arith },
  (
    record { plain = refl; topic = refl; none = refl; put = refl; large = refl; bad = refl; rules = omega arith; closures = refl; selects = refl; nodes = omega arith },
    (record { plain = refl; topic = refl; none = refl; put = refl; large = refl; bad = refl; rules = omega arith; closures = refl; selects = refl; nodes = omega arith }, tt),
  ),
)

made_plain : (n : ℕ) → Each IsPlain (made_items n)
made_plain n =
    each_made IsPlain n (λ i lt. room_plain (0 + i + 1) (room_name i)) (λ i lt. thing_plain (n + i + 1) (thing_name i) (room_of n i)) (program_plain (n + n))

rewritten : (is : List Item) → Each IsPlain is → length is ≤ 16000 → IsRewritten is (Ok is)
rewritten is h short =
    let put : IsPut [] is (Ok is) = (none_refused [] is tt h (omega (arith, short)), sym (put_stay is h)) in
    subst (λ l. IsExpanded l (Ok is)) (sym (plain_stay is h))
    (subst (λ r. (first_looping r [] is ≡ None) × IsPut r is (Ok is)) (sym (no_access is h)) (no_loops is h, put))

pub made_rewritten : (n : ℕ) → n ≤ 400 → IsRewritten (made_items n) (Ok (made_items n))
made_rewritten n le = rewritten (made_items n) (made_plain n) (omega (arith, made_length n, le))
