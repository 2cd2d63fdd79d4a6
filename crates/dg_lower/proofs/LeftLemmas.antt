-- Items are looked at one by one, and with each the next rule of its predicate.
use Rattle.std.proofs.Common.{◌≡◌, ◌+◌, ◌<◌, ◌⊎◌, inl, inr, ℕ, zero, suc, List, [], ◌∷◌, ◌++◌, ◌||◌, ◌&&◌, Bool, true, false, not, Option, Some, None, Result, Ok, Err, length, map, get_or, position, drop, take, refl, sym, ◌∙◌, ap, subst, arith}
use Rattle.std.specs.Prelude.{if◌then◌else◌, IfOk}
use Rattle.std.specs.List.{IsDistinct}
use Rattle.std.specs.Str.{bytes_eq}
use Rattle.std.specs.Cmp.Lexicographic.{bytes_decides}
use Rattle.std.proofs.lemmas.List.Quantifiers.{position-Some}
use Rattle.std.proofs.lemmas.Map.Keys.{IsDistinct-head, IsDistinct-tail}
use Rattle.dg_base.specs.Heads.{name_of}
use Rattle.dg_base.specs.Tree.{Parts, Body, Said, rule, deny, Item}
use Rattle.dg_base.specs.TreeView.{head_view, body_view, said_view, item_view}
use Rattle.dg_base.specs.declared.tree.Body.{Body as TreeBody}
use Rattle.dg_base.specs.declared.tree.Head.{Head}
use Rattle.dg_base.specs.declared.tree.Item.{Item as TreeItem}
use Rattle.dg_base.specs.declared.tree.ItemBody.{ItemBody}
use Rattle.dg_base.specs.declared.tree.ItemBody.TheVariants.{Rule as Rule-Item, Deny as Deny-Item}
use Rattle.dg_base.specs.declared.program.Pred.{Pred}
use Rattle.dg_base.specs.declared.program.Rule.{Rule}
use Rattle.dg_meaning.specs.Quiet.{are_quiet, have_quiet_bodies}
use Rattle.dg_core.specs.Core.{behind_item, none_before, rule_of, failing, rules_from, pred_of}
use Rattle.dg_core.specs.Goals.{Scope}
use Rattle.dg_core.specs.Places.{is_among}
use Rattle.dg_core.proofs.PredLemmas.{IsApart, other, apart_from_none, next_item}
use Rattle.dg_lower.specs.Lowered.{Sight, is_bad_rule, declared_behind, first_bad}
use Rattle.dg_lower.specs.inside.Left.{next_at, taken_at, next_of, taken_of, IsJudged, IsLookedAt, Stands}

-- ---- the next rule of a predicate

-- the rules of a name: one in front of others, where it is this name
abbrev in_front : List ℕ → Rule → (List ℕ → List Rule) → List ℕ → List Rule
in_front h r g m = (if bytes_eq h m then r ∷ [] else []) ++ g m

front_is : (h m : List ℕ) (r : Rule) (g : List ℕ → List Rule) (b : Bool) → bytes_eq h m ≡ b → in_front h r g m ≡ (if b then r ∷ [] else []) ++ g m
front_is h m r g b e = ap (λ (t : Bool). (if t then r ∷ [] else []) ++ g m) e

front_apart : (h : List ℕ) (r : Rule) (g : List ℕ → List Rule) (ns : List (List ℕ)) → IsApart h ns → map (in_front h r g) ns ≡ map g ns
front_apart h r g [] apart = refl
front_apart h r g (n ∷ ns) apart =
    ap (λ (l : List Rule). l ∷ map (in_front h r g) ns) (front_is h n r g false apart.0)
    ∙ ap (λ (l : List (List Rule)). g n ∷ l) (front_apart h r g ns apart.1)

next_is : (h : List ℕ) (r : Rule) (g : List ℕ → List Rule) (ns : List (List ℕ)) (k : ℕ) (d : List ℕ) → k < length ns → bytes_eq h (get_or ns k d) ≡ true → next_at k (map (in_front h r g) ns) ≡ r ∷ []
next_is h r g [] k d below e = absurd (omega (arith, below))
next_is h r g (n ∷ ns) zero d below e = ap (take 1) (front_is h n r g true e)
next_is h r g (n ∷ ns) (suc k) d below e = next_is h r g ns k d (omega (arith, below)) e

apart_name : (n : List ℕ) (ns : List (List ℕ)) (k : ℕ) (d : List ℕ) → IsApart n ns → k < length ns → bytes_eq n (get_or ns k d) ≡ false
apart_name n [] k d apart h = absurd (omega (arith, h))
apart_name n (m ∷ ns) zero d apart h = apart.0
apart_name n (m ∷ ns) (suc k) d apart h = apart_name n ns k d apart.1 (omega (arith, h))

taken_is : (h : List ℕ) (r : Rule) (g : List ℕ → List Rule) (ns : List (List ℕ)) (k : ℕ) (d : List ℕ) → IsDistinct bytes_eq ns → k < length ns → bytes_eq h (get_or ns k d) ≡ true → taken_at k (map (in_front h r g) ns) ≡ map g ns
taken_is h r g [] k d distinct below e = absurd (omega (arith, below))
taken_is h r g (n ∷ ns) zero d distinct below e =
    let apart = subst (λ (x : List ℕ). IsApart x ns) (sym ((bytes_decides h n).0 e)) (IsDistinct-head bytes_eq n ns distinct) in
    ap (λ (l : List Rule). drop 1 l ∷ map (in_front h r g) ns) (front_is h n r g true e)
    ∙ ap (λ (l : List (List Rule)). g n ∷ l) (front_apart h r g ns apart)
taken_is h r g (n ∷ ns) (suc k) d distinct below e =
    let apart = other h (get_or ns k d) n e (apart_name n ns k d (IsDistinct-head bytes_eq n ns distinct) (omega (arith, below))) in
    ap (λ (l : List Rule). l ∷ taken_at k (map (in_front h r g) ns)) (front_is h n r g false apart)
    ∙ ap (λ (l : List (List Rule)). g n ∷ l) (taken_is h r g ns k d (IsDistinct-tail bytes_eq n ns distinct) (omega (arith, below)) e)

among_at : (h : List ℕ) (ns : List (List ℕ)) (k : ℕ) (d : List ℕ) → k < length ns → bytes_eq h (get_or ns k d) ≡ true → is_among h ns ≡ true
among_at h [] k d below e = absurd (omega (arith, below))
among_at h (n ∷ ns) zero d below e = ap (λ (b : Bool). b || is_among h ns) e
among_at h (n ∷ ns) (suc k) d below e = later (bytes_eq h n) (is_among h ns) (among_at h ns k d (omega (arith, below)) e)
  where
    later : (a b : Bool) → b ≡ true → (a || b) ≡ true
    later true b e = refl
    later false b e = e

among_none : (h : List ℕ) (ns : List (List ℕ)) → IsApart h ns → is_among h ns ≡ false
among_none h [] apart = refl
among_none h (n ∷ ns) apart = ap (λ (b : Bool). b || is_among h ns) apart.0 ∙ among_none h ns apart.1

-- ---- a rule is judged

abbrev by_rules : Sight → List ℕ → List Rule → Bool
by_rules s name rules = if is_among name s.declared then true else is_among name s.placed && not (have_quiet_bodies s.quiet rules)

-- ---- an item is looked at

either_is : (a x : Bool) → (if a then true else x) ≡ (a || x)
either_is true x = refl
either_is false x = refl

one_body : (q : List Bool) (r : Rule) → have_quiet_bodies q (r ∷ []) ≡ are_quiet q r.body
one_body q r = last (are_quiet q r.body)
  where
    last : (b : Bool) → (b && true) ≡ b
    last true = refl
    last false = refl

-- what judges the next rule of a name judges the rule of the item
judge : (s : Sight) (h : List ℕ) (r : Rule) (g : List ℕ → List Rule) (o : Option ℕ) → position (bytes_eq h) s.around.names.preds ≡ o → by_rules s h (next_of o (map (in_front h r g) s.around.names.preds)) ≡ is_bad_rule s h r
judge s h r g None at =
    let apart = apart_from_none h s.around.names.preds at in
    either_is (is_among h s.declared) (is_among h s.placed && false)
    ∙ ap (λ (b : Bool). is_among h s.declared || (is_among h s.placed && (b && not (are_quiet s.quiet r.body)))) (sym (among_none h s.around.names.preds apart))
judge s h r g (Some k) at =
    let ns = s.around.names.preds in
    let found = position-Some (bytes_eq h) ns k h at in
    ap (by_rules s h) (next_is h r g ns k h found.0 found.1)
    ∙ ap (λ (b : Bool). if is_among h s.declared then true else is_among h s.placed && not b) (one_body s.quiet r)
    ∙ either_is (is_among h s.declared) (is_among h s.placed && not (are_quiet s.quiet r.body))
    ∙ ap (λ (b : Bool). is_among h s.declared || (is_among h s.placed && (b && not (are_quiet s.quiet r.body)))) (sym (among_at h ns k h found.0 found.1))

-- and what is left behind it is left behind the item
behind : (s : Sight) (h : List ℕ) (r : Rule) (g : List ℕ → List Rule) (o : Option ℕ) → IsDistinct bytes_eq s.around.names.preds → position (bytes_eq h) s.around.names.preds ≡ o → taken_of o (map (in_front h r g) s.around.names.preds) ≡ map g s.around.names.preds
behind s h r g None distinct at = front_apart h r g s.around.names.preds (apart_from_none h s.around.names.preds at)
behind s h r g (Some k) distinct at =
    let found = position-Some (bytes_eq h) s.around.names.preds k h at in
    taken_is h r g s.around.names.preds k h distinct found.0 found.1

rule_looked_at : (s : Sight) (ps : Parts) (b : Body) (declared : List (List ℕ)) (old : List (List Rule)) (bad : Bool) (new : List (List Rule)) → IsDistinct bytes_eq s.around.names.preds → IsJudged s (name_of ps) old bad new → IsLookedAt s (rule ps b) declared old bad new
rule_looked_at s ps b declared old bad new distinct j =
    let h = name_of ps in
    let o = position (bytes_eq h) s.around.names.preds in
    record {
      bad = λ n is e. j.bad ∙ ap (λ (rows : List (List Rule)). by_rules s h (next_of o rows)) e ∙ judge s h (rule_of s.around n ps b []) (λ name. rules_from s.around (behind_item n (rule ps b)) name is) o refl;
      left = λ n is e fine. j.left fine ∙ ap (taken_of o) e ∙ behind s h (rule_of s.around n ps b []) (λ name. rules_from s.around (behind_item n (rule ps b)) name is) o distinct refl;
    }

denial_looked_at : (s : Sight) (ps : Parts) (b : Body) (declared : List (List ℕ)) (old : List (List Rule)) (bad : Bool) (new : List (List Rule)) → IsDistinct bytes_eq s.around.names.preds → IsJudged s (name_of ps) old bad new → IsLookedAt s (deny ps b) declared old bad new
denial_looked_at s ps b declared old bad new distinct j =
    let h = name_of ps in
    let o = position (bytes_eq h) s.around.names.preds in
    record {
      bad = λ n is e. j.bad ∙ ap (λ (rows : List (List Rule)). by_rules s h (next_of o rows)) e ∙ judge s h (rule_of s.around n ps b failing) (λ name. rules_from s.around (behind_item n (deny ps b)) name is) o refl;
      left = λ n is e fine. j.left fine ∙ ap (taken_of o) e ∙ behind s h (rule_of s.around n ps b failing) (λ name. rules_from s.around (behind_item n (deny ps b)) name is) o distinct refl;
    }

-- the item of the code that gives a rule to this head
abbrev GivesRule : ItemBody → Head → Type 0
GivesRule said h = ((b : TreeBody) × (said ≡ Rule-Item h b)) ⊎ ((b : TreeBody) × (said ≡ Deny-Item h b))

head_looked_at : (s : Sight) (said : ItemBody) (h : Head) (declared : List (List ℕ)) (old : List (List Rule)) (bad : Bool) (new : List (List Rule)) → IsDistinct bytes_eq s.around.names.preds → GivesRule said h → IsJudged s (name_of (head_view h)) old bad new → IsLookedAt s (said_view said) declared old bad new
head_looked_at s said h declared old bad new distinct (inl is) j =
    subst (λ (x : ItemBody). IsLookedAt s (said_view x) declared old bad new) (sym is.1) (rule_looked_at s (head_view h) (body_view is.0) declared old bad new distinct j)
head_looked_at s said h declared old bad new distinct (inr is) j =
    subst (λ (x : ItemBody). IsLookedAt s (said_view x) declared old bad new) (sym is.1) (denial_looked_at s (head_view h) (body_view is.0) declared old bad new distinct j)

pub head_answers : {E : Type 0} (s : Sight) (said : ItemBody) (h : Head) (declared : List (List ℕ)) (old : List (List Rule)) (answer : Result Bool E) (new : List (List Rule)) → IsDistinct bytes_eq s.around.names.preds → GivesRule said h → IfOk answer (λ bad. IsJudged s (name_of (head_view h)) old bad new) → IfOk answer (λ bad. IsLookedAt s (said_view said) declared old bad new)
head_answers s said h declared old (Ok bad) new distinct is j = head_looked_at s said h declared old bad new distinct is j
head_answers s said h declared old (Err e) new distinct is j = j

-- ---- all items

stands_bad : (s : Sight) (declared : List (List ℕ)) (old new : List (List Rule)) (i : Item) (is : List Item) (first : Option ℕ) → Stands s declared old (i ∷ is) first → IsLookedAt s i.said declared old true new → Some i.line ≡ first
stands_bad s declared old new i is first stands looked =
    let n = stands.before in
    ap (λ (b : Bool). if b then Some i.line else first_bad s (behind_item n i.said) (declared_behind declared i.said) is) (looked.bad n is stands.left) ∙ stands.first

stands_next : (s : Sight) (declared : List (List ℕ)) (old new : List (List Rule)) (i : Item) (is : List Item) (first : Option ℕ) → Stands s declared old (i ∷ is) first → IsLookedAt s i.said declared old false new → Stands s (declared_behind declared i.said) new is first
stands_next s declared old new i is first stands looked =
    let n = stands.before in
    record {
      before = behind_item n i.said;
      left = looked.left n is stands.left refl;
      first = ap (λ (b : Bool). if b then Some i.line else first_bad s (behind_item n i.said) (declared_behind declared i.said) is) (looked.bad n is stands.left) ∙ stands.first;
    }

-- ---- the items of the code

rules_all : (around : Scope) (is : List Item) (ns : List (List ℕ)) → map (λ (p : Pred). p.rules) (map (pred_of around is) ns) ≡ map (λ (n : List ℕ). rules_from around none_before n is) ns
rules_all around is [] = refl
rules_all around is (n ∷ ns) = ap (λ (l : List (List Rule)). rules_from around none_before n is ∷ l) (rules_all around is ns)

pub stands_at_first : (s : Sight) (is : List Item) (declared : List (List ℕ)) (preds : List Pred) (rows : List (List Rule)) → declared ≡ [] → rows ≡ map (λ (p : Pred). p.rules) preds → preds ≡ map (pred_of s.around is) s.around.names.preds → Stands s declared rows is (first_bad s none_before [] is)
stands_at_first s is declared preds rows none all made = record {
  before = none_before;
  left = all ∙ ap (map (λ (p : Pred). p.rules)) made ∙ rules_all s.around is s.around.names.preds;
  first = ap (λ (ds : List (List ℕ)). first_bad s none_before ds is) none;
}

-- what stands at an item stands in front of it and those behind it
stands_here : (s : Sight) (declared : List (List ℕ)) (rows : List (List Rule)) (is : List TreeItem) (k : ℕ) (i : TreeItem) (first : Option ℕ) → k < length is → i ≡ get_or is k i → Stands s declared rows (map item_view (drop k is)) first → Stands s declared rows (item_view i ∷ map item_view (drop (k + 1) is)) first
stands_here s declared rows is k i first below read stands = subst (λ (l : List TreeItem). Stands s declared rows (map item_view l) first) (next_item is k i below read) stands

-- an item was looked at, and this came of it
looked_at : (s : Sight) (said : Said) (declared seen : List (List ℕ)) (old : List (List Rule)) (is told : Bool) (new : List (List Rule)) → seen ≡ declared → is ≡ told → IsLookedAt s said seen old is new → IsLookedAt s said declared old told new
looked_at s said declared seen old is told new same e looked =
    subst (λ (b : Bool). IsLookedAt s said declared old b new) e (subst (λ (ds : List (List ℕ)). IsLookedAt s said ds old is new) same looked)

pub stands_at_bad : (s : Sight) (declared seen : List (List ℕ)) (old new : List (List Rule)) (is : List TreeItem) (k : ℕ) (i : TreeItem) (first : Option ℕ) (bad : Bool) → k < length is → i ≡ get_or is k i → Stands s declared old (map item_view (drop k is)) first → seen ≡ declared → bad ≡ true → IsLookedAt s (said_view i.body) seen old bad new → Some i.line ≡ first
stands_at_bad s declared seen old new is k i first bad below read stands same e looked =
    stands_bad s declared old new (item_view i) (map item_view (drop (k + 1) is)) first (stands_here s declared old is k i first below read stands)
    (looked_at s (said_view i.body) declared seen old bad true new same e looked)

pub stands_behind : (s : Sight) (declared seen after : List (List ℕ)) (old new : List (List Rule)) (is : List TreeItem) (k : ℕ) (i : TreeItem) (first : Option ℕ) (bad : Bool) → k < length is → i ≡ get_or is k i → Stands s declared old (map item_view (drop k is)) first → seen ≡ declared → bad ≡ false → IsLookedAt s (said_view i.body) seen old bad new → after ≡ declared_behind declared (said_view i.body) → Stands s after new (map item_view (drop (k + 1) is)) first
stands_behind s declared seen after old new is k i first bad below read stands same e looked more =
    let others = map item_view (drop (k + 1) is) in
    subst (λ (ds : List (List ℕ)). Stands s ds new others first) (sym more)
    (stands_next s declared old new (item_view i) others first (stands_here s declared old is k i first below read stands)
    (looked_at s (said_view i.body) declared seen old bad false new same e looked))
