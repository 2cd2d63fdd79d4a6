-- Tokens are read in one way.
use Rattle.std.proofs.Common.{◌≡◌, ◌||◌, ◌+◌, ◌<◌, ℕ, Option, Some, None, List, [], ◌∷◌, ◌++◌, take, drop, append_assoc, arith, Bool, true, false, not, Result, Ok, Err, refl, sym, ◌∙◌, ap, subst}
use Rattle.std.proofs.lemmas.Bool.{and_parts}
use Rattle.std.proofs.lemmas.List.{append-nil, take-append-drop}
use Rattle.dg_base.specs.Tree.{Item}
use Rattle.dg_base.specs.declared.refusal.Refusal.{Refusal}
use Rattle.dg_base.specs.declared.refusal.Kind.{Kind}
use Rattle.dg_base.specs.declared.refusal.Kind.TheVariants.{Unclosed, Unexpected}
use Rattle.dg_lex.specs.Tokens.{Seen}
use Rattle.dg_reader.specs.Tokens.{Tok}
use Rattle.dg_open.specs.Shapes.{Shape}
use Rattle.dg_reader.specs.Grammar.{InItem, HasShape, IsUnclosed, IsUnexpected, IsUnexpectedAt}
use Rattle.dg_reader.proofs.Laws.{shape_decided}
use Rattle.dg_reader.specs.Read.{toks, all_behind, begins_item, IsFront, item_of, is_topic, behind_topic, IsItemAt, ReadTo, IsFaultOf, line_at, IsRefusedAt, not_closed, not_expected, not_allowed, IsRead, item_fault}

-- ## Fronts

pub record SameCut (o o' r r' : List Seen) : Type 0 where
  pub others : o ≡ o'
  pub rest : r ≡ r'

no_first : (t : Seen) (ts : List Seen) → all_behind (t ∷ ts) ≡ true → t.first ≡ true → ⊥
no_first t ts alone first = let here : not t.first ≡ true = (and_parts (not t.first) (all_behind ts) alone).0 in both t.first first here
  where
    both : (b : Bool) → b ≡ true → not b ≡ true → ⊥
    both true h k = cc
    both false h k = cc

cut_one : (o o' r r' : List Seen) → all_behind o ≡ true → all_behind o' ≡ true → begins_item r ≡ true → begins_item r' ≡ true → o ++ r ≡ o' ++ r' → SameCut o o' r r'
cut_one [] [] r r' a a' b b' e = record { others = refl; rest = e }
cut_one [] (t ∷ ts) r r' a a' b b' e = absurd (no_first t ts a' (let head : begins_item (t ∷ (ts ++ r')) ≡ true = subst (λ (l : List Seen). begins_item l ≡ true) e b in head))
cut_one (t ∷ ts) [] r r' a a' b b' e = absurd (no_first t ts a (let head : begins_item (t ∷ (ts ++ r)) ≡ true = subst (λ (l : List Seen). begins_item l ≡ true) (sym e) b' in head))
cut_one (t ∷ ts) (u ∷ us) r r' a a' b b' e =
    let heads : t ≡ u = cc in
    let tails : ts ++ r ≡ us ++ r' = cc in
    let later : SameCut ts us r r' = cut_one ts us r r' (and_parts (not t.first) (all_behind ts) a).1 (and_parts (not u.first) (all_behind us) a').1 b b' tails in
    record { others = joined t u ts us heads later.others; rest = later.rest }
  where
    joined : (t u : Seen) (ts us : List Seen) → t ≡ u → ts ≡ us → (t ∷ ts) ≡ (u ∷ us)
    joined t u ts us h k = cc

pub record SameFront (f f' : Seen) (o o' r r' : List Seen) : Type 0 where
  pub first : f ≡ f'
  pub others : o ≡ o'
  pub rest : r ≡ r'

front_one : (ts : List Seen) (f f' : Seen) (o o' r r' : List Seen) → IsFront ts f o r → IsFront ts f' o' r' → SameFront f f' o o' r r'
front_one ts f f' o o' r r' h k =
    let whole : f ∷ (o ++ r) ≡ f' ∷ (o' ++ r') = sym h.split ∙ k.split in
    let firsts : f ≡ f' = cc in
    let tails : o ++ r ≡ o' ++ r' = cc in
    let same : SameCut o o' r r' = cut_one o o' r r' h.alone k.alone h.ends k.ends tails in
    record { first = firsts; others = same.others; rest = same.rest }

-- ## Items

pub record SameItem (i j : Item) (r r' : List Seen) : Type 0 where
  pub item : i ≡ j
  pub rest : r ≡ r'

-- one front, seen as the other
item_back : (f g : Seen) (o p : List Seen) → f ≡ g → o ≡ p → (s : Shape) → InItem g.first (toks (g ∷ p)) s → InItem f.first (toks (f ∷ o)) s
item_back f g o p e d s x = subst (λ (u : Seen). InItem u.first (toks (u ∷ o)) s) (sym e) (subst (λ (l : List Seen). InItem g.first (toks (g ∷ l)) s) (sym d) x)

-- the tokens at a front have one shape
shape_one : (ts : List Seen) (f g : Seen) (o p r q : List Seen) (s t : Shape) → IsFront ts f o r → IsFront ts g p q → InItem f.first (toks (f ∷ o)) s → InItem g.first (toks (g ∷ p)) t → s ≡ t
shape_one ts f g o p r q s t h k a b =
    let same : SameFront f g o p r q = front_one ts f g o p r q h k in
    (shape_decided f.first (toks (f ∷ o))).one s t a (item_back f g o p same.first same.others t b)

item_one : (before : Bool) (ts : List Seen) (i j : Item) (r r' : List Seen) → IsItemAt before ts i r → IsItemAt before ts j r' → SameItem i j r r'
item_one before ts i j r r' h k =
    let same : SameFront h.first k.first h.others k.others r r' = front_one ts h.first k.first h.others k.others r r' h.front k.front in
    let shapes : h.shape ≡ k.shape = shape_one ts h.first k.first h.others k.others r r' h.shape k.shape h.front k.front h.shaped k.shaped in
    record { item = h.is ∙ items h.first k.first h.shape k.shape same.first shapes ∙ sym k.is; rest = same.rest }
  where
    items : (f g : Seen) (s t : Shape) → f ≡ g → s ≡ t → item_of f s ≡ item_of g t
    items f g s t e d = cc

-- nothing has no front
no_front : (f : Seen) (o r : List Seen) → IsFront [] f o r → ⊥
no_front f o r h = let e : [] ≡ f ∷ (o ++ r) = h.split in cc

-- what stands behind the same item
moved : (before : Bool) (i j : Item) (js : List Item) (r r' rest : List Seen) → SameItem i j r r' → ReadTo (before || is_topic j.said) r' js rest → ReadTo (before || is_topic i.said) r js rest
moved before i j js r r' rest same k = subst (λ (x : Item). ReadTo (before || is_topic x.said) r js rest) (sym same.item) (subst (λ (l : List Seen). ReadTo (before || is_topic j.said) l js rest) (sym same.rest) k)

all_one : (before : Bool) (ts : List Seen) (is js : List Item) → ReadTo before ts is [] → ReadTo before ts js [] → is ≡ js
all_one before ts [] [] h k = refl
all_one before ts [] (j ∷ js) h k = absurd (no_front _ _ _ (subst (λ (l : List Seen). IsFront l k.1.first k.1.others k.0) (sym h) k.1.front))
all_one before ts (i ∷ is) [] h k = absurd (no_front _ _ _ (subst (λ (l : List Seen). IsFront l h.1.first h.1.others h.0) (sym k) h.1.front))
all_one before ts (i ∷ is) (j ∷ js) h k =
    let same : SameItem i j h.0 k.0 = item_one before ts i j h.0 k.0 h.1 k.1 in
    joined i j is js same.item (all_one (before || is_topic i.said) h.0 is js h.2 (moved before i j js h.0 k.0 [] same k.2))
  where
    joined : (i j : Item) (is js : List Item) → i ≡ j → is ≡ js → (i ∷ is) ≡ (j ∷ js)
    joined i j is js h k = cc

-- ## Refusals

-- one front, seen as the other
item_there : (ts : List Seen) (f g : Seen) (o p r q : List Seen) → IsFront ts f o r → IsFront ts g p q → HasShape f.first (toks (f ∷ o)) → HasShape g.first (toks (g ∷ p))
item_there ts f g o p r q h k s =
    let same : SameFront f g o p r q = front_one ts f g o p r q h k in
    subst (λ (u : Seen). HasShape u.first (toks (u ∷ p))) same.first (subst (λ (l : List Seen). HasShape f.first (toks (f ∷ l))) same.others s)

later_there : (ts : List Seen) (f g : Seen) (o p r q : List Seen) (more : List Tok) → IsFront ts f o r → IsFront ts g p q → HasShape f.first (toks (f ∷ o) ++ more) → HasShape g.first (toks (g ∷ p) ++ more)
later_there ts f g o p r q more h k s =
    let same : SameFront f g o p r q = front_one ts f g o p r q h k in
    subst (λ (u : Seen). HasShape u.first (toks (u ∷ p) ++ more)) same.first (subst (λ (l : List Seen). HasShape f.first (toks (f ∷ l) ++ more)) same.others s)

abbrev refusal_on : Kind → Seen → Refusal
refusal_on k f = record { kind = k; line = f.line }

line_there : (f g : Seen) (k : Kind) → f ≡ g → refusal_on k f ≡ refusal_on k g
line_there f g k e = cc

-- where no item goes on with a token, none does with those behind it
whole_unexpected : (c : Bool) (ts : List Tok) (index : ℕ) → IsUnexpectedAt c ts index → IsUnexpected c ts
whole_unexpected c ts index u rest s =
    u.here (drop (index + 1) ts ++ rest)
    (subst (λ (l : List Tok). HasShape c l) (ap (λ (l : List Tok). l ++ rest) (sym (take-append-drop (index + 1) ts)) ∙ append_assoc (take (index + 1) ts) (drop (index + 1) ts) rest) s)

index_one : (c : Bool) (ts : List Tok) (i j : ℕ) → IsUnexpectedAt c ts i → IsUnexpectedAt c ts j → i ≡ j
index_one c ts i j u v =
    let least : i < j → ⊥ = λ less. v.first i less u.here in
    let most : j < i → ⊥ = λ less. u.first j less v.here in
    omega (arith, least, most)

lines_one : (f g : Seen) (o p : List Seen) (i j : ℕ) → f ≡ g → o ≡ p → IsUnexpectedAt f.first (toks (f ∷ o)) i → IsUnexpectedAt g.first (toks (g ∷ p)) j → line_at f o i ≡ line_at g p j
lines_one f g o p i j h k u v =
    let there : IsUnexpectedAt g.first (toks (g ∷ p)) i = subst (λ (l : List Seen). IsUnexpectedAt g.first (toks (g ∷ l)) i) k (subst (λ (t : Seen). IsUnexpectedAt t.first (toks (t ∷ o)) i) h u) in
    ap (λ (t : Seen). line_at t o i) h ∙ ap (λ (l : List Seen). line_at g l i) k ∙ ap (line_at g p) (index_one g.first (toks (g ∷ p)) i j there v)

clash : (before : Bool) (ts : List Seen) (i : Item) (r : List Seen) (s : Refusal) → IsItemAt before ts i r → IsRefusedAt before ts s → ⊥
clash before ts i r s h (not_closed f o q front u e) =
    u.none_yet (item_there ts h.first f h.others o r q h.front front (record { shape = h.shape; item = h.shaped }))
clash before ts i r s h (not_expected f o q front n u e) =
    whole_unexpected f.first (toks (f ∷ o)) n u [] (subst (λ (l : List Tok). HasShape f.first l) (sym (append-nil (toks (f ∷ o)))) (item_there ts h.first f h.others o r q h.front front (record { shape = h.shape; item = h.shaped })))
clash before ts i r s h (not_allowed f o q front shape a e) =
    no_fault (item_fault before h.shape) (item_fault before shape) e.kind (ap (item_fault before) (shape_one ts h.first f h.others o r q h.shape shape h.front front h.shaped a)) h.allowed e.fault
  where
    no_fault : (x y : Option Kind) (k : Kind) → x ≡ y → x ≡ None → y ≡ Some k → ⊥
    no_fault x y k a b c = cc

-- the tokens at a front have a shape, and go on or can't
shaped_open : (ts : List Seen) (f g : Seen) (o p r q : List Seen) (s : Shape) → IsFront ts f o r → IsFront ts g p q → InItem f.first (toks (f ∷ o)) s → IsUnclosed g.first (toks (g ∷ p)) → ⊥
shaped_open ts f g o p r q s h k a u = u.none_yet (item_there ts f g o p r q h k (record { shape = s; item = a }))

shaped_stopped : (ts : List Seen) (f g : Seen) (o p r q : List Seen) (s : Shape) → IsFront ts f o r → IsFront ts g p q → InItem f.first (toks (f ∷ o)) s → IsUnexpected g.first (toks (g ∷ p)) → ⊥
shaped_stopped ts f g o p r q s h k a u = u [] (subst (λ (l : List Tok). HasShape g.first l) (sym (append-nil (toks (g ∷ p)))) (item_there ts f g o p r q h k (record { shape = s; item = a })))

faults_one : (before : Bool) (l m : ℕ) (s t : Shape) (a b : Refusal) → l ≡ m → s ≡ t → IsFaultOf before l s a → IsFaultOf before m t b → a ≡ b
faults_one before l m s t a b lines shapes h k =
    let kinds : Some h.kind ≡ Some k.kind = sym h.fault ∙ ap (item_fault before) shapes ∙ k.fault in
    cc

at_one : (before : Bool) (ts : List Seen) (r s : Refusal) → IsRefusedAt before ts r → IsRefusedAt before ts s → r ≡ s
at_one before ts r s (not_closed f o q front u e) (not_closed f' o' q' front' u' e') = e ∙ line_there f f' Unclosed (front_one ts f f' o o' q q' front front').first ∙ sym e'
at_one before ts r s (not_closed f o q front u e) (not_expected f' o' q' front' n' u' e') = absurd (whole_unexpected f'.first (toks (f' ∷ o')) n' u' u.rest (later_there ts f f' o o' q q' u.rest front front' u.later))
at_one before ts r s (not_closed f o q front u e) (not_allowed f' o' q' front' t a e') = absurd (shaped_open ts f' f o' o q' q t front' front a u)
at_one before ts r s (not_expected f o q front n u e) (not_closed f' o' q' front' u' e') = absurd (whole_unexpected f.first (toks (f ∷ o)) n u u'.rest (later_there ts f' f o' o q' q u'.rest front' front u'.later))
at_one before ts r s (not_expected f o q front n u e) (not_expected f' o' q' front' n' u' e') =
    let same : SameFront f f' o o' q q' = front_one ts f f' o o' q q' front front' in
    e ∙ ap (λ (l : ℕ). record { kind = Unexpected; line = l }) (lines_one f f' o o' n n' same.first same.others u u') ∙ sym e'
at_one before ts r s (not_expected f o q front n u e) (not_allowed f' o' q' front' t a e') = absurd (shaped_stopped ts f' f o' o q' q t front' front a (whole_unexpected f.first (toks (f ∷ o)) n u))
at_one before ts r s (not_allowed f o q front t a e) (not_closed f' o' q' front' u' e') = absurd (shaped_open ts f f' o o' q q' t front front' a u')
at_one before ts r s (not_allowed f o q front t a e) (not_expected f' o' q' front' n' u' e') = absurd (shaped_stopped ts f f' o o' q q' t front front' a (whole_unexpected f'.first (toks (f' ∷ o')) n' u'))
at_one before ts r s (not_allowed f o q front t a e) (not_allowed f' o' q' front' t' a' e') =
    faults_one before f.line f'.line t t' r s (ap (λ (x : Seen). x.line) (front_one ts f f' o o' q q' front front').first) (shape_one ts f f' o o' q q' t t' front front' a a') e e'

none_refused : (before : Bool) (r : Refusal) → IsRefusedAt before [] r → ⊥
none_refused before r (not_closed f o q front u e) = no_front f o q front
none_refused before r (not_expected f o q front n u e) = no_front f o q front
none_refused before r (not_allowed f o q front t a e) = no_front f o q front

ok_refused : (before : Bool) (ts : List Seen) (is js : List Item) (rest : List Seen) (r : Refusal) → ReadTo before ts is [] → ReadTo before ts js rest → IsRefusedAt (behind_topic before js) rest r → ⊥
ok_refused before ts [] [] rest r h k at = none_refused before r (subst (λ (l : List Seen). IsRefusedAt before l r) (k ∙ sym h) at)
ok_refused before ts [] (j ∷ js) rest r h k at = no_front _ _ _ (subst (λ (l : List Seen). IsFront l k.1.first k.1.others k.0) (sym h) k.1.front)
ok_refused before ts (i ∷ is) [] rest r h k at = clash before ts i h.0 r h.1 (subst (λ (l : List Seen). IsRefusedAt before l r) k at)
ok_refused before ts (i ∷ is) (j ∷ js) rest r h k at =
    let same : SameItem i j h.0 k.0 = item_one before ts i j h.0 k.0 h.1 k.1 in
    ok_refused (before || is_topic i.said) h.0 is js rest r h.2 (moved before i j js h.0 k.0 rest same k.2) (subst (λ (x : Item). IsRefusedAt (behind_topic (before || is_topic x.said) js) rest r) (sym same.item) at)

refused_one : (before : Bool) (ts : List Seen) (is js : List Item) (rest rest' : List Seen) (r s : Refusal) → ReadTo before ts is rest → IsRefusedAt (behind_topic before is) rest r → ReadTo before ts js rest' → IsRefusedAt (behind_topic before js) rest' s → r ≡ s
refused_one before ts [] [] rest rest' r s h at k at' = at_one before ts r s (subst (λ (l : List Seen). IsRefusedAt before l r) h at) (subst (λ (l : List Seen). IsRefusedAt before l s) k at')
refused_one before ts [] (j ∷ js) rest rest' r s h at k at' = absurd (clash before ts j k.0 r k.1 (subst (λ (l : List Seen). IsRefusedAt before l r) h at))
refused_one before ts (i ∷ is) [] rest rest' r s h at k at' = absurd (clash before ts i h.0 s h.1 (subst (λ (l : List Seen). IsRefusedAt before l s) k at'))
refused_one before ts (i ∷ is) (j ∷ js) rest rest' r s h at k at' =
    let same : SameItem i j h.0 k.0 = item_one before ts i j h.0 k.0 h.1 k.1 in
    refused_one (before || is_topic i.said) h.0 is js rest rest' r s h.2 at (moved before i j js h.0 k.0 rest' same k.2) (subst (λ (x : Item). IsRefusedAt (behind_topic (before || is_topic x.said) js) rest' s) (sym same.item) at')

pub read_one : (ts : List Seen) (a b : Result (List Item) Refusal) → IsRead ts a → IsRead ts b → a ≡ b
read_one ts (Ok is) (Ok js) h k = ap Ok (all_one false ts is js h k)
read_one ts (Ok is) (Err s) h k = absurd (ok_refused false ts is k.items k.rest s h k.before k.here)
read_one ts (Err r) (Ok js) h k = absurd (ok_refused false ts js h.items h.rest r k h.before h.here)
read_one ts (Err r) (Err s) h k = ap Err (refused_one false ts h.items k.items h.rest k.rest r s h.before h.here k.before k.here)
