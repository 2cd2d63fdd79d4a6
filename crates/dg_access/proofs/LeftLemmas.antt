-- Nothing is left to put in where no access rule reaches itself.
use Rattle.std.proofs.Common.{◌≡◌, ◌<◌, ◌≤◌, ◌⊎◌, inl, inr, ◌+◌, ◌||◌, ◌&&◌, ℕ, zero, suc, List, [], ◌∷◌, ◌++◌, Bool, true, false, Option, Some, None, length, refl, sym, ◌∙◌, ap, subst, arith}
use Rattle.std.specs.Prelude.{nat_lt, if◌then◌else◌, Ok}
use Rattle.std.specs.List.{All, Contains, list_any}
use Rattle.std.specs.Option.{is_some}
use Rattle.std.specs.Str.{bytes_eq}
use Rattle.std.proofs.lemmas.Bool.{or_parts}
use Rattle.std.proofs.lemmas.List.Elements.{All-nil, All-cons, All-head, All-tail, All-append, All-contains, All-contains_itself, Contains-append_left, Contains-append_right, Contains-append_cases}
use Rattle.dg_base.specs.Heads.{name_of}
use Rattle.dg_base.specs.Tree as tree
use Rattle.dg_base.specs.Tree.{Parts, Body, Said, Item}
use Rattle.dg_base.specs.Names.{prelude_names, name_among, builtin_named}
use Rattle.dg_base.specs.Mentions.{Thing, query, closure, Mentions, nothing, thing, closed, of_parts, of_body, of_branches, of_rule, things_in, mentioned}
use Rattle.dg_base.specs.declared.mentions.Role.{Role}
use Rattle.dg_base.specs.declared.mentions.Role.TheVariants as role
use Rattle.dg_plain.specs.Items.{plain_items, free_number}
use Rattle.dg_plain.proofs.KeptLemmas.{Hold, back, both, from_all, to_all, all_front, all_back}
use Rattle.dg_access.specs.Answer.{IsRewritten}
use Rattle.dg_items.specs.Expanded.{access_in, access_rules, is_kept_builtin, is_closed, is_misplaced, count_values, signed_rule, head_rules, put_rule, put_said, on_line, put_item, put_items}
use Rattle.dg_access.specs.Left.{is_left, NoneIsLeft, IsPutIn}
use Rattle.dg_access.specs.Loops.{asks_for, mentions, reaches, loops, first_looping}
use Rattle.dg_put.specs.Put.{Access, rule_for, in_rule, list_queries, changes_in, one_change, level, put_body, put_changes}
use Rattle.dg_access.specs.Comes.{is_made}
use Rattle.dg_access.proofs.AnswerLemmas.{rewritten_open}
use Rattle.dg_access.proofs.CarryLemmas.{is_kept, is_asked, Carries, ChangesHold, Level_carries, queries_turned, first_branch, body_put, changes_put, none_some}

-- ---- one of a list

only : (m n : Access) → Contains (m ∷ []) n → m ≡ n
only m n (zero, lt, e) = e
only m n (suc k, lt, e) = absurd (omega arith)

-- it is the first, or behind it
first_or : (x : Access) (xs : List Access) (y : Access) → Contains (x ∷ xs) y → (x ≡ y) ⊎ Contains xs y
first_or x xs y c = here (Contains-append_cases (x ∷ []) xs y c)
  where
    here : Contains (x ∷ []) y ⊎ Contains xs y → (x ≡ y) ⊎ Contains xs y
    here (inl k) = inl (only x y k)
    here (inr k) = inr k

nowhere : (y : Access) → Contains [] y → ⊥
nowhere y c = let lt = c.1 in omega arith

-- ---- what an access rule reaches

-- by one of two ways
way : (a b c : Bool) → (a || (b && c)) ≡ true → a ≡ false → (b ≡ true) × (c ≡ true)
way true b c h e = cc
way false true true h e = (refl, refl)
way false true false h e = cc
way false false c h e = cc

through : (a b c : Bool) → b ≡ true → c ≡ true → (a || (b && c)) ≡ true
through true b c h k = refl
through false true true h k = refl
through false true false h k = cc
through false false c h k = cc

direct : (a b c : Bool) → a ≡ true → (a || (b && c)) ≡ true
direct true b c h = refl
direct false b c h = cc

reaches_mentioned : (ks : List Access) (r : Access) (n : List ℕ) → mentions r n ≡ true → reaches ks r n ≡ true
reaches_mentioned [] r n h = h
reaches_mentioned (k ∷ ks) r n h = direct (reaches ks r n) (reaches ks r k.name) (reaches ks k n) (reaches_mentioned ks r n h)

-- to the first of these, and on from it
to_first : (k : Access) (ks : List Access) (r : Access) → reaches (k ∷ ks) r k.name ≡ true → reaches ks r k.name ≡ true
to_first k ks r h = here (reaches ks r k.name) refl
  where
    here : (b : Bool) → reaches ks r k.name ≡ b → reaches ks r k.name ≡ true
    here true e = e
    here false e = (way (reaches ks r k.name) (reaches ks r k.name) (reaches ks k k.name) h e).0

on_from : (k : Access) (ks : List Access) (n : List ℕ) → reaches (k ∷ ks) k n ≡ true → reaches ks k n ≡ true
on_from k ks n h = here (reaches ks k n) refl
  where
    here : (b : Bool) → reaches ks k n ≡ b → reaches ks k n ≡ true
    here true e = e
    here false e = (way (reaches ks k n) (reaches ks k k.name) (reaches ks k n) h e).1

-- what reaches one of these reaches all that it reaches
abbrev ReachesOn : List Access → Type 0
ReachesOn ks = (r t : Access) (n : List ℕ) → Contains ks t → reaches ks r t.name ≡ true → reaches ks t n ≡ true → reaches ks r n ≡ true

on_by : (q : Access) (ks : List Access) → ReachesOn ks → (r t : Access) (n : List ℕ) → Contains ks t → reaches (q ∷ ks) r t.name ≡ true → reaches (q ∷ ks) t n ≡ true → (a b : Bool) → reaches ks r t.name ≡ a → reaches ks t n ≡ b → reaches (q ∷ ks) r n ≡ true
on_by q ks ih r t n c h k true true f g = direct (reaches ks r n) (reaches ks r q.name) (reaches ks q n) (ih r t n c f g)
on_by q ks ih r t n c h k true false f g =
    let w = way (reaches ks t n) (reaches ks t q.name) (reaches ks q n) k g in
    through (reaches ks r n) (reaches ks r q.name) (reaches ks q n) (ih r t q.name c f w.0) w.1
on_by q ks ih r t n c h k false true f g =
    let v = way (reaches ks r t.name) (reaches ks r q.name) (reaches ks q t.name) h f in
    through (reaches ks r n) (reaches ks r q.name) (reaches ks q n) v.0 (ih q t n c v.1 g)
on_by q ks ih r t n c h k false false f g =
    let v = way (reaches ks r t.name) (reaches ks r q.name) (reaches ks q t.name) h f in
    let w = way (reaches ks t n) (reaches ks t q.name) (reaches ks q n) k g in
    through (reaches ks r n) (reaches ks r q.name) (reaches ks q n) v.0 w.1

reaches_on : (ks : List Access) → ReachesOn ks
reaches_on [] r t n c h k = absurd (nowhere t c)
reaches_on (q ∷ ks) r t n c h k = here (first_or q ks t c) (reaches_on ks)
  where
    here : (q ≡ t) ⊎ Contains ks t → ReachesOn ks → reaches (q ∷ ks) r n ≡ true
    here (inl e) ih =
        through (reaches ks r n) (reaches ks r q.name) (reaches ks q n)
        (to_first q ks r (subst (λ (x : Access). reaches (q ∷ ks) r x.name ≡ true) (sym e) h)) (on_from q ks n (subst (λ (x : Access). reaches (q ∷ ks) x n ≡ true) (sym e) k))
    here (inr d) ih = on_by q ks ih r t n d h k (reaches ks r t.name) (reaches ks t n) refl refl

-- ---- how many it reaches

abbrev counted : (Access → Bool) → List Access → ℕ
counted f [] = 0
counted f (r ∷ rs) = if f r then counted f rs + 1 else counted f rs

fewer : (f g : Access → Bool) (rs : List Access) → ((r : Access) → f r ≡ true → g r ≡ true) → counted f rs ≤ counted g rs
fewer f g [] up = omega arith
fewer f g (r ∷ rs) up = here (f r) (g r) refl refl (fewer f g rs up)
  where
    here : (a b : Bool) → f r ≡ a → g r ≡ b → counted f rs ≤ counted g rs → (if a then counted f rs + 1 else counted f rs) ≤ (if b then counted g rs + 1 else counted g rs)
    here true true e d le = omega (arith, le)
    here true false e d le = let no = sym (up r e) ∙ d in cc
    here false true e d le = omega (arith, le)
    here false false e d le = le

abbrev IsFewer : (f g : Access → Bool) → List Access → Access → Type 0
IsFewer f g rs t = Contains rs t → counted f rs < counted g rs

one_fewer : (f g : Access → Bool) (rs : List Access) (t : Access) → ((r : Access) → f r ≡ true → g r ≡ true) → f t ≡ false → g t ≡ true → IsFewer f g rs t
one_fewer f g [] t up out into c = absurd (nowhere t c)
one_fewer f g (r ∷ rs) t up out into c = here (first_or r rs t c) (one_fewer f g rs t up out into)
  where
    behind : (a b : Bool) → f r ≡ a → g r ≡ b → counted f rs < counted g rs → (if a then counted f rs + 1 else counted f rs) < (if b then counted g rs + 1 else counted g rs)
    behind true true d k less = omega (arith, less)
    behind true false d k less = let no = sym (up r d) ∙ k in cc
    behind false true d k less = omega (arith, less)
    behind false false d k less = less

    at : (a b : Bool) → f r ≡ a → g r ≡ b → a ≡ false → b ≡ true → counted f rs ≤ counted g rs → (if a then counted f rs + 1 else counted f rs) < (if b then counted g rs + 1 else counted g rs)
    at true b d k e i le = cc
    at false false d k e i le = cc
    at false true d k e i le = omega (arith, le)

    here : (r ≡ t) ⊎ Contains rs t → IsFewer f g rs t → counted f (r ∷ rs) < counted g (r ∷ rs)
    here (inl e) ih = at (f r) (g r) refl refl (subst (λ (x : Access). f x ≡ false) (sym e) out) (subst (λ (x : Access). g x ≡ true) (sym e) into) (fewer f g rs up)
    here (inr d) ih = behind (f r) (g r) refl refl (ih d)

all_of : (rs : List Access) → counted (λ r. true) rs ≡ length rs
all_of [] = refl
all_of (r ∷ rs) = omega (arith, all_of rs)

-- how many of the access rules one reaches
abbrev rank : List Access → Access → ℕ
rank rules r = counted (λ t. reaches rules r t.name) rules

-- ---- an access rule by its name

same_rule : (rules : List Access) (ps qs : Parts) → name_of ps ≡ name_of qs → rule_for rules ps ≡ rule_for rules qs
same_rule [] ps qs e = refl
same_rule (r ∷ rules) ps qs e =
    ap (λ (b : Bool). if b then Some r else rule_for rules ps) (ap (bytes_eq r.name) e)
    ∙ ap (λ (o : Option Access). if bytes_eq r.name (name_of qs) then Some r else o) (same_rule rules ps qs e)

record IsRuleFor (rules : List Access) (ps : Parts) (r : Access) : Type 0 where
  there : Contains rules r
  named : bytes_eq r.name (name_of ps) ≡ true

rule_is : (rules : List Access) (ps : Parts) (r : Access) → rule_for rules ps ≡ Some r → IsRuleFor rules ps r
rule_is [] ps r e = cc
rule_is (q ∷ rules) ps r e = here (bytes_eq q.name (name_of ps)) refl e (rule_is rules ps r)
  where
    here : (b : Bool) → bytes_eq q.name (name_of ps) ≡ b → (if b then Some q else rule_for rules ps) ≡ Some r → (rule_for rules ps ≡ Some r → IsRuleFor rules ps r) → IsRuleFor (q ∷ rules) ps r
    here true d f rest = let same : q ≡ r = cc in record { there = Contains-append_left (q ∷ []) rules r (0, omega arith, same); named = subst (λ (x : Access). bytes_eq x.name (name_of ps) ≡ true) same d }
    here false d f rest = let k = rest f in record { there = Contains-append_right (q ∷ []) rules r k.there; named = k.named }

-- ---- no access rule reaches itself

abbrev NoneLoops : List Access → List Access → Type 0
NoneLoops rules rs = All (λ (r : Access). reaches rules r r.name ≡ false) rs

these_loop : (rules before rs : List Access) → list_any (loops rules before) rs ≡ false → NoneLoops rules rs
these_loop rules before [] e = All-nil (λ (r : Access). reaches rules r r.name ≡ false)
these_loop rules before (r ∷ rs) e =
    let both = or_parts (loops rules before r) (list_any (loops rules before) rs) e in
    All-cons (λ (q : Access). reaches rules q q.name ≡ false) r rs (or_parts (list_any (λ (other : Access). bytes_eq other.name r.name) before) (reaches rules r r.name) both.0).1 (these_loop rules before rs both.1)

none_loops : (rules before : List Access) (is : List Item) → first_looping rules before is ≡ None → NoneLoops rules (access_rules is)
none_loops rules before [] h = All-nil (λ (r : Access). reaches rules r r.name ≡ false)
none_loops rules before (i ∷ is) h = here (list_any (loops rules before) (access_in i.said)) refl h (none_loops rules (before ++ access_in i.said) is)
  where
    here : (b : Bool) → list_any (loops rules before) (access_in i.said) ≡ b → (if b then Some i else first_looping rules (before ++ access_in i.said) is) ≡ None → (first_looping rules (before ++ access_in i.said) is ≡ None → NoneLoops rules (access_rules is)) → NoneLoops rules (access_rules (i ∷ is))
    here true e f rest = absurd (let no : Some i ≡ None = f in cc)
    here false e f rest = All-append (λ (r : Access). reaches rules r r.name ≡ false) (access_in i.said) (access_rules is) (these_loop rules before (access_in i.said) e) (rest f)

all_at : (P : Access → Type 0) (rs : List Access) (r : Access) → All P rs → Contains rs r → P r
all_at P rs r h c = All-contains P rs r h c

few_reached : (rules : List Access) (r : Access) → NoneLoops rules rules → Contains rules r → rank rules r < length rules
few_reached rules r none c =
    let less = one_fewer (λ t. reaches rules r t.name) (λ t. true) rules r (λ t e. refl) (all_at (λ (q : Access). reaches rules q q.name ≡ false) rules r none c) refl c in
    omega (arith, less, all_of rules)

-- what one mentions reaches fewer
less_reached : (rules : List Access) (r t : Access) → NoneLoops rules rules → Contains rules t → mentions r t.name ≡ true → rank rules t < rank rules r
less_reached rules r t none c h =
    let to : reaches rules r t.name ≡ true = reaches_mentioned rules r t.name h in
    one_fewer (λ u. reaches rules t u.name) (λ u. reaches rules r u.name) rules t (λ u e. reaches_on rules r t u.name c to e) (all_at (λ (q : Access). reaches rules q q.name ≡ false) rules t none c) to c

-- ---- what stands at a depth

-- the access rule of this name reaches fewer than so many
abbrev LowName : List Access → ℕ → List ℕ → Type 0
LowName rules d n = (ps : Parts) (q : Access) → name_of ps ≡ n → rule_for rules ps ≡ Some q → rank rules q < d

abbrev is_own : Role → Bool
is_own role.Access = true
is_own r = false

abbrev Low : List Access → ℕ → Thing → Type 0
Low rules d (query r ps) = is_own r ≡ false → LowName rules d (name_of ps)
Low rules d t = Unit {0}

-- no query of a body has an access rule
abbrev Out : List Access → Thing → Type 0
Out rules (query r ps) = is_asked r ≡ true → rule_for rules ps ≡ None
Out rules t = Unit {0}

made_out : (rules : List Access) (t : Thing) → is_made t ≡ true → Out rules t
made_out rules (query r ps) e = λ a. cc
made_out rules t e = tt

kept_out : (rules : List Access) (d : ℕ) (t : Thing) → is_kept t ≡ true → Low rules d t → Out rules t
kept_out rules d (query r ps) e h = λ a. cc
kept_out rules d t e h = tt

asked_low : (r : Role) → is_asked r ≡ true → is_own r ≡ false
asked_low role.Access e = cc
asked_low r e = refl

-- nothing is lower than nothing
none_low : (rules : List Access) (ps : Parts) → LowName rules 0 (name_of ps) → rule_for rules ps ≡ None
none_low rules ps h = here (rule_for rules ps) refl
  where
    here : (o : Option Access) → rule_for rules ps ≡ o → rule_for rules ps ≡ None
    here None e = e
    here (Some q) e = absurd (let lt = h ps q refl e in omega arith)

carries_low : (rules some : List Access) (d : ℕ) → ((ps : Parts) → LowName rules d (name_of ps) → rule_for some ps ≡ None → rule_for rules ps ≡ None) → Carries some (LowName rules d) (Low rules d) (Out rules)
carries_low rules some d none = record {
  new = made_out rules;
  same = kept_out rules d;
  again = λ r ps qs out e h a. sym (same_rule rules ps qs e) ∙ none ps (h (asked_low r a)) (out a);
  left = λ a b h. tt;
  asked = λ r ps a h. h (asked_low r a);
  begun = λ set ps h. h refl;
  changed = λ s set ks qs h n e. cc;
}

-- ---- the body of an access rule

or_true : (b : Bool) → (b || true) ≡ true
or_true true = refl
or_true false = refl

only_thing : (m n : Thing) → Contains (m ∷ []) n → m ≡ n
only_thing m n (zero, lt, e) = e
only_thing m n (suc k, lt, e) = absurd (omega arith)

any_there : (f : Thing → Bool) (ts : List Thing) (t : Thing) → f t ≡ true → Contains ts t → list_any f ts ≡ true
any_there f [] t h c = absurd (let lt = c.1 in omega arith)
any_there f (u ∷ ts) t h c = here (Contains-append_cases (u ∷ []) ts t c) (any_there f ts t h)
  where
    here : Contains (u ∷ []) t ⊎ Contains ts t → (Contains ts t → list_any f ts ≡ true) → list_any f (u ∷ ts) ≡ true
    here (inl k) ih = ap (λ (b : Bool). b || list_any f ts) (subst (λ (x : Thing). f x ≡ true) (sym (only_thing u t k)) h)
    here (inr d) ih = ap (λ (b : Bool). f u || b) (ih d) ∙ or_true (f u)

asks_named : (r : Role) (ps : Parts) (n : List ℕ) → is_own r ≡ false → bytes_eq n (name_of ps) ≡ true → asks_for n (query r ps) ≡ true
asks_named role.Access ps n o e = cc
asks_named r ps n o e = e

body_thing : (rules : List Access) (none : NoneLoops rules rules) (r : Access) (d : ℕ) → rank rules r ≤ d → (t : Thing) → Contains (things_in (tree.access r.head r.body)) t → Low rules d t
body_thing rules none r d le (query ro ps) c = λ own qs q e f.
    let is = rule_is rules qs q f in
    let name : bytes_eq q.name (name_of ps) ≡ true = subst (λ (n : List ℕ). bytes_eq q.name n ≡ true) e is.named in
    let less = less_reached rules r q none is.there (any_there (asks_for q.name) (things_in (tree.access r.head r.body)) (query ro ps) (asks_named ro ps q.name own name) c) in
    omega (arith, less, le)
body_thing rules none r d le t c = tt

hold_on : (P Q : Thing → Type 0) → ((t : Thing) → P t → Q t) → (ms : Mentions) → Hold P ms → Hold Q ms
hold_on P Q f nothing h = tt
hold_on P Q f (thing t ms) h = (f t h.0, hold_on P Q f ms h.1)
hold_on P Q f (closed inner ms) h = (f closure h.0, hold_on P Q f inner h.1, hold_on P Q f ms h.2)

body_low : (rules : List Access) (none : NoneLoops rules rules) (r : Access) (d : ℕ) → rank rules r ≤ d → Hold (Low rules d) (of_branches false r.body)
body_low rules none r d le =
    let ts = things_in (tree.access r.head r.body) in
    let all = from_all (Contains ts) (of_rule role.Access r.head r.body) (All-contains_itself ts) in
    hold_on (Contains ts) (Low rules d) (body_thing rules none r d le) (of_branches false r.body) (back (Contains ts) (of_parts false r.head) (of_body false r.body) all.1).1

below : (a d : ℕ) → a < suc d → a ≤ d
below a d h = omega (arith, h)

-- what may be changed with one name may be changed with another
changes_more : (N M : List ℕ → Type 0) (Q : Thing → Type 0) (b : Bool) → ((n : List ℕ) → N n → M n) → (cs : tree.Changes) → ChangesHold N Q b cs → ChangesHold M Q b cs
changes_more N M Q b more tree.no_changes h = tt
changes_more N M Q b more (tree.change ps set cs) h = (more (name_of ps) h.0, h.1, changes_more N M Q b more cs h.2)

one_more : (rules : List Access) (d : ℕ) (n : List ℕ) → LowName rules d n → LowName rules (suc d) n
one_more rules d n h ps q e f = let lt = h ps q e f in omega (arith, lt)

level_low : (rules : List Access) (none : NoneLoops rules rules) (mark depth : ℕ) → Level_carries (LowName rules depth) (Low rules depth) (Out rules) (level rules mark depth)
level_low rules none mark zero = record {
  carries = carries_low rules [] 0 (λ ps low e. none_low rules ps low);
  bodies = λ asked ps r a p e. absurd (none_some r e);
  changes = λ ps r a e. absurd (none_some r e);
}
level_low rules none mark (suc d) =
    let inner = level_low rules none mark d in
    record {
      carries = carries_low rules rules (suc d) (λ ps low e. e);
      bodies = λ asked ps r one there e p n b ok. body_put (LowName rules d) (Low rules d) (Out rules) (level rules mark d) inner p ok false b n r.body (body_low rules none r d (below (rank rules r) d (there (asked_low asked one) ps r refl e)));
      changes = λ ps r there e p n b set ok.
          changes_more (LowName rules d) (LowName rules (suc d)) (Out rules) b (one_more rules d) _
          (changes_put (LowName rules d) (Low rules d) (Out rules) (level rules mark d) inner p ok false b n (changes_in set (list_queries r.body))
          (queries_turned (level rules mark d).rules (LowName rules d) (Low rules d) (Out rules) inner.carries false set (list_queries r.body) (first_branch (Low rules d) false r.body (body_low rules none r d (below (rank rules r) d (there ps r refl e))))));
    }

-- ---- items

any_low : (rules : List Access) (none : NoneLoops rules rules) (t : Thing) → Low rules (length rules) t
any_low rules none (query r ps) = λ own qs q e f. few_reached rules q none (rule_is rules qs q f).there
any_low rules none t = tt

all_low : (rules : List Access) (none : NoneLoops rules rules) (ms : Mentions) → Hold (Low rules (length rules)) ms
all_low rules none nothing = tt
all_low rules none (thing t ms) = (any_low rules none t, all_low rules none ms)
all_low rules none (closed inner ms) = (any_low rules none closure, all_low rules none inner, all_low rules none ms)

-- no query of a body of what an item says has an access rule
abbrev OutSaid : List Access → Said → Type 0
OutSaid rules (tree.global_variable ps) = Unit {0}
OutSaid rules (tree.topic n) = All (Out rules) (things_in (tree.topic n))
OutSaid rules (tree.rule ps b) = All (Out rules) (things_in (tree.rule ps b))
OutSaid rules (tree.deny ps b) = All (Out rules) (things_in (tree.deny ps b))
OutSaid rules (tree.access ps b) = All (Out rules) (things_in (tree.access ps b))

abbrev OutItem : List Access → Item → Type 0
OutItem rules i = OutSaid rules i.said

heads_out : (rules : List Access) (line : ℕ) (heads : tree.Changes) (b : Body) → ChangesHold (LowName rules (length rules)) (Out rules) false heads → Hold (Out rules) (of_body false b) → All (OutItem rules) (on_line line (head_rules heads b))
heads_out rules line tree.no_changes b h k = All-nil (OutItem rules)
heads_out rules line (tree.change ps set heads) b h k =
    All-cons (OutItem rules) _ (on_line line (head_rules heads b))
    (signed_out set ((λ e. cc), both (Out rules) (of_parts false ps) (of_body false b) h.1 k)) (heads_out rules line heads b h.2 k)
  where
    signed_out : (set : Bool) → Hold (Out rules) (of_rule role.Rule ps b) → OutSaid rules (signed_rule set ps b)
    signed_out true rule = to_all (Out rules) (of_rule role.Rule ps b) rule
    signed_out false rule = to_all (Out rules) (of_rule role.Rule ps b) rule

rule_out : (rules : List Access) (none : NoneLoops rules rules) (line mark : ℕ) (said : Said) (set : Bool) (ps : Parts) (b : Body) → All (OutItem rules) (on_line line (put_rule (level rules mark (length rules)) (in_rule said) set ps b))
rule_out rules none line mark said set ps b =
    let d = length rules in
    let l = level rules mark d in
    let g = level_low rules none mark d in
    let p = in_rule said in
    let heads = put_changes l p 0 (one_change set ps) in
    let name : LowName rules d (name_of ps) = λ qs q e f. few_reached rules q none (rule_is rules qs q f).there in
    heads_out rules line heads.0 (put_body l p heads.1 b).0
    (changes_put (LowName rules d) (Low rules d) (Out rules) l g p tt false false 0 (one_change set ps) (name, all_low rules none (of_parts false ps), tt))
    (tt, body_put (LowName rules d) (Low rules d) (Out rules) l g p tt false false heads.1 b (all_low rules none (of_branches false b)))

said_out : (rules : List Access) (none : NoneLoops rules rules) (line : ℕ) (said : Said) → All (OutItem rules) (on_line line (put_said rules said))
said_out rules none line (tree.topic n) = All-cons (OutItem rules) _ [] (All-cons (Out rules) _ [] tt (All-nil (Out rules))) (All-nil (OutItem rules))
said_out rules none line (tree.rule ps b) = rule_out rules none line (free_number (tree.rule ps b)) (tree.rule ps b) true ps b
said_out rules none line (tree.deny ps b) = rule_out rules none line (free_number (tree.deny ps b)) (tree.deny ps b) false ps b
said_out rules none line (tree.access ps b) = All-nil (OutItem rules)
said_out rules none line (tree.global_variable ps) = All-cons (OutItem rules) _ [] tt (All-nil (OutItem rules))

items_out : (rules : List Access) (none : NoneLoops rules rules) (is : List Item) → All (OutItem rules) (put_items rules is)
items_out rules none [] = All-nil (OutItem rules)
items_out rules none (i ∷ is) = All-append (OutItem rules) (put_item rules i) (put_items rules is) (said_out rules none i.line i.said) (items_out rules none is)

-- ---- with no head and no change where none may stand

open_rule : (rules : List Access) (ps : Parts) → is_closed rules ps ≡ false → is_some (rule_for rules ps) ≡ false
open_rule rules ps h =
    (or_parts (name_among (name_of ps) prelude_names) (is_some (rule_for rules ps)) (or_parts (is_kept_builtin (builtin_named (name_of ps))) (name_among (name_of ps) prelude_names || is_some (rule_for rules ps)) h).1).1

not_left : (rules : List Access) (t : Thing) → Out rules t → is_misplaced rules t ≡ false → is_left rules t ≡ false
not_left rules (query role.Asked ps) o b = ap is_some (o refl)
not_left rules (query role.AskedAll ps) o b = ap is_some (o refl)
not_left rules (query role.AskedNot ps) o b = ap is_some (o refl)
not_left rules (query role.Rule ps) o b = open_rule rules ps b
not_left rules (query (role.Changed set) ps) o b = open_rule rules ps (or_parts (is_closed rules ps) (nat_lt 2 (count_values ps)) b).0
not_left rules (query role.Access ps) o b = refl
not_left rules (query role.Declared ps) o b = refl
not_left rules (query role.Nested ps) o b = refl
not_left rules t o b = refl

none_left : (rules : List Access) (ts : List Thing) → All (Out rules) ts → All (λ (t : Thing). is_misplaced rules t ≡ false) ts → NoneIsLeft rules ts
none_left rules [] o b = All-nil (λ (t : Thing). is_left rules t ≡ false)
none_left rules (t ∷ ts) o b =
    All-cons (λ (u : Thing). is_left rules u ≡ false) t ts (not_left rules t (All-head (Out rules) t ts o) (All-head (λ (u : Thing). is_misplaced rules u ≡ false) t ts b))
    (none_left rules ts (All-tail (Out rules) t ts o) (All-tail (λ (u : Thing). is_misplaced rules u ≡ false) t ts b))

said_left : (rules : List Access) (said : Said) → OutSaid rules said → All (λ (t : Thing). is_misplaced rules t ≡ false) (things_in said) → IsPutIn rules said
said_left rules (tree.global_variable ps) o b = tt
said_left rules (tree.topic n) o b = none_left rules (things_in (tree.topic n)) o b
said_left rules (tree.rule ps c) o b = none_left rules (things_in (tree.rule ps c)) o b
said_left rules (tree.deny ps c) o b = none_left rules (things_in (tree.deny ps c)) o b
said_left rules (tree.access ps c) o b = none_left rules (things_in (tree.access ps c)) o b

items_left : (rules : List Access) (new : List Item) → All (OutItem rules) new → All (λ (t : Thing). is_misplaced rules t ≡ false) (mentioned new) → All (λ (i : Item). IsPutIn rules i.said) new
items_left rules [] o b = All-nil (λ (i : Item). IsPutIn rules i.said)
items_left rules (i ∷ new) o b =
    All-cons (λ (j : Item). IsPutIn rules j.said) i new
    (said_left rules i.said (All-head (OutItem rules) i new o) (all_front (λ (t : Thing). is_misplaced rules t ≡ false) (things_in i.said) (mentioned new) b))
    (items_left rules new (All-tail (OutItem rules) i new o) (all_back (λ (t : Thing). is_misplaced rules t ≡ false) (things_in i.said) (mentioned new) b))

pub nothing_left : (is new : List Item) → IsRewritten is (Ok new) → All (λ (i : Item). IsPutIn (access_rules (plain_items None is)) i.said) new
nothing_left is new h =
    let plain = plain_items None is in
    let rules = access_rules plain in
    items_left rules new (subst (All (OutItem rules)) (sym h.1.1) (items_out rules (none_loops rules [] plain h.0) plain)) (rewritten_open is new h)
