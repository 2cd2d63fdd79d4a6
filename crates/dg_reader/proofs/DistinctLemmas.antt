-- Variables that are new as they are met are distinct.
use Rattle.std.proofs.Common.{◌≡◌, ℕ, List, [], ◌∷◌, ◌++◌, ◌&&◌, ◌||◌, Bool, true, false, not, Vec, Global, map, refl, sym, ◌∙◌, ap}
use Rattle.std.specs.Prelude.{if◌then◌else◌}
use Rattle.std.specs.List.{list_any}
use Rattle.std.specs.Str.{bytes_eq}
use Rattle.std.proofs.lemmas.List.{map-append}
use Rattle.dg_base.specs.Tree.{part_word, part_value, Parts, no_parts, part, num, dict_word, object_name, current_topic, anonymous, variable, plain_list, tailed_list, closure, nested, word_choice}
use Rattle.dg_reader.specs.Heads.{has_variable, are_distinct_variables}
use Rattle.dg_reader.specs.inside.Distinct.{are_new, stand_not_in}

and_false : (b : Bool) → (b && false) ≡ false
and_false true = refl
and_false false = refl

and_true : (b : Bool) → b ≡ (b && true)
and_true true = refl
and_true false = refl

grouped : (a b c : Bool) → (a && (b && c)) ≡ ((a && b) && c)
grouped true b c = refl
grouped false b c = refl

together : (a b c d : Bool) → (a && ((b && c) && d)) ≡ ((a && b) && (c && d))
together true true c d = refl
together true false c d = refl
together false b c d = refl

in_nothing : (names : List (List ℕ)) → stand_not_in names no_parts ≡ true
in_nothing [] = refl
in_nothing (n ∷ names) = in_nothing names

behind_word : (names : List (List ℕ)) (w : List ℕ) (ps : Parts) → stand_not_in names (part (part_word w) ps) ≡ stand_not_in names ps
behind_word [] w ps = refl
behind_word (n ∷ names) w ps = ap (λ (b : Bool). not (has_variable n ps) && b) (behind_word names w ps)

apart : (a b c d : Bool) → (not (a || b) && (not c && d)) ≡ (not (a || c) && (not b && d))
apart true b c d = refl
apart false true true d = refl
apart false true false d = refl
apart false false true d = refl
apart false false false d = refl

behind_variable : (names : List (List ℕ)) (w : List ℕ) (ps : Parts) → stand_not_in names (part (part_value (variable w)) ps) ≡ (not (list_any (bytes_eq w) names) && stand_not_in names ps)
behind_variable [] w ps = refl
behind_variable (n ∷ names) w ps =
    ap (λ (b : Bool). not (bytes_eq w n || has_variable n ps) && b) (behind_variable names w ps)
    ∙ apart (bytes_eq w n) (has_variable n ps) (list_any (bytes_eq w) names) (stand_not_in names ps)

one_more : (names : List (List ℕ)) (w : List ℕ) (ps : Parts) → stand_not_in (names ++ w ∷ []) ps ≡ (stand_not_in names ps && not (has_variable w ps))
one_more [] w ps = sym (and_true (not (has_variable w ps)))
one_more (n ∷ names) w ps = ap (λ (b : Bool). not (has_variable n ps) && b) (one_more names w ps) ∙ grouped (not (has_variable n ps)) (stand_not_in names ps) (not (has_variable w ps))

all_new : (names : List (List ℕ)) (ps : Parts) → are_new names ps ≡ (stand_not_in names ps && are_distinct_variables ps)
all_new names no_parts = sym (ap (λ (b : Bool). b && true) (in_nothing names))
all_new names (part (part_word w) ps) = all_new names ps ∙ ap (λ (b : Bool). b && are_distinct_variables ps) (sym (behind_word names w ps))
all_new names (part (part_value (variable w)) ps) =
    ap (λ (b : Bool). not (list_any (bytes_eq w) names) && b) (all_new (names ++ w ∷ []) ps ∙ ap (λ (b : Bool). b && are_distinct_variables ps) (one_more names w ps))
    ∙ together (not (list_any (bytes_eq w) names)) (stand_not_in names ps) (not (has_variable w ps)) (are_distinct_variables ps)
    ∙ ap (λ (b : Bool). b && (not (has_variable w ps) && are_distinct_variables ps)) (sym (behind_variable names w ps))
all_new names (part (part_value (num n)) ps) = sym (and_false _)
all_new names (part (part_value (dict_word w)) ps) = sym (and_false _)
all_new names (part (part_value (object_name w)) ps) = sym (and_false _)
all_new names (part (part_value current_topic) ps) = sym (and_false _)
all_new names (part (part_value anonymous) ps) = sym (and_false _)
all_new names (part (part_value (plain_list vs)) ps) = sym (and_false _)
all_new names (part (part_value (tailed_list vs v)) ps) = sym (and_false _)
all_new names (part (part_value (closure b)) ps) = sym (and_false _)
all_new names (part (part_value (nested qs)) ps) = sym (and_false _)
all_new names (part (part_value (word_choice ws)) ps) = sym (and_false _)

pub new_are_distinct : (ps : Parts) → are_new [] ps ≡ are_distinct_variables ps
new_are_distinct ps = all_new [] ps

pub any_listed : (n : List ℕ) (ks : List (Vec ℕ Global)) → list_any (λ k. bytes_eq n k.items) ks ≡ list_any (bytes_eq n) (map (λ k. k.items) ks)
any_listed n [] = refl
any_listed n (k ∷ ks) = ap (λ (b : Bool). bytes_eq n k.items || b) (any_listed n ks)

pub one_listed : (n : List ℕ) (ks new : List (Vec ℕ Global)) (v : Vec ℕ Global) (r : Bool) → new ≡ (if list_any (λ k. bytes_eq v.items k.items) ks then ks else ks ++ v ∷ []) → v.items ≡ n → r ≡ list_any (λ k. bytes_eq n k.items) ks → r ≡ false → map (λ k. k.items) new ≡ map (λ k. k.items) ks ++ n ∷ []
one_listed n ks new v r e same is none =
    ap (map (λ (k : Vec ℕ Global). k.items)) (e ∙ ap (λ (b : Bool). if b then ks else ks ++ v ∷ []) (ap (λ (x : List ℕ). list_any (λ (k : Vec ℕ Global). bytes_eq x k.items) ks) same ∙ sym is ∙ none))
    ∙ map-append (λ (k : Vec ℕ Global). k.items) ks (v ∷ [])
    ∙ ap (λ (x : List ℕ). map (λ (k : Vec ℕ Global). k.items) ks ++ x ∷ []) same
