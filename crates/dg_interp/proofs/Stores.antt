-- What stays in a store that grows.
use Rattle.std.proofs.Common.{◌≡◌, ℕ, zero, suc, ◌+◌, ◌-◌, ◌<◌, ◌≤◌, List, [], ◌∷◌, ◌++◌, refl, sym, ap, ◌∙◌, subst, arith, length, map, take, drop, length-append, length-take, length-drop}
use Rattle.std.specs.Prelude.{nat_lt, if◌then◌else◌}
use Rattle.std.specs.List.{All}
use Rattle.std.proofs.lemmas.Bool.{cond_both, ltb-true, lt-ltb}
use Rattle.std.proofs.lemmas.List.{take-append-le, length-map}
use Rattle.std.proofs.Math.Seq.{take-append_seam, drop-append_seam}
use Rattle.std.proofs.lemmas.List.Elements.{All-take, All-drop}
use Rattle.dg_meaning.specs.Substitutions.{Substitution}
use Rattle.dg_meaning.specs.Moves.{made_since, older_bound}
use Rattle.dg_base.specs.declared.program.Term.{Term}
use Rattle.dg_base.specs.declared.program.CoreProgram.{CoreProgram}
use Rattle.dg_unify.specs.Store.{Store, told, Holds, Kept, trail_for, trail_of}
use Rattle.dg_unify.specs.declared.bindings.Ref.{Ref}
use Rattle.dg_choices.specs.declared.frames.Env.{Env}
use Rattle.dg_interp.specs.inside.Frames.{stretch, values_in, EndsBy}
use Rattle.dg_interp.proofs.Links.{SameBy, stretch_same}
use Rattle.dg_terms.specs.Terms.{BothMade}
use Rattle.dg_unify.proofs.StoreLemmas.{all_told}

pub stretch_holds : (s : Store) (rs : List Ref) (env : Env) → All (Holds s) rs → All (Holds s) (stretch rs env)
stretch_holds s rs env h = All-take (Holds s) env.len (drop env.from rs) (All-drop (Holds s) env.from rs h)

-- values among the first Refs stay the same in a store that has grown
pub values_kept : (n : ℕ) (s t : Store) (xs ys : List Ref) → Kept s t → All (Holds s) (take n xs) → take n ys ≡ take n xs → SameBy n (values_in s xs) (values_in t ys)
values_kept n s t xs ys k h same env ends =
    ap (map (told t)) (stretch_same n xs ys env ends same)
    ∙ ap (map (told t)) (sym (stretch_same n xs (take n xs) env ends (take_twice n xs)))
    ∙ all_told s t (stretch (take n xs) env) k (stretch_holds s (take n xs) env h)
    ∙ ap (map (told s)) (stretch_same n xs (take n xs) env ends (take_twice n xs))
  where
    take_twice : (m : ℕ) (l : List Ref) → take m (take m l) ≡ take m l
    take_twice zero l = refl
    take_twice (suc m) [] = refl
    take_twice (suc m) (x ∷ l) = ap (λ r. x ∷ r) (take_twice m l)

pub take_all : (xs : List Ref) → take (length xs) xs ≡ xs
take_all [] = refl
take_all (x ∷ xs) = ap (λ l. x ∷ l) (take_all xs)

pub hold_front : (s : Store) (xs : List Ref) → All (Holds s) xs → All (Holds s) (take (length xs) xs)
hold_front s xs h = subst (All (Holds s)) (sym (take_all xs)) h

pub front_same : (xs made ys : List Ref) → ys ≡ xs ++ made → take (length xs) ys ≡ take (length xs) xs
front_same xs made ys e = ap (take (length xs)) e ∙ take-append-le (length xs) xs made (omega arith)

-- the stretch that was appended
pub appended_stretch : (xs made ys : List Ref) (n : ℕ) → ys ≡ xs ++ made → n ≡ length made → stretch ys (record { from = length xs; len = n }) ≡ made
appended_stretch xs made ys n e is =
    ap (λ l. take n (drop (length xs) l)) e ∙ ap (take n) (drop-append_seam xs made) ∙ ap (λ k. take k made) is ∙ take_all made

pub values_count : (s : Store) (xs : List Ref) (env : Env) → EndsBy (length xs) env → length (values_in s xs env) ≡ env.len
values_count s xs env ends = length-map (stretch xs env) (told s) ∙ length-take env.len (drop env.from xs) ∙ omega (arith, length-drop env.from xs, ends)

-- ## What bindings take of the trail

pub trail_append : (since : ℕ) (made S : Substitution) → trail_of since (made ++ S) ≡ trail_of since made + trail_of since S
trail_append since [] S = omega arith
trail_append since (p ∷ made) S = ap (λ n. trail_for since p.0 + n) (trail_append since made S) ∙ omega arith

one_less : (since n x : ℕ) → since ≤ n → trail_for since x ≤ (if nat_lt x n then 1 else 0)
one_less since n x le =
    cond_both (nat_lt x since) 1 0 (λ k. k ≤ (if nat_lt x n then 1 else 0))
    (λ e. let less : x < n = omega (arith, ltb-true x since e) in subst (λ b. 1 ≤ (if b then 1 else 0)) (sym (lt-ltb x n less)) (omega arith)) (λ e. omega arith)

pub trail_older : (since n : ℕ) (made : Substitution) → since ≤ n → trail_of since made ≤ older_bound n made
trail_older since n [] le = omega arith
trail_older since n (p ∷ made) le = let here = one_less since n p.0 le in let rest = trail_older since n made le in omega (arith, here, rest)

one_at_most : (since x : ℕ) → trail_for since x ≤ 1
one_at_most since x = cond_both (nat_lt x since) 1 0 (λ k. k ≤ 1) (λ e. omega arith) (λ e. omega arith)

pub trail_within : (since : ℕ) (made : Substitution) → trail_of since made ≤ length made
trail_within since [] = omega arith
trail_within since (p ∷ made) = let here = one_at_most since p.0 in let rest = trail_within since made in omega (arith, here, rest)

take_front : (made S : Substitution) → take (length made) (made ++ S) ≡ made
take_front made S = take-append_seam made S

pub made_is : (made S S' : Substitution) → S' ≡ made ++ S → made_since S S' ≡ made
made_is made S S' e = let n : length S' - length S ≡ length made = omega (arith, ap length e ∙ length-append made S) in ap (λ k. take k S') n ∙ ap (take (length made)) e ∙ take_front made S

-- ## Two terms

pub both_among : (program : CoreProgram) (a b : Term) (s t : Store) (ra rb : Ref) (refs part : List Ref) (env : Env) → part ≡ stretch refs env → BothMade program a b (map (told s) part) s t ra rb → BothMade program a b (values_in s refs env) s t ra rb
both_among program a b s t ra rb refs part env e h = subst (λ l. BothMade program a b (map (told s) l) s t ra rb) e h
