-- Places start soundly.
use Rattle.std.proofs.Common.{◌≡◌, ◌+◌, ◌<◌, ◌≤◌, ℕ, zero, suc, List, [], ◌∷◌, ◌++◌, Bool, true, false, Result, Ok, Err, length, map, nat_lt, refl, sym, subst, arith}
use Rattle.std.specs.Prelude.{if◌then◌else◌, nat_eq}
use Rattle.std.specs.List.{All, AllByRecursion, Contains, IsDistinct}
use Rattle.std.specs.Str.{bytes_eq}
use Rattle.std.proofs.lemmas.Bool.{and_parts}
use Rattle.std.proofs.lemmas.Grind.{common_steps}
use Rattle.std.proofs.lemmas.List.Elements.{All-nil, All-cons, Contains-append_right}
use Rattle.dg_base.specs.Heads.{name_of}
use Rattle.dg_base.specs.Sound.{IsStartOf, IsTermOf, FitsStart, IsSimple, IsObject as IsObjectTerm, IsNothing}
use Rattle.dg_base.specs.Tree.{Parts, Value as TreeValue}
use Rattle.dg_base.specs.declared.program.CoreProgram.{CoreProgram as Core}
use Rattle.dg_base.specs.declared.program.PlaceKind.{PlaceKind}
use Rattle.dg_base.specs.declared.program.PlaceKind.TheVariants.{Flag, ObjectFlag, ObjectVar, Parent, Global}
use Rattle.dg_base.specs.declared.program.Term.{Term, out-Term}
use Rattle.dg_base.specs.declared.program.Term.TheOpen as top
use Rattle.dg_base.specs.declared.program.Term.TheVariants as term
use Rattle.dg_base.specs.declared.refusal.Kind.{Kind}
use Rattle.dg_base.specs.declared.refusal.Kind.TheVariants.{BadInitial}
use Rattle.dg_meaning.specs.Facts.{takes}
use Rattle.dg_meaning.specs.Initial.{Initial, TooLong, Unset, IsSet, HasValue, Other}
use Rattle.dg_meaning.specs.Values.{Num, Word, Unknown, Object, Nil, Pair, Closure, Value, Var, Node}
use Rattle.dg_core.specs.Given.{is_unset}
use Rattle.dg_core.specs.Goals.{Scope, term_of}
use Rattle.dg_core.specs.Places.{head_values}
use Rattle.dg_core.proofs.MemberLemmas.{first_there}
use Rattle.dg_core.proofs.TermLemmas.{leaf_sound, nil_sound}
use Rattle.dg_lower.specs.Outcome.{outcome_of}
use Rattle.dg_lower.specs.Starts.{Starts, value_start, head_start, or_else, declared_start, is_known, allows, known_term, start_by, has_values, question, and_starts, starts_from, asked_of}
use Rattle.dg_lower.specs.Lowered.{or_nothing}
use Rattle.dg_lower.proofs.OutcomeLemmas.{Suits, outcome_suits}

below : (a b : ℕ) → nat_lt a b ≡ true → a < b
below a b e = grind (arith, common_steps, e)

-- ---- the values of searches

-- a value that a place may start with has a sound term
record IsFine (p : Core) (v : Value) : Type 0 where
  sound : IsTermOf p 0 (known_term v)
  simple : IsSimple (out-Term (known_term v))

fine : (p : Core) (v : Value) (x : Term) (layer : top.Term-F Term) → known_term v ≡ x → out-Term x ≡ layer → IsTermOf p 0 x → IsSimple layer → IsFine p v
fine p v x layer e is sound simple = record {
  sound = subst (IsTermOf p 0) (sym e) sound;
  simple = subst (λ (y : Term). IsSimple (out-Term y)) (sym e) (subst IsSimple (sym is) simple);
}

known_fine : (p : Core) (v : Value) → is_known p v ≡ true → IsFine p v
known_fine p (Var n) e = cc
known_fine p (Node (Num n) parts) e =
    let few : n ≤ 16383 = let lt = below n 16384 e in omega (arith, lt) in
    fine p (Node (Num n) parts) (term.Num n) (top.Num n) refl (term.outs-Num n) (leaf_sound p 0 (term.Num n) (top.Num n) refl (term.outs-Num n) few) tt
known_fine p (Node (Word w) parts) e =
    fine p (Node (Word w) parts) (term.Word w) (top.Word w) refl (term.outs-Word w) (leaf_sound p 0 (term.Word w) (top.Word w) refl (term.outs-Word w) (below w (length p.words) e)) tt
known_fine p (Node (Object o) parts) e =
    fine p (Node (Object o) parts) (term.Object o) (top.Object o) refl (term.outs-Object o) (leaf_sound p 0 (term.Object o) (top.Object o) refl (term.outs-Object o) (below o (length p.objects) e)) tt
known_fine p (Node Nil parts) e = fine p (Node Nil parts) term.Nil top.Nil refl term.outs-Nil (nil_sound p 0) tt
known_fine p (Node (Unknown s) parts) e = cc
known_fine p (Node Pair parts) e = cc
known_fine p (Node (Closure c) parts) e = cc

parent_fine : (v : Value) → takes Parent v ≡ true → IsObjectTerm (out-Term (known_term v))
parent_fine (Node (Object o) parts) e = subst IsObjectTerm (sym (term.outs-Object o)) tt
parent_fine (Var n) e = cc
parent_fine (Node (Num n) parts) e = cc
parent_fine (Node (Word w) parts) e = cc
parent_fine (Node Nil parts) e = cc
parent_fine (Node (Unknown s) parts) e = cc
parent_fine (Node Pair parts) e = cc
parent_fine (Node (Closure c) parts) e = cc

-- ---- one object

-- a place that is searched isn't a declared variable's
abbrev pub IsSearched : PlaceKind → Type 0
IsSearched Global = ⊥
IsSearched kind = Unit {0}

-- the numbers that a place of a kind is asked of are those of objects, or 0
fits_flag : (p : Core) (kind : PlaceKind) (o : ℕ) → IsSearched kind → has_values kind ≡ false → o < asked_of p kind → FitsStart kind (length p.objects) o term.Nil
fits_flag p Flag o s e h = (omega (arith, h), subst IsNothing (sym term.outs-Nil) tt)
fits_flag p ObjectFlag o s e h = (h, subst IsNothing (sym term.outs-Nil) tt)
fits_flag p ObjectVar o s e h = cc
fits_flag p Parent o s e h = cc
fits_flag p Global o s e h = absurd s

fits_value : (p : Core) (kind : PlaceKind) (o : ℕ) (v : Value) → has_values kind ≡ true → o < asked_of p kind → IsFine p v → takes kind v ≡ true → FitsStart kind (length p.objects) o (known_term v)
fits_value p ObjectVar o v e h f t = (h, f.simple)
fits_value p Parent o v e h f t = (h, parent_fine v t)
fits_value p Flag o v e h f t = cc
fits_value p ObjectFlag o v e h f t = cc
fits_value p Global o v e h f t = cc

-- what starts is sound, of objects from this one on, each once
pub record AreFrom (p : Core) (kind : PlaceKind) (o : ℕ) (starts : Starts) : Type 0 where
  pub sound : All (IsStartOf p kind) starts
  pub above : All (λ (s : ℕ × Term). o ≤ s.0) starts
  pub once : IsDistinct nat_eq (map (λ (s : ℕ × Term). s.0) starts)

none_distinct : IsDistinct nat_eq (map (λ (s : ℕ × Term). s.0) [])
unfolding IsDistinct
none_distinct = tt

pub none_from : (p : Core) (kind : PlaceKind) (o : ℕ) → AreFrom p kind o []
none_from p kind o = record { sound = All-nil (IsStartOf p kind); above = All-nil (λ (s : ℕ × Term). o ≤ s.0); once = none_distinct }

unequal : (a b : ℕ) → a < b → nat_eq a b ≡ false
unequal a b h = grind (arith, common_steps, h)

apart_above : (o : ℕ) (starts : Starts) → All (λ (s : ℕ × Term). o + 1 ≤ s.0) starts → AllByRecursion (λ (k : ℕ). nat_eq o k ≡ false) (map (λ (s : ℕ × Term). s.0) starts)
apart_above o [] h = tt
apart_above o (s ∷ starts) h =
    let first : o + 1 ≤ s.0 = h 0 s (omega arith) in
    (unequal o s.0 (omega (arith, first)), apart_above o starts (λ k d lt. h (suc k) d (omega (arith, lt))))

one_distinct : (o : ℕ) (x : Term) (starts : Starts) → All (λ (s : ℕ × Term). o + 1 ≤ s.0) starts → IsDistinct nat_eq (map (λ (s : ℕ × Term). s.0) starts) → IsDistinct nat_eq (map (λ (s : ℕ × Term). s.0) ((o, x) ∷ starts))
unfolding IsDistinct
one_distinct o x starts above once = (apart_above o starts above, once)

-- what may start of one object
abbrev MayStart : Core → PlaceKind → ℕ → Starts → Type 0
MayStart p kind o [] = Unit {0}
MayStart p kind o (s ∷ []) = (s.0 ≡ o) × IsStartOf p kind s
MayStart p kind o (s ∷ t ∷ starts) = ⊥

abbrev IfStarts : (Starts → Type 0) → Result Starts Kind → Type 0
IfStarts P (Ok starts) = P starts
IfStarts P (Err k) = Unit {0}

value_may : (p : Core) (kind : PlaceKind) (o : ℕ) (v : Value) (b : Bool) → allows p kind v ≡ b → has_values kind ≡ true → o < asked_of p kind → IfStarts (MayStart p kind o) (if b then Ok ((o, known_term v) ∷ []) else Err BadInitial)
value_may p kind o v false e vs h = tt
value_may p kind o v true e vs h =
    let each = and_parts (is_known p v) (takes kind v) e in
    let f = known_fine p v each.0 in
    (refl, record { fits = fits_value p kind o v vs h f each.1; value = f.sound })

one_may : (p : Core) (kind : PlaceKind) (o : ℕ) (x : Initial) → IsSearched kind → Suits (has_values kind) x → o < asked_of p kind → IfStarts (MayStart p kind o) (start_by p kind o x)
one_may p kind o TooLong s e h = tt
one_may p kind o Unset s e h = tt
one_may p kind o IsSet s e h = (refl, record { fits = fits_flag p kind o s e h; value = nil_sound p 0 })
one_may p kind o (HasValue v) s e h = value_may p kind o v (allows p kind v) refl e h
one_may p kind o Other s e h = tt

-- ---- object by object

joined : (p : Core) (kind : PlaceKind) (o : ℕ) (xs ys : Starts) → MayStart p kind o xs → AreFrom p kind (o + 1) ys → AreFrom p kind o (xs ++ ys)
joined p kind o [] ys m f = record { sound = f.sound; above = λ k d lt. let le = f.above k d lt in omega (arith, le); once = f.once }
joined p kind o (s ∷ []) ys m f =
    let up : All (λ (t : ℕ × Term). o ≤ t.0) ys = λ k d lt. let le = f.above k d lt in omega (arith, le) in
    let later : All (λ (t : ℕ × Term). s.0 + 1 ≤ t.0) ys = subst (λ (n : ℕ). All (λ (t : ℕ × Term). n + 1 ≤ t.0) ys) (sym m.0) f.above in
    record {
      sound = All-cons (IsStartOf p kind) s ys m.1 f.sound;
      above = All-cons (λ (t : ℕ × Term). o ≤ t.0) s ys (omega (arith, m.0)) up;
      once = one_distinct s.0 s.1 ys later f.once;
    }
joined p kind o (s ∷ t ∷ xs) ys m f = absurd m

both_from : (p : Core) (kind : PlaceKind) (o : ℕ) (a b : Result Starts Kind) → IfStarts (MayStart p kind o) a → IfStarts (AreFrom p kind (o + 1)) b → IfStarts (AreFrom p kind o) (and_starts a b)
both_from p kind o (Err k) b h j = tt
both_from p kind o (Ok xs) (Err k) h j = tt
both_from p kind o (Ok xs) (Ok ys) h j = joined p kind o xs ys h j

all_from : (p : Core) (kind : PlaceKind) (pred o n : ℕ) → IsSearched kind → o + n ≤ asked_of p kind → IfStarts (AreFrom p kind o) (starts_from p kind pred o n)
all_from p kind pred o zero s h = none_from p kind o
all_from p kind pred o (suc n) s h =
    let x = outcome_of p (question kind pred o) in
    both_from p kind o (start_by p kind o x) (starts_from p kind pred (o + 1) n)
    (one_may p kind o x s (outcome_suits p (question kind pred o)) (omega (arith, h))) (all_from p kind pred (o + 1) n s (omega (arith, h)))

or_nothing_from : (p : Core) (kind : PlaceKind) (o : ℕ) (r : Result Starts Kind) → IfStarts (AreFrom p kind o) r → AreFrom p kind o (or_nothing r)
or_nothing_from p kind o (Ok starts) h = h
or_nothing_from p kind o (Err k) h = none_from p kind o

pub searched_from : (p : Core) (kind : PlaceKind) (pred : ℕ) → IsSearched kind → AreFrom p kind 0 (or_nothing (starts_from p kind pred 0 (asked_of p kind)))
searched_from p kind pred s = or_nothing_from p kind 0 (starts_from p kind pred 0 (asked_of p kind)) (all_from p kind pred 0 (asked_of p kind) s (omega arith))

-- ---- declared variables

-- the value of each of these heads is a constant
abbrev pub AreConstant : Core → Scope → List Parts → Type 0
AreConstant p around heads = (ps : Parts) (v : TreeValue) (vs : List TreeValue) → Contains heads ps → head_values ps ≡ v ∷ vs → is_unset v ≡ false → IsStartOf p Global (0, term_of around v)

a_one : (p : Core) (x : Term) → IsStartOf p Global (0, x) → AreFrom p Global 0 ((0, x) ∷ [])
a_one p x h = joined p Global 0 ((0, x) ∷ []) [] (refl, h) (none_from p Global 1)

else_one : (p : Core) (xs ys : Starts) → AreFrom p Global 0 xs → AreFrom p Global 0 ys → AreFrom p Global 0 (or_else xs ys)
else_one p [] ys h j = j
else_one p (x ∷ xs) ys h j = h

value_one : (p : Core) (around : Scope) (vs : List TreeValue) → ((v : TreeValue) (us : List TreeValue) → vs ≡ v ∷ us → is_unset v ≡ false → IsStartOf p Global (0, term_of around v)) → AreFrom p Global 0 (value_start around vs)
value_one p around [] h = none_from p Global 0
value_one p around (v ∷ vs) h = here (is_unset v) refl
  where
    here : (b : Bool) → is_unset v ≡ b → AreFrom p Global 0 (if b then [] else (0, term_of around v) ∷ [])
    here true e = none_from p Global 0
    here false e = a_one p (term_of around v) (h v vs refl e)

head_one : (p : Core) (around : Scope) (ps : Parts) (b : Bool) → ((v : TreeValue) (us : List TreeValue) → head_values ps ≡ v ∷ us → is_unset v ≡ false → IsStartOf p Global (0, term_of around v)) → AreFrom p Global 0 (if b then value_start around (head_values ps) else [])
head_one p around ps true h = value_one p around (head_values ps) h
head_one p around ps false h = none_from p Global 0

pub declared_from : (p : Core) (around : Scope) (name : List ℕ) (heads : List Parts) → AreConstant p around heads → AreFrom p Global 0 (declared_start around name heads)
declared_from p around name [] h = none_from p Global 0
declared_from p around name (ps ∷ heads) h =
    else_one p (head_start around name ps) (declared_start around name heads)
    (head_one p around ps (bytes_eq (name_of ps) name) (λ v us. h ps v us (first_there ps heads)))
    (declared_from p around name heads (λ qs v us there. h qs v us (Contains-append_right (ps ∷ []) heads qs there)))
