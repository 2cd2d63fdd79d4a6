-- What starts set fits its places.
use Rattle.std.proofs.Common.{◌≡◌, ◌≢◌, ℕ, zero, suc, ◌+◌, ◌<◌, ◌≤◌, List, [], ◌∷◌, ◌++◌, length, map, Option, Some, None, refl, sym, ◌∙◌, subst, arith}
use Rattle.std.specs.Prelude.{All, nat_eq, ◌&&◌}
use Rattle.std.specs.List.{slice_get}
use Rattle.std.proofs.lemmas.Bool.{cond_both, cond-false, eqb-true, ne_eqb, and_parts}
use Rattle.std.proofs.lemmas.List.Elements.{All-head, All-tail}
use Rattle.dg_base.specs.declared.program.CoreProgram.{CoreProgram}
use Rattle.dg_base.specs.declared.program.Place.{Place}
use Rattle.dg_base.specs.declared.program.PlaceKind.{PlaceKind}
use Rattle.dg_base.specs.declared.program.PlaceKind.TheVariants.{Flag, ObjectFlag, ObjectVar, Parent, Global}
use Rattle.dg_base.specs.declared.program.Term.{Term, out-Term, Pair'}
use Rattle.dg_base.specs.declared.program.Term.TheOpen as term
use Rattle.dg_base.specs.Sound.{IsSimple, IsObject, IsNothing, IsStartOf, IsPlaceOf}
use Rattle.dg_meaning.specs.Facts.{Fact, value_at, no_program, start_value, starts_from, start_facts}
use Rattle.dg_meaning.specs.Values.{Value, value_of_leaf}
use Rattle.dg_rt.specs.Changes.{SetIn}
use Rattle.dg_rt.specs.Operands.{simple_word}
use Rattle.dg_rt.specs.Shapes.{number, dict, object, nil}
use Rattle.dg_turn.specs.Terms.{IsTerm}
use Rattle.dg_turn.specs.Starts.{set_word, FitsPlace, StartTerms, StartsFit}

-- ## Values

abbrev pub IsNoPair : term.Term-F Term → Type 0
IsNoPair (term.Pair head tail) = ⊥
IsNoPair other = Unit {0}

pub leaf_is : (x : Term) → IsNoPair (out-Term x) → start_value x ≡ value_of_leaf no_program [] (out-Term x)
unfolding out-Term denote.Hole.Carrier.out
leaf_is (Pair' s head k tail) h = absurd h
leaf_is x h = refl

abbrev Stood : Value → Type 0
Stood v = SetIn (simple_word v) (Some v)

leaf_stands : (x : term.Term-F Term) → IsSimple x → IsTerm x → Stood (value_of_leaf no_program [] x) × IsNoPair x
leaf_stands (term.Num n) simple few = ((λ sh. number n few), tt)
leaf_stands (term.Word n) simple few = ((λ sh. dict n few), tt)
leaf_stands (term.Object n) simple few = ((λ sh. object n few), tt)
leaf_stands term.Nil simple few = ((λ sh. nil), tt)
leaf_stands (term.Var n) simple few = absurd simple
leaf_stands (term.Pair head tail) simple few = absurd simple
leaf_stands (term.Closure c) simple few = absurd simple

simple_stands : (x : Term) → IsSimple (out-Term x) → IsTerm (out-Term x) → Stood (start_value x)
simple_stands x simple few = let l = leaf_stands (out-Term x) simple few in subst Stood (sym (leaf_is x l.1)) l.0

pub of_object : (x : term.Term-F Term) → IsObject x → IsSimple x
of_object (term.Num n) o = absurd o
of_object (term.Word n) o = absurd o
of_object (term.Object n) o = tt
of_object term.Nil o = absurd o
of_object (term.Var n) o = absurd o
of_object (term.Pair head tail) o = absurd o
of_object (term.Closure c) o = absurd o

pub of_nothing : (x : term.Term-F Term) → IsNothing x → IsSimple x
of_nothing (term.Num n) o = absurd o
of_nothing (term.Word n) o = absurd o
of_nothing (term.Object n) o = absurd o
of_nothing term.Nil o = tt
of_nothing (term.Var n) o = absurd o
of_nothing (term.Pair head tail) o = absurd o
of_nothing (term.Closure c) o = absurd o

-- ## Facts

-- What is set of an object is what one of the starts that are so sets, or nothing.
record Started (P Q : ℕ × Term → Type 0) (o : ℕ) (v : Value) : Type 0 where
  start : ℕ × Term
  holds : P start
  fits : Q start
  object_is : start.0 ≡ o
  value_is : v ≡ start_value start.1

abbrev IsStarted : (ℕ × Term → Type 0) → (ℕ × Term → Type 0) → ℕ → Option Value → Type 0
IsStarted P Q o None = Unit {0}
IsStarted P Q o (Some v) = Started P Q o v

abbrev pub fact_of : ℕ → ℕ × Term → Fact
fact_of p start = record { place = p; object = start.0; value = start_value start.1 }

-- at the place of the starts
starts_here : (P Q : ℕ × Term → Type 0) (p o : ℕ) (starts : List (ℕ × Term)) (rest : List Fact) → All P starts → All Q starts → value_at rest p o ≡ None → IsStarted P Q o (value_at (map (fact_of p) starts ++ rest) p o)
starts_here P Q p o [] rest all alls none = rw none tt
starts_here P Q p o (start ∷ starts) rest all alls none =
    cond_both (nat_eq p p && nat_eq start.0 o) (Some (start_value start.1)) (value_at (map (fact_of p) starts ++ rest) p o) (IsStarted P Q o)
    (λ e. record { start = start; holds = All-head P start starts all; fits = All-head Q start starts alls; object_is = eqb-true start.0 o (and_parts (nat_eq p p) (nat_eq start.0 o) e).1; value_is = refl })
    (λ e. starts_here P Q p o starts rest (All-tail P start starts all) (All-tail Q start starts alls) none)

-- at another one
pub starts_elsewhere : (p q o : ℕ) (starts : List (ℕ × Term)) (rest : List Fact) → p ≢ q → value_at (map (fact_of p) starts ++ rest) q o ≡ value_at rest q o
starts_elsewhere p q o [] rest ne = refl
starts_elsewhere p q o (start ∷ starts) rest ne = cond-false (nat_eq p q && nat_eq start.0 o) (Some (start_value start.1)) (value_at (map (fact_of p) starts ++ rest) q o) (rw (ne_eqb p q ne) refl) ∙ starts_elsewhere p q o starts rest ne

pub behind : (places : List Place) (n q o : ℕ) → q < n → value_at (starts_from n places) q o ≡ None
behind [] n q o lt = refl
behind (place ∷ places) n q o lt = starts_elsewhere n q o place.start (starts_from (n + 1) places) (λ (e : n ≡ q). (omega arith)) ∙ behind places (n + 1) q o (omega arith)

abbrev IsTerms : ℕ × Term → Type 0
IsTerms start = IsTerm (out-Term start.1)

module _ (program : CoreProgram) where
  abbrev Here : PlaceKind → ℕ → Option Value → Type 0
  Here kind o s = IsStarted (IsStartOf program kind) IsTerms o s

  starts_at : (places : List Place) (n i o : ℕ) (place : Place) → slice_get places i ≡ Some place → All (IsPlaceOf program) places → StartTerms places → Here place.kind o (value_at (starts_from n places) (n + i) o)
  starts_at [] n i o place e all terms = absurd (cc)
  starts_at (pl ∷ pls) n zero o place e all terms =
      let same : pl ≡ place = cc in
      let at : n ≡ n + 0 = omega arith in
      let first = All-head (IsPlaceOf program) pl pls all in
      let here = starts_here (IsStartOf program pl.kind) IsTerms n o pl.start (starts_from (n + 1) pls) first.starts (All-head (λ (x : Place). All IsTerms x.start) pl pls terms) (behind pls (n + 1) n o (omega arith)) in
      subst (λ (k : ℕ). Here place.kind o (value_at (starts_from n (pl ∷ pls)) k o)) at (subst (λ (x : Place). Here x.kind o (value_at (starts_from n (pl ∷ pls)) n o)) same here)
  starts_at (pl ∷ pls) n (suc i) o place e all terms =
      let at : n + 1 + i ≡ n + suc i = omega arith in
      let rest = starts_at pls (n + 1) i o place e (All-tail (IsPlaceOf program) pl pls all) (All-tail (λ (x : Place). All IsTerms x.start) pl pls terms) in
      subst (Here place.kind o) (sym (starts_elsewhere n (n + suc i) o pl.start (starts_from (n + 1) pls) (λ (q : n ≡ n + suc i). (omega arith)))) (subst (λ (k : ℕ). Here place.kind o (value_at (starts_from (n + 1) pls) k o)) at rest)

  -- ## Kinds

  abbrev n : ℕ
  n = length program.objects

  module _ (facts : List Fact) (place : ℕ) where
    abbrev All_of : PlaceKind → Type 0
    All_of kind = (o : ℕ) → Here kind o (value_at facts place o)

    stands_by : (kind : PlaceKind) → ((start : ℕ × Term) → IsStartOf program kind start → IsSimple (out-Term start.1)) → (o : ℕ) (s : Option Value) → Here kind o s → SetIn (set_word s) s
    stands_by kind simple o None h = refl
    stands_by kind simple o (Some v) h = subst Stood (sym h.value_is) (simple_stands h.start.1 (simple h.start h.holds) h.fits)

    few_by : (kind : PlaceKind) (k : ℕ) → ((start : ℕ × Term) → IsStartOf program kind start → start.0 < k) → (o : ℕ) (s : Option Value) → Here kind o s → k ≤ o → s ≡ None
    few_by kind k few o None h le = refl
    few_by kind k few o (Some v) h le = let lt = few h.start h.holds in let e = h.object_is in absurd (omega arith)

    kind_fits : (kind : PlaceKind) → All_of kind → FitsPlace n facts place kind
    kind_fits Flag all = record {
      each = λ o lt. stands_by Flag (λ start h. of_nothing (out-Term start.1) h.fits.1) o (value_at facts place o) (all o);
      few = λ o le. few_by Flag 1 (λ start h. (let e = h.fits.0 in omega arith)) o (value_at facts place o) (all o) le;
    }
    kind_fits ObjectFlag all = λ o le. few_by ObjectFlag n (λ start h. h.fits.0) o (value_at facts place o) (all o) le
    kind_fits ObjectVar all = record {
      each = λ o lt. stands_by ObjectVar (λ start h. h.fits.1) o (value_at facts place o) (all o);
      few = λ o le. few_by ObjectVar n (λ start h. h.fits.0) o (value_at facts place o) (all o) le;
    }
    kind_fits Parent all = record {
      each = λ o lt. stands_by Parent (λ start h. of_object (out-Term start.1) h.fits.1) o (value_at facts place o) (all o);
      few = λ o le. few_by Parent n (λ start h. h.fits.0) o (value_at facts place o) (all o) le;
    }
    kind_fits Global all = tt

-- A place of a kind.
record PlaceThere (places : List Place) (i : ℕ) (kind : PlaceKind) : Type 0 where
  place : Place
  is : slice_get places i ≡ Some place
  kind_is : place.kind ≡ kind

place_there : (places : List Place) (i : ℕ) (kind : PlaceKind) → slice_get (map (λ (p : Place). p.kind) places) i ≡ Some kind → PlaceThere places i kind
place_there [] i kind e = absurd (cc)
place_there (p ∷ ps) zero kind e = record { place = p; is = refl; kind_is = (let same : p.kind ≡ kind = cc in same) }
place_there (p ∷ ps) (suc i) kind e = let r = place_there ps i kind e in record { place = r.place; is = r.is; kind_is = r.kind_is }

pub starts_fit : StartsFit
starts_fit program sound terms place kind e =
    let there = place_there program.places place kind e in
    kind_fits program (start_facts program.places) place kind
    (λ o.
    let at : 0 + place ≡ place = omega arith in
    let here = starts_at program program.places 0 place o there.place there.is sound.places terms in
    subst (λ (k : PlaceKind). Here program k o (value_at (start_facts program.places) place o)) there.kind_is (subst (λ (k : ℕ). Here program there.place.kind o (value_at (start_facts program.places) k o)) at here))
