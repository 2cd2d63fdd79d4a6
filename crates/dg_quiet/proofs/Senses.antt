-- The senses in which worlds stay the same: all facts stay, or all but what is set at a per-object variable of one object.
use Rattle.std.proofs.Common.{◌≡◌, ◌≤◌, ◌+◌, ℕ, suc, inl, inr, List, [], ◌∷◌, ◌++◌, Option, Some, None, Bool, true, false, refl, sym, ap, ◌∙◌, arith}
use Rattle.std.specs.Prelude.{nat_eq, not, ◌&&◌, slice_get}
use Rattle.std.proofs.lemmas.Bool.{eq-eqb, eqb-true, cond-true, cond-false, and_parts, cases_Bool}
use Rattle.dg_base.specs.declared.program.PlaceKind.{PlaceKind}
use Rattle.dg_base.specs.declared.program.PlaceKind.TheVariants.{Flag, ObjectFlag, ObjectVar, Parent, Global}
use Rattle.dg_meaning.specs.Values.{Value}
use Rattle.dg_meaning.specs.Facts.{Fact, is_at, value_at, Clears, altered, size_of, kept_at, kept_from, kept_size}
use Rattle.dg_meaning.specs.World.{World, Event, Prints, Asked, Answered, Retried, HasFailed, prints}
use Rattle.dg_quiet.specs.inside.Unchanged.{SameButFacts, SameFacts, cleared}
use Rattle.dg_quiet.proofs.Still.{IsCall, IsSense}

-- a call prints nothing
calls_print_nothing : (es : List Event) (e : Event) → IsCall e → prints (es ++ e ∷ []) ≡ prints es
calls_print_nothing [] (Prints p) c = absurd c
calls_print_nothing [] (Asked q) c = refl
calls_print_nothing [] (Answered q) c = refl
calls_print_nothing [] (Retried q) c = refl
calls_print_nothing [] (HasFailed q) c = refl
calls_print_nothing (Prints p ∷ es) e c = ap (λ l. p ∷ l) (calls_print_nothing es e c)
calls_print_nothing (Asked q ∷ es) e c = calls_print_nothing es e c
calls_print_nothing (Answered q ∷ es) e c = calls_print_nothing es e c
calls_print_nothing (Retried q ∷ es) e c = calls_print_nothing es e c
calls_print_nothing (HasFailed q ∷ es) e c = calls_print_nothing es e c

others_here : (w : World) → SameButFacts w w
others_here w = record { printed = refl; gathered = refl; typed = refl; dice = refl; sites = refl; aux = refl; keep = refl }

others_on : (w v u : World) → SameButFacts w v → SameButFacts v u → SameButFacts w u
others_on w v u a b = record {
  printed = b.printed ∙ a.printed;
  gathered = b.gathered ∙ a.gathered;
  typed = b.typed ∙ a.typed;
  dice = b.dice ∙ a.dice;
  sites = b.sites ∙ a.sites;
  aux = b.aux ∙ a.aux;
  keep = b.keep ∙ a.keep;
}

-- ## All facts stay

pub facts_stay : IsSense SameFacts
facts_stay = record {
  here = λ w. record { facts = refl; others = others_here w };
  on = λ w v u a b. record { facts = b.facts ∙ a.facts; others = others_on w v u a.others b.others };
  works = λ n w. record { facts = refl; others = record { printed = refl; gathered = refl; typed = refl; dice = refl; sites = refl; aux = refl; keep = refl } };
  reaches = λ heap trail w. record { facts = refl; others = record { printed = refl; gathered = refl; typed = refl; dice = refl; sites = refl; aux = refl; keep = refl } };
  tells = λ e w c. record { facts = refl; others = record { printed = calls_print_nothing w.events e c; gathered = refl; typed = refl; dice = refl; sites = refl; aux = refl; keep = refl } };
}

-- ## All but one

-- as many cells of global variables are set, and the greatest count of them stays where it has counted those
pub record StayBut (kinds : List PlaceKind) (place : ℕ) (object : Option ℕ) (before after : World) : Type 0 where
  pub facts : cleared place object after.facts ≡ cleared place object before.facts
  pub kept : kept_size kinds after.facts ≡ kept_size kinds before.facts
  pub others : kept_size kinds before.facts ≤ before.meters.keep → SameButFacts before after

pub facts_stay_but : (kinds : List PlaceKind) (place : ℕ) (object : Option ℕ) → IsSense (StayBut kinds place object)
facts_stay_but kinds place object = record {
  here = λ w. record { facts = refl; kept = refl; others = λ le. others_here w };
  on = λ w v u a b. record {
    facts = b.facts ∙ a.facts;
    kept = b.kept ∙ a.kept;
    others = λ le. let first = a.others le in others_on w v u first (b.others (omega (arith, le, a.kept, first.keep)));
  };
  works = λ n w. record { facts = refl; kept = refl; others = λ le. record { printed = refl; gathered = refl; typed = refl; dice = refl; sites = refl; aux = refl; keep = refl } };
  reaches = λ heap trail w. record { facts = refl; kept = refl; others = λ le. record { printed = refl; gathered = refl; typed = refl; dice = refl; sites = refl; aux = refl; keep = refl } };
  tells = λ e w c. record {
    facts = refl;
    kept = refl;
    others = λ le. record { printed = calls_print_nothing w.events e c; gathered = refl; typed = refl; dice = refl; sites = refl; aux = refl; keep = refl };
  };
}

-- ## One fact more

abbrev pub one_more : ℕ → ℕ → Value → List Fact → List Fact
one_more place object v facts = record { place = place; object = object; value = v } ∷ facts

pub one_cleared : (place object : ℕ) (v : Value) (facts : List Fact) → altered (Clears place object) (one_more place object v facts) ≡ altered (Clears place object) facts
one_cleared place object v facts =
    let here : (nat_eq place place && nat_eq object object) ≡ true = ap (λ b. b && nat_eq object object) (eq-eqb place place refl) ∙ eq-eqb object object refl in
    cond-false (not (nat_eq place place && nat_eq object object)) (one_more place object v (altered (Clears place object) facts)) (altered (Clears place object) facts) (ap not here)

-- what isn't set needs no clearing
pub bare_cleared : (place object : ℕ) (facts : List Fact) → value_at facts place object ≡ None → altered (Clears place object) facts ≡ facts
bare_cleared place object [] h = refl
bare_cleared place object (fact ∷ facts) h = here (is_at place object fact) refl (bare_cleared place object facts)
  where
    here : (b : Bool) → is_at place object fact ≡ b → (value_at facts place object ≡ None → altered (Clears place object) facts ≡ facts) → altered (Clears place object) (fact ∷ facts) ≡ fact ∷ facts
    here true e rest = let some : Some fact.value ≡ None = sym (cond-true (is_at place object fact) (Some fact.value) (value_at facts place object) e) ∙ h in absurd (cc (some))
    here false e rest =
        let bare = sym (cond-false (is_at place object fact) (Some fact.value) (value_at facts place object) e) ∙ h in
        cond-true (not (is_at place object fact)) (fact ∷ altered (Clears place object) facts) (altered (Clears place object) facts) (ap not e) ∙ ap (λ l. fact ∷ l) (rest bare)

other_place : (place object : ℕ) (fact : Fact) → (fact.place ≡ place → ⊥) → is_at place object fact ≡ false
other_place place object fact ne = elim (cases_Bool (is_at place object fact)) [
  | inl e ↦ absurd (ne (eqb-true fact.place place (and_parts (nat_eq fact.place place) (nat_eq fact.object object) e).0))
  | inr e ↦ e
]

-- a fact of another place than a global variable's isn't kept
kept_at_other : (fact : Fact) (facts : List Fact) (place : ℕ) (kind : PlaceKind) → (kind ≡ Global → fact.place ≡ place → ⊥) → kept_at (fact ∷ facts) place kind ≡ kept_at facts place kind
kept_at_other fact facts place Flag ne = refl
kept_at_other fact facts place ObjectFlag ne = refl
kept_at_other fact facts place ObjectVar ne = refl
kept_at_other fact facts place Parent ne = refl
kept_at_other fact facts place Global ne = ap size_of (cond-false (is_at place 0 fact) (Some fact.value) (value_at facts place 0) (other_place place 0 fact (ne refl)))

kept_from_other : (fact : Fact) (facts : List Fact) (kinds : List PlaceKind) (first : ℕ) → ((i : ℕ) → slice_get kinds i ≡ Some Global → fact.place ≡ first + i → ⊥) → kept_from first kinds (fact ∷ facts) ≡ kept_from first kinds facts
kept_from_other fact facts [] first ne = refl
kept_from_other fact facts (kind ∷ kinds) first ne =
    let here = kept_at_other fact facts first kind (λ is at. ne 0 (ap Some is) (omega (arith, at))) in
    let rest = kept_from_other fact facts kinds (first + 1) (λ i is at. ne (suc i) is (omega (arith, at))) in
    omega (arith, here, rest)

pub one_kept : (kinds : List PlaceKind) (place object : ℕ) (v : Value) (facts : List Fact) → slice_get kinds place ≡ Some ObjectVar → kept_size kinds (one_more place object v facts) ≡ kept_size kinds facts
one_kept kinds place object v facts is = kept_from_other (record { place = place; object = object; value = v }) facts kinds 0 (λ i global at.
    let here : i ≡ place = omega (arith, at) in
    let both : Some ObjectVar ≡ Some Global = sym is ∙ ap (slice_get kinds) (sym here) ∙ global in
    absurd (cc (both)))
