-- A tree without items is refused, since it has no entry.
use Rattle.std.proofs.Common.{◌≡◌, ◌<◌, ℕ, zero, suc, List, [], ◌∷◌, Bool, true, false, not, Option, Some, None, Result, Ok, Err, IfOk, length, map, position, refl, sym, ◌∙◌, ap, subst, arith}
use Rattle.std.specs.Prelude.{◌==◌, slice_get}
use Rattle.std.specs.Option.{option_or}
use Rattle.std.specs.Str.{bytes_eq}
use Rattle.std.proofs.lemmas.Grind.{common_steps}
use Rattle.std.proofs.lemmas.List.{length-map}
use Rattle.std.proofs.lemmas.Option.{slice_get_within}
use Rattle.dg_base.specs.Goals.{has_rule}
use Rattle.dg_base.specs.declared.program.PlaceKind.TheVariants.{Parent}
use Rattle.dg_base.specs.declared.program.Pred.{Pred}
use Rattle.dg_base.specs.declared.refusal.Kind.{Kind}
use Rattle.dg_base.specs.declared.refusal.Kind.TheVariants.{NoEntry}
use Rattle.dg_base.specs.declared.refusal.Refusal.{Refusal}
use Rattle.dg_meaning.specs.Moves.{rules_of}
use Rattle.dg_meaning.specs.Quiet.{have_quiet_bodies}
use Rattle.dg_meaning.specs.Sets.{is_in_set}
use Rattle.dg_names.specs.Named.{Named}
use Rattle.dg_core.specs.Core.{outer_scope, pred_of, initial_core}
use Rattle.dg_core.specs.Places.{parent_name, place_names}
use Rattle.dg_lower.specs.Starts.{Starts, searched}
use Rattle.dg_lower.specs.Lowered.{changing, start_refusal, entry_refusal, core_refusal, IsQuietSet, ComesOf, with_entry, IsLowered}
use Rattle.dg_lower.proofs.AddLemmas.{ruleless_starts}

-- no predicate has a rule
abbrev bare_in : Named → List (List ℕ) → List Pred
bare_in names ns = map (pred_of (outer_scope names []) []) ns

rules_none : (names : Named) (ns : List (List ℕ)) (p : ℕ) (pred : Pred) → slice_get (bare_in names ns) p ≡ Some pred → pred.rules ≡ []
rules_none names [] p pred e = cc
rules_none names (n ∷ ns) zero pred e = let same : Some (pred_of (outer_scope names []) [] n) ≡ Some pred = e in let is : pred_of (outer_scope names []) [] n ≡ pred = cc in ap (λ (q : Pred). q.rules) (sym is)
rules_none names (n ∷ ns) (suc p) pred e = rules_none names ns p pred e

none_of : (names : Named) (ns : List (List ℕ)) (p : ℕ) → has_rule (rules_of (slice_get (bare_in names ns) p)) ≡ false
none_of names [] p = refl
none_of names (n ∷ ns) zero = refl
none_of names (n ∷ ns) (suc p) = none_of names ns p

-- the others than some
turned : (cs : List Bool) (p : ℕ) → p < length cs → is_in_set (map not cs) p ≡ not (is_in_set cs p)
turned [] p h = absurd (omega (arith, h))
turned (c ∷ cs) zero h = refl
turned (c ∷ cs) (suc p) h = turned cs p (omega (arith, h))

in_turned : (cs : List Bool) (p : ℕ) → is_in_set (map not cs) p ≡ true → is_in_set cs p ≡ false
in_turned [] p e = refl
in_turned (c ∷ cs) zero e = untrue c e
  where
    untrue : (b : Bool) → not b ≡ true → b ≡ false
    untrue true e = cc
    untrue false e = refl
in_turned (c ∷ cs) (suc p) e = in_turned cs p e

quiet_set : (names : Named) → IsQuietSet names [] (map not (changing names []))
quiet_set names =
    let cs = changing names [] in
    let preds = bare_in names names.preds in
    let many : length cs ≡ length preds = length-map names.preds _ ∙ sym (length-map names.preds (pred_of (outer_scope names []) [])) in
    record {
      answers = length-map cs not ∙ many;
      closed = λ p pred at there. (in_turned cs p there, ap (have_quiet_bodies (map not cs)) (rules_none names names.preds p pred at));
      greatest = λ set long by p pred at there.
          turned cs p (let lt = slice_get_within preds p pred at in omega (arith, lt, many)) ∙ ap not (by p pred at there).0;
    }

unsearched : (names : Named) (o : Option ℕ) → searched (initial_core names []) Parent o ≡ Ok []
unsearched names None = refl
unsearched names (Some k) = ruleless_starts (initial_core names []) Parent k 0 (length names.objects) (none_of names names.preds k)

comes_empty : (names : Named) → ComesOf names [] (Err (record { kind = NoEntry; line = 1 }))
comes_empty names =
    let refused : core_refusal names [] (map not (changing names [])) ≡ Some (record { kind = NoEntry; line = 1 }) =
    ap (λ (r : Result Starts Kind). option_or (option_or (start_refusal [] parent_name r) None) (entry_refusal [])) (unsearched names (position (bytes_eq parent_name) names.preds)) in
    (map not (changing names []), quiet_set names, refused)

pub empty_refused : (names : Named) → IsLowered names [] (Err (record { kind = NoEntry; line = 1 }))
empty_refused names = comes_empty (with_entry names)

-- ---- what a call answers

pub no_items : {A : Type 0} (xs : List A) → (length xs == 0) ≡ true → xs ≡ []
no_items [] e = refl
no_items (x ∷ xs) e = let none : length (x ∷ xs) ≡ 0 = grind (arith, common_steps, e) in absurd (omega (arith, none))

pub if_ok : {A E : Type 0} {P Q : A → Type 0} (r : Result A E) → ((a : A) → P a → Q a) → IfOk r P → IfOk r Q
if_ok (Ok a) f h = f a h
if_ok (Err e) f h = h
