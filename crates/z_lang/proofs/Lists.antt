-- Routines of a list that stand in a story are found at their addresses.
use Rattle.std.proofs.Common.{◌≡◌, ℕ, suc, ◌+◌, ◌*◌, ◌≤◌, Bool, true, false, List, [], ◌∷◌, Some, refl, sym, ap, ◌∙◌, subst, arith}
use Rattle.std.specs.Prelude.{slice_get, ◌==◌, if◌then◌else◌}
use Rattle.std.proofs.lemmas.Bool.{eqb-true}
use Rattle.z_model.specs.Run.{ZGiven}
use Rattle.z_code.specs.Targets.{Names, label_from, OpsAt}
use Rattle.z_lang.specs.declared.act.Routine.{Routine}
use Rattle.z_lang.specs.Code.{ops_of_acts}
use Rattle.z_lang.specs.Standing.{StandsAt, look, program_of, StandsAs, ListStands}

record FoundAt (names : Names) (k x : ℕ) (rs : List Routine) (r : Routine) : Type 0 where
  at : ℕ
  there : slice_get rs at ≡ Some r
  is : names.routine (k + at) ≡ x

found_at : (names : Names) (k x : ℕ) (rs : List Routine) (r : Routine) → look names k x rs ≡ Some r → FoundAt names k x rs r
found_at names k x [] r e = absurd (cc)
found_at names k x (y ∷ rs) r e = by_test (names.routine k == x) refl e (λ i. found_at names (suc k) x rs r i)
  where
    by_test : (t : Bool) → (names.routine k == x) ≡ t → (if t then Some y else look names (suc k) x rs) ≡ Some r → (look names (suc k) x rs ≡ Some r → FoundAt names (suc k) x rs r) → FoundAt names k x (y ∷ rs) r
    by_test true q h more = record { at = 0; there = h; is = let z : k + 0 ≡ k = omega arith in ap names.routine z ∙ eqb-true (names.routine k) x q }
    by_test false q h more = let m = more h in record { at = suc m.at; there = m.there; is = let z : k + suc m.at ≡ suc k + m.at = omega arith in ap names.routine z ∙ m.is }

pub list_stands : (given : ZGiven) (names : Names) (rs : List Routine) (story : List ℕ) → ListStands given names rs story
list_stands given names rs story = record { stands = λ laid each. record { laid_out = laid; each = λ x r e. one each x r (found_at names 0 x rs r e) } }
  where
    one : ((k : ℕ) (r : Routine) → slice_get rs k ≡ Some r → StandsAs given names story k r) → (x : ℕ) (r : Routine) → FoundAt names 0 x rs r → StandsAt (program_of given names rs) story x r
    one each x r f =
        let s = each f.at r f.there in
        let z : 0 + f.at ≡ f.at = omega arith in
        let same : names.routine f.at ≡ x = ap names.routine (sym z) ∙ f.is in
        let some = s.some in
        let behind = s.behind in
        record {
          labels = label_from (8 * x + 1) (ops_of_acts r.body);
          some = λ (e : x ≡ 0). (omega arith);
          within = subst (λ (y : ℕ). given.layout.base ≤ 8 * y) same behind;
          few = s.few;
          count = subst (λ (y : ℕ). slice_get story (8 * y) ≡ Some r.locals) same s.count;
          code_is = subst (λ (y : ℕ). OpsAt story names (label_from (8 * y + 1) (ops_of_acts r.body)) (8 * y + 1) (ops_of_acts r.body)) same s.code_is;
        }
