-- What is known behind one step.
use Rattle.std.proofs.Common.{◌≡◌, ◌<◌, ◌∙◌, ℕ, List, [], ◌∷◌, ◌++◌, Bool, true, false, not, map, length, length-append, codes, refl, sym, ap, arith}
use Rattle.std.specs.Prelude.{if◌then◌else◌}
use Rattle.std.specs.Str.{bytes_eq}
use Rattle.dg_scopes.specs.Scopes as scopes
use Rattle.dg_scopes.specs.Scopes.{with_places}
use Rattle.dg_scopes.specs.State.{scope_view}
use Rattle.dg_scopes.specs.declared.variables.Entry.{Entry}
use Rattle.dg_scopes.specs.Closures.{Layout}
use Rattle.dg_scopes.specs.inside.Scanning as spec
use Rattle.dg_scopes.specs.inside.Scanning.{Scan, with_name}
use Rattle.dg_scopes.specs.inside.View.{open_view, stack_of}
use Rattle.dg_scopes.specs.declared.layouts.Open.{Open}

pub stack_push : (os : List Open) (o : Open) → stack_of (os ++ o ∷ []) ≡ open_view o ∷ stack_of os
stack_push [] o = refl
stack_push (p ∷ os) o = ap (λ (l : List spec.Open). l ++ open_view p ∷ []) (stack_push os o)

stack_length : (os : List Open) → length (stack_of os) ≡ length os
stack_length [] = refl
stack_length (o ∷ os) = omega (arith, length-append (stack_of os) (open_view o ∷ []), stack_length os)

unnamed : (outer : List spec.Open) (n : List ℕ) (es : List scopes.Entry) → 0 < length outer → bytes_eq n (codes "_") ≡ true → es ≡ with_name outer n es
unnamed [] n es some e = absurd (omega (arith, some))
unnamed (o ∷ outer) n es some e = ap (λ (b : Bool). if b then es else with_places es n 1) (sym e)

pub same_if : (a b : Bool) → a ≡ false → a ≡ not b → b ≡ true
same_if a true e f = refl
same_if a false e f = absurd (let no : false ≡ true = sym e ∙ f in cc)

-- a parameter of a closure isn't counted
pub parameter_noted : (outer : List Open) (n : List ℕ) (es : List scopes.Entry) → 0 < length outer → bytes_eq n (codes "_") ≡ true → es ≡ with_name (stack_of outer) n es
parameter_noted outer n es some e = unnamed (stack_of outer) n es (omega (arith, some, stack_length outer)) e

abbrev scan_of : spec.Open → List spec.Open → List Layout → Scan
scan_of i o l = record { inner = i; outer = o; layouts = l }

pub scan_same : (i i' : spec.Open) (o o' : List spec.Open) (l l' : List Layout) → i ≡ i' → o ≡ o' → l ≡ l' → scan_of i o l ≡ scan_of i' o' l'
scan_same i i' o o' l l' a b c = ap (λ (x : spec.Open). scan_of x o l) a ∙ ap (λ (x : List spec.Open). scan_of i' x l) b ∙ ap (scan_of i' o') c

-- the names of a scope
pub names_seen : (es : List Entry) → map (λ (e : Entry). e.name.now) es ≡ map (λ (e : scopes.Entry). e.name) (scope_view es)
names_seen [] = refl
names_seen (e ∷ es) = ap (λ (l : List (List ℕ)). e.name.now ∷ l) (names_seen es)
