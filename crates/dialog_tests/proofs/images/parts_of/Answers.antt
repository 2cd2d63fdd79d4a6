use Rattle.std.proofs.Common.{◌≡◌, ◌+◌, ◌<◌, ◌≤◌, ℕ, zero, suc, true, List, [], ◌∷◌, ◌++◌, length, get_or, IsTrue, refl, sym, ap, ◌∙◌, subst, arith}
use lib.Utf8.{encode}
use Rattle.z_model.specs.Zscii.{code_utf8}
use Rattle.z_code.specs.Open.{Counts}
use Rattle.z_text.specs.Encode.{has_code, IsPrintable}
use Rattle.z_lang.specs.declared.act.Act.{Act}
use Rattle.z_lang.specs.declared.act.Routine.{Routine}
use Rattle.z_lang.specs.Code.{ops_of_acts}
use Rattle.z_lang.specs.Bodies.{AreFit}
use Rattle.z_lang.specs.Sizes.{body_bytes}
use Rattle.z_asm.specs.declared.image.Table.{Table}
use Rattle.z_story.specs.declared.building.Parts.{Parts}
use Rattle.z_story.specs.Parts.{IsRoutine, AreParts}
use Rattle.dialog_tests.proofs.images.parts_of.Goals as goal

hello_coded : (k d : ℕ) → k < 5 → IsTrue (has_code (get_or (72 ∷ 101 ∷ 108 ∷ 108 ∷ 111 ∷ []) k d))
hello_coded zero d lt = refl
hello_coded (suc zero) d lt = refl
hello_coded (suc (suc zero)) d lt = refl
hello_coded (suc (suc (suc zero))) d lt = refl
hello_coded (suc (suc (suc (suc zero)))) d lt = refl
hello_coded (suc (suc (suc (suc (suc k))))) d lt = absurd (omega arith)

hello_printable : IsPrintable (72 ∷ 101 ∷ 108 ∷ 108 ∷ 111 ∷ [])
unfolding code_utf8 encode
hello_printable = record { codes = 72 ∷ 101 ∷ 108 ∷ 108 ∷ 111 ∷ []; is = record { coded = hello_coded; printed = refl } }

abbrev counts : Counts
counts = record { routines = 2; tables = 1; texts = 1 }

are_parts : (p : Parts) (t : Table) (a b : Routine) → p.tables ≡ t ∷ [] → p.strings ≡ (72 ∷ 101 ∷ 108 ∷ 108 ∷ 111 ∷ []) ∷ [] → p.routines ≡ a ∷ b ∷ [] → IsRoutine counts a → IsRoutine counts b → AreParts p
are_parts p t a b et es er fa fb =
    let base : AreParts (record { tables = t ∷ []; strings = (72 ∷ 101 ∷ 108 ∷ 108 ∷ 111 ∷ []) ∷ []; routines = a ∷ b ∷ [] }) =
    record { some = omega arith; routines = (fa, (fb, tt)); texts = (hello_printable, tt) } in
    subst (λ (ts : List Table). AreParts (record { tables = ts; strings = p.strings; routines = p.routines })) (sym et)
    (subst (λ (ss : List (List ℕ)). AreParts (record { tables = t ∷ []; strings = ss; routines = p.routines })) (sym es)
    (subst (λ (rs : List Routine). AreParts (record { tables = t ∷ []; strings = (72 ∷ 101 ∷ 108 ∷ 108 ∷ 111 ∷ []) ∷ []; routines = rs })) (sym er) base))

is_routine : (r : Routine) (locals : ℕ) (body : List Act) → r ≡ record { locals = locals; body = body } → locals ≤ 15 → AreFit counts (ops_of_acts body) body → body_bytes body < 8000 → IsRoutine counts r
is_routine r locals body e few fit short = subst (λ (x : Routine). IsRoutine counts x) (sym e) (record { few = few; short = λ l has. short; fit = fit })

pub returns : goal.returns
returns c =
    let table : Table = record { bytes = c.from_vec.result; writable = true } in
    let a : Routine = c.in_ok-routine_of.field-0 in
    let b : Routine = c.in_ok-routine_of-2.field-0 in
    let text : c.from_vec-2.result ≡ 72 ∷ 101 ∷ 108 ∷ 108 ∷ 111 ∷ [] = c.from_vec-2.ensures ∙ c.in_ok-text.ensures.items in
    let et : c.push.new.self ≡ table ∷ [] = c.in_ok-push.ensures.ok ∙ ap (λ (xs : List Table). xs ++ (table ∷ [])) c.new-tables.ensures in
    let es : c.push-2.new.self ≡ (72 ∷ 101 ∷ 108 ∷ 108 ∷ 111 ∷ []) ∷ [] =
    c.in_ok-push-2.ensures.ok ∙ (ap (λ (xs : List (List ℕ)). xs ++ (c.from_vec-2.result ∷ [])) c.new-strings.ensures ∙ ap (λ (x : List ℕ). x ∷ []) text) in
    let er : c.push-4.new.self ≡ a ∷ b ∷ [] =
    c.in_ok-push-4.ensures.ok ∙ (ap (λ (xs : List Routine). xs ++ (b ∷ [])) c.in_ok-push-3.ensures.ok
    ∙ ap (λ (xs : List Routine). (xs ++ (a ∷ [])) ++ (b ∷ [])) c.new-routines.ensures) in
    are_parts (record { tables = c.push.new.self; strings = c.push-2.new.self; routines = c.push-4.new.self }) table a b et es er
    (is_routine a 0 c.args.main.now c.in_ok-routine_of.ensures (omega arith) c.requires.main c.requires.main_short)
    (is_routine b 2 c.args.other.now c.in_ok-routine_of-2.ensures (omega arith) c.requires.other c.requires.other_short)
