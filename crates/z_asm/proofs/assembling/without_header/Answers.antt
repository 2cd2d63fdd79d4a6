use Rattle.std.proofs.Common.{◌≡◌, ℕ, List, ◌++◌, length, map, sym, ap, ◌∙◌, subst, arith}
use Rattle.z_asm.specs.declared.image.Code.{Code}
use Rattle.z_asm.specs.Layout.{code_size, end_from, laid, names_at}
use Rattle.z_asm.specs.Story.{strings_of, string_sizes, string_part, code_part, routines_from, image_end}
use Rattle.z_asm.specs.Conditions.{counts_of_image}
use Rattle.z_asm.specs.inside.Filled.{AreWritable}
use Rattle.z_asm.proofs.Layouts.{end_most}
use Rattle.z_asm.proofs.Parts.{plan_words, codes_writable, front_long, strings_long, routines_long, whole_is}
use Rattle.z_asm.proofs.assembling.without_header.Goals as goal

-- the strings as those of the image
as_image : (out strings named : List (List ℕ)) → strings ≡ named → (a b : List ℕ) → b ≡ a ++ laid (length a) (map string_part strings) (map length strings) → b ≡ a ++ laid (length a) (map string_part named) (map length named)
as_image out strings named e a b h = h ∙ ap (λ (s : List (List ℕ)). a ++ laid (length a) (map string_part s) (map length s)) e

pub put_strings-requires : goal.put_strings-requires
put_strings-requires c =
    let image = c.args.image.now in
    let a = ap length c.in_ok-out.ensures ∙ front_long image in
    let e : end_from (length c.in_ok-out.out.items) (map length c.args.strings.now) ≡ routines_from image = ap (λ (s : List (List ℕ)). end_from (length c.in_ok-out.out.items) (map length s)) c.requires.strings ∙ ap (λ (k : ℕ). end_from k (string_sizes image)) a in
    let b = end_most (routines_from image) (map code_size image.routines) in
    let near = c.requires.plan.near in
    omega arith

pub put_codes-requires-clause-within : goal.put_codes-requires-clause-within
put_codes-requires-clause-within c =
    let image = c.args.image.now in
    let n = c.put_strings.new.out.items in
    let a = strings_long image c.in_ok-out.out.items n c.in_ok-out.ensures (as_image c.args.strings.now c.args.strings.now (strings_of image) c.requires.strings c.in_ok-out.out.items n c.in_ok-put_strings.ensures) in
    let e : end_from (length n) (map code_size c.as_slice.result.now) ≡ image_end image = ap (λ (l : List Code). end_from (length n) (map code_size l)) c.as_slice.ensures ∙ ap (λ (k : ℕ). end_from k (map code_size image.routines)) a in
    let near = c.requires.plan.near in
    omega arith

pub put_codes-requires-clause-writable : goal.put_codes-requires-clause-writable
put_codes-requires-clause-writable c =
    let image = c.args.image.now in
    let names = names_at c.args.plan.now.addresses in
    subst (λ (l : List Code). AreWritable names l) (sym c.as_slice.ensures) (codes_writable names (counts_of_image image) image.routines (plan_words image c.args.plan.now c.requires.plan) c.requires.image.routines)

-- the routines as those of the image
as_routines : (part : Code → ℕ → List ℕ) (codes named : List Code) → codes ≡ named → (a b : List ℕ) → b ≡ a ++ laid (length a) (map part codes) (map code_size codes) → b ≡ a ++ laid (length a) (map part named) (map code_size named)
as_routines part codes named e a b h = h ∙ ap (λ (l : List Code). a ++ laid (length a) (map part l) (map code_size l)) e

pub pad-requires : goal.pad-requires
pad-requires c =
    let image = c.args.image.now in
    let names = names_at c.args.plan.now.addresses in
    let n = c.put_strings.new.out.items in
    let a = strings_long image c.in_ok-out.out.items n c.in_ok-out.ensures (as_image c.args.strings.now c.args.strings.now (strings_of image) c.requires.strings c.in_ok-out.out.items n c.in_ok-put_strings.ensures) in
    let w = codes_writable names (counts_of_image image) image.routines (plan_words image c.args.plan.now c.requires.plan) c.requires.image.routines in
    let e = routines_long image names n c.put_codes.new.out.items a w (as_routines (code_part names) c.as_slice.result.now image.routines c.as_slice.ensures n c.put_codes.new.out.items c.in_ok-put_codes.ensures) in
    let near = c.requires.plan.near in
    omega arith

pub returns : goal.returns
returns c =
    let image = c.args.image.now in
    let names = names_at c.args.plan.now.addresses in
    let n = c.put_strings.new.out.items in
    whole_is image c.args.plan.now c.in_ok-out.out.items n c.put_codes.new.out.items c.pad.new.out.items c.requires.image c.requires.plan c.in_ok-out.ensures
    (as_image c.args.strings.now c.args.strings.now (strings_of image) c.requires.strings c.in_ok-out.out.items n c.in_ok-put_strings.ensures)
    (as_routines (code_part names) c.as_slice.result.now image.routines c.as_slice.ensures n c.put_codes.new.out.items c.in_ok-put_codes.ensures) c.in_ok-pad.ensures
