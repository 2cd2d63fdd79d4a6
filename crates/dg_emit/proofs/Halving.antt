-- Bodies of closures that are halved until each stands alone.
use Rattle.std.specs.Borrow.{Bor}
use Rattle.std.proofs.Common.{◌≡◌, ℕ, zero, suc, ◌+◌, ◌*◌, ◌/◌, ◌<◌, ◌≤◌, List, [], ◌∷◌, ◌++◌, length, take, drop, get_or, refl, sym, ap, ◌∙◌, subst, arith, length-drop, append_assoc, append-nil}
use Rattle.std.proofs.lemmas.List.{length-take-le}
use Rattle.dg_mid.specs.declared.code.BodyCode.{BodyCode}
use Rattle.z_lang.specs.declared.act.Routine.{Routine}
use Rattle.dg_turn.specs.Bodies.{fork_routine}
use Rattle.dg_emit.specs.declared.numbers.Numbers.{Numbers}
use Rattle.dg_emit.specs.declared.bodies.Part.{Part}
use Rattle.dg_emit.specs.Numbers.{bodies_size}
use Rattle.dg_emit.specs.Bodies.{entering_routine, bodies_routines}
use Rattle.dg_emit.specs.inside.Parts.{PartFits, PartsFit, part_routines, parts_routines, weight, parts_weight, Shrinks}

-- ## Halves

-- More halvings than there are bodies change nothing.
pub same_halvings : (ns : Numbers) (f g number place : ℕ) (cs : List BodyCode) → length cs ≤ f → length cs ≤ g → bodies_routines ns f number place cs ≡ bodies_routines ns g number place cs
same_halvings ns f g number place [] a b = refl
same_halvings ns f g number place (c ∷ []) a b = refl
same_halvings ns zero g number place (c ∷ d ∷ cs) a b = absurd (omega arith)
same_halvings ns (suc f) zero number place (c ∷ d ∷ cs) a b = absurd (omega arith)
same_halvings ns (suc f) (suc g) number place (c ∷ d ∷ cs) a b =
    let all : List BodyCode = c ∷ d ∷ cs in
    let half : ℕ = length all / 2 in
    let l = length-take-le half all (omega arith) in
    let m = length-drop half all in
    let first = same_halvings ns f g (number + 1) place (take half all) (omega (arith, l)) (omega (arith, l)) in
    let others = same_halvings ns f g (number + 2 * half) (place + half) (drop half all) (omega (arith, m)) (omega (arith, m)) in
    ap (λ (rs : List Routine). fork_routine (place + half) (number + 1) (number + 2 * half) ∷ (rs ++ bodies_routines ns f (number + 2 * half) (place + half) (drop half all))) first
    ∙ ap (λ (rs : List Routine). fork_routine (place + half) (number + 1) (number + 2 * half) ∷ (bodies_routines ns g (number + 1) place (take half all) ++ rs)) others

-- Of several bodies a fork stands in front of those of both halves.
pub halved : (ns : Numbers) (number place half : ℕ) (cs : List BodyCode) → 2 ≤ length cs → half ≡ length cs / 2 → bodies_routines ns (length cs) number place cs ≡ fork_routine (place + half) (number + 1) (number + 2 * half) ∷ (bodies_routines ns (length (take half cs)) (number + 1) place (take half cs) ++ bodies_routines ns (length (drop half cs)) (number + 2 * half) (place + half) (drop half cs))
halved ns number place half [] some is = absurd (omega arith)
halved ns number place half (c ∷ []) some is = absurd (omega arith)
halved ns number place half (c ∷ d ∷ cs) some is =
    let all : List BodyCode = c ∷ d ∷ cs in
    let h : ℕ = length all / 2 in
    let n : ℕ = length (d ∷ cs) in
    let l = length-take-le h all (omega arith) in
    let m = length-drop h all in
    let first = same_halvings ns n (length (take h all)) (number + 1) place (take h all) (omega (arith, l)) (omega arith) in
    let others = same_halvings ns n (length (drop h all)) (number + 2 * h) (place + h) (drop h all) (omega (arith, m)) (omega arith) in
    ap (λ (rs : List Routine). fork_routine (place + h) (number + 1) (number + 2 * h) ∷ (rs ++ bodies_routines ns n (number + 2 * h) (place + h) (drop h all))) first
    ∙ ap (λ (rs : List Routine). fork_routine (place + h) (number + 1) (number + 2 * h) ∷ (bodies_routines ns (length (take h all)) (number + 1) place (take h all) ++ rs)) others
    ∙ ap (λ (k : ℕ). fork_routine (place + k) (number + 1) (number + 2 * k) ∷ (bodies_routines ns (length (take k all)) (number + 1) place (take k all) ++ bodies_routines ns (length (drop k all)) (number + 2 * k) (place + k) (drop k all))) (sym is)

-- Bodies have twice as many routines as there are, but for one.
pub size_is : (cs : List BodyCode) → 1 ≤ length cs → bodies_size cs + 1 ≡ 2 * length cs
size_is [] some = absurd (omega arith)
size_is (c ∷ cs) some = omega arith

-- ## What is left

pub pushed_routines : (ns : Numbers) (left : List Part) (a : Part) → parts_routines ns (left ++ a ∷ []) ≡ part_routines ns a ++ parts_routines ns left
pushed_routines ns [] a = sym (append-nil (part_routines ns a))
pushed_routines ns (x ∷ left) a =
    ap (λ (rs : List Routine). rs ++ part_routines ns x) (pushed_routines ns left a)
    ∙ append_assoc (part_routines ns a) (parts_routines ns left) (part_routines ns x)

pub pushed_weight : (left : List Part) (a : Part) → parts_weight (left ++ a ∷ []) ≡ weight a + parts_weight left
pushed_weight [] a = refl
pushed_weight (x ∷ left) a = let h = pushed_weight left a in omega (arith, h)

pushed_fit : (left : List Part) (a : Part) → PartsFit left → PartFits a → PartsFit (left ++ a ∷ [])
pushed_fit [] a h i = (i, tt)
pushed_fit (x ∷ left) a h i = (h.0, pushed_fit left a h.1 i)

-- Some parts, and the one that comes next.
pub record Next (left rest : List Part) (part : Part) : Type 0 where
  pub fits : PartFits part
  pub others : PartsFit rest

next_of : (rest : List Part) (part : Part) → PartsFit (rest ++ part ∷ []) → Next (rest ++ part ∷ []) rest part
next_of [] part h = record { fits = h.0; others = tt }
next_of (x ∷ rest) part h = let n = next_of rest part h.1 in record { fits = n.fits; others = (h.0, n.others) }

pub next_part : (left rest : List Part) (part : Part) → left ≡ rest ++ part ∷ [] → PartsFit left → Next left rest part
next_part left rest part is h = let n = next_of rest part (subst PartsFit is h) in record { fits = n.fits; others = n.others }

-- ## Steps

-- There is nothing to write.
pub shrinks_none : (ns : Numbers) (part : Part) (all : List Routine) (left : List Part) → part.bodies.now ≡ [] → Shrinks ns part all all left left
shrinks_none ns part all left is = record {
  same = ap (λ (cs : List BodyCode). all ++ (bodies_routines ns (length cs) part.number part.place cs ++ parts_routines ns left)) (sym is);
  fit = λ h. h;
  less = omega arith;
}

pub single : (cs : List BodyCode) (d : BodyCode) → 1 ≤ length cs → length cs < 2 → cs ≡ get_or cs 0 d ∷ []
single [] d some few = absurd (omega arith)
single (c ∷ []) d some few = refl
single (c ∷ e ∷ cs) d some few = absurd (omega arith)

-- A body stands alone.
pub shrinks_one : (ns : Numbers) (part : Part) (body : BodyCode) (r : Routine) (all all' : List Routine) (left : List Part) → part.bodies.now ≡ body ∷ [] → r ≡ entering_routine ns part.place body → all' ≡ all ++ r ∷ [] → Shrinks ns part all all' left left
shrinks_one ns part body r all all' left is r_is made = record {
  same =
      ap (λ (rs : List Routine). rs ++ parts_routines ns left) made
      ∙ append_assoc all (r ∷ []) (parts_routines ns left)
      ∙ ap (λ (x : Routine). all ++ x ∷ parts_routines ns left) r_is
      ∙ ap (λ (cs : List BodyCode). all ++ (bodies_routines ns (length cs) part.number part.place cs ++ parts_routines ns left)) (sym is);
  fit = λ h. h;
  less = omega arith;
}

-- The second half of a part, and the first.
abbrev second_half : Part → ℕ → Bor (List BodyCode) → Part
second_half part half others = record { number = part.number + 2 * half; place = part.place + half; bodies = others }

abbrev first_half : Part → Bor (List BodyCode) → Part
first_half part first = record { number = part.number + 1; place = part.place; bodies = first }

-- Bodies are halved behind a fork.
pub shrinks_more : (ns : Numbers) (part : Part) (half : ℕ) (first others : Bor (List BodyCode)) (r : Routine) (all all' : List Routine) (left left1 left2 : List Part) → 2 ≤ length part.bodies.now → half ≡ length part.bodies.now / 2 → first.now ≡ take half part.bodies.now → others.now ≡ drop half part.bodies.now → PartFits part → r ≡ fork_routine (part.place + half) (part.number + 1) (part.number + 2 * half) → all' ≡ all ++ r ∷ [] → left1 ≡ left ++ second_half part half others ∷ [] → left2 ≡ left1 ++ first_half part first ∷ [] → Shrinks ns part all all' left left2
shrinks_more ns part half first others r all all' left left1 left2 some half_is first_is others_is fits r_is made one two =
    let cs = part.bodies.now in
    let a = first_half part first in
    let b = second_half part half others in
    let l = ap length first_is ∙ length-take-le half cs (omega arith) in
    let m = ap length others_is ∙ length-drop half cs in
    let sizes = size_is cs (omega arith) in
    let size_a = size_is first.now (omega (arith, l)) in
    let size_b = size_is others.now (omega (arith, m)) in
    let room = fits.room in
    let places = fits.places in
    let w = ap parts_weight two ∙ pushed_weight left1 a in
    let w1 = ap parts_weight one ∙ pushed_weight left b in
    let routines : parts_routines ns left2 ≡ part_routines ns a ++ (part_routines ns b ++ parts_routines ns left) =
    ap (parts_routines ns) two ∙ pushed_routines ns left1 a
    ∙ ap (λ (rs : List Routine). part_routines ns a ++ rs) (ap (parts_routines ns) one ∙ pushed_routines ns left b) in
    let whole : part_routines ns part ≡ r ∷ (part_routines ns a ++ part_routines ns b) =
    halved ns part.number part.place half cs some half_is
    ∙ ap (λ (l : List BodyCode). fork_routine (part.place + half) (part.number + 1) (part.number + 2 * half) ∷ (bodies_routines ns (length l) (part.number + 1) part.place l ++ bodies_routines ns (length (drop half cs)) (part.number + 2 * half) (part.place + half) (drop half cs))) (sym first_is)
    ∙ ap (λ (l : List BodyCode). fork_routine (part.place + half) (part.number + 1) (part.number + 2 * half) ∷ (part_routines ns a ++ bodies_routines ns (length l) (part.number + 2 * half) (part.place + half) l)) (sym others_is)
    ∙ ap (λ (x : Routine). x ∷ (part_routines ns a ++ part_routines ns b)) (sym r_is) in
    record {
      same =
          ap (λ (rs : List Routine). rs ++ parts_routines ns left2) made
          ∙ append_assoc all (r ∷ []) (parts_routines ns left2)
          ∙ ap (λ (rs : List Routine). all ++ r ∷ rs) (routines ∙ sym (append_assoc (part_routines ns a) (part_routines ns b) (parts_routines ns left)))
          ∙ ap (λ (rs : List Routine). all ++ (rs ++ parts_routines ns left)) (sym whole);
      fit = λ h.
          let fits_b : PartFits b = record { room = omega arith; places = omega arith } in
          let fits_a : PartFits a = record { room = omega arith; places = omega arith } in
          subst PartsFit (sym two) (pushed_fit left1 a (subst PartsFit (sym one) (pushed_fit left b h fits_b)) fits_a);
      less = omega arith;
    }
