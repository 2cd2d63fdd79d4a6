-- The routines that find the name of an object do so, and print it.
use Rattle.std.proofs.Common.{◌≡◌, ◌≢◌, ℕ, zero, suc, ◌+◌, ◌*◌, ◌-◌, ◌<◌, ◌≤◌, inl, inr, Bool, true, false, List, [], ◌∷◌, ◌++◌, length, map, take, drop, Some, refl, sym, ap, ◌∙◌, subst, arith, append_assoc, length-drop}
use Rattle.std.specs.Prelude.{if◌then◌else◌, All, get_or, encode_utf8_all}
use Rattle.std.specs.List.{slice_get}
use Rattle.std.specs.Str.{chars, all_scalars}
use Rattle.std.proofs.lemmas.Bool.{ne_eqb, cases_lt, eq-eqb}
use Rattle.std.proofs.lemmas.List.{append-nil}
use Rattle.std.proofs.lemmas.List.Elements.{All-head, All-tail}
use Rattle.std.proofs.lemmas.Str.{chars-encodes}
use Rattle.dg_base.specs.Sound.{IsName, IsPrintable}
use Rattle.z_lang.specs.declared.act.Act.{Act}
use Rattle.z_lang.specs.declared.act.Act.TheVariants as acts
use Rattle.z_lang.specs.declared.act.Atom.TheVariants as atoms
use Rattle.z_lang.specs.declared.act.Comparison.TheVariants as comparisons
use Rattle.z_lang.specs.declared.act.Routine.{Routine}
use Rattle.z_lang.specs.State.{Program, value}
use Rattle.z_lang.specs.Acts.{answer_of}
use Rattle.z_lang.specs.Runs.{ActsRun as Runs, Returns, taken, passed, calls, returns, behind_label}
use Rattle.dg_rt.specs.Areas.{state}
use Rattle.dg_rt.specs.Cells.{compared}
use Rattle.dg_rt.specs.RunTime.{routine_of}
use Rattle.dg_rt.proofs.Following.{word, tested, local_1, local_2, local_3, put_3}
use Rattle.dg_rt.proofs.Locals.{less_by, not_less_by}
use Rattle.dg_turn.specs.Texts.{say}
use Rattle.dg_turn.specs.Names.{name_end, name_acts, calling_acts, is_long, behind_name, name_leaves, long_routines, chain_acts, chain_routine, chain_routines, chains_of, calling_leaves, object_routine, objects_routines}
use Rattle.dg_turn.proofs.TextPrinted.{prints_all}

-- ## Names as characters

scalars_in : (cs : List ℕ) → All IsPrintable cs → all_scalars cs ≡ true
scalars_in [] h = refl
scalars_in (c ∷ cs) h = rw ((All-head IsPrintable c cs h).scalar, scalars_in cs (All-tail IsPrintable c cs h)) refl

pub name_chars : (bytes : List ℕ) (h : IsName bytes) → chars bytes ≡ h.characters
name_chars bytes h = ap chars h.encoded ∙ chars-encodes h.characters (scalars_in h.characters h.printable)

pub printable_name : (bytes : List ℕ) → IsName bytes → All IsPrintable (chars bytes)
printable_name bytes h = subst (All IsPrintable) (sym (name_chars bytes h)) h.printable

-- ## Routines in a row

-- Routines stand from a number on.
abbrev pub StandFrom : Program → ℕ → List Routine → Type 0
StandFrom p number rs = (k : ℕ) (r : Routine) → slice_get rs k ≡ Some r → p.routine_at (p.names.routine (number + k)) ≡ Some r

stand_tail : (p : Program) (number : ℕ) (r : Routine) (rs : List Routine) → StandFrom p number (r ∷ rs) → StandFrom p (suc number) rs
stand_tail p number r rs h k s e = let same : number + suc k ≡ suc number + k = omega arith in subst (λ (i : ℕ). p.routine_at (p.names.routine i) ≡ Some s) same (h (suc k) s e)

stand_first : (p : Program) (number : ℕ) (r : Routine) (rs : List Routine) → StandFrom p number (r ∷ rs) → p.routine_at (p.names.routine number) ≡ Some r
stand_first p number r rs h = let same : number + 0 ≡ number = omega arith in subst (λ (i : ℕ). p.routine_at (p.names.routine i) ≡ Some r) same (h 0 r refl)

stand_front : (p : Program) (number : ℕ) (rs ss : List Routine) → StandFrom p number (rs ++ ss) → StandFrom p number rs
stand_front p number [] ss h k s e = absurd (cc)
stand_front p number (r ∷ rs) ss h zero s e = h zero s e
stand_front p number (r ∷ rs) ss h (suc k) s e =
    let same : suc number + k ≡ number + suc k = omega arith in
    subst (λ (i : ℕ). p.routine_at (p.names.routine i) ≡ Some s) same (stand_front p (suc number) rs ss (stand_tail p number r (rs ++ ss) h) k s e)

stand_back : (p : Program) (number behind : ℕ) (rs ss : List Routine) → behind ≡ number + length rs → StandFrom p number (rs ++ ss) → StandFrom p behind ss
stand_back p number behind [] ss e h = let same : number ≡ behind = omega arith in subst (λ (i : ℕ). StandFrom p i ss) same h
stand_back p number behind (r ∷ rs) ss e h = stand_back p (suc number) behind rs ss (omega arith) (stand_tail p number r (rs ++ ss) h)

-- ## Names that are printed

-- These characters are printed, and how the text ends is answered, where these are in locals 1 and 2.
pub record Named (p : Program) (f w : ℕ) (body here : List Act) (at : ℕ × ℕ) (cs : List ℕ) (most : ℕ) : Type 0 where
  pub count : ℕ
  pub few : count ≤ most + length cs
  pub locals' : ℕ → List ℕ
  pub runs : (memory typed out : List ℕ) (drawn b : ℕ) → Runs p f w body here (state memory (at.0 ∷ at.1 ∷ b ∷ []) typed drawn out) (Returns (name_end cs)) (state memory (locals' b) typed drawn (out ++ encode_utf8_all cs)) count

weaker : {p : Program} {f w : ℕ} {body here : List Act} {at : ℕ × ℕ} {cs : List ℕ} {most : ℕ} (most' : ℕ) → most ≤ most' → Named p f w body here at cs most → Named p f w body here at cs most'
weaker most' le r = let few = r.few in record { count = r.count; few = omega arith; locals' = r.locals'; runs = r.runs }

same_named : {p : Program} {f w : ℕ} {body here : List Act} {at : ℕ × ℕ} {cs : List ℕ} {most : ℕ} (ds : List ℕ) → ds ≡ cs → Named p f w body here at cs most → Named p f w body here at ds most
same_named {p} {f} {w} {body} {here} {at} {cs} {most} ds e r = subst (λ (l : List ℕ). Named p f w body here at l most) (sym e) r

says_plain : (l : ℕ) (cs : List ℕ) (more : List Act) → behind_label l (map say cs ++ more) ≡ behind_label l more
unfolding behind_label
says_plain l [] more = refl
says_plain l (c ∷ cs) more = says_plain l cs more

name_plain : (l : ℕ) (cs : List ℕ) (more : List Act) → behind_label l (name_acts cs ++ more) ≡ behind_label l more
unfolding behind_label
name_plain l cs more = ap (behind_label l) (append_assoc (map say cs) (acts.Return (atoms.Num (name_end cs)) ∷ []) more) ∙ says_plain l cs (acts.Return (atoms.Num (name_end cs)) ∷ more)

own_label : (l : ℕ) (tail : List Act) → behind_label l (acts.Label l ∷ tail) ≡ Some tail
unfolding behind_label
own_label l tail = rw (eq-eqb l l refl) refl

other_label : (k l : ℕ) (tail : List Act) → k ≢ l → behind_label l (acts.Label k ∷ tail) ≡ behind_label l tail
unfolding behind_label
other_label k l tail ne = rw (ne_eqb k l ne) refl

short_take : (k : ℕ) (leaves : List (List Act)) → length (take k leaves) ≤ k
short_take zero leaves = omega arith
short_take (suc k) [] = omega arith
short_take (suc k) (leaf ∷ leaves) = let le = short_take k leaves in omega arith

one_chain : (leaf : List Act) (leaves : List (List Act)) → chains_of (length (leaf ∷ leaves)) ≡ suc (chains_of (length (drop 32 (leaf ∷ leaves))))
one_chain leaf leaves = let e = length-drop 32 (leaf ∷ leaves) in omega arith

module _ (p : Program) where
  name_named : (f w : ℕ) (body more : List Act) (at : ℕ × ℕ) (cs : List ℕ) → All IsPrintable cs → Named p f w body (name_acts cs ++ more) at cs 1
  name_named f w body more at cs fine = record {
    count = length cs + 1;
    few = omega arith;
    locals' = λ b. at.0 ∷ at.1 ∷ b ∷ [];
    runs = λ memory typed out drawn b. (
        let group : (map say cs ++ (acts.Return (atoms.Num (name_end cs)) ∷ [])) ++ more ≡ map say cs ++ (acts.Return (atoms.Num (name_end cs)) ∷ more) = append_assoc (map say cs) (acts.Return (atoms.Num (name_end cs)) ∷ []) more in
        let l = at.0 ∷ at.1 ∷ b ∷ [] in
        subst (λ (here : List Act). Runs p f w body here (state memory l typed drawn out) (Returns (name_end cs)) (state memory l typed drawn (out ++ encode_utf8_all cs)) (length cs + 1)) (sym group)
        (prints_all p f w body (acts.Return (atoms.Num (name_end cs)) ∷ more) (Returns (name_end cs)) (state memory l typed drawn (out ++ encode_utf8_all cs)) 1 cs (state memory l typed drawn out) fine (returns refl)));
  }

  call_named : {f' w' : ℕ} (f w : ℕ) (body more : List Act) (number : ℕ) (at : ℕ × ℕ) (cs : List ℕ) (most : ℕ) (inside : List Act) → f' < f → 3 + w' ≤ w → p.routine_at (p.names.routine number) ≡ Some (routine_of 3 inside) → Named p f' w' inside inside at cs most → Named p f w body (calling_acts number ++ more) at cs (most + 2)
  call_named {f'} {w'} f w body more number at cs most inside lt le is r =
      let few = r.few in
      let e = name_end cs in
      record {
        count = suc r.count + 1;
        few = omega arith;
        locals' = λ b. at.0 ∷ at.1 ∷ e ∷ [];
        runs = λ memory typed out drawn b. (
            let out' = out ++ encode_utf8_all cs in
            calls {f' = f'} {w' = w'} {n = r.count} {n' = 1} {xs = (at.0, at.1, 0)} {s1 = state memory (r.locals' 0) typed drawn out'} {s2 = state memory (at.0 ∷ at.1 ∷ e ∷ []) typed drawn out'} refl
            (rw (local_1 p memory at.0 (at.1 ∷ b ∷ []) typed drawn out, local_2 p memory at.0 at.1 (b ∷ []) typed drawn out) refl) is lt le (r.runs memory typed out drawn 0)
            (put_3 p memory at.0 at.1 b e [] typed drawn out') (returns (local_3 p memory at.0 at.1 e [] typed drawn out')));
      }

  -- The number that is looked for is in a local, of two that are known by it.
  module _ (v : ℕ) (at : ℕ → ℕ × ℕ) (named : ℕ → List ℕ) where
    -- A leaf does so, in front of what there is, and has no labels.
    pub record LeafNames (f w from to most : ℕ) (leaf : List Act) : Type 0 where
      pub low : to ≤ 4096
      pub plain : (l : ℕ) (more : List Act) → behind_label l (leaf ++ more) ≡ behind_label l more
      pub names : (body more : List Act) (n : ℕ) → from ≤ n → n < to → Named p f w body (leaf ++ more) (at n) (named n) most

    abbrev pub AllName : (f w step from end most : ℕ) → List (List Act) → Type 0
    AllName f w step from end most [] = (n : ℕ) → from ≤ n → n < end → named n ≡ []
    AllName f w step from end most (leaf ∷ leaves) = LeafNames f w from (from + step) most leaf × AllName f w step (from + step) end most leaves

    calling_leaf : {f' w' : ℕ} (f w from to most number : ℕ) (inside : List Act) → to ≤ 4096 → f' < f → 3 + w' ≤ w → p.routine_at (p.names.routine number) ≡ Some (routine_of 3 inside) → ((n : ℕ) → from ≤ n → n < to → Named p f' w' inside inside (at n) (named n) most) → LeafNames f w from to (most + 2) (calling_acts number)
    unfolding behind_label
    calling_leaf {f'} {w'} f w from to most number inside low lt le is r = record {
      low = low;
      plain = λ l more. refl;
      names = λ body more n ge lt'. call_named {f' = f'} {w' = w'} f w body more number (at n) (named n) most inside lt le is (r n ge lt');
    }

    -- the first leaf that ends behind the number is found
    module _ (reads : (memory typed out : List ℕ) (drawn n b : ℕ) → value p (state memory ((at n).0 ∷ (at n).1 ∷ b ∷ []) typed drawn out) (atoms.Var v) ≡ word n) where
      is_below : (memory typed out : List ℕ) (drawn n b end : ℕ) (t : Bool) → compared comparisons.Less n end ≡ t → answer_of p (state memory ((at n).0 ∷ (at n).1 ∷ b ∷ []) typed drawn out) (record { comparison = comparisons.Less; first = atoms.Var v; second = atoms.Num end; answer = false }) ≡ Some t
      is_below memory typed out drawn n b end t e = tested p (state memory ((at n).0 ∷ (at n).1 ∷ b ∷ []) typed drawn out) comparisons.Less (atoms.Var v) (atoms.Num end) false n end t (reads memory typed out drawn n b) refl e

      chain_names : (f w step most end : ℕ) → 1 ≤ most → (leaves : List (List Act)) (from next label : ℕ) (body : List Act) (n : ℕ) → next ≡ from + step → AllName f w step from end most leaves → ((l : ℕ) → label ≤ l → behind_label l body ≡ behind_label l (chain_acts v step next label leaves)) →
          from ≤ n → n < end → n < 4096 → Named p f w body (chain_acts v step next label leaves) (at n) (named n) (most + length leaves)
      unfolding behind_label
      chain_names f w step most end some [] from next label body n e all labels ge lt small =
          same_named (named n) (all n ge lt) (record {
            count = 1;
            few = omega arith;
            locals' = λ b. (at n).0 ∷ (at n).1 ∷ b ∷ [];
            runs = λ memory typed out drawn b. subst (λ (o : List ℕ). Runs p f w body (acts.Return (atoms.Num 2) ∷ []) (state memory ((at n).0 ∷ (at n).1 ∷ b ∷ []) typed drawn out) (Returns 2) (state memory ((at n).0 ∷ (at n).1 ∷ b ∷ []) typed drawn o) 1) (sym (append-nil out)) (returns refl);
          })
      chain_names f w step most end some (leaf ∷ leaves) from next label body n e all labels ge lt small =
          let low = all.0.low in
          let tail = chain_acts v step (next + step) (suc label) leaves in
          elim (cases_lt n next) [
            | inl here ↦ (let r = all.0.names body (acts.Label label ∷ tail) n ge (omega arith) in
                let few' = r.few in
                record {
                  count = suc r.count;
                  few = omega arith;
                  locals' = r.locals';
                  runs = λ memory typed out drawn b. passed (is_below memory typed out drawn n b next true (less_by n next (omega arith) (omega arith) here)) (r.runs memory typed out drawn b);
                })
            | inr past ↦ (let found : behind_label label body ≡ Some tail = labels label (omega arith) ∙ all.0.plain label (acts.Label label ∷ tail) ∙ own_label label tail in
                let later : (l : ℕ) → suc label ≤ l → behind_label l body ≡ behind_label l tail = λ l le. labels l (omega arith) ∙ all.0.plain l (acts.Label label ∷ tail) ∙ other_label label l tail (λ (z : label ≡ l). (omega arith)) in
                let r = chain_names f w step most end some leaves (from + step) (next + step) (suc label) body n (omega arith) all.1 later (omega arith) lt small in
                let few' = r.few in
                record {
                  count = suc r.count;
                  few = omega arith;
                  locals' = r.locals';
                  runs = λ memory typed out drawn b. taken (is_below memory typed out drawn n b next false (not_less_by n next (omega arith) (omega arith) past)) found (r.runs memory typed out drawn b);
                })
          ]

    -- a part of the leaves
    first_leaves : (f w most k : ℕ) (leaves : List (List Act)) (from end : ℕ) → end ≡ from + k → ((z : ℕ) → AllName f w 1 from z most leaves) → AllName f w 1 from end most (take k leaves)
    first_leaves f w most zero leaves from end e all = λ n ge lt. absurd (omega (arith, ge, lt, e))
    first_leaves f w most (suc k) [] from end e all = all end
    first_leaves f w most (suc k) (leaf ∷ leaves) from end e all = ((all 0).0, first_leaves f w most k leaves (from + 1) end (omega arith) (λ z. (all z).1))

    other_leaves : (f w most k : ℕ) (leaves : List (List Act)) (from next : ℕ) → next ≡ from + k → ((e : ℕ) → AllName f w 1 from e most leaves) → (end : ℕ) → AllName f w 1 next end most (drop k leaves)
    other_leaves f w most zero leaves from next e all end = let same : from ≡ next = omega arith in subst (λ (i : ℕ). AllName f w 1 i end most leaves) same (all end)
    other_leaves f w most (suc k) [] from next e all end = λ n ge lt. all end n (omega arith) lt
    other_leaves f w most (suc k) (leaf ∷ leaves) from next e all end = other_leaves f w most k leaves (from + 1) next (omega arith) (λ z. (all z).1) end

    -- leaves whose routines find others, 32 each
    next_level : (reads : (memory typed out : List ℕ) (drawn n b : ℕ) → value p (state memory ((at n).0 ∷ (at n).1 ∷ b ∷ []) typed drawn out) (atoms.Var v) ≡ word n) (f w most : ℕ) → 1 ≤ most → (fuel : ℕ) (leaves : List (List Act)) (number from j next : ℕ) → from ≡ 32 * j → next ≡ from + 1 →
        length leaves ≤ fuel → from + length leaves ≤ 4064 → ((end : ℕ) → AllName f w 1 from end most leaves) → StandFrom p number (chain_routines v 32 fuel next leaves) → (end : ℕ) → AllName (suc f) (3 + w) 32 from end (most + 34) (calling_leaves number (chains_of (length leaves)))
    next_level reads f w most some zero [] number from j next e e' le low all h end = all end
    next_level reads f w most some zero (leaf ∷ leaves) number from j next e e' le low all h end = absurd (omega (arith, le))
    next_level reads f w most some (suc fuel) [] number from j next e e' le low all h end = all end
    next_level reads f w most some (suc fuel) (leaf ∷ leaves) number from j next e e' le low all h end =
        let here = leaf ∷ leaves in
        let part = take 32 here in
        let others = drop 32 here in
        let long = length-drop 32 here in
        let few = short_take 32 here in
        let ends = from + 32 in
        let inside = chain_acts v 1 next 0 part in
        let r : AllName f w 1 from ends most part = first_leaves f w most 32 here from ends refl all in
        let first : LeafNames (suc f) (3 + w) from ends (most + 32 + 2) (calling_acts number) = calling_leaf {f' = f} {w' = w} (suc f) (3 + w) from ends (most + 32) number inside (omega arith) (omega arith) (omega arith) (stand_first p number (chain_routine v 1 next part) (chain_routines v 32 fuel (next + 32) others) h)
        (λ n ge lt. weaker (most + 32) (omega arith) (chain_names reads f w 1 most ends some part from next 0 inside n e' r (λ l k. refl) ge lt (omega arith))) in
        let same : most + 32 + 2 ≡ most + 34 = omega arith in
        let rest = next_level reads f w most some fuel others (suc number) ends (suc j) (next + 32) (omega arith) (omega arith) (omega arith) (omega arith) (λ z. other_leaves f w most 32 here from ends refl all z) (stand_tail p number (chain_routine v 1 next part) (chain_routines v 32 fuel (next + 32) others) h) end in
        subst (λ (k : ℕ). AllName (suc f) (3 + w) 32 from end (most + 34) (calling_leaves number k)) (sym (one_chain leaf leaves))
        (subst (λ (k : ℕ). LeafNames (suc f) (3 + w) from ends k (calling_acts number)) same first, rest)

-- ## Names as leaves

no_chars : chars [] ≡ []
no_chars = chars-encodes [] refl

get_behind : (names : List (List ℕ)) (k j : ℕ) → get_or names (k + j) [] ≡ get_or (drop k names) j []
get_behind names zero j = let e : 0 + j ≡ j = omega arith in ap (λ (i : ℕ). get_or names i []) e
get_behind [] (suc k) j = refl
get_behind (name ∷ names) (suc k) j = let e : suc k + j ≡ suc (k + j) = omega arith in ap (λ (i : ℕ). get_or (name ∷ names) i []) e ∙ get_behind names k j

all_behind : (names : List (List ℕ)) (k : ℕ) → All IsName names → All IsName (drop k names)
all_behind names zero all = all
all_behind [] (suc k) all = all
all_behind (name ∷ names) (suc k) all = all_behind names k (All-tail IsName name names all)

module _ (p : Program) (text : ℕ → List ℕ) where
  abbrev at_1 : ℕ → ℕ → ℕ × ℕ
  at_1 r q = (q, r)

  abbrev at_2 : ℕ → ℕ → ℕ × ℕ
  at_2 q r = (q, r)

  abbrev named_1 : ℕ → ℕ → List ℕ
  named_1 r q = text (32 * q + r)

  abbrev named_2 : ℕ → ℕ → List ℕ
  named_2 q r = text (32 * q + r)

  one_leaf : (q number from : ℕ) (cs : List ℕ) (t : Bool) → from + 1 ≤ 4096 → All IsPrintable cs → named_2 q from ≡ cs → (t ≡ true → p.routine_at (p.names.routine number) ≡ Some (routine_of 3 (name_acts cs))) →
      LeafNames p 2 (at_2 q) (named_2 q) 1 3 from (from + 1) 3 (if t then calling_acts number else name_acts cs)
  one_leaf q number from cs true low fine is at =
      calling_leaf p 2 (at_2 q) (named_2 q) {f' = 0} {w' = 0} 1 3 from (from + 1) 1 number (name_acts cs) low (omega arith) (omega arith) (at refl)
      (λ n ge lt. let same : from ≡ n = omega arith in same_named (named_2 q n) (ap (named_2 q) (sym same) ∙ is) (subst (λ (here : List Act). Named p 0 0 (name_acts cs) here (q, n) cs 1) (append-nil (name_acts cs)) (name_named p 0 0 (name_acts cs) [] (q, n) cs fine)))
  one_leaf q number from cs false low fine is at = record {
    low = low;
    plain = λ l more. name_plain l cs more;
    names = λ body more n ge lt. (let same : from ≡ n = omega arith in same_named (named_2 q n) (ap (named_2 q) (sym same) ∙ is) (weaker 3 (omega arith) (name_named p 1 3 body more (q, n) cs fine)));
  }

  first_stands : (number : ℕ) (cs : List ℕ) (t : Bool) (rest : List Routine) → StandFrom p number (if t then routine_of 3 (name_acts cs) ∷ rest else rest) → t ≡ true → p.routine_at (p.names.routine number) ≡ Some (routine_of 3 (name_acts cs))
  first_stands number cs true rest h e = stand_first p number (routine_of 3 (name_acts cs)) rest h
  first_stands number cs false rest h e = absurd (cc)

  others_stand : (number : ℕ) (cs : List ℕ) (t : Bool) (rest : List Routine) → StandFrom p number (if t then routine_of 3 (name_acts cs) ∷ rest else rest) → StandFrom p (if t then suc number else number) rest
  others_stand number cs true rest h = stand_tail p number (routine_of 3 (name_acts cs)) rest h
  others_stand number cs false rest h = h

  leaves_name : (q : ℕ) (names : List (List ℕ)) (number from end : ℕ) → from + length names ≤ 4096 → All IsName names → ((j : ℕ) → text (32 * q + (from + j)) ≡ chars (get_or names j [])) → StandFrom p number (long_routines names) → AllName p 2 (at_2 q) (named_2 q) 1 3 1 from end 3 (name_leaves number names)
  leaves_name q [] number from end few fine same h = λ n ge lt.
      (let is : 32 * q + (from + (n - from)) ≡ 32 * q + n = omega arith in ap text (sym is) ∙ same (n - from) ∙ no_chars)
  leaves_name q (name ∷ names) number from end few fine same h =
      let cs = chars name in
      let t = is_long cs in
      let here : 32 * q + (from + 0) ≡ 32 * q + from = omega arith in
      let first = All-head IsName name names fine in (
        one_leaf q number from cs t (omega arith) (printable_name name first) (ap text (sym here) ∙ same 0) (first_stands number cs t (long_routines names) h),
        leaves_name q names (behind_name number cs) (from + 1) end (omega arith) (All-tail IsName name names fine) (λ j. let z : 32 * q + (from + 1 + j) ≡ 32 * q + (from + suc j) = omega arith in ap text z ∙ same (suc j)) (others_stand number cs t (long_routines names) h),
      )

  -- names behind so many others
  record Skipped (number : ℕ) (names : List (List ℕ)) (k : ℕ) : Type 0 where
    number' : ℕ
    leaves : drop k (name_leaves number names) ≡ name_leaves number' (drop k names)
    stand : StandFrom p number' (long_routines (drop k names))

  skips : (number : ℕ) (names : List (List ℕ)) (k : ℕ) → StandFrom p number (long_routines names) → Skipped number names k
  skips number names zero h = record { number' = number; leaves = refl; stand = h }
  skips number [] (suc k) h = record { number' = number; leaves = refl; stand = h }
  skips number (name ∷ names) (suc k) h =
      let cs = chars name in
      let r = skips (behind_name number cs) names k (others_stand number cs (is_long cs) (long_routines names) h) in
      record { number' = r.number'; leaves = r.leaves; stand = r.stand }

  leaves_long : (number : ℕ) (names : List (List ℕ)) → length (name_leaves number names) ≡ length names
  leaves_long number [] = refl
  leaves_long number (name ∷ names) = ap suc (leaves_long (behind_name number (chars name)) names)

  reads_1 : (r : ℕ) (memory typed out : List ℕ) (drawn n b : ℕ) → value p (state memory (n ∷ r ∷ b ∷ []) typed drawn out) (atoms.Var 1) ≡ word n
  reads_1 r memory typed out drawn n b = local_1 p memory n (r ∷ b ∷ []) typed drawn out

  reads_2 : (q : ℕ) (memory typed out : List ℕ) (drawn n b : ℕ) → value p (state memory (q ∷ n ∷ b ∷ []) typed drawn out) (atoms.Var 2) ≡ word n
  reads_2 q memory typed out drawn n b = local_2 p memory q n (b ∷ []) typed drawn out

  no_groups : (r q : ℕ) → ((j : ℕ) → text (32 * q + j) ≡ chars (get_or [] j [])) → (end n : ℕ) → q ≤ n → n < end → text (32 * n + r) ≡ []
  no_groups r q same end n ge lt = let is : 32 * q + (32 * (n - q) + r) ≡ 32 * n + r = omega arith in ap text (sym is) ∙ same (32 * (n - q) + r) ∙ no_chars

  -- calls of routines that find names, 32 each
  groups_name : (r : ℕ) → r < 32 → (fuel : ℕ) (names : List (List ℕ)) (number long q : ℕ) → length names ≤ fuel → 32 * q + length names ≤ 4096 → All IsName names → ((j : ℕ) → text (32 * q + j) ≡ chars (get_or names j [])) → StandFrom p long (long_routines names) →
      StandFrom p number (chain_routines 2 0 fuel 1 (name_leaves long names)) → (end : ℕ) → AllName p 1 (at_1 r) (named_1 r) 2 6 1 q end 37 (calling_leaves number (chains_of (length names)))
  groups_name r lt zero [] number long q le low fine same h h' end = no_groups r q same end
  groups_name r lt zero (name ∷ names) number long q le low fine same h h' end = absurd (omega (arith, le))
  groups_name r lt (suc fuel) [] number long q le low fine same h h' end = no_groups r q same end
  groups_name r lt (suc fuel) (name ∷ names) number long q le low fine same h h' end =
      let here = name ∷ names in
      let leaves = name_leaves long here in
      let part = take 32 leaves in
      let others = drop 32 leaves in
      let few = short_take 32 leaves in
      let drops = length-drop 32 here in
      let inside = chain_acts 2 1 1 0 part in
      let all : (e : ℕ) → AllName p 2 (at_2 q) (named_2 q) 1 3 1 0 e 3 leaves = λ e. leaves_name q here long 0 e (omega arith) fine (λ j. let z : 32 * q + (0 + j) ≡ 32 * q + j = omega arith in ap text z ∙ same j) h in
      let these : AllName p 2 (at_2 q) (named_2 q) 1 3 1 0 32 3 part = first_leaves p 2 (at_2 q) (named_2 q) 1 3 3 32 leaves 0 32 refl all in
      let found : Named p 1 3 inside inside (q, r) (named_2 q r) (3 + length part) = chain_names p 2 (at_2 q) (named_2 q) (reads_2 q) 1 3 1 3 32 (omega arith) part 0 1 0 inside r refl these (λ l k. refl) (omega arith) lt (omega arith) in
      let first : LeafNames p 1 (at_1 r) (named_1 r) 2 6 q (q + 1) 37 (calling_acts number) = calling_leaf p 1 (at_1 r) (named_1 r) {f' = 1} {w' = 3} 2 6 q (q + 1) 35 number inside (omega arith) (omega arith) (omega arith) (stand_first p number (chain_routine 2 1 1 part) (chain_routines 2 0 fuel 1 others) h')
      (λ n ge lt'. let is : q ≡ n = omega arith in subst (λ (i : ℕ). Named p 1 3 inside inside (i, r) (text (32 * i + r)) 35) is (weaker 35 (omega arith) found)) in
      let s = skips long here 32 h in
      let tail = stand_tail p number (chain_routine 2 1 1 part) (chain_routines 2 0 fuel 1 others) h' in
      let rest = groups_name r lt fuel (drop 32 here) (suc number) s.number' (q + 1) (omega arith) (omega arith) (all_behind here 32 fine)
      (λ j. let z : 32 * (q + 1) + j ≡ 32 * q + (32 + j) = omega arith in ap text z ∙ same (32 + j) ∙ ap chars (get_behind here 32 j)) s.stand
      (subst (λ (l : List (List Act)). StandFrom p (suc number) (chain_routines 2 0 fuel 1 l)) s.leaves tail) end in
      let count : chains_of (length here) ≡ suc (chains_of (length (drop 32 here))) = omega arith in
      subst (λ (k : ℕ). AllName p 1 (at_1 r) (named_1 r) 2 6 1 q end 37 (calling_leaves number k)) (sym count) (first, rest)

chains_long : (v next fuel end : ℕ) (leaves : List (List Act)) → length leaves ≤ fuel → length (chain_routines v next fuel end leaves) ≡ chains_of (length leaves)
chains_long v next zero end [] le = refl
chains_long v next zero end (leaf ∷ leaves) le = absurd (omega (arith, le))
chains_long v next (suc fuel) end [] le = refl
chains_long v next (suc fuel) end (leaf ∷ leaves) le =
    let long = length-drop 32 (leaf ∷ leaves) in
    ap suc (chains_long v next fuel (end + next) (drop 32 (leaf ∷ leaves)) (omega arith)) ∙ sym (one_chain leaf leaves)

calls_long : (number n : ℕ) → length (calling_leaves number n) ≡ n
calls_long number zero = refl
calls_long number (suc n) = ap suc (calls_long (suc number) n)

-- ## All

module _ (p : Program) (number : ℕ) (objects : List (List ℕ)) (fine : All IsName objects) (few : length objects ≤ 4096) (stand : StandFrom p number (objects_routines number objects)) where
  abbrev named : ℕ → List ℕ
  named n = chars (get_or objects n [])

  abbrev many : ℕ
  many = length objects

  abbrev chains : ℕ
  chains = chains_of many

  abbrev upper : ℕ
  upper = chains_of chains

  abbrev first : ℕ
  first = number + 2

  abbrev long : ℕ
  long = first + chains + upper

  abbrev leaves : List (List Act)
  leaves = name_leaves long objects

  abbrev groups : List (List Act)
  groups = calling_leaves first chains

  abbrev pub top : List (List Act)
  top = calling_leaves (first + chains) upper

  abbrev lower : List Routine
  lower = chain_routines 2 0 many 1 leaves

  abbrev middle : List Routine
  middle = chain_routines 1 32 chains 1 groups

  find_stands : StandFrom p (suc number) (chain_routine 1 32 32 top ∷ (lower ++ (middle ++ long_routines objects)))
  find_stands = stand_tail p number (object_routine (number + 1)) (chain_routine 1 32 32 top ∷ (lower ++ (middle ++ long_routines objects))) stand

  rest_stands : StandFrom p first (lower ++ (middle ++ long_routines objects))
  rest_stands = let same : suc (suc number) ≡ first = omega arith in subst (λ (i : ℕ). StandFrom p i (lower ++ (middle ++ long_routines objects))) same (stand_tail p (suc number) (chain_routine 1 32 32 top) (lower ++ (middle ++ long_routines objects)) find_stands)

  leaves_many : length leaves ≡ many
  leaves_many = leaves_long p named long objects

  lower_long : length lower ≡ chains
  lower_long = chains_long 2 0 many 1 leaves (omega (arith, leaves_many)) ∙ ap chains_of leaves_many

  middle_long : length middle ≡ upper
  middle_long = chains_long 1 32 chains 1 groups (omega (arith, calls_long first chains)) ∙ ap chains_of (calls_long first chains)

  above_stands : StandFrom p (first + chains) (middle ++ long_routines objects)
  above_stands = stand_back p first (first + chains) lower (middle ++ long_routines objects) (omega (arith, lower_long)) rest_stands

  long_stands : StandFrom p long (long_routines objects)
  long_stands = stand_back p (first + chains) long middle (long_routines objects) (omega (arith, middle_long)) above_stands

  module _ (q r : ℕ) (lt : r < 32) where
    groups_all : (end : ℕ) → AllName p 1 (at_1 p named r) (named_1 p named r) 2 6 1 0 end 37 groups
    groups_all end = groups_name p named r lt many objects first long 0 (omega arith) (omega arith) fine (λ j. let e : 32 * 0 + j ≡ j = omega arith in ap named e) long_stands (stand_front p first lower (middle ++ long_routines objects) rest_stands) end

    top_all : (end : ℕ) → AllName p 1 (at_1 p named r) (named_1 p named r) 3 9 32 0 end 71 top
    top_all end =
        subst (λ (k : ℕ). AllName p 1 (at_1 p named r) (named_1 p named r) 3 9 32 0 end 71 (calling_leaves (first + chains) (chains_of k))) (calls_long first chains)
        (next_level p 1 (at_1 p named r) (named_1 p named r) (reads_1 p named r) 2 6 37 (omega arith) chains groups (first + chains) 0 0 1 refl refl (omega (arith, calls_long first chains)) (omega (arith, calls_long first chains)) groups_all (stand_front p (first + chains) middle (long_routines objects) above_stands) end)

    pub found : q < 4096 → Named p 3 9 (chain_acts 1 32 32 0 top) (chain_acts 1 32 32 0 top) (q, r) (named (32 * q + r)) 75
    found small =
        let many_top = calls_long (first + chains) upper in
        weaker 75 (omega arith) (chain_names p 1 (at_1 p named r) (named_1 p named r) (reads_1 p named r) 3 9 32 71 4096 (omega arith) top 0 32 0 (chain_acts 1 32 32 0 top) q refl (top_all 4096) (λ l le. refl) (omega arith) small small)

  pub find_at : p.routine_at (p.names.routine (number + 1)) ≡ Some (routine_of 3 (chain_acts 1 32 32 0 top))
  find_at = let same : suc number ≡ number + 1 = omega arith in subst (λ (i : ℕ). p.routine_at (p.names.routine i) ≡ Some (routine_of 3 (chain_acts 1 32 32 0 top))) same (stand_first p (suc number) (chain_routine 1 32 32 top) (lower ++ (middle ++ long_routines objects)) find_stands)

  pub print_at : p.routine_at (p.names.routine number) ≡ Some (object_routine (number + 1))
  print_at = stand_first p number (object_routine (number + 1)) (chain_routine 1 32 32 top ∷ (lower ++ (middle ++ long_routines objects))) stand
