-- The routine that prints an object does so.
use Rattle.std.proofs.Common.{◌≡◌, ◌≢◌, ℕ, zero, suc, ◌+◌, ◌*◌, ◌<◌, ◌≤◌, inl, inr, Bool, true, false, List, [], ◌∷◌, ◌++◌, length, Option, Some, None, refl, sym, ap, ◌∙◌, subst, arith, append_assoc}
use Rattle.std.specs.Prelude.{◌/◌, ◌%◌, if◌then◌else◌, All, get_or, encode_utf8_all}
use Rattle.std.specs.Str.{chars}
use Rattle.std.proofs.lemmas.Bool.{cases_lt}
use Rattle.std.proofs.lemmas.List.{append-nil}
use Rattle.std.proofs.lemmas.List.Elements.{All-cons, All-get_or}
use Rattle.std.proofs.lemmas.Str.{chars-encodes}
use Rattle.std.proofs.Math.Utf8.{encode}
use Rattle.dg_base.specs.Sound.{IsName, IsPrintable}
use Rattle.dg_meaning.specs.World.{Piece}
use Rattle.dg_meaning.specs.Render.{opens, capital, separator, first_of, last_of, Met, written, characters}
use Rattle.z_lang.specs.declared.act.Act.{Act}
use Rattle.z_lang.specs.declared.act.Act.TheVariants as acts
use Rattle.z_lang.specs.declared.act.Args.TheVariants as args
use Rattle.z_lang.specs.declared.act.Atom.TheVariants as atoms
use Rattle.z_lang.specs.declared.act.Function.TheVariants as functions
use Rattle.z_lang.specs.State.{State, Program}
use Rattle.z_lang.specs.Runs.{ActsRun as Runs, Returns, done, calls, returns}
use Rattle.dg_rt.specs.Cells.{with_cell, replaced, Holds}
use Rattle.dg_rt.specs.Areas.{state}
use Rattle.dg_rt.specs.RunTime.{HasRunTime}
use Rattle.dg_rt.specs.Gaps.{last_word, Meets}
use Rattle.dg_rt.specs.Pieces.{PrintsPiece}
use Rattle.dg_rt.proofs.Cells.{other_cell, same_cell}
use Rattle.dg_rt.proofs.Closing.{itself}
use Rattle.dg_rt.proofs.Counted.{text_counted}
use Rattle.dg_rt.proofs.Encoding.{last_in, text_ends, capital_on}
use Rattle.dg_rt.proofs.CaptureSteps.{divides, leaves}
use Rattle.dg_rt.proofs.Following.{computes, copies, puts, local_1, local_2, local_3, put_1, put_2, put_3}
use Rattle.dg_turn.specs.Names.{name_end, chain_acts, object_routine, objects_routines, NamesSpell}
use Rattle.dg_turn.proofs.NameFound.{StandFrom, name_chars, printable_name, Named, found, find_at, print_at, top}
use Rattle.dg_turn.proofs.TextPrinted.{all_small, TextSaid, text_said}

last_is : (c : ℕ) (cs : List ℕ) → last_of (Some c) cs ≡ Some (last_in c cs)
last_is c [] = refl
last_is c (d ∷ cs) = last_is d cs

word_small : (o : Option ℕ) → last_word o < 65536
word_small None = omega arith
word_small (Some b) = by_open (opens b)
  where
    by_open : (t : Bool) → (if t then 1 else 2) < 65536
    by_open true = omega arith
    by_open false = omega arith

no_name : (names : List (List ℕ)) (n : ℕ) → length names ≤ n → get_or names n [] ≡ []
no_name [] n le = refl
no_name (w ∷ ws) zero le = absurd (omega (arith, le))
no_name (w ∷ ws) (suc n) le = no_name ws n (omega arith)

none_printable : All IsPrintable []
none_printable = λ k d lt. absurd (omega (arith, lt))

mark_printable : All IsPrintable (35 ∷ [])
mark_printable = All-cons IsPrintable 35 [] (record { from = omega arith; to = omega arith; scalar = refl; no_delete = λ e. (omega arith) }) none_printable

-- A name's bytes are its characters.
record Bytes (objects : List (List ℕ)) (n : ℕ) : Type 0 where
  fine : All IsPrintable (chars (get_or objects n []))
  bytes : get_or objects n [] ≡ encode_utf8_all (chars (get_or objects n []))

bytes_of : (objects : List (List ℕ)) → All IsName objects → (n : ℕ) → Bytes objects n
bytes_of objects all n =
    elim (cases_lt n (length objects)) [
      | inl lt ↦ (let name = All-get_or IsName objects n [] lt all in
          record { fine = printable_name (get_or objects n []) name; bytes = name.encoded ∙ ap encode_utf8_all (sym (name_chars (get_or objects n []) name)) })
      | inr le ↦ (let none = no_name objects n le in
          let empty : chars (get_or objects n []) ≡ [] = ap chars none ∙ chars-encodes [] refl in
          record { fine = subst (All IsPrintable) (sym empty) none_printable; bytes = none ∙ ap encode_utf8_all (sym empty) })
    ]

module _ (p : Program) (has : HasRunTime p) (number : ℕ) (objects : List (List ℕ)) (all : All IsName objects) (few : length objects ≤ 4096) (stand : StandFrom p number (objects_routines number objects)) where
  abbrev body : List Act
  body = (object_routine (number + 1)).body

  abbrev call_find : Act
  call_find = acts.Call (Some 3) (atoms.Routine (number + 1)) (args.Two (atoms.Var 1) (atoms.Var 2))

  abbrev rest : List Act
  rest = acts.Compute 2 functions.Mod (atoms.Var 1) (atoms.Num 32) ∷ acts.Compute 1 functions.Div (atoms.Var 1) (atoms.Num 32) ∷ call_find ∷ acts.Copy 44 (atoms.Var 3) ∷ acts.Return (atoms.Num 0) ∷ []

  abbrev inside : List Act
  inside = chain_acts 1 32 32 0 (top p number objects all few stand)

  module _ (memory typed output : List ℕ) (drawn n : ℕ) (cells : ℕ → ℕ) (h : Holds p.world.layout memory cells) (lt : n < 4096) (m : Met) (meets : Meets cells m) where
    abbrev cs : List ℕ
    cs = chars (get_or objects n [])

    abbrev text : List ℕ
    text = encode_utf8_all (35 ∷ cs)

    abbrev e : ℕ
    e = name_end cs

    abbrev q : ℕ
    q = n / 32

    abbrev out1 : List ℕ
    out1 = output ++ written m (Piece (encode_utf8_all (35 ∷ [])))

    mark_first : (xs : List ℕ) → first_of (encode 35 ++ xs) ≡ 35
    mark_first xs = ap (λ (l : List ℕ). first_of (l ++ xs)) (itself 35 (omega arith))

    final : out1 ++ encode_utf8_all cs ≡ output ++ written m (Piece text)
    final =
        let more = encode_utf8_all cs in
        let cap = capital m.gap (encode 35) in
        let sep = separator m.gap m.last 35 in
        let short : written m (Piece (encode_utf8_all (35 ∷ []))) ≡ sep ++ cap = ap (λ (l : List ℕ). separator m.gap m.last (first_of l) ++ capital m.gap l) (append-nil (encode 35)) ∙ ap (λ (x : ℕ). separator m.gap m.last x ++ cap) (ap first_of (sym (append-nil (encode 35))) ∙ mark_first []) in
        let long : written m (Piece text) ≡ sep ++ (cap ++ more) = ap (λ (x : ℕ). separator m.gap m.last x ++ capital m.gap (encode 35 ++ more)) (mark_first more) ∙ ap (λ (l : List ℕ). sep ++ l) (capital_on m.gap 35 more (omega arith)) in
        ap (λ (l : List ℕ). (output ++ l) ++ more) short ∙ append_assoc output (sep ++ cap) more ∙ ap (λ (l : List ℕ). output ++ l) (append_assoc sep cap more ∙ sym long)

    object_by : (fine : All IsPrintable cs) (s : TextSaid p 20 80 body rest memory (n ∷ 0 ∷ 0 ∷ []) typed output drawn cells m (35 ∷ [])) (r : Named p 3 9 inside inside (q, n % 32) cs 75) → PrintsPiece p 20 80 body memory (n ∷ 0 ∷ 0 ∷ []) typed output drawn cells m text (20 * characters text + 100)
    object_by fine s r =
        let room = has.mapped.room in
        let few1 = r.few in
        let smalls = all_small cs fine in
        let long = text_counted (35 ∷ cs) (omega arith, smalls) in
        let te = text_ends m.gap m.last 35 cs (omega arith) smalls in
        let more = encode_utf8_all cs in
        let whole : last_of m.last (capital m.gap text) ≡ Some te.x = ap (last_of m.last) (capital_on m.gap 35 more (omega arith)) ∙ te.is in
        let ending : e ≡ last_word (last_of m.last (capital m.gap text)) = ap last_word (last_is 35 cs) ∙ ap (λ (t : Bool). if t then 1 else 2) (sym te.opening) ∙ sym (ap last_word whole) in
        let out2 = out1 ++ more in
        let s2 : State = state s.memory' (q ∷ n % 32 ∷ e ∷ []) typed drawn out2 in
        let put = puts p s2 s.cells' 44 e s.holds (omega arith) (omega arith) (omega arith) (word_small (last_of (Some 35) cs)) in
        let m3 = with_cell s.memory' 28 e in
        let c3 = replaced s.cells' 28 e in
        let far : (i : ℕ) → i ≢ 28 → c3 i ≡ s.cells' i = λ i ne. other_cell s.cells' 28 e i ne in
        let s3 : State = state m3 (q ∷ n % 32 ∷ e ∷ []) typed drawn out2 in
        let k = suc (suc (suc r.count + 2)) in
        let spent = s.few k in
        record {
          memory' = m3;
          cells' = c3;
          locals' = q ∷ n % 32 ∷ e ∷ [];
          holds = put.holds;
          meets = record {
            last = same_cell s.cells' 28 e ∙ ending;
            lines = far 30 (λ z. (omega arith)) ∙ s.meets.lines;
            spaces = far 31 (λ z. (omega arith)) ∙ s.meets.spaces;
            asked = far 32 (λ z. (omega arith)) ∙ s.meets.asked;
            upper = far 33 (λ z. (omega arith)) ∙ s.meets.upper;
          };
          others = λ i n28 n30 n31 n32 n33. far i n28 ∙ s.others i n28 n30 n31 n32 n33;
          count = s.total k;
          few = omega arith;
          runs = subst (λ (o : List ℕ). Runs p 20 80 body body (state memory (n ∷ 0 ∷ 0 ∷ []) typed drawn output) (Returns 0) (state m3 (q ∷ n % 32 ∷ e ∷ []) typed drawn o) (s.total k)) final
              (s.runs (Returns 0) s3 k
              (done (computes p (state s.memory' (n ∷ 0 ∷ 0 ∷ []) typed drawn out1) (state s.memory' (n ∷ n % 32 ∷ 0 ∷ []) typed drawn out1) 2 functions.Mod (atoms.Var 1) (atoms.Num 32) n 32 (n % 32) (local_1 p s.memory' n (0 ∷ 0 ∷ []) typed drawn out1) refl (leaves p s.memory' n 32 (omega arith) (omega arith) (omega arith)) (put_2 p s.memory' n 0 (n % 32) (0 ∷ []) typed drawn out1))
              (done (computes p (state s.memory' (n ∷ n % 32 ∷ 0 ∷ []) typed drawn out1) (state s.memory' (q ∷ n % 32 ∷ 0 ∷ []) typed drawn out1) 1 functions.Div (atoms.Var 1) (atoms.Num 32) n 32 q (local_1 p s.memory' n (n % 32 ∷ 0 ∷ []) typed drawn out1) refl (divides p s.memory' n 32 (omega arith) (omega arith) (omega arith)) (put_1 p s.memory' n q (n % 32 ∷ 0 ∷ []) typed drawn out1))
              (calls {f' = 3} {w' = 9} {n = r.count} {n' = 2} {xs = (q, n % 32, 0)} {s1 = state s.memory' (r.locals' 0) typed drawn out2} {s2 = s2} refl (rw (local_1 p s.memory' q (n % 32 ∷ 0 ∷ []) typed drawn out1, local_2 p s.memory' q (n % 32) (0 ∷ []) typed drawn out1) refl) (find_at p number objects all few stand) (omega arith) (omega arith) (r.runs s.memory' typed out1 drawn 0)
              (put_3 p s.memory' q (n % 32) 0 e [] typed drawn out2)
              (done (copies p s2 s3 44 (atoms.Var 3) e (local_3 p s.memory' q (n % 32) e [] typed drawn out2) put.put_is) (returns refl))))));
        }

    object_printed : PrintsPiece p 20 80 body memory (n ∷ 0 ∷ 0 ∷ []) typed output drawn cells m (35 ∷ get_or objects n []) (20 * characters (35 ∷ get_or objects n []) + 100)
    object_printed =
        let b = bytes_of objects all n in
        let same : text ≡ 35 ∷ get_or objects n [] = ap (λ (l : List ℕ). l ++ encode_utf8_all cs) (itself 35 (omega arith)) ∙ ap (λ (l : List ℕ). 35 ∷ l) (sym b.bytes) in
        subst (λ (l : List ℕ). PrintsPiece p 20 80 body memory (n ∷ 0 ∷ 0 ∷ []) typed output drawn cells m l (20 * characters l + 100)) same
        (object_by b.fine (text_said p has 20 80 (omega arith) (omega arith) body rest memory (n ∷ 0 ∷ 0 ∷ []) typed output drawn cells h m meets 35 [] mark_printable) (subst (λ (i : ℕ). Named p 3 9 inside inside (q, n % 32) (chars (get_or objects i [])) 75) (let is : 32 * q + n % 32 ≡ n = omega arith in is) (found p number objects all few stand q (n % 32) (omega arith) (omega arith))))

pub names_spell : NamesSpell
names_spell p has story number objects all few stand = record {
  body = body p has number objects all few stand;
  more = 2;
  few = omega arith;
  there = print_at p number objects all few stand;
  prints = λ memory typed output drawn n cells h kept lt m meets. object_printed p has number objects all few stand memory typed output drawn n cells h lt m meets;
}
