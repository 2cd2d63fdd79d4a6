-- The acts that print a text do so.
use Rattle.std.proofs.Common.{◌≡◌, ◌≢◌, ℕ, suc, ◌+◌, ◌*◌, ◌<◌, ◌≤◌, ⊎_elim, Bool, true, false, List, [], ◌∷◌, ◌++◌, length, map, Option, Some, None, refl, sym, ap, ◌∙◌, subst, arith, append_assoc}
use Rattle.std.specs.Prelude.{All, encode_utf8_all, if◌then◌else◌}
use Rattle.std.proofs.lemmas.Bool.{lt-ltb, le-ltb, ne_eqb}
use Rattle.std.proofs.lemmas.List.{append-nil}
use Rattle.std.proofs.lemmas.List.Elements.{All-head, All-tail}
use Rattle.std.proofs.Math.Utf8.{encode, scalar_cases}
use Rattle.dg_base.specs.Sound.{IsPrintable}
use Rattle.dg_meaning.specs.World.{Piece}
use Rattle.dg_meaning.specs.Render.{opens, capital, separator, first_of, last_of, spaces_from, Met, met_behind, written}
use Rattle.z_model.specs.Zscii.{is_character}
use Rattle.z_lang.specs.declared.act.Act.{Act}
use Rattle.z_lang.specs.declared.act.Act.TheVariants as acts
use Rattle.z_lang.specs.declared.act.Args.TheVariants as args
use Rattle.z_lang.specs.declared.act.Atom.TheVariants as atoms
use Rattle.z_lang.specs.declared.act.Print.TheVariants as prints
use Rattle.z_lang.specs.State.{State, Program}
use Rattle.z_lang.specs.Acts.{with_output}
use Rattle.z_lang.specs.Runs.{ActsRun, ActsOutcome, done}
use Rattle.dg_rt.specs.declared.numbers.TheConstants.{FIRST}
use Rattle.dg_rt.specs.Cells.{with_cell, replaced, Holds}
use Rattle.dg_rt.specs.Areas.{state}
use Rattle.dg_rt.specs.RunTime.{HasRunTime}
use Rattle.dg_rt.specs.Gaps.{last_word, Meets, Separates, PrintsFirst}
use Rattle.dg_rt.proofs.Cells.{other_cell, same_cell}
use Rattle.dg_rt.proofs.Encoding.{encoded, last_in, AllSmall, text_ends, capital_on}
use Rattle.dg_rt.proofs.First.{printed as is_printed, first_works, calls_first}
use Rattle.dg_rt.proofs.Following.{copies, says, puts}
use Rattle.dg_rt.proofs.Marks.{separator_same}
use Rattle.dg_rt.proofs.Separating.{separate_works, calls_separate}
use Rattle.dg_turn.specs.Texts.{say, text_acts}

-- ## Characters

character : (c : ℕ) → IsPrintable c → is_character c ≡ true
character c is = ⊎_elim below above (scalar_cases c is.scalar)
  where
    below : c < 55296 → is_character c ≡ true
    below l = let from = is.from in rw (lt-ltb 31 c (omega arith), ne_eqb c 127 is.no_delete, le-ltb 55295 c (omega arith)) refl

    above : ((57344 ≤ c) × (c < 1114112)) → is_character c ≡ true
    above h = let from = is.from in let a = h.0 in rw (lt-ltb 31 c (omega arith), ne_eqb c 127 is.no_delete, lt-ltb 55295 c (omega arith), le-ltb c 57344 a) refl

pub all_small : (cs : List ℕ) → All IsPrintable cs → AllSmall cs
all_small [] all = tt
all_small (c ∷ cs) all = let is = (All-head IsPrintable c cs all).to in (is, all_small cs (All-tail IsPrintable c cs all))

-- Characters are printed one by one, and then more.
pub prints_all : (p : Program) (f w : ℕ) (body more : List Act) (o : ActsOutcome) (s' : State) (n : ℕ) (cs : List ℕ) (s : State) → All IsPrintable cs → ActsRun p f w body more (with_output s (encode_utf8_all cs)) o s' n → ActsRun p f w body (map say cs ++ more) s o s' (length cs + n)
prints_all p f w body more o s' n [] s all rest =
    let e : n ≡ length {A = ℕ} [] + n = omega arith in
    subst (λ (k : ℕ). ActsRun p f w body more s o s' k) e (subst (λ (out : List ℕ). ActsRun p f w body more (record s { output = out }) o s' n) (append-nil s.output) rest)
prints_all p f w body more o s' n (c ∷ cs) s all rest =
    let is = All-head IsPrintable c cs all in
    let next : State = with_output s (encode c) in
    let moved = subst (λ (out : List ℕ). ActsRun p f w body more (record s { output = out }) o s' n) (sym (append_assoc s.output (encode c) (encode_utf8_all cs))) rest in
    let later = prints_all p f w body more o s' n cs next (All-tail IsPrintable c cs all) moved in
    subst (λ (k : ℕ). ActsRun p f w body (map say (c ∷ cs) ++ more) s o s' k) (let e : suc (length cs + n) ≡ length (c ∷ cs) + n = omega arith in e)
    (done (says p s prints.Unicode (atoms.Num c) c (encode c) refl (is_printed s.memory c (character c is))) later)

-- the last of some characters
last_is : (c : ℕ) (cs : List ℕ) → last_of (Some c) cs ≡ Some (last_in c cs)
last_is c [] = refl
last_is c (d ∷ cs) = last_is d cs

word_small : (o : Option ℕ) → last_word o < 65536
word_small None = omega arith
word_small (Some b) = by_open (opens b)
  where
    by_open : (t : Bool) → (if t then 1 else 2) < 65536
    by_open true = omega arith
    by_open false = omega arith

-- ## The acts

-- A text was printed, and how it ends is kept.
pub record TextSaid (p : Program) (f w : ℕ) (body rest : List Act) (memory locals typed output : List ℕ) (drawn : ℕ) (cells : ℕ → ℕ) (met : Met) (cs : List ℕ) : Type 0 where
  pub memory' : List ℕ
  pub cells' : ℕ → ℕ
  pub holds : Holds p.world.layout memory' cells'
  pub meets : Meets cells' (met_behind met (Piece (encode_utf8_all cs)))
  pub others : (k : ℕ) → k ≢ 28 → k ≢ 30 → k ≢ 31 → k ≢ 32 → k ≢ 33 → cells' k ≡ cells k
  pub total : ℕ → ℕ
  pub few : (k : ℕ) → total k ≤ 3 * spaces_from 0 met.gap + length cs + 25 + k
  pub runs : (o : ActsOutcome) (s' : State) (k : ℕ) → ActsRun p f w body rest (state memory' locals typed drawn (output ++ written met (Piece (encode_utf8_all cs)))) o s' k →
      ActsRun p f w body (text_acts cs ++ acts.Copy 44 (atoms.Num (last_word (last_of None cs))) ∷ rest) (state memory locals typed drawn output) o s' (total k)

module _ (p : Program) (has : HasRunTime p) (f w : ℕ) (some : 1 ≤ f) (enough : 1 ≤ w) (body rest : List Act) (memory locals typed output : List ℕ) (drawn : ℕ) (cells : ℕ → ℕ) (h : Holds p.world.layout memory cells) (met : Met) (here : Meets cells met) (c : ℕ) (cs : List ℕ) (all : All IsPrintable (c ∷ cs)) where
  abbrev text : List ℕ
  text = encode_utf8_all (c ∷ cs)

  abbrev out1 : List ℕ
  out1 = output ++ separator met.gap met.last c

  abbrev out2 : List ℕ
  out2 = out1 ++ capital met.gap (encode c)

  abbrev out3 : List ℕ
  out3 = out2 ++ encode_utf8_all cs

  abbrev ending : ℕ
  ending = last_word (last_of None (c ∷ cs))

  abbrev ends : List Act
  ends = acts.Copy 44 (atoms.Num ending) ∷ rest

  small : c < 65536
  small = (All-head IsPrintable c cs all).to

  -- what is written
  final : out3 ≡ output ++ written met (Piece text)
  final =
      let enc = encoded c small in
      let sep = separator met.gap met.last c in
      let cap = capital met.gap (encode c) in
      let more = encode_utf8_all cs in
      let first_is : first_of text ≡ enc.b = ap (λ (l : List ℕ). first_of (l ++ more)) enc.is in
      let same : sep ≡ separator met.gap met.last (first_of text) = separator_same met.gap met.last c enc.b enc.closing ∙ ap (separator met.gap met.last) (sym first_is) in
      append_assoc out1 cap more ∙ append_assoc output sep (cap ++ more) ∙ ap (λ (l : List ℕ). output ++ l) (ap (λ (l : List ℕ). l ++ (cap ++ more)) same ∙ ap (λ (l : List ℕ). separator met.gap met.last (first_of text) ++ l) (sym (capital_on met.gap c more small)))

  -- how it ends
  ending_is : ending ≡ last_word (last_of met.last (capital met.gap text))
  ending_is =
      let te = text_ends met.gap met.last c cs small (all_small cs (All-tail IsPrintable c cs all)) in
      let more = encode_utf8_all cs in
      let whole : last_of met.last (capital met.gap text) ≡ Some te.x = ap (last_of met.last) (capital_on met.gap c more small) ∙ te.is in
      ap last_word (last_is c cs) ∙ ap (λ (q : Bool). if q then 1 else 2) (sym te.opening) ∙ sym (ap last_word whole)

  said_by : (s : Separates p 0 0 memory typed output drawn c cells met) (k : PrintsFirst p 0 0 s.memory' typed out1 drawn c s.cells' met.gap) → TextSaid p f w body rest memory locals typed output drawn cells met (c ∷ cs)
  said_by s k =
      let high = has.mapped.room in
      let few = s.few in
      let few' = k.few in
      let put = puts p (state k.memory' locals typed drawn out3) k.cells' 44 ending k.holds (omega arith) (omega arith) (omega arith) (word_small (last_of None (c ∷ cs))) in
      let m4 = with_cell k.memory' 28 ending in
      let c4 = replaced k.cells' 28 ending in
      let far : (i : ℕ) → i ≢ 28 → c4 i ≡ k.cells' i = λ i ne. other_cell k.cells' 28 ending i ne in
      let end_state : State = state m4 locals typed drawn out3 in
      record {
        memory' = m4;
        cells' = c4;
        holds = put.holds;
        meets = record {
          last = same_cell k.cells' 28 ending ∙ ending_is;
          lines = far 30 (λ e. (omega arith)) ∙ k.others 30 (λ e. (omega arith)) ∙ s.lines;
          spaces = far 31 (λ e. (omega arith)) ∙ k.others 31 (λ e. (omega arith)) ∙ s.spaces;
          asked = far 32 (λ e. (omega arith)) ∙ k.others 32 (λ e. (omega arith)) ∙ s.asked;
          upper = far 33 (λ e. (omega arith)) ∙ k.upper;
        };
        others = λ i n28 n30 n31 n32 n33. far i n28 ∙ k.others i n33 ∙ s.others i n30 n31 n32;
        total = λ i. suc s.count + (suc k.count + (length cs + suc i));
        few = λ i. (omega arith);
        runs = λ o s' i run. (
            let moved : ActsRun p f w body rest end_state o s' i = subst (λ (out : List ℕ). ActsRun p f w body rest (state m4 locals typed drawn out) o s' i) (sym final) run in
            let last_runs : ActsRun p f w body ends (state k.memory' locals typed drawn out3) o s' (suc i) = done (copies p (state k.memory' locals typed drawn out3) end_state 44 (atoms.Num ending) ending refl put.put_is) moved in
            let says_runs = prints_all p f w body ends o s' (suc i) cs (state k.memory' locals typed drawn out2) (All-tail IsPrintable c cs all) last_runs in
            calls_separate p has f w some enough body (acts.Call None (atoms.Routine FIRST) (args.One (atoms.Num c)) ∷ (map say cs ++ ends)) (atoms.Num c) memory locals typed output drawn c cells met s refl o s' (suc k.count + (length cs + suc i))
            (calls_first p has f w some enough body (map say cs ++ ends) (atoms.Num c) s.memory' locals typed out1 drawn c s.cells' met.gap k refl o s' (length cs + suc i) says_runs));
      }

  pub text_said : TextSaid p f w body rest memory locals typed output drawn cells met (c ∷ cs)
  text_said =
      let s = separate_works p has 0 0 memory typed output drawn c cells h met here in
      said_by s (first_works p has 0 0 s.memory' typed out1 drawn c s.cells' s.holds small (character c (All-head IsPrintable c cs all)) met.gap (s.others 33 (λ e. (omega arith)) (λ e. (omega arith)) (λ e. (omega arith)) ∙ here.upper))
