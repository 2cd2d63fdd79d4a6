-- The routine that lays the list of the letters of a word of the program does so.
use Rattle.std.proofs.Common.{◌≡◌, ℕ, suc, ◌+◌, ◌*◌, ◌/◌, ◌<◌, ◌≤◌, Bool, true, false, List, [], ◌∷◌, ◌++◌, drop, length, get_or, Some, refl, sym, ap, ◌∙◌, subst, arith}
use Rattle.std.specs.Prelude.{◌==◌, encode_utf8_all}
use Rattle.std.proofs.lemmas.Bool.{eq-eqb, ne_eqb}
use Rattle.std.proofs.Math.Utf8.{encode}
use Rattle.dg_meaning.specs.Copies.{copy_cells}
use Rattle.z_lang.specs.declared.act.Act.{Act}
use Rattle.z_lang.specs.declared.act.Atom.TheVariants as atoms
use Rattle.z_lang.specs.declared.act.Comparison.TheVariants as comparisons
use Rattle.z_lang.specs.declared.act.Function.TheVariants as functions
use Rattle.z_lang.specs.State.{State}
use Rattle.z_lang.specs.Acts.{answer_of, computed}
use Rattle.z_lang.specs.Runs.{ActsRun as Runs, ActsOutcome, Returns, at_label, goes, taken, passed, done, calls, returns, behind_label}
use Rattle.dg_rt.specs.declared.splitting.TheConstants.{SPLIT_SPELLING_ACTS}
use Rattle.dg_rt.specs.Dictionary.{spelling_at, BytesStand, HasSpellings}
use Rattle.dg_rt.specs.Shapes.{ArePrinted}
use Rattle.dg_rt.specs.inside.Walks.{steps}
use Rattle.dg_rt.proofs.CaptureSteps.{divides}
use Rattle.dg_rt.proofs.FindingWords.{character_at, AreSmall, name_small, next_at, low_at}
use Rattle.dg_rt.proofs.Following.{word, tested, computes, copies}
use Rattle.dg_rt.proofs.LaySteps.{Laid, M, in_m}
use Rattle.dg_rt.proofs.LetterOn.{Listed, Same, Lays, all_laid, in_front}
use Rattle.dg_rt.proofs.Locals.{added, subtracts, less_by, not_less_by, get_1, get_2, get_3, get_4, set_1, set_2, set_3, set_4}
use Rattle.dg_rt.proofs.SpellingsBack.{NoZero, no_zero_all, encoded_some, few_bytes, bytes_of, StandBack, stand_back, bytes_onto}
use Rattle.dg_rt.proofs.SplitLists.{alone, onto, turned_back, onto_length, alone_onto, printed_onto}
use Rattle.dg_rt.proofs.SplitNumbers.{calls_on}
use Rattle.dg_rt.proofs.UnifySteps.{steps_are}
use Rattle.dg_rt.proofs.WordLetters.{Encoded, one, two, three, encoded, Read, reads_character}

module _ (io : Laid) (words : List (List ℕ)) (dict : HasSpellings io.p io.story words) (f w : ℕ) (some : 4 ≤ f) (enough : 18 ≤ w) where
  open io use {p, story, captures, has, typed, output, drawn, area}

  abbrev four : M io → ℕ → ℕ → ℕ → ℕ → State
  four m a b c d = in_m io m (a ∷ b ∷ c ∷ d ∷ [])

  abbrev t : ℕ
  t = p.names.table 1

  abbrev Run : List Act → State → ActsOutcome → State → ℕ → Type 0
  Run acts s o s' i = Runs p f w SPLIT_SPELLING_ACTS acts s o s' i

  -- ## The end of a spelling

  abbrev scanned : List ℕ → ℕ → ℕ
  scanned [] i = suc (suc i)
  scanned (b ∷ bs) i = suc (suc (suc (suc (scanned bs i))))

  scanned_is : (bs : List ℕ) (i : ℕ) → scanned bs i ≡ 4 * length bs + 2 + i
  scanned_is [] i = omega arith
  scanned_is (b ∷ bs) i = let e = scanned_is bs i in omega arith

  is_zero : (m : M io) (a x e v : ℕ) (r : Bool) → (v == 0) ≡ r → answer_of p (four m a x e v) (record { comparison = comparisons.Equal; first = atoms.Var 4; second = atoms.Num 0; answer = true }) ≡ Some r
  is_zero m a x e v r is = tested p (four m a x e v) comparisons.Equal (atoms.Var 4) (atoms.Num 0) true v 0 r (get_4 p m.memory a x e v typed drawn output) refl is

  to_end : (m : M io) (a x : ℕ) (o : ActsOutcome) (s' : State) (i : ℕ) (bs : List ℕ) (e d : ℕ) → NoZero bs → BytesStand p story e (bs ++ 0 ∷ []) → e + length bs < 32768 → Run (drop 12 SPLIT_SPELLING_ACTS) (four m a x (e + length bs) 0) o s' i → Run (drop 7 SPLIT_SPELLING_ACTS) (four m a x e d) o s' (scanned bs i)
  unfolding behind_label
  to_end m a x o s' i [] e d none stand low go =
      let here : e + length {A = ℕ} [] ≡ e = omega arith in
      done (computes p (four m a x e d) (four m a x e 0) 4 functions.Byte (atoms.Table 1) (atoms.Var 3) t e 0 refl (get_3 p m.memory a x e d typed drawn output) (stand.0 m.memory m.kept) (set_4 p m.memory a x e d 0 typed drawn output))
      (taken (is_zero m a x e 0 true refl) refl (subst (λ (j : ℕ). Run (drop 12 SPLIT_SPELLING_ACTS) (four m a x j 0) o s' i) here go))
  to_end m a x o s' i (b ∷ bs) e d none stand low go =
      let e' = suc e in
      let there : e + length (b ∷ bs) ≡ e' + length bs = omega arith in
      done (computes p (four m a x e d) (four m a x e b) 4 functions.Byte (atoms.Table 1) (atoms.Var 3) t e b refl (get_3 p m.memory a x e d typed drawn output) (stand.0 m.memory m.kept) (set_4 p m.memory a x e d b typed drawn output))
      (passed (is_zero m a x e b false (ne_eqb b 0 (λ (g : b ≡ 0). (let z = none.0.0 in omega arith))))
      (done (computes p (four m a x e b) (four m a x e' b) 3 functions.Add (atoms.Var 3) (atoms.Num 1) e 1 e' (get_3 p m.memory a x e b typed drawn output) refl (added p m.memory e 1 e' (omega arith)) (set_3 p m.memory a x e b e' typed drawn output))
      (goes refl (to_end m a x o s' i bs e' b none.1 stand.1 (omega arith) (subst (λ (j : ℕ). Run (drop 12 SPLIT_SPELLING_ACTS) (four m a x j 0) o s' i) there go)))))

  -- ## The character in front

  -- a byte in front is looked at
  in_back : (m : M io) (a x e d v : ℕ) (o : ActsOutcome) (s' : State) (i : ℕ) → v < 256 → e < 32767 → computed p.world.layout m.memory functions.Byte t e ≡ word v → Run (drop 17 SPLIT_SPELLING_ACTS) (four m a x e (v / 64)) o s' i → Run (drop 14 SPLIT_SPELLING_ACTS) (four m a x (suc e) d) o s' (suc (suc (suc i)))
  in_back m a x e d v o s' i small low is go =
      let e' = suc e in
      let v' = v / 64 in
      done (computes p (four m a x e' d) (four m a x e d) 3 functions.Sub (atoms.Var 3) (atoms.Num 1) e' 1 e (get_3 p m.memory a x e' d typed drawn output) refl (subtracts p m.memory e' 1 e (omega arith) (omega arith)) (set_3 p m.memory a x e' d e typed drawn output))
      (done (computes p (four m a x e d) (four m a x e v) 4 functions.Byte (atoms.Table 1) (atoms.Var 3) t e v refl (get_3 p m.memory a x e d typed drawn output) is (set_4 p m.memory a x e d v typed drawn output))
      (done (computes p (four m a x e v) (four m a x e v') 4 functions.Div (atoms.Var 4) (atoms.Num 64) v 64 v' (get_4 p m.memory a x e v typed drawn output) refl (divides p m.memory v 64 (omega arith) (omega arith) (omega arith)) (set_4 p m.memory a x e v v' typed drawn output))
      go))

  is_inside : (m : M io) (a x e v : ℕ) (r : Bool) → (v == 2) ≡ r → answer_of p (four m a x e v) (record { comparison = comparisons.Equal; first = atoms.Var 4; second = atoms.Num 2; answer = true }) ≡ Some r
  is_inside m a x e v r is = tested p (four m a x e v) comparisons.Equal (atoms.Var 4) (atoms.Num 2) true v 2 r (get_4 p m.memory a x e v typed drawn output) refl is

  -- one that is no first byte
  inside : (m : M io) (a x e d v : ℕ) (o : ActsOutcome) (s' : State) (i : ℕ) → 128 ≤ v → v < 192 → e < 32767 → computed p.world.layout m.memory functions.Byte t e ≡ word v → Run (drop 14 SPLIT_SPELLING_ACTS) (four m a x e 2) o s' i → Run (drop 14 SPLIT_SPELLING_ACTS) (four m a x (suc e) d) o s' (suc (suc (suc (suc i))))
  unfolding behind_label
  inside m a x e d v o s' i le lt low is go =
      let two_is : v / 64 ≡ 2 = omega arith in
      in_back m a x e d v o s' (suc i) (omega arith) low is (subst (λ (j : ℕ). Run (drop 17 SPLIT_SPELLING_ACTS) (four m a x e j) o s' (suc i)) (sym two_is) (taken (is_inside m a x e 2 true refl) refl go))

  -- The place of a character is found from the one behind it.
  record Back (m : M io) (a x e e' d : ℕ) : Type 0 where
    d' : ℕ
    more : ℕ
    few : more ≤ 12
    way : (o : ActsOutcome) (s' : State) (i : ℕ) → Run (drop 18 SPLIT_SPELLING_ACTS) (four m a x e d') o s' i → Run (drop 14 SPLIT_SPELLING_ACTS) (four m a x e' d) o s' (steps more i)

  first_back : (m : M io) (a x e d v : ℕ) (o : ActsOutcome) (s' : State) (i : ℕ) → v < 256 → (128 ≤ v → 192 ≤ v) → e < 32767 → computed p.world.layout m.memory functions.Byte t e ≡ word v → Run (drop 18 SPLIT_SPELLING_ACTS) (four m a x e (v / 64)) o s' i → Run (drop 14 SPLIT_SPELLING_ACTS) (four m a x (suc e) d) o s' (suc (suc (suc (suc i))))
  first_back m a x e d v o s' i small apart low is go =
      in_back m a x e d v o s' (suc i) small low is (passed (is_inside m a x e (v / 64) false (ne_eqb (v / 64) 2 (λ (g : v / 64 ≡ 2). (let q = apart (omega arith) in omega arith)))) go)

  goes_back : (m : M io) (a x e d c : ℕ) → c < 65536 → BytesStand p story e (encode c ++ []) → e + length (encode c) < 32768 → Back m a x e (e + length (encode c)) d
  goes_back m a x e d c small stand low = by_form (encoded c small)
    where
      by_form : Encoded c → Back m a x e (e + length (encode c)) d
      by_form (one lt is) =
          let h = subst (λ (l : List ℕ). BytesStand p story e (l ++ [])) is stand in
          let many : e + length (encode c) ≡ suc e = rw is (omega arith) in
          subst (λ (j : ℕ). Back m a x e j d) (sym many) (record { d' = c / 64; more = 4; few = omega arith; way = λ o s' i go. first_back m a x e d c o s' i (omega arith) (λ le. (omega arith)) (omega arith) (h.0 m.memory m.kept) go })
      by_form (two b b2 la ha lb hb same is) =
          let h = subst (λ (l : List ℕ). BytesStand p story e (l ++ [])) is stand in
          let many : e + length (encode c) ≡ suc (suc e) = rw is (omega arith) in
          subst (λ (j : ℕ). Back m a x e j d) (sym many) (record {
            d' = b / 64;
            more = 8;
            few = omega arith;
            way = λ o s' i go. inside m a x (suc e) d b2 o s' (suc (suc (suc (suc i)))) lb hb (omega arith) (h.1.0 m.memory m.kept)
                (first_back m a x e 2 b o s' i (omega arith) (λ le. la) (omega arith) (h.0 m.memory m.kept) go);
          })
      by_form (three b b2 b3 la ha lb hb ld hd same is) =
          let h = subst (λ (l : List ℕ). BytesStand p story e (l ++ [])) is stand in
          let many : e + length (encode c) ≡ suc (suc (suc e)) = rw is (omega arith) in
          subst (λ (j : ℕ). Back m a x e j d) (sym many) (record {
            d' = b / 64;
            more = 12;
            few = omega arith;
            way = λ o s' i go. inside m a x (suc (suc e)) d b3 o s' (suc (suc (suc (suc (suc (suc (suc (suc i)))))))) ld hd (omega arith) (h.1.1.0 m.memory m.kept)
                (inside m a x (suc e) 2 b2 o s' (suc (suc (suc (suc i)))) lb hb (omega arith) (h.1.0 m.memory m.kept)
                (first_back m a x e 2 b o s' i (omega arith) (λ le. (omega arith)) (omega arith) (h.0 m.memory m.kept) go));
          })

  -- ## Each character

  module _ (m0 : M io) (lo a : ℕ) where
    abbrev Loop : M io → ℕ → ℕ → ℕ → List ℕ → ℕ → Type 0
    Loop m x e d all most = Lays io words f w SPLIT_SPELLING_ACTS (drop 12 SPLIT_SPELLING_ACTS) m0 lo (four m a x e d) all most

    at_first : (m : M io) (x e d : ℕ) (r : Bool) → (e == a) ≡ r → answer_of p (four m a x e d) (record { comparison = comparisons.Equal; first = atoms.Var 3; second = atoms.Var 1; answer = true }) ≡ Some r
    at_first m x e d r is = tested p (four m a x e d) comparisons.Equal (atoms.Var 3) (atoms.Var 1) true e a r (get_3 p m.memory a x e d typed drawn output) (get_1 p m.memory a x e d typed drawn output) is

    -- a character is laid, and the loop goes on
    one_more : (c : ℕ) (rs : List ℕ) (m : M io) (x d e : ℕ) (ls all : List ℕ) → e ≡ a + bytes_of (c ∷ rs) → c < 65536 → a + bytes_of (c ∷ rs) < 32768 → ArePrinted (c ∷ []) → Listed io words m lo ls x → Same io words m0 m lo → onto rs (c ∷ ls) ≡ all → Back m a x (a + bytes_of rs) e d → Read p 0 0 m.memory typed output drawn (a + bytes_of rs) c →
        ((m' : M io) (y : ℕ) → Listed io words m' lo (c ∷ ls) y → Same io words m0 m' lo → Loop m' y (a + bytes_of rs) c all (length rs * (length words * 47 + 111) + 2)) → Loop m x e d all (length (c ∷ rs) * (length words * 47 + 111) + 2)
    unfolding behind_label
    one_more c rs m x d e ls all here small low fine l same is back r next =
        let some_bytes = (encoded_some c small).0 in
        let j = a + bytes_of rs in
        let few1 = back.few in
        let few2 = r.few in
        let more = alone_onto words rs (c ∷ ls) in
        let same_cells = ap (λ (xs : List ℕ). copy_cells (alone words xs)) is in
        in_front io words (length (c ∷ rs) * (length words * 47 + 111) + 2) (λ i. suc (steps back.more (suc r.count + i))) (λ i le. (let q = steps_are back.more (suc r.count + i) in omega arith)) (λ i le. (let q = steps_are back.more (suc r.count + i) in omega arith))
        (λ o s' i go. passed (at_first m x e d false (ne_eqb e a (λ (g : e ≡ a). (omega arith))))
        (at_label (back.way o s' (suc r.count + i)
        (calls {f' = 0} {w' = 0} {n = r.count} {n' = i} {xs = (j, 0, 0)} {s2 = four m a x j c} refl (rw (get_3 p m.memory a x j back.d' typed drawn output) refl) (character_at p has.has) (omega arith) (omega arith) r.runs (set_4 p m.memory a x j back.d' c typed drawn output) go))))
        (calls_on io words dict f w some enough SPLIT_SPELLING_ACTS (drop 20 SPLIT_SPELLING_ACTS) m0 m lo c x ls all (a ∷ x ∷ j ∷ c ∷ []) 4 (λ y. a ∷ y ∷ j ∷ c ∷ []) (length rs * (length words * 47 + 111) + 3) same l fine
        (rw (get_4 p m.memory a x j c typed drawn output, get_2 p m.memory a x j c typed drawn output) refl) (λ m' y. set_2 p m'.memory a x j c y typed drawn output) (omega arith)
        (λ m' y l' same'. in_front io words (length rs * (length words * 47 + 111) + 3) (λ i. suc i) (λ i le. (omega arith)) (λ i le. (omega arith)) (λ o s' i go. goes refl go) (next m' y l' same')))

    characters : (rs : List ℕ) (m : M io) (x d e : ℕ) (ls all : List ℕ) → e ≡ a + bytes_of rs → StandBack p story a rs → AreSmall rs → ArePrinted rs → a + bytes_of rs < 32768 → Listed io words m lo ls x → Same io words m0 m lo → onto rs ls ≡ all → Loop m x e d all (length rs * (length words * 47 + 111) + 2)
    unfolding behind_label
    characters [] m x d e ls all here stand small fine low l same is =
        all_laid m x (a ∷ x ∷ e ∷ d ∷ []) 2 (subst (λ (xs : List ℕ). Listed io words m lo xs x) is l) same (omega arith)
        (taken (at_first m x e d true (eq-eqb e a (omega arith))) refl (returns (get_2 p m.memory a x e d typed drawn output)))
    characters (c ∷ rs) m x d e ls all here stand small fine low l same is =
        let j = a + bytes_of rs in
        let there : j + length (encode c) ≡ e = omega arith in
        let back = subst (λ (i : ℕ). Back m a x j i d) there (goes_back m a x j d c small.0.0 stand.0 (omega arith)) in
        let r = reads_character p story 0 0 m.memory typed output drawn j c m.kept (omega arith) [] small.0.0 stand.0 in
        one_more c rs m x d e ls all here small.0.0 low (fine.0, tt) l same is back r
        (λ m' y l' same'. characters rs m' y c j (c ∷ ls) all refl stand.1 small.1 fine.1 (omega arith) l' same' is)

  -- ## The routine

  small_onto : (xs ys : List ℕ) → AreSmall xs → AreSmall ys → AreSmall (onto xs ys)
  small_onto [] ys small small' = small'
  small_onto (x ∷ xs) ys small small' = small_onto xs (x ∷ ys) small.1 (small.0, small')

  module _ (m : M io) (lo n : ℕ) (top : m.cells 3 ≡ lo) (low : lo ≤ 10000) (number : n < 8192) where
    abbrev z : ℕ
    z = length words

    listed : Listed io words m lo [] 28672
    listed = record { heap = top ∙ omega arith; lies = (tt, tt); word = refl; room = omega arith; printed = tt }

    to_number : (o : ActsOutcome) (s' : State) (i : ℕ) → Run (drop 2 SPLIT_SPELLING_ACTS) (four m n 28672 z 0) o s' i → Run SPLIT_SPELLING_ACTS (four m n 0 0 0) o s' (suc (suc i))
    to_number o s' i go =
        done (copies p (four m n 0 0 0) (four m n 28672 0 0) 2 (atoms.Num 28672) 28672 refl (set_2 p m.memory n 0 0 0 28672 typed drawn output))
        (done (computes p (four m n 28672 0 0) (four m n 28672 z 0) 3 functions.Word (atoms.Table 1) (atoms.Num 0) t 0 z refl refl (dict.many m.memory m.kept) (set_3 p m.memory n 28672 0 0 z typed drawn output))
        go)

    -- a word behind the last
    pub past : z ≤ n → Lays io words f w SPLIT_SPELLING_ACTS SPLIT_SPELLING_ACTS m lo (four m n 0 0 0) [] 4
    unfolding behind_label
    past le =
        let few = dict.few in
        all_laid m 28672 (n ∷ 28672 ∷ z ∷ 0 ∷ []) 4 listed (λ q n3 far. refl) (omega arith)
        (to_number (Returns 28672) (four m n 28672 z 0) 2
        (taken (tested p (four m n 28672 z 0) comparisons.Less (atoms.Var 1) (atoms.Var 3) false n z false (get_1 p m.memory n 28672 z 0 typed drawn output) (get_3 p m.memory n 28672 z 0 typed drawn output) (not_less_by n z (omega arith) (omega arith) le)) refl
        (returns (get_2 p m.memory n 28672 z 0 typed drawn output))))

    pub there : (lt : n < z) → let name = dict.names n lt in ArePrinted name.characters → Lays io words f w SPLIT_SPELLING_ACTS SPLIT_SPELLING_ACTS m lo (four m n 0 0 0) name.characters (length name.characters * (length words * 47 + 123) + 12)
    there lt fine =
        let name = dict.names n lt in
        let cs = name.characters in
        let bs = encode_utf8_all cs in
        let rs = onto cs [] in
        let a = spelling_at words n in
        let many = dict.few in
        let n1 = suc n in
        let small = name_small (get_or words n []) name in
        let size : length (get_or words n []) ≡ length bs = ap (λ (l : List ℕ). length l) name.encoded in
        let next = next_at words n lt in
        let last = low_at words (suc n) (omega arith) in
        let high = dict.small in
        let stand : BytesStand p story a (bs ++ 0 ∷ []) = subst (λ (l : List ℕ). BytesStand p story a (l ++ 0 ∷ [])) name.encoded (dict.bytes n lt) in
        let back = turned_back cs in
        let total = bytes_onto p story rs [] in
        let whole : length bs ≡ bytes_of rs = ap (λ (xs : List ℕ). length (encode_utf8_all xs)) (sym back) ∙ total ∙ omega arith in
        let stand' = (stand_back p story a rs [] (0 ∷ []) (subst (λ (xs : List ℕ). BytesStand p story a (encode_utf8_all xs ++ 0 ∷ [])) (sym back) stand)).0 in
        let few = few_bytes cs small in
        let many_back : length (onto cs []) ≡ length cs = onto_length cs [] ∙ omega arith in
        let product = ap (λ (i : ℕ). i * (length words * 47 + 111)) many_back in
        in_front io words (length cs * (length words * 47 + 123) + 12) (λ i. suc (suc (suc (suc (suc (suc (scanned bs i))))))) (λ i le. (let q = scanned_is bs i in omega arith)) (λ i le. (let q = scanned_is bs i in omega arith))
        (λ o s' i go. to_number o s' (suc (suc (suc (suc (scanned bs i)))))
        (passed (tested p (four m n 28672 z 0) comparisons.Less (atoms.Var 1) (atoms.Var 3) false n z true (get_1 p m.memory n 28672 z 0 typed drawn output) (get_3 p m.memory n 28672 z 0 typed drawn output) (less_by n z (omega arith) (omega arith) lt))
        (done (computes p (four m n 28672 z 0) (four m n1 28672 z 0) 1 functions.Add (atoms.Var 1) (atoms.Num 1) n 1 n1 (get_1 p m.memory n 28672 z 0 typed drawn output) refl (added p m.memory n 1 n1 (omega arith)) (set_1 p m.memory n 28672 z 0 n1 typed drawn output))
        (done (computes p (four m n1 28672 z 0) (four m a 28672 z 0) 1 functions.Word (atoms.Table 1) (atoms.Var 1) t n1 a refl (get_1 p m.memory n1 28672 z 0 typed drawn output) (dict.begins n lt m.memory m.kept) (set_1 p m.memory n1 28672 z 0 a typed drawn output))
        (done (copies p (four m a 28672 z 0) (four m a 28672 a 0) 3 (atoms.Var 1) a (get_1 p m.memory a 28672 z 0 typed drawn output) (set_3 p m.memory a 28672 z 0 a typed drawn output))
        (at_label (to_end m a 28672 o s' i bs a 0 (no_zero_all cs small) stand (omega arith) go)))))))
        (characters m lo a rs m 28672 0 (a + length bs) [] cs (omega arith) stand' (small_onto cs [] small tt) (printed_onto cs [] fine tt) (omega arith) listed (λ q n3 far. refl) back)
