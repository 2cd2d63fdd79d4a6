-- Instructions with which bytes begin, and lists of numbers of which each is taken as a byte.
use Rattle.std.proofs.Common.{◌≡◌, ℕ, zero, suc, ◌%◌, ◌<◌, ◌≤◌, List, [], ◌∷◌, ◌++◌, length, take, drop, All, Some, None, Result, Ok, Err, inl, inr, refl, sym, ap, subst, ◌∙◌, arith, Fits, w8, get_or}
use Rattle.std.proofs.lemmas.List.{map-append, length-map}
use Rattle.std.proofs.lemmas.List.Elements.{All-nil, All-cons, All-head, All-tail, All-take, All-drop, All-append, All-get_or, All-from_get_or}
use Rattle.std.proofs.lemmas.Option.{slice_get_within, get_or_from_slice_get}
use Rattle.z_model.specs.declared.fault.ZFault.{ZFault}
use Rattle.z_model.specs.declared.op.Found.{Found}
use Rattle.z_model.specs.Table.{player_rows}
use Rattle.z_model.specs.Decode.{op_at}
use Rattle.z_model.specs.Spelling.{AreBytes}
use Rattle.z_model.proofs.Again.{instruction_again}
use Rattle.z_model.proofs.SoughtForms.{instruction_found}
use Rattle.z_model.proofs.Stays.{Stays, op_stays}
use Rattle.z_model.proofs.Ends.{ends_within, stands_in_front}
use Rattle.z_list.specs.Texts.{end_of, first_length}
use Rattle.z_list.specs.inside.Lines.{AreInstructions}
use Rattle.z_list.specs.inside.Read.{clamped, first_clamped}

abbrev pub IsByte : ℕ → Type 0
IsByte b = b < 256

abbrev pub Small : List ℕ → Type 0
Small bs = All (λ b. b < 256) bs

pub small_nil : Small []
small_nil = All-nil IsByte

pub small_cons : (b : ℕ) (bs : List ℕ) → b < 256 → Small bs → Small (b ∷ bs)
small_cons b bs h k = All-cons IsByte b bs h k

pub small_head : (b : ℕ) (bs : List ℕ) → Small (b ∷ bs) → b < 256
small_head b bs h = All-head IsByte b bs h

pub small_tail : (b : ℕ) (bs : List ℕ) → Small (b ∷ bs) → Small bs
small_tail b bs h = All-tail IsByte b bs h

pub small_take : (n : ℕ) (bs : List ℕ) → Small bs → Small (take n bs)
small_take n bs h = All-take IsByte n bs h

pub small_drop : (n : ℕ) (bs : List ℕ) → Small bs → Small (drop n bs)
small_drop n bs h = All-drop IsByte n bs h

pub small_append : (xs ys : List ℕ) → Small xs → Small ys → Small (xs ++ ys)
small_append xs ys h k = All-append IsByte xs ys h k

-- the bytes of a slice
pub small_slice : (bs : List ℕ) → ((i : ℕ) → Fits w8 (get_or bs i 0)) → Small bs
small_slice bs fits = All-from_get_or IsByte bs 0 (λ i lt. let fit = fits i in omega arith)

pub are_bytes : (bs : List ℕ) → Small bs → AreBytes bs
are_bytes bs h i b e = subst (λ (v : ℕ). v < 256) (get_or_from_slice_get bs i b 0 e) (All-get_or IsByte bs i 0 (slice_get_within bs i b e) h)

pub found_of : (r : Result Found ZFault) (k : ℕ) → end_of r ≡ Some k → (x : Found) × (r ≡ Ok x) × (x.end ≡ k)
found_of (Ok x) k e = (x, refl, cc)
found_of (Err fault) k e = absurd cc

-- what bytes begin with they begin with whatever stands behind
pub found_more : (bs more : List ℕ) (x : Found) → op_at player_rows bs 0 ≡ Ok x → op_at player_rows (bs ++ more) 0 ≡ Ok x
found_more bs more x e = by_stays (op_at player_rows bs 0) (op_at player_rows (bs ++ more) 0) (op_stays player_rows more bs 0) e
  where
    by_stays : (r r' : Result Found ZFault) → Stays r r' → r ≡ Ok x → r' ≡ Ok x
    by_stays r r' (inl off) h = absurd cc
    by_stays r r' (inr same) h = same ∙ h

-- and they do so without it, where it ends among them
pub found_front : (bs more : List ℕ) (x : Found) → Small (bs ++ more) → op_at player_rows (bs ++ more) 0 ≡ Ok x → x.end ≤ length bs → op_at player_rows bs 0 ≡ Ok x
found_front bs more x small e le =
    let i = instruction_found player_rows (bs ++ more) 0 (are_bytes (bs ++ more) small) x e in
    let j = stands_in_front player_rows bs more 0 x.op x.end le i in
    by_stays (op_at player_rows bs 0) (op_at player_rows (bs ++ more) 0) _ (op_stays player_rows more bs 0) (instruction_again player_rows bs 0 x.op x.end j) e
  where
    by_stays : (r r' : Result Found ZFault) (y : Found) → Stays r r' → r ≡ Ok y → r' ≡ Ok x → r ≡ Ok x
    by_stays r r' y (inl off) there h = absurd cc
    by_stays r r' y (inr same) there h = sym same ∙ h

pub found_within : (bs : List ℕ) (x : Found) → Small bs → op_at player_rows bs 0 ≡ Ok x → x.end ≤ length bs
found_within bs x small e = ends_within player_rows bs 0 x.op x.end (instruction_found player_rows bs 0 (are_bytes bs small) x e)

none_in_none : (x : Found) → op_at player_rows [] 0 ≡ Ok x → ⊥
unfolding op_at
none_in_none x e = cc

pub found_some : (bs : List ℕ) (x : Found) → Small bs → op_at player_rows bs 0 ≡ Ok x → 0 < x.end
found_some bs x small e = by_end x.end refl
  where
    by_end : (n : ℕ) → x.end ≡ n → 0 < x.end
    by_end zero none = absurd (none_in_none x (found_front [] bs x small e (omega (arith, none))))
    by_end (suc n) some = omega (arith, some)

-- ---- numbers taken as bytes

small_clamped : (bs : List ℕ) → Small (clamped bs)
small_clamped [] = small_nil
small_clamped (b ∷ bs) = small_cons (b % 256) (clamped bs) (omega arith) (small_clamped bs)

pub clamped_same : (bs : List ℕ) → Small bs → clamped bs ≡ bs
clamped_same [] h = refl
clamped_same (b ∷ bs) h =
    let lt : b < 256 = small_head b bs h in
    let same : b % 256 ≡ b = omega arith in
    ap (λ (c : ℕ). c ∷ clamped bs) same ∙ ap (λ (l : List ℕ). b ∷ l) (clamped_same bs (small_tail b bs h))

pub first_same : (bs : List ℕ) → Small bs → first_clamped bs ≡ first_length bs
first_same bs h = ap first_length (clamped_same bs h)

join : (bs more : List ℕ) → clamped (bs ++ more) ≡ clamped bs ++ clamped more
join bs more = map-append (λ b. b % 256) bs more

size : (bs : List ℕ) → length (clamped bs) ≡ length bs
size bs = length-map bs (λ b. b % 256)

small_joined : (bs more : List ℕ) → Small (clamped bs ++ clamped more)
small_joined bs more = subst Small (join bs more) (small_clamped (bs ++ more))

none_found : (r r' : Result Found ZFault) → ((x : Found) → r ≡ Ok x → r' ≡ Ok x) → end_of r' ≡ None → end_of r ≡ None
none_found (Err fault) r' h e = refl
none_found (Ok x) r' h e = absurd (differ r' (h x refl) e)
  where
    differ : (q : Result Found ZFault) → q ≡ Ok x → end_of q ≡ None → ⊥
    differ (Ok y) a b = cc
    differ (Err fault) a b = cc

no_first : end_of (op_at player_rows [] 0) ≡ None
unfolding op_at
no_first = refl

pub asked : AreInstructions first_clamped
asked = record {
  some = λ bs k e.
      let f = found_of (op_at player_rows (clamped bs) 0) k e in
      let some : 0 < f.0.end = found_some (clamped bs) f.0 (small_clamped bs) f.1 in
      let within : f.0.end ≤ length (clamped bs) = found_within (clamped bs) f.0 (small_clamped bs) f.1 in
      let is : f.0.end ≡ k = f.2 in
      let long = size bs in
      (omega arith, omega arith);
  alone = λ bs more e.
      let f = found_of (op_at player_rows (clamped bs) 0) (length bs) e in
      ap first_length (join bs more) ∙ (ap end_of (found_more (clamped bs) (clamped more) f.0 f.1) ∙ ap (λ (n : ℕ). Some n) f.2);
  whole = λ bs more k e long.
      let f = found_of (op_at player_rows (clamped bs ++ clamped more) 0) k (ap first_length (sym (join bs more)) ∙ e) in
      let is : f.0.end ≡ k = f.2 in
      let same = size bs in
      ap end_of (found_front (clamped bs) (clamped more) f.0 (small_joined bs more) f.1 (omega arith)) ∙ ap (λ (n : ℕ). Some n) f.2;
  none = λ bs more e. none_found _ _ (λ x h. found_more (clamped bs) (clamped more) x h) (ap first_length (sym (join bs more)) ∙ e);
  empty = no_first;
}
