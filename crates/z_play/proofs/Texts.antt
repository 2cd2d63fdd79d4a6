-- A text that is written code by code.
use Rattle.std.proofs.Common.{◌≡◌, ℕ, Bool, not, eqb, List, [], ◌∷◌, ◌++◌, flat_map, refl, sym, ap, subst, ◌∙◌, append_assoc}
use Rattle.std.proofs.lemmas.List.{append-nil}
use Rattle.z_model.specs.Zscii.{code_utf8}
use Rattle.z_model.specs.Text.{Text, text_bytes}
use Rattle.z_model.specs.Closing.{is_open}
use Rattle.dg_base.specs.Written.{SinkView, Wrote, BrokeOff}
use Rattle.dg_base.proofs.WrittenLemmas.{wrote_nothing, wrote_on, broke_later, broke_first}

-- A front of a text was written, and the rest is left.
pub record WroteFront (old new : SinkView) (begun now : Bool) (text rest : Text) : Type 0 where
  pub front : List ℕ
  pub wrote : Wrote old new front
  pub begins : now ≡ is_open begun front
  pub is : text_bytes text ≡ front ++ text_bytes rest

pub open_both : (begun : Bool) (xs ys : List ℕ) → is_open begun (xs ++ ys) ≡ is_open (is_open begun xs) ys
open_both begun [] ys = refl
open_both begun (x ∷ xs) ys = open_both (not (eqb x 10)) xs ys

pub front_starts : (s : SinkView) (begun : Bool) (text rest : Text) → rest ≡ text → WroteFront s s begun begun text rest
front_starts s begun text rest e = record { front = []; wrote = wrote_nothing s; begins = refl; is = ap text_bytes (sym e) }

pub front_goes : (old mid new : SinkView) (begun now next : Bool) (text rest behind : Text) (c : ℕ) → WroteFront old mid begun now text rest → rest ≡ record { codes = c ∷ behind.codes; end = behind.end } → Wrote mid new (code_utf8 c) → next ≡ is_open now (code_utf8 c) → WroteFront old new begun next text behind
front_goes old mid new begun now next text rest behind c w is wrote e = record {
  front = w.front ++ code_utf8 c;
  wrote = wrote_on old mid new w.front (code_utf8 c) w.wrote wrote;
  begins = e ∙ ap (λ (b : Bool). is_open b (code_utf8 c)) w.begins ∙ sym (open_both begun w.front (code_utf8 c));
  is = w.is ∙ ap (λ (t : Text). w.front ++ text_bytes t) is ∙ sym (append_assoc w.front (code_utf8 c) (text_bytes behind));
}

pub front_cut : (old mid new : SinkView) (begun now : Bool) (text rest behind : Text) (c : ℕ) → WroteFront old mid begun now text rest → rest ≡ record { codes = c ∷ behind.codes; end = behind.end } → BrokeOff mid new (code_utf8 c) → BrokeOff old new (text_bytes text)
front_cut old mid new begun now text rest behind c w is cut =
    let all : text_bytes text ≡ (w.front ++ code_utf8 c) ++ text_bytes behind = w.is ∙ ap (λ (t : Text). w.front ++ text_bytes t) is ∙ sym (append_assoc w.front (code_utf8 c) (text_bytes behind)) in
    subst (λ (l : List ℕ). BrokeOff old new l) (sym all) (broke_first old new (w.front ++ code_utf8 c) (text_bytes behind) (broke_later old mid new w.front (code_utf8 c) w.wrote cut))

pub record AllWritten (old new : SinkView) (begun now : Bool) (text : Text) : Type 0 where
  pub wrote : Wrote old new (text_bytes text)
  pub begins : now ≡ is_open begun (text_bytes text)

pub front_ends : (old new : SinkView) (begun now : Bool) (text rest : Text) → WroteFront old new begun now text rest → rest.codes ≡ [] → AllWritten old new begun now text
front_ends old new begun now text rest w none =
    let all : w.front ≡ text_bytes text = sym (w.is ∙ ap (λ (cs : List ℕ). w.front ++ flat_map code_utf8 cs) none ∙ append-nil w.front) in
    record { wrote = subst (λ (l : List ℕ). Wrote old new l) all w.wrote; begins = w.begins ∙ ap (λ (l : List ℕ). is_open begun l) all }
